-- What every part of a sheet of n steps and v signals keeps.
--   EffectFits n v e  the effect is of a step between start and finish, on a signal that there is
--   SameTarget e f    two effects of one step on one signal
--   NeedFits n v s x  a need of the step s on the signal x: no need of the start, on a signal that there is
--   LinkFits n o      the contributors of the link o, where there is one, are steps that there are
--   PairFits n p      both steps of the pair are there
use Rattle.std.specs.Prelude.{◌≡◌, ℕ, suc, ◌<◌, All, Option, IfSome}
use Rattle.sets.specs.Sets.{members}
use Rattle.sheet.specs.declared.parts.Effect.{Effect}
use Rattle.sheet.specs.declared.parts.Link.{Link}
use Rattle.sheet.specs.declared.parts.Pair.{Pair}

abbrev pub EffectFits : ℕ → ℕ → Effect → Type 0
EffectFits n v e = (0 < e.step) × (suc e.step < n) × (e.signal < v)

abbrev pub SameTarget : Effect → Effect → Type 0
SameTarget e f = (e.step ≡ f.step) × (e.signal ≡ f.signal)

abbrev pub NeedFits : ℕ → ℕ → ℕ → ℕ → Type 0
NeedFits n v s x = (0 < s) × (s < n) × (x < v)

abbrev pub LinkFits : ℕ → Option Link → Type 0
LinkFits n o = IfSome o (λ l. All (λ k. k < n) (members l.contributors))

abbrev pub PairFits : ℕ → Pair → Type 0
PairFits n p = (p.earlier < n) × (p.later < n)
