use Rattle.std.proofs.Common.{rules, ◌≡◌, ℕ, ◌+◌, ◌<◌, ◌↔◌, Bool, true, false, IsTrue, List, length, take, slice_index_or, All, AllPairs, MatchBool, refl, sym, ap, subst, ◌∙◌, arith, get_or-take, length-take-le}
use borrow.Author.Tests.{tests}
use Rattle.std.specs.List.{enumerate_from, AllWithin, HoldsAt}
use Rattle.std.proofs.lemmas.Bool.{false≢true}
use Rattle.std.proofs.lemmas.Iterator.{cases_from_all, YieldsList-from_slice}
use Rattle.std.proofs.lemmas.Iterator.Consumers.{YieldsList-at, YieldsList-from_enumerate}
use Rattle.std.proofs.lemmas.List.{get_or_default}
use Rattle.std.proofs.lemmas.List.FromFn.{get_or-enumerate_from, length-enumerate_from}
use Rattle.sheet.specs.declared.parts.Effect.{Effect}
use Rattle.sheet.specs.Fit.{SameTarget}
use Rattle.sheet.proofs.fit.are_single.Goals as goal

none : Effect
none = record { step = 0; signal = 0; word = 0 }

Apart : Effect → Effect → Type 0
Apart e f = SameTarget e f → ⊥

module _ (es : List Effect) where
  -- the effect at the place is apart from all ahead of it
  abbrev Ahead : ℕ × Effect → Type 0
  Ahead p = All (λ e. Apart e p.1) (take p.0 es)

  abbrev Told : Bool → Type 0
  Told r = MatchBool r (AllWithin Ahead (enumerate_from 0 es) 0 (length (enumerate_from 0 es)))
      ((k : ℕ) × (k < length (enumerate_from 0 es)) × HoldsAt (λ p. Ahead p → ⊥) (enumerate_from 0 es) k)

  placed : (k : ℕ) (d : Effect) → k < length es → slice_index_or (enumerate_from 0 es) k (0, d) ≡ (k, slice_index_or es k d)
  placed k d inside =
      let same : 0 + k ≡ k = omega arith in
      get_or-enumerate_from 0 es k (0, d) inside ∙ ap {B = ℕ × Effect} (λ n. (n, slice_index_or es k d)) same

  ahead : (k : ℕ) (d : Effect) → k < length es → AllPairs Apart es → Ahead (k, slice_index_or es k d)
  unfolding Apart
  ahead k d inside apart j e h same =
      let before : j < k = omega (arith, length-take-le k es) in
      apart j k d before inside (subst (λ (f : Effect). SameTarget f (slice_index_or es k d)) (get_or-take k es j e before ∙ get_or_default es j e d (omega arith)) same)

  told : (r : Bool) → Told r → IsTrue r ↔ AllPairs Apart es
  unfolding Apart
  told true all = (
    λ _ i j d before inside.
        let here : Ahead (j, slice_index_or es j d) =
        subst Ahead (placed j d inside) (all j (0, d) (omega arith) (rw (length-enumerate_from 0 es) inside)) in
        subst (λ e. Apart e (slice_index_or es j d)) (get_or-take j es i d before) (here i d (rw (length-take-le j es (omega arith)) before)),
    λ _. refl,
  )
  told false one = (
    λ no. absurd (false≢true no),
    λ apart.
        let inside : one.0 < length es = omega (arith, one.1, length-enumerate_from 0 es) in
        absurd (one.2 (0, none) (subst Ahead (sym (placed one.0 none inside)) (ahead one.0 none inside apart))),
  )

pub returns : goal.returns
unfolding Apart
returns c =
    let es = c.args.effects.now in
    let road = YieldsList-from_enumerate (YieldsList-at c.enumerate.ensures.source (YieldsList-from_slice es c.iter.ensures.rest)) c.enumerate.ensures.count in
    told es _ (cases_from_all _ _ _ (Ahead es) (λ p. Ahead es p → ⊥) c.all.ensures.ran road (λ x q k. search (rules, tests)) (λ x q k. search (rules, tests)))
