-- A record passes its tests exactly if it keeps the rules.
use Rattle.std.proofs.Common.{◌≡◌, ℕ, suc, ◌<◌, ◌≤◌, Bool, true, false, not, ◌&&◌, nat_lt, ◌==◌, ltb, leb, List, [], ◌∷◌, length, None, Option, All, refl, ◌∙◌, inl, inr, arith}
use Rattle.std.specs.List.{list_all}
use Rattle.std.proofs.lemmas.List.Elements.{All-cons, All-head, All-nil, All-tail}
use Rattle.std.proofs.lemmas.Bool.{eq-eqb, eqb-true, leb-true, le-leb, ltb-true, lt-ltb, and_parts, and_from, or_parts, or_from, not-true, not_from_false, cases_Bool, both_ways, cond-true}
use Rattle.faults.specs.declared.fault.Cause.{Cause}
use Rattle.sheet.specs.declared.parts.Effect.{Effect}
use Rattle.sheet.specs.Fit.{SameTarget}
use Rattle.sets.specs.Sets.{mem}
use Rattle.records.specs.Item.{Item, header, start, effect, need, pair, link, name, end, kind}
use Rattle.records.specs.Standing.{well_formed}
use Rattle.reader.specs.Lawful.{unless, sets, stands, objection, Admissible}
use Rattle.reader.specs.Rules.{Keeps}
use Rattle.reader.specs.Said.{Said}
use Rattle.records.specs.Shape.{between}

-- where there is no objection, the first test passes and the rest objects to nothing
passes : (ok : Bool) (c : Cause) (rest : Option Cause) → unless ok c rest ≡ None → (ok ≡ true) × (rest ≡ None)
passes true c rest e = (refl, e)
passes false c rest e = absurd (let z : ◌≡◌ {A = ℕ} 0 1 = cc in omega arith)

-- a test that passes leaves the rest
passed : (ok : Bool) (c : Cause) (rest : Option Cause) → ok ≡ true → rest ≡ None → unless ok c rest ≡ None
passed ok c rest e r = cond-true ok rest _ e ∙ r

-- two numbers below their bounds, by two tests that both pass
both_below : (a b c d : ℕ) → (ltb a b && ltb c d) ≡ true → (a < b) × (c < d)
both_below a b c d e =
    let r = and_parts (ltb a b) (ltb c d) e in
    (ltb-true a b r.0, ltb-true c d r.1)

-- two tests that both pass, by two numbers below their bounds
below_both : (a b c d : ℕ) → a < b → c < d → (ltb a b && ltb c d) ≡ true
below_both a b c d h k = and_from _ _ (lt-ltb a b h) (lt-ltb c d k)

-- a number between two bounds, by its test
in_between : (low x high : ℕ) → between low x high ≡ true → (low ≤ x) × (x ≤ high)
in_between low x high e =
    let r = and_parts (leb low x) (leb x high) e in
    (leb-true low x r.0, leb-true x high r.1)

-- the test of a number between two bounds
between_in : (low x high : ℕ) → low ≤ x → x ≤ high → between low x high ≡ true
between_in low x high h k = and_from _ _ (le-leb low x h) (le-leb x high k)

-- no effect of the list is of the same step on the same signal
abbrev pub Fresh : List Effect → Effect → Type 0
Fresh es e = All (λ f. SameTarget f e → ⊥) es

-- a step and a signal with no effect have none at any place
fresh_from : (es : List Effect) (e : Effect) → sets es e.step e.signal ≡ false → Fresh es e
fresh_from [] e none = All-nil _
fresh_from (f ∷ es) e none =
    let r = or_parts (f.step == e.step && f.signal == e.signal) (sets es e.step e.signal) none in
    All-cons (λ g. SameTarget g e → ⊥) f es (λ same. both_ways _ r.0 (and_from _ _ (eq-eqb _ _ same.0) (eq-eqb _ _ same.1))) (fresh_from es e r.1)

-- a step and a signal with an effect at no place have none
none_from : (es : List Effect) (e : Effect) → Fresh es e → sets es e.step e.signal ≡ false
none_from [] e fresh = refl
none_from (f ∷ es) e fresh = or_from _ _ first (none_from es e (All-tail (λ g. SameTarget g e → ⊥) f es fresh))
  where
    first : (f.step == e.step && f.signal == e.signal) ≡ false
    first =
        elim (cases_Bool (f.step == e.step && f.signal == e.signal)) [
          | inl hit ↦
              let r = and_parts (f.step == e.step) (f.signal == e.signal) hit in
              absurd (All-head (λ g. SameTarget g e → ⊥) f es fresh (eqb-true _ _ r.0, eqb-true _ _ r.1))
          | inr miss ↦ miss
        ]

-- numbers that pass the test are below n
each_below : (n : ℕ) (cs : List ℕ) → list_all (λ k. nat_lt k n) cs ≡ true → All (λ k. k < n) cs
each_below n [] e = All-nil _
each_below n (c ∷ cs) e =
    let r = and_parts (nat_lt c n) (list_all (λ k. nat_lt k n) cs) e in
    All-cons (λ k. k < n) c cs (ltb-true c n r.0) (each_below n cs r.1)

-- numbers below n pass the test
below_each : (n : ℕ) (cs : List ℕ) → All (λ k. k < n) cs → list_all (λ k. nat_lt k n) cs ≡ true
below_each n [] all = refl
below_each n (c ∷ cs) all = and_from _ _ (lt-ltb c n (All-head (λ k. k < n) c cs all)) (below_each n cs (All-tail (λ k. k < n) c cs all))

-- a record that passes its tests keeps the rules
tests_keep : (s : Said) (x : Item) → well_formed x ≡ true → objection s x ≡ None → Keeps s x
tests_keep s (header n v) f o =
    let r = and_parts (between 2 n 64) (between 1 v 64) f in
    let steps = in_between 2 n 64 r.0 in
    let signals = in_between 1 v 64 r.1 in
    (steps.0, steps.1, signals.0, signals.1)
tests_keep s (start w) f o = tt
tests_keep s (effect e) f o =
    let there = passes (ltb e.step s.steps && ltb e.signal s.signals) _ _ o in
    let step = passes (ltb 0 e.step && ltb (suc e.step) s.steps) _ _ there.1 in
    let fresh = passes (not (sets s.effects e.step e.signal)) _ _ step.1 in
    let few = passes (ltb (length s.effects) 256) _ _ fresh.1 in
    let inner = both_below 0 e.step (suc e.step) s.steps step.0 in (
      (inner.0, inner.1, (both_below e.step s.steps e.signal s.signals there.0).1),
      fresh_from s.effects e (not-true _ fresh.0),
      ltb-true _ _ few.0,
    )
tests_keep s (need w x a b) f o =
    let there = passes (ltb w s.steps && ltb x s.signals) _ _ o in
    let step = passes (ltb 0 w) _ _ there.1 in
    let few = passes (ltb (length s.needs) 256) _ _ step.1 in
    let inside = both_below w s.steps x s.signals there.0 in
    ((ltb-true _ _ step.0, inside.0, inside.1), ltb-true _ _ few.0)
tests_keep s (pair e l) f o =
    let there = passes (ltb e s.steps && ltb l s.steps) _ _ o in
    let few = passes (ltb (length s.pairs) 512) _ _ there.1 in
    let inside = both_below e s.steps l s.steps there.0 in
    (inside.0, inside.1, ltb-true _ _ few.0)
tests_keep s (link n cs) f o =
    let there = passes (ltb n (length s.needs) && list_all (λ k. nat_lt k s.steps) cs) _ _ o in
    let fresh = passes (not (mem n s.linked)) _ _ there.1 in
    let inside = and_parts (ltb n (length s.needs)) (list_all (λ k. nat_lt k s.steps) cs) there.0 in
    let long = in_between 1 (length cs) 64 f in
    (long.0, long.1, ltb-true _ _ inside.0, each_below s.steps cs inside.1, not-true _ fresh.0)
tests_keep s (name w bs) f o =
    let there = passes (ltb w s.steps) _ _ o in
    let fresh = passes (not (mem w s.named)) _ _ there.1 in
    let long = in_between 1 (length bs) 24 f in
    (long.0, long.1, ltb-true _ _ there.0, not-true _ fresh.0)
tests_keep s end f o = tt

-- a record that may come next keeps the rules
pub keeps : (s : Said) (x : Item) → Admissible s x → Keeps s x
keeps s x a = tests_keep s x a.formed a.allowed

-- a record that keeps the rules is within the limits of its own fields
keeps_form : (s : Said) (x : Item) → Keeps s x → well_formed x ≡ true
keeps_form s (header n v) k = and_from _ _ (between_in 2 n 64 k.0 k.1) (between_in 1 v 64 k.2 k.3)
keeps_form s (start w) k = refl
keeps_form s (effect e) k = refl
keeps_form s (need w x a b) k = refl
keeps_form s (pair e l) k = refl
keeps_form s (link n cs) k = between_in 1 (length cs) 64 k.0 k.1
keeps_form s (name w bs) k = between_in 1 (length bs) 24 k.0 k.1
keeps_form s end k = refl

-- there is no objection to a record that keeps the rules
keeps_allowed : (s : Said) (x : Item) → Keeps s x → objection s x ≡ None
keeps_allowed s (header n v) k = refl
keeps_allowed s (start w) k = refl
keeps_allowed s (effect e) k =
    passed _ _ _ (below_both e.step s.steps e.signal s.signals (omega arith) k.0.2)
    (passed _ _ _ (below_both 0 e.step (suc e.step) s.steps k.0.0 k.0.1)
    (passed _ _ _ (not_from_false _ (none_from s.effects e k.1)) (passed _ _ _ (lt-ltb _ _ k.2) refl)))
keeps_allowed s (need w x a b) k =
    passed _ _ _ (below_both w s.steps x s.signals k.0.1 k.0.2)
    (passed _ _ _ (lt-ltb 0 w k.0.0) (passed _ _ _ (lt-ltb _ _ k.1) refl))
keeps_allowed s (pair e l) k = passed _ _ _ (below_both e s.steps l s.steps k.0 k.1) (passed _ _ _ (lt-ltb _ _ k.2) refl)
keeps_allowed s (link n cs) k =
    passed _ _ _ (and_from _ _ (lt-ltb n (length s.needs) k.2) (below_each s.steps cs k.3))
    (passed _ _ _ (not_from_false (mem n s.linked) k.4) refl)
keeps_allowed s (name w bs) k = passed _ _ _ (lt-ltb w s.steps k.2) (passed _ _ _ (not_from_false (mem w s.named) k.3) refl)
keeps_allowed s end k = refl

-- a record that stands in its place and keeps the rules may come next
pub admits : (s : Said) (x : Item) → stands s (kind x) ≡ true → Keeps s x → Admissible s x
admits s x e k = record { formed = keeps_form s x k; placed = e; allowed = keeps_allowed s x k }
