-- One record more of a walk, and how far it leads.
use Rattle.std.proofs.Common.{◌≡◌, ℕ, suc, ◌-◌, ◌<◌, ◌≤◌, true, false, List, [], ◌∷◌, length, Some, Ok, Option, refl, sym, ap, ◌∙◌, subst, arith}
use Rattle.records.specs.declared.record.Record.{Record}
use Rattle.records.specs.declared.record.Record.TheVariants.{Header, Start, Effect, Need, Pair, Link, Name, End}
use Rattle.records.specs.Item.{Item, bytes, is_end}
use Rattle.reader.specs.Reading.{next, Progress, walk, going, ended, whole_walk, sheet_after, reading, name_after, naming}
use Rattle.reader.specs.Said.{said_by, sheet_of}
use Rattle.records.specs.View.{item_of}
use Rattle.reader.specs.declared.walk.Walk.{Walk}
use Rattle.reader.specs.Walk.{After, Onward}
use Rattle.reader.proofs.Room.{place_fits}
use Rattle.sheet.specs.Limits.{Limits}
use Rattle.reader.proofs.Limited.{limits_said}
use Rattle.records.proofs.Bodies.{two_letters}
use Rattle.reader.proofs.Walking.{next_admits, end_is, Ended, Walked, walked, walk_going, walk_more}

-- the end record, and any other
pub is_end_lem : (r : Record) → r ≡ End → is_end (item_of r) ≡ true
is_end_lem r e = ap (λ (x : Record). is_end (item_of x)) e

pub is_end-more : (r : Record) → (r ≡ End → ⊥) → is_end (item_of r) ≡ false
is_end-more (Header steps signals) ne = refl
is_end-more (Start word) ne = refl
is_end-more (Effect e) ne = refl
is_end-more (Need step signal condition) ne = refl
is_end-more (Pair earlier later) ne = refl
is_end-more (Link need contributors) ne = refl
is_end-more (Name step name) ne = refl
is_end-more End ne = absurd (ne refl)

module _ (file : List ℕ) (n : ℕ) (past : List Item) (p : ℕ) (x : Item) (q : ℕ)
    (reached : walk file n ≡ going past p) (read : next file (said_by past) p ≡ Ok (x, q)) where
  -- the place after the end record
  pub end_near : is_end x ≡ true → q ≤ 25094
  end_near e =
      let at = walk_going file n past p reached in
      let room = place_fits past at.0 in
      let after = (next_admits file (said_by past) p x q read).1 in
      let two = ap (λ (y : Item). length (bytes y)) (end_is x e) in
      omega (arith, at.1)

  -- the place after any other
  pub more_near : is_end x ≡ false → q ≤ 25092
  more_near e =
      let at = walk_going file (suc n) (x ∷ past) q (walk_more file n past p x q reached read e) in
      let room = place_fits (x ∷ past) at.0 in
      omega (arith, at.1)

  pub end_inside : q ≤ length file
  end_inside = (next_admits file (said_by past) p x q read).2

-- what a file is read as, by the walk through it
pub reading_by : (file : List ℕ) (g : Progress) → whole_walk file ≡ g → reading file ≡ sheet_after g
unfolding reading
reading_by file g e = ap sheet_after e

pub naming_by : (file : List ℕ) (w : ℕ) (g : Progress) → whole_walk file ≡ g → naming file w ≡ name_after g w
unfolding naming
naming_by file w g e = ap (λ (h : Progress). name_after h w) e

-- the walk begins ahead of the first record
pub walk_begins : (file : List ℕ) → walk file 0 ≡ going [] 0
unfolding walk
walk_begins file = refl

-- each record leads further into the file
pub further : (file : List ℕ) (n : ℕ) (past : List Item) (p : ℕ) (x : Item) (q : ℕ)
    → walk file n ≡ going past p → walk file (suc n) ≡ going (x ∷ past) q → (p < q) × (q ≤ length file)
further file n past p x q here there =
    let at = walk_going file n past p here in
    let to = walk_going file (suc n) (x ∷ past) q there in
    let two = two_letters x in
    (omega (arith, at.1, to.1), to.3)

-- what is said at the end of a file keeps the limits of a sheet
pub limits_at_end : (file : List ℕ) (past : List Item) → whole_walk file ≡ ended past → Limits (sheet_of (said_by past))
limits_at_end file past e =
    let end : Ended file past = subst (Walked file (suc (length file))) e (walked file (suc (length file))) in
    limits_said past end.admitted end.ends.placed

-- the answer of a step, at what it is
pub onward_at : (w v : Walk) (past : List Item) (n : ℕ) (o was : Option Record) → was ≡ o → Onward w past n (Ok was) v → Onward w past n (Ok o) v
onward_at w v past n o was e = subst (λ (y : Option Record). Onward w past n (Ok y) v) e

-- a step leaves less of the file
pub shorter : (file : List ℕ) (w v : Walk) (past : List Item) (n : ℕ) (was : Option Record) (r : Record) → w.file.now ≡ file → After w past n → was ≡ Some r
    → Onward w past n (Ok was) v → length file - v.at < length file - w.at
shorter file w v past n was r same here is onward =
    let step = onward_at w v past n (Some r) was is onward in
    let on = further w.file.now n past w.at (item_of r) v.at here.reached (ap (λ (f : List ℕ). walk f (suc n)) (sym step.0) ∙ step.1.reached) in
    omega (arith, on, ap length same)
