-- What the walk through a file keeps, record by record.
use Rattle.std.proofs.Common.{◌≡◌, ℕ, zero, suc, ◌+◌, ◌≤◌, Bool, true, false, cond, eqb, List, [], ◌∷◌, length, Some, None, Ok, Err, Option, Result, sym, refl, ap, ◌∙◌, subst, inl, inr, arith}
use Rattle.std.proofs.lemmas.Bool.{cases_eq, eq-eqb, ne_eqb, eqb-true, false≢true}
use Rattle.faults.specs.declared.fault.Cause.{Cause}
use Rattle.faults.specs.declared.fault.Cause.TheVariants as cause
use Rattle.faults.specs.declared.fault.ReaderFault.{ReaderFault}
use Rattle.records.specs.declared.record.Mark.{Mark}
use Rattle.records.specs.Item.{Item, header, start, effect, need, pair, link, name, end, bytes, size, is_end}
use Rattle.reader.specs.Lawful.{stands, objection, Admissible}
use Rattle.reader.specs.Reading.{refused_by, admitted, placed, next, Progress, going, ended, faulty, onward, advance, walk, whole_walk}
use Rattle.reader.specs.Said.{Said, said_by}
use Rattle.records.specs.Shape.{fault, mark_at, body_at}
use Rattle.records.proofs.Bodies.{Answers, FaultAt, also_answers, then_answers, Read, body_answers, Marked, mark_answers, two_letters}

-- the record x may come next, and takes the bytes from p to q
abbrev pub Taken : List ℕ → Said → ℕ → Item × ℕ → Type 0
Taken file s p y = Admissible s y.0 × (y.1 ≡ p + length (bytes y.0)) × (y.1 ≤ length file)

-- what the reading of the next record answers, by what the reading of its body answers
pub next_through : (file : List ℕ) (s : Said) (p : ℕ) (P : Item × ℕ → Type 0)
    → ((m : Mark) → Marked file p m → stands s m ≡ true → Answers (λ (y : Item × ℕ). objection s y.0 ≡ None → P y) (FaultAt p) (body_at file p m))
    → Answers P (FaultAt p) (next file s p)
unfolding next
next_through file s p P h =
    then_answers P p (Marked file p) (mark_at file p) (placed file s p) (mark_answers file p) (λ m marked. at_mark m marked (stands s m) refl)
  where
    refused : (y : Item × ℕ) (o : Option Cause) → objection s y.0 ≡ o → (objection s y.0 ≡ None → P y) → Answers P (FaultAt p) (refused_by p y o)
    refused y None e g = g e
    refused y (Some c) e g = refl

    at_mark : (m : Mark) → Marked file p m → (b : Bool) → stands s m ≡ b
        → Answers P (FaultAt p) (cond b (admitted s p (body_at file p m)) (Err (fault cause.Mark p)))
    at_mark m marked false e = refl
    at_mark m marked true e =
        then_answers P p (λ (y : Item × ℕ). objection s y.0 ≡ None → P y) (body_at file p m) _ (h m marked e)
        (λ y g. refused y (objection s y.0) refl g)

-- what the reading of the next record answers
pub next_answers : (file : List ℕ) (s : Said) (p : ℕ) → Answers (Taken file s p) (FaultAt p) (next file s p)
next_answers file s p =
    next_through file s p (Taken file s p)
    (λ m h e. also_answers (Read file p h.0 m) (λ (y : Item × ℕ). objection s y.0 ≡ None → Taken file s p y) (FaultAt p) (body_at file p m)
    (λ y b a. (record { formed = b.formed; placed = ap (stands s) b.marked ∙ e; allowed = a }, b.after, b.inside)) (body_answers file p h.0 m))

-- the record that is read may come next, and takes the bytes from p to q
pub next_admits : (file : List ℕ) (s : Said) (p : ℕ) (x : Item) (q : ℕ) → next file s p ≡ Ok (x, q)
    → Admissible s x × (q ≡ p + length (bytes x)) × (q ≤ length file)
next_admits file s p x q e = subst (Answers (Taken file s p) (FaultAt p)) e (next_answers file s p)

-- a fault of a record is at the record's place
pub next_fault : (file : List ℕ) (s : Said) (p : ℕ) (f : ReaderFault) → next file s p ≡ Err f → f.place ≡ p
next_fault file s p f e = subst (Answers (Taken file s p) (FaultAt p)) e (next_answers file s p)

-- only the end record ends the file
pub end_is : (x : Item) → is_end x ≡ true → x ≡ end
end_is (header n v) e = absurd (false≢true e)
end_is (start w) e = absurd (false≢true e)
end_is (effect y) e = absurd (false≢true e)
end_is (need s x a b) e = absurd (false≢true e)
end_is (pair y l) e = absurd (false≢true e)
end_is (link n cs) e = absurd (false≢true e)
end_is (name s bs) e = absurd (false≢true e)
end_is end e = refl

-- the records of a list, newest first, were each admitted in their turn, and none ends the file
abbrev pub Admitted : List Item → Type 0
Admitted [] = Unit {0}
Admitted (x ∷ past) = Admissible (said_by past) x × (is_end x ≡ false) × Admitted past

-- the walk goes on at the place after its records
pub record Going (file : List ℕ) (n : ℕ) (past : List Item) (p : ℕ) : Type 0 where
  pub admitted : Admitted past
  pub sized : p ≡ size past
  pub least : n ≤ p
  pub inside : p ≤ length file

-- the walk has come to an end record, which is the file's last
pub record Ended (file : List ℕ) (past : List Item) : Type 0 where
  pub admitted : Admitted past
  pub ends : Admissible (said_by past) end
  pub sized : length file ≡ size past + 2

-- the fault is at a record after admitted ones, or right after the end record
pub record Faulty (f : ReaderFault) : Type 0 where
  pub past : List Item
  pub admitted : Admitted past
  pub near : f.place ≤ size past + 2

-- what the walk keeps
abbrev pub Walked : List ℕ → ℕ → Progress → Type 0
Walked file n (going past p) = Going file n past p
Walked file n (ended past) = Ended file past
Walked file n (faulty f) = Faulty f

module _ (file : List ℕ) (n : ℕ) where
  -- it keeps it over the next record
  onward_walked : (past : List Item) (p : ℕ) → Going file n past p → (r : Result (Item × ℕ) ReaderFault)
      → Answers (Taken file (said_by past) p) (FaultAt p) r → Walked file (suc n) (onward file past r)
  onward_walked past p g (Err f) a = record { past = past; admitted = g.admitted; near = omega arith }
  onward_walked past p g (Ok y) a = at_end (is_end y.0) refl
    where
      after_end : y.0 ≡ end → (b : Bool) → eqb y.1 (length file) ≡ b
          → Walked file (suc n) (cond b (ended past) (faulty (fault cause.AfterEnd y.1)))
      after_end is true e =
          record {
            admitted = g.admitted;
            ends = subst (Admissible (said_by past)) is a.0;
            sized = omega (arith, a.1, ap (λ (x : Item). length (bytes x)) is, eqb-true _ _ e, g.sized);
          }
      after_end is false e =
          record { past = past; admitted = g.admitted; near = omega (arith, a.1, ap (λ (x : Item). length (bytes x)) is, g.sized) }

      at_end : (b : Bool) → is_end y.0 ≡ b
          → Walked file (suc n)
          (cond b (cond (eqb y.1 (length file)) (ended past) (faulty (fault cause.AfterEnd y.1))) (going (y.0 ∷ past) y.1))
      at_end true e = after_end (end_is y.0 e) _ refl
      at_end false e =
          record {
            admitted = (a.0, e, g.admitted);
            sized = omega (arith, a.1, g.sized);
            least = omega (arith, a.1, g.least, two_letters y.0);
            inside = a.2;
          }

  -- it keeps it over one step
  advance_walked : (w : Progress) → Walked file n w → Walked file (suc n) (advance file w)
  advance_walked (going past p) g = onward_walked past p g (next file (said_by past) p) (next_answers file (said_by past) p)
  advance_walked (ended past) g = g
  advance_walked (faulty f) g = g

-- what the walk keeps after n records
pub walked : (file : List ℕ) (n : ℕ) → Walked file n (walk file n)
unfolding walk
walked file zero = record { admitted = tt; sized = refl; least = omega arith; inside = omega arith }
walked file (suc n) = advance_walked file n (walk file n) (walked file n)

-- the records of a walk that goes on were admitted, and its place is after them, inside the file
pub walk_going : (file : List ℕ) (n : ℕ) (past : List Item) (p : ℕ) → walk file n ≡ going past p
    → Admitted past × (p ≡ size past) × (n ≤ p) × (p ≤ length file)
walk_going file n past p e =
    let g : Going file n past p = subst (Walked file n) e (walked file n) in
    (g.admitted, g.sized, g.least, g.inside)

-- a walk that has ended or met a fault stays so
stays : (file : List ℕ) (w : Progress) → advance file w ≡ w → (n m : ℕ) → walk file n ≡ w → n ≤ m → walk file m ≡ w
unfolding walk
stays file w still n zero e h = ap (walk file) (let z : zero ≡ n = omega arith in z) ∙ e
stays file w still n (suc m) e h =
    elim (cases_eq n (suc m)) [
      | inl same ↦ ap (walk file) (sym same) ∙ e
      | inr other ↦ ap (advance file) (stays file w still n m e (omega arith)) ∙ still
    ]

module _ (file : List ℕ) (n : ℕ) (past : List Item) (p : ℕ) where
  -- one record more is one step of the walk
  one_more : walk file n ≡ going past p → (r : Result (Item × ℕ) ReaderFault) → next file (said_by past) p ≡ r
      → walk file (suc n) ≡ onward file past r
  unfolding walk
  one_more here r e = ap (advance file) here ∙ ap (onward file past) e

  -- where the walk ends after one record more, it ends in the whole file
  whole_is : walk file n ≡ going past p → (w : Progress) → advance file w ≡ w → walk file (suc n) ≡ w → whole_walk file ≡ w
  whole_is here w still e =
      let r = walk_going file n past p here in
      stays file w still (suc n) (suc (length file)) e (omega arith)

  -- a fault of the next record is the file's fault
  pub whole_fault : (f : ReaderFault) → walk file n ≡ going past p → next file (said_by past) p ≡ Err f → whole_walk file ≡ faulty f
  whole_fault f here e = whole_is here (faulty f) refl (one_more here (Err f) e)

  module _ (x : Item) (q : ℕ) where
    -- the walk goes on after a record that is not the end
    pub walk_more : walk file n ≡ going past p → next file (said_by past) p ≡ Ok (x, q) → is_end x ≡ false → walk file (suc n) ≡ going (x ∷ past) q
    walk_more here read e = one_more here (Ok (x, q)) read ∙ rw e refl

    -- an end record at the end of the file ends the walk
    pub whole_end : walk file n ≡ going past p → next file (said_by past) p ≡ Ok (x, q) → is_end x ≡ true → q ≡ length file
        → whole_walk file ≡ ended past
    whole_end here read e same =
        whole_is here (ended past) refl (one_more here (Ok (x, q)) read ∙ rw (e, eq-eqb q (length file) same) refl)

    -- bytes after an end record are a fault
    pub whole_after_end : walk file n ≡ going past p → next file (said_by past) p ≡ Ok (x, q) → is_end x ≡ true → (q ≡ length file → ⊥)
        → whole_walk file ≡ faulty (fault cause.AfterEnd q)
    whole_after_end here read e other =
        whole_is here (faulty (fault cause.AfterEnd q)) refl (one_more here (Ok (x, q)) read ∙ rw (e, ne_eqb q (length file) other) refl)
