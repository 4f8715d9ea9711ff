-- What is read of a record keeps its limits and lies inside the file.
use Rattle.std.proofs.Common.{◌≡◌, ℕ, ◌+◌, ◌≤◌, Bool, true, false, cond, leb, List, length, drop, Some, None, Ok, Err, Option, Result, refl, ap, ◌∙◌, subst, arith}
use Rattle.std.proofs.lemmas.List.{length-take-le, length-drop}
use Rattle.std.proofs.lemmas.Bool.{leb-true}
use Rattle.faults.specs.declared.fault.Cause.TheVariants as cause
use Rattle.faults.specs.declared.fault.ReaderFault.{ReaderFault}
use Rattle.records.specs.declared.record.Mark.{Mark}
use Rattle.records.specs.declared.record.Mark.TheVariants as mark
use Rattle.records.specs.Item.{Item, header, start, effect, need, pair, link, name, end, kind, bytes}
use Rattle.records.specs.Standing.{well_formed}
use Rattle.records.specs.Shape.{fault, on_ok, whole, within, between, byte_at, part, mark_of, known, mark_at, part_at, body_at}

-- what is Ok keeps P, and what is a fault keeps Q
abbrev pub Answers : {A : Type 0} → (A → Type 0) → (ReaderFault → Type 0) → Result A ReaderFault → Type 0
Answers P Q (Ok x) = P x
Answers P Q (Err f) = Q f

-- the fault is at the place p
abbrev pub FaultAt : ℕ → ReaderFault → Type 0
FaultAt p f = f.place ≡ p

-- what follows from P
pub also_answers : {A : Type 0} (P R : A → Type 0) (Q : ReaderFault → Type 0) (r : Result A ReaderFault) → ((x : A) → P x → R x) → Answers P Q r
    → Answers R Q r
also_answers P R Q (Ok x) h a = h x a
also_answers P R Q (Err f) h a = a

-- two facts of what is Ok
pub both_answers : {A : Type 0} (P R : A → Type 0) (Q : ReaderFault → Type 0) (r : Result A ReaderFault) → Answers P Q r → Answers R Q r
    → Answers (λ (x : A). P x × R x) Q r
both_answers P R Q (Ok x) a b = (a, b)
both_answers P R Q (Err f) a b = a

module _ {A : Type 0} (P : A → Type 0) (p : ℕ) where
  -- a record that is whole is inside the file
  pub whole_answers : (file : List ℕ) (q : ℕ) (r : Result A ReaderFault) → (q ≤ length file → Answers P (FaultAt p) r) → Answers P (FaultAt p) (whole file p q r)
  whole_answers file q r h = go (leb q (length file)) refl
    where
      go : (b : Bool) → leb q (length file) ≡ b → Answers P (FaultAt p) (cond b r (Err (fault cause.CutShort p)))
      go true e = h (leb-true _ _ e)
      go false e = refl

  -- a record within its limits keeps them
  pub within_answers : (ok : Bool) (r : Result A ReaderFault) → (ok ≡ true → Answers P (FaultAt p) r) → Answers P (FaultAt p) (within ok p r)
  within_answers true r h = h refl
  within_answers false r h = refl

  -- what comes after an Ok
  pub then_answers : {B : Type 0} (R : B → Type 0) (r : Result B ReaderFault) (f : B → Result A ReaderFault) → Answers R (FaultAt p) r
      → ((y : B) → R y → Answers P (FaultAt p) (f y)) → Answers P (FaultAt p) (on_ok r f)
  then_answers R (Ok y) f a h = h y a
  then_answers R (Err e) f a h = a

-- a part of the file that is there is as long as it says
pub length-part : (file : List ℕ) (p k : ℕ) → p + k ≤ length file → length (part file p k) ≡ k
length-part file p k h = length-take-le k (drop p file) (omega (arith, length-drop p file))

-- the record that is read keeps its own limits, has the mark and takes the bytes up to q
pub record Body (file : List ℕ) (p : ℕ) (m : Mark) (x : Item) (q : ℕ) : Type 0 where
  pub formed : well_formed x ≡ true
  pub marked : kind x ≡ m
  pub after : q ≡ p + length (bytes x)
  pub inside : q ≤ length file

module _ (file : List ℕ) (p : ℕ) (room : p + 2 ≤ length file) where
  -- what is read of a record with the mark m
  abbrev pub Read : Mark → Item × ℕ → Type 0
  Read m y = Body file p m y.0 y.1

  -- a body by its facts
  body : (m : Mark) (x : Item) (q : ℕ) → well_formed x ≡ true → kind x ≡ m → q ≡ p + length (bytes x) → q ≤ length file → Read m (x, q)
  body m x q f k a i = record { formed = f; marked = k; after = a; inside = i }

  -- a part of the file with its length in a byte
  abbrev Counted : ℕ → ℕ × List ℕ → Type 0
  Counted most y = (between 1 (length y.1) most ≡ true) × (y.0 ≡ p + 4) × (y.0 + length y.1 ≤ length file)

  -- what the reading of such a part answers
  part_answers : (most : ℕ) → Answers (Counted most) (FaultAt p) (part_at file p most)
  part_answers most =
      whole_answers (Counted most) p file (p + 4) _
      (λ h. within_answers (Counted most) p (between 1 (byte_at file (p + 3)) most) _
      (λ e. whole_answers (Counted most) p file (p + 4 + byte_at file (p + 3)) _
      (λ i. let long = length-part file (p + 4) (byte_at file (p + 3)) i in (ap (λ (k : ℕ). between 1 k most) long ∙ e, refl, omega arith))))

  -- what the reading of a record's body answers
  pub body_answers : (m : Mark) → Answers (Read m) (FaultAt p) (body_at file p m)
  body_answers mark.Header =
      whole_answers (Read mark.Header) p file _ _ (λ h. within_answers (Read mark.Header) p _ (Ok (header (byte_at file (p + 2)) (byte_at file (p + 3)), p + 4)) (λ e. body mark.Header _ (p + 4) e refl refl h))
  body_answers mark.Start = whole_answers (Read mark.Start) p file _ _ (λ h. body _ _ _ refl refl refl h)
  body_answers mark.Effect = whole_answers (Read mark.Effect) p file _ _ (λ h. body _ _ _ refl refl refl h)
  body_answers mark.Need = whole_answers (Read mark.Need) p file _ _ (λ h. body _ _ _ refl refl refl h)
  body_answers mark.Pair = whole_answers (Read mark.Pair) p file _ _ (λ h. body _ _ _ refl refl refl h)
  body_answers mark.Link =
      then_answers (Read mark.Link) p (Counted 64) (part_at file p 64) _ (part_answers 64) (λ y h. body _ _ _ h.0 refl (omega arith) h.2)
  body_answers mark.Name =
      then_answers (Read mark.Name) p (Counted 24) (part_at file p 24) _ (part_answers 24) (λ y h. body _ _ _ h.0 refl (omega arith) h.2)
  body_answers mark.End = body _ _ _ refl refl refl room

-- a mark is known by its letters
abbrev pub Marked : List ℕ → ℕ → Mark → Type 0
Marked file p m = (p + 2 ≤ length file) × (mark_of (byte_at file p) (byte_at file (p + 1)) ≡ Some m)

-- what the reading of a mark answers
pub mark_answers : (file : List ℕ) (p : ℕ) → Answers (Marked file p) (FaultAt p) (mark_at file p)
mark_answers file p = whole_answers (Marked file p) p file _ _ (λ h. go h (mark_of (byte_at file p) (byte_at file (p + 1))) refl)
  where
    go : p + 2 ≤ length file → (o : Option Mark) → mark_of (byte_at file p) (byte_at file (p + 1)) ≡ o → Answers (Marked file p) (FaultAt p) (known p o)
    go h (Some m) e = (h, e)
    go h None e = refl

-- a mark that is read is inside the file
pub mark_inside : (file : List ℕ) (p : ℕ) (m : Mark) → mark_at file p ≡ Ok m → p + 2 ≤ length file
mark_inside file p m e = (subst (Answers (Marked file p) (FaultAt p)) e (mark_answers file p)).0

-- the record that is read at a mark
pub body_is : (file : List ℕ) (p : ℕ) (m : Mark) (x : Item) (q : ℕ) → p + 2 ≤ length file → body_at file p m ≡ Ok (x, q) → Body file p m x q
body_is file p m x q room e = subst (Answers (Read file p room m) (FaultAt p)) e (body_answers file p room m)

-- a record takes the two bytes of its mark at least
pub two_letters : (x : Item) → 2 ≤ length (bytes x)
two_letters (header n v) = omega arith
two_letters (start w) = omega arith
two_letters (effect e) = omega arith
two_letters (need s x a b) = omega arith
two_letters (pair e l) = omega arith
two_letters (link n cs) = omega arith
two_letters (name s bs) = omega arith
two_letters end = omega arith
