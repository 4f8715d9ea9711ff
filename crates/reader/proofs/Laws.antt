-- The laws of reading, proved.
use Rattle.std.proofs.Common.{◌≡◌, ℕ, zero, suc, ◌+◌, ◌^◌, ◌<◌, ◌≤◌, Bool, true, false, cond, eqb, List, [], ◌∷◌, ◌++◌, length, drop, Ok, Err, MatchBool, Option, Result, sym, refl, ap, ◌∙◌, subst, arith}
use mathlib.Core.List.{reverse_aux}
use Rattle.std.specs.List.{flat_map}
use Rattle.std.proofs.lemmas.List.{drop_all, length-drop}
use Rattle.std.proofs.lemmas.Bool.{eqb-true, lt-ltb, le-ltb, cond-true, cond-false}
use Rattle.faults.specs.declared.fault.Cause.TheVariants as cause
use Rattle.faults.specs.declared.fault.Fault.TheVariants.{Reader, Run}
use Rattle.faults.specs.declared.fault.ReaderFault.{ReaderFault}
use Rattle.faults.specs.declared.fault.RunFault.TheVariants.{NoSuchStep}
use Rattle.sheet.specs.Model.{Sheet}
use Rattle.records.specs.Item.{Item, end, bytes, is_end}
use Rattle.records.specs.Standing.{Bytes}
use Rattle.reader.specs.Law.{said_in, name_of, Written, ReadsExactly, PlacesFit, FaultsFirst, NamesExactly}
use Rattle.reader.specs.Reading.{Progress, going, ended, faulty, next, onward, advance, walk, whole_walk, sheet_after, reading, name_in, name_after, naming}
use Rattle.reader.specs.Rules.{Lawful}
use Rattle.reader.specs.Said.{Said, said, said_by, nothing, sheet_of}
use Rattle.records.specs.Shape.{fault}
use Rattle.reader.proofs.Accepting.{Accepted, accepted, lawful}
use Rattle.reader.proofs.Advancing.{reading_by, naming_by, walk_begins}
use Rattle.reader.proofs.Named.{or_none, names_same, steps_said}
use Rattle.reader.proofs.Room.{place_fits}
use Rattle.records.proofs.Bodies.{Answers, FaultAt}
use Rattle.reader.proofs.Walking.{Admitted, Walked, Ended, walked, end_is, walk_more, whole_end}
use Rattle.records.proofs.Writing.{Stands, room, after_record}
use Rattle.reader.proofs.Spelling.{next_spelled, next_reads}

-- nothing is both read and a fault
read_or_fault : (s : Sheet) (f : ReaderFault) → ◌≡◌ {A = Result Sheet ReaderFault} (Ok s) (Err f) → ⊥
read_or_fault s f e =
    let z : ◌≡◌ {A = ℕ} 0 1 = cc in
    omega arith

-- no fault's place passes 16 bits
fault_fits : (file : List ℕ) (w : Progress) → Walked file (suc (length file)) w → (f : ReaderFault) → sheet_after w ≡ Err f → f.place < 2 ^ 16
fault_fits file (going past p) h f e = absurd (omega (arith, h.least, h.inside))
fault_fits file (ended past) h f e = absurd (read_or_fault _ _ e)
fault_fits file (faulty g) h f e =
    let same : g ≡ f = cc in
    omega (arith, ap (λ (x : ReaderFault). x.place) same, h.near, place_fits h.past h.admitted)

-- no file that is read is longer than its records can be
length_fits : (file : List ℕ) (w : Progress) → Walked file (suc (length file)) w → (s : Sheet) → sheet_after w ≡ Ok s → length file ≤ 25094
length_fits file (going past p) h s e = absurd (omega (arith, h.least, h.inside))
length_fits file (ended past) h s e = omega (arith, h.sized, place_fits past h.admitted)
length_fits file (faulty f) h s e = absurd (read_or_fault _ _ (sym e))

-- no place passes 16 bits
pub places_fit : PlacesFit
unfolding reading
places_fit file =
    let h = walked file (suc (length file)) in
    (λ f e. fault_fits file (whole_walk file) h f e, λ s e. length_fits file (whole_walk file) h s e)

-- what records say, the oldest first, is what they say, the newest first
said_same : (past rest : List Item) → said_in nothing (reverse_aux past rest) ≡ said_in (said_by past) rest
said_same [] rest = refl
said_same (x ∷ past) rest = said_same past (x ∷ rest)

-- admitted records, the oldest first, and accepted ones after them are accepted
accepted_back : (past rest : List Item) → Admitted past → Accepted (said_by past) rest → Accepted nothing (reverse_aux past rest)
accepted_back [] rest a l = l
accepted_back (x ∷ past) rest a l = accepted_back past (x ∷ rest) a.2 (a.0, rw a.1 l)

-- the records of the walk stand in the file one after the other
abbrev Spelt : List ℕ → Progress → Type 0
Spelt file (going past p) = (rest : List Item) → flat_map bytes rest ≡ drop p file → flat_map bytes (reverse_aux past rest) ≡ file
Spelt file (ended past) = flat_map bytes (reverse_aux past (end ∷ [])) ≡ file
Spelt file (faulty f) = Unit {0}

module _ (file : List ℕ) (small : Bytes file) where
  -- it keeps that over the next record
  onward_spelt : (past : List Item) (p : ℕ) → Spelt file (going past p) → (r : Result (Item × ℕ) ReaderFault) → Answers (Stands file p) (FaultAt p) r
      → Spelt file (onward file past r)
  onward_spelt past p h (Err f) a = tt
  onward_spelt past p h (Ok y) a = at_end (is_end y.0) refl
    where
      -- one record more
      more : (rest : List Item) → flat_map bytes rest ≡ drop y.1 file → flat_map bytes (reverse_aux past (y.0 ∷ rest)) ≡ file
      more rest e = h (y.0 ∷ rest) (ap (λ (l : List ℕ). bytes y.0 ++ l) e ∙ sym a)

      at_length : y.0 ≡ end → (b : Bool) → eqb y.1 (length file) ≡ b → Spelt file (cond b (ended past) (faulty (fault cause.AfterEnd y.1)))
      at_length is true e =
          subst (λ (x : Item). flat_map bytes (reverse_aux past (x ∷ [])) ≡ file) is
          (more [] (sym (drop_all y.1 file (omega (arith, eqb-true y.1 (length file) e)))))
      at_length is false e = tt

      at_end : (b : Bool) → is_end y.0 ≡ b
          → Spelt file (cond b (cond (eqb y.1 (length file)) (ended past) (faulty (fault cause.AfterEnd y.1))) (going (y.0 ∷ past) y.1))
      at_end true e = at_length (end_is y.0 e) _ refl
      at_end false e = more

  -- it keeps that over one step
  advance_spelt : (w : Progress) → Spelt file w → Spelt file (advance file w)
  advance_spelt (going past p) h = onward_spelt past p h (next file (said_by past) p) (next_spelled file small (said_by past) p)
  advance_spelt (ended past) h = h
  advance_spelt (faulty f) h = h

  -- the records of the walk, after n of them, stand in the file one after the other
  spelt : (n : ℕ) → Spelt file (walk file n)
  unfolding walk
  spelt zero = λ rest e. e
  spelt (suc n) = advance_spelt (walk file n) (spelt n)

-- a walk that ends has read the bytes of lawful records
written_from : (file : List ℕ) (w : Progress) → Walked file (suc (length file)) w → Spelt file w → (s : Sheet) → sheet_after w ≡ Ok s → Written file s
written_from file (going past p) h g s e = absurd (read_or_fault _ _ (sym e))
written_from file (faulty f) h g s e = absurd (read_or_fault _ _ (sym e))
written_from file (ended past) h g s e =
    let same : sheet_of (said_by past) ≡ s = cc in
    record {
      records = reverse_aux past (end ∷ []);
      lawful = lawful _ (accepted_back past (end ∷ []) h.admitted (h.ends, refl));
      same = g;
      says = ap sheet_of (said_same past (end ∷ [])) ∙ same;
    }

-- the walk through the file ends after these records, of which the end record is the last
record EndsAfter (file : List ℕ) (records : List Item) : Type 0 where
  past : List Item
  ends : whole_walk file ≡ ended past
  whole : records ≡ reverse_aux past (end ∷ [])

-- accepted records whose bytes stand in the rest of the file are read to the end
reads_on : (file : List ℕ) (rest : List Item) (n : ℕ) (past : List Item) (p : ℕ) → walk file n ≡ going past p → Accepted (said_by past) rest
    → drop p file ≡ flat_map bytes rest → EndsAfter file (reverse_aux past rest)
reads_on file [] n past p here l e = absurd l
reads_on file (x ∷ rest) n past p here l e = at_end (is_end x) refl l.1 (reads_on file rest (suc n) (x ∷ past) (p + length (bytes x)))
  where
    read : next file (said_by past) p ≡ Ok (x, p + length (bytes x))
    read = next_reads file (said_by past) p x (flat_map bytes rest) e l.0

    at_end : (b : Bool) → is_end x ≡ b → MatchBool b (rest ≡ []) (Accepted (said (said_by past) x) rest)
        → (walk file (suc n) ≡ going (x ∷ past) (p + length (bytes x)) → Accepted (said_by (x ∷ past)) rest
        → drop (p + length (bytes x)) file ≡ flat_map bytes rest → EndsAfter file (reverse_aux past (x ∷ rest)))
        → EndsAfter file (reverse_aux past (x ∷ rest))
    at_end true k none more =
        let is : x ≡ end = end_is x k in
        let only : x ∷ rest ≡ end ∷ [] = cc in
        let after : drop (p + length (bytes x)) file ≡ [] = after_record file p x (flat_map bytes rest) e ∙ ap (flat_map bytes) none in
        let last : p + length (bytes x) ≡ length file =
        omega (arith, room file p x (flat_map bytes rest) e, length-drop (p + length (bytes x)) file, ap length after) in
        record { past = past; ends = whole_end file n past p x _ here read k last; whole = ap (reverse_aux past) only }
    at_end false k later more = more (walk_more file n past p x _ here read k) later (after_record file p x (flat_map bytes rest) e)

-- a file of lawful records is read to the end
reads_all : (file : List ℕ) (records : List Item) → Lawful records → flat_map bytes records ≡ file → EndsAfter file records
reads_all file records l same = reads_on file records 0 [] 0 (walk_begins file) (accepted records l) (sym same)

-- where the walk has ended, what it was told is what the records say
said_all : (file : List ℕ) (records : List Item) (r : EndsAfter file records) → said_by r.past ≡ said_in nothing records
said_all file records r = sym (ap (said_in nothing) r.whole ∙ said_same r.past (end ∷ []))

-- a file is read exactly if it is the bytes of lawful records
pub reads_exactly : ReadsExactly
unfolding reading
reads_exactly file small s = (
  λ e. written_from file (whole_walk file) (walked file (suc (length file))) (spelt file small (suc (length file))) s e,
  λ w. let r = reads_all file w.records w.lawful w.same in
      reading_by file (ended r.past) r.ends ∙ ap (λ (t : Said). Ok (sheet_of t)) (said_all file w.records r) ∙ ap Ok w.says,
)

-- what a walk says of a step's name: its fault first, then that the step is not there, then an answer
named_after : (p : Progress) (w : ℕ)
    → ((f : ReaderFault) → sheet_after p ≡ Err f → name_after p w ≡ Err (Reader f))
    × ((s : Sheet) → sheet_after p ≡ Ok s → s.steps ≤ w → name_after p w ≡ Err (Run (NoSuchStep w)))
    × ((s : Sheet) → sheet_after p ≡ Ok s → w < s.steps → (o : Option (ℕ × List ℕ)) × (name_after p w ≡ Ok o))
named_after (going past q) w = (
  λ f e. let same : fault cause.CutShort q ≡ f = cc in ap (λ (g : ReaderFault). Err (Reader g)) same,
  λ s e h. absurd (read_or_fault _ _ (sym e)),
  λ s e h. absurd (read_or_fault _ _ (sym e)),
)
named_after (faulty g) w = (
  λ f e. let same : g ≡ f = cc in ap (λ (x : ReaderFault). Err (Reader x)) same,
  λ s e h. absurd (read_or_fault _ _ (sym e)),
  λ s e h. absurd (read_or_fault _ _ (sym e)),
)
named_after (ended past) w = (
  λ f e. absurd (read_or_fault _ _ e),
  λ s e h. let same : sheet_of (said_by past) ≡ s = cc in
      cond-false _ _ _ (le-ltb w (said_by past).steps (omega (arith, ap (λ (x : Sheet). x.steps) same))),
  λ s e h. let same : sheet_of (said_by past) ≡ s = cc in
      (name_in past w, cond-true _ _ _ (lt-ltb w (said_by past).steps (omega (arith, ap (λ (x : Sheet). x.steps) same)))),
)

-- the faults of a file come ahead of a step that is not there
pub faults_first : FaultsFirst
unfolding reading naming
faults_first file w = named_after (whole_walk file) w

-- the name of a step is the one that the records of the file say
pub names_exactly : NamesExactly
names_exactly file records l same w h =
    let r = reads_all file records l same in
    let g : Ended file r.past = subst (Walked file (suc (length file))) r.ends (walked file (suc (length file))) in
    let steps = ap (λ (t : Said). t.steps) (said_all file records r) ∙ steps_said records l in
    naming_by file w (ended r.past) r.ends ∙ cond-true _ _ _ (lt-ltb w (said_by r.past).steps (omega arith))
    ∙ ap Ok (sym (or_none (name_in r.past w)) ∙ sym (names_same r.past (end ∷ []) w g.admitted) ∙ ap (λ (xs : List Item). name_of 0 xs w) (sym r.whole))
