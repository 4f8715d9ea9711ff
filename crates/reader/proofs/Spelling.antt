-- The record that comes next, by the bytes that stand there.
use Rattle.std.proofs.Common.{◌≡◌, ℕ, ◌+◌, List, ◌++◌, length, drop, None, Ok, Result, ap, ◌∙◌}
use Rattle.std.proofs.lemmas.Bool.{cond-true}
use Rattle.faults.specs.declared.fault.ReaderFault.{ReaderFault}
use Rattle.records.specs.declared.record.Mark.{Mark}
use Rattle.records.specs.Item.{Item, kind, bytes}
use Rattle.records.specs.Standing.{Bytes}
use Rattle.reader.specs.Lawful.{stands, objection, Admissible}
use Rattle.reader.specs.Reading.{refused_by, admitted, placed, next}
use Rattle.reader.specs.Said.{Said}
use Rattle.records.specs.Shape.{on_ok, body_at}
use Rattle.records.proofs.Bodies.{Answers, FaultAt, also_answers}
use Rattle.reader.proofs.Walking.{next_through}
use Rattle.records.proofs.Writing.{mark_reads, body_reads, Stands, Whole, whole_body}

-- a record that may come next is read from its bytes
pub next_reads : (file : List ℕ) (s : Said) (p : ℕ) (x : Item) (back : List ℕ) → drop p file ≡ bytes x ++ back → Admissible s x
    → next file s p ≡ Ok (x, p + length (bytes x))
unfolding next
next_reads file s p x back here a =
    ap (λ (r : Result Mark ReaderFault). on_ok r (placed file s p)) (mark_reads file p x back here)
    ∙ cond-true (stands s (kind x)) _ _ a.placed
    ∙ ap (admitted s p) (body_reads file p x back here a.formed)
    ∙ ap (refused_by p (x, p + length (bytes x))) a.allowed

-- a record that is read is spelled there
pub next_spelled : (file : List ℕ) → Bytes file → (s : Said) (p : ℕ) → Answers (Stands file p) (FaultAt p) (next file s p)
next_spelled file small s p =
    next_through file s p (Stands file p)
    (λ m h e. also_answers (Whole file p m) (λ (y : Item × ℕ). objection s y.0 ≡ None → Stands file p y) (FaultAt p) (body_at file p m)
    (λ y b a. b.1) (whole_body file small p m h))
