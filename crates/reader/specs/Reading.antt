-- Reading a file record by record.
--   next f s p       the record at the place p after what is said so far, and the place after it, or the fault
--   refused_by, admitted, placed   the same from the inside out: a broken rule, the body of the record, its mark
--   Progress         going on after some records (the newest first) at a place; ended after them; or a fault
--   onward f past r  where one record more leads; after the end record the file ends
--   advance f g      one record more, unless the reading has come to an end
--   walk f n         where the reading of the file f is after n records
--   whole_walk f     where it is when no byte can be left
--   sheet_after g    the sheet that is said then, or the fault
--   reading f        the sheet that the file says, or its fault
--   name_in past w   the name of the step w and its place
--   name_after g w   the name that is said then, or the fault
--   naming f w       the name of a step, as a place and bytes, or nothing, or the fault
use Rattle.std.specs.Prelude.{ℕ, zero, suc, ◌+◌, if◌then◌else◌, List, [], ◌∷◌, length, Some, None, Ok, Err, Option, Result, ◌==◌, nat_lt}
use Rattle.faults.specs.declared.fault.Cause.{Cause}
use Rattle.faults.specs.declared.fault.Cause.TheVariants as cause
use Rattle.faults.specs.declared.fault.ReaderFault.{ReaderFault}
use Rattle.faults.specs.declared.fault.RunFault.TheVariants.{NoSuchStep}
use Rattle.faults.specs.declared.fault.Fault.{Fault}
use Rattle.faults.specs.declared.fault.Fault.TheVariants.{Reader, Run}
use Rattle.sheet.specs.Model.{Sheet}
use Rattle.records.specs.declared.record.Mark.{Mark}
use Rattle.records.specs.Item.{Item, header, start, effect, need, pair, link, name, end, is_end, size}
use Rattle.reader.specs.Lawful.{stands, objection}
use Rattle.reader.specs.Said.{Said, said_by, sheet_of}
use Rattle.records.specs.Shape.{fault, on_ok, mark_at, body_at}

abbrev pub refused_by : ℕ → Item × ℕ → Option Cause → Result (Item × ℕ) ReaderFault
refused_by p x None = Ok x
refused_by p x (Some c) = Err (fault c p)

abbrev pub admitted : Said → ℕ → Result (Item × ℕ) ReaderFault → Result (Item × ℕ) ReaderFault
admitted s p r = on_ok r (λ x. refused_by p x (objection s x.0))

abbrev pub placed : List ℕ → Said → ℕ → Mark → Result (Item × ℕ) ReaderFault
placed file s p m = if stands s m then admitted s p (body_at file p m) else Err (fault cause.Mark p)

unfoldable pub next : List ℕ → Said → ℕ → Result (Item × ℕ) ReaderFault
next file s p = on_ok (mark_at file p) (placed file s p)

pub data Progress : Type 0 where
  going : (past : List Item) (place : ℕ) → Progress
  ended : (past : List Item) → Progress
  faulty : (f : ReaderFault) → Progress

-- after the end record the file ends
abbrev pub onward : List ℕ → List Item → Result (Item × ℕ) ReaderFault → Progress
onward file past (Err f) = faulty f
onward file past (Ok x) =
    if is_end x.0
    then (if x.1 == length file then ended past else faulty (fault cause.AfterEnd x.1))
    else going (x.0 ∷ past) x.1

abbrev pub advance : List ℕ → Progress → Progress
advance file (going past p) = onward file past (next file (said_by past) p)
advance file (ended past) = ended past
advance file (faulty f) = faulty f

unfoldable pub walk : List ℕ → ℕ → Progress
walk file zero = going [] 0
walk file (suc n) = advance file (walk file n)

-- every record takes a byte at least, so that the walk has come to an end by then
abbrev pub whole_walk : List ℕ → Progress
whole_walk file = walk file (suc (length file))

abbrev pub sheet_after : Progress → Result Sheet ReaderFault
sheet_after (going past p) = Err (fault cause.CutShort p)
sheet_after (ended past) = Ok (sheet_of (said_by past))
sheet_after (faulty f) = Err f

unfoldable pub reading : List ℕ → Result Sheet ReaderFault
reading file = sheet_after (whole_walk file)

abbrev pub name_in : List Item → ℕ → Option (ℕ × List ℕ)
name_in [] w = None
name_in (header n v ∷ past) w = name_in past w
name_in (start x ∷ past) w = name_in past w
name_in (effect e ∷ past) w = name_in past w
name_in (need s x a b ∷ past) w = name_in past w
name_in (pair e l ∷ past) w = name_in past w
name_in (link n cs ∷ past) w = name_in past w
name_in (name s bs ∷ past) w = if s == w then Some (size past + 4, bs) else name_in past w
name_in (end ∷ past) w = name_in past w

abbrev pub name_after : Progress → ℕ → Result (Option (ℕ × List ℕ)) Fault
name_after (going past p) w = Err (Reader (fault cause.CutShort p))
name_after (ended past) w = if nat_lt w (said_by past).steps then Ok (name_in past w) else Err (Run (NoSuchStep w))
name_after (faulty f) w = Err (Reader f)

unfoldable pub naming : List ℕ → ℕ → Result (Option (ℕ × List ℕ)) Fault
naming file w = name_after (whole_walk file) w
