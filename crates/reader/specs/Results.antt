-- What `read` and `name` answer.
--   Starved f   a record that adds to the sheet was read, and no fault came up to it
--   ReadAs f r  the answer r of `read` for the file f: the sheet that it says, its fault, or want of memory
--   part_of o   a part as its place and its bytes
--   named r     the answer of `name`, with its part so
use Rattle.std.specs.Prelude.{◌≡◌, ℕ, true, List, ◌∷◌, Some, None, Ok, Err, Option, Result}
use Rattle.faults.specs.declared.fault.Fault.{Fault}
use Rattle.sheet.specs.declared.sheet.Sheet.{Sheet}
use Rattle.reader.specs.declared.reading.ReadError.{ReadError}
use Rattle.reader.specs.declared.reading.ReadError.TheVariants as error
use Rattle.records.specs.declared.record.Part.{Part}
use Rattle.reader.specs.Draft.{takes_memory}
use Rattle.records.specs.Item.{Item}
use Rattle.reader.specs.Reading.{walk, going, reading}

pub record Starved (file : List ℕ) : Type 0 where
  pub count : ℕ
  pub past : List Item
  pub newest : Item
  pub place : ℕ
  pub reached : walk file count ≡ going (newest ∷ past) place
  pub adds : takes_memory newest ≡ true

abbrev pub ReadAs : List ℕ → Result Sheet ReadError → Type 0
ReadAs file (Ok s) = reading file ≡ Ok s
ReadAs file (Err (error.Fault f)) = reading file ≡ Err f
ReadAs file (Err error.Memory) = Starved file

abbrev pub part_of : Option Part → Option (ℕ × List ℕ)
part_of None = None
part_of (Some x) = Some (x.place, x.bytes.now)

abbrev pub named : Result (Option Part) Fault → Result (Option (ℕ × List ℕ)) Fault
named (Ok x) = Ok (part_of x)
named (Err f) = Err f
