-- The text of a whole file.
--   name_text w r     the line of the step w, by what the file says of its name
--   names_from f k n  the names of the n steps from k on
--   listed f s        the lines of the sheet s, and then those of the names in the file f
--   ListedAs f r      the answer r for the file f: the text of the sheet that it says, its fault, or want of memory
use Rattle.std.specs.Prelude.{◌≡◌, ℕ, zero, suc, ◌+◌, List, [], ◌++◌, Some, Ok, Err, string_bytes, Option, Result, String}
use Rattle.std.specs.declared.alloc.Global.{Global}
use Rattle.faults.specs.declared.fault.Fault.{Fault}
use Rattle.sheet.specs.Model.{Sheet}
use Rattle.reader.specs.declared.reading.ReadError.{ReadError}
use Rattle.reader.specs.declared.reading.ReadError.TheVariants as error
use Rattle.reader.specs.Reading.{reading, naming}
use Rattle.listing.specs.Listing.{sheet_lines, name_line}

abbrev pub name_text : ℕ → Result (Option (ℕ × List ℕ)) Fault → List ℕ
name_text w (Ok (Some x)) = name_line w x.0 x.1
name_text w _ = []

abbrev pub names_from : List ℕ → ℕ → ℕ → List ℕ
names_from file k zero = []
names_from file k (suc n) = name_text k (naming file k) ++ names_from file (k + 1) n

abbrev pub listed : List ℕ → Sheet → List ℕ
listed file s = sheet_lines s ++ names_from file 0 s.steps

abbrev pub ListedAs : List ℕ → Result (String Global) ReadError → Type 0
ListedAs file (Ok text) = (s : Sheet) × (reading file ≡ Ok s) × (string_bytes text ≡ listed file s)
ListedAs file (Err (error.Fault f)) = reading file ≡ Err f
ListedAs file (Err error.Memory) = Unit {0}
