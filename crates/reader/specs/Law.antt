-- The laws of reading.
--   said_in s xs    what the records xs say, the oldest first, after what is said so far
--   Written f s     some lawful list of records has the bytes of the file f and says the sheet s
--   name_of p xs w  the name of the step w in the records xs, of which the first is at the place p, with its place
--   ReadsExactly    a file is read exactly if it is the bytes of a lawful list of records,
--                   and then the sheet is the one that those records say
--   PlacesFit       no fault's place passes 16 bits, and no file that is read is longer than 25,094 bytes
--   FaultsFirst     who asks for a step's name gets the file's fault, if it has one, else the fault of a step that is not there,
--                   else an answer
--   NamesExactly    the name of a step is the one that the records of the file say, at its place
use Rattle.std.specs.Prelude.{◌≡◌, ℕ, ◌+◌, ◌^◌, ◌<◌, ◌≤◌, if◌then◌else◌, List, [], ◌∷◌, length, Some, None, Ok, Err, Option, ◌==◌}
use Rattle.std.specs.List.{flat_map}
use Rattle.faults.specs.declared.fault.Fault.TheVariants.{Reader, Run}
use Rattle.faults.specs.declared.fault.ReaderFault.{ReaderFault}
use Rattle.faults.specs.declared.fault.RunFault.TheVariants.{NoSuchStep}
use Rattle.sheet.specs.Model.{Sheet}
use Rattle.records.specs.Item.{Item, header, start, effect, need, pair, link, name, end, bytes}
use Rattle.records.specs.Standing.{Bytes}
use Rattle.reader.specs.Reading.{reading, naming}
use Rattle.reader.specs.Rules.{Lawful}
use Rattle.reader.specs.Said.{Said, said, nothing, sheet_of}

abbrev pub said_in : Said → List Item → Said
said_in s [] = s
said_in s (x ∷ xs) = said_in (said s x) xs

-- a name stands four bytes on from the place of its record
abbrev pub name_of : ℕ → List Item → ℕ → Option (ℕ × List ℕ)
name_of p [] w = None
name_of p (header n v ∷ xs) w = name_of (p + length (bytes (header n v))) xs w
name_of p (start x ∷ xs) w = name_of (p + length (bytes (start x))) xs w
name_of p (effect e ∷ xs) w = name_of (p + length (bytes (effect e))) xs w
name_of p (need s x a b ∷ xs) w = name_of (p + length (bytes (need s x a b))) xs w
name_of p (pair e l ∷ xs) w = name_of (p + length (bytes (pair e l))) xs w
name_of p (link n cs ∷ xs) w = name_of (p + length (bytes (link n cs))) xs w
name_of p (name s bs ∷ xs) w = if s == w then Some (p + 4, bs) else name_of (p + length (bytes (name s bs))) xs w
name_of p (end ∷ xs) w = name_of (p + length (bytes end)) xs w

-- these records are lawful, are the whole file, and say the sheet s
pub record Written (file : List ℕ) (s : Sheet) : Type 0 where
  pub records : List Item
  pub lawful : Lawful records
  pub same : flat_map bytes records ≡ file
  pub says : sheet_of (said_in nothing records) ≡ s

abbrev pub ReadsExactly : Type 0
ReadsExactly = (file : List ℕ) → Bytes file → (s : Sheet) → (reading file ≡ Ok s → Written file s) × (Written file s → reading file ≡ Ok s)

abbrev pub PlacesFit : Type 0
PlacesFit =
    (file : List ℕ) → ((f : ReaderFault) → reading file ≡ Err f → f.place < 2 ^ 16) × ((s : Sheet) → reading file ≡ Ok s → length file ≤ 25094)

abbrev pub FaultsFirst : Type 0
FaultsFirst =
    (file : List ℕ) (w : ℕ)
    → ((f : ReaderFault) → reading file ≡ Err f → naming file w ≡ Err (Reader f))
    × ((s : Sheet) → reading file ≡ Ok s → s.steps ≤ w → naming file w ≡ Err (Run (NoSuchStep w)))
    × ((s : Sheet) → reading file ≡ Ok s → w < s.steps → (o : Option (ℕ × List ℕ)) × (naming file w ≡ Ok o))

abbrev pub NamesExactly : Type 0
NamesExactly =
    (file : List ℕ) (records : List Item) (l : Lawful records) → flat_map bytes records ≡ file
    → (w : ℕ) → w < l.steps → naming file w ≡ Ok (name_of 0 records w)
