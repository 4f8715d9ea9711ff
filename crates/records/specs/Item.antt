-- A record of a sheet file as a value, and its bytes.
--   Item       a record: its kind and its fields, contributors and names as lists of bytes
--   kind x     the mark that it begins with
--   letters m  the two letters of a mark
--   word w     a word, high byte first
--   fields x   the bytes after the mark
--   bytes x    the bytes of a record
--   size past  how many bytes a list of records takes
--   is_end x   the record ends the file
use Rattle.std.specs.Prelude.{ℕ, ◌+◌, ◌/◌, ◌%◌, Bool, true, false, List, [], ◌∷◌, ◌++◌, length, codes}
use Rattle.sheet.specs.declared.parts.Effect.{Effect}
use Rattle.records.specs.declared.record.Mark.{Mark}
use Rattle.records.specs.declared.record.Mark.TheVariants as mark

pub data Item : Type 0 where
  header : (steps signals : ℕ) → Item
  start : (word : ℕ) → Item
  effect : (e : Effect) → Item
  need : (step signal a b : ℕ) → Item
  pair : (earlier later : ℕ) → Item
  link : (need : ℕ) (contributors : List ℕ) → Item
  name : (step : ℕ) (letters : List ℕ) → Item
  end : Item

abbrev pub kind : Item → Mark
kind (header n v) = mark.Header
kind (start w) = mark.Start
kind (effect e) = mark.Effect
kind (need s x a b) = mark.Need
kind (pair e l) = mark.Pair
kind (link n cs) = mark.Link
kind (name s bs) = mark.Name
kind end = mark.End

abbrev pub letters : Mark → List ℕ
letters mark.Header = codes "SH"
letters mark.Start = codes "SG"
letters mark.Effect = codes "EF"
letters mark.Need = codes "ND"
letters mark.Pair = codes "PR"
letters mark.Link = codes "LK"
letters mark.Name = codes "NM"
letters mark.End = codes "EN"

abbrev pub word : ℕ → List ℕ
word w = w / 256 ∷ w % 256 ∷ []

abbrev pub fields : Item → List ℕ
fields (header n v) = n ∷ v ∷ []
fields (start w) = word w
fields (effect e) = e.step ∷ e.signal ∷ word e.word
fields (need s x a b) = s ∷ x ∷ word a ++ word b
fields (pair e l) = e ∷ l ∷ []
fields (link n cs) = n ∷ length cs ∷ cs
fields (name s bs) = s ∷ length bs ∷ bs
fields end = []

abbrev pub bytes : Item → List ℕ
bytes x = letters (kind x) ++ fields x

abbrev pub size : List Item → ℕ
size [] = 0
size (x ∷ past) = size past + length (bytes x)

abbrev pub is_end : Item → Bool
is_end (header n v) = false
is_end (start w) = false
is_end (effect e) = false
is_end (need s x a b) = false
is_end (pair e l) = false
is_end (link n cs) = false
is_end (name s bs) = false
is_end end = true
