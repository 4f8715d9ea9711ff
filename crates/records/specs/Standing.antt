-- Where a record stands in a file.
--   Bytes f           every number of the list is a byte
--   well_formed x     the record keeps the limits of its own fields
--   Standing f p x q  the bytes of the record x stand in the file f from the place p on, up to the place q, and x keeps its own limits
--   RecordsExactly    a record is read at a place exactly if it stands there
use Rattle.std.specs.Prelude.{◌≡◌, ℕ, ◌+◌, ◌<◌, Bool, true, ◌&&◌, List, ◌++◌, length, drop, Ok, slice_index}
use Rattle.records.specs.Item.{Item, header, start, effect, need, pair, link, name, end, bytes}
use Rattle.records.specs.Shape.{between, record_at}

abbrev pub Bytes : List ℕ → Type 0
Bytes file = (k : ℕ) → slice_index file k < 256

abbrev pub well_formed : Item → Bool
well_formed (header n v) = between 2 n 64 && between 1 v 64
well_formed (start w) = true
well_formed (effect e) = true
well_formed (need s x a b) = true
well_formed (pair e l) = true
well_formed (link n cs) = between 1 (length cs) 64
well_formed (name s bs) = between 1 (length bs) 24
well_formed end = true

pub record Standing (file : List ℕ) (p : ℕ) (x : Item) (q : ℕ) : Type 0 where
  pub formed : well_formed x ≡ true
  pub after : q ≡ p + length (bytes x)
  pub here : drop p file ≡ bytes x ++ drop q file

abbrev pub RecordsExactly : Type 0
RecordsExactly =
    (file : List ℕ) → Bytes file → (p : ℕ) (x : Item) (q : ℕ)
    → (record_at file p ≡ Ok (x, q) → Standing file p x q) × (Standing file p x q → record_at file p ≡ Ok (x, q))
