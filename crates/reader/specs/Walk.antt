-- A walk of the code through a file.
--   After w past n         n records, those of past, lead to where the walk w is, and its ledger shows what they say
--   Reached w              some records do
--   Onward w past n r v    the answer r to the step that the walk w takes after n records, those of past, and the walk v then:
--                          the file's fault, its end, or the next record, whose parts lie where they should
use Rattle.std.specs.Prelude.{◌≡◌, ℕ, suc, List, ◌∷◌, Some, None, Ok, Err, Option, Result}
use Rattle.faults.specs.declared.fault.ReaderFault.{ReaderFault}
use Rattle.reader.specs.declared.walk.Walk.{Walk}
use Rattle.records.specs.declared.record.Record.{Record}
use Rattle.records.specs.Item.{Item}
use Rattle.records.specs.View.{item_of, PlacedAt}
use Rattle.reader.specs.Reading.{walk, going, ended, faulty, whole_walk}
use Rattle.reader.specs.Said.{said_by}
use Rattle.reader.specs.Shows.{Shows}

pub record After (w : Walk) (past : List Item) (n : ℕ) : Type 0 where
  pub reached : walk w.file.now n ≡ going past w.at
  pub shows : Shows w.ledger (said_by past)

abbrev pub Reached : Walk → Type 0
Reached w = (past : List Item) × (n : ℕ) × After w past n

abbrev pub Onward : Walk → List Item → ℕ → Result (Option Record) ReaderFault → Walk → Type 0
Onward w past n (Err f) v = whole_walk w.file.now ≡ faulty f
Onward w past n (Ok None) v = (whole_walk w.file.now ≡ ended past) × Shows v.ledger (said_by past)
Onward w past n (Ok (Some r)) v = (v.file.now ≡ w.file.now) × After v (item_of r ∷ past) (suc n) × PlacedAt w.at r
