-- Records that add to the sheet that is being read.
--   takes_memory x  the record adds to a list of the sheet
use Rattle.std.specs.Prelude.{Bool, true, false}
use Rattle.records.specs.Item.{Item, header, start, effect, need, pair, link, name, end}

abbrev pub takes_memory : Item → Bool
takes_memory (header n v) = false
takes_memory (start w) = true
takes_memory (effect e) = true
takes_memory (need s x a b) = true
takes_memory (pair e l) = true
takes_memory (link n cs) = false
takes_memory (name s bs) = false
takes_memory end = false
