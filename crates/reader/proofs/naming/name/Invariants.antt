use Rattle.std.proofs.Common.{◌≡◌, ℕ, ◌-◌, List, length}
use Rattle.records.specs.Item.{Item}
use Rattle.reader.specs.Reading.{name_in}
use Rattle.reader.specs.Results.{part_of}
use Rattle.reader.specs.Walk.{After}
use Rattle.reader.proofs.naming.name.Given as goal

abbrev pub invariant-loop-record : goal.invariant-loop-record
invariant-loop-record l =
    (past : List Item) × (n : ℕ) × (l.walk.file.now ≡ l.file) × After l.walk past n × (part_of l.found ≡ name_in past l.step)

abbrev pub decreases-loop-record : goal.decreases-loop-record
decreases-loop-record l = length l.file - l.walk.at
