use Rattle.std.proofs.Common.{◌≡◌, ℕ, ◌-◌, List, length}
use Rattle.records.specs.Item.{Item}
use Rattle.sheet.specs.Model.{model_of}
use Rattle.reader.specs.Said.{said_by, sheet_of}
use Rattle.reader.specs.Walk.{After}
use Rattle.reader.proofs.reading.read.Given as goal

abbrev pub invariant-loop-parts : goal.invariant-loop-parts
invariant-loop-parts l =
    (past : List Item) × (n : ℕ) × (l.walk.file.now ≡ l.file) × After l.walk past n × (model_of l.parts ≡ sheet_of (said_by past))

abbrev pub decreases-loop-parts : goal.decreases-loop-parts
decreases-loop-parts l = length l.file - l.walk.at
