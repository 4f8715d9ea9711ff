use Rattle.std.proofs.Common.{refl, arith}
use Rattle.plant.specs.Racks.{all_zero}
use Rattle.plant.proofs.rack.Rack.new.Goals as goal

pub invariant_of-result : goal.invariant_of-result
invariant_of-result c = record { room = refl; few = omega arith; fit = λ k h. rw (all_zero k h) (omega arith) }
