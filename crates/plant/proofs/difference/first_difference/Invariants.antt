use Rattle.plant.specs.Difference.{Agrees}
use Rattle.plant.proofs.difference.first_difference.Given as goal

abbrev pub invariant-loop-signal : goal.invariant-loop-signal
invariant-loop-signal g l = Agrees (g.P.Plant.meaning l.plant) l.words l.signal
