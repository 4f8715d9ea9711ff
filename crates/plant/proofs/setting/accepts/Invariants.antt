use Rattle.plant.proofs.Writes.{Accepted}
use Rattle.plant.proofs.setting.accepts.Given as goal

abbrev pub invariant-loop-signal : goal.invariant-loop-signal
invariant-loop-signal g l = Accepted (g.P.Plant.meaning l.plant) l.words l.signal
