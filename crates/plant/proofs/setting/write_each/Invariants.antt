use Rattle.std.proofs.Common.{◌≡◌}
use Rattle.plant.proofs.Writes.{partly}
use Rattle.plant.proofs.setting.write_each.Given as goal

abbrev pub invariant-loop-signal : goal.invariant-loop-signal
invariant-loop-signal g l = g.P.Plant.meaning l.plant ≡ partly (g.P.Plant.meaning l.initial.plant) l.words l.signal
