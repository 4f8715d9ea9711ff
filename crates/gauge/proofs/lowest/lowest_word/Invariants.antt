use Rattle.std.proofs.Common.{◌≡◌, ℕ, ◌<◌, false}
use Rattle.gauge.proofs.lowest.lowest_word.Given as goal

abbrev pub invariant-loop-word : goal.invariant-loop-word
invariant-loop-word g l =
    (other : ℕ) → other < l.word → g.G.Gauge.meaning l.gauge l.signal l.condition.a l.condition.b other ≡ false
