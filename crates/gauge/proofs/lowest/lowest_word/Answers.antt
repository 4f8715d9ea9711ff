use Rattle.std.proofs.Common.{◌≤◌, Some, sym, arith}
use Rattle.gauge.proofs.Searches.{lowest_exactly, none_found}
use Rattle.gauge.proofs.lowest.lowest_word.Goals as goal

pub returns-then-meets : goal.returns-then-meets
returns-then-meets g c =
    let words = g.G.Gauge.meaning c.args.gauge.now c.args.signal c.args.condition.a c.args.condition.b in
    record {
      value = sym ((lowest_exactly words (Some c.loop-word.word)).1 (omega arith, sym c.if-meets.ensures, c.loop-word.invariant));
      law = lowest_exactly;
    }

pub returns-else-meets : goal.returns-else-meets
returns-else-meets g c =
    let words = g.G.Gauge.meaning c.args.gauge.now c.args.signal c.args.condition.a c.args.condition.b in
    let end : 65535 ≤ c.loop-word.word = omega arith in
    record { value = none_found words c.loop-word.word end c.loop-word.invariant (sym c.if-meets.ensures); law = lowest_exactly }
