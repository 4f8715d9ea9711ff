-- The lines so far and those that are left are all the lines.
use Rattle.std.proofs.Common.{◌≡◌, ◌++◌, drop, string_bytes}
use Rattle.listing.specs.Listing.{numbered}
use Rattle.listing.proofs.lines.push_lines.Given as goal

abbrev pub invariant-loop-i : goal.invariant-loop-i
invariant-loop-i g l =
    string_bytes l.text ++ numbered g.T.Line.line l.i (drop l.i l.parts)
    ≡ string_bytes l.initial.text ++ numbered g.T.Line.line 0 l.parts
