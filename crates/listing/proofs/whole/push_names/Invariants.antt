-- The names so far and those that are left are all the names.
use Rattle.std.proofs.Common.{◌≡◌, ◌-◌, ◌++◌, string_bytes}
use Rattle.listing.specs.Whole.{names_from}
use Rattle.listing.proofs.whole.push_names.Given as goal

abbrev pub invariant-loop-step : goal.invariant-loop-step
invariant-loop-step l =
    string_bytes l.text ++ names_from l.file l.step (l.steps - l.step)
    ≡ string_bytes l.initial.text ++ names_from l.file 0 l.steps
