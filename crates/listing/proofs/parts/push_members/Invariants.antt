-- The members so far and those that are left are all the members.
use Rattle.std.proofs.Common.{◌≡◌, ◌++◌, string_bytes}
use Rattle.sets.specs.Sets.{members}
use Rattle.listing.specs.Listing.{spaced}
use Rattle.listing.proofs.parts.push_members.Given as goal

abbrev pub invariant-loop-k : goal.invariant-loop-k
invariant-loop-k l = string_bytes l.text ++ spaced l.k-iterator ≡ string_bytes l.initial.text ++ spaced (members l.fn.set)
