-- Sets of numbers below 64, and the rising lists of their members.
--   rising p      the numbers below 64 that pass the test p, in rising order
--   mem k l       k is in the list
--   Rising l      l is the list of a set: of numbers below 64, each once, the lowest first
--   bit m k       the bit k of the number m
--   ones m        the places at which the number m has a one
--   of_ones l     the number that has a one at these places, and no other
--   members s     the members of the set s
--   set_of l      the set with these members; of use where l is Rising
--   empty_set     the set with none
--   added s k     the set with k in it; a number past 63 adds nothing
use Rattle.std.specs.Prelude.{◌≡◌, ℕ, ◌+◌, ◌/◌, ◌^◌, Bool, false, if◌then◌else◌, ◌||◌, List, [], ◌∷◌, filter, ◌==◌, bit_and, nat_lt}
use Rattle.std.specs.List.{range_with_len}
use Rattle.sets.specs.declared.index_set.IndexSet.{IndexSet}

unfoldable pub rising : (ℕ → Bool) → List ℕ
rising p = filter p (range_with_len 0 64)

abbrev pub mem : ℕ → List ℕ → Bool
mem k [] = false
mem k (x ∷ l) = k == x || mem k l

abbrev pub Rising : List ℕ → Type 0
Rising l = l ≡ rising (λ k. mem k l)

abbrev pub bit : ℕ → ℕ → Bool
bit m k = bit_and (m / 2 ^ k) 1 == 1

abbrev pub ones : ℕ → List ℕ
ones m = rising (bit m)

abbrev pub of_ones : List ℕ → ℕ
of_ones [] = 0
of_ones (k ∷ l) = 2 ^ k + of_ones l

abbrev pub members : IndexSet → List ℕ
members s = ones s.mask

abbrev pub set_of : List ℕ → IndexSet
set_of l = record { mask = of_ones l }

abbrev pub empty_set : IndexSet
empty_set = set_of []

abbrev pub added : IndexSet → ℕ → IndexSet
added s k = if nat_lt k 64 then set_of (rising (λ j. j == k || mem j (members s))) else s
