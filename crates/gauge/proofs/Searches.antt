-- A search from 0 up finds the lowest word of a set.
use Rattle.std.proofs.Common.{◌≡◌, ℕ, zero, suc, ◌+◌, ◌<◌, ◌≤◌, true, false, Some, None, Option, find, sym, refl, subst, arith}
use Rattle.std.specs.List.{range_with_len}
use Rattle.gauge.specs.Meaning.{Words}
use Rattle.gauge.specs.Lowest.{lowest_word, Lowest, LowestExactly}

-- what a search from k on, among n numbers, answers
abbrev From : Words → ℕ → ℕ → Option ℕ → Type 0
From words k n (Some word) =
    (k ≤ word) × (word < k + n) × (words word ≡ true) × ((other : ℕ) → k ≤ other → other < word → words other ≡ false)
From words k n None = (other : ℕ) → k ≤ other → other < k + n → words other ≡ false

found : (words : Words) (k n : ℕ) → From words k n (find words (range_with_len k n))
found words k zero = grind arith
found words k (suc n) = grind (arith, found words (k + 1) n)

from_start : (words : Words) (r : Option ℕ) → From words 0 65536 r → Lowest words r
from_start words (Some word) first = grind arith
from_start words None none = grind arith

lowest : (words : Words) → Lowest words (lowest_word words)
unfolding lowest_word
lowest words = from_start words (find words (range_with_len 0 65536)) (found words 0 65536)

one_lowest : (words : Words) (r s : Option ℕ) → Lowest words r → Lowest words s → r ≡ s
one_lowest words (Some v) (Some w) v-lowest w-lowest = grind arith
one_lowest words (Some v) None v-lowest none = grind arith
one_lowest words None (Some w) none w-lowest = grind arith
one_lowest words None None v-none w-none = refl

pub lowest_exactly : LowestExactly
lowest_exactly words r =
    (λ e. subst (Lowest words) e (lowest words), λ h. one_lowest words (lowest_word words) r (lowest words) h)

-- a search that has passed every word and the last one too finds none
pub none_found : (words : Words) (last : ℕ) → 65535 ≤ last → ((other : ℕ) → other < last → words other ≡ false) → words last ≡ false → None ≡ lowest_word words
none_found words last end below here = sym ((lowest_exactly words None).1 all)
  where
    all : (other : ℕ) → other < 65536 → words other ≡ false
    all other h = grind (arith, below other)
