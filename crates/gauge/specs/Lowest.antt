-- The lowest word of a set.
--   lowest_word s      the first of the words from 0 to 65535 that is in the set s, if one is
--   Lowest s r         r is the word that is in the set while none below it is; or r is none, and no word is in the set
--   LowestExactly      lowest_word answers r exactly if r is the lowest
use Rattle.std.specs.Prelude.{◌≡◌, ℕ, ◌<◌, true, false, Some, None, Option, find}
use Rattle.std.specs.List.{range_with_len}
use Rattle.gauge.specs.Meaning.{Words}

unfoldable pub lowest_word : Words → Option ℕ
lowest_word words = find words (range_with_len 0 65536)

abbrev pub Lowest : Words → Option ℕ → Type 0
Lowest words (Some word) = (word < 65536) × (words word ≡ true) × ((other : ℕ) → other < word → words other ≡ false)
Lowest words None = (other : ℕ) → other < 65536 → words other ≡ false

abbrev pub LowestExactly : Type 0
LowestExactly = (words : Words) (r : Option ℕ) → (lowest_word words ≡ r → Lowest words r) × (Lowest words r → lowest_word words ≡ r)
