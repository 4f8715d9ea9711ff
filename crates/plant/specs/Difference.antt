-- Where a plant differs from a list of words.
--   holds p s w            the plant has the signal s, at the word w
--   difference_from p k l  the lowest signal from k on that does not hold the word at its place in the list l, if one is
--   first_difference p l   the same from signal 0 on
--   Agrees p l n           the first n signals hold the first n words of the list
--   Difference p l r       r is the signal that does not hold its word while all below it do; or r is none, and all do
--   DifferenceExactly      first_difference answers r exactly if r is the lowest difference
use Rattle.std.specs.Prelude.{◌≡◌, ℕ, ◌+◌, ◌<◌, Bool, true, false, if◌then◌else◌, ◌&&◌, List, [], ◌∷◌, length, Some, None, Option, ◌==◌, nat_lt, slice_index}
use Rattle.plant.specs.Meaning.{PlantMeaning}

abbrev pub holds : PlantMeaning → ℕ → ℕ → Bool
holds p signal word = nat_lt signal p.count && slice_index p.words signal == word

abbrev pub difference_from : PlantMeaning → ℕ → List ℕ → Option ℕ
difference_from p k [] = None
difference_from p k (word ∷ words) = if holds p k word then difference_from p (k + 1) words else Some k

abbrev pub first_difference : PlantMeaning → List ℕ → Option ℕ
first_difference p words = difference_from p 0 words

abbrev pub Agrees : PlantMeaning → List ℕ → ℕ → Type 0
Agrees p words n = (k : ℕ) → k < n → holds p k (slice_index words k) ≡ true

abbrev pub Difference : PlantMeaning → List ℕ → Option ℕ → Type 0
Difference p words (Some signal) = (signal < length words) × (holds p signal (slice_index words signal) ≡ false) × Agrees p words signal
Difference p words None = Agrees p words (length words)

abbrev pub DifferenceExactly : Type 0
DifferenceExactly =
    (p : PlantMeaning) (words : List ℕ) (r : Option ℕ) → (first_difference p words ≡ r → Difference p words r) × (Difference p words r → first_difference p words ≡ r)
