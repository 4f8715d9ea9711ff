-- Setting the signals of a plant, from signal 0 on, to the words of a list.
--   setting_from p k l  the first refusal among the writes of the list's words to the signals from k on, or that all are accepted
--   setting p l         the same from signal 0 on
--   all_set p l         the plant afterwards: the words of the list and then those that stood there; as it was after a refusal
--   SetsOne p s w r     what the plant is after a write of the word w to the signal s that was answered by r: if accepted, that
--                       signal reads as w and every other as before; if refused, nothing is changed
--   Kept p q            the plant q is sound, with the count and the top of p
--   SetsOneWord         for every sound plant and every write: SetsOne and Kept
use Rattle.std.specs.Prelude.{◌≡◌, ℕ, ◌+◌, ◌≢◌, List, [], ◌∷◌, ◌++◌, length, drop, Ok, Err, Result, is_ok, if◌then◌else◌}
use Rattle.std.specs.Result.{result_and}
use Rattle.faults.specs.declared.fault.PlantFault.{PlantFault}
use Rattle.plant.specs.Meaning.{PlantMeaning, Sound, reading, writing, written}

abbrev pub setting_from : PlantMeaning → ℕ → List ℕ → Result Unit PlantFault
setting_from p k [] = Ok tt
setting_from p k (word ∷ words) = result_and (writing p k word) (setting_from p (k + 1) words)

abbrev pub setting : PlantMeaning → List ℕ → Result Unit PlantFault
setting p words = setting_from p 0 words

abbrev pub all_set : PlantMeaning → List ℕ → PlantMeaning
all_set p words =
    if is_ok (setting p words) then record p { words = words ++ drop (length words) p.words } else p

abbrev pub SetsOne : PlantMeaning → ℕ → ℕ → Result Unit PlantFault → Type 0
SetsOne p signal word (Ok done) =
    (reading (written p signal word) signal ≡ Ok word) × ((other : ℕ) → other ≢ signal → reading (written p signal word) other ≡ reading p other)
SetsOne p signal word (Err fault) = written p signal word ≡ p

abbrev pub Kept : PlantMeaning → PlantMeaning → Type 0
Kept p q = Sound q × (q.count ≡ p.count) × (q.top ≡ p.top)

abbrev pub SetsOneWord : Type 0
SetsOneWord = (p : PlantMeaning) (signal word : ℕ) → Sound p → SetsOne p signal word (writing p signal word) × Kept p (written p signal word)
