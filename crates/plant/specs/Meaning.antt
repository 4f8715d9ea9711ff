-- What plants mean.
--   PlantMeaning       a count, a top word, and the words of the signals from 0 on
--   Sound p            count and top are 16-bit numbers; each signal below the count has a word, none above the top
--   finding n s        that the signal s is one of n signals, or the fault that it is not
--   accepting n t s w  that the word w may be written to the signal s of n signals with the top word t, or the first fault
--   reading p s        what a read of the signal s answers
--   writing p s w      what a write of the word w to the signal s answers
--   with_word p s w    the plant with the word of the signal s set to w, and no other word
--   written p s w      the plant after the write: with that word if it is accepted, else as it was
--   zeros n t          n signals at 0, with the top word t
use Rattle.std.specs.Prelude.{◌≡◌, ℕ, ◌<◌, ◌≤◌, if◌then◌else◌, ◌&&◌, List, length, replicate, Ok, Err, Result, nat_le, nat_lt, slice_index, slice_set}
use Rattle.faults.specs.declared.fault.PlantFault.{PlantFault}
use Rattle.faults.specs.declared.fault.PlantFault.TheVariants.{NoSignal, AboveTop}

pub record PlantMeaning : Type 0 where
  pub count : ℕ
  pub top : ℕ
  pub words : List ℕ

abbrev pub Sound : PlantMeaning → Type 0
Sound p = (p.count < 65536) × (p.top < 65536) × (length p.words ≡ p.count) × ((k : ℕ) → k < p.count → slice_index p.words k ≤ p.top)

abbrev pub finding : ℕ → ℕ → Result Unit PlantFault
finding count signal = if nat_lt signal count then Ok tt else Err (NoSignal signal)

abbrev pub accepting : ℕ → ℕ → ℕ → ℕ → Result Unit PlantFault
accepting count top signal word =
    if nat_lt signal count then (if nat_le word top then Ok tt else Err (AboveTop signal)) else Err (NoSignal signal)

abbrev pub reading : PlantMeaning → ℕ → Result ℕ PlantFault
reading p signal = if nat_lt signal p.count then Ok (slice_index p.words signal) else Err (NoSignal signal)

abbrev pub writing : PlantMeaning → ℕ → ℕ → Result Unit PlantFault
writing p signal word = accepting p.count p.top signal word

abbrev pub with_word : PlantMeaning → ℕ → ℕ → PlantMeaning
with_word p signal word = record p { words = slice_set p.words signal word }

abbrev pub written : PlantMeaning → ℕ → ℕ → PlantMeaning
written p signal word = if nat_lt signal p.count && nat_le word p.top then with_word p signal word else p

abbrev pub zeros : ℕ → ℕ → PlantMeaning
zeros count top = record { count = count; top = top; words = replicate count 0 }
