-- Words in an array of which the front is used.
--   front, all_zero    those of an array of zeros
--   word_at            the word at a place of the front
--   set_fits, set_word an array of which one word is set
--   rack_sound         a rack keeps the law of a plant
use Rattle.std.specs.Prelude.{◌≡◌, ℕ, ◌<◌, ◌≤◌, List, length, take, replicate, slice_index, slice_set}
use Rattle.std.proofs.Common.{inl, inr, arith, get_or-take, length-take-le, get_or-set_same, get_or-set_other}
use Rattle.std.proofs.lemmas.List.{take-replicate, get_or-replicate}
use Rattle.std.proofs.lemmas.Bool.{cases_eq}
use lib.Seq.{take-set-lt}
use Rattle.plant.specs.declared.rack.Rack.{Rack}
use Rattle.plant.specs.Meaning.{Sound}
use Rattle.plant.specs.Plants.{rack_meaning}

pub front : (n : ℕ) → n ≤ 128 → take {A = ℕ} n (replicate 128 0) ≡ replicate n 0
front n h = take-replicate n 128 0 h

pub all_zero : (k : ℕ) → k < 128 → slice_index (replicate 128 0) k ≡ 0
all_zero k inside = get_or-replicate {A = ℕ} 128 k 0 0 inside

pub word_at : (n k : ℕ) (words : List ℕ) → k < n → slice_index (take n words) k ≡ slice_index words k
word_at n k words h = get_or-take n words k 0 h

-- a word of 16 bits may be set at any place
pub set_fits : (words : List ℕ) (s w k : ℕ) → s < length words → w < 65536 → slice_index words k < 65536 → slice_index (slice_set words s w) k < 65536
set_fits words s w k inside fits before =
    elim (cases_eq k s) [
      | inl e ↦ rw (e, get_or-set_same words s w 0 inside) fits
      | inr ne ↦ rw (get_or-set_other words s k w 0 ne) before
    ]

pub set_word : (n : ℕ) (words : List ℕ) (s w : ℕ) → s < n → take n (slice_set words s w) ≡ slice_set (take n words) s w
set_word n words s w h = take-set-lt n words s w h

pub rack_sound : (r : Rack) → Sound (rack_meaning r)
rack_sound r =
    let few = r.few in (
      omega arith,
      omega arith,
      length-take-le r.count r.words (omega (arith, r.room)),
      λ k h. rw (get_or-take r.count r.words k 0 h) (omega (arith, r.fit k (omega arith))),
    )
