-- The mark of the letters here, or its fault here.
use Rattle.std.proofs.Common.{◌≡◌, ℕ, ◌+◌, ◌-◌, ◌<◌, ◌≤◌, length, drop, List, Option, Some, None, ap, ◌∙◌, refl, arith}
use Rattle.std.specs.List.{slice_range, slice_index}
use Rattle.std.proofs.lemmas.Bool.{le-leb}
use Rattle.std.proofs.lemmas.List.{get_or-take, get_or-drop}
use Rattle.records.specs.declared.record.Mark.{Mark}
use Rattle.records.specs.Shape.{mark_at, known, marked, mark_of}
use Rattle.records.proofs.Handing.{handed}

-- the letters at a place, in the file's rest from there on
letters_here : (file rest : List ℕ) (p : ℕ) → rest ≡ slice_range file p (length file) → 2 ≤ length rest → length rest + p ≡ length file
    → known p (mark_of (slice_index rest 0) (slice_index rest 1)) ≡ mark_at file p
letters_here file rest p same two long =
    let none_more : p + 0 ≡ p = omega arith in
    rw (le-leb (p + 2) (length file) (omega arith), byte 0 (omega arith) ∙ ap (slice_index file) none_more, byte 1 (omega arith)) refl where
      byte : (k : ℕ) → k < 2 → slice_index rest k ≡ slice_index file (p + k)
      byte k h = ap (λ ys. slice_index ys k) same ∙ get_or-take (length file - p) (drop p file) k 0 (omega arith) ∙ get_or-drop p file k 0

known_marked : (p : ℕ) (o : Option Mark) → handed p (marked o) ≡ known p o
known_marked p (Some m) = refl
known_marked p None = refl

-- the answer to them, with the cause of a refusal made a fault here
pub mark_here : (file rest : List ℕ) (p : ℕ) → rest ≡ slice_range file p (length file) → 2 ≤ length rest → length rest + p ≡ length file
    → handed p (marked (mark_of (slice_index rest 0) (slice_index rest 1))) ≡ mark_at file p
mark_here file rest p same two long = known_marked p _ ∙ letters_here file rest p same two long
