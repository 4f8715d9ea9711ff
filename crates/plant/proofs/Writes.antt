-- Writing a list of words to the signals from 0 on.
use Rattle.std.proofs.Common.{◌≡◌, ℕ, ◌+◌, ◌<◌, ◌≤◌, ◌⊎◌, List, [], ◌∷◌, ◌++◌, length, get_or, take, drop, set, Ok, Err, Result, sym, refl, ap, ◌∙◌, inl, inr, append_assoc, arith, length-take-le}
use Rattle.std.specs.Result.{result_and}
use Rattle.std.proofs.lemmas.List.{set_at, take_more, drop_all, drop_more}
use Rattle.std.proofs.lemmas.Bool.{cases_lt, lt-ltb, le-leb}
use Rattle.faults.specs.declared.fault.PlantFault.{PlantFault}
use Rattle.faults.specs.declared.fault.PlantFault.TheVariants.{NoSignal, AboveTop}
use Rattle.plant.specs.Meaning.{PlantMeaning, Sound, writing, written}
use Rattle.plant.proofs.Firsts.{Until, passed, first_bad}
use Rattle.plant.specs.Setting.{setting_from, setting}

-- the word w may be written to the signal k; or it is refused
abbrev Writable : PlantMeaning → ℕ → ℕ → Type 0
Writable p k w = (k < p.count) × (w ≤ p.top)

abbrev Refused : PlantMeaning → ℕ → ℕ → Type 0
Refused p k w = (fault : PlantFault) × (writing p k w ≡ Err fault)

-- the first n words may be written
abbrev pub Accepted : PlantMeaning → List ℕ → ℕ → Type 0
Accepted p words n = Until (Writable p) words n

module _ (p : PlantMeaning) (k w : ℕ) where
  accepted : Writable p k w → writing p k w ≡ Ok tt
  accepted fine = grind arith

  writable_or_not : Writable p k w ⊎ Refused p k w
  writable_or_not =
      elim (cases_lt k p.count) [
        | inl here ↦ elim (cases_lt p.top w) [ inl high ↦ inr (AboveTop k, grind arith) | inr low ↦ inl (here, low) ]
        | inr off ↦ inr (NoSignal k, grind arith)
      ]

module _ (p : PlantMeaning) (words : List ℕ) where
  -- words that are accepted are passed over
  over : (k w : ℕ) (rest : List ℕ) → Writable p k w → setting_from p k (w ∷ rest) ≡ setting_from p (k + 1) rest
  over k w rest fine = rw (accepted p k w fine)

  skip : (n : ℕ) → n ≤ length words → Accepted p words n → setting p words ≡ setting_from p n (drop n words)
  skip = passed (Writable p) words (setting_from p) over

  pub all_accepted : Accepted p words (length words) → setting p words ≡ Ok tt
  all_accepted fine =
      skip (length words) (omega arith) fine ∙ ap (setting_from p (length words)) (drop_all (length words) words (omega arith))

  pub one_refused : (n : ℕ) (fault : PlantFault) → n < length words → Accepted p words n → writing p n (get_or words n 0) ≡ Err fault → setting p words ≡ Err fault
  one_refused n fault inside fine refused =
      skip n (omega arith) fine
      ∙ ap (setting_from p n) (drop_more words n 0 inside)
      ∙ ap (λ (r : Result Unit PlantFault). result_and r (setting_from p (n + 1) (drop (n + 1) words))) refused

  pub accepted_all : setting p words ≡ Ok tt → Accepted p words (length words)
  accepted_all done =
      elim (first_bad (Writable p) words (Refused p) (writable_or_not p) (length words)) [
        | inl fine ↦ fine
        | inr (k, inside, fine, (fault, refused)) ↦ let no = one_refused k fault inside fine refused in cc
      ]

-- the plant after the first n words were written
abbrev pub partly : PlantMeaning → List ℕ → ℕ → PlantMeaning
partly p words n = record { count = p.count; top = p.top; words = take n words ++ drop n p.words }

-- one word more
partly_next : (p : PlantMeaning) (words : List ℕ) (n : ℕ) → Sound p → Accepted p words (length words) → n < length words
    → written (partly p words n) n (get_or words n 0) ≡ partly p words (n + 1)
partly_next p words n sound fine inside =
    let here = (fine n inside).0 in
    let low = (fine n inside).1 in
    let w = get_or words n 0 in
    let before = take n words in
    let long : length before ≡ n = length-take-le n words (omega arith) in
    let shape : take n words ++ drop n p.words ≡ before ++ get_or p.words n 0 ∷ drop (n + 1) p.words =
    ap (λ (l : List ℕ). before ++ l) (drop_more p.words n 0 (omega (arith, sound.2))) in
    let more : set (take n words ++ drop n p.words) n w ≡ take (n + 1) words ++ drop (n + 1) p.words =
    ap (λ (l : List ℕ). set l n w) shape
    ∙ set_at before (get_or p.words n 0) (drop (n + 1) p.words) w n long
    ∙ sym (ap (λ (l : List ℕ). l ++ drop (n + 1) p.words) (take_more words n 0 inside) ∙ append_assoc before (w ∷ []) (drop (n + 1) p.words)) in
    rw (lt-ltb n p.count here, le-leb w p.top low, more) refl

pub partly_more : (p : PlantMeaning) (words : List ℕ) (n : ℕ) → Sound p → setting p words ≡ Ok tt → n < length words
    → written (partly p words n) n (get_or words n 0) ≡ partly p words (n + 1)
partly_more p words n sound done inside = partly_next p words n sound (accepted_all p words done) inside
