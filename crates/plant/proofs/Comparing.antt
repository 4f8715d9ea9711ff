-- The search for the first difference finds the lowest.
use Rattle.std.proofs.Common.{◌≡◌, ℕ, ◌+◌, ◌<◌, ◌≤◌, true, false, List, ◌∷◌, length, get_or, drop, Some, None, Option, sym, ap, ◌∙◌, subst, inl, inr, arith}
use Rattle.std.proofs.lemmas.List.{drop_all, drop_more}
use Rattle.std.proofs.lemmas.Bool.{cases_Bool}
use Rattle.plant.specs.Meaning.{PlantMeaning}
use Rattle.plant.specs.Difference.{holds, difference_from, first_difference, Agrees, Difference, DifferenceExactly}
use Rattle.plant.proofs.Firsts.{passed, first_bad}

module _ (p : PlantMeaning) (words : List ℕ) where
  abbrev Holds : ℕ → ℕ → Type 0
  Holds k w = holds p k w ≡ true

  -- signals that hold their words are passed over
  over : (k w : ℕ) (rest : List ℕ) → holds p k w ≡ true → difference_from p k (w ∷ rest) ≡ difference_from p (k + 1) rest
  over k w rest here = rw here

  skip : (n : ℕ) → n ≤ length words → Agrees p words n → first_difference p words ≡ difference_from p n (drop n words)
  skip = passed Holds words (difference_from p) over

  pub one_differs : (n : ℕ) → n < length words → Agrees p words n → holds p n (get_or words n 0) ≡ false → first_difference p words ≡ Some n
  one_differs n inside agrees differs =
      skip n (omega arith) agrees ∙ ap (difference_from p n) (drop_more words n 0 inside) ∙ rw differs

  pub all_agree : Agrees p words (length words) → first_difference p words ≡ None
  all_agree agrees =
      skip (length words) (omega arith) agrees ∙ ap (difference_from p (length words)) (drop_all (length words) words (omega arith))

  found : (r : Option ℕ) → Difference p words r → first_difference p words ≡ r
  found (Some signal) (inside, differs, agrees) = one_differs signal inside agrees differs
  found None agrees = all_agree agrees

  lowest : (r : Option ℕ) → first_difference p words ≡ r → Difference p words r
  lowest r e =
      elim (first_bad Holds words (λ k w. holds p k w ≡ false) (λ k w. cases_Bool (holds p k w)) (length words)) [
        | inl agrees ↦ subst (Difference p words) (sym (found None agrees) ∙ e) agrees
        | inr (signal, inside, agrees, differs) ↦ subst (Difference p words) (sym (found (Some signal) (inside, differs, agrees)) ∙ e) (inside, differs, agrees)
      ]

pub difference_exactly : DifferenceExactly
difference_exactly p words r = (lowest p words r, found p words r)
