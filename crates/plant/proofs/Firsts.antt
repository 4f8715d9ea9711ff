-- The first place of a list at which a test fails.
use Rattle.std.proofs.Common.{◌≡◌, ℕ, zero, suc, ◌+◌, ◌<◌, ◌≤◌, ◌⊎◌, List, ◌∷◌, length, get_or, drop, refl, ap, ◌∙◌, subst, inl, inr, arith}
use Rattle.std.proofs.lemmas.List.{drop_more}
use borrow.Author.Count.{below_more}

-- the words at the first n places are good there
abbrev pub Until : (ℕ → ℕ → Type 0) → List ℕ → ℕ → Type 0
Until Good words n = (k : ℕ) → k < n → Good k (get_or words k 0)

module _ (Good : ℕ → ℕ → Type 0) (words : List ℕ) where
  -- a search that passes over what is good comes to the place n
  pub passed : {R : Type 0} (search-from : ℕ → List ℕ → R) → ((k w : ℕ) (rest : List ℕ) → Good k w → search-from k (w ∷ rest) ≡ search-from (k + 1) rest)
      → (n : ℕ) → n ≤ length words → Until Good words n → search-from 0 words ≡ search-from n (drop n words)
  passed search-from over zero h before = refl
  passed search-from over (suc n) h before =
      let next : n + 1 ≡ suc n = omega arith in
      passed search-from over n (omega arith) (λ k lt. before k (omega arith))
      ∙ ap (search-from n) (drop_more words n 0 (omega arith))
      ∙ over n (get_or words n 0) (drop (n + 1) words) (before n (omega arith))
      ∙ ap (λ (k : ℕ). search-from k (drop k words)) next

  -- all of the first n are good, or there is a first that is bad
  pub first_bad : (Bad : ℕ → ℕ → Type 0) → ((k w : ℕ) → Good k w ⊎ Bad k w) → (n : ℕ)
      → Until Good words n ⊎ ((k : ℕ) × (k < n) × Until Good words k × Bad k (get_or words k 0))
  first_bad Bad test zero = inl (λ k lt. absurd (omega arith))
  first_bad Bad test (suc n) =
      let next : n + 1 ≡ suc n = omega arith in
      elim (first_bad Bad test n) [
        | inl before ↦ elim (test n (get_or words n 0)) [
          | inl good ↦ inl (subst (Until Good words) next (below_more (λ k. Good k (get_or words k 0)) n before good))
          | inr bad ↦ inr (n, omega arith, before, bad)
        ]
        | inr (k, lt, before, bad) ↦ inr (k, omega arith, before, bad)
      ]
