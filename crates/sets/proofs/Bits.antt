-- The bits of a number with one bit more, and the rising list of the numbers that pass a test.
use Rattle.std.proofs.Common.{◌≡◌, w64, ℕ, zero, suc, ◌+◌, ◌-◌, ◌*◌, ◌/◌, ◌%◌, ◌^◌, ◌<◌, ◌≤◌, Bool, true, false, if◌then◌else◌, ◌&&◌, ◌||◌, nat_lt, fold, ◌==◌, List, [], ◌∷◌, ◌≢◌, ◌⊎◌, filter, All, sym, refl, ap, ◌∙◌, subst, inl, inr, arith, pow_pos}
use Rattle.std.proofs.Math.Bool.{or-false}
use native.Mathlib.Nat.{mod-eq_of_lt, zero-div}
use Rattle.std.proofs.Math.Pow.{shr_lt}
use lib.Bits.{bit_or, bit_xor, or_mod, or_shr}
use Rattle.std.specs.List.{range_with_len}
use Rattle.std.proofs.lemmas.Bool.{lt-ltb, le-ltb, cases_lt, cases_eq, eq-eqb, eqb-true, ne_eqb, or_cases, or_left, false≢true}
use Rattle.std.proofs.lemmas.List.Elements.{All-cons, All-nil}
use Rattle.std.proofs.lemmas.Nat.Bits.{bit_at-trailing_zeros, bit_at_xor, bit_at-pow_same, bit_at-pow_other}
use Rattle.std.specs.Int.{trailing_zeros}
use Rattle.std.proofs.lemmas.Nat.{one_shl, or_lt, xor_lt, shr-shr}
use Rattle.sets.specs.declared.index_set.IndexSet.{IndexSet}
use Rattle.sets.specs.Sets.{added, bit, empty_set, mem, members, ones, of_ones, rising, Rising, set_of}
use Rattle.sets.specs.Ones.{bit-last, of_ones-from, of_ones-ones}

two : (n : ℕ) → n < 2 → (n ≡ 0) ⊎ (n ≡ 1)
two zero h = inl refl
two (suc zero) h = inr refl
two (suc (suc n)) h = absurd (omega arith)

or_low : (p q : ℕ) → p < 2 → q < 2 → (bit_or p q == 1) ≡ (q == 1 || p == 1)
or_low p q hp hq =
    elim (two p hp) [
      | inl e ↦ rw e (elim (two q hq) [ inl f ↦ rw f | inr f ↦ rw f ])
      | inr e ↦ rw e (elim (two q hq) [ inl f ↦ rw f | inr f ↦ rw f ])
    ]

bit-bit_or : (a b i : ℕ) → bit (bit_or a b) i ≡ (bit b i || bit a i)
bit-bit_or a b i =
    bit-last (bit_or a b) i
    ∙ ap (λ (n : ℕ). n % 2 == 1) (or_shr a b i)
    ∙ ap (λ (n : ℕ). n == 1) (or_mod (a / 2 ^ i) (b / 2 ^ i) 1)
    ∙ or_low ((a / 2 ^ i) % 2) ((b / 2 ^ i) % 2) (omega arith) (omega arith)
    ∙ ap (λ (t : Bool). t || (a / 2 ^ i) % 2 == 1) (sym (bit-last b i))
    ∙ ap (λ (t : Bool). bit b i || t) (sym (bit-last a i))

bit-pow : (s k : ℕ) → bit (2 ^ s) k ≡ (k == s)
bit-pow s k =
    bit-last (2 ^ s) k
    ∙ elim (cases_eq k s) [
      | inl e ↦ rw e (ap (λ (n : ℕ). n == 1) (bit_at-pow_same s) ∙ sym (eq-eqb s s refl))
      | inr ne ↦ ap (λ (n : ℕ). n == 1) (bit_at-pow_other s k ne) ∙ sym (ne_eqb k s ne)
    ]

-- one bit more
bit_more : (m s k : ℕ) → s < 64 → bit (bit_or m ((1 * 2 ^ s) % 2 ^ 64)) k ≡ (k == s || bit m k)
bit_more m s k h =
    ap (λ (n : ℕ). bit (bit_or m n) k) (one_shl s 64 h) ∙ bit-bit_or m (2 ^ s) k ∙ ap (λ (t : Bool). t || bit m k) (bit-pow s k)

kept_same : (p q : ℕ → Bool) (a n : ℕ) → ((k : ℕ) → a ≤ k → k < a + n → p k ≡ q k) → filter p (range_with_len a n) ≡ filter q (range_with_len a n)
kept_same p q a zero same = refl
kept_same p q a (suc n) same =
    let e : p a ≡ q a = same a (omega arith) (omega arith) in
    rw (e, kept_same p q (a + 1) n (λ k low high. same k (omega arith) (omega arith)))

-- two tests that agree below 64 give one list
pub rising_same : (p q : ℕ → Bool) → ((k : ℕ) → k < 64 → p k ≡ q k) → rising p ≡ rising q
unfolding rising
rising_same p q same = kept_same p q 0 64 (λ k low high. same k (omega arith))

mem_out : (p : ℕ → Bool) (j a n : ℕ) → ((k : ℕ) → a ≤ k → k < a + n → j ≢ k) → mem j (filter p (range_with_len a n)) ≡ false
mem_out p j a zero out = refl
mem_out p j a (suc n) out =
    let more = filter p (range_with_len (a + 1) n) in
    let rest : mem j more ≡ false = mem_out p j (a + 1) n (λ k low high. out k (omega arith) (omega arith)) in
    elim (p a) as (λ b. mem j (if b then a ∷ more else more) ≡ false)
    [ true ↦ rw (ne_eqb j a (out a (omega arith) (omega arith))) rest | false ↦ rest ]

mem_kept : (p : ℕ → Bool) (j a n : ℕ) → a ≤ j → j < a + n → mem j (filter p (range_with_len a n)) ≡ p j
mem_kept p j a zero low high = absurd (omega arith)
mem_kept p j a (suc n) low high =
    let more = filter p (range_with_len (a + 1) n) in
    elim (cases_eq j a) [
      | inl same ↦
          rw same
          (elim (p a) as (λ b. mem a (if b then a ∷ more else more) ≡ b)
          [ true ↦ or_left (a == a) _ (eq-eqb a a refl) | false ↦ mem_out p a (a + 1) n (λ k after _ e. absurd (omega arith)) ])
      | inr other ↦
          let rest : mem j more ≡ p j = mem_kept p j (a + 1) n (omega arith) (omega arith) in
          elim (p a) as (λ b. mem j (if b then a ∷ more else more) ≡ p j)
          [ true ↦ rw (ne_eqb j a other) rest | false ↦ rest ]
    ]

-- a number is in the list exactly if it passes the test
pub mem-rising : (p : ℕ → Bool) (k : ℕ) → k < 64 → mem k (rising p) ≡ p k
unfolding rising
mem-rising p k h = mem_kept p k 0 64 (omega arith) (omega arith)

pub mem-rising_past : (p : ℕ → Bool) (k : ℕ) → 64 ≤ k → mem k (rising p) ≡ false
unfolding rising
mem-rising_past p k h = mem_out p k 0 64 (λ j _ inside e. absurd (omega arith))

-- a member of a mask's set is a place below 64 that has a one
pub mem_of_mask : (k m : ℕ) → mem k (ones m) ≡ (nat_lt k 64 && bit m k)
mem_of_mask k m =
    elim (cases_lt k 64) [
      | inl h ↦ rw (lt-ltb k 64 h) (mem-rising (bit m) k h)
      | inr past ↦ rw (le-ltb k 64 past) (mem-rising_past (bit m) k past)
    ]

-- the members that a list of numbers below 64 names are that list again
pub rising_again : (p : ℕ → Bool) → Rising (rising p)
rising_again p = rising_same _ _ (λ k h. sym (mem-rising p k h))

pub ones_rise : (m : ℕ) → Rising (ones m)
ones_rise m = rising_again (bit m)

-- a number of which no bit is set is 0
pub no_ones : (m : ℕ) → m < 2 ^ 64 → ones m ≡ [] → m ≡ 0
no_ones m small none = sym (of_ones-ones m small) ∙ ap of_ones none

pub ones_of_none : ones 0 ≡ []
unfolding rising
ones_of_none = refl

-- a mask with one bit more, and its set
module _ (m i : ℕ) (inside : i < 64) where
  pub small_more : m < 2 ^ 64 → bit_or m ((1 * 2 ^ i) % 2 ^ 64) < 2 ^ 64
  small_more small = or_lt 64 m _ small (omega arith)

  pub ones_more : ones (bit_or m ((1 * 2 ^ i) % 2 ^ 64)) ≡ rising (λ j. j == i || mem j (ones m))
  ones_more =
      rising_same _ _ (λ k h. bit_more m i k inside ∙ ap (λ (t : Bool). k == i || t) (sym (mem-rising (bit m) k h)))

  -- the number that has those ones
  pub mask_more : m < 2 ^ 64 → bit_or m ((1 * 2 ^ i) % 2 ^ 64) ≡ of_ones (rising (λ j. j == i || mem j (ones m)))
  mask_more small = sym (of_ones-ones _ (small_more small)) ∙ ap of_ones ones_more

  pub mem_of_more : (k : ℕ) → k < 64 → mem k (ones (bit_or m ((1 * 2 ^ i) % 2 ^ 64))) ≡ (k == i || mem k (ones m))
  mem_of_more k h = ap (mem k) ones_more ∙ mem-rising (λ j. j == i || mem j (ones m)) k h

kept_none : (p : ℕ → Bool) (a n : ℕ) → ((k : ℕ) → a ≤ k → k < a + n → p k ≡ false) → filter p (range_with_len a n) ≡ []
kept_none p a zero none = refl
kept_none p a (suc n) none =
    rw (none a (omega arith) (omega arith)) (kept_none p (a + 1) n (λ k low high. none k (omega arith) (omega arith)))

kept_all : (P : ℕ → Type 0) (p : ℕ → Bool) (a n : ℕ) → ((k : ℕ) → a ≤ k → k < a + n → p k ≡ true → P k) → All P (filter p (range_with_len a n))
kept_all P p a zero each = All-nil P
kept_all P p a (suc n) each = go (p a) refl (kept_all P p (a + 1) n (λ k low high e. each k (omega arith) (omega arith) e))
  where
    more : List ℕ
    more = filter p (range_with_len (a + 1) n)

    go : (b : Bool) → p a ≡ b → All P more → All P (if b then a ∷ more else more)
    go true e rest = All-cons P a more (each a (omega arith) (omega arith) e) rest
    go false e rest = rest

pub mem_passes : (P : ℕ → Type 0) (xs : List ℕ) (k : ℕ) → All P xs → mem k xs ≡ true → P k
mem_passes P [] k all e = absurd (false≢true e)
mem_passes P (x ∷ xs) k all e =
    elim (or_cases (k == x) (mem k xs) e) [
      | inl same ↦ subst P (sym (eqb-true k x same)) (all 0 x (omega arith))
      | inr rest ↦ mem_passes P xs k (λ i d h. all (suc i) d (omega arith)) rest
    ]

product_zero : (q p : ℕ) → 0 < p → q * p ≡ 0 → q ≡ 0
product_zero zero p some e = refl
product_zero (suc q) p some e = absurd (omega arith)

-- a place past which nothing is left of a number has no one
no_one : (m b k : ℕ) → m / 2 ^ b ≡ 0 → b ≤ k → bit m k ≡ false
no_one m b k none past =
    let e : b + (k - b) ≡ k = omega arith in
    let nothing : m / 2 ^ k ≡ 0 = ap (λ (j : ℕ). m / 2 ^ j) (sym e) ∙ sym (shr-shr m b (k - b)) ∙ rw none (zero-div (2 ^ (k - b))) in
    bit-last m k ∙ ap (λ (n : ℕ). n % 2 == 1) nothing

-- all members of a mask's set are below b exactly if nothing is left of the mask when it is shifted by b
module _ (m b : ℕ) (small : m < 2 ^ 64) (inside : b < 64) where
  pub nothing_left_below : All (λ k. k < b) (ones m) → m / 2 ^ b ≡ 0
  nothing_left_below below =
      let whole : (64 - b) + b ≡ 64 = omega arith in
      let left : m / 2 ^ b < 2 ^ (64 - b) = shr_lt (64 - b) b (rw whole small) in
      let empty : filter (bit m) (range_with_len b (64 - b)) ≡ [] = kept_none (bit m) b (64 - b) (λ k low high. none k low (omega arith) (bit m k) refl) in
      let zero_left = product_zero (m / 2 ^ b % 2 ^ (64 - b)) (2 ^ b) (pow_pos b) (sym (of_ones-from m b (64 - b)) ∙ ap of_ones empty) in
      sym (mod-eq_of_lt left) ∙ zero_left
    where
      none : (k : ℕ) → b ≤ k → k < 64 → (t : Bool) → bit m k ≡ t → t ≡ false
      none k low high false e = refl
      none k low high true e =
          let under : k < b = mem_passes (λ j. j < b) (ones m) k below (mem-rising (bit m) k high ∙ e) in
          absurd (omega arith)

  pub below_nothing_left : m / 2 ^ b ≡ 0 → All (λ k. k < b) (ones m)
  unfolding rising
  below_nothing_left none = kept_all (λ k. k < b) (bit m) 0 64 (λ k low high e. under k e)
    where
      under : (k : ℕ) → bit m k ≡ true → k < b
      under k e =
          elim (cases_lt k b) [
            | inl h ↦ h
            | inr past ↦ absurd (false≢true (sym (no_one m b k none past) ∙ e))
          ]

-- all members of a set are below 64
pub below_64 : (m : ℕ) → All (λ k. k < 64) (ones m)
unfolding rising
below_64 m = kept_all (λ k. k < 64) (bit m) 0 64 (λ k low high e. high)

-- a set with some numbers more, one by one
or_turn : (x y z : Bool) → (x || (y || z)) ≡ ((y || x) || z)
or_turn true true z = refl
or_turn true false z = refl
or_turn false y z = sym (ap (λ (t : Bool). t || z) (or-false y))

none_rising : rising (λ _. false) ≡ []
unfolding rising
none_rising = refl

-- a number has ones at the places that a list names, and at no other
bits_of : (cs : List ℕ) → (m : ℕ) × (m < 2 ^ 64) × (ones m ≡ rising (λ k. mem k cs))
bits_of [] = (0, omega arith, ones_of_none ∙ sym none_rising)
bits_of (c ∷ cs) =
    let fewer = bits_of cs in
    elim (cases_lt c 64) [
      | inl inside ↦ (
        _,
        small_more fewer.0 c inside fewer.1,
        ones_more fewer.0 c inside
            ∙ rising_same _ _ (λ k h. ap (λ (t : Bool). k == c || t) (ap (mem k) fewer.2 ∙ mem-rising (λ j. mem j cs) k h)),
      )
      | inr past ↦ (
        fewer.0,
        fewer.1,
        fewer.2 ∙ rising_same _ _ (λ k h. sym (ap (λ (t : Bool). t || mem k cs) (ne_eqb k c (λ e. omega arith)))),
      )
    ]

-- the list of a set is that of the number with those ones
pub ones-of_ones : (l : List ℕ) → Rising l → ones (of_ones l) ≡ l
ones-of_ones l rises =
    let bits = bits_of l in
    let same : ones bits.0 ≡ l = bits.2 ∙ sym rises in
    ap ones (ap of_ones (sym same) ∙ of_ones-ones bits.0 bits.1) ∙ same

pub members-rising : (p : ℕ → Bool) → members (set_of (rising p)) ≡ rising p
members-rising p = ones-of_ones (rising p) (rising_again p)

added-rising : (p : ℕ → Bool) (c : ℕ) → added (set_of (rising p)) c ≡ set_of (rising (λ k. k == c || p k))
added-rising p c =
    elim (cases_lt c 64) [
      | inl inside ↦
          rw (lt-ltb c 64 inside)
          (ap set_of
          (rising_same _ _ (λ k h. ap (λ (t : Bool). k == c || t) (ap (mem k) (members-rising p) ∙ mem-rising p k h))))
      | inr past ↦
          rw (le-ltb c 64 past)
          (ap set_of (rising_same _ _ (λ k h. sym (ap (λ (t : Bool). t || p k) (ne_eqb k c (λ e. omega arith))))))
    ]

folded : (p : ℕ → Bool) (cs : List ℕ) → fold added (set_of (rising p)) cs ≡ set_of (rising (λ k. mem k cs || p k))
folded p [] = refl
folded p (c ∷ cs) =
    ap (λ (s : IndexSet). fold added s cs) (added-rising p c) ∙ folded (λ k. k == c || p k) cs
    ∙ ap set_of (rising_same _ _ (λ k h. or_turn (mem k cs) (k == c) (p k)))

pub of_numbers : (cs : List ℕ) → fold added empty_set cs ≡ set_of (rising (λ k. mem k cs))
of_numbers cs =
    ap (λ (l : List ℕ). fold added (set_of l) cs) (sym none_rising) ∙ folded (λ _. false) cs
    ∙ ap set_of (rising_same _ _ (λ k h. or-false (mem k cs)))

-- the first that passes, and the others
first_kept : (p q : ℕ → Bool) (k a n : ℕ) → a ≤ k → k < a + n → p k ≡ true → q k ≡ false → ((i : ℕ) → i < k → p i ≡ false) → ((i : ℕ) → i ≢ k → q i ≡ p i)
    → filter p (range_with_len a n) ≡ k ∷ filter q (range_with_len a n)
first_kept p q k a zero low high here gone below others = absurd (omega arith)
first_kept p q k a (suc n) low high here gone below others =
    elim (cases_eq a k) [
      | inl same ↦
          let first : p a ≡ true = ap p same ∙ here in
          let left : q a ≡ false = ap q same ∙ gone in
          rw (first, left)
          (ap (λ (r : List ℕ). a ∷ r) (kept_same p q (a + 1) n (λ i after _. sym (others i (λ e. omega arith)))) ∙ ap (λ (x : ℕ). x ∷ filter q (range_with_len (a + 1) n)) same)
      | inr before ↦
          let under : a < k = omega arith in
          rw (below a under, others a before ∙ below a under) (first_kept p q k (a + 1) n (omega arith) (omega arith) here gone below others)
    ]

one_is : (m k : ℕ) → m / 2 ^ k % 2 ≡ 1 → bit m k ≡ true
one_is m k e = bit-last m k ∙ eq-eqb (m / 2 ^ k % 2) 1 e

none_is : (m k : ℕ) → m / 2 ^ k % 2 ≡ 0 → bit m k ≡ false
none_is m k e = bit-last m k ∙ ne_eqb (m / 2 ^ k % 2) 1 (λ one. omega arith)

-- the set of a mask is its lowest place and the set of what is left without it
pub lowest_first : (m : ℕ) → 0 < m → m < 2 ^ 64 → ones m ≡ trailing_zeros w64 m ∷ ones (bit_xor m ((1 * 2 ^ trailing_zeros w64 m) % 2 ^ 64))
unfolding rising
lowest_first m some small =
    let k = trailing_zeros w64 m in
    let lowest = bit_at-trailing_zeros w64 m some small in
    let less : bit_xor m ((1 * 2 ^ k) % 2 ^ 64) ≡ bit_xor m (2 ^ k) = ap (bit_xor m) (one_shl k 64 lowest.0) in
    first_kept (bit m) (bit (bit_xor m (2 ^ k))) k 0 64 (omega arith) lowest.0 (one_is m k lowest.1)
    (none_is _ k (omega (arith, bit_at_xor m (2 ^ k) k, bit_at-pow_same k, lowest.1))) (λ i under. none_is m i (lowest.2 i under))
    (λ i other. bit-last _ i ∙ ap (λ (n : ℕ). n == 1) (omega (arith, bit_at_xor m (2 ^ k) i, bit_at-pow_other k i other)) ∙ sym (bit-last m i))
    ∙ ap (λ (n : ℕ). k ∷ ones n) (sym less)

pub small_less : (m : ℕ) → 0 < m → m < 2 ^ 64 → bit_xor m ((1 * 2 ^ trailing_zeros w64 m) % 2 ^ 64) < 2 ^ 64
small_less m some small = xor_lt 64 m _ small (omega arith)

pub ruleset membership = (mem_of_mask, ones_rise)

pub ruleset emptiness = (no_ones, ones_of_none, ones_rise)

pub ruleset bounds = (below_64, nothing_left_below, below_nothing_left)

pub ruleset one_more = (small_more, mask_more, mem_of_more, ones_rise)

pub ruleset lowest = (ones_of_none, lowest_first, small_less)
