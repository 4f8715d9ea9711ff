-- The binary digits of a number, and of that number with one of them changed.
--   length-digits, digit_at  how many there are, and the digit k
--   digits_zero              those of 0
--   digits_flip, panel_flip  those of a number of which one is changed
--   panel_sound              a panel keeps the law of a plant
use Rattle.std.specs.Prelude.{◌≡◌, ℕ, zero, suc, ◌+◌, ◌*◌, ◌/◌, ◌%◌, ◌^◌, ◌<◌, ◌≤◌, ◌≢◌, List, ◌∷◌, length, replicate, bit_xor, slice_index, slice_set, refl}
use Rattle.std.proofs.Common.{sym, ap, ◌∙◌, arith, length-set, shr-shr, ext_get_or}
use Rattle.std.proofs.lemmas.Nat.{one_shl}
use Rattle.std.proofs.lemmas.Nat.Bits.{bit_at_xor, bit_at-pow_same, bit_at-pow_other}
use Rattle.std.proofs.lemmas.Grind.{common_steps}
use Rattle.plant.specs.declared.panel.Panel.{Panel}
use Rattle.plant.specs.Meaning.{Sound}
use Rattle.plant.specs.Plants.{digits, panel_meaning}

pub length-digits : (n m : ℕ) → length (digits n m) ≡ n
unfolding digits
length-digits zero m = refl
length-digits (suc n) m = ap suc (length-digits n (m / 2))

-- the digit k
pub digit_at : (n m k : ℕ) → k < n → slice_index (digits n m) k ≡ m / 2 ^ k % 2
unfolding digits
digit_at zero m k h = absurd (omega arith)
digit_at (suc n) m zero h = omega arith
digit_at (suc n) m (suc k) h =
    let next : 1 + k ≡ suc k = omega arith in
    digit_at n (m / 2) k (omega arith) ∙ ap (λ (x : ℕ). x % 2) (shr-shr m 1 k) ∙ ap (λ (x : ℕ). m / 2 ^ x % 2) next

pub digits_zero : (n : ℕ) → digits n 0 ≡ replicate n 0
unfolding digits
digits_zero zero = refl
digits_zero (suc n) = ap (λ (r : List ℕ). 0 ∷ r) (digits_zero n)

-- to flip the digit s leaves every other
flip_other : (m s k : ℕ) → k ≢ s → bit_xor m (2 ^ s) / 2 ^ k % 2 ≡ m / 2 ^ k % 2
flip_other m s k ne = omega (arith, bit_at_xor m (2 ^ s) k, bit_at-pow_other s k ne)

-- and that digit becomes the other one
flip_same : (m s w : ℕ) → w ≤ 1 → m / 2 ^ s % 2 ≢ w → bit_xor m (2 ^ s) / 2 ^ s % 2 ≡ w
flip_same m s w small ne = omega (arith, bit_at_xor m (2 ^ s) s, bit_at-pow_same s)

-- two numbers that differ in no digit but s
digits-set : (n m o s w : ℕ) → s < n → ((k : ℕ) → k ≢ s → o / 2 ^ k % 2 ≡ m / 2 ^ k % 2) → o / 2 ^ s % 2 ≡ w → digits n o ≡ slice_set (digits n m) s w
digits-set n m o s w h other here =
    ext_get_or 0 (digits n o) (slice_set (digits n m) s w) (length-digits n o ∙ sym (length-set (digits n m) s w ∙ length-digits n m)) same
  where
    same : (k : ℕ) → k < length (digits n o) → slice_index (digits n o) k ≡ slice_index (slice_set (digits n m) s w) k
    same k lt = grind (arith, common_steps, digit_at n o k, digit_at n m k, length-digits n m, length-digits n o, other k)

-- a digit that is not w becomes w when it is flipped
pub digits_flip : (n m s w : ℕ) → s < n → w ≤ 1 → slice_index (digits n m) s ≢ w → digits n (bit_xor m (2 ^ s)) ≡ slice_set (digits n m) s w
digits_flip n m s w inside small ne =
    digits-set n m (bit_xor m (2 ^ s)) s w inside (flip_other m s) (flip_same m s w small (λ e. ne (digit_at n m s inside ∙ e)))

-- the same in the code's words
pub panel_flip : (m s w : ℕ) → s < 128 → w ≤ 1 → slice_index (digits 128 m) s ≢ w → digits 128 (bit_xor m (1 * 2 ^ s % 2 ^ 128)) ≡ slice_set (digits 128 m) s w
panel_flip m s w inside small ne =
    ap (λ (x : ℕ). digits 128 (bit_xor m x)) (one_shl s 128 inside) ∙ digits_flip 128 m s w inside small ne

pub panel_sound : (p : Panel) → Sound (panel_meaning p)
panel_sound p =
    (omega arith, omega arith, length-digits 128 p.bits, λ k h. rw (digit_at 128 p.bits k h) (omega arith))
