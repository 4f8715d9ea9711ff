-- A number below 2 ^ 64 is the one that has a one at the places at which it has them.
--   bit-last      a place is tested by the last binary digit of what is left of the number there
--   of_ones-from  what the places from a on give back
--   of_ones-ones  what all places give back
use Rattle.std.specs.Prelude.{◌≡◌, ℕ, zero, suc, ◌+◌, ◌*◌, ◌/◌, ◌%◌, ◌^◌, ◌<◌, filter, ◌==◌}
use Rattle.std.specs.List.{range_with_len}
use Rattle.std.proofs.Common.{ap, sym, ◌∙◌, inl, inr, arith, pow_pos, pow-add, div-one}
use Rattle.std.proofs.Math.Arith.{mod-mul}
use Rattle.std.proofs.Math.Nat.{pow-succ', div-div-eq-div-mul, mod-eq_of_lt, mod-one}
use Rattle.std.proofs.lemmas.Nat.{and_mask}
use Rattle.std.proofs.lemmas.Bool.{cases_eq, eq-eqb, ne_eqb}
use Rattle.sets.specs.Sets.{bit, ones, of_ones, rising}

pub bit-last : (m k : ℕ) → bit m k ≡ (m / 2 ^ k % 2 == 1)
bit-last m k = ap (λ (n : ℕ). n == 1) (and_mask (m / 2 ^ k) 1)

pub of_ones-from : (m a n : ℕ) → of_ones (filter (bit m) (range_with_len a n)) ≡ (m / 2 ^ a % 2 ^ n) * 2 ^ a
of_ones-from m a zero = rw (mod-one (m / 2 ^ a)) (omega arith)
of_ones-from m a (suc n) =
    let rest = filter (bit m) (range_with_len (a + 1) n) in
    let left = m / 2 ^ a / 2 % 2 ^ n in
    let double : 2 ^ suc n ≡ 2 ^ n * 2 = omega (arith, pow-succ' 2 n) in
    let next : 2 ^ (a + 1) ≡ 2 ^ a * 2 = pow-add 2 a 1 in
    let halved : m / 2 ^ (a + 1) ≡ m / 2 ^ a / 2 = ap (λ (d : ℕ). m / d) next ∙ sym (div-div-eq-div-mul m (2 ^ a) 2) in
    let split : m / 2 ^ a % 2 ^ suc n ≡ left * 2 + m / 2 ^ a % 2 =
    ap (λ (d : ℕ). m / 2 ^ a % d) double ∙ mod-mul (m / 2 ^ a) {m = 2 ^ n} {c = 2} (pow_pos n) (omega arith) in
    let more : of_ones rest ≡ left * (2 ^ a * 2) =
    of_ones-from m (a + 1) n ∙ ap (λ (q : ℕ). (q % 2 ^ n) * 2 ^ (a + 1)) halved ∙ ap (λ (d : ℕ). left * d) next in
    let whole : m / 2 ^ a % 2 ^ suc n * 2 ^ a ≡ (left * 2 + m / 2 ^ a % 2) * 2 ^ a = ap (λ (q : ℕ). q * 2 ^ a) split in
    elim (cases_eq (m / 2 ^ a % 2) 1) [
      | inl one ↦ rw (bit-last m a ∙ eq-eqb (m / 2 ^ a % 2) 1 one, whole, one, more) (omega arith)
      | inr other ↦
          let none : m / 2 ^ a % 2 ≡ 0 = omega arith in
          rw (bit-last m a ∙ ne_eqb (m / 2 ^ a % 2) 1 other, whole, none, more) (omega arith)
    ]

pub of_ones-ones : (m : ℕ) → m < 2 ^ 64 → of_ones (ones m) ≡ m
unfolding rising
of_ones-ones m small = of_ones-from m 0 64 ∙ rw (div-one m, mod-eq_of_lt small) (omega arith)
