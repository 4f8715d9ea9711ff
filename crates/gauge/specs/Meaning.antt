-- What gauges mean.
--   Words         a set of words
--   GaugeMeaning  for each signal and condition (two numbers, a and b) the set of words that meet it
--   positions     the words below 16 at which a has a 1, if b is 0; bit_at a 0 is the lowest bit
--   signed w      the signed number that a word of 16 bits is, in two's complement
--   levels        the words from a to b, all three signed
--   split k g h   g for the signals below k, h for the others
--   standard      positions below 32, levels from 32 on
use Rattle.std.specs.Prelude.{ℕ, Bool, if◌then◌else◌, ◌&&◌, ℤ, pos, ◌-ℤ◌, ◌==◌, int_le, nat_lt}
use Rattle.std.specs.Int.{bit_at}

abbrev pub Words : Type 0
Words = ℕ → Bool

abbrev pub GaugeMeaning : Type 0
GaugeMeaning = ℕ → ℕ → ℕ → Words

abbrev pub positions : GaugeMeaning
positions signal a b word = nat_lt word 16 && (bit_at a word == 1 && b == 0)

abbrev pub signed : ℕ → ℤ
signed word = if nat_lt word 32768 then pos word else (pos word -ℤ pos 65536)

abbrev pub levels : GaugeMeaning
levels signal a b word = int_le (signed a) (signed word) && int_le (signed word) (signed b)

abbrev pub split : ℕ → GaugeMeaning → GaugeMeaning → GaugeMeaning
split k first second signal a b word = if nat_lt signal k then first signal a b word else second signal a b word

abbrev pub standard : GaugeMeaning
standard = split 32 positions levels
