-- Cases that the rules of the gauges name.
--   cases        for any signal and any condition a, b: what a gauge says, and what the rules say
--   MarkedCases  the two agree in every row
use Rattle.std.specs.Prelude.{◌≡◌, ℕ, Bool, true, false, List, [], ◌∷◌, map}
use Rattle.gauge.specs.Meaning.{positions, levels}

abbrev pub cases : ℕ → ℕ → ℕ → List (Bool × Bool)
cases signal a b =
    -- word 15 meets a = 32768 with b = 0
    (positions signal 32768 0 15, true)
    -- word 16 meets no condition
    ∷ (positions signal a b 16, false)
    -- word 65535 meets -1 to 0, and word 32768 does not
    ∷ (levels signal 65535 0 65535, true)
    ∷ (levels signal 65535 0 32768, false)
    ∷ []

abbrev pub MarkedCases : Type 0
MarkedCases = (signal a b : ℕ) → map (λ row. row.0) (cases signal a b) ≡ map (λ row. row.1) (cases signal a b)
