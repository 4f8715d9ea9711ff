-- What a call puts behind a text.
--   Appended old new bytes  the new text is the old one with these bytes behind it
use Rattle.std.specs.Prelude.{◌≡◌, ℕ, List, ◌++◌, string_bytes, String}

abbrev pub Appended : {Z : Type 0} → String Z → String Z → List ℕ → Type 0
Appended old new bytes = string_bytes new ≡ string_bytes old ++ bytes
