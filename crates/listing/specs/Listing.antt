-- A sheet as lines of text. `decimal n` is what `{n}` writes.
--   newline           the byte that closes a line
--   fields ps e       words, each with a number after it, and then the end e
--   head_line n v     the first line of a sheet of n steps and v signals
--   signal_line i w   the line of signal i, which starts at the word w
--   effect_line i e   the line of effect i
--   spaced ks         numbers, each after a space
--   link_text o       the contributors of a link, or the word for no link, each after a space
--   need_line i n     the line of need i
--   pair_line i p     the line of pair i
--   numbered f i xs   the lines of a list of parts by f, numbered from i
--   sheet_lines s     all lines of a sheet but those of names
--   hex_digit d       the small hexadecimal digit of a number below 16
--   plain b           the byte b of a name stands for itself: printable ASCII, and no backslash
--   shown_byte b      the byte b of a name as it is shown: itself, or its two digits behind a backslash and an x
--   name_line n p bs  the line of step n, whose name has the bytes bs and begins at place p of the file
use Rattle.std.specs.Prelude.{ℕ, ◌+◌, ◌/◌, ◌%◌, Bool, if◌then◌else◌, not, ◌&&◌, List, [], ◌∷◌, ◌++◌, Option, None, Some, length, codes, decimal, ◌==◌, nat_le, nat_lt}
use Prim.Native.String.{String}
use Rattle.std.specs.List.{flat_map}
use Rattle.sets.specs.Sets.{members}
use Rattle.sheet.specs.declared.parts.Effect.{Effect}
use Rattle.sheet.specs.declared.parts.Link.{Link}
use Rattle.sheet.specs.declared.parts.Need.{Need}
use Rattle.sheet.specs.declared.parts.Pair.{Pair}
use Rattle.sheet.specs.Model.{Sheet}

abbrev pub newline : List ℕ
newline = 10 ∷ []

abbrev pub fields : List (String × ℕ) → List ℕ → List ℕ
fields [] end = end
fields (p ∷ ps) end = codes p.0 ++ (decimal p.1 ++ fields ps end)

abbrev pub head_line : ℕ → ℕ → List ℕ
head_line n v = fields (("SHEET steps ", n) ∷ (" signals ", v) ∷ []) newline

abbrev pub signal_line : ℕ → ℕ → List ℕ
signal_line i w = fields (("SIGNAL ", i) ∷ (" word ", w) ∷ []) newline

abbrev pub effect_line : ℕ → Effect → List ℕ
effect_line i e = fields (("EFFECT ", i) ∷ (" step ", e.step) ∷ (" signal ", e.signal) ∷ (" word ", e.word) ∷ []) newline

abbrev pub spaced : List ℕ → List ℕ
spaced ks = flat_map (λ k. codes " " ++ decimal k) ks

abbrev pub link_text : Option Link → List ℕ
link_text None = codes " none"
link_text (Some l) = spaced (members l.contributors)

abbrev pub need_line : ℕ → Need → List ℕ
need_line i n =
    fields (("NEED ", i) ∷ (" step ", n.step) ∷ (" signal ", n.signal) ∷ (" a ", n.condition.a) ∷ (" b ", n.condition.b) ∷ [])
    (codes " link" ++ (link_text n.link ++ newline))

abbrev pub pair_line : ℕ → Pair → List ℕ
pair_line i p = fields (("PAIR ", i) ∷ (" step ", p.earlier) ∷ (" ahead of step ", p.later) ∷ []) newline

abbrev pub numbered : {X : Type 0} → (ℕ → X → List ℕ) → ℕ → List X → List ℕ
numbered line i [] = []
numbered line i (x ∷ xs) = line i x ++ numbered line (i + 1) xs

abbrev pub sheet_lines : Sheet → List ℕ
sheet_lines s =
    head_line s.steps (length s.starts)
    ++ numbered signal_line 0 s.starts
    ++ numbered effect_line 0 s.effects
    ++ numbered need_line 0 s.needs
    ++ numbered pair_line 0 s.pairs

abbrev pub hex_digit : ℕ → ℕ
hex_digit d = if nat_lt d 10 then 48 + d else 87 + d

abbrev pub plain : ℕ → Bool
plain b = nat_le 32 b && (nat_le b 126 && not (b == 92))

abbrev pub shown_byte : ℕ → List ℕ
shown_byte b = if plain b then b ∷ [] else codes "\\x" ++ hex_digit (b / 16) ∷ hex_digit (b % 16) ∷ []

abbrev pub name_line : ℕ → ℕ → List ℕ → List ℕ
name_line n p bs = fields (("NAME step ", n) ∷ (" at ", p) ∷ []) (codes " " ++ (flat_map shown_byte bs ++ newline))
