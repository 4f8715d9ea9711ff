-- The rules of a sheet file: what each record keeps, and in which order the records stand.
--   IsPart x     the record is a part of the sheet: an effect, a need, a pair, a link or a name
--   Keeps s x    the rules that the record x keeps after what is said so far
--   Follow s xs  each of these records keeps the rules after what is said so far and those before it
--   Lawful xs    these records make a whole file: one header, a start word for each signal, parts in any order, the end record
use Rattle.std.specs.Prelude.{◌≡◌, ℕ, ◌<◌, ◌≤◌, false, List, [], ◌∷◌, ◌++◌, map, length, All}
use Rattle.sheet.specs.Fit.{EffectFits, SameTarget, NeedFits}
use Rattle.sets.specs.Sets.{mem}
use Rattle.records.specs.Item.{Item, header, start, effect, need, pair, link, name, end}
use Rattle.reader.specs.Said.{Said, said, nothing}

abbrev pub IsPart : Item → Type 0
IsPart (header n v) = ⊥
IsPart (start w) = ⊥
IsPart (effect e) = Unit {0}
IsPart (need w x a b) = Unit {0}
IsPart (pair e l) = Unit {0}
IsPart (link n cs) = Unit {0}
IsPart (name w bs) = Unit {0}
IsPart end = ⊥

abbrev pub Keeps : Said → Item → Type 0
-- 2 to 64 steps and 1 to 64 signals
Keeps s (header n v) = (2 ≤ n) × (n ≤ 64) × (1 ≤ v) × (v ≤ 64)
Keeps s (start w) = Unit {0}
-- of a step between start and finish, the first of that step on that signal, and at most 256
Keeps s (effect e) =
    EffectFits s.steps s.signals e
    × All (λ f. SameTarget f e → ⊥) s.effects
    × (length s.effects < 256)
-- of any step but the start, and at most 256
Keeps s (need w x a b) = NeedFits s.steps s.signals w x × (length s.needs < 256)
-- of two steps that there are, and at most 512
Keeps s (pair e l) = (e < s.steps) × (l < s.steps) × (length s.pairs < 512)
-- 1 to 64 contributors that there are, the first link of a need that there is
Keeps s (link n cs) =
    (1 ≤ length cs) × (length cs ≤ 64) × (n < length s.needs)
    × All (λ k. k < s.steps) cs
    × (mem n s.linked ≡ false)
-- 1 to 24 letters, the first name of a step that there is
Keeps s (name w bs) = (1 ≤ length bs) × (length bs ≤ 24) × (w < s.steps) × (mem w s.named ≡ false)
Keeps s end = Unit {0}

abbrev pub Follow : Said → List Item → Type 0
Follow s [] = Unit {0}
Follow s (x ∷ xs) = Keeps s x × Follow (said s x) xs

pub record Lawful (records : List Item) : Type 0 where
  pub steps : ℕ
  pub signals : ℕ
  pub words : List ℕ
  pub parts : List Item
  pub whole : records ≡ header steps signals ∷ (map start words ++ (parts ++ end ∷ []))
  pub started : length words ≡ signals
  pub of_parts : All IsPart parts
  pub kept : Follow nothing records
