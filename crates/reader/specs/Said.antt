-- What the records of a file say so far.
--   Said            the numbers of steps and signals, the lists of the sheet, the needs that have a link record, the steps that have a name
--   nothing         what no record says
--   said s x        what is said with one record more
--   said_by past    what a list of records says, the newest first
--   sheet_of s      the sheet that is said
--   open_need       a need without a link
--   linked_by cs n  the need n with these contributors
use Rattle.std.specs.Prelude.{ℕ, List, [], ◌∷◌, ◌++◌, None, slice_index_or, slice_set}
use Rattle.sheet.specs.declared.parts.Effect.{Effect}
use Rattle.sheet.specs.declared.parts.Need.{Need}
use Rattle.sheet.specs.declared.parts.Pair.{Pair}
use Rattle.sheet.specs.Limits.{no_need}
use Rattle.sheet.specs.Links.{link_by}
use Rattle.sheet.specs.Model.{Sheet}
use Rattle.sets.specs.Sets.{mem, rising}
use Rattle.records.specs.Item.{Item, header, start, effect, need, pair, link, name, end}

pub record Said : Type 0 where
  pub steps : ℕ
  pub signals : ℕ
  pub starts : List ℕ
  pub effects : List Effect
  pub needs : List Need
  pub pairs : List Pair
  pub linked : List ℕ
  pub named : List ℕ

abbrev pub nothing : Said
nothing = record { steps = 0; signals = 0; starts = []; effects = []; needs = []; pairs = []; linked = []; named = [] }

abbrev pub open_need : ℕ → ℕ → ℕ → ℕ → Need
open_need s x a b = record { step = s; signal = x; condition = record { a = a; b = b }; link = None }

abbrev pub linked_by : List ℕ → Need → Need
linked_by cs n = record n { link = link_by (rising (λ k. mem k cs)) }

abbrev pub said : Said → Item → Said
said s (header n v) = record s { steps = n; signals = v }
said s (start w) = record s { starts = s.starts ++ w ∷ [] }
said s (effect e) = record s { effects = s.effects ++ e ∷ [] }
said s (need w x a b) = record s { needs = s.needs ++ open_need w x a b ∷ [] }
said s (pair e l) = record s { pairs = s.pairs ++ record { earlier = e; later = l } ∷ [] }
said s (link n cs) =
    record s { needs = slice_set s.needs n (linked_by cs (slice_index_or s.needs n no_need)); linked = n ∷ s.linked }
said s (name w bs) = record s { named = w ∷ s.named }
said s end = s

abbrev pub said_by : List Item → Said
said_by [] = nothing
said_by (x ∷ past) = said (said_by past) x

abbrev pub sheet_of : Said → Sheet
sheet_of s = record { steps = s.steps; starts = s.starts; effects = s.effects; needs = s.needs; pairs = s.pairs }
