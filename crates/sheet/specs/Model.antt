-- A sheet as a record of lists.
--   Sheet       the steps' number, the start word of each signal, the effects, needs and pairs in file order
--   model_of p  the sheet of these parts, as the code holds them
use Rattle.std.specs.Prelude.{ℕ, List, vec_items}
use Rattle.sheet.specs.declared.parts.Effect.{Effect}
use Rattle.sheet.specs.declared.parts.Need.{Need}
use Rattle.sheet.specs.declared.parts.Pair.{Pair}
use Rattle.sheet.specs.declared.parts.Parts.{Parts}

pub record Sheet : Type 0 where
  pub steps : ℕ
  pub starts : List ℕ
  pub effects : List Effect
  pub needs : List Need
  pub pairs : List Pair

abbrev pub model_of : Parts → Sheet
model_of p =
    record { steps = p.steps; starts = vec_items p.starts; effects = vec_items p.effects; needs = vec_items p.needs; pairs = vec_items p.pairs }
