-- The limits of a sheet, as its parts keep them.
--   CountsFit p   neither more nor fewer steps, signals and parts than there may be
--   EffectsFit p  every effect fits, and no two are of one step on one signal
--   NeedsFit p    every need fits, and so does its link
--   PairsFit p    every pair fits
use Rattle.std.specs.Prelude.{◌≤◌, All, AllPairs, vec_items, vec_len}
use Rattle.sheet.specs.declared.parts.Need.{Need}
use Rattle.sheet.specs.declared.parts.Parts.{Parts}
use Rattle.sheet.specs.Fit.{EffectFits, SameTarget, NeedFits, LinkFits, PairFits}

pub record CountsFit (p : Parts) : Type 0 where
  pub step_count : (2 ≤ p.steps) × (p.steps ≤ 64)
  pub signal_count : (1 ≤ vec_len p.starts) × (vec_len p.starts ≤ 64)
  pub part_counts : (vec_len p.effects ≤ 256) × (vec_len p.needs ≤ 256) × (vec_len p.pairs ≤ 512)

pub record EffectsFit (p : Parts) : Type 0 where
  pub fit : All (EffectFits p.steps (vec_len p.starts)) (vec_items p.effects)
  pub single : AllPairs (λ e f. SameTarget e f → ⊥) (vec_items p.effects)

pub record NeedsFit (p : Parts) : Type 0 where
  pub fit : All (λ (n : Need). NeedFits p.steps (vec_len p.starts) n.step n.signal) (vec_items p.needs)
  pub links : All (λ (n : Need). LinkFits p.steps n.link) (vec_items p.needs)

abbrev pub PairsFit : Parts → Type 0
PairsFit p = All (PairFits p.steps) (vec_items p.pairs)
