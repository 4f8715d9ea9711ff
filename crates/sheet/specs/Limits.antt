-- The limits that every sheet keeps.
--   no_need   what stands past the end of a list of needs
--   Limits s  the sheet s keeps them all
use Rattle.std.specs.Prelude.{◌≤◌, None, length, All, AllPairs}
use Rattle.sheet.specs.declared.parts.Need.{Need}
use Rattle.sheet.specs.Fit.{EffectFits, SameTarget, NeedFits, LinkFits, PairFits}
use Rattle.sheet.specs.Model.{Sheet}

abbrev pub no_need : Need
no_need = record { step = 0; signal = 0; condition = record { a = 0; b = 0 }; link = None }

pub record Limits (s : Sheet) : Type 0 where
  -- 2 to 64 steps
  pub step_count : (2 ≤ s.steps) × (s.steps ≤ 64)
  -- 1 to 64 signals
  pub signal_count : (1 ≤ length s.starts) × (length s.starts ≤ 64)
  -- at most 256 effects, 256 needs and 512 pairs
  pub part_counts : (length s.effects ≤ 256) × (length s.needs ≤ 256) × (length s.pairs ≤ 512)
  -- neither start nor finish has an effect, and each effect is on a signal that there is
  pub effects_fit : All (EffectFits s.steps (length s.starts)) s.effects
  -- a step has at most one effect on a signal
  pub effects_single : AllPairs (λ e f. SameTarget e f → ⊥) s.effects
  -- the start has no need, and each need is on a signal that there is
  pub needs_fit : All (λ (n : Need). NeedFits s.steps (length s.starts) n.step n.signal) s.needs
  -- each contributor of a link is a step that there is
  pub links_fit : All (λ (n : Need). LinkFits s.steps n.link) s.needs
  -- each pair is of two steps that there are
  pub pairs_fit : All (PairFits s.steps) s.pairs
