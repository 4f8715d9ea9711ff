-- The limits of a sheet, by its parts.
use Rattle.std.proofs.Common.{◌≡◌, ℕ, length, All, vec_items, vec_len, subst, sym, arith}
use Rattle.sheet.specs.declared.parts.Need.{Need}
use Rattle.sheet.specs.declared.parts.Parts.{Parts}
use Rattle.sheet.specs.Fit.{EffectFits, NeedFits}
use Rattle.sheet.specs.Keeping.{CountsFit, EffectsFit, NeedsFit, PairsFit}
use Rattle.sheet.specs.Limits.{Limits}
use Rattle.sheet.specs.Model.{model_of}

module _ (p : Parts) where
  starts : vec_len p.starts ≡ length (vec_items p.starts)
  starts = p.starts.ok.0

  pub limits_of : CountsFit p → EffectsFit p → NeedsFit p → PairsFit p → Limits (model_of p)
  limits_of counts effects needs pairs =
      record {
        step_count = counts.step_count;
        signal_count = (omega (arith, counts.signal_count, starts), omega (arith, counts.signal_count, starts));
        part_counts = (omega (arith, counts.part_counts, p.effects.ok), omega (arith, counts.part_counts, p.needs.ok), omega (arith, counts.part_counts, p.pairs.ok));
        effects_fit = subst (λ (v : ℕ). All (EffectFits p.steps v) (vec_items p.effects)) starts effects.fit;
        effects_single = effects.single;
        needs_fit = subst (λ (v : ℕ). All (λ (n : Need). NeedFits p.steps v n.step n.signal) (vec_items p.needs)) starts needs.fit;
        links_fit = needs.links;
        pairs_fit = pairs;
      }

  pub counts_of : Limits (model_of p) → CountsFit p
  counts_of limits =
      record {
        step_count = limits.step_count;
        signal_count = (omega (arith, limits.signal_count, starts), omega (arith, limits.signal_count, starts));
        part_counts = (omega (arith, limits.part_counts, p.effects.ok), omega (arith, limits.part_counts, p.needs.ok), omega (arith, limits.part_counts, p.pairs.ok));
      }

  pub effects_of : Limits (model_of p) → EffectsFit p
  effects_of limits =
      record {
        fit = subst (λ (v : ℕ). All (EffectFits p.steps v) (vec_items p.effects)) (sym starts) limits.effects_fit;
        single = limits.effects_single;
      }

  pub needs_of : Limits (model_of p) → NeedsFit p
  needs_of limits =
      record {
        fit = subst (λ (v : ℕ). All (λ (n : Need). NeedFits p.steps v n.step n.signal) (vec_items p.needs)) (sym starts) limits.needs_fit;
        links = limits.links_fit;
      }

  pub pairs_of : Limits (model_of p) → PairsFit p
  pairs_of limits = limits.pairs_fit

pub ruleset limit_facts = (limits_of, counts_of, effects_of, needs_of, pairs_of)
