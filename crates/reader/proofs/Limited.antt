-- The sheet that a whole file says keeps every limit.
use Rattle.std.proofs.Common.{◌≡◌, ℕ, true, List, [], ◌∷◌, length, All, subst, arith}
use Rattle.std.proofs.lemmas.List.Elements.{All-weaker}
use Rattle.std.proofs.lemmas.Bool.{false≢true}
use Rattle.sheet.specs.declared.parts.Need.{Need}
use Rattle.sheet.specs.Fit.{EffectFits, NeedFits}
use Rattle.sheet.specs.Limits.{Limits}
use Rattle.records.specs.declared.record.Mark.TheVariants as mark
use Rattle.records.specs.Item.{Item}
use Rattle.reader.specs.Lawful.{stands}
use Rattle.reader.specs.Said.{Said, said_by, sheet_of}
use Rattle.reader.proofs.Accepting.{stands_ready}
use Rattle.reader.proofs.Kept.{Kept, NeedKept, kept}
use Rattle.reader.proofs.Walking.{Admitted}

-- what is kept, with all start words read, are the limits of the sheet
limits_kept : (s : Said) → Kept s → s.signals ≡ length s.starts → Limits (sheet_of s)
limits_kept s k same =
    record {
      step_count = k.step_count;
      signal_count = (omega (arith, k.signal_count), omega (arith, k.signal_count));
      part_counts = k.part_counts;
      effects_fit = subst (λ (v : ℕ). All (EffectFits s.steps v) s.effects) same k.effects_kept;
      effects_single = k.effects_single;
      needs_fit =
          All-weaker _ _ (λ (n : Need) (kept : NeedKept s.steps s.signals n). subst (λ (v : ℕ). NeedFits s.steps v n.step n.signal) same kept.0) s.needs
          k.needs_kept;
      links_fit = All-weaker _ _ (λ (n : Need) (kept : NeedKept s.steps s.signals n). kept.1) s.needs k.needs_kept;
      pairs_fit = k.pairs_kept;
    }

-- the sheet that admitted records say, where the end may stand, keeps every limit
pub limits_said : (past : List Item) → Admitted past → stands (said_by past) mark.End ≡ true → Limits (sheet_of (said_by past))
limits_said [] a e = absurd (false≢true e)
limits_said (x ∷ past) a e =
    let k = kept x past a in
    limits_kept (said_by (x ∷ past)) k (omega (arith, stands_ready (said_by (x ∷ past)) e, k.start_count))
