use Rattle.std.proofs.Common.{false, refl, ap, ◌∙◌}
use Rattle.std.proofs.lemmas.List.{get_or-replicate}
use Rattle.sets.specs.declared.index_set.IndexSet.{IndexSet}
use Rattle.sets.specs.Sets.{mem, members, empty_set}
use Rattle.reader.proofs.ledger.Ledger.new.Goals as goal

pub returns : goal.returns
returns c = record {
  steps = refl;
  signals = refl;
  starts = refl;
  effects = refl;
  needs = refl;
  pairs = refl;
  set_by =
      λ w x h k. ap (λ (s : IndexSet). mem x (members s)) (get_or-replicate 64 w c.empty-none.result empty_set h) ∙ ap (mem x) c.empty-none.ensures.members;
  linked = λ n h. get_or-replicate 256 n false false h;
  named = λ w h. ap (mem w) c.empty-none.ensures.members;
}
