use Rattle.std.proofs.Common.{◌≡◌, ℕ, suc, List, ◌∷◌, Some, None, Ok, IfSome, Option, sym, ap, ◌∙◌, subst}
use Rattle.std.proofs.lemmas.Result.{err_from_is_err_and}
use Rattle.sheet.specs.Limits.{Limits}
use Rattle.sheet.specs.Model.{Sheet, model_of}
use Rattle.records.specs.View.{item_of}
use Rattle.reader.specs.Reading.{reading, walk, ended, faulty}
use Rattle.reader.specs.Said.{said_by}
use Rattle.reader.proofs.Advancing.{reading_by, limits_at_end, onward_at, shorter}
use Rattle.reader.proofs.Laws.{reads_exactly, places_fit}
use Rattle.reader.proofs.reading.read.Goals as goal

pub returns-in_err-record : goal.returns-in_err-record
returns-in_err-record c =
    let i = c.loop-parts.invariant in
    let p = err_from_is_err_and c.from_residual.result c.from_residual.ensures.1 in
    rw (p.1, p.2)
    (record {
      value = ap reading (sym i.2) ∙ reading_by c.loop-parts.walk.file.now (faulty _) (c.in_err-record.ensures i.0 i.1 i.3);
      limits = tt;
      exact = reads_exactly;
      places = places_fit;
    })

pub returns-in_err-add : goal.returns-in_err-add
returns-in_err-add c =
    let i = c.loop-parts.invariant in
    let w = c.loop-parts.walk in
    let step = onward_at w c.next.new.self i.0 i.1 (Some c.in-Some.record) _ c.in-Some.is (c.in_ok-record.ensures i.0 i.1 i.3) in
    let p = err_from_is_err_and c.from_residual-in_err-add.result c.from_residual-in_err-add.ensures.1 in
    rw (p.1, p.2)
    (record {
      value = record {
        count = suc i.1;
        past = i.0;
        newest = item_of c.in-Some.record;
        place = c.next.new.self.at;
        reached = ap (λ (f : List ℕ). walk f (suc i.1)) (sym (step.0 ∙ i.2)) ∙ step.1.reached;
        adds = c.in_err-add.ensures;
      };
      limits = tt;
      exact = reads_exactly;
      places = places_fit;
    })

pub loop-parts-smaller : goal.loop-parts-smaller
loop-parts-smaller c =
    let i = c.loop-parts.invariant in
    shorter _ c.loop-parts.walk c.next.new.self i.0 i.1 _ c.in-Some.record i.2 i.3 c.in-Some.is (c.in_ok-record.ensures i.0 i.1 i.3)

pub loop-parts-preserved : goal.loop-parts-preserved
loop-parts-preserved c =
    let i = c.loop-parts.invariant in
    let step = onward_at c.loop-parts.walk c.next.new.self i.0 i.1 (Some c.in-Some.record) _ c.in-Some.is (c.in_ok-record.ensures i.0 i.1 i.3) in
    (item_of c.in-Some.record ∷ i.0, suc i.1, step.0 ∙ i.2, step.1, c.in_ok-add.ensures (said_by i.0) i.4)

pub unwrap-requires : goal.unwrap-requires
unwrap-requires c =
    let i = c.loop-parts.invariant in
    let w = c.loop-parts.walk in
    let end = onward_at w c.next.new.self i.0 i.1 None _ c.in_default.is (c.in_ok-record.ensures i.0 i.1 i.3) in
    c.new.ensures.exact.1 (subst Limits (sym i.4) (limits_at_end w.file.now i.0 end.0))

pub returns : goal.returns
returns c =
    let i = c.loop-parts.invariant in
    let w = c.loop-parts.walk in
    let end = onward_at w c.next.new.self i.0 i.1 None _ c.in_default.is (c.in_ok-record.ensures i.0 i.1 i.3) in
    let made = subst (λ (o : Option Sheet). IfSome o (λ s. s ≡ model_of c.loop-parts.parts)) c.unwrap.ensures c.new.ensures.value in
    record {
      value = ap reading (sym i.2) ∙ reading_by w.file.now (ended i.0) end.0 ∙ ap Ok (sym (made ∙ i.4));
      limits = subst Limits (sym (made ∙ i.4)) (limits_at_end w.file.now i.0 end.0);
      exact = reads_exactly;
      places = places_fit;
    }
