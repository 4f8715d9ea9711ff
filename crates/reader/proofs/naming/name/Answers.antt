use Rattle.std.proofs.Common.{ℕ, suc, ◌<◌, ◌≤◌, List, ◌∷◌, Some, None, Ok, sym, ap, ◌∙◌, subst, arith}
use Rattle.std.proofs.lemmas.Result.{err_from_is_err_and}
use Rattle.std.proofs.lemmas.Bool.{cond-true, cond-false, lt-ltb, le-ltb}
use Rattle.records.specs.View.{item_of, PlacedAt}
use Rattle.reader.specs.Reading.{naming, ended, faulty}
use Rattle.reader.specs.Said.{said_by}
use Rattle.reader.proofs.Advancing.{naming_by, onward_at, shorter}
use Rattle.reader.proofs.Laws.{faults_first, names_exactly}
use Rattle.reader.proofs.Walking.{walk_going}
use Rattle.reader.proofs.naming.name.Goals as goal

pub returns-in_err-record : goal.returns-in_err-record
returns-in_err-record c =
    let i = c.loop-record.invariant in
    let p = err_from_is_err_and c.from_residual.result c.from_residual.ensures.1 in
    rw (p.1, p.2)
    (record {
      value = sym (ap (λ (f : List ℕ). naming f c.args.step) (sym i.2)
          ∙ naming_by c.loop-record.walk.file.now c.args.step (faulty _) (c.in_err-record.ensures i.0 i.1 i.3));
      first = faults_first;
      exact = names_exactly;
    })

pub loop-record-smaller : goal.loop-record-smaller
loop-record-smaller c =
    let i = c.loop-record.invariant in
    shorter _ c.loop-record.walk c.next.new.self i.0 i.1 _ c.in-Some.record i.2 i.3 c.in-Some.is (c.in_ok-record.ensures i.0 i.1 i.3)

pub loop-record-preserved : goal.loop-record-preserved
loop-record-preserved c =
    let i = c.loop-record.invariant in
    let walk = c.loop-record.walk in
    let step = onward_at walk c.next.new.self i.0 i.1 (Some c.in-Some.record) _ c.in-Some.is (c.in_ok-record.ensures i.0 i.1 i.3) in
    let at = (walk_going walk.file.now i.1 i.0 walk.at i.3.reached).1 in (
      item_of c.in-Some.record ∷ i.0,
      suc i.1,
      step.0 ∙ i.2,
      step.1,
      c.or_newer-found.ensures i.0 (subst (λ (p : ℕ). PlacedAt p c.in-Some.record) at step.2) i.4,
    )

pub returns-then-step-from : goal.returns-then-step-from
returns-then-step-from c =
    let i = c.loop-record.invariant in
    let walk = c.loop-record.walk in
    let end = onward_at walk c.next.new.self i.0 i.1 None _ c.in_default.is (c.in_ok-record.ensures i.0 i.1 i.3) in
    let inside : c.args.step < (said_by i.0).steps = omega (arith, end.1.steps, c.from.ensures, c.steps.ensures) in
    record {
      value = sym (ap (λ (f : List ℕ). naming f c.args.step) (sym i.2)
          ∙ naming_by walk.file.now c.args.step (ended i.0) end.0 ∙ cond-true _ _ _ (lt-ltb _ _ inside) ∙ ap Ok (sym i.4));
      first = faults_first;
      exact = names_exactly;
    }

pub returns-else-step-from : goal.returns-else-step-from
returns-else-step-from c =
    let i = c.loop-record.invariant in
    let walk = c.loop-record.walk in
    let end = onward_at walk c.next.new.self i.0 i.1 None _ c.in_default.is (c.in_ok-record.ensures i.0 i.1 i.3) in
    let outside : (said_by i.0).steps ≤ c.args.step = omega (arith, end.1.steps, c.from.ensures, c.steps.ensures) in
    record {
      value = sym (ap (λ (f : List ℕ). naming f c.args.step) (sym i.2)
          ∙ naming_by walk.file.now c.args.step (ended i.0) end.0 ∙ cond-false _ _ _ (le-ltb _ _ outside));
      first = faults_first;
      exact = names_exactly;
    }
