use Rattle.std.proofs.Common.{refl, sym, subst, arith}
use Rattle.std.proofs.lemmas.Result.{err_from_is_err_and}
use Rattle.records.specs.declared.record.Record.{Record}
use Rattle.reader.specs.Said.{said, said_by}
use Rattle.reader.specs.Shows.{Shows}
use Rattle.records.specs.View.{item_of}
use Rattle.reader.proofs.Advancing.{is_end_lem, is_end-more, end_near, more_near, end_inside}
use Rattle.reader.proofs.Walking.{walk_more, whole_fault, whole_end, whole_after_end}
use Rattle.reader.proofs.walk.Walk.next.Goals as goal

pub returns-in_err-record : goal.returns-in_err-record
returns-in_err-record c past n w =
    let walk = c.args.self.now in
    let p = err_from_is_err_and c.from_residual.result c.from_residual.ensures.1 in
    rw (p.1, p.2) (whole_fault walk.file.now n past walk.at _ w.reached (sym (c.in_err-record.ensures.value (said_by past) w.shows)))

pub overflow_cast-result : goal.overflow_cast-result
overflow_cast-result c =
    let walk = c.args.self.now in
    let r = c.requires in
    let near = end_near walk.file.now r.1 r.0 walk.at (item_of c.in_ok-record.record) c.in_ok-record.end
    r.2.reached (sym (c.in_ok-record.ensures.value (said_by r.0) r.2.shows)) (is_end_lem _ c.in-End.is) in
    omega arith

pub returns-then-end-self : goal.returns-then-end-self
returns-then-end-self c past n w =
    let walk = c.args.self.now in
    whole_after_end walk.file.now n past walk.at (item_of c.in_ok-record.record) c.in_ok-record.end
    w.reached (sym (c.in_ok-record.ensures.value (said_by past) w.shows)) (is_end_lem _ c.in-End.is) (λ e. omega arith)

pub returns-in-End : goal.returns-in-End
returns-in-End c past n w =
    let walk = c.args.self.now in
    let read = sym (c.in_ok-record.ensures.value (said_by past) w.shows) in
    let inside = end_inside walk.file.now n past walk.at (item_of c.in_ok-record.record) c.in_ok-record.end w.reached read in (
      whole_end walk.file.now n past walk.at (item_of c.in_ok-record.record) c.in_ok-record.end
          w.reached read (is_end_lem _ c.in-End.is) (omega arith),
      subst (λ (r : Record). Shows c.read_record.new.self (said (said_by past) (item_of r))) c.in-End.is
          (c.in_ok-record.ensures.after (said_by past) w.shows),
    )

pub overflow_cast-self : goal.overflow_cast-self
overflow_cast-self c =
    let walk = c.args.self.now in
    let r = c.requires in
    let near = more_near walk.file.now r.1 r.0 walk.at (item_of c.in_ok-record.record) c.in_ok-record.end
    r.2.reached (sym (c.in_ok-record.ensures.value (said_by r.0) r.2.shows)) (is_end-more _ c.in_default.not-End) in
    omega arith

pub returns : goal.returns
returns c past n w =
    let walk = c.args.self.now in (
      refl,
      record {
        reached = walk_more walk.file.now n past walk.at (item_of c.in_ok-record.record) c.in_ok-record.end
            w.reached (sym (c.in_ok-record.ensures.value (said_by past) w.shows)) (is_end-more _ c.in_default.not-End);
        shows = c.in_ok-record.ensures.after (said_by past) w.shows;
      },
      c.in_ok-record.ensures.places,
    )
