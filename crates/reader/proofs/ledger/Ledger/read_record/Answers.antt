use Rattle.std.proofs.Common.{rules, Err, sym, ap, ◌∙◌}
use Rattle.std.proofs.lemmas.Result.{err_from_is_err_and}
use Rattle.records.proofs.Handing.{handed_on}
use Rattle.reader.proofs.Nexts.{shows_stands, no_mark, misplaced, no_body, judged}
use Rattle.reader.proofs.ledger.Ledger.read_record.Goals as goal

pub returns-in_err-mark-clause-value : goal.returns-in_err-mark-clause-value
returns-in_err-mark-clause-value c s shows =
    let p = err_from_is_err_and c.from_residual.result c.from_residual.ensures.1 in
    rw (p.1, p.2) (no_mark c.args.cursor.now.file.now s c.args.cursor.now.at _ c.in_err-mark.ensures)

pub returns-then-not-may_stand-clause-value : goal.returns-then-not-may_stand-clause-value
returns-then-not-may_stand-clause-value c s shows =
    ap Err c.fault.ensures
    ∙ misplaced c.args.cursor.now.file.now s c.args.cursor.now.at c.in_ok-mark.mark c.in_ok-mark.ensures
    (c.if-not-may_stand.ensures ∙ shows_stands c.args.self.now s c.in_ok-mark.mark shows)

pub returns-in_err-record-clause-value : goal.returns-in_err-record-clause-value
returns-in_err-record-clause-value c s shows =
    let p = err_from_is_err_and c.from_residual-in_err-record.result c.from_residual-in_err-record.ensures.1 in
    rw (p.1, p.2)
    (no_body c.args.cursor.now.file.now s c.args.cursor.now.at c.in_ok-mark.mark c.in_ok-mark.ensures _
    (c.if-not-may_stand.ensures ∙ shows_stands c.args.self.now s c.in_ok-mark.mark shows) c.in_err-record.ensures.value)

pub returns-in_err-map_err-clause-value : goal.returns-in_err-map_err-clause-value
returns-in_err-map_err-clause-value c s shows =
    let p = err_from_is_err_and c.from_residual-in_err-map_err.result c.from_residual-in_err-map_err.ensures.1 in
    rw (p.1, p.2)
    (judged c.args.cursor.now.file.now s c.args.cursor.now.at c.in_ok-mark.mark c.in_ok-mark.ensures _ _ _ c.admit.result _
    (c.if-not-may_stand.ensures ∙ shows_stands c.args.self.now s c.in_ok-mark.mark shows)
    c.in_ok-record.ensures.value (c.admit.ensures s shows)
    (sym c.in_err-map_err.was ∙ handed_on c.args.cursor.now.at c.admit.result c.map_err.result _ c.map_err.ensures.cases (λ k f made. search rules)))

pub returns-clause-value : goal.returns-clause-value
returns-clause-value c s shows =
    judged c.args.cursor.now.file.now s c.args.cursor.now.at c.in_ok-mark.mark c.in_ok-mark.ensures _ _ _ c.admit.result _
    (c.if-not-may_stand.ensures ∙ shows_stands c.args.self.now s c.in_ok-mark.mark shows)
    c.in_ok-record.ensures.value (c.admit.ensures s shows)
    (sym c.in_ok-map_err.was ∙ handed_on c.args.cursor.now.at c.admit.result c.map_err.result _ c.map_err.ensures.cases (λ k f made. search rules))
