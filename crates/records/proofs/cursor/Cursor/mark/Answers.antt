use Rattle.std.proofs.Common.{rules, ap, ◌∙◌, arith}
use Rattle.records.proofs.Handing.{handed, handed_on}
use Rattle.records.proofs.Marking.{mark_here}
use Rattle.records.proofs.cursor.Cursor.mark.Goals as goal

pub returns : goal.returns
returns c =
    let here = c.args.self.now.at in
    handed_on here c.try_from.result c.map_err.result _ c.map_err.ensures.cases (λ k f made. search rules)
    ∙ ap (handed here) c.try_from.ensures
    ∙ mark_here c.args.self.now.file.now c.in-Some-len2-up.field-0.now here (search rules) (search (rules, arith)) (search (rules, arith))
