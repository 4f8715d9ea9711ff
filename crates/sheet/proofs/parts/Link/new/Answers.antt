use Rattle.sheet.proofs.Made.{link_some}
use Rattle.sheet.proofs.parts.Link.new.Goals as goal

pub returns-clause-value : goal.returns-clause-value
returns-clause-value c = link_some c.args.contributors _
