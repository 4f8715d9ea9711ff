use Rattle.records.proofs.Writing.{records_exactly}
use Rattle.records.proofs.cursor.Cursor.read.Goals as goal

pub returns-in_err-mark-clause-exact : goal.returns-in_err-mark-clause-exact
returns-in_err-mark-clause-exact c = records_exactly

pub returns-clause-exact : goal.returns-clause-exact
returns-clause-exact c = records_exactly
