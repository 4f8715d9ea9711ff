use Rattle.plant.proofs.Comparing.{difference_exactly}
use Rattle.plant.proofs.difference.first_difference.Goals as goal

pub returns-then-not-holds-clause-law : goal.returns-then-not-holds-clause-law
returns-then-not-holds-clause-law g c = difference_exactly

pub returns-clause-law : goal.returns-clause-law
returns-clause-law g c = difference_exactly
