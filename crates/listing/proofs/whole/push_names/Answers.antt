-- One name more is written and one less is left.
use Rattle.std.proofs.Common.{◌≡◌, ℕ, suc, ◌+◌, ◌-◌, ◌<◌, List, ◌++◌, ap, arith}
use Rattle.std.proofs.lemmas.Grind.{common_steps}
use Rattle.reader.specs.Reading.{naming}
use Rattle.listing.specs.Whole.{name_text, names_from}
use Rattle.listing.proofs.whole.push_names.Goals as goal

names_more : (file : List ℕ) (k n : ℕ) → k < n → names_from file k (n - k) ≡ name_text k (naming file k) ++ names_from file (k + 1) (n - (k + 1))
names_more file k n h =
    let e : n - k ≡ suc (n - (k + 1)) = omega arith in
    ap (names_from file k) e

pub loop-step-preserved : goal.loop-step-preserved
loop-step-preserved c = grind (arith, common_steps, names_more)
