-- A ledger shows what the records so far say.
--   Shows l s       every count and every set of the ledger l is that of s
--   Admits l x r k  the answer r of the ledger l to the record x, and the ledger k afterwards: the first rule that x breaks,
--                   or k shows what x says besides
use Rattle.std.specs.Prelude.{◌≡◌, ℕ, ◌<◌, false, Some, None, Result, MatchResult, length, slice_index_or}
use Rattle.faults.specs.declared.fault.Cause.{Cause}
use Rattle.sets.specs.Sets.{mem, members, empty_set}
use Rattle.records.specs.Item.{Item}
use Rattle.reader.specs.declared.ledger.Ledger.{Ledger}
use Rattle.reader.specs.Lawful.{sets, objection}
use Rattle.reader.specs.Said.{Said, said}

pub record Shows (l : Ledger) (s : Said) : Type 0 where
  pub steps : l.steps ≡ s.steps
  pub signals : l.signals ≡ s.signals
  pub starts : l.starts ≡ length s.starts
  pub effects : l.effects ≡ length s.effects
  pub needs : l.needs ≡ length s.needs
  pub pairs : l.pairs ≡ length s.pairs
  pub set_by : (w x : ℕ) → w < 64 → x < 64 → mem x (members (slice_index_or l.set_by w empty_set)) ≡ sets s.effects w x
  pub linked : (n : ℕ) → n < 256 → slice_index_or l.linked n false ≡ mem n s.linked
  pub named : (w : ℕ) → w < 64 → mem w (members l.named) ≡ mem w s.named

abbrev pub Admits : Ledger → Item → Result Unit Cause → Ledger → Type 0
Admits old x r new =
    (s : Said) → Shows old s → MatchResult r (λ _. (objection s x ≡ None) × Shows new (said s x)) (λ cause. objection s x ≡ Some cause)
