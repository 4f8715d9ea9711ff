-- Which record may come next, by the tests that are made of it.
--   stands s m            a record with the mark m may stand here
--   stands_after n v k m  the same, by the number n of steps and v of signals announced and the number k of start words read
--   unless ok c rest      the rule c is broken unless ok; the later rules are rest
--   sets es w x           one of the effects is of the step w on the signal x
--   objection s x         the first rule that the record x breaks after what is said so far, if any
--   Admissible s x        the record x may come after what is said so far
use Rattle.std.specs.Prelude.{◌≡◌, ℕ, suc, Bool, true, if◌then◌else◌, not, ◌&&◌, List, length, Some, None, Option, ◌==◌, nat_lt}
use Rattle.std.specs.List.{list_all, list_any}
use Rattle.faults.specs.declared.fault.Cause.{Cause}
use Rattle.faults.specs.declared.fault.Cause.TheVariants as cause
use Rattle.sheet.specs.declared.parts.Effect.{Effect}
use Rattle.sets.specs.Sets.{mem}
use Rattle.records.specs.declared.record.Mark.{Mark}
use Rattle.records.specs.declared.record.Mark.TheVariants as mark
use Rattle.records.specs.Item.{Item, header, start, effect, need, pair, link, name, end, kind}
use Rattle.records.specs.Standing.{well_formed}
use Rattle.reader.specs.Said.{Said}

-- a mark may stand after this many steps and signals are announced, and this many start words are read
abbrev pub stands_after : ℕ → ℕ → ℕ → Mark → Bool
stands_after steps signals starts mark.Header = not (nat_lt 0 steps)
stands_after steps signals starts mark.Start = nat_lt 0 steps && nat_lt starts signals
stands_after steps signals starts mark.Effect = nat_lt 0 steps && not (nat_lt starts signals)
stands_after steps signals starts mark.Need = nat_lt 0 steps && not (nat_lt starts signals)
stands_after steps signals starts mark.Pair = nat_lt 0 steps && not (nat_lt starts signals)
stands_after steps signals starts mark.Link = nat_lt 0 steps && not (nat_lt starts signals)
stands_after steps signals starts mark.Name = nat_lt 0 steps && not (nat_lt starts signals)
stands_after steps signals starts mark.End = nat_lt 0 steps && not (nat_lt starts signals)

abbrev pub stands : Said → Mark → Bool
stands s m = stands_after s.steps s.signals (length s.starts) m

abbrev pub unless : Bool → Cause → Option Cause → Option Cause
unless ok c rest = if ok then rest else Some c

abbrev pub sets : List Effect → ℕ → ℕ → Bool
sets es w x = list_any (λ (e : Effect). e.step == w && e.signal == x) es

abbrev pub objection : Said → Item → Option Cause
objection s (header n v) = None
objection s (start w) = None
objection s (effect e) =
    unless (nat_lt e.step s.steps && nat_lt e.signal s.signals) cause.NoSuch
    (unless (nat_lt 0 e.step && nat_lt (suc e.step) s.steps) cause.WrongStep
    (unless (not (sets s.effects e.step e.signal)) cause.Repeated
    (unless (nat_lt (length s.effects) 256) cause.TooMany None)))
objection s (need w x a b) =
    unless (nat_lt w s.steps && nat_lt x s.signals) cause.NoSuch
    (unless (nat_lt 0 w) cause.WrongStep
    (unless (nat_lt (length s.needs) 256) cause.TooMany None))
objection s (pair e l) =
    unless (nat_lt e s.steps && nat_lt l s.steps) cause.NoSuch
    (unless (nat_lt (length s.pairs) 512) cause.TooMany None)
objection s (link n cs) =
    unless (nat_lt n (length s.needs) && list_all (λ k. nat_lt k s.steps) cs) cause.NoSuch
    (unless (not (mem n s.linked)) cause.LinkedTwice None)
objection s (name w bs) =
    unless (nat_lt w s.steps) cause.NoSuch
    (unless (not (mem w s.named)) cause.Repeated None)
objection s end = None

pub record Admissible (s : Said) (x : Item) : Type 0 where
  pub formed : well_formed x ≡ true
  pub placed : stands s (kind x) ≡ true
  pub allowed : objection s x ≡ None
