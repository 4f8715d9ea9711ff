-- What comes next in a file, test by test.
use Rattle.std.proofs.Common.{◌≡◌, ℕ, true, false, List, Some, None, Ok, Err, Result, sym, ap, ◌∙◌}
use Rattle.std.specs.Result.{MatchResult}
use Rattle.std.proofs.lemmas.Bool.{cond-true, cond-false}
use Rattle.faults.specs.declared.fault.Cause.{Cause}
use Rattle.faults.specs.declared.fault.Cause.TheVariants as cause
use Rattle.faults.specs.declared.fault.ReaderFault.{ReaderFault}
use Rattle.reader.specs.declared.ledger.Ledger.{Ledger}
use Rattle.records.specs.declared.record.Mark.{Mark}
use Rattle.records.specs.Item.{Item}
use Rattle.reader.specs.Lawful.{stands, stands_after, objection}
use Rattle.reader.specs.Reading.{refused_by, admitted, placed, next}
use Rattle.reader.specs.Said.{Said}
use Rattle.records.specs.Shape.{fault, on_ok, mark_at, body_at}
use Rattle.records.proofs.Handing.{handed}
use Rattle.reader.specs.Shows.{Shows}

-- a ledger knows which marks may stand
pub shows_stands : (l : Ledger) (s : Said) (m : Mark) → Shows l s → stands_after l.steps l.signals l.starts m ≡ stands s m
shows_stands l s m shows =
    ap (λ (n : ℕ). stands_after n l.signals l.starts m) shows.steps
    ∙ ap (λ (n : ℕ). stands_after s.steps n l.starts m) shows.signals
    ∙ ap (λ (n : ℕ). stands_after s.steps s.signals n m) shows.starts

module _ (file : List ℕ) (s : Said) (p : ℕ) where
  pub no_mark : (f : ReaderFault) → Err f ≡ mark_at file p → Err f ≡ next file s p
  unfolding next
  no_mark f e = ap (λ (r : Result Mark ReaderFault). on_ok r (placed file s p)) e

  module _ (m : Mark) (read : Ok m ≡ mark_at file p) where
    at_mark : placed file s p m ≡ next file s p
    unfolding next
    at_mark = ap (λ (r : Result Mark ReaderFault). on_ok r (placed file s p)) read

    pub misplaced : false ≡ stands s m → Err (fault cause.Mark p) ≡ next file s p
    misplaced e = sym (cond-false (stands s m) _ _ (sym e)) ∙ at_mark

    well_placed : true ≡ stands s m → admitted s p (body_at file p m) ≡ next file s p
    well_placed e = sym (cond-true (stands s m) _ _ (sym e)) ∙ at_mark

    pub no_body : (f : ReaderFault) → true ≡ stands s m → Err f ≡ body_at file p m → Err f ≡ next file s p
    no_body f e b = ap (admitted s p) b ∙ well_placed e

    -- the record is taken, or the cause against it is made a fault here
    pub judged : (Noted : Type 0) (x : Item) (q : ℕ) (t : Result Unit Cause) (v : Result Unit ReaderFault)
        → true ≡ stands s m → Ok (x, q) ≡ body_at file p m → MatchResult t (λ _. (objection s x ≡ None) × Noted) (λ c. objection s x ≡ Some c)
        → v ≡ handed p t → on_ok v (λ _. Ok (x, q)) ≡ next file s p
    judged Noted x q t v e b admits same = ap taken same ∙ here t admits ∙ ap (admitted s p) b ∙ well_placed e where
      taken : Result Unit ReaderFault → Result (Item × ℕ) ReaderFault
      taken u = on_ok u (λ _. Ok (x, q))

      here : (t : Result Unit Cause) → MatchResult t (λ _. (objection s x ≡ None) × Noted) (λ c. objection s x ≡ Some c)
          → taken (handed p t) ≡ admitted s p (Ok (x, q))
      here (Ok u) admits = ap (refused_by p (x, q)) (sym admits.0)
      here (Err c) admits = ap (refused_by p (x, q)) (sym admits)
