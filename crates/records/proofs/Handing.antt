-- A refusal that `map_err` hands on as a fault of a place.
--   handed p t  what t answers, with its cause made a fault at the place p
use Rattle.std.proofs.Common.{◌≡◌, ℕ, Ok, Err, Result, ap, ◌∙◌}
use Rattle.std.specs.Result.{IsErrAnd, MatchResult}
use Rattle.std.proofs.lemmas.Result.{err_from_is_err_and}
use Rattle.faults.specs.declared.fault.Cause.{Cause}
use Rattle.faults.specs.declared.fault.ReaderFault.{ReaderFault}
use Rattle.records.specs.Shape.{fault}

abbrev pub handed : {T : Type 0} → ℕ → Result T Cause → Result T ReaderFault
handed p (Ok x) = Ok x
handed p (Err c) = Err (fault c p)

pub handed_on : {T : Type 0} (p : ℕ) (t : Result T Cause) (r : Result T ReaderFault) (Made : Cause → ReaderFault → Type 0)
    → MatchResult t (λ x. r ≡ Ok x) (λ c. IsErrAnd r (Made c)) → ((c : Cause) (f : ReaderFault) → Made c f → f ≡ fault c p) → r ≡ handed p t
handed_on p (Ok x) r Made ok made = ok
handed_on p (Err c) r Made refused made =
    let e = err_from_is_err_and r refused in
    e.1 ∙ ap Err (made c e.0 e.2)
