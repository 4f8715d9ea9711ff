-- The line of a verdict and of a fault, and what a buffer holds once a line is put into it. `decimal n` is what `{n}` writes.
--   newline         the byte that closes a line
--   flaw_line f     the line of a flaw
--   verdict_line v  the line of a verdict
--   refused_line f  the number and the place of a fault as a line
--   fault_line f    the line of a fault; where a run is turned down for a flaw, that of the flaw
--   fits l b        the buffer b is long enough for the line l
--   answer l b      the length of the line l; where the buffer b is too short, the fault that says it
--   filled l b      the line l, and after it what stood in the buffer b there; where b is too short, b as it was
use Rattle.std.specs.Prelude.{ℕ, Bool, if◌then◌else◌, List, [], ◌∷◌, ◌++◌, length, drop, Ok, Err, codes, decimal, Result, nat_le}
use Rattle.faults.specs.Faults.{number_of, place_of}
use Rattle.faults.specs.declared.verdict.Flaw.{Flaw}
use Rattle.faults.specs.declared.verdict.Flaw.TheVariants.{Circle, OpenNeed, Unsupported, Threat}
use Rattle.faults.specs.declared.fault.RunFault.TheVariants.{DoesNotPass}
use Rattle.faults.specs.declared.fault.ReportFault.{ReportFault}
use Rattle.faults.specs.declared.fault.ReportFault.TheVariants.{BufferTooShort}
use Rattle.faults.specs.declared.fault.Fault.{Fault}
use Rattle.faults.specs.declared.fault.Fault.TheVariants.{Run}

abbrev pub newline : List ℕ
newline = 10 ∷ []

abbrev pub flaw_line : Flaw → List ℕ
flaw_line (Circle step) = codes "CIRCLE step " ++ decimal step ++ newline
flaw_line (OpenNeed need) = codes "OPEN need " ++ decimal need ++ newline
flaw_line (Unsupported need step) = codes "UNSUPPORTED need " ++ decimal need ++ codes " by step " ++ decimal step ++ newline
flaw_line (Threat need step) = codes "THREAT need " ++ decimal need ++ codes " by step " ++ decimal step ++ newline

abbrev pub verdict_line : Result Unit Flaw → List ℕ
verdict_line (Ok _) = codes "PASS" ++ newline
verdict_line (Err flaw) = flaw_line flaw

abbrev pub refused_line : Fault → List ℕ
refused_line f = codes "REFUSED " ++ decimal (number_of f) ++ codes " at " ++ decimal (place_of f) ++ newline

abbrev pub fault_line : Fault → List ℕ
fault_line (Run (DoesNotPass flaw)) = flaw_line flaw
fault_line f = refused_line f

abbrev pub fits : List ℕ → List ℕ → Bool
fits line buffer = nat_le (length line) (length buffer)

abbrev pub answer : List ℕ → List ℕ → Result ℕ ReportFault
answer line buffer = if fits line buffer then Ok (length line) else Err (BufferTooShort (length line))

abbrev pub filled : List ℕ → List ℕ → List ℕ
filled line buffer = if fits line buffer then line ++ drop (length line) buffer else buffer
