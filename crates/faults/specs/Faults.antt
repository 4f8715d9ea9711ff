-- The number, the place and the layer of every fault.
--   number_of f             its number
--   place_of f              its place, at most 16 bits
--   layer_of f              the layer that gave it
--   cause_number, run_number, plant_number   the number, layer by layer
--   run_place, plant_place  the place, layer by layer
--   flaw_place f            the step of a circle, the need of any other flaw
use Rattle.std.specs.Prelude.{ℕ}
use Rattle.faults.specs.declared.verdict.Flaw.{Flaw}
use Rattle.faults.specs.declared.verdict.Flaw.TheVariants.{Circle, OpenNeed, Unsupported, Threat}
use Rattle.faults.specs.declared.fault.Cause.{Cause}
use Rattle.faults.specs.declared.fault.Cause.TheVariants.{CutShort, Mark, OffLimits, NoSuch, WrongStep, Repeated, LinkedTwice, TooMany, AfterEnd}
use Rattle.faults.specs.declared.fault.RunFault.{RunFault}
use Rattle.faults.specs.declared.fault.RunFault.TheVariants.{DoesNotPass, TooFewSignals, EffectAboveTop, NotAtStart, StepsInHand, NeverOpened, NoSuchStep, StepDone, StepInHand, EarlierNotDone, OtherRun, NotInHand}
use Rattle.faults.specs.declared.fault.PlantFault.{PlantFault}
use Rattle.faults.specs.declared.fault.PlantFault.TheVariants.{NoSignal, AboveTop}
use Rattle.faults.specs.declared.fault.ReportFault.TheVariants.{BufferTooShort}
use Rattle.faults.specs.declared.fault.Fault.{Fault}
use Rattle.faults.specs.declared.fault.Fault.TheVariants.{Reader, Run, Plant, Report}
use Rattle.faults.specs.declared.fault.Layer.{Layer}
use Rattle.faults.specs.declared.fault.Layer.TheVariants as layer

abbrev pub cause_number : Cause → ℕ
cause_number CutShort = 1
cause_number Mark = 2
cause_number OffLimits = 3
cause_number NoSuch = 4
cause_number WrongStep = 5
cause_number Repeated = 6
cause_number LinkedTwice = 7
cause_number TooMany = 8
cause_number AfterEnd = 9

abbrev pub flaw_place : Flaw → ℕ
flaw_place (Circle step) = step
flaw_place (OpenNeed need) = need
flaw_place (Unsupported need step) = need
flaw_place (Threat need step) = need

abbrev pub run_number : RunFault → ℕ
run_number (DoesNotPass flaw) = 20
run_number (TooFewSignals count) = 21
run_number (EffectAboveTop effect) = 22
run_number (NotAtStart signal) = 23
run_number (StepsInHand step) = 24
run_number NeverOpened = 30
run_number (NoSuchStep step) = 31
run_number (StepDone step) = 32
run_number (StepInHand step) = 33
run_number (EarlierNotDone step) = 34
run_number (OtherRun run) = 35
run_number (NotInHand step) = 36

abbrev pub run_place : RunFault → ℕ
run_place (DoesNotPass flaw) = flaw_place flaw
run_place (TooFewSignals count) = count
run_place (EffectAboveTop effect) = effect
run_place (NotAtStart signal) = signal
run_place (StepsInHand step) = step
run_place NeverOpened = 0
run_place (NoSuchStep step) = step
run_place (StepDone step) = step
run_place (StepInHand step) = step
run_place (EarlierNotDone step) = step
run_place (OtherRun run) = run
run_place (NotInHand step) = step

abbrev pub plant_number : PlantFault → ℕ
plant_number (NoSignal signal) = 40
plant_number (AboveTop signal) = 41

abbrev pub plant_place : PlantFault → ℕ
plant_place (NoSignal signal) = signal
plant_place (AboveTop signal) = signal

abbrev pub number_of : Fault → ℕ
number_of (Reader f) = cause_number f.cause
number_of (Run f) = run_number f
number_of (Plant f) = plant_number f
number_of (Report (BufferTooShort length)) = 50

abbrev pub place_of : Fault → ℕ
place_of (Reader f) = f.place
place_of (Run f) = run_place f
place_of (Plant f) = plant_place f
place_of (Report (BufferTooShort length)) = length

abbrev pub layer_of : Fault → Layer
layer_of (Reader f) = layer.Reader
layer_of (Run f) = layer.Run
layer_of (Plant f) = layer.Plant
layer_of (Report f) = layer.Report
