-- What an engine has lived, and what a step promises.
use Rattle.std.specs.Prelude.{◌≡◌, ℕ, ◌<◌, cond, List, ◌∷◌, map, reverse, length, take, Ok, Err, Result, ◌==◌, slice_index_or}
use Rattle.codec.specs.ReadFaults.{told as read_told}
use Rattle.limit.specs.Laws.{Meaning}
use Rattle.limit.specs.Methods.{industrial, station}
use Rattle.limit.specs.declared.joined.Joined.{Joined}
use Rattle.limit.specs.declared.methods.Industrial.{Industrial}
use Rattle.limit.specs.declared.methods.Station.{Station}
use Rattle.register.specs.Answers.{refused}
use Rattle.register.specs.Calls.{call_fields}
use Rattle.register.specs.Laws.{Laws}
use Rattle.register.specs.Lived.{Lived}
use Rattle.register.specs.Performing.{answered, KeptIf, Trail}
use Rattle.register.specs.Refusals.{refusal_told}
use Rattle.engine.specs.Steps.{StepFields, said, file_record, amend_record, calls_of, StepAnswered, answers, recorded, unread, step_answer}
use Rattle.engine.specs.declared.engine.Engine.{Engine}
use Rattle.engine.specs.declared.faults.EngineFault.{EngineFault}
use Rattle.engine.specs.declared.faults.EngineFault.TheVariants as fault
use Rattle.engine.specs.declared.steps.Recorded.{Recorded}
use Rattle.engine.specs.declared.steps.Step.{Step}
use Rattle.engine.specs.declared.steps.Step.TheVariants as step
use Rattle.engine.specs.declared.steps.StepAnswer.{StepAnswer}
use Rattle.engine.specs.declared.steps.StepAnswer.TheVariants as answer

-- the industrial method for kind 1, and the station's for all others
abbrev pub engine_meaning : Joined Industrial Station → Meaning
engine_meaning j e ps y = cond (e.kind == 1) (industrial e ps y) (station e ps y)

abbrev pub step_fields : Step → StepFields
step_fields (step.Call c) = said (call_fields c)
step_fields (step.FileRecord bytes) = file_record bytes.now
step_fields (step.AmendRecord bytes) = amend_record bytes.now

-- the fault of the layer that refused
abbrev pub faulted : EngineFault → StepAnswered
faulted (fault.Read e) = unread (read_told e)
faulted (fault.Register w) = answers (refused (refusal_told w))

abbrev pub step_answered : Result StepAnswer EngineFault → StepAnswered
step_answered (Ok (answer.Call a)) = answers (answered (Ok a))
step_answered (Ok (answer.Recorded x)) = recorded x.used x.version x.number
step_answered (Err e) = faulted e

-- the engine's register has lived the history that the steps stand for
abbrev pub EngineLived : Joined Industrial Station → Engine → List StepFields → Type 0
EngineLived m g ss = Lived engine_meaning m g.register (calls_of ss)

-- the three laws, for that history
abbrev pub EngineLaws : Joined Industrial Station → List StepFields → Engine → Type 0
EngineLaws m ss g = Laws engine_meaning m (calls_of ss) g.register

abbrev pub Steps : Engine → Engine → StepFields → StepAnswered → Type 0
Steps g h s a = (m : Joined Industrial Station) (ss : List StepFields) → EngineLived m g ss → EngineLaws m (s ∷ ss) h × (a ≡ step_answer (engine_meaning m) s ss)

-- filing a record: the bytes used, the version and the number, or the fault of the layer that refused
abbrev pub record_answered : Result Recorded EngineFault → StepAnswered
record_answered (Ok x) = recorded x.used x.version x.number
record_answered (Err e) = faulted e

-- a refusal, of the reader or of the register, changes nothing, and nor does a look-up
abbrev pub StepKept : Result StepAnswer EngineFault → Engine → Engine → Type 0
StepKept (Ok (answer.Call a)) g h = KeptIf engine_meaning (Ok a) g.register h.register
StepKept (Ok (answer.Recorded x)) g h = Unit {0}
StepKept (Err e) g h = h ≡ g

-- a method has no state: there is one engine method
abbrev pub engine_method : Joined Industrial Station
engine_method = record { first = record {}; second = record {} }

-- the steps, newest first
abbrev pub steps_of : List Step → List StepFields
steps_of steps = reverse (map step_fields steps)

-- before the first of n steps and after each of them the laws hold, and each does what `perform` promises
abbrev pub StepsThroughout : List Step → List (Result StepAnswer EngineFault) → ℕ → Engine → Type 0
StepsThroughout = Trail (λ ss g. EngineLaws engine_method (steps_of ss) g) (λ g h s a. Steps g h (step_fields s) (step_answered a) × StepKept a g h)

-- all steps: the laws hold at the end and after every step, and the k-th answer is what the first k steps make of the next
pub record RanSteps (steps : List Step) (g : Engine) (told : List (Result StepAnswer EngineFault)) : Type 0 where
  pub laws : EngineLaws engine_method (steps_of steps) g
  pub all : length told ≡ length steps
  pub each : (k : ℕ) (s : Step) (a : Result StepAnswer EngineFault) → k < length steps → step_answered (slice_index_or told k a) ≡ step_answer (engine_meaning engine_method) (step_fields (slice_index_or steps k s)) (steps_of (take k steps))
  pub throughout : StepsThroughout steps told (length steps) g
