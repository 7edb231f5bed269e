use Rattle.std.proofs.Common.{◌≡◌, ℕ, ◌<◌, ◌≤◌, length, get_or, take, vec_items, vec_len, vec_capacity, Result}
use Rattle.engine.specs.Engine.{engine_meaning, engine_method, step_fields, step_answered, steps_of, EngineLaws, StepsThroughout}
use Rattle.engine.specs.Steps.{step_answer}
use Rattle.engine.specs.declared.faults.EngineFault.{EngineFault}
use Rattle.engine.specs.declared.steps.Step.{Step}
use Rattle.engine.specs.declared.steps.StepAnswer.{StepAnswer}
use Rattle.engine.proofs.perform.run.Given as goal

abbrev pub invariant-loop-step : goal.invariant-loop-step
invariant-loop-step l =
    EngineLaws engine_method (steps_of (take l.step-index l.steps)) l.engine
    × (vec_len l.answers ≡ l.step-index)
    × (length l.steps ≤ vec_capacity l.answers)
    × ((k : ℕ) (s : Step) (a : Result StepAnswer EngineFault) → k < l.step-index → step_answered (get_or (vec_items l.answers) k a) ≡ step_answer (engine_meaning engine_method) (step_fields (get_or l.steps k s)) (steps_of (take k l.steps)))
    × StepsThroughout l.steps (vec_items l.answers) l.step-index l.engine
