-- A step performed.
use Rattle.std.proofs.Common.{◌≡◌, Result, sym, ap, subst}
use Rattle.register.specs.Calls.{call_fields}
use Rattle.register.specs.Performing.{answered, Performs}
use Rattle.register.specs.declared.answers.Answer.{Answer}
use Rattle.register.specs.declared.calls.Call.{Call}
use Rattle.register.specs.declared.refusals.Refusal.{Refusal}
use Rattle.engine.specs.Engine.{engine_meaning, Steps}
use Rattle.engine.specs.Steps.{StepFields, said, StepAnswered, answers, calls_of}
use Rattle.engine.specs.declared.engine.Engine.{Engine}

-- the step d that was matched is s
pub stepped : (g h : Engine) (s d : StepFields) (a b : StepAnswered) → d ≡ s → a ≡ b → Steps g h s b → Steps g h d a
stepped g h s d a b d-is a-is does m ss L =
    subst (λ (x : StepFields). Steps g h x a) (sym d-is) (subst (Steps g h s) (sym a-is) does) m ss L

pub call_steps : (g h : Engine) (c : Call) (a : Result Answer Refusal) → Performs engine_meaning g.register h.register (call_fields c) (answered a) → Steps g h (said (call_fields c)) (answers (answered a))
call_steps g h c a does m ss L = let p = does m (calls_of ss) L in (p.0, ap answers p.1)
