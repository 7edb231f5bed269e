use Rattle.std.proofs.Common.{◌≡◌, ℕ, ◌<◌, get_or, take, vec_items, vec_len, Result}
use Rattle.register.specs.Answers.{answer_to}
use Rattle.register.specs.Calls.{call_fields}
use Rattle.register.specs.Laws.{Laws}
use Rattle.register.specs.Performing.{answered, history_of, LawsThroughout}
use Rattle.register.specs.declared.answers.Answer.{Answer}
use Rattle.register.specs.declared.calls.Call.{Call}
use Rattle.register.specs.declared.refusals.Refusal.{Refusal}
use Rattle.register.proofs.perform.run.Given as goal

-- the method has moved into the register, so it goes by the register's own field where the loop began
abbrev pub invariant-loop-call : goal.invariant-loop-call
invariant-loop-call g l =
    Laws g.M.LimitMethod.meaning l.initial.register.method (history_of (take l.call-index l.calls)) l.register
    × (vec_len l.answers ≡ l.call-index)
    × ((k : ℕ) (c : Call) (a : Result Answer Refusal) → k < l.call-index → answered (get_or (vec_items l.answers) k a) ≡ answer_to (g.M.LimitMethod.meaning l.initial.register.method) (call_fields (get_or l.calls k c)) (history_of (take k l.calls)))
    × LawsThroughout g.M.LimitMethod.meaning l.initial.register.method l.calls (vec_items l.answers) l.call-index l.register
