-- From a call that a register has lived to the laws after it.
use Rattle.std.proofs.Common.{◌≡◌, ℕ, List, ◌∷◌, sym, refl, ap, ◌∙◌, subst}
use Rattle.limit.specs.Laws.{Meaning}
use Rattle.register.specs.Answers.{Answered, answer_to}
use Rattle.register.specs.Calls.{call_fields, look_up, CallFields}
use Rattle.register.specs.Lived.{Lived, LivesAnswering}
use Rattle.register.specs.Performing.{Performs}
use Rattle.register.specs.declared.calls.Call.{Call}
use Rattle.register.specs.declared.table.Register.{Register}
use Rattle.register.proofs.Keeping.{looked_lives}
use Rattle.register.proofs.Wholes.{laws_of}

-- the call that was matched is the one that was made
pub performed : {M : Type 0} (μ : M → Meaning) {r s : Register M} {call made : Call} {a b : Answered} → call ≡ made → LivesAnswering μ r s (call_fields made) b → a ≡ b → Performs μ r s (call_fields call) a
performed μ {s = s} {call} is lives a-is m cs L =
    let p = lives m cs L in (
      laws_of μ m (call_fields call ∷ cs) s (subst (λ (x : Call). Lived μ m s (call_fields x ∷ cs)) (sym is) p.0),
      a-is ∙ p.1 ∙ ap (λ (x : Call). answer_to (μ m) (call_fields x) cs) (sym is),
    )

-- a look-up is one call more of every history
pub look_lives : {M : Type 0} (μ : M → Meaning) (r : Register M) (f y : ℕ) (b : Answered) → ((m : M) (cs : List CallFields) → Lived μ m r cs → b ≡ answer_to (μ m) (look_up f y) cs) → LivesAnswering μ r r (look_up f y) b
look_lives μ r f y b h m cs L = (looked_lives μ m r (look_up f y) cs refl L, h m cs L)
