-- What performing a call, and a whole history, promises.
use Rattle.std.specs.Prelude.{◌≡◌, ℕ, ◌+◌, ◌<◌, ◌≤◌, List, ◌∷◌, map, reverse, length, take, Ok, Err, Result, slice_index_or}
use Rattle.limit.specs.Laws.{Meaning}
use Rattle.register.specs.Answers.{Answered, enrolled, numbered, closed, assessed, refused, answer_to}
use Rattle.register.specs.Calls.{CallFields, call_fields}
use Rattle.register.specs.Laws.{Laws}
use Rattle.register.specs.Lived.{Lived}
use Rattle.register.specs.Refusals.{refusal_told}
use Rattle.register.specs.Views.{assessment_fields}
use Rattle.register.specs.declared.answers.Answer.{Answer}
use Rattle.register.specs.declared.answers.Answer.TheVariants as answer
use Rattle.register.specs.declared.calls.Call.{Call}
use Rattle.register.specs.declared.refusals.Refusal.{Refusal}
use Rattle.register.specs.declared.table.Register.{Register}

abbrev pub answered : Result Answer Refusal → Answered
answered (Ok answer.Enrolled) = enrolled
answered (Ok (answer.Number n)) = numbered n
answered (Ok answer.Closed) = closed
answered (Ok (answer.Assessed a)) = assessed (assessment_fields a)
answered (Err w) = refused (refusal_told w)

-- the calls as they were made, oldest first
abbrev pub said : List Call → List CallFields
said calls = map call_fields calls

-- the history that they are, newest first
abbrev pub history_of : List Call → List CallFields
history_of calls = reverse (said calls)

-- a state through n steps, r after the last: P holds of the first k steps and the state after them, and D of that state,
-- the state after one step more, that step and its answer
pub record Trail {X C A : Type 0} (P : List C → X → Type 0) (D : X → X → C → A → Type 0) (steps : List C) (answers : List A) (n : ℕ) (r : X) : Type 0 where
  pub after : ℕ → X
  pub last : after n ≡ r
  pub holds : (k : ℕ) → k ≤ n → P (take k steps) (after k)
  pub goes : (k : ℕ) (c : C) (a : A) → k < n → D (after k) (after (k + 1)) (slice_index_or steps k c) (slice_index_or answers k a)

module _ {M : Type 0} (μ : M → Meaning) where
  -- after every history that r has lived, s keeps the laws for that history and this call, and the answer is the history's
  abbrev pub Performs : Register M → Register M → CallFields → Answered → Type 0
  Performs r s c a = (m : M) (cs : List CallFields) → Lived μ m r cs → Laws μ m (c ∷ cs) s × (a ≡ answer_to (μ m) c cs)

  -- a refusal changes nothing, and nor does a look-up
  abbrev pub KeptIf : Result Answer Refusal → Register M → Register M → Type 0
  KeptIf (Ok answer.Enrolled) r s = Unit {0}
  KeptIf (Ok (answer.Number n)) r s = Unit {0}
  KeptIf (Ok answer.Closed) r s = Unit {0}
  KeptIf (Ok (answer.Assessed a)) r s = s ≡ r
  KeptIf (Err w) r s = s ≡ r

  -- before the first of n calls and after each of them the laws hold, and each does what `perform` promises
  abbrev pub LawsThroughout : M → List Call → List (Result Answer Refusal) → ℕ → Register M → Type 0
  LawsThroughout m = Trail (λ cs s. Laws μ m (history_of cs) s) (λ s t c a. Performs s t (call_fields c) (answered a) × KeptIf a s t)

  -- a whole history: the laws hold at its end and after every call, and the k-th answer is what its first k calls make of the next
  pub record Ran (m : M) (calls : List Call) (r : Register M) (answers : List (Result Answer Refusal)) : Type 0 where
    pub laws : Laws μ m (history_of calls) r
    pub all : length answers ≡ length calls
    pub each : (k : ℕ) (c : Call) (a : Result Answer Refusal) → k < length calls → answered (slice_index_or answers k a) ≡ answer_to (μ m) (call_fields (slice_index_or calls k c)) (history_of (take k calls))
    pub throughout : LawsThroughout m calls answers (length calls) r
