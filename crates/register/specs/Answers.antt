-- What each call is answered, from the calls before it alone.
use Rattle.std.specs.Prelude.{ℕ, ◌+◌, List, ℤ, Some, None, Ok, Err, Option, Result}
use Rattle.filing.specs.Emissions.{emissions}
use Rattle.filing.specs.Filing.{FilingFields}
use Rattle.filing.specs.Told.{Told}
use Rattle.enrolment.specs.declared.fields.EnrolmentFields.{EnrolmentFields}
use Rattle.limit.specs.Balance.{balance}
use Rattle.limit.specs.Laws.{Meaning}
use Rattle.limit.specs.Outcome as outcome
use Rattle.register.specs.Acceptance.{accepted, refusal_of}
use Rattle.register.specs.Calls.{CallFields, enrol, file, amend, withdraw, take_back, close, look_up, Event}
use Rattle.register.specs.History.{standing_at, places_of, enrolment_of, numbers, number_of}
use Rattle.register.specs.Refusals.{refusal_told}
use Rattle.register.specs.declared.refusals.Refusal.{Refusal}
use Rattle.register.specs.declared.refusals.Refusal.TheVariants.{Vacant}

pub record AssessmentFields : Type 0 where
  pub emissions : ℕ
  pub outcome : outcome.Told
  pub balance : ℤ
  pub number : ℕ

abbrev pub assessment : ℕ → outcome.Told → ℕ → AssessmentFields
assessment e o n = record { emissions = e; outcome = o; balance = balance o e; number = n }

-- the assessment of a filing that stands at a facility and year, from the enrolment and the standing filings
abbrev pub assessment_of : Meaning → List Event → ℕ → ℕ → Option EnrolmentFields → Option FilingFields → Option AssessmentFields
assessment_of meaning es f y None o = None
assessment_of meaning es f y (Some e) None = None
assessment_of meaning es f y (Some e) (Some x) = Some (assessment (emissions x.head) (meaning e (places_of es f) y) (number_of es f y))

-- the assessment at a facility and year
unfoldable pub assessment_at : Meaning → List Event → ℕ → ℕ → Option AssessmentFields
assessment_at meaning es f y = assessment_of meaning es f y (enrolment_of es f) (standing_at es f y)

pub data Answered : Type 0 where
  enrolled : Answered
  numbered : ℕ → Answered
  closed : Answered
  assessed : AssessmentFields → Answered
  refused : Told → Answered

abbrev pub found : Option AssessmentFields → Answered
found (Some a) = assessed a
found None = refused (refusal_told Vacant)

-- the answer of an accepted call
abbrev pub granted : Meaning → CallFields → List Event → Answered
granted meaning (enrol e) es = enrolled
granted meaning (file f) es = numbered (numbers es + 1)
granted meaning (amend f) es = numbered (numbers es + 1)
granted meaning (withdraw f y) es = numbered (numbers es + 1)
granted meaning take_back es = numbered (numbers es + 1)
granted meaning close es = closed
granted meaning (look_up f y) es = found (assessment_at meaning es f y)

abbrev pub answer_by : Option Refusal → Answered → Answered
answer_by (Some w) a = refused (refusal_told w)
answer_by None a = a

-- the answer to a call after the calls cs
abbrev pub answer_to : Meaning → CallFields → List CallFields → Answered
answer_to meaning c cs = answer_by (refusal_of c (accepted cs)) (granted meaning c (accepted cs))

-- what the calls answer, in these words
abbrev pub number_answer : Result ℕ Refusal → Answered
number_answer (Ok n) = numbered n
number_answer (Err w) = refused (refusal_told w)

abbrev pub enrol_answer : {X : Type 0} → Result X Refusal → Answered
enrol_answer (Ok x) = enrolled
enrol_answer (Err w) = refused (refusal_told w)
