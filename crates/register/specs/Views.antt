-- The plain numbers of what a register holds.
use Rattle.std.specs.Prelude.{◌≡◌, ℕ, ◌+◌, ◌-◌, cond, replicate, Some, None, Ok, Err, Option, Result, slice_index_or}
use Rattle.std.specs.Option.{option_map}
use Rattle.filing.specs.Emissions.{emissions as emissions_of}
use Rattle.filing.specs.Filing.{FilingFields}
use Rattle.enrolment.specs.Ranges.{between}
use Rattle.enrolment.specs.declared.enrolment.Enrolment.{Enrolment}
use Rattle.enrolment.specs.declared.fields.EnrolmentFields.{EnrolmentFields}
use Rattle.limit.specs.Laws.{Meaning}
use Rattle.limit.specs.Outcome.{told}
use Rattle.standard.specs.Places.{Places, at_year, filing_at}
use Rattle.register.specs.Answers.{AssessmentFields, assessment, Answered, assessed, refused}
use Rattle.register.specs.Refusals.{refusal_told}
use Rattle.register.specs.declared.log.Entry.{Entry}
use Rattle.register.specs.declared.refusals.Refusal.{Refusal}
use Rattle.register.specs.declared.table.Assessment.{Assessment}
use Rattle.register.specs.declared.table.Plant.{Plant}
use Rattle.register.specs.declared.table.Register.{Register}

abbrev pub assessment_fields : Assessment → AssessmentFields
assessment_fields a =
    record {
      emissions = a.emissions.tonnes;
      outcome = told a.outcome;
      balance = a.balance;
      number = a.number;
    }

-- an act of the undo log, with what stood at its place before it
pub record Logged : Type 0 where
  pub facility : ℕ
  pub year : ℕ
  pub before : Option FilingFields

abbrev pub logged : Entry → Logged
logged e = record { facility = e.place.facility; year = e.place.year; before = filing_at e.before }

-- the assessment that is made with the number n of a filing of the year y, from an enrolment and a facility's places
abbrev pub anew_of : Meaning → EnrolmentFields → Places → ℕ → ℕ → Option FilingFields → Option AssessmentFields
anew_of meaning e ps y n None = None
anew_of meaning e ps y n (Some x) = Some (assessment (emissions_of x.head) (meaning e ps y) n)

-- the same of what stands at the place k
abbrev pub anew : Meaning → EnrolmentFields → Places → ℕ → ℕ → Option AssessmentFields
anew meaning e ps k n = anew_of meaning e ps (2017 + k) n (slice_index_or ps k None)

abbrev pub blank_plant : Plant
blank_plant = record { enrolment = None; places = replicate 20 None; assessed = replicate 20 None }

-- nothing is shown of a facility that is not enrolled
abbrev pub shown_of : Option Enrolment → Option Assessment → Option AssessmentFields
shown_of None a = None
shown_of (Some e) a = option_map assessment_fields a

abbrev pub shown_in : Plant → ℕ → Option AssessmentFields
shown_in p y = shown_of p.enrolment (at_year p.assessed y)

-- what a look-up shows of a register
unfoldable pub shown_at : {M : Type 0} → Register M → ℕ → ℕ → Option AssessmentFields
shown_at r f y = cond (between 1 4 f) (shown_in (slice_index_or r.plants (f - 1) blank_plant) y) None

abbrev pub look_answer : Result Assessment Refusal → Answered
look_answer (Ok a) = assessed (assessment_fields a)
look_answer (Err w) = refused (refusal_told w)

-- what a look-up answers is what it shows
abbrev pub Looked : Result Assessment Refusal → Option AssessmentFields → Type 0
Looked (Ok a) o = o ≡ Some (assessment_fields a)
Looked (Err w) o = o ≡ None
