-- The plain numbers of an enrolment.
use Rattle.std.specs.Prelude.{◌≡◌, true, false, Ok, Err, Result}
use Rattle.enrolment.specs.Kinds.{enrolment_kind_number, choice_number}
use Rattle.enrolment.specs.Ranges.{in_ranges}
use Rattle.enrolment.specs.declared.enrolment.Enrolment.{Enrolment}
use Rattle.enrolment.specs.declared.faults.EnrolmentFault.{EnrolmentFault}
use Rattle.enrolment.specs.declared.fields.EnrolmentFields.{EnrolmentFields}

abbrev pub enrolled : Enrolment → EnrolmentFields
enrolled e =
    record {
      facility = e.facility;
      kind = enrolment_kind_number e.kind;
      year = e.year;
      day = e.day;
      choice = choice_number e.choice;
      factor = e.factor;
    }

-- an enrolment of exactly these fields where each is in its range, and a refusal where one is not
abbrev pub Enrols : EnrolmentFields → Result Enrolment EnrolmentFault → Type 0
Enrols f (Ok e) = (enrolled e ≡ f) × (in_ranges f ≡ true)
Enrols f (Err x) = in_ranges f ≡ false
