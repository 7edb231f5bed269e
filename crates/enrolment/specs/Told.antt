-- The refusal of an enrolment: its number, its word, and no values.
use Rattle.std.specs.Prelude.{ℕ, List, [], codes}
use Rattle.filing.specs.Told.{Told, refusal, printing}
use Rattle.enrolment.specs.declared.faults.EnrolmentFault.{EnrolmentFault}
use Rattle.enrolment.specs.declared.faults.EnrolmentFault.TheVariants.{Outside}

abbrev pub enrolment_told : EnrolmentFault → Told
enrolment_told Outside = refusal 13 []

abbrev pub enrolment_printed : EnrolmentFault → List ℕ
enrolment_printed f = printing (codes "enrolment") (enrolment_told f)
