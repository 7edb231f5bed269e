-- The kinds of enrolment and the choices of reference years, by their numbers.
use Rattle.std.specs.Prelude.{◌≡◌, ℕ, cond, Some, None, Option, Ok, Err, Result, ◌==◌}
use Rattle.enrolment.specs.declared.kinds.Choice.{Choice}
use Rattle.enrolment.specs.declared.kinds.Choice.TheVariants.{Fixed, Base, BeforeBase}
use Rattle.enrolment.specs.declared.kinds.EnrolmentKind.{EnrolmentKind}
use Rattle.enrolment.specs.declared.kinds.EnrolmentKind.TheVariants.{Industrial, Station}
use Rattle.enrolment.specs.declared.faults.EnrolmentFault.{EnrolmentFault}

abbrev pub enrolment_kind_number : EnrolmentKind → ℕ
enrolment_kind_number Industrial = 1
enrolment_kind_number Station = 2

abbrev pub enrolment_kind_of : ℕ → Option EnrolmentKind
enrolment_kind_of n = cond (n == 1) (Some Industrial) (cond (n == 2) (Some Station) None)

abbrev pub choice_number : Choice → ℕ
choice_number Fixed = 1
choice_number Base = 2
choice_number BeforeBase = 3

abbrev pub choice_of : ℕ → Option Choice
choice_of n = cond (n == 1) (Some Fixed) (cond (n == 2) (Some Base) (cond (n == 3) (Some BeforeBase) None))

-- the kind or the choice that a number stands for, or the fault where it stands for none
abbrev pub DecodesKind : ℕ → Result EnrolmentKind EnrolmentFault → Type 0
DecodesKind n (Ok k) = enrolment_kind_of n ≡ Some k
DecodesKind n (Err e) = enrolment_kind_of n ≡ None

abbrev pub DecodesChoice : ℕ → Result Choice EnrolmentFault → Type 0
DecodesChoice n (Ok c) = choice_of n ≡ Some c
DecodesChoice n (Err e) = choice_of n ≡ None
