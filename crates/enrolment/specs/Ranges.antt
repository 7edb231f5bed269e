-- The ranges that every enrolment keeps.
use Rattle.std.specs.Prelude.{ℕ, ◌≤◌, Bool, ◌&&◌, nat_le}
use Rattle.enrolment.specs.Calendar.{days_in}
use Rattle.enrolment.specs.declared.fields.EnrolmentFields.{EnrolmentFields}

abbrev pub between : ℕ → ℕ → ℕ → Bool
between least most n = nat_le least n && nat_le n most

-- the ranges of the fields that are no kind and no choice
abbrev pub numbers_in_ranges : EnrolmentFields → Bool
numbers_in_ranges e =
    between 1 4 e.facility
    && (between 1900 2036 e.year
    && (between 1 (days_in e.year) e.day
    && between 1 100 e.factor))

abbrev pub in_ranges : EnrolmentFields → Bool
in_ranges e = between 1 2 e.kind && (between 1 3 e.choice && numbers_in_ranges e)

abbrev pub From : ℕ → ℕ → ℕ → Type 0
From least most n = (least ≤ n) × (n ≤ most)

-- the same in words
pub record Lawful (e : EnrolmentFields) : Type 0 where
  pub facility : From 1 4 e.facility
  pub kind : From 1 2 e.kind
  pub year : From 1900 2036 e.year
  pub day : From 1 (days_in e.year) e.day
  pub choice : From 1 3 e.choice
  pub factor : From 1 100 e.factor
