-- The years in which a new facility has no limit yet.
use Rattle.std.specs.Prelude.{◌≡◌, ℕ, ◌+◌, ◌<◌, ◌≤◌, Bool, cond, ◌⊎◌, ◌==◌, nat_lt}
use Rattle.enrolment.specs.declared.fields.EnrolmentFields.{EnrolmentFields}

-- the first calendar year that begins on or after first production
abbrev pub first_year : EnrolmentFields → ℕ
first_year e = cond (e.day == 1) e.year (e.year + 1)

-- years before the third such year are exempt
abbrev pub exempt : EnrolmentFields → ℕ → Bool
exempt e y = nat_lt y (first_year e + 2)

-- the first day of the year y is not before the day of first production
abbrev pub BeginsAfter : EnrolmentFields → ℕ → Type 0
BeginsAfter e y = (e.year < y) ⊎ ((e.year ≡ y) × (e.day ≤ 1))

-- what first_year means: of the years that begin on or after first production it is the least
pub record FirstYear (e : EnrolmentFields) (y : ℕ) : Type 0 where
  pub begins : BeginsAfter e y
  pub least : (z : ℕ) → BeginsAfter e z → y ≤ z
