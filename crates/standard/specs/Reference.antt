-- The reference years of an activity, and what each has of it.
use Rattle.std.specs.Prelude.{◌≡◌, ℕ, zero, suc, ◌-◌, ◌≤◌, Bool, true, false, cond, not, ◌&&◌, List, [], ◌∷◌, map, Some, None, sum_by, filter, Option, ◌==◌, ◌≢◌}
use Rattle.std.specs.List.{list_any}
use Rattle.filing.specs.Emissions.{total}
use Rattle.filing.specs.Filing.{FilingFields}
use Rattle.filing.specs.Kinds.{kind_number}
use Rattle.filing.specs.declared.fields.LineFields.{LineFields}
use Rattle.filing.specs.declared.kinds.LineKind.TheVariants.{Calculated}
use Rattle.enrolment.specs.Exempt.{exempt}
use Rattle.enrolment.specs.declared.fields.EnrolmentFields.{EnrolmentFields}
use Rattle.standard.specs.Places.{Places, standing}

-- a calculated line of the activity
abbrev pub of_activity : ℕ → LineFields → Bool
of_activity activity l = l.kind == kind_number Calculated && l.number == activity

abbrev pub has_activity : ℕ → Option FilingFields → Bool
has_activity activity None = false
has_activity activity (Some f) = list_any (of_activity activity) f.lines

-- a year qualifies as a reference year: a filing with a calculated line of the activity stands there
abbrev pub qualifies : Places → ℕ → ℕ → Bool
qualifies ps activity y = has_activity activity (standing ps y)

-- N: the total less the attributed kilograms of all other lines
abbrev pub emitted_by : ℕ → FilingFields → ℕ
emitted_by activity f = total f.head - sum_by (λ l. l.attributed) (filter (λ l. not (of_activity activity l)) f.lines)

-- D: the production of the activity's line, not rounded
abbrev pub made_by : ℕ → FilingFields → ℕ
made_by activity f = sum_by (λ l. l.production) (filter (of_activity activity) f.lines)

-- the first of n numbers from y on that passes
abbrev pub least_from : (ℕ → Bool) → ℕ → ℕ → Option ℕ
least_from test y zero = None
least_from test y (suc n) = cond (test y) (Some y) (least_from test (suc y) n)

abbrev pub may_be_base : EnrolmentFields → Places → ℕ → ℕ → Bool
may_be_base e ps activity y = not (exempt e y) && qualifies ps activity y

-- the earliest year from 2019 on that is not exempt and qualifies
unfoldable pub base_year : EnrolmentFields → Places → ℕ → Option ℕ
base_year e ps activity = least_from (may_be_base e ps activity) 2019 18

-- what a base year means
pub record IsBase (e : EnrolmentFields) (ps : Places) (activity y : ℕ) : Type 0 where
  pub from : 2019 ≤ y
  pub due : exempt e y ≡ false
  pub filed : qualifies ps activity y ≡ true
  pub least : (z : ℕ) → 2019 ≤ z → exempt e z ≡ false → qualifies ps activity z ≡ true → y ≤ z

-- the base year, or none where no year can be one
abbrev pub BaseOf : EnrolmentFields → Places → ℕ → Option ℕ → Type 0
BaseOf e ps activity (Some y) = IsBase e ps activity y
BaseOf e ps activity None = (z : ℕ) → 2019 ≤ z → exempt e z ≡ false → qualifies ps activity z ≢ true

-- the two years before the base year where both qualify, else the one before where it does, else the base year
abbrev pub before_base : (ℕ → Bool) → ℕ → List ℕ
before_base qualify base =
    cond (qualify (base - 1))
    (cond (qualify (base - 2)) ((base - 2) ∷ (base - 1) ∷ []) ((base - 1) ∷ []))
    (base ∷ [])

abbrev pub from_base : (ℕ → List ℕ) → Option ℕ → List ℕ
from_base years None = []
from_base years (Some base) = years base

-- choice 1 takes those of 2017 and 2018 that qualify, choice 2 the base year, choice 3 the years before it
abbrev pub chosen_years : ℕ → (ℕ → Bool) → Option ℕ → List ℕ
chosen_years choice qualify base =
    cond (choice == 1) (filter qualify (2017 ∷ 2018 ∷ []))
    (cond (choice == 2) (from_base (λ b. b ∷ []) base)
    (from_base (before_base qualify) base))

abbrev pub reference_years : EnrolmentFields → Places → ℕ → List ℕ
reference_years e ps activity = chosen_years e.choice (qualifies ps activity) (base_year e ps activity)

-- N and D of a year
pub record YearFigures : Type 0 where
  pub year : ℕ
  pub kg : ℕ
  pub thousandths : ℕ

abbrev pub figures_of : ℕ → ℕ → Option FilingFields → YearFigures
figures_of activity y None = record { year = y; kg = 0; thousandths = 0 }
figures_of activity y (Some f) = record { year = y; kg = emitted_by activity f; thousandths = made_by activity f }

abbrev pub figures_at : Places → ℕ → ℕ → YearFigures
figures_at ps activity y = figures_of activity y (standing ps y)

unfoldable pub references : EnrolmentFields → Places → ℕ → List YearFigures
references e ps activity = map (figures_at ps activity) (reference_years e ps activity)
