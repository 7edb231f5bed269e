-- What the searches for reference years find.
use Rattle.std.specs.Prelude.{◌≡◌, ℕ, true, false, Some, None, Option}
use Rattle.filing.specs.Filing.{FilingFields}
use Rattle.enrolment.specs.declared.fields.EnrolmentFields.{EnrolmentFields}
use Rattle.standard.specs.Places.{Places}
use Rattle.standard.specs.Reference.{has_activity, figures_of, figures_at, base_year}
use Rattle.standard.specs.Views.{year_figures}
use Rattle.standard.specs.declared.units.ReferenceYear.{ReferenceYear}

-- N and D of the year y from what stands at its place, or nothing where no line is of the activity
abbrev pub YearOf : ℕ → ℕ → Option FilingFields → Option ReferenceYear → Type 0
YearOf activity y p None = has_activity activity p ≡ false
YearOf activity y p (Some r) = (has_activity activity p ≡ true) × (year_figures r ≡ figures_of activity y p)

-- N and D of the base year, or nothing where there is none
abbrev pub Based : EnrolmentFields → Places → ℕ → Option ReferenceYear → Type 0
Based e ps activity None = base_year e ps activity ≡ None
Based e ps activity (Some r) = (base_year e ps activity ≡ Some r.year) × (year_figures r ≡ figures_at ps activity r.year)
