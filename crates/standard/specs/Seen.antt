-- What a facility's year sees of its places, where no later filing counts, and what a filing keeps.
use Rattle.std.specs.Prelude.{ℕ, List, map, take}
use Rattle.filing.specs.declared.filing.Filing.{Filing}
use Rattle.filing.specs.declared.parts.Line.{Line}
use Rattle.enrolment.specs.Views.{enrolled}
use Rattle.enrolment.specs.declared.fields.EnrolmentFields.{EnrolmentFields}
use Rattle.standard.specs.Places.{Places, filings, up_to}
use Rattle.standard.specs.Reference.{YearFigures, figures_at}
use Rattle.standard.specs.declared.activity.Activity.{Activity}
use Rattle.standard.specs.declared.facility.FacilityYear.{FacilityYear}

abbrev pub seen : FacilityYear → Places
seen at = up_to at.year (filings at.places.now)

-- a rule of an enrolment, of yearly places and of a year, for a facility in a year
abbrev pub by_year : {A : Type 0} → (EnrolmentFields → Places → ℕ → A) → FacilityYear → A
by_year f at = f (enrolled at.enrolment.now) (filings at.places.now) at.year

-- a rule of an enrolment and of yearly places, for those that a facility's year sees
abbrev pub as_seen {ℓ} : {A : Type ℓ} → (EnrolmentFields → Places → A) → FacilityYear → A
as_seen f at = f (enrolled at.enrolment.now) (seen at)

-- and for an activity of the facility
abbrev pub by_activity {ℓ} : {A : Type ℓ} → (EnrolmentFields → Places → ℕ → A) → Activity → A
by_activity f a = as_seen f a.at a.number

-- what these years have of an activity
abbrev pub figured : Activity → List ℕ → List YearFigures
figured a ys = map (figures_at (seen a.at) a.number) ys

-- the lines of a filing, as it keeps them
abbrev pub lines_of : Filing → List Line
lines_of f = take f.count f.lines
