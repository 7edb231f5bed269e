-- The outcome of a year by the industrial method and by the station's.
use Rattle.std.specs.Prelude.{ℕ, Bool, cond, ◌&&◌, Some, None, Option, nat_lt}
use Rattle.filing.specs.Filing.{FilingFields}
use Rattle.enrolment.specs.Exempt.{exempt}
use Rattle.enrolment.specs.declared.fields.EnrolmentFields.{EnrolmentFields}
use Rattle.standard.specs.Contribution.{contribution}
use Rattle.standard.specs.Places.{Places, standing}
use Rattle.standard.specs.declared.calculation.Calculation.{Calculation}
use Rattle.standard.specs.declared.calculation.Calculation.TheVariants.{FromYears, Barred}
use Rattle.limit.specs.Lines.{limit_of}
use Rattle.limit.specs.Outcome.{Told, no_limit}

-- 15 where nothing stands; 41 before 2019; 42 in an exempt year; else what the lines come to
abbrev pub of_filing : Bool → Calculation → EnrolmentFields → Places → ℕ → Option FilingFields → Told
of_filing free by e ps y None = no_limit 15
of_filing free by e ps y (Some f) =
    cond (nat_lt y 2019) (no_limit 41)
    (cond free (no_limit 42) (limit_of (contribution by e ps y) f.lines))

abbrev pub industrial : EnrolmentFields → Places → ℕ → Told
industrial e ps y = of_filing (exempt e y) FromYears e ps y (standing ps y)

-- a station that began in 2021 or later has no exempt year
abbrev pub station_exempt : EnrolmentFields → ℕ → Bool
station_exempt e y = nat_lt e.year 2021 && exempt e y

abbrev pub station : EnrolmentFields → Places → ℕ → Told
station e ps y = of_filing (station_exempt e y) Barred e ps y (standing ps y)
