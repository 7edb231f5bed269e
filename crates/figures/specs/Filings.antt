-- How the worked cases write down enrolments, filings and places.
use Rattle.std.specs.Prelude.{ℕ, ◌-◌, ◌*◌, List, replicate, Some, None, slice_set}
use Rattle.filing.specs.Filing.{FilingFields}
use Rattle.filing.specs.declared.fields.LineFields.{LineFields}
use Rattle.enrolment.specs.declared.fields.EnrolmentFields.{EnrolmentFields}
use Rattle.standard.specs.Places.{Places}

abbrev pub enrolment : ℕ → ℕ → ℕ → ℕ → ℕ → EnrolmentFields
enrolment kind year day choice factor = record { facility = 1; kind = kind; year = year; day = day; choice = choice; factor = factor }

abbrev pub tonnes : ℕ → ℕ
tonnes t = t * 1000

-- so many tonnes of a product, or GWh, in thousandths
abbrev pub units : ℕ → ℕ
units n = n * 1000

-- a filing for a year, of so many kilograms of carbon dioxide and these lines
abbrev pub filing : ℕ → ℕ → List LineFields → FilingFields
filing year kg lines = record { head = record { facility = 1; year = year; co2 = kg; ch4 = 0; n2o = 0; sf6 = 0; captured = 0 }; lines = lines }

abbrev pub numerical : ℕ → ℕ → ℕ → ℕ → LineFields
numerical number production standard attributed =
    record { kind = 1; number = number; production = production; standard = standard; attributed = attributed; added = 0; ratio = 0 }

abbrev pub calculated_line : ℕ → ℕ → ℕ → LineFields
calculated_line number production attributed =
    record { kind = 2; number = number; production = production; standard = 0; attributed = attributed; added = 0; ratio = 0 }

abbrev pub gaseous : ℕ → ℕ → ℕ → ℕ → ℕ → LineFields
gaseous number production attributed added ratio =
    record { kind = 3; number = number; production = production; standard = 0; attributed = attributed; added = added; ratio = ratio }

abbrev pub nothing : Places
nothing = replicate 20 None

-- the places with a filing put at a year
abbrev pub at : ℕ → FilingFields → Places → Places
at year f ps = slice_set ps (year - 2017) (Some f)

-- the same filing at every place
abbrev pub every_year : FilingFields → Places
every_year f = replicate 20 (Some f)
