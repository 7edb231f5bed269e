-- The worked figures. Each layer adds its rows to this list.
use Rattle.std.specs.Prelude.{ℕ, Bool, true, false, cond, ◌&&◌, T, List, [], ◌∷◌, reverse, Some, None, Ok, Err, Option, Result, ◌==◌}
use Rattle.quantity.specs.Figures.{three_figures}
use Rattle.filing.specs.Filing.{FilingFields}
use Rattle.filing.specs.Told.{Told, Name}
use Rattle.enrolment.specs.declared.fields.EnrolmentFields.{EnrolmentFields}
use Rattle.standard.specs.Calculated.{calculated}
use Rattle.standard.specs.Causes.{cause_number}
use Rattle.standard.specs.Places.{Places, up_to}
use Rattle.standard.specs.Reference.{least_from}
use Rattle.standard.specs.declared.causes.Cause.{Cause}
use Rattle.limit.specs.Methods.{industrial, station}
use Rattle.limit.specs.Outcome as outcome
use Rattle.register.specs.Acceptance.{accepted}
use Rattle.register.specs.Answers.{AssessmentFields, assessment_at}
use Rattle.register.specs.Calls.{CallFields, enrol, file, withdraw}
use Rattle.codec.specs.Reading.{reading}
use Rattle.figures.specs.Filings.{enrolment, tonnes, units, filing, numerical, calculated_line, gaseous, nothing, at, every_year}

-- what is worked out
pub data Case : Type 0 where
  -- production to three figures
  production : ℕ → Case
  -- the calculated standard of an activity in a year
  standard : EnrolmentFields → Places → ℕ → ℕ → Case
  -- the outcome of a year, by the method of the enrolment's kind
  limit : EnrolmentFields → Places → ℕ → Case
  -- the first year that has a limit
  first_limit : EnrolmentFields → Places → Case
  -- what stands assessed at a facility and year after a history, told from its oldest call on
  looked_up : List CallFields → ℕ → ℕ → Case
  -- what the reader makes of some bytes
  reads : List ℕ → Case

-- what it comes to: a number, a limit with the number that it bears, no limit with its cause, or a fault or refusal with its
-- number and place
pub data Figure : Type 0 where
  is : ℕ → Figure
  bears : ℕ → ℕ → Figure
  no_limit : ℕ → Figure
  refused : ℕ → ℕ → Figure

-- a figure as a row of numbers, the first of which tells its kind
abbrev pub row : Figure → List ℕ
row (is n) = 0 ∷ n ∷ []
row (bears n number) = 1 ∷ n ∷ number ∷ []
row (no_limit c) = 2 ∷ c ∷ []
row (refused n place) = 3 ∷ n ∷ place ∷ []

abbrev pub same_row : List ℕ → List ℕ → Bool
same_row [] [] = true
same_row [] (b ∷ bs) = false
same_row (a ∷ rest) [] = false
same_row (a ∷ rest) (b ∷ bs) = a == b && same_row rest bs

abbrev pub standard_figure : Result ℕ Cause → Figure
standard_figure (Ok s) = is s
standard_figure (Err c) = refused (cause_number c) 0

abbrev pub outcome_figure : outcome.Told → Figure
outcome_figure (outcome.limit n) = is n
outcome_figure (outcome.no_limit c) = no_limit c
outcome_figure (outcome.fault c l) = refused c l

abbrev pub has_limit : outcome.Told → Bool
has_limit (outcome.limit n) = true
has_limit (outcome.no_limit c) = false
has_limit (outcome.fault c l) = false

abbrev pub by_kind : EnrolmentFields → Places → ℕ → outcome.Told
by_kind e ps y = cond (e.kind == 1) (industrial e ps y) (station e ps y)

abbrev pub year_figure : Option ℕ → Figure
year_figure (Some y) = is y
year_figure None = no_limit 0

abbrev pub bearing : outcome.Told → ℕ → Figure
bearing (outcome.limit n) number = bears n number
bearing (outcome.no_limit c) number = no_limit c
bearing (outcome.fault c l) number = refused c l

abbrev pub assessed_figure : Option AssessmentFields → Figure
assessed_figure None = no_limit 15
assessed_figure (Some a) = bearing a.outcome a.number

abbrev pub first_value : List (Name × ℕ) → ℕ
first_value [] = 0
first_value (v ∷ vs) = v.1

abbrev pub record_figure : Result (ℕ × ℕ × FilingFields) Told → Figure
record_figure (Ok r) = is r.0
record_figure (Err t) = refused t.number (first_value t.values)

abbrev pub figure : Case → Figure
figure (production p) = is (three_figures p 1)
figure (standard e ps y activity) = standard_figure (calculated e (up_to y ps) activity)
figure (limit e ps y) = outcome_figure (by_kind e ps y)
figure (first_limit e ps) = year_figure (least_from (λ y. has_limit (by_kind e ps y)) 2017 20)
figure (looked_up calls f y) = assessed_figure (assessment_at by_kind (accepted (reverse calls)) f y)
figure (reads bytes) = record_figure (reading bytes)

-- three products and electricity in 2017 and 2018; the standard of the third product is calculated, at 80 per cent
abbrev three_products : Places
three_products =
    at 2017
    (filing 2017 (tonnes 9000000)
    (numerical 1 (units 50000) 0 (tonnes 2000000)
    ∷ numerical 2 (units 60000) 0 (tonnes 2500000)
    ∷ calculated_line 3 (units 70000) (tonnes 3500000)
    ∷ gaseous 4 (units 2500) (tonnes 1000000) 0 0 ∷ []))
    (at 2018
    (filing 2018 (tonnes 11000000)
    (numerical 1 (units 55000) 0 (tonnes 2500000)
    ∷ numerical 2 (units 65000) 0 (tonnes 3000000)
    ∷ calculated_line 3 (units 75000) (tonnes 4000000)
    ∷ gaseous 4 (units 3750) (tonnes 1500000) 0 0 ∷ []))
    nothing)

-- coke, iron, steel from the oxygen furnace, steel from the arc furnace, and electricity less the arc furnace's part of it
abbrev steel_plant : Places
steel_plant =
    at 2017
    (filing 2017 (tonnes 3511000)
    (numerical 1 (units 535000) 0 (tonnes 270000)
    ∷ numerical 2 (units 2100000) 0 (tonnes 2800000)
    ∷ numerical 3 (units 2200000) 0 (tonnes 355000)
    ∷ calculated_line 4 (units 1125000) 80136947
    ∷ numerical 5 (units 335000) 0 5863053 ∷ []))
    (at 2018
    (filing 2018 (tonnes 3687000)
    (numerical 1 (units 565000) 0 (tonnes 285000)
    ∷ numerical 2 (units 2175000) 0 (tonnes 2950000)
    ∷ numerical 3 (units 2320000) 0 (tonnes 360000)
    ∷ calculated_line 4 (units 1180000) 85161685
    ∷ numerical 5 (units 355000) 0 6838315 ∷ []))
    nothing)

abbrev old_station : EnrolmentFields
old_station = enrolment 2 2010 1 1 100

-- 600 GWh from diesel, 200 GWh from a new gas unit, and 500 GWh from a gas unit of 160 MW enlarged by 60 MW in 2022
abbrev diesel_and_gas : Places
diesel_and_gas =
    at 2018 (filing 2018 0 (gaseous 2 0 0 160 0 ∷ []))
    (at 2022
    (filing 2022 0
    (numerical 1 (units 600) 5500000 0
    ∷ gaseous 3 (units 200) 0 80 800
    ∷ gaseous 2 (units 500) 0 60 750 ∷ []))
    nothing)

-- a unit of 100 MW from 2018 that makes 300 GWh in 2022, when so many megawatts are added at a ratio
abbrev enlarged : ℕ → ℕ → Case
enlarged added ratio =
    limit old_station
    (at 2018 (filing 2018 0 (gaseous 1 0 0 100 0 ∷ []))
    (at 2022 (filing 2022 0 (gaseous 1 (units 300) 0 added ratio ∷ [])) nothing))
    2022

-- that unit's station files 2018, 2022 and 2023, and then withdraws 2018
abbrev early_year_withdrawn : List CallFields
early_year_withdrawn =
    enrol old_station
    ∷ file (filing 2018 0 (gaseous 1 0 0 100 0 ∷ []))
    ∷ file (filing 2022 0 (gaseous 1 (units 300) 0 50 899 ∷ []))
    ∷ file (filing 2023 0 (gaseous 1 (units 300) 0 0 0 ∷ []))
    ∷ withdraw 1 2018
    ∷ []

-- a plant that files every year and began to produce on a day of 2019
abbrev begun : ℕ → Case
begun day = first_limit (enrolment 1 2019 day 1 80) (every_year (filing 2019 0 (numerical 1 1000 1000 0 ∷ [])))

-- a header of version 2 whose sixth code is 6
abbrev sixth_code_six : List ℕ
sixth_code_six = 0x4F ∷ 0x42 ∷ 0x46 ∷ 0 ∷ 2 ∷ 11 ∷ 1 ∷ 2 ∷ 3 ∷ 4 ∷ 5 ∷ 6 ∷ 22 ∷ 23 ∷ 24 ∷ 26 ∷ 27 ∷ []

abbrev pub cases : List (Case × Figure)
cases =
    (production 999, is 999)
    ∷ (production 1004, is 1000)
    ∷ (production 1005, is 1010)
    ∷ (production 9995, is 10000)
    ∷ (standard (enrolment 1 2000 1 1 80) three_products 2019 3, is 414000)
    ∷ (standard (enrolment 1 2000 1 1 95) steel_plant 2019 4, is 681)
    ∷ (limit old_station diesel_and_gas 2022, is 575209)
    ∷ (enlarged 50 899, is 106900)
    ∷ (enlarged 49 899, is 111000)
    ∷ (enlarged 50 900, is 111000)
    ∷ (looked_up early_year_withdrawn 1 2022, bears 98700 4)
    ∷ (looked_up early_year_withdrawn 1 2023, bears 86400 4)
    ∷ (begun 1, is 2021)
    ∷ (begun 2, is 2022)
    ∷ (reads sixth_code_six, refused 4 6)
    ∷ []

abbrev pub met : List (Case × Figure) → Bool
met [] = true
met (c ∷ cs) = same_row (row (figure c.0)) (row c.1) && met cs

-- every case comes to its figure
abbrev pub AllMet : Type 0
AllMet = T (met cases)
