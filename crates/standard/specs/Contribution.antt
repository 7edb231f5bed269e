-- What a line contributes to a year's limit, in ten-millionths of a tonne.
use Rattle.std.specs.Prelude.{ℕ, ◌+◌, ◌*◌, cond, Some, None, Ok, Err, Option, Result, ◌==◌}
use Rattle.quantity.specs.Figures.{three_figures}
use Rattle.quantity.specs.Rounding.{nearest}
use Rattle.filing.specs.Kinds.{kind_of}
use Rattle.filing.specs.declared.fields.LineFields.{LineFields}
use Rattle.filing.specs.declared.kinds.LineKind.{LineKind}
use Rattle.filing.specs.declared.kinds.LineKind.TheVariants.{Numerical, Calculated, Gaseous}
use Rattle.enrolment.specs.declared.fields.EnrolmentFields.{EnrolmentFields}
use Rattle.standard.specs.Calculated.{calculated}
use Rattle.standard.specs.Capacity.{triggering_megawatts, other_megawatts}
use Rattle.standard.specs.Decreasing.{decreasing, steady}
use Rattle.standard.specs.Places.{Places, up_to}
use Rattle.standard.specs.declared.causes.Cause.{Cause}
use Rattle.standard.specs.declared.causes.Cause.TheVariants as cause
use Rattle.standard.specs.declared.calculation.Calculation.{Calculation}
use Rattle.standard.specs.declared.calculation.Calculation.TheVariants.{FromYears, Barred}

-- production at a standard, where there is one
abbrev pub at_standard : ℕ → Result ℕ Cause → Result ℕ Cause
at_standard p (Ok s) = Ok (p * s)
at_standard p (Err c) = Err c

-- T at the year's decreasing standard and U at the steady one
abbrev pub weighed : ℕ → ℕ → ℕ → ℕ
weighed t u y = t * decreasing y + u * steady

-- THE YIELD OF A UNIT: p thousandths of a GWh at the share of each standard, exact, and then brought to a ten-millionth
abbrev pub unit_yield : ℕ → ℕ → ℕ → ℕ → Result ℕ Cause
unit_yield p t u y =
    cond (t + u == 0)
    (cond (p == 0) (Ok 0) (Err cause.Capacity))
    (Ok (nearest (p * weighed t u y * 10000) (t + u)))

-- where the standard of a calculated line comes from: reference years, or nowhere
abbrev pub calculated_by : Calculation → EnrolmentFields → Places → ℕ → Result ℕ Cause
calculated_by FromYears e past activity = calculated e past activity
calculated_by Barred e past activity = Err cause.Method

abbrev pub of_kind : Option LineKind → Calculation → EnrolmentFields → Places → ℕ → LineFields → Result ℕ Cause
of_kind None by e past y l = Ok 0
of_kind (Some Numerical) by e past y l = Ok (three_figures l.production 1 * l.standard)
of_kind (Some Calculated) by e past y l = at_standard (three_figures l.production 1) (calculated_by by e past l.number)
of_kind (Some Gaseous) by e past y l = unit_yield (three_figures l.production 1) (triggering_megawatts l.number past) (other_megawatts l.number past) y

-- rounded production at the standard of the line's kind, from the places of the years up to y
unfoldable pub contribution : Calculation → EnrolmentFields → Places → ℕ → LineFields → Result ℕ Cause
contribution by e ps y l = of_kind (kind_of l.kind) by e (up_to y ps) y l
