-- The calculated output-based standard of an activity, in ten-thousandths of a tonne per unit.
use Rattle.std.specs.Prelude.{ℕ, ◌*◌, cond, List, [], ◌∷◌, Ok, Err, sum_by, Result, nat_lt}
use Rattle.quantity.specs.Figures.{three_figures}
use Rattle.quantity.specs.Ranges.{most_ten_thousandths}
use Rattle.enrolment.specs.declared.fields.EnrolmentFields.{EnrolmentFields}
use Rattle.standard.specs.Places.{Places}
use Rattle.standard.specs.Reference.{YearFigures, references}
use Rattle.standard.specs.declared.causes.Cause.{Cause}
use Rattle.standard.specs.declared.causes.Cause.TheVariants as cause

-- a standard as rounded, unless it is above the most
abbrev pub not_large : ℕ → Result ℕ Cause
not_large s = cond (nat_lt most_ten_thousandths s) (Err cause.Large) (Ok s)

-- the sum of N times the factor in per cent times 100, by the sum of D, to three figures, once
abbrev pub rated : ℕ → List YearFigures → ℕ
rated factor ys = three_figures (sum_by (λ y. y.kg) ys * factor * 100) (sum_by (λ y. y.thousandths) ys)

abbrev pub standard_of : ℕ → List YearFigures → Result ℕ Cause
standard_of factor [] = Err cause.Reference
standard_of factor (y ∷ ys) = not_large (rated factor (y ∷ ys))

abbrev pub calculated : EnrolmentFields → Places → ℕ → Result ℕ Cause
calculated e past activity = standard_of e.factor (references e past activity)
