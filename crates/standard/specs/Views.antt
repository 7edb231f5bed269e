-- The plain numbers of answers.
use Rattle.std.specs.Prelude.{ℕ, List, [], ◌∷◌, Some, None, Ok, Err, Option, Result}
use Rattle.quantity.specs.declared.units.Standard.{Standard}
use Rattle.standard.specs.Reference.{YearFigures}
use Rattle.standard.specs.declared.causes.Cause.{Cause}
use Rattle.standard.specs.declared.units.Contribution.{Contribution}
use Rattle.standard.specs.declared.units.ReferenceYear.{ReferenceYear}
use Rattle.standard.specs.declared.units.ReferenceYears.{ReferenceYears}
use Rattle.standard.specs.declared.units.ReferenceYears.TheVariants as years

abbrev pub standard_number : Result Standard Cause → Result ℕ Cause
standard_number (Ok s) = Ok s.ten_thousandths
standard_number (Err c) = Err c

abbrev pub contributed : Result Contribution Cause → Result ℕ Cause
contributed (Ok c) = Ok c.ten_millionths
contributed (Err c) = Err c

abbrev pub year_figures : ReferenceYear → YearFigures
year_figures y = record { year = y.year; kg = y.kg; thousandths = y.thousandths }

abbrev pub listed : Option ReferenceYears → List YearFigures
listed None = []
listed (Some (years.One a)) = year_figures a ∷ []
listed (Some (years.Two a b)) = year_figures a ∷ year_figures b ∷ []
