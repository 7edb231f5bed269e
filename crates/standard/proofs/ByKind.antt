-- What a line contributes, by its kind.
use Rattle.std.proofs.Common.{◌≡◌, ℕ, Some, Result, sym, refl, ap, ◌∙◌}
use Rattle.quantity.specs.Figures.{three_figures}
use Rattle.filing.specs.Kinds.{kind_number, kind_of}
use Rattle.filing.specs.Parts.{line_fields}
use Rattle.filing.specs.declared.kinds.LineKind.{LineKind}
use Rattle.filing.specs.declared.kinds.LineKind.TheVariants.{Numerical, Calculated, Gaseous}
use Rattle.filing.specs.declared.parts.Line.{Line}
use Rattle.enrolment.specs.declared.fields.EnrolmentFields.{EnrolmentFields}
use Rattle.standard.specs.Calculated.{calculated}
use Rattle.standard.specs.Contribution.{at_standard, calculated_by, of_kind, contribution}
use Rattle.standard.specs.Places.{Places, up_to}
use Rattle.standard.specs.declared.calculation.Calculation.{Calculation}
use Rattle.standard.specs.declared.calculation.Calculation.TheVariants.{FromYears}
use Rattle.standard.specs.declared.causes.Cause.{Cause}

kind_of_number : (k : LineKind) → kind_of (kind_number k) ≡ Some k
kind_of_number Numerical = refl
kind_of_number Calculated = refl
kind_of_number Gaseous = refl

module _ (by : Calculation) (e : EnrolmentFields) (ps : Places) (y : ℕ) (l : Line) where
  by_kind : (k : LineKind) → l.kind ≡ k → of_kind (Some k) by e (up_to y ps) y (line_fields l) ≡ contribution by e ps y (line_fields l)
  unfolding contribution
  by_kind k is = ap (λ o. of_kind o by e (up_to y ps) y (line_fields l)) (sym (kind_of_number l.kind ∙ ap Some is))

  -- p is the line's production, rounded
  pub calculated_from_years : (p : ℕ) → p ≡ three_figures l.production.thousandths 1 → (s : Result ℕ Cause) → by ≡ FromYears → l.kind ≡ Calculated → s ≡ calculated e (up_to y ps) l.number → at_standard p s ≡ contribution by e ps y (line_fields l)
  calculated_from_years p rounded s years kind is =
      ap (λ n. at_standard n s) rounded
      ∙ ap (at_standard (three_figures l.production.thousandths 1)) (is ∙ ap (λ b. calculated_by b e (up_to y ps) l.number) (sym years))
      ∙ by_kind Calculated kind
