use Rattle.std.proofs.Common.{◌≡◌, ◌*◌, ap, ◌∙◌, arith}
use Rattle.quantity.specs.Figures.{figure, three_figures, ThreeFigures}
use Rattle.quantity.proofs.ThirdFigure.{unit_is, unit_within}
use Rattle.quantity.proofs.ThreeFigures.{three_figures_meet, figures_only, figures_within}
use Rattle.quantity.proofs.rounding.three_figures.Goals as goal

pub overflow_mul-unit : goal.overflow_mul-unit
overflow_mul-unit c =
    let unit = unit_is _ _ _ (omega arith) (omega arith) c.unit_of-unit.ensures in
    omega (arith, unit_within _ _ _ 18446744073709551615 (omega arith) (omega arith) unit)

pub invariant_of-figure-clause-divides : goal.invariant_of-figure-clause-divides
invariant_of-figure-clause-divides c =
    let unit = unit_is _ _ _ (omega arith) (omega arith) c.unit_of-unit.ensures in
    omega arith

is : (c : goal.After-figure-figures) → c.figure-figures.result * c.unit_of-unit.result ≡ three_figures c.args.q.num c.args.q.den
unfolding three_figures
is c =
    ap (λ m. m * c.unit_of-unit.result) c.figure-figures.ensures.value
    ∙ ap (λ u. figure c.args.q.num (u * c.args.q.den) * u) c.unit_of-unit.ensures

meets : (c : goal.After-figure-figures) → ThreeFigures c.args.q.num c.args.q.den (c.figure-figures.result * c.unit_of-unit.result)
meets c = three_figures_meet _ _ _ (omega arith) (omega arith) (is c)

pub overflow_mul-result : goal.overflow_mul-result
overflow_mul-result c = omega (arith, figures_within _ _ _ 19 (omega arith) (meets c))

pub returns : goal.returns
returns c = record { value = is c; meets = meets c; only = λ s other. figures_only _ _ _ _ other (meets c) }
