use Rattle.std.proofs.Common.{sym, arith}
use Rattle.quantity.proofs.ThreeFigures.{figures_within, figures_whole}
use Rattle.quantity.proofs.units.Production.rounded.Goals as goal

pub invariant_of-result : goal.invariant_of-result
invariant_of-result c = record { range = figures_within _ _ _ 11 (omega arith) c.three_figures.ensures.meets }

pub returns-clause-small : goal.returns-clause-small
returns-clause-small c h = sym (c.three_figures.ensures.only _ (figures_whole c.args.self.thousandths h))
