use Rattle.std.proofs.Common.{arith}
use Rattle.quantity.proofs.ThirdFigure.{unit_made}
use Rattle.quantity.proofs.rounding.unit_of.Goals as goal

-- by what the numbers are, and not by the steps that made them: a wrong exponent is refused as one
pub returns : goal.returns
returns c = unit_made c.args.q.num c.args.q.den _ _ _ _ c.checked_ilog10.ensures.none c.checked_ilog10.ensures.power_le c.checked_ilog10.ensures.next_power_gt (omega arith) (omega arith) c.pow.ensures (omega arith) (omega arith)
