use Rattle.std.proofs.Common.{arith}
use Rattle.standard.proofs.Yields.{nearest_parts, yield_small}
use Rattle.standard.proofs.gaseous.in_ten_millionths.Goals as goal

pub returns : goal.returns
returns c =
    let parts = nearest_parts _ _ _ _ (omega arith) c.nearest_whole.ensures.value in
    record { value = parts; bound = yield_small _ _ _ (omega arith) (omega arith) parts }
