use Rattle.std.proofs.Common.{◌≡◌, length, ap, ◌∙◌, arith}
use Rattle.std.specs.Iterator.Adapters.{zip_second}
use Rattle.std.specs.Slice.Iter.{iter_rest}
use Rattle.standard.specs.Contribution.{contribution}
use Rattle.standard.specs.Seen.{by_year}
use Rattle.limit.specs.Lines.{in_tonnes, limit_of}
use Rattle.limit.specs.Outcome.{limit}
use Rattle.limit.proofs.FirstFault.{meant}
use Rattle.limit.proofs.Summing.{sum_fault, sum_all}
use Rattle.limit.proofs.lines.limit_of.Goals as goal

pub returns-in-Err : goal.returns-in-Err
unfolding limit_of
returns-in-Err c =
    let yield = by_year (contribution c.args.calculation) c.args.at in
    let s = c.in-Some.ensures.steps in
    let value = ap in_tonnes (sum_fault yield _ _ _ _ c.in-Err.cause _ _ _ s.0.0 s.1 c.in-Err.ensures c.loop-place.invariant.0) in
    record { value = value; means = meant yield _ _ value }

pub returns : goal.returns
unfolding limit_of
returns c =
    let yield = by_year (contribution c.args.calculation) c.args.at in
    let none : length (iter_rest (zip_second c.loop-place.place-iterator)) ≡ 0 = grind (arith, c.in-None.ensures.steps, c.loop-place.invariant.1) in
    let value = ap limit c.nearest_whole.ensures.value ∙ ap in_tonnes (sum_all yield _ _ _ _ none c.loop-place.invariant.0) in
    record { value = value; means = meant yield _ _ value }
