use Rattle.std.proofs.Common.{◌+◌, ◌*◌, ◌≤◌, length}
use Rattle.std.specs.Iterator.Adapters.{zip_first, zip_second}
use Rattle.std.specs.Slice.Iter.{iter_rest}
use Rattle.filing.specs.Views.{fields_of}
use Rattle.standard.specs.Contribution.{contribution}
use Rattle.standard.specs.Ranges.{most_contributed}
use Rattle.standard.specs.Seen.{by_year}
use Rattle.limit.specs.Lines.{summed}
use Rattle.limit.proofs.Summing.{SoFar}
use Rattle.limit.proofs.lines.limit_of.Given as goal

abbrev pub invariant-loop-place : goal.invariant-loop-place
invariant-loop-place l =
    let yield = by_year (contribution l.calculation) l.at in
    SoFar yield (summed yield 1 (fields_of l.filing).lines) (zip_first l.place-iterator).start (iter_rest (zip_second l.place-iterator)) l.sum
    × ((zip_first l.place-iterator).start + length (iter_rest (zip_second l.place-iterator)) ≤ 7)
    × (l.sum + most_contributed * length (iter_rest (zip_second l.place-iterator)) ≤ 6 * most_contributed)
