use Rattle.std.proofs.Common.{◌+◌, ◌*◌, ◌≤◌, length}
use Rattle.std.specs.Iterator.Adapters.{zip_first, zip_second}
use Rattle.std.specs.Slice.Iter.{iter_rest}
use Rattle.standard.specs.Capacity.{dated_from}
use Rattle.standard.specs.Places.{filings}
use Rattle.standard.specs.Ranges.{most_added, most_capacity}
use Rattle.standard.proofs.Additions.{Left}
use Rattle.standard.proofs.capacity.capacity_of.Given as goal

abbrev pub invariant-loop-year : goal.invariant-loop-year
invariant-loop-year l =
    Left l.unit (zip_first l.year-iterator).start (iter_rest (zip_second l.year-iterator)) (dated_from 2017 (filings (iter_rest (zip_second l.initial.year-iterator)))) l.triggering l.other
    × ((zip_first l.year-iterator).start + length (iter_rest (zip_second l.year-iterator)) ≤ 2037)
    × (l.triggering + l.other + most_added * length (iter_rest (zip_second l.year-iterator)) ≤ most_capacity)
