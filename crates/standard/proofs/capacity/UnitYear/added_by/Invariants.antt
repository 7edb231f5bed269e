use Rattle.std.proofs.Common.{◌+◌, ◌*◌, ◌≤◌, take}
use Rattle.standard.specs.Adding.{Adds}
use Rattle.standard.proofs.Additions.{dated_lines}
use Rattle.standard.proofs.capacity.UnitYear.added_by.Given as goal

abbrev pub invariant-loop-line : goal.invariant-loop-line
invariant-loop-line l =
    Adds l.self.unit (dated_lines l.self.year (take l.line-index l.lines)) l.triggering l.other
    × (l.triggering + l.other ≤ 1000 * l.line-index)
