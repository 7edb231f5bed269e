use Rattle.std.proofs.Common.{map, subst, arith}
use Rattle.standard.specs.Adding.{Adds}
use Rattle.standard.specs.Capacity.{dated}
use Rattle.standard.proofs.Additions.{adds_none, adds_line, adds_lines_all}
use Rattle.standard.proofs.capacity.UnitYear.added_by.Goals as goal

pub loop-line-init : goal.loop-line-init
loop-line-init c = (adds_none c.args.self.unit, omega arith)

pub loop-line-preserved : goal.loop-line-preserved
loop-line-preserved c = (
  adds_line c.args.self.unit c.args.self.year _ _ _ _ _ _ _ c.loop-line-test.true c.line-item.is c.loop-line.invariant.0 c.added_by_line-added.ensures.adds,
  omega arith,
)

pub returns : goal.returns
returns c =
    let all = adds_lines_all c.args.self.unit c.args.self.year _ _ _ _ c.loop-line-test.false c.loop-line.invariant.0 in
    record {
      adds = subst (λ ls. Adds c.args.self.unit (map (dated c.args.self.year) ls) c.loop-line.triggering c.loop-line.other) c.lines-lines.ensures.fields all;
      bound = omega arith;
    }
