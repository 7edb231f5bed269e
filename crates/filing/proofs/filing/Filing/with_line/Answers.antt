use Rattle.std.proofs.Common.{◌∙◌, arith}
use Rattle.std.proofs.lemmas.List.{length-set}
use Rattle.filing.proofs.Growing.{grown}
use Rattle.filing.proofs.filing.Filing.with_line.Goals as goal

pub invariant_of-result : goal.invariant_of-result
invariant_of-result c =
    let s = c.args.self.now in
    let g = grown s c.in_ok-line.line c.args.fields c.in_ok-line.ensures in
    record {
      room = length-set s.lines s.count c.in_ok-line.line ∙ s.room;
      few = omega (arith, g.below);
      head_in_range = s.head_in_range;
      lines_in_range = g.in_range;
      lines_apart = g.apart;
      within = g.within;
    }
