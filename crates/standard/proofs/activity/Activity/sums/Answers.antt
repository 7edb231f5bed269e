use Rattle.std.proofs.Common.{◌≡◌, true, false, not, sym, ◌∙◌, arith}
use Rattle.filing.specs.Parts.{line_fields}
use Rattle.standard.specs.Reference.{of_activity}
use Rattle.standard.proofs.Lines.{passed_more}
use Rattle.standard.proofs.activity.Activity.sums.Goals.{then-is, else-is}
use Rattle.standard.proofs.activity.Activity.sums.Goals as goal

pub loop-line-preserved : goal.loop-line-preserved
loop-line-preserved c =
    let o = passed_more (λ m. not (of_activity c.args.self.number m)) (λ m. m.attributed) c.lines-lines.result.now c.loop-line.line-index c.line-item.result c.loop-line-test.true c.line-item.is in
    let m = passed_more (of_activity c.args.self.number) (λ m. m.production) c.lines-lines.result.now c.loop-line.line-index c.line-item.result c.loop-line-test.true c.line-item.is in
    elim c.if-is.branch [
      | then-is w ↦
          let own : of_activity c.args.self.number (line_fields c.line-item.result) ≡ true = sym c.is.ensures ∙ w.if-is.true in
          let others = rw own at o in
          let made = rw own at m in
          (omega arith, omega arith, omega arith, omega arith)
      | else-is w ↦
          let other : of_activity c.args.self.number (line_fields c.line-item.result) ≡ false = sym c.is.ensures ∙ w.if-is.false in
          let others = rw other at o in
          let made = rw other at m in
          (omega arith, omega arith, omega arith, omega arith)
    ]
