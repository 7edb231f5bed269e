use Rattle.std.proofs.Common.{sym, ap, ◌∙◌}
use Rattle.std.proofs.lemmas.Result.{err_from_is_err_and}
use Rattle.filing.specs.Checks.{adding}
use Rattle.filing.specs.Views.{drafted}
use Rattle.codec.proofs.Steps.{lined_refused, lined_more}
use Rattle.codec.proofs.input.Input.lined.Goals as goal

pub returns-in_err-add_line : goal.returns-in_err-add_line
returns-in_err-add_line c =
    let p = err_from_is_err_and c.from_residual-in_err-add_line.result c.from_residual-in_err-add_line.ensures.1 in
    let s = c.loop-line in
    rw (p.1, p.2)
    (sym s.invariant
    ∙ lined_refused c.args.codes.list.now c.args.count s._line s.self.at c.size-size.result s.self.bytes.now (drafted s.full) c.size-size.ensures c.loop-line-test.true _ _ c.in_ok-bytes.ensures.says.0
    (ap (adding (drafted s.full)) (sym c.from.ensures) ∙ c.in_err-add_line.ensures.wrote.0))

pub loop-line-preserved : goal.loop-line-preserved
loop-line-preserved c =
    let s = c.loop-line in
    let p = c.in_ok-bytes.ensures.says in
    sym (lined_more c.args.codes.list.now c.args.count s._line s.self.at c.size-size.result s.self.bytes.now (drafted s.full) c.size-size.ensures c.loop-line-test.true _ _ _ _ p.0
    (ap (adding (drafted s.full)) (sym c.from.ensures) ∙ c.in_ok-add_line.ensures.wrote) p.1 p.2)
    ∙ s.invariant
