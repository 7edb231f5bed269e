use Rattle.std.proofs.Common.{Some, None, sym, refl, ◌∙◌}
use Rattle.std.proofs.lemmas.Result.{err_from_is_err_and}
use Rattle.filing.specs.Views.{filed}
use Rattle.register.proofs.Asking.{asked_unknown, asked_barred, asked_acts, file_acts, file_at, stands_same}
use Rattle.register.proofs.Options.{none_of}
use Rattle.register.proofs.table.Register.file.Goals as goal

pub returns-in_err-at-clause-lives : goal.returns-in_err-at-clause-lives
returns-in_err-at-clause-lives g c =
    let p = err_from_is_err_and c.from_residual.result c.from_residual.ensures.1 in
    rw (p.1, p.2, c.in_err-at.ensures.0)
    (asked_unknown g.M.LimitMethod.meaning c.args.self.now (file_acts (filed c.args.signed) c.from.result c.from.ensures) c.in_err-at.ensures.1)

pub returns-then-is_some-clause-lives : goal.returns-then-is_some-clause-lives
returns-then-is_some-clause-lives g c =
    let at = c.in_ok-at.at in
    asked_barred g.M.LimitMethod.meaning c.args.self.now (file_at (filed c.args.signed) c.in_ok-at.ensures.0 c.from.ensures) at.enrolment c.in_ok-at.ensures.1 c.standing.result c.standing.ensures (sym c.is_some.ensures ∙ c.if-is_some.true)

pub returns-clause-lives : goal.returns-clause-lives
returns-clause-lives g c =
    let at = c.in_ok-at.at in
    let none = stands_same c.args.self.now at.place.facility at.place.year c.standing.result None c.standing.ensures (none_of c.standing.result (sym c.is_some.ensures ∙ c.if-is_some.false)) in
    asked_acts g.M.LimitMethod.meaning c.args.self.now (file_at (filed c.args.signed) c.in_ok-at.ensures.0 c.from.ensures) at.enrolment c.in_ok-at.ensures.1 None none g.met.M.LimitMethod.later c.act.new.self at.place.year_range.0 at.place.year_range.1 refl (Some c.args.signed) refl
    c.act.result c.act.ensures
