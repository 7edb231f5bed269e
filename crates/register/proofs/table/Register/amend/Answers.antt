use Rattle.std.proofs.Common.{not, Some, sym, refl, ap}
use Rattle.std.proofs.lemmas.Result.{err_from_is_err_and}
use Rattle.filing.specs.Views.{filed}
use Rattle.register.specs.declared.refusals.Refusal.TheVariants.{Vacant}
use Rattle.register.proofs.Asking.{asked_unknown, asked_barred, asked_acts, amend_acts, amend_at, stands_same}
use Rattle.register.proofs.Options.{missing}
use Rattle.register.proofs.table.Register.amend.Goals as goal

pub returns-in_err-at-clause-lives : goal.returns-in_err-at-clause-lives
returns-in_err-at-clause-lives g c =
    let p = err_from_is_err_and c.from_residual.result c.from_residual.ensures.1 in
    rw (p.1, p.2, c.in_err-at.ensures.0)
    (asked_unknown g.M.LimitMethod.meaning c.args.self.now (amend_acts (filed c.args.signed) c.from.result c.from.ensures) c.in_err-at.ensures.1)

pub returns-in_err-before-clause-lives : goal.returns-in_err-before-clause-lives
returns-in_err-before-clause-lives g c =
    let at = c.in_ok-at.at in
    let p = err_from_is_err_and c.from_residual-in_err-before.result c.from_residual-in_err-before.ensures.1 in
    let why = missing c.standing.result Vacant _ c.in_err-before.ensures.ok_part c.in_err-before.ensures.value in
    rw (p.1, p.2, why)
    (asked_barred g.M.LimitMethod.meaning c.args.self.now (amend_at (filed c.args.signed) c.in_ok-at.ensures.0 c.from.ensures) at.enrolment c.in_ok-at.ensures.1 c.standing.result c.standing.ensures (ap not (sym c.in_err-before.ensures.variant)))

pub returns-clause-lives : goal.returns-clause-lives
returns-clause-lives g c =
    let at = c.in_ok-at.at in
    let stood = stands_same c.args.self.now at.place.facility at.place.year c.standing.result _ c.standing.ensures c.in_ok-before.ensures.ok_part in
    asked_acts g.M.LimitMethod.meaning c.args.self.now (amend_at (filed c.args.signed) c.in_ok-at.ensures.0 c.from.ensures) at.enrolment c.in_ok-at.ensures.1 (Some c.in_ok-before.before) stood g.met.M.LimitMethod.later c.act.new.self at.place.year_range.0 at.place.year_range.1 refl
    (Some c.args.signed) refl c.act.result c.act.ensures
