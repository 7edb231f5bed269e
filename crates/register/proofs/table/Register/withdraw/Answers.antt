use Rattle.std.proofs.Common.{not, Some, None, sym, refl, ap}
use Rattle.std.proofs.lemmas.Result.{err_from_is_err_and}
use Rattle.register.specs.declared.refusals.Refusal.TheVariants.{Vacant}
use Rattle.register.proofs.Asking.{asked_unknown, asked_nowhere, asked_barred, asked_acts, withdraw_acts, stands_same}
use Rattle.register.proofs.Options.{missing}
use Rattle.register.proofs.table.Register.withdraw.Goals as goal

pub returns-in_err-enrolment-clause-lives : goal.returns-in_err-enrolment-clause-lives
returns-in_err-enrolment-clause-lives g c =
    let p = err_from_is_err_and c.from_residual.result c.from_residual.ensures.1 in
    rw (p.1, p.2, c.in_err-enrolment.ensures.0)
    (asked_unknown g.M.LimitMethod.meaning c.args.self.now (withdraw_acts c.args.facility c.args.year) c.in_err-enrolment.ensures.1)

pub returns-in_err-place-clause-lives : goal.returns-in_err-place-clause-lives
returns-in_err-place-clause-lives g c =
    let p = err_from_is_err_and c.from_residual-in_err-place.result c.from_residual-in_err-place.ensures.1 in
    let why = missing c.new.result Vacant _ c.in_err-place.ensures.ok_part c.in_err-place.ensures.value in
    let out = rw c.in_err-place.ensures.ok_part at c.new.ensures in
    rw (p.1, p.2, why)
    (asked_nowhere g.M.LimitMethod.meaning c.args.self.now (withdraw_acts c.args.facility c.args.year) c.in_ok-enrolment.enrolment c.in_ok-enrolment.ensures refl out)

pub returns-in_err-before-clause-lives : goal.returns-in_err-before-clause-lives
returns-in_err-before-clause-lives g c =
    let is = rw c.in_ok-place.ensures.ok_part at c.new.ensures in
    let by = rw (← is.0) at c.in_ok-enrolment.ensures in
    let p = err_from_is_err_and c.from_residual-in_err-before.result c.from_residual-in_err-before.ensures.1 in
    let why = missing c.standing.result Vacant _ c.in_err-before.ensures.ok_part c.in_err-before.ensures.value in
    rw (p.1, p.2, why, ← is.0, ← is.1)
    (asked_barred g.M.LimitMethod.meaning c.args.self.now (withdraw_acts c.in_ok-place.place.facility c.in_ok-place.place.year) c.in_ok-enrolment.enrolment by c.standing.result c.standing.ensures (ap not (sym c.in_err-before.ensures.variant)))

pub returns-clause-lives : goal.returns-clause-lives
returns-clause-lives g c =
    let place = c.in_ok-place.place in
    let is = rw c.in_ok-place.ensures.ok_part at c.new.ensures in
    let by = rw (← is.0) at c.in_ok-enrolment.ensures in
    let stood = stands_same c.args.self.now place.facility place.year c.standing.result _ c.standing.ensures c.in_ok-before.ensures.ok_part in
    rw (← is.0, ← is.1)
    (asked_acts g.M.LimitMethod.meaning c.args.self.now (withdraw_acts place.facility place.year) c.in_ok-enrolment.enrolment by (Some c.in_ok-before.before) stood g.met.M.LimitMethod.later c.act.new.self place.year_range.0
    place.year_range.1 refl None refl c.act.result c.act.ensures)
