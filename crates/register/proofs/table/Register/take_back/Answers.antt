use Rattle.std.proofs.Common.{vec_items, ap, ◌∙◌}
use Rattle.register.specs.Acceptance.{accepted}
use Rattle.register.proofs.Backs.{taken_known, taken_lives}
use Rattle.register.proofs.table.Register.take_back.Goals as goal

pub returns-in_err-at-clause-lives : goal.returns-in_err-at-clause-lives
returns-in_err-at-clause-lives g c =
    let last = rw c.in_ok-entry.ensures.ok_part at c.latest.ensures in
    λ m cs L. absurd (taken_known g.M.LimitMethod.meaning m c.args.self.now (accepted cs) L last.0 c.in_ok-entry.entry _ last.1 c.in_err-at.ensures.1)

pub returns-clause-lives : goal.returns-clause-lives
returns-clause-lives g c =
    let last = rw c.in_ok-entry.ensures.ok_part at c.latest.ensures in
    let items = ap (λ w. vec_items w.entries) c.put.ensures.log ∙ c.strike.ensures in
    let by = rw c.in_ok-at.ensures.0 at c.in_ok-at.ensures.1 in
    let put = rw c.in_ok-at.ensures.0 at c.put.ensures in
    taken_lives g.M.LimitMethod.meaning c.args.self.now last.0 c.in_ok-entry.entry _ last.1 g.met.M.LimitMethod.later c.put.new.self items c.in_ok-at.at.enrolment by c.in_ok-number.number c.in_ok-number.ensures
    put.used put.method put.refit
