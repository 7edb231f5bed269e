use Rattle.std.proofs.Common.{sym, ◌∙◌, rules}
use Rattle.std.proofs.lemmas.Result.{err_from_is_err_and}
use Rattle.register.proofs.Looks.{shown_unknown, shown_gone, looked}
use Rattle.register.proofs.table.Register.look_up.Goals as goal

pub returns-in_err-plant-clause-shows : goal.returns-in_err-plant-clause-shows
returns-in_err-plant-clause-shows g c =
    let p = err_from_is_err_and c.from_residual.result c.from_residual.ensures.1 in
    rw p.1 (shown_unknown c.args.self.now c.args.facility c.args.year (search rules) (λ low high d d-is. absurd (c.in_err-plant.ensures.1 low high)))

pub returns-in_err-ok_or-clause-shows : goal.returns-in_err-ok_or-clause-shows
returns-in_err-ok_or-clause-shows g c =
    let p = err_from_is_err_and c.from_residual-in_err-ok_or.result c.from_residual-in_err-ok_or.ensures.1 in
    rw p.1 (shown_gone c.args.self.now c.args.facility c.args.year (search rules) c.in_ok-plant.plant.now c.in_ok-plant.ensures.2 (sym c.in_err-ok_or.ensures.variant))

pub returns : goal.returns
returns g c =
    let held = c.in_ok-plant.ensures in
    let look = looked g.M.LimitMethod.meaning c.args.self.now c.args.facility c.args.year (search rules) held.0 held.1 c.in_ok-plant.plant.now held.2 c.in_ok-ok_or.field-0 c.in_ok-ok_or.ensures.ok_part c.copied.result (c.copied.ensures ∙ c.at_year.ensures.value) in
    rw c.ok_or-2.ensures.value (record { shows = look.0; answers = look.1 })
