use Rattle.std.proofs.Common.{◌-◌, ◌<◌, length, get_or, is_some, sym, refl, ap, ◌∙◌, rules}
use Rattle.std.proofs.lemmas.List.{get_or_default}
use Rattle.enrolment.specs.Views.{enrolled}
use Rattle.register.specs.Acceptance.{accepted}
use Rattle.register.specs.declared.table.Plant.{Plant}
use Rattle.register.proofs.Enrolling.{enrolled_once}
use Rattle.register.proofs.Looks.{enrolled_as_read}
use Rattle.register.proofs.Options.{none_of}
use Rattle.register.proofs.Starts.{enrol_holds}
use Rattle.register.proofs.table.Register.enrol.Goals as goal

pub returns-clause-lives : goal.returns-clause-lives
returns-clause-lives g c =
    let e = c.in_ok-enrolment.enrolment in
    let made = c.in_ok-enrolment.ensures in
    let r = c.args.self.now in
    let i = e.facility - 1 in
    let p = c.index-self-i-2.result in
    let within : e.facility - 1 < length r.plants = search rules in
    let read = sym c.is_taken.ensures ∙ c.if-is_taken.false in
    let here = rw (c.index_from-i.ensures, c.from.ensures) at read in
    let gone = sym (ap (λ (d : Plant). is_some d.enrolment) (get_or_default r.plants i c.index-self-i.result p within)) ∙ here in
    rw (c.index_from-i.ensures, c.from.ensures)
    (λ m cs L.
    enrolled_once g.M.LimitMethod.meaning m r c.args.fields cs L e made.0 made.1 _
    (enrolled_as_read g.M.LimitMethod.meaning m r (accepted cs) L e.facility e.facility_range.0 e.facility_range.1 p _ gone)
    (enrol_holds g.M.LimitMethod.meaning m r _ (accepted cs) L (enrolled e) e.facility_range.0 e.facility_range.1 (get_or r.plants i p) (get_or_default r.plants i p (get_or r.plants i p) within)
    (none_of (get_or r.plants i p).enrolment gone) e refl refl refl refl refl))
