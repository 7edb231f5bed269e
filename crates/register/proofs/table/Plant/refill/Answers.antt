use Rattle.std.proofs.Common.{◌+◌, ◌<◌, ◌≤◌, refl, ap, ◌∙◌, arith}
use Rattle.std.proofs.lemmas.List.{map-set}
use Rattle.enrolment.specs.Views.{enrolled}
use Rattle.standard.specs.Places.{filing_at}
use Rattle.register.specs.Views.{anew}
use Rattle.register.proofs.table.Plant.refill.Goals as goal

pub returns : goal.returns
returns g c =
    let placed = map-set filing_at c.args.self.now.places c.index_from.result c.args.content in
    rw (← c.index_from.ensures)
    (record {
      enrolment = refl;
      places = placed;
      before = λ k lt. let earlier : 2017 + k < c.args.at.now.place.year = omega (arith, lt, c.index_from.ensures, c.args.at.now.place.year_range.0) in c.reassess.ensures.before k earlier;
      after = λ k lo hi.
          let later : c.args.at.now.place.year ≤ 2017 + k = omega (arith, lo, c.index_from.ensures, c.args.at.now.place.year_range.0) in
          c.reassess.ensures.after k later hi
          ∙ ap (λ ps. anew (g.M.LimitMethod.meaning c.args.method.now) (enrolled c.args.at.now.enrolment) ps k c.args.number) placed;
    })
