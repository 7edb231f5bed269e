use Rattle.std.proofs.Common.{◌≡◌, ℕ, ◌+◌, ◌<◌, ◌≤◌, get_or, None}
use Rattle.std.specs.Option.{option_map}
use Rattle.enrolment.specs.Views.{enrolled}
use Rattle.standard.specs.Places.{filings}
use Rattle.register.specs.Views.{assessment_fields, anew}
use Rattle.register.proofs.assess.reassess.Given as goal

abbrev pub invariant-loop-year : goal.invariant-loop-year
invariant-loop-year g l =
    ((k : ℕ) → 2017 + k < l.at.year → get_or l.assessed k None ≡ get_or l.initial.assessed k None)
    × ((k : ℕ) → l.at.year ≤ 2017 + k → 2017 + k < l.year → option_map assessment_fields (get_or l.assessed k None) ≡ anew (g.M.LimitMethod.meaning l.method) (enrolled l.at.enrolment.now) (filings l.at.places.now) k l.number)
