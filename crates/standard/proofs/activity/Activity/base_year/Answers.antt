use Rattle.std.proofs.Common.{rules, tests}
use Rattle.standard.specs.Reference.{may_be_base, base_year}
use Rattle.standard.specs.Seen.{by_activity}
use Rattle.standard.proofs.Least.{first_is}
use Rattle.standard.proofs.activity.Activity.base_year.Goals as goal

pub returns : goal.returns
unfolding base_year
returns c =
    rw (c.new.ensures.start, c.new.ensures.end, c.new.ensures.exhausted) at
    (first_is (by_activity may_be_base c.args.self) _ _ _ c.find.result c.find.ensures.ran (λ x q k. search (rules, tests)) (λ x q k. search (rules, tests)))
