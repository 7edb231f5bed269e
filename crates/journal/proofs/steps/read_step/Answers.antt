use Rattle.std.proofs.Common.{◌∙◌, rules, tests}
use Rattle.journal.specs.Words.{contents}
use Rattle.journal.proofs.Readings.{heard, told}
use Rattle.journal.proofs.steps.read_step.Goals as goal

pub returns : goal.returns
returns c =
    let e = c.transpose.ensures ∙ heard c.args.words.now c.split_first.result c.map.result _ c.split_first.ensures.cases c.map.ensures.cases (λ p r q. search (rules, tests)) in
    let laws = told (contents c.args.words.now) _ e in
    record { says = e; means = laws.0; reads = laws.1 }
