use Rattle.std.proofs.Common.{arith, rules}
use Rattle.journal.proofs.Row.{missing, wrong, more, all}
use Rattle.journal.proofs.steps.numbers.Goals as goal

pub returns-in_err-word : goal.returns-in_err-word
returns-in_err-word g c = grind (arith, missing)

pub returns-in_err-figure : goal.returns-in_err-figure
returns-in_err-figure g c = search (rules, arith, wrong)

pub loop-i-preserved : goal.loop-i-preserved
loop-i-preserved g c = search (rules, arith, more)

pub returns-in-None : goal.returns-in-None
returns-in-None g c = grind (arith, all)
