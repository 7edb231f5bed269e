use Rattle.std.proofs.Common.{◌∙◌, arith}
use Rattle.journal.proofs.Pairs.{even_pairs, odd_pairs}
use Rattle.journal.proofs.sources.are_pairs.Goals as goal

pub returns-then-digits-eq0 : goal.returns-then-digits-eq0
returns-then-digits-eq0 c = c.all_digits.ensures ∙ even_pairs c.args.digits.now (omega (arith, c.if-digits-eq0.true))

pub returns-else-digits-eq0 : goal.returns-else-digits-eq0
returns-else-digits-eq0 c = odd_pairs c.args.digits.now (omega (arith, c.if-digits-eq0.false))
