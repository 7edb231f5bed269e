use Rattle.std.proofs.Common.{◌==◌, rules, tests}
use Rattle.std.proofs.lemmas.Iterator.{YieldsList-from_slice}
use Rattle.std.proofs.lemmas.Iterator.Search.{position_from_yields_List}
use Rattle.journal.proofs.Marks.{placed}
use Rattle.journal.proofs.lines.place.Goals as goal

pub returns : goal.returns
returns c =
    placed c.args.mark c.args.bytes.now c.position.result
    (position_from_yields_List (λ b. b == c.args.mark) _ _ c.position.result c.position.ensures.ran (YieldsList-from_slice c.args.bytes.now cc) (λ x b q k. search (rules, tests)))
