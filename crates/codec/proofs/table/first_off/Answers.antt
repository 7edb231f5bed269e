use Rattle.std.proofs.Common.{◌≡◌, ◌∙◌, rules, arith}
use borrow.Author.Tests.{tests}
use Rattle.std.proofs.lemmas.Bool.Decides.{nat_tests}
use Rattle.std.specs.List.{prefix_len, zip}
use Rattle.std.proofs.lemmas.Iterator.{YieldsList-from_slice, YieldsList-from_zip}
use Rattle.std.proofs.lemmas.Iterator.Consumers.{count_from_yields_List}
use Rattle.std.proofs.lemmas.Iterator.Search.{YieldsList-from_take_while}
use Rattle.std.proofs.lemmas.List.Folds.{length-prefix_len}
use Rattle.codec.proofs.Schemas.{same_pair, off_is}
use Rattle.codec.proofs.table.first_off.Goals as goal

pub returns : goal.returns
returns c =
    let s = c.args.schema.now in
    let r = c.args.row.now in
    let same : c.count-same.result ≡ prefix_len same_pair (zip s r) =
    count_from_yields_List _ c.count-same.result c.count-same.ensures.ran
    (YieldsList-from_take_while _ same_pair (YieldsList-from_zip (YieldsList-from_slice s cc) (YieldsList-from_slice r cc)) c.take_while.ensures.closure c.take_while.ensures.done (λ x b q k. search (rules, tests)))
    ∙ length-prefix_len same_pair (zip s r) in
    let h = off_is 1 c.count-same.result c.max-longest.result s r same c.max-longest.ensures in
    grind (arith, nat_tests)
