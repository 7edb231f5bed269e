use Rattle.std.proofs.Common.{ltb, sym, ◌∙◌, rules}
use borrow.Author.Tests.{tests}
use Rattle.std.proofs.lemmas.Iterator.{YieldsList-from_slice}
use Rattle.std.proofs.lemmas.Iterator.Consumers.{count_from_yields_List}
use Rattle.std.proofs.lemmas.Iterator.Search.{YieldsList-from_take_while}
use Rattle.std.proofs.lemmas.List.Folds.{length-prefix_len}
use Rattle.codec.proofs.Schemas.{heads_prefix}
use Rattle.codec.proofs.table.Codes.heads.Goals as goal

pub returns-clause-counts : goal.returns-clause-counts
returns-clause-counts c =
    count_from_yields_List _ c.count.result c.count.ensures.ran
    (YieldsList-from_take_while _ (λ k. ltb k 21) (YieldsList-from_slice c.args.self.list.now cc) c.take_while.ensures.closure c.take_while.ensures.done (λ x b q k. search (rules, tests)))
    ∙ length-prefix_len (λ k. ltb k 21) c.args.self.list.now
    ∙ sym (heads_prefix c.args.self.list.now)
