use Rattle.std.proofs.Common.{eqb, ◌∙◌, rules}
use borrow.Author.Tests.{tests}
use Rattle.std.proofs.lemmas.Iterator.{YieldsList-from_slice}
use Rattle.std.proofs.lemmas.Iterator.Search.{find_from_yields_List}
use Rattle.codec.specs.declared.table.Row.{Row}
use Rattle.codec.proofs.Schemas.{found_row}
use Rattle.codec.proofs.table.row_of.Goals as goal

pub returns : goal.returns
returns c =
    let found = find_from_yields_List (λ (r : Row). eqb r.version c.args.version) _ _ c.find.result c.find.ensures.ran (YieldsList-from_slice _ c.iter.ensures.rest) (λ x b q k. search (rules, tests)) in
    found_row c.args.version c.copied.result c.iter.ensures.rest (c.copied.ensures ∙ found)
