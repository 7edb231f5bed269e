use Rattle.std.proofs.Common.{◌/◌, ◌==◌, [], length, get_or, sym, ap, ◌∙◌, subst, rules, tests, arith}
use Rattle.std.proofs.lemmas.Iterator.{YieldsList-from_slice}
use Rattle.std.proofs.lemmas.Iterator.Search.{position_from_yields_List}
use Rattle.codec.specs.Numbers.{number as number_of}
use Rattle.codec.proofs.Lookups.{At, field_at, chunk_at}
use Rattle.codec.proofs.fields.Values.field.Goals.{After-position}
use Rattle.codec.proofs.fields.Values.field.Goals as goal

found : (c : After-position) → At c.args.self.now.codes.list.now c.args.self.now.bytes.now c.args.code c.position.result
found c =
    let cs = c.args.self.now.codes.list.now in
    field_at cs c.args.self.now.bytes.now c.args.code c.position.result
    (position_from_yields_List (λ b. b == c.args.code) _ _ c.position.result c.position.ensures.ran (YieldsList-from_slice cs cc) (λ x b q k. search (rules, tests)))

pub returns-in-Some : goal.returns-in-Some
returns-in-Some c =
    let bs = c.args.self.now.bytes.now in
    let i = c.in-Some.i in
    let P = At c.args.self.now.codes.list.now bs c.args.code in
    let at = subst P c.in-Some.is (found (goal.at.returns-in-Some c).After-position) in
    c.number.ensures
    ∙ ap (λ fs. number_of (get_or fs i [])) c.as_chunks.ensures.front
    ∙ ap number_of (chunk_at (length bs / 8) i bs [] (omega arith))
    ∙ sym at.1

pub returns-in-None : goal.returns-in-None
returns-in-None c =
    let P = At c.args.self.now.codes.list.now c.args.self.now.bytes.now c.args.code in
    sym (subst P c.in-None.is (found (goal.at.returns-in-None c).After-position))
