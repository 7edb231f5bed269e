use Rattle.std.proofs.Common.{drop, length, vec_items, sym, ◌∙◌, arith, rules}
use Rattle.std.proofs.lemmas.List.{take_at}
use Rattle.journal.proofs.Pairs.{whole, answered, unpaired}
use Rattle.journal.proofs.sources.unhexed.Goals as goal

pub returns-clause-bytes : goal.returns-clause-bytes
returns-clause-bytes c =
    let found = c.in-Some.ensures.cases in
    let out = c.decode_to_slice.new.out in
    let kept = take_at out (drop (length out) c.in_ok-bytes.bytes.items) c.in_ok-bytes.bytes.len (omega arith) in
    answered vec_items _ c.decode_to_slice.result c.map.result out _ c.decode_to_slice.ensures.value (rw c.ok-decoded.ensures.value at c.map.ensures.cases) (λ x v p. search (rules, kept))
    ∙ whole c.args.word.now c.in-Some.digits.now _ found.0 found.1 (omega (arith, c.in_ok-bytes.ensures.len))

pub returns-then-not-are_pairs-clause-bytes : goal.returns-then-not-are_pairs-clause-bytes
returns-then-not-are_pairs-clause-bytes c =
    let found = c.in-Some.ensures.cases in
    unpaired c.args.word.now c.in-Some.digits.now found.0 found.1 (sym c.are_pairs.ensures ∙ c.if-not-are_pairs.true)
