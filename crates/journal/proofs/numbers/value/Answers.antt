use Rattle.std.proofs.Common.{◌≤◌, length, Some, refl, arith, rules}
use Rattle.std.proofs.lemmas.Iterator.{YieldsList-from_slice}
use Rattle.std.proofs.lemmas.Iterator.Consumers.{YieldsList-turn}
use Rattle.journal.proofs.Digits.{low_at}
use Rattle.journal.proofs.numbers.value.Goals as goal

pub try_fold-requires-clause-callable : goal.try_fold-requires-clause-callable
try_fold-requires-clause-callable c =
    let w = c.args.word.now in
    record {
      at = λ xs t q x u y called e.
          let m = YieldsList-turn (YieldsList-from_slice w c.iter.ensures.rest) xs t y (Some x) u x refl e in
          let low : 48 ≤ x.now = omega (arith, m.1, low_at w (length xs) x.now c.requires m.0) in
          search rules;
    }
