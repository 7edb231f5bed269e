use Rattle.std.proofs.Common.{vec_items, sym, ap}
use Rattle.journal.specs.Words.{contents}
use Rattle.journal.proofs.Runs.{moved, at_blank, in_word, at_end}
use Rattle.journal.proofs.words.split.Goals as goal
use Rattle.journal.proofs.words.split.Goals.{then-is_blank+in_ok-add, else-is_blank}

pub loop-i-preserved : goal.loop-i-preserved
loop-i-preserved c =
    elim c.if-is_blank.branch [
      | then-is_blank+in_ok-add w ↦ moved _ _ _ _ _ _ (at_blank _ _ _ _ c.loop-i.invariant _ c.loop-i-test.true (sym w.if-is_blank.ensures) w.in_ok-add.ensures) (ap (λ v. contents (vec_items v)) w.words-is) w.start-is
      | else-is_blank w ↦ moved _ _ _ _ _ _ (in_word _ _ _ _ c.loop-i.invariant c.loop-i-test.true (sym w.if-is_blank.ensures)) (ap (λ v. contents (vec_items v)) w.words-is) w.start-is
    ]

pub returns : goal.returns
returns c = at_end _ _ _ _ c.loop-i.invariant c.loop-i-test.false c.loop-i.auto.i-end _ c.in_ok-add-2.ensures
