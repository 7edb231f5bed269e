use Rattle.journal.specs.Words.{contents}
use Rattle.journal.proofs.Row.{Sofar}
use Rattle.journal.proofs.steps.numbers.Given as goal

abbrev pub invariant-loop-i : goal.invariant-loop-i
invariant-loop-i g l = Sofar (contents l.words) g.row.N l.figure-items l.i
