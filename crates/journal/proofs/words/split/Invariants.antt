use Rattle.std.proofs.Common.{vec_items}
use Rattle.journal.specs.Words.{contents}
use Rattle.journal.proofs.Runs.{Sofar}
use Rattle.journal.proofs.words.split.Given as goal

abbrev pub invariant-loop-i : goal.invariant-loop-i
invariant-loop-i l = Sofar l.bytes (contents (vec_items l.words)) l.start l.i
