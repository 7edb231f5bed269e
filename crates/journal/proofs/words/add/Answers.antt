use Rattle.std.proofs.Common.{sym}
use Rattle.journal.proofs.Runs.{one_more}
use Rattle.journal.proofs.words.add.Goals as goal

pub returns-in_ok-push : goal.returns-in_ok-push
returns-in_ok-push c = one_more _ _ c.args.bytes (sym c.if-not-is_empty.ensures) c.in_ok-push.ensures.items
