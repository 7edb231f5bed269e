use Rattle.std.proofs.Common.{Ok, Err, rules}
use Rattle.register.specs.Calls.{amend}
use Rattle.engine.proofs.Recorded.{unread_steps, read_steps}
use Rattle.engine.proofs.engine.Engine.amend_record.Goals as goal

pub returns-in_err-record-clause-laws : goal.returns-in_err-record-clause-laws
returns-in_err-record-clause-laws c = unread_steps amend c.args.bytes.now c.in_err-record.ensures.says (search rules)

pub returns-in_err-amended-clause-laws : goal.returns-in_err-amended-clause-laws
returns-in_err-amended-clause-laws c = read_steps amend c.args.bytes.now (Err c.in_err-amended.field-0.0) c.in_ok-record.ensures.says (search rules) c.in_err-amended.ensures.lives

pub returns-clause-laws : goal.returns-clause-laws
returns-clause-laws c = read_steps amend c.args.bytes.now (Ok c.in_ok-amended.amended) c.in_ok-record.ensures.says (search rules) c.in_ok-amended.ensures.lives
