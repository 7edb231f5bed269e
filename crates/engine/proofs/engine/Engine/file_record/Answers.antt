use Rattle.std.proofs.Common.{Ok, Err, rules}
use Rattle.register.specs.Calls.{file}
use Rattle.engine.proofs.Recorded.{unread_steps, read_steps}
use Rattle.engine.proofs.engine.Engine.file_record.Goals as goal

pub returns-in_err-record-clause-laws : goal.returns-in_err-record-clause-laws
returns-in_err-record-clause-laws c = unread_steps file c.args.bytes.now c.in_err-record.ensures.says (search rules)

pub returns-in_err-number-clause-laws : goal.returns-in_err-number-clause-laws
returns-in_err-number-clause-laws c = read_steps file c.args.bytes.now (Err c.in_err-number.field-0.0) c.in_ok-record.ensures.says (search rules) c.in_err-number.ensures.lives

pub returns-clause-laws : goal.returns-clause-laws
returns-clause-laws c = read_steps file c.args.bytes.now (Ok c.in_ok-number.number) c.in_ok-record.ensures.says (search rules) c.in_ok-number.ensures.lives
