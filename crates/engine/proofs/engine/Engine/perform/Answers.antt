use Rattle.std.proofs.Common.{Ok, Err, refl, ap}
use Rattle.std.proofs.lemmas.Result.{err_from_is_err_and}
use Rattle.register.specs.Calls.{call_fields}
use Rattle.register.specs.Performing.{answered}
use Rattle.engine.specs.Engine.{step_fields, record_answered}
use Rattle.engine.specs.Steps.{said, file_record, amend_record, answers}
use Rattle.engine.proofs.Recorded.{engine_of}
use Rattle.engine.proofs.Stepping.{stepped, call_steps}
use Rattle.engine.proofs.engine.Engine.perform.Goals as goal

pub returns-in_err-perform-in-Call-clause-laws : goal.returns-in_err-perform-in-Call-clause-laws
returns-in_err-perform-in-Call-clause-laws c =
    let g = c.args.self.now in
    let h = engine_of c.perform.new.self in
    let w = c.in_err-perform-in-Call.field-0.0 in
    let p = err_from_is_err_and c.from_residual.result c.from_residual.ensures.1 in
    rw (p.1, p.2)
    (stepped g h (said (call_fields c.in-Call.call)) _ _ (answers (answered (Err w))) (ap step_fields c.in-Call.is) refl (call_steps g h c.in-Call.call (Err w) c.in_err-perform-in-Call.ensures.laws))

pub returns-in_ok-perform-in-Call-clause-laws : goal.returns-in_ok-perform-in-Call-clause-laws
returns-in_ok-perform-in-Call-clause-laws c =
    let g = c.args.self.now in
    let h = engine_of c.perform.new.self in
    let a = c.in_ok-perform-in-Call.field-0 in
    stepped g h (said (call_fields c.in-Call.call)) _ _ (answers (answered (Ok a))) (ap step_fields c.in-Call.is) refl (call_steps g h c.in-Call.call (Ok a) c.in_ok-perform-in-Call.ensures.laws)

pub returns-in-FileRecord-clause-laws : goal.returns-in-FileRecord-clause-laws
returns-in-FileRecord-clause-laws c =
    stepped c.args.self.now c.file_record.new.self (file_record c.in-FileRecord.bytes.now) _ _ (record_answered c.file_record.result) (ap step_fields c.in-FileRecord.is) c.recorded.ensures c.file_record.ensures.laws

pub returns-in-AmendRecord-clause-laws : goal.returns-in-AmendRecord-clause-laws
returns-in-AmendRecord-clause-laws c =
    stepped c.args.self.now c.amend_record.new.self (amend_record c.in-AmendRecord.bytes.now) _ _ (record_answered c.amend_record.result) (ap step_fields c.in-AmendRecord.is) c.recorded-in-AmendRecord.ensures c.amend_record.ensures.laws
