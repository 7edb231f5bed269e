use Rattle.std.proofs.Common.{take}
use Rattle.codec.specs.Writing.{field_bytes, Put}
use Rattle.codec.proofs.writer.Output.put_fields.Given as goal

abbrev pub invariant-loop-code : goal.invariant-loop-code
invariant-loop-code g l = Put l.initial.self l.self (field_bytes (take l.code-index l.codes.list.now) (g.F.Coded.field l.fields))
