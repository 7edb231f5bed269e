use Rattle.std.proofs.Common.{map, take}
use Rattle.std.specs.List.{flat_map}
use Rattle.filing.specs.Parts.{line_fields}
use Rattle.codec.specs.Writing.{line_bytes, Put}
use Rattle.codec.proofs.writer.Output.put_lines.Given as goal

abbrev pub invariant-loop-line : goal.invariant-loop-line
invariant-loop-line l = Put l.initial.self l.self (flat_map (line_bytes l.codes.list.now) (take l.line-index (map line_fields l.lines)))
