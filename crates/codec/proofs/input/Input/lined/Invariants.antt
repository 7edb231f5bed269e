use Rattle.std.proofs.Common.{◌≡◌, ◌-◌}
use Rattle.filing.specs.Views.{drafted}
use Rattle.codec.specs.Reading.{lined}
use Rattle.codec.proofs.input.Input.lined.Given as goal

abbrev pub invariant-loop-line : goal.invariant-loop-line
invariant-loop-line l =
    lined l.codes.list.now (l.count - l._line) l.self.at l.self.bytes.now (drafted l.full) ≡ lined l.codes.list.now l.count l.initial.self.at l.initial.self.bytes.now (drafted l.initial.full)
