-- What follows from what every filing keeps.
use Rattle.std.proofs.Common.{◌≡◌, length, arith}
use Rattle.filing.specs.Parts.{entered}
use Rattle.filing.specs.declared.filing.Filing.{Filing}
use Rattle.filing.proofs.Entries.{entered_length}

pub count_is : (f : Filing) → length (entered f.lines f.count) ≡ f.count
count_is f = entered_length f.lines f.count (omega (arith, f.room, f.few))
