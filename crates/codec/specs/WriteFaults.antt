-- What a refusal to write tells.
use Rattle.std.specs.Prelude.{ℕ, List, [], codes}
use Rattle.filing.specs.Told.{Told, refusal, printing}
use Rattle.codec.specs.declared.faults.WriteFault.{WriteFault}
use Rattle.codec.specs.declared.faults.WriteFault.TheVariants.{Short}

abbrev pub told : WriteFault → Told
told Short = refusal 10 []

abbrev pub word : WriteFault → List ℕ
word Short = codes "short"

abbrev pub printed : WriteFault → List ℕ
printed f = printing (word f) (told f)
