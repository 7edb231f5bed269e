-- What each refusal of the engine tells: that of the layer that refused, whole.
use Rattle.std.specs.Prelude.{ℕ, List}
use Rattle.filing.specs.Told.{Told, printing}
use Rattle.codec.specs.ReadFaults.{told as read_told, printed as read_printed}
use Rattle.register.specs.Refusals.{refusal_told, refusal_word}
use Rattle.engine.specs.declared.faults.EngineFault.{EngineFault}
use Rattle.engine.specs.declared.faults.EngineFault.TheVariants.{Read, Register}

abbrev pub engine_told : EngineFault → Told
engine_told (Read e) = read_told e
engine_told (Register w) = refusal_told w

-- the reader's own text, or the number and the word of the register's refusal
abbrev pub engine_printed : EngineFault → List ℕ
engine_printed (Read e) = read_printed e
engine_printed (Register w) = printing (refusal_word w) (refusal_told w)
