-- Why a line has no contribution: each cause by its number and its word.
use Rattle.std.specs.Prelude.{ℕ, List, codes}
use Rattle.standard.specs.declared.causes.Cause.{Cause}
use Rattle.standard.specs.declared.causes.Cause.TheVariants.{Method, Reference, Large, Capacity}

abbrev pub cause_number : Cause → ℕ
cause_number Method = 31
cause_number Reference = 32
cause_number Large = 33
cause_number Capacity = 34

abbrev pub cause_word : Cause → List ℕ
cause_word Method = codes "method"
cause_word Reference = codes "reference"
cause_word Large = codes "large"
cause_word Capacity = codes "capacity"
