-- What an outcome tells: every case by its number and values.
use Rattle.std.specs.Prelude.{ℕ, List, codes}
use Rattle.standard.specs.Causes.{cause_number}
use Rattle.limit.specs.declared.outcome.NoLimit.{NoLimit}
use Rattle.limit.specs.declared.outcome.NoLimit.TheVariants.{Vacant, Early, Exempt}
use Rattle.limit.specs.declared.outcome.Outcome.{Outcome}
use Rattle.limit.specs.declared.outcome.Outcome.TheVariants as outcome

-- a limit with its whole tonnes; no limit, with the number of its cause; a fault, with the number of its cause and its line
pub data Told : Type 0 where
  limit : ℕ → Told
  no_limit : ℕ → Told
  fault : ℕ → ℕ → Told

abbrev pub no_limit_number : NoLimit → ℕ
no_limit_number Vacant = 15
no_limit_number Early = 41
no_limit_number Exempt = 42

abbrev pub no_limit_word : NoLimit → List ℕ
no_limit_word Vacant = codes "vacant"
no_limit_word Early = codes "early"
no_limit_word Exempt = codes "exempt"

abbrev pub told : Outcome → Told
told (outcome.Limit t) = limit t.tonnes
told (outcome.NoLimit c) = no_limit (no_limit_number c)
told (outcome.Fault c l) = fault (cause_number c) l
