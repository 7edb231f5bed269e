-- The balance of a year.
use Rattle.std.specs.Prelude.{ℕ, ℤ, pos, ◌-ℤ◌}
use Rattle.limit.specs.Outcome.{Told, limit, no_limit, fault}

-- limit minus emissions: a surplus is positive, an excess negative; 0 without a limit
abbrev pub balance : Told → ℕ → ℤ
balance (limit n) emissions = pos n -ℤ pos emissions
balance (no_limit c) emissions = pos 0
balance (fault c l) emissions = pos 0
