-- The kinds of a line and their numbers.
use Rattle.std.specs.Prelude.{◌≡◌, ℕ, cond, Some, None, Option, Ok, Err, Result, ◌==◌}
use Rattle.filing.specs.declared.kinds.LineKind.{LineKind}
use Rattle.filing.specs.declared.kinds.LineKind.TheVariants.{Numerical, Calculated, Gaseous}
use Rattle.filing.specs.declared.kinds.UnknownKind.{UnknownKind}

abbrev pub kind_number : LineKind → ℕ
kind_number Numerical = 1
kind_number Calculated = 2
kind_number Gaseous = 3

abbrev pub kind_of : ℕ → Option LineKind
kind_of n = cond (n == 1) (Some Numerical) (cond (n == 2) (Some Calculated) (cond (n == 3) (Some Gaseous) None))

-- the kind that a number stands for, or the number where it stands for none
abbrev pub Decodes : ℕ → Result LineKind UnknownKind → Type 0
Decodes n (Ok k) = kind_of n ≡ Some k
Decodes n (Err e) = (kind_of n ≡ None) × (e.0 ≡ n)
