-- Numbers in decimal digits.
use Rattle.std.specs.Prelude.{ℕ, ◌+◌, ◌-◌, ◌*◌, ◌^◌, Bool, cond, not, ◌&&◌, List, fold, length, Ok, Err, Result, ◌==◌, nat_le, nat_lt}
use Rattle.std.specs.List.{list_all}
use Rattle.journal.specs.declared.numbers.NumberFault.{NumberFault}
use Rattle.journal.specs.declared.numbers.NumberFault.TheVariants.{NoNumber, TooLarge}

abbrev pub digit : ℕ → Bool
digit b = nat_le 48 b && nat_le b 57

abbrev pub all_digits : List ℕ → Bool
all_digits w = list_all digit w

-- the number that a digit makes of those before it
abbrev pub then_digit : ℕ → ℕ → ℕ
then_digit n b = n * 10 + (b - 48)

abbrev pub value : List ℕ → ℕ
value w = fold then_digit 0 w

-- a word is a numeral if it has a byte, and no byte but digits
abbrev pub numeral : List ℕ → Bool
numeral w = not (length w == 0) && all_digits w

abbrev pub decimal : List ℕ → Result ℕ NumberFault
decimal w = cond (numeral w) (cond (nat_lt (value w) (2 ^ 64)) (Ok (value w)) (Err TooLarge)) (Err NoNumber)
