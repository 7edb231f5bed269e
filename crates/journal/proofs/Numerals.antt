-- The digits of a word, and the number that they write, are those that the library reads.
use Rattle.std.proofs.Common.{◌≡◌, ℕ, ◌<◌, ◌^◌, true, List, length, Ok, Err, Result, MatchResult, IsErrAnd, fold, arith, rules}
use Rattle.std.proofs.lemmas.Fmt.{IsAscii-from_digits}
use Rattle.std.proofs.lemmas.Str.{IsUtf8-from_ascii}
use Rattle.std.proofs.lemmas.Str.Parse.{IsNumeralModel, numerals_by_fold, parse_digits}
use Rattle.std.specs.Str.{IsUtf8}
use Rattle.std.specs.Str.Parse.{ParsesUnsigned}
use Rattle.std.specs.Result.{OkIff}
use Rattle.journal.specs.declared.numbers.NumberFault.{NumberFault}
use Rattle.journal.specs.declared.numbers.NumberFault.TheVariants.{TooLarge}
use Rattle.journal.specs.Numbers.{all_digits, then_digit, value, decimal}

own : IsNumeralModel (λ ds. all_digits ds ≡ true) value
own = numerals_by_fold _ (search rules) (fold then_digit) (search rules)

pub text : (w : List ℕ) → all_digits w ≡ true → IsUtf8 w
text w h = IsUtf8-from_ascii w (IsAscii-from_digits w (own.to w h))

module _ {E : Type 0} (w : List ℕ) (t : all_digits w ≡ true) (l : 0 < length w) (Q : E → NumberFault → Type 0) (q : (e : E) (f : NumberFault) → Q e f → f ≡ TooLarge) where
  told : (p : Result ℕ E) (r : Result ℕ NumberFault) → OkIff p ((0 < length w) × (value w < 2 ^ 64)) (value w) → MatchResult p (λ n. r ≡ Ok n) (λ e. IsErrAnd r (Q e)) → r ≡ decimal w
  told (Ok n) r o m = grind arith
  told (Err e) (Ok n) o m = absurd m
  told (Err e) (Err f) o m = let h = q e f m in grind arith

  pub read : (p : Result ℕ E) (r : Result ℕ NumberFault) → ParsesUnsigned 64 10 w p → MatchResult p (λ n. r ≡ Ok n) (λ e. IsErrAnd r (Q e)) → r ≡ decimal w
  read p r h m = told p r (parse_digits own 64 w p h t) m
