-- The lines of a filing taken in their order: the sum of what they contribute, or the fault of the first that has one.
use Rattle.std.specs.Prelude.{◌≡◌, ℕ, suc, ◌+◌, ◌<◌, List, [], ◌∷◌, length, Ok, Err, sum_by, Result, slice_index_or}
use Rattle.filing.specs.declared.fields.LineFields.{LineFields}
use Rattle.quantity.specs.Rounding.{nearest}
use Rattle.standard.specs.Causes.{cause_number}
use Rattle.standard.specs.declared.causes.Cause.{Cause}
use Rattle.limit.specs.Outcome.{Told, limit, no_limit, fault}

-- a cause, and the line, from 1
abbrev pub Fault : Type 0
Fault = Cause × ℕ

-- what line i contributes, with what the lines after it come to
abbrev pub both : ℕ → Result ℕ Cause → Result ℕ Fault → Result ℕ Fault
both i (Ok a) (Ok b) = Ok (a + b)
both i (Ok a) (Err e) = Err e
both i (Err c) r = Err (c, i)

-- the lines from line i on
abbrev pub summed : (LineFields → Result ℕ Cause) → ℕ → List LineFields → Result ℕ Fault
summed yield i [] = Ok 0
summed yield i (l ∷ ls) = both i (yield l) (summed yield (suc i) ls)

-- the sum rounded once to whole tonnes, a half up
abbrev pub in_tonnes : Result ℕ Fault → Told
in_tonnes (Ok n) = limit (nearest n 10000000)
in_tonnes (Err e) = fault (cause_number e.0) e.1

-- the limit of lines that each yield so
unfoldable pub limit_of : (LineFields → Result ℕ Cause) → List LineFields → Told
limit_of yield ls = in_tonnes (summed yield 1 ls)

-- every one of the first n lines contributes
abbrev pub Yield : (LineFields → Result ℕ Cause) → List LineFields → ℕ → Type 0
Yield yield ls n = (k : ℕ) (d : LineFields) → k < n → (a : ℕ) × (yield (slice_index_or ls k d) ≡ Ok a)

abbrev pub part : Result ℕ Cause → ℕ
part (Ok n) = n
part (Err c) = 0

-- the fault of a line before which every line contributes; the line counts from 1
pub record FirstFault (yield : LineFields → Result ℕ Cause) (ls : List LineFields) (number line : ℕ) : Type 0 where
  pub place : ℕ
  pub cause : Cause
  pub within : place < length ls
  pub numbered : line ≡ place + 1
  pub is : number ≡ cause_number cause
  pub here : (d : LineFields) → yield (slice_index_or ls place d) ≡ Err cause
  pub before : Yield yield ls place

-- what limit_of means: a limit is the rounded sum of all contributions, and a fault is that of the first line that has one
abbrev pub Means : (LineFields → Result ℕ Cause) → List LineFields → Told → Type 0
Means yield ls (limit n) = Yield yield ls (length ls) × (n ≡ nearest (sum_by (λ l. part (yield l)) ls) 10000000)
Means yield ls (fault number line) = FirstFault yield ls number line
Means yield ls (no_limit number) = ⊥
