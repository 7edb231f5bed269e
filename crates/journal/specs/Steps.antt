-- The steps that the lines of a journal say.
use Rattle.std.specs.Prelude.{ℕ, zero, suc, ◌+◌, cond, List, [], ◌∷◌, Some, None, Ok, Err, codes, Option, Result, slice_index}
use Rattle.std.specs.Str.{bytes_eq}
use Rattle.filing.specs.declared.fields.HeadFields.{HeadFields}
use Rattle.filing.specs.declared.fields.LineFields.{LineFields}
use Rattle.journal.specs.declared.numbers.NumberFault.{NumberFault}
use Rattle.journal.specs.declared.steps.Misread.{Misread}
use Rattle.journal.specs.declared.steps.Misread.TheVariants.{UnknownStep, Missing, Extra}
use Rattle.journal.specs.declared.steps.Step.{Step}
use Rattle.journal.specs.declared.steps.Step.TheVariants.{Head, Line, Blank, Sign}
use Rattle.journal.specs.Numbers.{decimal}

-- the place of the word that is wrong or missing
abbrev pub place : Misread → ℕ
place UnknownStep = 1
place (Missing at) = at
place (Misread.NoNumber at) = at
place (Misread.TooLarge at) = at
place (Extra at) = at

abbrev pub and_then : {X Y E : Type 0} → Result X E → (X → Result Y E) → Result Y E
and_then (Ok x) k = k x
and_then (Err e) k = Err e

-- a word's fault, with the word's place
abbrev pub placed : ℕ → Result ℕ NumberFault → Result ℕ Misread
placed at (Ok n) = Ok n
placed at (Err NumberFault.NoNumber) = Err (Misread.NoNumber at)
placed at (Err NumberFault.TooLarge) = Err (Misread.TooLarge at)

-- words that are to be n numbers, the first of them at the place
abbrev pub numbers : ℕ → ℕ → List (List ℕ) → Result (List ℕ) Misread
numbers at zero [] = Ok []
numbers at zero (w ∷ ws) = Err (Extra at)
numbers at (suc n) [] = Err (Missing at)
numbers at (suc n) (w ∷ ws) = and_then (placed at (decimal w)) (λ x. and_then (numbers (at + 1) n ws) (λ xs. Ok (x ∷ xs)))

abbrev pub head_of : List ℕ → HeadFields
head_of xs =
    record {
      facility = slice_index xs 0;
      year = slice_index xs 1;
      co2 = slice_index xs 2;
      ch4 = slice_index xs 3;
      n2o = slice_index xs 4;
      sf6 = slice_index xs 5;
      captured = slice_index xs 6;
    }

abbrev pub line_of : List ℕ → LineFields
line_of xs =
    record {
      kind = slice_index xs 0;
      number = slice_index xs 1;
      production = slice_index xs 2;
      standard = slice_index xs 3;
      attributed = slice_index xs 4;
      added = slice_index xs 5;
      ratio = slice_index xs 6;
    }

abbrev pub headed : List (List ℕ) → Result Step Misread
headed ws = and_then (numbers 2 7 ws) (λ xs. Ok (Head (head_of xs)))

abbrev pub lined : List (List ℕ) → Result Step Misread
lined ws = and_then (numbers 2 7 ws) (λ xs. Ok (Line (line_of xs)))

-- a step whose own word stands alone
abbrev pub lone : List (List ℕ) → Step → Result Step Misread
lone ws s = and_then (numbers 2 0 ws) (λ xs. Ok s)

-- the step that a word names, with the words after it
abbrev pub named : List ℕ → List (List ℕ) → Result Step Misread
named w ws =
    cond (bytes_eq w (codes "head")) (headed ws)
    (cond (bytes_eq w (codes "line")) (lined ws)
    (cond (bytes_eq w (codes "blank")) (lone ws Blank)
    (cond (bytes_eq w (codes "sign")) (lone ws Sign)
    (Err UnknownStep))))

-- a line with no words says nothing
abbrev pub step : List (List ℕ) → Result (Option Step) Misread
step [] = Ok None
step (w ∷ ws) = and_then (named w ws) (λ s. Ok (Some s))
