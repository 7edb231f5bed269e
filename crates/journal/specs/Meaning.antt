-- What it means that a line says a step, or is misread.
use Rattle.std.specs.Prelude.{◌≡◌, ℕ, ◌+◌, ◌<◌, List, [], ◌∷◌, ◌++◌, map, length, Some, None, Ok, Err, codes, Option, Result, ◌≢◌}
use Rattle.journal.specs.declared.numbers.NumberFault.{NumberFault}
use Rattle.journal.specs.declared.steps.Misread.{Misread}
use Rattle.journal.specs.declared.steps.Misread.TheVariants.{UnknownStep, Missing, Extra}
use Rattle.journal.specs.declared.steps.Step.{Step}
use Rattle.journal.specs.declared.steps.Step.TheVariants.{Head, Line, Blank, Sign}
use Rattle.journal.specs.Numbers.{decimal}
use Rattle.journal.specs.Steps.{place}

-- the word that names a step
abbrev pub name : Step → List ℕ
name (Head h) = codes "head"
name (Line l) = codes "line"
name Blank = codes "blank"
name Sign = codes "sign"

-- the numbers of a step, in the order of its fields
abbrev pub figures : Step → List ℕ
figures (Head h) = h.facility ∷ h.year ∷ h.co2 ∷ h.ch4 ∷ h.n2o ∷ h.sf6 ∷ h.captured ∷ []
figures (Line l) = l.kind ∷ l.number ∷ l.production ∷ l.standard ∷ l.attributed ∷ l.added ∷ l.ratio ∷ []
figures Blank = []
figures Sign = []

-- as many words as numbers, each word a numeral of its number
abbrev pub Numerals : List (List ℕ) → List ℕ → Type 0
Numerals ws xs = map decimal ws ≡ map Ok xs

-- the step's own word, and then a numeral for each of its numbers
abbrev pub Spells : Step → List (List ℕ) → Type 0
Spells s [] = ⊥
Spells s (w ∷ ws) = (w ≡ name s) × Numerals ws (figures s)

-- why the words from here on are misread, where so many numbers are due
abbrev pub Cause : Misread → ℕ → List (List ℕ) → Type 0
Cause UnknownStep due ws = ⊥
Cause (Missing at) due ws = (0 < due) × (ws ≡ [])
Cause (Misread.NoNumber at) due [] = ⊥
Cause (Misread.NoNumber at) due (w ∷ ws) = (0 < due) × (decimal w ≡ Err NumberFault.NoNumber)
Cause (Misread.TooLarge at) due [] = ⊥
Cause (Misread.TooLarge at) due (w ∷ ws) = (0 < due) × (decimal w ≡ Err NumberFault.TooLarge)
Cause (Extra at) due [] = ⊥
Cause (Extra at) due (w ∷ ws) = due ≡ 0

-- n numbers are due of the words, the first of them at the place `at`: they are numerals up to a fault
pub record Stops (at n : ℕ) (ws : List (List ℕ)) (e : Misread) : Type 0 where
  pub done : List (List ℕ)
  pub left : List (List ℕ)
  pub found : List ℕ
  pub due : ℕ
  pub split : ws ≡ done ++ left
  pub numerals : Numerals done found
  pub count : n ≡ length done + due
  pub here : place e ≡ length done + at
  pub cause : Cause e due left

-- the word names a step, and the words after it are not its numbers
abbrev pub Misspells : List ℕ → List (List ℕ) → Misread → Type 0
Misspells w ws e = (s : Step) × (w ≡ name s) × Stops 2 (length (figures s)) ws e

-- what it means that a word and the words after it name a step
abbrev pub Named : List ℕ → List (List ℕ) → Result Step Misread → Type 0
Named w ws (Ok s) = Spells s (w ∷ ws)
Named w ws (Err UnknownStep) = (s : Step) → w ≢ name s
Named w ws (Err (Missing at)) = Misspells w ws (Missing at)
Named w ws (Err (Misread.NoNumber at)) = Misspells w ws (Misread.NoNumber at)
Named w ws (Err (Misread.TooLarge at)) = Misspells w ws (Misread.TooLarge at)
Named w ws (Err (Extra at)) = Misspells w ws (Extra at)

-- a line's words say nothing, spell the step, or have the fault
abbrev pub Means : List (List ℕ) → Result (Option Step) Misread → Type 0
Means [] r = r ≡ Ok None
Means (w ∷ ws) (Ok None) = ⊥
Means (w ∷ ws) (Ok (Some s)) = Named w ws (Ok s)
Means (w ∷ ws) (Err e) = Named w ws (Err e)
