-- What each refusal tells: its number, and named values.
use Rattle.std.specs.Prelude.{ℕ, List, [], ◌∷◌, ◌++◌, codes, decimal}
use Rattle.filing.specs.declared.faults.FilingFault.{FilingFault}
use Rattle.filing.specs.declared.faults.FilingFault.TheVariants.{Range, Kind, Lines, Twice, Attributed}

-- what a value that is told stands for
pub data Name : Type 0 where
  code : Name
  line : Name
  bytes : Name

pub record Told : Type 0 where
  pub number : ℕ
  pub values : List (Name × ℕ)

abbrev pub refusal : ℕ → List (Name × ℕ) → Told
refusal n vs = record { number = n; values = vs }

-- every case of a filing's fault, by its number and values
abbrev pub told : FilingFault → Told
told (Range c l) = refusal 5 ((code, c) ∷ (line, l) ∷ [])
told (Kind l) = refusal 6 ((line, l) ∷ [])
told Lines = refusal 7 []
told (Twice l) = refusal 8 ((line, l) ∷ [])
told Attributed = refusal 9 []

-- the word that goes with the number
abbrev pub word : FilingFault → List ℕ
word (Range c l) = codes "range"
word (Kind l) = codes "kind"
word Lines = codes "lines"
word (Twice l) = codes "twice"
word Attributed = codes "attributed"

abbrev pub naming : Name → List ℕ
naming code = codes " code "
naming line = codes " line "
naming bytes = codes " length "

abbrev pub listing : List (Name × ℕ) → List ℕ
listing [] = []
listing (v ∷ vs) = naming v.0 ++ (decimal v.1 ++ listing vs)

-- a refusal in print: its number, its word, and each value after its name
abbrev pub printing : List ℕ → Told → List ℕ
printing w t = decimal t.number ++ (codes " " ++ (w ++ listing t.values))

abbrev pub printed : FilingFault → List ℕ
printed f = printing (word f) (told f)
