-- The words of a line.
use Rattle.std.specs.Prelude.{ℕ, Bool, cond, ◌||◌, List, [], ◌∷◌, ◌++◌, map, ◌==◌}
use Rattle.std.specs.Borrow.{Bor}
use Rattle.journal.specs.Lines.{before}

-- a space, a tab or a carriage return
abbrev pub blank : ℕ → Bool
blank b = b == 32 || (b == 9 || b == 13)

-- the line up to its first `#`
abbrev pub uncommented : List ℕ → List ℕ
uncommented line = before 35 line

-- bytes between two blanks are a word, unless there are none
abbrev pub word : List ℕ → List (List ℕ)
word [] = []
word (b ∷ bs) = (b ∷ bs) ∷ []

-- the words of some bytes, with the word that is begun before them
abbrev pub split : List ℕ → List ℕ → List (List ℕ)
split w [] = word w
split w (b ∷ bs) = cond (blank b) (word w ++ split [] bs) (split (w ++ b ∷ []) bs)

abbrev pub words : List ℕ → List (List ℕ)
words line = split [] (uncommented line)

-- what slices hold
abbrev pub contents : List (Bor (List ℕ)) → List (List ℕ)
contents slices = map (λ s. s.now) slices
