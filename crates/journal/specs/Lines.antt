-- A text cut at its line feeds.
use Rattle.std.specs.Prelude.{◌≡◌, ℕ, zero, suc, ◌+◌, ◌<◌, cond, List, [], ◌∷◌, length, take, drop, Some, None, Option, ◌==◌}
use Rattle.journal.specs.declared.lines.Lines.{Lines}

-- the bytes before the first that is the mark: all where none is
abbrev pub before : ℕ → List ℕ → List ℕ
before mark [] = []
before mark (b ∷ bs) = cond (b == mark) [] (b ∷ before mark bs)

-- the bytes after the first that is the mark: none where none is
abbrev pub after : ℕ → List ℕ → List ℕ
after mark [] = []
after mark (b ∷ bs) = cond (b == mark) bs (after mark bs)

-- the mark stands first at the place, or nowhere
abbrev pub Placed : ℕ → List ℕ → Option ℕ → Type 0
Placed mark bs None = (before mark bs ≡ bs) × (after mark bs ≡ [])
Placed mark bs (Some i) = (i < length bs) × (take i bs ≡ before mark bs) × (drop (i + 1) bs ≡ after mark bs)

-- a line ends before a line feed
abbrev pub first_line : List ℕ → List ℕ
first_line text = before 10 text

abbrev pub after_line : List ℕ → List ℕ
after_line text = after 10 text

-- the first k lines of a text, each where the one before it ends
abbrev pub first_lines : ℕ → List ℕ → List (List ℕ)
first_lines zero text = []
first_lines (suc k) [] = []
first_lines (suc k) (b ∷ bs) = first_line (b ∷ bs) ∷ first_lines k (after_line (b ∷ bs))

-- all of them: there are no more than bytes, as each but the last has its line feed, and the last a byte
abbrev pub lines_of : List ℕ → List (List ℕ)
lines_of text = first_lines (length text) text

-- the lines that are still to come
abbrev pub lines_left : Lines → List (List ℕ)
lines_left lines = lines_of lines.rest.now
