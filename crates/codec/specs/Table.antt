-- The versions and their rows: the field codes of each, in the order of the schema and of the fields.
use Rattle.std.specs.Prelude.{ℕ, suc, ◌+◌, cond, List, [], ◌∷◌, take, drop, Some, None, Option, ◌==◌, nat_lt}

abbrev pub rows : List (ℕ × List ℕ)
rows =
    (1, 1 ∷ 2 ∷ 3 ∷ 4 ∷ 5 ∷ 6 ∷ 7 ∷ 21 ∷ 22 ∷ 23 ∷ 24 ∷ 25 ∷ [])
    ∷ (2, 1 ∷ 2 ∷ 3 ∷ 4 ∷ 5 ∷ 21 ∷ 22 ∷ 23 ∷ 24 ∷ 26 ∷ 27 ∷ [])
    ∷ (3, 1 ∷ 2 ∷ 3 ∷ 4 ∷ 5 ∷ 6 ∷ 7 ∷ 21 ∷ 22 ∷ 23 ∷ 24 ∷ 25 ∷ 26 ∷ 27 ∷ [])
    ∷ []

abbrev pub row_in : List (ℕ × List ℕ) → ℕ → Option (List ℕ)
row_in [] v = None
row_in (r ∷ rs) v = cond (r.0 == v) (Some r.1) (row_in rs v)

-- the row of a version
abbrev pub row_of : ℕ → Option (List ℕ)
row_of v = row_in rows v

abbrev pub or_none : Option (List ℕ) → List ℕ
or_none None = []
or_none (Some row) = row

-- what is written has version 3
abbrev pub written_version : ℕ
written_version = 3

abbrev pub written_row : List ℕ
written_row = or_none (row_of written_version)

-- codes below 21 are the head's, the others the line's; how many come before the first of the line's
abbrev pub heads : List ℕ → ℕ
heads [] = 0
heads (c ∷ cs) = cond (nat_lt c 21) (suc (heads cs)) 0

abbrev pub head_codes : List ℕ → List ℕ
head_codes row = take (heads row) row

abbrev pub line_codes : List ℕ → List ℕ
line_codes row = drop (heads row) row

-- the first line at which a schema is not the row, where the first has the number n
abbrev pub first_off : ℕ → List ℕ → List ℕ → Option ℕ
first_off n [] [] = None
first_off n [] (r ∷ rs) = Some n
first_off n (s ∷ ss) [] = Some n
first_off n (s ∷ ss) (r ∷ rs) = cond (s == r) (first_off (n + 1) ss rs) (Some n)
