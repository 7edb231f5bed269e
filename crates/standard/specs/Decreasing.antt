-- The decreasing standard of electricity from gaseous fuel, in tonnes per GWh.
use Rattle.std.specs.Prelude.{ℕ, ◌-◌, List, [], ◌∷◌, slice_index}

-- from 2021 on, a year each
abbrev pub decreasing_from2021 : List ℕ
decreasing_from2021 = 370 ∷ 329 ∷ 288 ∷ 247 ∷ 206 ∷ 164 ∷ 123 ∷ 82 ∷ 41 ∷ []

-- 0 from 2030 on; years before 2021, when nothing triggers it, have that of 2021
abbrev pub decreasing : ℕ → ℕ
decreasing y = slice_index decreasing_from2021 (y - 2021)

-- the standard of capacity that triggers no decrease
abbrev pub steady : ℕ
steady = 370
