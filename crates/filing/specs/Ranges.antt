-- The fields of a head and of a line with their ranges, in the order of the codes.
use Rattle.std.specs.Prelude.{ℕ, ◌+◌, Bool, cond, ◌||◌, List, [], ◌∷◌, map, Some, None, Option, nat_lt}
use Rattle.filing.specs.declared.fields.HeadFields.{HeadFields}
use Rattle.filing.specs.declared.fields.LineFields.{LineFields}
use Rattle.filing.specs.declared.kinds.LineKind.{LineKind}
use Rattle.filing.specs.declared.kinds.LineKind.TheVariants.{Numerical, Calculated, Gaseous}
use Rattle.filing.specs.declared.ranges.Range.{Range}

infix 60 ◌to◌
abbrev pub ◌to◌ : ℕ → ℕ → Range
least to most = record { least = least; most = most }

-- codes 1 to 7
abbrev pub head_numbers : HeadFields → List ℕ
head_numbers h = h.facility ∷ h.year ∷ h.co2 ∷ h.ch4 ∷ h.n2o ∷ h.sf6 ∷ h.captured ∷ []

abbrev pub head_ranges : HeadFields → List Range
head_ranges h =
    (1 to 4) ∷ (2017 to 2036)
    ∷ (0 to 100000000000) ∷ (0 to 1000000000) ∷ (0 to 100000000) ∷ (0 to 1000000)
    ∷ (0 to h.co2) ∷ []

-- codes 22 to 27
abbrev pub line_numbers : LineFields → List ℕ
line_numbers l = l.number ∷ l.production ∷ l.standard ∷ l.attributed ∷ l.added ∷ l.ratio ∷ []

abbrev pub line_ranges : LineKind → List Range
line_ranges Numerical =
    (0 to 65535) ∷ (1 to 100000000000) ∷ (0 to 10000000) ∷ (0 to 200000000000) ∷ (0 to 0) ∷ (0 to 0) ∷ []
line_ranges Calculated =
    (0 to 65535) ∷ (1 to 100000000000) ∷ (0 to 0) ∷ (0 to 200000000000) ∷ (0 to 0) ∷ (0 to 0) ∷ []
line_ranges Gaseous =
    (0 to 65535) ∷ (0 to 100000000) ∷ (0 to 0) ∷ (0 to 200000000000) ∷ (0 to 1000) ∷ (0 to 10000) ∷ []

abbrev pub outside : ℕ → Range → Bool
outside n r = nat_lt n r.least || nat_lt r.most n

-- the code of the first number outside its range, where the first number has the code c
abbrev pub first_outside : ℕ → List ℕ → List Range → Option ℕ
first_outside c [] rs = None
first_outside c (n ∷ ns) [] = None
first_outside c (n ∷ ns) (r ∷ rs) = cond (outside n r) (Some c) (first_outside (c + 1) ns rs)

-- the same, where each number stands beside its range
abbrev pub beside_outside : ℕ → List (ℕ × Range) → Option ℕ
beside_outside c ps = first_outside c (map (λ p. p.0) ps) (map (λ p. p.1) ps)
