-- The capacity of a unit that makes electricity from gaseous fuel, from the additions that were filed for it.
use Rattle.std.specs.Prelude.{ℕ, suc, Bool, not, ◌&&◌, List, [], ◌∷◌, ◌++◌, map, Some, None, sum_by, filter, Option, ◌==◌, nat_le, nat_lt}
use Rattle.filing.specs.Filing.{FilingFields}
use Rattle.filing.specs.Kinds.{kind_number}
use Rattle.filing.specs.declared.fields.LineFields.{LineFields}
use Rattle.filing.specs.declared.kinds.LineKind.TheVariants.{Gaseous}
use Rattle.standard.specs.Places.{Places}

-- a line, with the year of the place where it stands
pub record Dated : Type 0 where
  pub year : ℕ
  pub line : LineFields

abbrev pub dated : ℕ → LineFields → Dated
dated y l = record { year = y; line = l }

abbrev pub lines_at : Option FilingFields → List LineFields
lines_at None = []
lines_at (Some f) = f.lines

-- every line that stands at these places, the first of which is that of the year y
abbrev pub dated_from : ℕ → Places → List Dated
dated_from y [] = []
dated_from y (p ∷ ps) = map (dated y) (lines_at p) ++ dated_from (suc y) ps

-- a line of gaseous electricity of the unit
abbrev pub of_unit : ℕ → Dated → Bool
of_unit unit a = a.line.kind == kind_number Gaseous && a.line.number == unit

-- an addition that triggers the decreasing standard: at least 50 MW, in 2021 or later, at a ratio below 0.900
abbrev pub triggers : Dated → Bool
triggers a = nat_le 50 a.line.added && (nat_le 2021 a.year && nat_lt a.line.ratio 900)

abbrev pub megawatts : Dated → ℕ
megawatts a = a.line.added

-- the unit's lines at the places past, from that of 2017 on
unfoldable pub additions : ℕ → Places → List Dated
additions unit past = filter (of_unit unit) (dated_from 2017 past)

-- T: the megawatts of the additions that trigger
unfoldable pub triggering_megawatts : ℕ → Places → ℕ
triggering_megawatts unit past = sum_by megawatts (filter triggers (additions unit past))

-- U: the megawatts of the others
unfoldable pub other_megawatts : ℕ → Places → ℕ
other_megawatts unit past = sum_by megawatts (filter (λ a. not (triggers a)) (additions unit past))
