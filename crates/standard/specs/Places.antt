-- A facility's yearly places, from that of 2017 on, each with the filing that stands there or none.
-- A filing counts for the year of its place.
use Rattle.std.specs.Prelude.{ℕ, ◌-◌, cond, ◌&&◌, List, map, take, Some, None, Option, nat_le, slice_index_or}
use Rattle.filing.specs.Filing.{FilingFields}
use Rattle.filing.specs.Views.{filed}
use Rattle.filing.specs.declared.signed.Signed.{Signed}

abbrev pub Places : Type 0
Places = List (Option FilingFields)

-- what stands at a year, whatever the places hold; years outside 2017 to 2036 have no place
abbrev pub at_year : {X : Type 0} → List (Option X) → ℕ → Option X
at_year ps y = cond (nat_le 2017 y && nat_le y 2036) (slice_index_or ps (y - 2017) None) None

-- the filing that stands at a year
abbrev pub standing : Places → ℕ → Option FilingFields
standing ps y = at_year ps y

-- the places of the years up to and with y
abbrev pub up_to : ℕ → Places → Places
up_to y ps = take (y - 2016) ps

abbrev pub filing_at : Option Signed → Option FilingFields
filing_at None = None
filing_at (Some s) = Some (filed s)

-- the plain numbers of what stands at each place
abbrev pub filings : List (Option Signed) → Places
filings ps = map filing_at ps
