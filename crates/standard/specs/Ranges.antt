-- The most that figures on the way to a limit may be.
use Rattle.std.specs.Prelude.{ℕ, ◌*◌}
use Rattle.quantity.specs.Ranges.{most_megawatts, most_thousandths, most_ten_thousandths}
use Rattle.filing.specs.Checks.{most_lines}

-- the megawatts that a filing adds to a unit
abbrev pub most_added : ℕ
most_added = most_lines * most_megawatts

-- a unit's capacity: what twenty filings add
abbrev pub most_capacity : ℕ
most_capacity = 20 * most_added

-- what the lines of a filing produce, in thousandths
abbrev pub most_produced : ℕ
most_produced = most_lines * most_thousandths

-- what a line contributes, in ten-millionths of a tonne: production at a standard
abbrev pub most_contributed : ℕ
most_contributed = most_thousandths * most_ten_thousandths
