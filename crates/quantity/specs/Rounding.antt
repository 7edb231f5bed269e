-- Rounding an exact quotient n / d to a whole number.
use Rattle.std.specs.Prelude.{◌≡◌, ℕ, ◌+◌, ◌*◌, ◌/◌, ◌<◌, ◌≤◌}

-- the whole number nearest to n / d, a half up
unfoldable pub nearest : ℕ → ℕ → ℕ
nearest n d = (2 * n + d) / (2 * d)

-- what nearest means: r is at most a half above n / d, and less than a half below it
pub record Nearest (n d r : ℕ) : Type 0 where
  pub above : 2 * (r * d) ≤ 2 * n + d
  pub below : 2 * n < 2 * (r * d) + d

-- n is the only number that meets what is asked
abbrev pub Only : (ℕ → Type 0) → ℕ → Type 0
Only P n = (s : ℕ) → P s → s ≡ n
