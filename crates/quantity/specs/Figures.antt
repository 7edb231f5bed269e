-- Rounding an exact quotient n / d to three significant figures, or to a whole number where it is below a thousand.
use Rattle.std.specs.Prelude.{◌≡◌, ℕ, zero, suc, ◌+◌, ◌*◌, ◌^◌, ◌<◌, ◌≤◌, cond, nat_lt}
use Rattle.quantity.specs.Rounding.{nearest}

-- THE TIE RULE of three figures: the whole number nearest to n / d, a half up
unfoldable pub figure : ℕ → ℕ → ℕ
figure n d = nearest n d

-- what figure means: m is at most a half above n / d, and less than a half below it
pub record Figure (n d m : ℕ) : Type 0 where
  pub above : 2 * (m * d) ≤ 2 * n + d
  pub below : 2 * n < 2 * (m * d) + d

-- the first of u, 10 u, 100 u, .. of which a thousand pass n / d, if it comes within so many steps as the first argument
abbrev pub unit_from : ℕ → ℕ → ℕ → ℕ → ℕ
unit_from zero u n d = u
unit_from (suc fuel) u n d = cond (nat_lt n (1000 * (u * d))) u (unit_from fuel (u * 10) n d)

-- the unit of the third figure: the least power of ten of which a thousand pass n / d, for n / d below 10 ^ 23
unfoldable pub unit_of : ℕ → ℕ → ℕ
unit_of n d = unit_from 20 1 n d

-- n / d to three significant figures, or to a whole number where it is below a thousand
unfoldable pub three_figures : ℕ → ℕ → ℕ
three_figures n d = figure n (unit_of n d * d) * unit_of n d

-- what three_figures means: r is m times the power of ten that leaves three figures, and m is the figure there
pub record ThreeFigures (n d r : ℕ) : Type 0 where
  pub k : ℕ
  pub m : ℕ
  pub multiple : r ≡ m * 10 ^ k
  pub fits : n < 1000 * (10 ^ k * d)
  pub fills : 0 < k → 100 * (10 ^ k * d) ≤ n
  pub near : Figure n (10 ^ k * d) m
