-- Laws of the tie rule of three figures.
use Rattle.std.proofs.Common.{◌≡◌, ℕ, ◌*◌, ◌<◌, ◌≤◌, arith}
use Rattle.quantity.specs.Rounding.{nearest, Nearest}
use Rattle.quantity.specs.Figures.{figure, Figure}
use Rattle.quantity.proofs.Nearest.{nearest_near, nearest_within, nearest_only}

-- the figure and the nearest whole number have one meaning
pub from_nearest : (n d m : ℕ) → Nearest n d m → Figure n d m
from_nearest n d m near = record { above = near.above; below = near.below }

to_nearest : (n d m : ℕ) → Figure n d m → Nearest n d m
to_nearest n d m near = record { above = near.above; below = near.below }

-- `figure` is what its meaning says
pub figure_near : (n d : ℕ) → 0 < d → Figure n d (figure n d)
unfolding figure
figure_near n d pos = from_nearest n d (nearest n d) (nearest_near n d pos)

-- the figure passes no whole number that n / d does not pass
pub figure_within : (n d m top : ℕ) → 0 < d → n ≤ top * d → Figure n d m → m ≤ top
figure_within n d m top pos below near = nearest_within n d m top pos below (to_nearest n d m near)

-- no other number is the figure
pub figure_only : (n d m l : ℕ) → Figure n d m → Figure n d l → m ≡ l
figure_only n d m l a b = nearest_only n d m l (to_nearest n d m a) (to_nearest n d l b)

-- a whole number is its own figure
pub figure_whole : (n : ℕ) → Figure n 1 n
figure_whole n = record { above = omega arith; below = omega arith }
