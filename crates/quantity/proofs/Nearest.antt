-- Laws of the nearest whole number.
use Rattle.std.proofs.Common.{◌≡◌, ℕ, ◌+◌, ◌*◌, ◌/◌, ◌<◌, ◌≤◌, ⊎_elim, mul-le-mul_right, mod-lt, add-mul, le_antisymm, div-add-mod', mul_left_comm, arith}
use Rattle.std.proofs.lemmas.Bool.{cases_lt}
use Rattle.quantity.specs.Rounding.{nearest, Nearest}

-- `nearest` is what its meaning says
pub nearest_near : (n d : ℕ) → 0 < d → Nearest n d (nearest n d)
unfolding nearest
nearest_near n d pos =
    let q : ℕ = (2 * n + d) / (2 * d) in
    let split = div-add-mod' (2 * n + d) (2 * d) in
    let rest = mod-lt (2 * n + d) {m = 2 * d} (omega arith) in
    let twice = mul_left_comm q 2 d in
    record { above = omega arith; below = omega arith }

-- one more means d more
one_more : (s r d : ℕ) → s < r → s * d + d ≤ r * d
one_more s r d h =
    let more : (s + 1) * d ≤ r * d = mul-le-mul_right d (omega arith) in
    omega (arith, add-mul s 1 d)

-- the nearest passes no whole number that n / d does not pass
pub nearest_within : (n d r top : ℕ) → 0 < d → n ≤ top * d → Nearest n d r → r ≤ top
nearest_within n d r top pos below near =
    ⊎_elim (λ (l : top < r). absurd (omega (arith, one_more top r d l))) (λ (l : r ≤ top). l) (cases_lt top r)

nearest_le : (n d r s : ℕ) → Nearest n d r → Nearest n d s → r ≤ s
nearest_le n d r s a b =
    ⊎_elim (λ (l : s < r). absurd (omega (arith, one_more s r d l))) (λ (l : r ≤ s). l) (cases_lt s r)

-- no other number is nearest
pub nearest_only : (n d r s : ℕ) → Nearest n d r → Nearest n d s → r ≡ s
nearest_only n d r s a b = le_antisymm (nearest_le n d r s a b) (nearest_le n d s r b a)
