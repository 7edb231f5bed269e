-- What production yields at one standard and at the shares of two: bounds, and the quotient in two parts.
use Rattle.std.proofs.Common.{◌≡◌, ℕ, ◌+◌, ◌*◌, ◌/◌, ◌%◌, ◌<◌, ◌≤◌, sym, ap, ◌∙◌, subst, add-mul, mul-le-mul, div-add-mod', mul_right_comm, arith}
use Rattle.quantity.specs.Rounding.{nearest, Nearest}
use Rattle.quantity.proofs.Nearest.{nearest_near, nearest_within, nearest_only}
use Rattle.standard.specs.Ranges.{most_contributed}

pub product_small : (p s : ℕ) → p ≤ 100000000000 → s ≤ 10000000 → p * s ≤ most_contributed
product_small p s made standard =
    let all : p * s ≤ 100000000000 * 10000000 = mul-le-mul made standard in
    omega arith

pub weighed_small : (p w d : ℕ) → p ≤ 100000000000 → w ≤ 370 * d → p * w ≤ 37000000000000 * d
weighed_small p w d made weight =
    let all : p * w ≤ 100000000000 * (370 * d) = mul-le-mul made weight in
    omega arith

-- a whole number added before rounding is added after it
nearest_more : (a b d r : ℕ) → Nearest b d r → Nearest (a * d + b) d (a + r)
nearest_more a b d r near =
    let e = add-mul a r d in
    record { above = omega (arith, near.above); below = omega (arith, near.below) }

-- k times n / d, rounded, is k times the whole part of n / d with k times the rest, rounded
pub nearest_parts : (n d k r : ℕ) → 0 < d → r ≡ nearest (n % d * k) d → n / d * k + r ≡ nearest (n * k) d
nearest_parts n d k r pos is =
    let split : n / d * k * d + n % d * k ≡ n * k =
    ap (λ m. m + n % d * k) (mul_right_comm (n / d) k d) ∙ sym (add-mul (n / d * d) (n % d) k) ∙ ap (λ m. m * k) (div-add-mod' n d)
    in
    let rest : Nearest (n % d * k) d r = subst (Nearest (n % d * k) d) (sym is) (nearest_near (n % d * k) d pos) in
    let parts : Nearest (n * k) d (n / d * k + r) = subst (λ m. Nearest m d (n / d * k + r)) split (nearest_more (n / d * k) (n % d * k) d r rest) in
    nearest_only (n * k) d (n / d * k + r) (nearest (n * k) d) parts (nearest_near (n * k) d pos)

pub yield_small : (n d r : ℕ) → 0 < d → n ≤ 37000000000000 * d → r ≡ nearest (n * 10000) d → r ≤ 370000000000000000
yield_small n d r pos small is =
    let near : Nearest (n * 10000) d r = subst (Nearest (n * 10000) d) (sym is) (nearest_near (n * 10000) d pos) in
    nearest_within (n * 10000) d r 370000000000000000 pos (omega arith) near
