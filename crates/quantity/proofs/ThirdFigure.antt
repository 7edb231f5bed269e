-- Laws of the unit of the third figure.
use Rattle.std.proofs.Common.{◌≡◌, ℕ, zero, suc, ◌-◌, ◌*◌, ◌/◌, ◌^◌, ◌<◌, ◌≤◌, ltb, Some, None, IfSome, IfNone, unwrap_or, Option, sym, refl, ap, ◌∙◌, subst, ⊎_elim, mul-le-mul_right, mul_assoc, mul_comm, div-lt_iff_lt-mul, le_antisymm, pow-suc, le-div_iff_mul-le, mul-one, mul_right_comm, arith}
use native.Mathlib.Nat.{one-le-pow, pow-le-pow_right, pow-succ'}
use Rattle.std.proofs.lemmas.Bool.{cases_lt, cond_both, ltb-true, ltb-false}
use Rattle.quantity.specs.Ranges.{most_numerator}
use Rattle.quantity.specs.Figures.{unit_from, unit_of}

-- a power of ten on the way to the unit: 1, or one of which a hundred do not pass n / d
pub record Reached (n d u : ℕ) : Type 0 where
  pub k : ℕ
  pub is : u ≡ 10 ^ k
  pub fills : 0 < k → 100 * (u * d) ≤ n

-- the unit: a thousand of it pass n / d
pub record IsUnit (n d u : ℕ) : Type 0 where
  pub reached : Reached n d u
  pub fits : n < 1000 * (u * d)

pub reached_one : (n d : ℕ) → Reached n d 1
reached_one n d = record { k = 0; is = refl; fills = λ h. absurd (omega arith) }

ten_times : (u d : ℕ) → u * 10 * d ≡ 10 * (u * d)
ten_times u d = mul_right_comm u 10 d ∙ mul_comm (u * d) 10

pub reached_next : (n d u : ℕ) → 1000 * (u * d) ≤ n → Reached n d u → Reached n d (u * 10)
reached_next n d u below r = record {
  k = suc r.k;
  is = ap (λ x. x * 10) r.is ∙ sym (pow-suc 10 r.k);
  fills = λ h. omega (arith, ten_times u d);
}

pub reached_positive : (n d u : ℕ) → Reached n d u → 0 < u
reached_positive n d u r = omega (arith, r.is, one-le-pow r.k 10 (omega arith))

-- no power of ten on the way is past the unit
reached_le : (n d u w : ℕ) → Reached n d u → IsUnit n d w → u ≤ w
reached_le n d u w a b =
    ⊎_elim
    (λ (l : b.reached.k < a.k).
    absurd
    (let up : 10 ^ suc b.reached.k ≤ 10 ^ a.k = pow-le-pow_right {n = 10} (omega arith) l in
    let ten : w * 10 ≤ u = omega (arith, a.is, b.reached.is, pow-suc 10 b.reached.k) in
    let more : w * 10 * d ≤ u * d = mul-le-mul_right d ten in
    omega (arith, ten_times w d, b.fits, a.fills (omega arith))))
    (λ (l : a.k ≤ b.reached.k).
    let up : 10 ^ a.k ≤ 10 ^ b.reached.k = pow-le-pow_right {n = 10} (omega arith) l in
    omega (arith, a.is, b.reached.is))
    (cases_lt b.reached.k a.k)

-- there is one unit
pub unit_only : (n d u w : ℕ) → IsUnit n d u → IsUnit n d w → u ≡ w
unit_only n d u w a b = le_antisymm (reached_le n d u w a.reached b) (reached_le n d w u b.reached a)

-- what neither n nor d passes, the unit's multiple of d does not pass
pub unit_within : (n d u top : ℕ) → n ≤ top → d ≤ top → IsUnit n d u → u * d ≤ top
unit_within n d u top a b unit =
    ⊎_elim
    (λ (l : 0 < unit.reached.k). omega (arith, unit.reached.fills l))
    (λ (l : unit.reached.k ≤ 0).
    let none : unit.reached.k ≡ 0 = omega arith in
    let one : u ≡ 1 = unit.reached.is ∙ ap (λ x. 10 ^ x) none in
    let same : u * d ≡ 1 * d = ap (λ x. x * d) one in
    omega arith)
    (cases_lt 0 unit.reached.k)

-- the unit of the whole part of n / d is that of n / d
pub unit_of_whole : (n d u : ℕ) → 0 < d → IsUnit (n / d) 1 u → IsUnit n d u
unit_of_whole n d u pos unit =
    let regroup : (t : ℕ) → t * (u * 1) * d ≡ t * (u * d) = λ t. ap (λ x. t * x * d) (mul-one u) ∙ mul_assoc t u d in
    record {
      reached = record {
        k = unit.reached.k;
        is = unit.reached.is;
        fills = λ h. omega (arith, regroup 100, (le-div_iff_mul-le pos).0 (unit.reached.fills h));
      };
      fits = omega (arith, regroup 1000, (div-lt_iff_lt-mul pos).0 unit.fits);
    }

-- two tens fewer than the most that do not pass w make the unit of w
tens_less : (w p : ℕ) → (0 < p → 10 ^ p ≤ w) → w < 10 * 10 ^ p → IsUnit w 1 (10 ^ (p - 2))
tens_less w zero below above = record { reached = reached_one w 1; fits = omega arith }
tens_less w (suc zero) below above = record { reached = reached_one w 1; fits = omega arith }
tens_less w (suc (suc k)) below above =
    let less : suc (suc k) - 2 ≡ k = omega arith in
    let hundred : 10 ^ suc (suc k) ≡ 10 ^ k * 100 = omega (arith, pow-suc 10 k, pow-suc 10 (suc k)) in
    rw less (record {
      reached = record { k = k; is = refl; fills = λ h. omega (arith, hundred, below (omega arith)) };
      fits = omega (arith, hundred, above);
    })

pub unit_of_tens : (w : ℕ) (o : Option ℕ) → IfNone o (w ≡ 0) → IfSome o (λ p. 10 ^ p ≤ w) → IfSome o (λ p. w < 10 * 10 ^ p) → IsUnit w 1 (10 ^ (unwrap_or o 0 - 2))
unit_of_tens w None none below above = tens_less w 0 (λ h. absurd (omega arith)) (omega (arith, none))
unit_of_tens w (Some p) none below above = tens_less w p (λ h. below) above

-- the search finds the unit, if there are steps enough
unit_from_is : (fuel n d u : ℕ) → Reached n d u → n < 1000 * (u * d * 10 ^ fuel) → IsUnit n d (unit_from fuel u n d)
unit_from_is zero n d u r enough = record { reached = r; fits = omega arith }
unit_from_is (suc fuel) n d u r enough =
    cond_both (ltb n (1000 * (u * d))) u (unit_from fuel (u * 10) n d) (IsUnit n d)
    (λ e. record { reached = r; fits = ltb-true n (1000 * (u * d)) e })
    (λ e.
    let ten : u * 10 * d * 10 ^ fuel ≡ u * d * 10 ^ suc fuel =
    ap (λ x. x * 10 ^ fuel) (mul_right_comm u 10 d) ∙ mul_assoc (u * d) 10 (10 ^ fuel) ∙ ap (λ x. u * d * x) (sym (pow-succ' 10 fuel))
    in
    unit_from_is fuel n d (u * 10) (reached_next n d u (ltb-false n (1000 * (u * d)) e) r) (omega arith))

-- `unit_of` is the unit
pub unit_is : (n d u : ℕ) → n ≤ most_numerator → 0 < d → u ≡ unit_of n d → IsUnit n d u
unfolding unit_of
unit_is n d u small pos is = subst (IsUnit n d) (sym is) (unit_from_is 20 n d 1 (reached_one n d) (omega arith))

-- a power of ten whose exponent is two below the logarithm of the whole part is the unit
pub unit_made : (n d w e u : ℕ) (o : Option ℕ) → IfNone o (w ≡ 0) → IfSome o (λ p. 10 ^ p ≤ w) → IfSome o (λ p. w < 10 * 10 ^ p) → w ≡ n / d → e ≡ unwrap_or o 0 - 2 → u ≡ 10 ^ e → n ≤ most_numerator → 0 < d → u ≡ unit_of n d
unit_made n d w e u o none below above whole two is small pos =
    let tens : IsUnit (n / d) 1 (10 ^ (unwrap_or o 0 - 2)) = subst (λ x. IsUnit x 1 (10 ^ (unwrap_or o 0 - 2))) whole (unit_of_tens w o none below above) in
    is
    ∙ ap (λ x. 10 ^ x) two
    ∙ unit_only n d _ _ (unit_of_whole n d _ pos tens) (unit_is n d _ small pos refl)
