-- Laws of three significant figures.
use Rattle.std.proofs.Common.{◌≡◌, ℕ, ◌+◌, ◌-◌, ◌*◌, ◌^◌, ◌<◌, ◌≤◌, sym, refl, ap, ◌∙◌, subst, ⊎_elim, mul-le-mul_right, mul_assoc, arith, pow-add}
use native.Mathlib.Nat.{pow-le-pow_right}
use Rattle.std.proofs.lemmas.Bool.{cases_lt}
use Rattle.quantity.specs.Ranges.{most_numerator}
use Rattle.quantity.specs.Figures.{figure, Figure, unit_of, three_figures, ThreeFigures}
use Rattle.quantity.proofs.TieRule.{figure_near, figure_within, figure_only, figure_whole}
use Rattle.quantity.proofs.ThirdFigure.{IsUnit, unit_is, unit_only}

-- the power of ten of three figures is the unit
unit_of_figures : (n d r : ℕ) (t : ThreeFigures n d r) → IsUnit n d (10 ^ t.k)
unit_of_figures n d r t = record { reached = record { k = t.k; is = refl; fills = t.fills }; fits = t.fits }

-- `three_figures` is what its meaning says
pub three_figures_meet : (n d r : ℕ) → n ≤ most_numerator → 0 < d → r ≡ three_figures n d → ThreeFigures n d r
unfolding three_figures
three_figures_meet n d r small pos is =
    let unit : IsUnit n d (unit_of n d) = unit_is n d (unit_of n d) small pos refl in
    let power : unit_of n d ≡ 10 ^ unit.reached.k = unit.reached.is in
    let fits : n < 1000 * (10 ^ unit.reached.k * d) = subst (λ u. n < 1000 * (u * d)) power unit.fits in
    record {
      k = unit.reached.k;
      m = figure n (10 ^ unit.reached.k * d);
      multiple = is ∙ ap (λ u. figure n (u * d) * u) power;
      fits = fits;
      fills = λ h. subst (λ u. 100 * (u * d) ≤ n) power (unit.reached.fills h);
      near = figure_near n (10 ^ unit.reached.k * d) (omega arith);
    }

-- no two numbers are the three figures
pub figures_only : (n d r s : ℕ) → ThreeFigures n d r → ThreeFigures n d s → r ≡ s
figures_only n d r s a b =
    let same : 10 ^ a.k ≡ 10 ^ b.k = unit_only n d (10 ^ a.k) (10 ^ b.k) (unit_of_figures n d r a) (unit_of_figures n d s b) in
    let near : Figure n (10 ^ b.k * d) a.m = subst (λ u. Figure n (u * d) a.m) same a.near in
    let figures : a.m ≡ b.m = figure_only n (10 ^ b.k * d) a.m b.m near b.near in
    a.multiple ∙ ap (λ u. a.m * u) same ∙ ap (λ m. m * 10 ^ b.k) figures ∙ sym b.multiple

-- three figures pass no power of ten that n / d does not pass
pub figures_within : (n d r j : ℕ) → n ≤ 10 ^ j * d → ThreeFigures n d r → r ≤ 10 ^ j
figures_within n d r j below t =
    ⊎_elim
    (λ (l : j < t.k).
    absurd
    (let up : 10 ^ j * d ≤ 10 ^ t.k * d = mul-le-mul_right d (pow-le-pow_right {n = 10} (omega arith) (omega arith)) in
    omega (arith, t.fits, t.fills (omega arith))))
    (λ (l : t.k ≤ j).
    let parts : j ≡ j - t.k + t.k = omega arith in
    let whole : 10 ^ j ≡ 10 ^ (j - t.k) * 10 ^ t.k = ap (λ x. 10 ^ x) parts ∙ pow-add 10 (j - t.k) t.k in
    let regroup : 10 ^ j * d ≡ 10 ^ (j - t.k) * (10 ^ t.k * d) = ap (λ x. x * d) whole ∙ mul_assoc (10 ^ (j - t.k)) (10 ^ t.k) d in
    let figures : t.m ≤ 10 ^ (j - t.k) = figure_within n (10 ^ t.k * d) t.m (10 ^ (j - t.k)) (omega (arith, t.fits)) (omega arith) t.near in
    let units : t.m * 10 ^ t.k ≤ 10 ^ (j - t.k) * 10 ^ t.k = mul-le-mul_right (10 ^ t.k) figures in
    omega (arith, t.multiple))
    (cases_lt j t.k)

-- a whole number below a thousand is its own three figures
pub figures_whole : (n : ℕ) → n < 1000 → ThreeFigures n 1 n
figures_whole n h = record {
  k = 0;
  m = n;
  multiple = omega arith;
  fits = omega arith;
  fills = λ z. absurd (omega arith);
  near = figure_whole n;
}
