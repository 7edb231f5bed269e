-- A line contributes at most ten to the eleventh tonnes, which are ten to the eighteenth ten-millionths.
use Rattle.std.proofs.Common.{◌≡◌, ℕ, zero, suc, ◌+◌, ◌-◌, ◌*◌, ◌<◌, ◌≤◌, Bool, true, false, cond, List, [], ◌∷◌, Some, Ok, Err, Result, ◌==◌, nat_lt, slice_index, sym, refl, subst, mul-le-mul_left, arith, lit≤}
use Rattle.std.specs.List.{AllByRecursion}
use Rattle.std.proofs.lemmas.Bool.{ltb-false}
use Rattle.std.proofs.lemmas.Bool.Decides.{nat_tests}
use Rattle.quantity.specs.Figures.{three_figures}
use Rattle.quantity.specs.Ranges.{most_ten_thousandths}
use Rattle.quantity.specs.Rounding.{nearest}
use Rattle.quantity.proofs.ThreeFigures.{three_figures_meet, figures_within}
use Rattle.filing.specs.Ranges.{line_numbers, line_ranges}
use Rattle.filing.specs.Sound.{InRange, LineInRange}
use Rattle.filing.specs.declared.fields.LineFields.{LineFields}
use Rattle.filing.specs.declared.kinds.LineKind.{LineKind}
use Rattle.filing.specs.declared.kinds.LineKind.TheVariants.{Numerical, Calculated, Gaseous}
use Rattle.enrolment.specs.declared.fields.EnrolmentFields.{EnrolmentFields}
use Rattle.standard.specs.Calculated.{standard_of, rated}
use Rattle.standard.specs.Capacity.{triggering_megawatts, other_megawatts}
use Rattle.standard.specs.Contribution.{at_standard, weighed, calculated_by, of_kind, contribution}
use Rattle.standard.specs.Decreasing.{decreasing, decreasing_from2021}
use Rattle.standard.specs.Places.{Places, up_to}
use Rattle.standard.specs.Ranges.{most_contributed}
use Rattle.standard.specs.Reference.{YearFigures, references}
use Rattle.standard.specs.declared.calculation.Calculation.{Calculation}
use Rattle.standard.specs.declared.calculation.Calculation.TheVariants.{FromYears, Barred}
use Rattle.standard.specs.declared.causes.Cause.{Cause}
use Rattle.standard.specs.declared.causes.Cause.TheVariants as cause
use Rattle.standard.proofs.Yields.{product_small, yield_small, weighed_small as product_weighed}

-- at most so much, where there is an answer
abbrev pub Below : ℕ → Result ℕ Cause → Type 0
Below most (Ok n) = n ≤ most
Below most (Err c) = Unit {0}

rounded_small : (p : ℕ) → p ≤ 100000000000 → three_figures p 1 ≤ 100000000000
rounded_small p h = figures_within p 1 (three_figures p 1) 11 (omega arith) (three_figures_meet p 1 (three_figures p 1) (omega arith) (omega arith) refl)

not_large_small : (s : ℕ) (b : Bool) → nat_lt most_ten_thousandths s ≡ b → Below 10000000 (cond b (Err cause.Large) (Ok s))
not_large_small s true e = tt
not_large_small s false e = ltb-false most_ten_thousandths s e

standard_small : (factor : ℕ) (ys : List YearFigures) → Below 10000000 (standard_of factor ys)
standard_small factor [] = tt
standard_small factor (y ∷ ys) = not_large_small (rated factor (y ∷ ys)) (nat_lt most_ten_thousandths (rated factor (y ∷ ys))) refl

calculated_small : (by : Calculation) (e : EnrolmentFields) (past : Places) (activity : ℕ) → Below 10000000 (calculated_by by e past activity)
calculated_small FromYears e past activity = standard_small e.factor (references e past activity)
calculated_small Barred e past activity = tt

at_standard_small : (p : ℕ) (s : Result ℕ Cause) → p ≤ 100000000000 → Below 10000000 s → Below most_contributed (at_standard p s)
at_standard_small p (Ok s) a b = product_small p s a b
at_standard_small p (Err c) a b = tt

entries_small : (xs : List ℕ) (i : ℕ) → AllByRecursion (λ x. x ≤ 370) xs → slice_index xs i ≤ 370
entries_small [] i h = omega arith
entries_small (x ∷ xs) zero h = h.0
entries_small (x ∷ xs) (suc i) h = entries_small xs i h.1

decreasing_small : (y : ℕ) → decreasing y ≤ 370
decreasing_small y = entries_small decreasing_from2021 (y - 2021) (lit≤ tt, (lit≤ tt, (lit≤ tt, (lit≤ tt, (lit≤ tt, (lit≤ tt, (lit≤ tt, (lit≤ tt, (lit≤ tt, tt)))))))))

weighed_small : (t u y : ℕ) → weighed t u y ≤ 370 * (t + u)
weighed_small t u y =
    let one : t * decreasing y ≤ t * 370 = mul-le-mul_left t (decreasing_small y) in
    omega arith

unit_small : (p t u y : ℕ) (b c : Bool) → (t + u == 0) ≡ b → p ≤ 100000000000 → Below most_contributed (cond b (cond c (Ok 0) (Err cause.Capacity)) (Ok (nearest (p * weighed t u y * 10000) (t + u))))
unit_small p t u y true true e h = omega arith
unit_small p t u y true false e h = tt
unit_small p t u y false c e h =
    let pos : 0 < t + u = grind (arith, nat_tests) in
    let small = yield_small (p * weighed t u y) (t + u) (nearest (p * weighed t u y * 10000) (t + u)) pos (product_weighed p (weighed t u y) (t + u) h (weighed_small t u y)) refl in
    omega arith

kind_small : (k : LineKind) (by : Calculation) (e : EnrolmentFields) (past : Places) (y : ℕ) (l : LineFields) → InRange (line_numbers l) (line_ranges k) → Below most_contributed (of_kind (Some k) by e past y l)
kind_small Numerical by e past y l r = product_small (three_figures l.production 1) l.standard (rounded_small l.production r.2.1) r.2.2.1
kind_small Calculated by e past y l r = at_standard_small (three_figures l.production 1) (calculated_by by e past l.number) (rounded_small l.production r.2.1) (calculated_small by e past l.number)
kind_small Gaseous by e past y l r =
    let made : l.production ≤ 100000000 = r.2.1 in
    let p : ℕ = three_figures l.production 1 in
    let t : ℕ = triggering_megawatts l.number past in
    let u : ℕ = other_megawatts l.number past in
    unit_small p t u y (t + u == 0) (p == 0) refl (rounded_small l.production (omega arith))

pub contribution_small : (by : Calculation) (e : EnrolmentFields) (ps : Places) (y : ℕ) (l : LineFields) → LineInRange l → Below most_contributed (contribution by e ps y l)
unfolding contribution
contribution_small by e ps y l r = subst (λ k. Below most_contributed (of_kind k by e (up_to y ps) y l)) (sym r.is) (kind_small r.kind by e (up_to y ps) y l r.fields)
