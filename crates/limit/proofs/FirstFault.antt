-- A limit is the rounded sum of all contributions, and a fault is that of the first line that has one.
use Rattle.std.proofs.Common.{◌≡◌, ℕ, zero, suc, ◌+◌, ◌<◌, List, [], ◌∷◌, length, get_or, Ok, Err, sum_by, Result, sym, refl, ap, subst, le_of_suc-le-suc, not-suc-le-zero, arith}
use Rattle.std.proofs.lemmas.List.Sums.{sum_by-cons}
use Rattle.filing.specs.declared.fields.LineFields.{LineFields}
use Rattle.quantity.specs.Rounding.{nearest}
use Rattle.standard.specs.declared.causes.Cause.{Cause}
use Rattle.limit.specs.Lines.{Fault, both, summed, in_tonnes, limit_of, Yield, part, Means}
use Rattle.limit.specs.Outcome.{Told}

module _ (yield : LineFields → Result ℕ Cause) where
  -- the same of the lines from line i on, before the sum is rounded
  record Faulty (i : ℕ) (ls : List LineFields) (e : Fault) : Type 0 where
    place : ℕ
    within : place < length ls
    numbered : e.1 ≡ i + place
    here : (d : LineFields) → yield (get_or ls place d) ≡ Err e.0
    before : Yield yield ls place

  abbrev Tells : ℕ → List LineFields → Result ℕ Fault → Type 0
  Tells i ls (Ok n) = Yield yield ls (length ls) × (n ≡ sum_by (λ l. part (yield l)) ls)
  Tells i ls (Err e) = Faulty i ls e

  yield_cons : (l : LineFields) (ls : List LineFields) (n a : ℕ) → yield l ≡ Ok a → Yield yield ls n → Yield yield (l ∷ ls) (suc n)
  yield_cons l ls n a e rest zero d h = (a, e)
  yield_cons l ls n a e rest (suc k) d h = rest k d (le_of_suc-le-suc h)

  step : (i : ℕ) (l : LineFields) (ls : List LineFields) (y : Result ℕ Cause) → yield l ≡ y → (r : Result ℕ Fault) → Tells (suc i) ls r → Tells i (l ∷ ls) (both i y r)
  step i l ls (Ok a) e (Ok b) t =
      let head : part (yield l) ≡ a = ap part e in
      let cons = sum_by-cons (λ x. part (yield x)) l ls in
      (yield_cons l ls (length ls) a e t.0, omega (arith, t.1))
  step i l ls (Ok a) e (Err f) t =
      record {
        place = suc t.place;
        within = omega (arith, t.within);
        numbered = omega (arith, t.numbered);
        here = t.here;
        before = yield_cons l ls t.place a e t.before;
      }
  step i l ls (Err c) e r t = record { place = 0; within = omega arith; numbered = omega arith; here = λ d. e; before = λ k d h. absurd (not-suc-le-zero h) }

  tells : (i : ℕ) (ls : List LineFields) → Tells i ls (summed yield i ls)
  tells i [] = (λ k d h. absurd (not-suc-le-zero h), refl)
  tells i (l ∷ ls) = step i l ls (yield l) refl (summed yield (suc i) ls) (tells (suc i) ls)

  rounded : (ls : List LineFields) (r : Result ℕ Fault) → Tells 1 ls r → Means yield ls (in_tonnes r)
  rounded ls (Ok n) t = (t.0, ap (λ m. nearest m 10000000) t.1)
  rounded ls (Err e) t =
      record {
        place = t.place;
        cause = e.0;
        within = t.within;
        numbered = omega (arith, t.numbered);
        is = refl;
        here = t.here;
        before = t.before;
      }

  pub means : (ls : List LineFields) → Means yield ls (limit_of yield ls)
  unfolding limit_of
  means ls = rounded ls (summed yield 1 ls) (tells 1 ls)

  pub meant : (ls : List LineFields) (t : Told) → t ≡ limit_of yield ls → Means yield ls t
  meant ls t is = subst (Means yield ls) (sym is) (means ls)
