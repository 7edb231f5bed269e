-- The least number that passes a test: a search upwards, and what it finds.
use Rattle.std.proofs.Common.{◌≡◌, ℕ, zero, suc, ◌+◌, ◌-◌, ◌<◌, ◌≤◌, Bool, true, false, cond, List, [], ◌∷◌, Some, None, Option, Bor, sym, refl, ap, ◌∙◌, subst, ⊎_elim, add-one, arith}
use Rattle.std.specs.Fn.{CalledAt}
use Rattle.std.specs.Iterator.{Yields, YieldsThen}
use Rattle.std.specs.List.{FoldsTo}
use Rattle.std.specs.Option.{IfSome}
use Rattle.std.specs.Range.{range_inclusive_steps, range_inclusive_left, range_inclusive_len}
use Rattle.std.specs.declared.ops.RangeInclusive.{RangeInclusive}
use denote.Param.Members.{Mut}
use Rattle.std.proofs.lemmas.Bool.{cases_eq, both_ways, cond-true, cond-false}
use Rattle.standard.specs.Reference.{least_from}

-- `find` over `a..=b` by a test
abbrev pub steps : RangeInclusive ℕ → Option ℕ → RangeInclusive ℕ → Type 0
steps = range_inclusive_steps (λ x y. y - x) (λ x y. y ≡ x + 1)

abbrev pub left : RangeInclusive ℕ → ℕ
left = range_inclusive_left (λ x y. y - x)

module _ (test : ℕ → Bool) where
  abbrev pub answer : RangeInclusive ℕ → Option ℕ
  answer s = least_from test s.start (left s)

  from_next : (t : RangeInclusive ℕ) (y : ℕ) (b : Bool) → t.exhausted ≡ b → (b ≡ false → t.start ≡ y + 1) → answer t ≡ least_from test (suc y) (left t)
  from_next t y false e next = let up : t.start ≡ suc y = omega (arith, next refl) in ap (λ z. least_from test z (left t)) up
  from_next t y true e next =
      let none : left t ≡ 0 = ap (range_inclusive_len (λ x z. z - x) t.start t.end) e in
      ap (least_from test t.start) none ∙ sym (ap (least_from test (suc y)) none)

  passes_over : (s t : RangeInclusive ℕ) (x : ℕ) → steps s (Some x) t → test x ≡ false → answer t ≡ answer s
  passes_over s t x step fails =
      let one : suc (left t) ≡ left s = omega (arith, step.1.1) in
      from_next t s.start t.exhausted refl step.1.2
      ∙ sym (cond-false (test s.start) (Some s.start) (least_from test (suc s.start) (left t)) (ap test (sym step.1.0) ∙ fails))
      ∙ ap (least_from test s.start) one

  ends : (s t : RangeInclusive ℕ) (r : Option ℕ) → steps s r t → IfSome r (λ x. test x ≡ true) → r ≡ answer s
  ends s t None step h = sym (ap (least_from test s.start) step.1.0)
  ends s t (Some x) step passes =
      let one : suc (left t) ≡ left s = omega (arith, step.1.1) in
      ap Some step.1.0
      ∙ sym (cond-true (test s.start) (Some s.start) (least_from test (suc s.start) (left t)) (ap test (sym step.1.0) ∙ passes))
      ∙ ap (least_from test s.start) one

  module _ {F : Type 0} {g : Mut F (Bor ℕ × Unit {0}) Bool} (f : F) (passes : (x : ℕ) (q : F) → CalledAt g f x true q → test x ≡ true) (fails : (x : ℕ) (q : F) → CalledAt g f x false q → (q ≡ f) × (test x ≡ false)) where
    hit : (q : F) (r : Option ℕ) → q ≡ f → IfSome r (λ x. (h : F) × CalledAt g q x true h) → IfSome r (λ x. test x ≡ true)
    hit q None same h = tt
    hit q (Some x) same h = passes x h.0 (subst (λ p. CalledAt g p x true h.0) same h.1)

    found : (xs : List ℕ) (s t u : RangeInclusive ℕ) (r : Option ℕ) (p q : F) → p ≡ f → Yields steps s xs t → steps t r u → FoldsTo (λ k x j. CalledAt g k x false j) p xs q → IfSome r (λ x. (h : F) × CalledAt g q x true h) → r ≡ answer s
    found [] s t u r p q same ys last calls h = ends t u r last (hit q r (sym calls ∙ same) h) ∙ ap answer (sym ys)
    found (x ∷ xs) s t u r p q same ys last calls h =
        let over = fails x calls.0 (subst (λ k. CalledAt g k x false calls.0) same calls.1) in
        found xs ys.0 t u r calls.0 q over.0 ys.2 last calls.2 h ∙ passes_over s ys.0 x ys.1 over.1

  -- the first number of the range that passes, or none, is what the search finds
  pub first_is : {F : Type 0} {g : Mut F (Bor ℕ × Unit {0}) Bool} (s u : RangeInclusive ℕ) (f : F) (r : Option ℕ) → (xs : List ℕ) × (j : F) × YieldsThen steps s xs r u × FoldsTo (λ p x q. CalledAt g p x false q) f xs j × IfSome r (λ x. (h : F) × CalledAt g j x true h) → ((x : ℕ) (q : F) → CalledAt g f x true q → test x ≡ true) → ((x : ℕ) (q : F) → CalledAt g f x false q → (q ≡ f) × (test x ≡ false)) → r ≡ answer s
  first_is s u f r d passes fails = found f passes fails d.0 s d.2.0 u r f d.1 refl d.2.1 d.2.2 d.3 d.4

-- what stands after the numbers below y have failed, where o is the answer from the start
module _ (test : ℕ → Bool) (y end : ℕ) (o : Option ℕ) (so_far : least_from test y (end - y) ≡ o) where
  here : y < end → cond (test y) (Some y) (least_from test (y + 1) (end - (y + 1))) ≡ o
  here within =
      let one : end - y ≡ suc (end - (y + 1)) = omega arith in
      ap (λ z. cond (test y) (Some y) (least_from test z (end - (y + 1)))) (add-one y) ∙ sym (ap (least_from test y) one) ∙ so_far

-- x is the least from y on that passes
pub record Least (test : ℕ → Bool) (y x : ℕ) : Type 0 where
  pub from : y ≤ x
  pub passes : test x ≡ true
  pub least : (z : ℕ) → y ≤ z → test z ≡ true → x ≤ z

-- the least of n numbers from y on, or that none of them passes
abbrev pub First : (ℕ → Bool) → ℕ → ℕ → Option ℕ → Type 0
First test y n (Some x) = Least test y x
First test y n None = (z : ℕ) → y ≤ z → z < y + n → test z ≡ true → ⊥

later : (test : ℕ → Bool) (y z : ℕ) → test y ≡ false → y ≤ z → test z ≡ true → suc y ≤ z
later test y z fails from passes =
    ⊎_elim
    (λ (same : y ≡ z). absurd (both_ways (test y) fails (ap test same ∙ passes)))
    (λ (other : y ≡ z → ⊥). omega arith)
    (cases_eq y z)

step : (test : ℕ → Bool) (y n : ℕ) (b : Bool) (o : Option ℕ) → test y ≡ b → First test (suc y) n o → First test y (suc n) (cond b (Some y) o)
step test y n true o e f = record { from = omega arith; passes = e; least = λ z from h. from }
step test y n false (Some x) e f = record { from = omega arith; passes = f.passes; least = λ z from h. f.least z (later test y z e from h) h }
step test y n false None e f = λ z from below h. f z (later test y z e from h) (omega arith) h

pub least_is : (test : ℕ → Bool) (y n : ℕ) → First test y n (least_from test y n)
least_is test y zero = λ z from below h. omega arith
least_is test y (suc n) = step test y n (test y) (least_from test (suc y) n) refl (least_is test (suc y) n)
