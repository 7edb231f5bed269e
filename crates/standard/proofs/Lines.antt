-- Sums over those lines of a filing that pass a test: the step of a loop over them, their bounds, and when they are 0.
use Rattle.std.proofs.Common.{◌≡◌, ℕ, suc, ◌+◌, ◌*◌, ◌<◌, ◌≤◌, Bool, true, false, cond, ◌||◌, ltb, List, [], ◌∷◌, map, length, get_or, take, sum_by, filter, sym, refl, ap, ◌∙◌, zero-add, le_trans, arith}
use Rattle.std.proofs.Math.Nat.{mul-le-mul_right}
use Rattle.std.proofs.lemmas.List.Elements.{filter-append}
use Rattle.std.proofs.lemmas.List.{map_more}
use Rattle.std.proofs.lemmas.List.Sums.{sum_by-append, sum_by-cons, sum_by-le, length-filter, count_by-le-length}
use Rattle.std.proofs.lemmas.Bool.{lt-ltb}
use Rattle.std.specs.List.{list_any}
use Rattle.filing.specs.Parts.{line_fields}
use Rattle.filing.specs.declared.fields.LineFields.{LineFields}
use Rattle.filing.specs.declared.parts.Line.{Line}

-- an element that passes, of what g makes of others
pub list_any-map : {X Y : Type 0} (p : Y → Bool) (g : X → Y) (xs : List X) → list_any p (map g xs) ≡ list_any (λ x. p (g x)) xs
list_any-map p g [] = refl
list_any-map p g (x ∷ xs) = ap (λ b. p (g x) || b) (list_any-map p g xs)

module _ {X Y : Type 0} (f : Y → ℕ) (p : Y → Bool) (g : X → Y) where
  taken : (b : Bool) (x : X) (xs : List X) (ys : List Y) → sum_by f ys ≡ sum_by (λ z. f (g z)) xs → sum_by f (cond b (g x ∷ ys) ys) ≡ sum_by (λ z. f (g z)) (cond b (x ∷ xs) xs)
  taken true x xs ys e = sum_by-cons f (g x) ys ∙ ap (λ n. f (g x) + n) e ∙ sym (sum_by-cons (λ z. f (g z)) x xs)
  taken false x xs ys e = e

  pub sum_by-filter-map : (xs : List X) → sum_by f (filter p (map g xs)) ≡ sum_by (λ x. f (g x)) (filter (λ x. p (g x)) xs)
  sum_by-filter-map [] = refl
  sum_by-filter-map (x ∷ xs) = taken (p (g x)) x (filter (λ z. p (g z)) xs) (filter p (map g xs)) (sum_by-filter-map xs)

-- those of six that pass come to at most six times the most
pub few_small : {X : Type 0} (f : X → ℕ) (p : X → Bool) (m : ℕ) (xs : List X) → ((x : X) → f x ≤ m) → length xs ≤ 6 → sum_by f (filter p xs) ≤ 6 * m
few_small f p m xs each few =
    let left : length (filter p xs) ≤ 6 = omega (arith, length-filter p xs, count_by-le-length p xs) in
    le_trans (sum_by-le f m (filter p xs) (λ i d h. each _)) (mul-le-mul_right m left)

-- the sum of f over the first i lines that pass
abbrev pub passed : (LineFields → Bool) → (LineFields → ℕ) → List Line → ℕ → ℕ
passed p f ls i = sum_by f (filter p (map line_fields (take i ls)))

module _ (p : LineFields → Bool) (f : LineFields → ℕ) where
  one : (b : Bool) (l : LineFields) → sum_by f (cond b (l ∷ []) []) ≡ cond b (f l) 0
  one true l = zero-add (f l)
  one false l = refl

  pub passed_more : (ls : List Line) (i : ℕ) (l : Line) → i < length ls → l ≡ get_or ls i l → passed p f ls (i + 1) ≡ passed p f ls i + cond (p (line_fields l)) (f (line_fields l)) 0
  passed_more ls i l below is =
      let here = line_fields (get_or ls i l) in
      let before = map line_fields (take i ls) in
      ap (λ ms. sum_by f (filter p ms)) (map_more line_fields ls i l below)
      ∙ ap (sum_by f) (filter-append p before (here ∷ []))
      ∙ sum_by-append f (filter p before) (filter p (here ∷ []))
      ∙ ap (λ n. passed p f ls i + n) (one (p here) here)
      ∙ ap (λ (m : Line). passed p f ls i + cond (p (line_fields m)) (f (line_fields m)) 0) (sym is)

  -- each line that passes adds at least 1
  abbrev pub Counts : List LineFields → Type 0
  Counts ls = (i : ℕ) (d : LineFields) → i < length ls → p (get_or ls i d) ≡ true → 1 ≤ f (get_or ls i d)

  step : (b : Bool) (l : LineFields) (ls : List LineFields) → (b ≡ true → 1 ≤ f l) → list_any p ls ≡ ltb 0 (sum_by f (filter p ls)) → (b || list_any p ls) ≡ ltb 0 (sum_by f (cond b (l ∷ filter p ls) (filter p ls)))
  step true l ls h e = sym (lt-ltb 0 _ (omega (arith, h refl, sum_by-cons f l (filter p ls))))
  step false l ls h e = e

  -- then the sum is above 0 just where a line passes
  pub some_passed : (ls : List LineFields) → Counts ls → list_any p ls ≡ ltb 0 (sum_by f (filter p ls))
  some_passed [] h = refl
  some_passed (l ∷ ls) h = step (p l) l ls (h 0 l (omega arith)) (some_passed ls (λ i d b. h (suc i) d (omega arith)))
