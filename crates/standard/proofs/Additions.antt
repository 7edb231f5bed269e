-- What lines add to a unit, a line more, and what is left of the places to add.
use Rattle.std.proofs.Common.{◌≡◌, ℕ, ◌+◌, ◌<◌, ◌≤◌, Bool, true, false, cond, not, ◌&&◌, List, [], ◌∷◌, ◌++◌, map, length, get_or, take, sum_by, filter, Option, sym, refl, ap, ◌∙◌, subst, arith}
use Rattle.std.proofs.lemmas.List.Elements.{filter-append}
use Rattle.std.proofs.lemmas.List.Filters.{sum_by-filter_both}
use Rattle.std.proofs.lemmas.List.{map_push, map_more, take_all}
use Rattle.std.proofs.lemmas.List.Sums.{sum_by-append}
use Rattle.filing.specs.Parts.{line_fields}
use Rattle.filing.specs.Views.{fields_of}
use Rattle.filing.specs.declared.filing.Filing.{Filing}
use Rattle.filing.specs.declared.parts.Line.{Line}
use Rattle.filing.specs.declared.signed.Signed.{Signed}
use Rattle.standard.specs.Adding.{Adds}
use Rattle.standard.specs.Capacity.{Dated, dated, dated_from, of_unit, triggers, megawatts}
use Rattle.standard.specs.Places.{filings}
use Rattle.standard.specs.Ranges.{most_added}
use Rattle.standard.specs.Seen.{lines_of}
use Rattle.standard.proofs.Filed.{few_lines}
use Rattle.standard.proofs.Lines.{few_small, sum_by-filter-map}

-- of the unit's lines, the megawatts of those that pass
abbrev pub part : (Dated → Bool) → ℕ → List Dated → ℕ
part p unit ds = sum_by megawatts (filter p (filter (of_unit unit) ds))

abbrev pub rest : Dated → Bool
rest d = not (triggers d)

twice : {X : Type 0} (p : X → Bool) (b : Bool) (x : X) (ys zs : List X) → filter p ys ≡ zs → filter p (cond b (x ∷ ys) ys) ≡ cond (b && p x) (x ∷ zs) zs
twice p true x ys zs e = ap (λ l. cond (p x) (x ∷ l) l) e
twice p false x ys zs e = e

filter_twice : {X : Type 0} (p q : X → Bool) (xs : List X) → filter p (filter q xs) ≡ filter (λ x. q x && p x) xs
filter_twice p q [] = refl
filter_twice p q (x ∷ xs) = twice p (q x) x (filter q xs) (filter (λ z. q z && p z) xs) (filter_twice p q xs)

part_append : (p : Dated → Bool) (unit : ℕ) (xs ys : List Dated) → sum_by megawatts (filter p (filter (of_unit unit) (xs ++ ys))) ≡ sum_by megawatts (filter p (filter (of_unit unit) xs)) + sum_by megawatts (filter p (filter (of_unit unit) ys))
part_append p unit xs ys =
    ap (λ ds. sum_by megawatts (filter p ds)) (filter-append (of_unit unit) xs ys)
    ∙ ap (sum_by megawatts) (filter-append p (filter (of_unit unit) xs) (filter (of_unit unit) ys))
    ∙ sum_by-append megawatts (filter p (filter (of_unit unit) xs)) (filter p (filter (of_unit unit) ys))

pub adds_none : (unit : ℕ) → Adds unit [] 0 0
adds_none unit = record { triggering = refl; other = refl }

adds_append : (unit : ℕ) (xs ys : List Dated) (t u v w : ℕ) → Adds unit xs t u → Adds unit ys v w → Adds unit (xs ++ ys) (t + v) (u + w)
adds_append unit xs ys t u v w a b = record {
  triggering = ap (λ n. n + v) a.triggering ∙ ap (λ n. sum_by megawatts (filter triggers (filter (of_unit unit) xs)) + n) b.triggering ∙ sym (part_append triggers unit xs ys);
  other = ap (λ n. n + w) a.other ∙ ap (λ n. sum_by megawatts (filter (λ d. not (triggers d)) (filter (of_unit unit) xs)) + n) b.other ∙ sym (part_append (λ d. not (triggers d)) unit xs ys);
}

-- the lines of a filing, as dated by its place
abbrev pub dated_lines : ℕ → List Line → List Dated
dated_lines y ls = map (dated y) (map line_fields ls)

lines_more : (y : ℕ) (ls : List Line) (i : ℕ) (l : Line) → i < length ls → l ≡ get_or ls i l → dated_lines y (take (i + 1) ls) ≡ dated_lines y (take i ls) ++ dated y (line_fields l) ∷ []
lines_more y ls i l below is =
    ap (map (dated y)) (map_more line_fields ls i l below)
    ∙ map_push (dated y) (map line_fields (take i ls)) (line_fields (get_or ls i l))
    ∙ ap (λ m. dated_lines y (take i ls) ++ dated y (line_fields m) ∷ []) (sym is)

-- a line more
pub adds_line : (unit y : ℕ) (ls : List Line) (i : ℕ) (l : Line) (t u v w : ℕ) → i < length ls → l ≡ get_or ls i l → Adds unit (dated_lines y (take i ls)) t u → Adds unit (dated y (line_fields l) ∷ []) v w → Adds unit (dated_lines y (take (i + 1) ls)) (t + v) (u + w)
adds_line unit y ls i l t u v w below is a b =
    subst (λ ds. Adds unit ds (t + v) (u + w)) (sym (lines_more y ls i l below is)) (adds_append unit _ _ t u v w a b)

pub adds_lines_all : (unit y : ℕ) (ls : List Line) (i t u : ℕ) → length ls ≤ i → Adds unit (dated_lines y (take i ls)) t u → Adds unit (dated_lines y ls) t u
adds_lines_all unit y ls i t u past a = subst (λ ms. Adds unit (dated_lines y ms) t u) (take_all i ls past) a

-- what triggers and what does not are all
pub adds_both : (unit : ℕ) (ds : List Dated) (t u : ℕ) → Adds unit ds t u → t + u ≡ sum_by megawatts (filter (of_unit unit) ds)
adds_both unit ds t u a =
    let both = sum_by-filter_both triggers (λ d. not (triggers d)) (λ _. refl) megawatts (filter (of_unit unit) ds) in
    omega (arith, a.triggering, a.other)

module _ (unit y : ℕ) (f : Filing) where
  -- of the unit's lines as they are kept, the megawatts of those that pass
  abbrev kept_part : (Dated → Bool) → ℕ
  kept_part p = sum_by (λ (l : Line). l.added.mw) (filter (λ l. p (dated y (line_fields l))) (filter (λ l. of_unit unit (dated y (line_fields l))) (lines_of f)))

  -- what the lines of a filing add, as they are kept and as dated lines
  lines_part : (p : Dated → Bool) → kept_part p ≡ part p unit (map (dated y) (fields_of f).lines)
  lines_part p =
      ap (sum_by (λ (l : Line). l.added.mw)) (filter_twice (λ l. p (dated y (line_fields l))) (λ l. of_unit unit (dated y (line_fields l))) (lines_of f))
      ∙ sym (sum_by-filter-map (λ m. m.added) (λ m. of_unit unit (dated y m) && p (dated y m)) line_fields (lines_of f))
      ∙ sym (sum_by-filter-map megawatts (λ d. of_unit unit d && p d) (dated y) (fields_of f).lines)
      ∙ ap (sum_by megawatts) (sym (filter_twice p (of_unit unit) (map (dated y) (fields_of f).lines)))

  -- they add to a unit what those that trigger have, and the others
  pub adds_lines : (t u : ℕ) → t ≡ kept_part triggers → u ≡ kept_part rest → Adds unit (map (dated y) (fields_of f).lines) t u
  adds_lines t u a b = record { triggering = a ∙ lines_part triggers; other = b ∙ lines_part rest }

  -- the lines of a filing add at most so many megawatts
  pub lines_small : (t u : ℕ) → Adds unit (map (dated y) (fields_of f).lines) t u → t + u ≤ most_added
  lines_small t u a =
      let own = sum_by-filter-map megawatts (of_unit unit) (dated y) (fields_of f).lines in
      let kept = sum_by-filter-map (λ m. m.added) (λ m. of_unit unit (dated y m)) line_fields (lines_of f) in
      omega (arith, adds_both unit (map (dated y) (fields_of f).lines) t u a, own, kept, few_small (λ (l : Line). l.added.mw) (λ l. of_unit unit (dated y (line_fields l))) 1000 (lines_of f) (λ l. l.added.range) (few_lines f))

-- t and u so far, and what the places ps from the year y on add, are what ds add
abbrev pub Left : ℕ → ℕ → List (Option Signed) → List Dated → ℕ → ℕ → Type 0
Left unit y ps ds t u = Adds unit ds (t + part triggers unit (dated_from y (filings ps))) (u + part rest unit (dated_from y (filings ps)))

pub adds_all : (unit y : ℕ) (ps : List (Option Signed)) (ds : List Dated) (t u : ℕ) → length ps ≡ 0 → Left unit y ps ds t u → Adds unit ds t u
adds_all unit y [] ds t u none left = record { triggering = omega (arith, left.triggering); other = omega (arith, left.other) }
adds_all unit y (p ∷ ps) ds t u none left = absurd (omega arith)
