-- What a line's words say means what it should.
use Rattle.std.proofs.Common.{◌≡◌, ℕ, zero, suc, ◌+◌, true, false, List, [], ◌∷◌, map, length, get_or, Some, None, Ok, Err, codes, Option, Result, MatchOption, IsSomeAnd, sym, refl, ap, ◌∙◌, subst, arith, Bor}
use Rattle.std.proofs.lemmas.Slice.Eq.{bytes_eq-Decides}
use Rattle.std.proofs.lemmas.List.{nil_from_length}
use Rattle.std.proofs.lemmas.Bool.{cond_both, both_ways}
use Rattle.std.specs.Str.{bytes_eq}
use Rattle.std.specs.Option.{option_transpose}
use Rattle.std.specs.List.{IsFirstAndRest}
use Rattle.journal.specs.declared.numbers.NumberFault.{NumberFault}
use Rattle.journal.specs.declared.steps.Misread.{Misread}
use Rattle.journal.specs.declared.steps.Misread.TheVariants.{UnknownStep, Missing, Extra}
use Rattle.journal.specs.declared.steps.Step.{Step}
use Rattle.journal.specs.declared.steps.Step.TheVariants.{Head, Line, Blank, Sign}
use Rattle.journal.specs.Words.{contents}
use Rattle.journal.specs.Numbers.{decimal}
use Rattle.journal.specs.Steps.{place, and_then, placed, numbers, head_of, line_of, named, step}
use Rattle.journal.specs.Meaning.{name, figures, Numerals, Spells, Cause, Stops, Named, Means}

-- a row of numbers is n numerals, or numerals up to a fault
abbrev Row : ℕ → ℕ → List (List ℕ) → Result (List ℕ) Misread → Type 0
Row at n ws (Ok xs) = Numerals ws xs × (length xs ≡ n)
Row at n ws (Err e) = Stops at n ws e

-- a fault at the first word
at_once : (at n : ℕ) (ws : List (List ℕ)) (e : Misread) → place e ≡ at → Cause e n ws → Stops at n ws e
at_once at n ws e h c = record { done = []; left = ws; found = []; due = n; split = refl; numerals = refl; count = omega arith; here = omega arith; cause = c }

row_more : (at n : ℕ) (w : List ℕ) (ws : List (List ℕ)) (d : Result ℕ NumberFault) → decimal w ≡ d → (r : Result (List ℕ) Misread) → Row (at + 1) n ws r → Row at (suc n) (w ∷ ws) (and_then (placed at d) (λ x. and_then r (λ xs. Ok (x ∷ xs))))
row_more at n w ws (Ok x) e (Ok xs) h = ((λ i. e i ∷ h.0 i), ap suc h.1)
row_more at n w ws (Ok x) e (Err m) h =
    record {
      done = w ∷ h.done;
      left = h.left;
      found = x ∷ h.found;
      due = h.due;
      split = ap (λ l. w ∷ l) h.split;
      numerals = λ i. e i ∷ h.numerals i;
      count = omega (arith, h.count);
      here = omega (arith, h.here);
      cause = h.cause;
    }
row_more at n w ws (Err NumberFault.NoNumber) e r h = at_once at (suc n) (w ∷ ws) _ refl (omega arith, e)
row_more at n w ws (Err NumberFault.TooLarge) e r h = at_once at (suc n) (w ∷ ws) _ refl (omega arith, e)

row : (at n : ℕ) (ws : List (List ℕ)) → Row at n ws (numbers at n ws)
row at zero [] = (refl, refl)
row at zero (w ∷ ws) = at_once at zero (w ∷ ws) _ refl refl
row at (suc n) [] = at_once at (suc n) [] _ refl (omega arith, refl)
row at (suc n) (w ∷ ws) = row_more at n w ws (decimal w) refl (numbers (at + 1) n ws) (row (at + 1) n ws)

pub numbers_from : (at : ℕ) (ws : List (List ℕ)) (xs : List ℕ) → Numerals ws xs → numbers at (length xs) ws ≡ Ok xs
numbers_from at [] [] e = refl
numbers_from at [] (x ∷ xs) e = absurd (omega (arith, ap length e))
numbers_from at (w ∷ ws) [] e = absurd (omega (arith, ap length e))
numbers_from at (w ∷ ws) (x ∷ xs) e =
    let first : decimal w ≡ Ok x = cc in
    let others : Numerals ws xs = cc in
    rw (first, numbers_from (at + 1) ws xs others)

seven : (xs : List ℕ) → length xs ≡ 7 → get_or xs 0 0 ∷ get_or xs 1 0 ∷ get_or xs 2 0 ∷ get_or xs 3 0 ∷ get_or xs 4 0 ∷ get_or xs 5 0 ∷ get_or xs 6 0 ∷ [] ≡ xs
seven [] h = absurd (omega arith)
seven (a ∷ []) h = absurd (omega arith)
seven (a ∷ b ∷ []) h = absurd (omega arith)
seven (a ∷ b ∷ c ∷ []) h = absurd (omega arith)
seven (a ∷ b ∷ c ∷ d ∷ []) h = absurd (omega arith)
seven (a ∷ b ∷ c ∷ d ∷ e ∷ []) h = absurd (omega arith)
seven (a ∷ b ∷ c ∷ d ∷ e ∷ f ∷ []) h = absurd (omega arith)
seven (a ∷ b ∷ c ∷ d ∷ e ∷ f ∷ g ∷ []) h = refl
seven (a ∷ b ∷ c ∷ d ∷ e ∷ f ∷ g ∷ x ∷ xs) h = absurd (omega arith)

-- a step that is made of n numbers
module _ (n : ℕ) (w : List ℕ) (ws : List (List ℕ)) (f : List ℕ → Step) (is : (xs : List ℕ) → w ≡ name (f xs)) (fits : (xs : List ℕ) → length xs ≡ n → figures (f xs) ≡ xs) (takes : length (figures (f [])) ≡ n) where
  stopped : (e : Misread) → Stops 2 n ws e → Named w ws (Err e)
  stopped UnknownStep h = absurd h.cause
  stopped (Missing at) h = (f [], is [], subst (λ k. Stops 2 k ws (Missing at)) (sym takes) h)
  stopped (Misread.NoNumber at) h = (f [], is [], subst (λ k. Stops 2 k ws (Misread.NoNumber at)) (sym takes) h)
  stopped (Misread.TooLarge at) h = (f [], is [], subst (λ k. Stops 2 k ws (Misread.TooLarge at)) (sym takes) h)
  stopped (Extra at) h = (f [], is [], subst (λ k. Stops 2 k ws (Extra at)) (sym takes) h)

  made_of : (r : Result (List ℕ) Misread) → Row 2 n ws r → Named w ws (and_then r (λ xs. Ok (f xs)))
  made_of (Ok xs) h = (is xs, h.0 ∙ ap (map Ok) (sym (fits xs h.1)))
  made_of (Err e) h = stopped e h

  made : Named w ws (and_then (numbers 2 n ws) (λ xs. Ok (f xs)))
  made = made_of (numbers 2 n ws) (row 2 n ws)

same : (w v : List ℕ) → bytes_eq w v ≡ true → w ≡ v
same w v e = (bytes_eq-Decides w v).0 e

other : (w v : List ℕ) → bytes_eq w v ≡ false → w ≡ v → ⊥
other w v e p = both_ways (bytes_eq w v) e ((bytes_eq-Decides w v).1 p)

unknown : (w : List ℕ) → bytes_eq w (codes "head") ≡ false → bytes_eq w (codes "line") ≡ false → bytes_eq w (codes "blank") ≡ false → bytes_eq w (codes "sign") ≡ false → (s : Step) → w ≡ name s → ⊥
unknown w a b c d (Head h) = other w _ a
unknown w a b c d (Line l) = other w _ b
unknown w a b c d Blank = other w _ c
unknown w a b c d Sign = other w _ d

named_means : (w : List ℕ) (ws : List (List ℕ)) → Named w ws (named w ws)
named_means w ws =
    cond_both (bytes_eq w (codes "head")) _ _ (Named w ws) (λ e. made 7 w ws (λ xs. Head (head_of xs)) (λ xs. same w _ e) seven refl) (λ a.
    cond_both (bytes_eq w (codes "line")) _ _ (Named w ws) (λ e. made 7 w ws (λ xs. Line (line_of xs)) (λ xs. same w _ e) seven refl) (λ b.
    cond_both (bytes_eq w (codes "blank")) _ _ (Named w ws) (λ e. made 0 w ws (λ xs. Blank) (λ xs. same w _ e) (λ xs h. sym (nil_from_length xs h)) refl) (λ c.
    cond_both (bytes_eq w (codes "sign")) _ _ (Named w ws) (λ e. made 0 w ws (λ xs. Sign) (λ xs. same w _ e) (λ xs h. sym (nil_from_length xs h)) refl) (λ d.
    unknown w a b c d))))

as_line : (w : List ℕ) (ws : List (List ℕ)) (r : Result Step Misread) → Named w ws r → Means (w ∷ ws) (and_then r (λ s. Ok (Some s)))
as_line w ws (Ok s) h = h
as_line w ws (Err e) h = h

means : (ws : List (List ℕ)) → Means ws (step ws)
means [] = refl
means (w ∷ ws) = as_line w ws (named w ws) (named_means w ws)

named_from : (s : Step) (ws : List (List ℕ)) → Numerals ws (figures s) → named (name s) ws ≡ Ok s
named_from (Head h) ws e = ap (λ r. and_then r (λ xs. Ok (Head (head_of xs)))) (numbers_from 2 ws (figures (Head h)) e)
named_from (Line l) ws e = ap (λ r. and_then r (λ xs. Ok (Line (line_of xs)))) (numbers_from 2 ws (figures (Line l)) e)
named_from Blank ws e = ap (λ r. and_then r (λ xs. Ok Blank)) (numbers_from 2 ws [] e)
named_from Sign ws e = ap (λ r. and_then r (λ xs. Ok Sign)) (numbers_from 2 ws [] e)

reads : (s : Step) (ws : List (List ℕ)) → Spells s ws → step ws ≡ Ok (Some s)
reads s [] h = absurd h
reads s (w ∷ ws) h = ap (λ r. and_then r (λ s. Ok (Some s))) (ap (λ v. named v ws) h.0 ∙ named_from s ws h.1)

-- both, of a result that is what the words say
pub told : (ws : List (List ℕ)) (r : Result (Option Step) Misread) → r ≡ step ws → Means ws r × ((s : Step) → Spells s ws → r ≡ Ok (Some s))
told ws r e = (subst (Means ws) (sym e) (means ws), λ s h. e ∙ reads s ws h)

transposed : (r : Result Step Misread) → option_transpose (Some r) ≡ and_then r (λ s. Ok (Some s))
transposed (Ok s) = refl
transposed (Err e) = refl

-- the result of the first word and those after it, or of no word, is that of the line
pub heard : (ss : List (Bor (List ℕ))) (o : Option (Bor (Bor (List ℕ)) × Bor (List (Bor (List ℕ))))) (m : Option (Result Step Misread)) (Q : Bor (Bor (List ℕ)) × Bor (List (Bor (List ℕ))) → Result Step Misread → Type 0) → MatchOption o (length ss ≡ 0) (λ p. IsFirstAndRest ss p.0.now p.1.now) → MatchOption o (m ≡ None) (λ p. IsSomeAnd m (Q p)) → ((p : Bor (Bor (List ℕ)) × Bor (List (Bor (List ℕ)))) (r : Result Step Misread) → Q p r → r ≡ named p.0.now.now (contents p.1.now)) → option_transpose m ≡ step (contents ss)
heard ss None m Q e h is = rw (nil_from_length ss e, h) refl
heard ss (Some p) None Q e h is = absurd h
heard ss (Some p) (Some r) Q e h is = transposed r ∙ ap (λ r. and_then r (λ s. Ok (Some s))) (is p r h) ∙ sym (ap (λ l. step (contents l)) e.0)
