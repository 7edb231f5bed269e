-- The lines of a filing as plain numbers: how many there are, what a search among them finds, and what one more of them adds.
use Rattle.std.proofs.Common.{◌≡◌, ℕ, ◌+◌, ◌<◌, ◌≤◌, Bool, false, ◌||◌, List, [], ◌∷◌, map, length, get_or, take, drop, sym, refl, ap, ◌∙◌}
use Rattle.std.specs.List.{list_any}
use Rattle.std.proofs.lemmas.List.{at_drop_more, at_drop_all, take_all, length-map, length-take-le, map_more}
use Rattle.std.proofs.lemmas.List.Sums.{sum_by_push}
use Rattle.filing.specs.Filing.{same, among, attributed_sum}
use Rattle.filing.specs.Parts.{line_fields, entered}
use Rattle.filing.specs.declared.fields.LineFields.{LineFields}
use Rattle.filing.specs.declared.parts.Line.{Line}

pub entered_length : (ls : List Line) (n : ℕ) → n ≤ length ls → length (entered ls n) ≡ n
entered_length ls n h = length-map (take n ls) line_fields ∙ length-take-le n ls h

pub among_any : (f : LineFields) (ls : List Line) → list_any (λ l. same f (line_fields l)) ls ≡ among f (map line_fields ls)
among_any f [] = refl
among_any f (l ∷ ls) = ap (λ b. same f (line_fields l) || b) (among_any f ls)

-- the line l stands at the place i
pub record At (ls : List Line) (i : ℕ) (l : Line) : Type 0 where
  pub below : i < length ls
  pub is : l ≡ get_or ls i l

-- what the line at i says, and what is left after it, say what all lines do
pub among_more : (f : LineFields) (ls : List Line) (i : ℕ) (l : Line) (b : Bool) → At ls i l → among f (map line_fields (drop i ls)) ≡ among f (map line_fields ls) → b ≡ same f (line_fields l) → (b || among f (map line_fields (drop (i + 1) ls))) ≡ among f (map line_fields ls)
among_more f ls i l b at left here =
    ap (λ x. x || among f (map line_fields (drop (i + 1) ls))) (here ∙ ap (λ m. same f (line_fields m)) at.is)
    ∙ sym (at_drop_more (λ ms. among f (map line_fields ms)) ls i l at.below)
    ∙ left

pub among_all : (f : LineFields) (ls : List Line) (i : ℕ) → length ls ≤ i → among f (map line_fields (drop i ls)) ≡ false
among_all f ls i h = at_drop_all (λ ms. among f (map line_fields ms)) ls i h

pub attributed_more : (ls : List Line) (i : ℕ) (l : Line) → At ls i l → attributed_sum (entered ls (i + 1)) ≡ attributed_sum (entered ls i) + l.attributed.kg
attributed_more ls i l at =
    ap attributed_sum (map_more line_fields ls i l at.below)
    ∙ sum_by_push (λ (m : LineFields). m.attributed) (entered ls i) (line_fields (get_or ls i l))
    ∙ ap (λ m. attributed_sum (entered ls i) + m.attributed.kg) (sym at.is)

pub entered_all : (ls : List Line) (i : ℕ) → length ls ≤ i → entered ls i ≡ map line_fields ls
entered_all ls i h = ap (map line_fields) (take_all i ls h)
