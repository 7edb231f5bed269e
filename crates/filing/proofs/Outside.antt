-- The code of the first field outside its range, by its place.
use Rattle.std.proofs.Common.{◌≡◌, ℕ, suc, ◌+◌, ◌<◌, ◌≤◌, Bool, true, false, cond, not, nat_lt, List, [], ◌∷◌, length, get_or, drop, option_map, Some, None, Option, refl, arith}
use Rattle.std.specs.List.{position, position_or_len}
use Rattle.std.proofs.lemmas.List.{drop_more, drop_all}
use Rattle.std.proofs.lemmas.Bool.Decides.{nat_tests}
use Rattle.filing.specs.Ranges.{outside, first_outside, beside_outside}
use Rattle.filing.specs.declared.ranges.Range.{Range}

-- what one more pair before the others does to the place and to the code
one_before : (b : Bool) (c place many : ℕ) (o : Option ℕ) → o ≡ option_map (λ i. c + 1 + i) (cond (nat_lt place many) (Some place) None) → cond b (Some c) o ≡ option_map (λ i. c + i) (cond (nat_lt (cond (not b) (1 + place) 0) (suc many)) (Some (cond (not b) (1 + place) 0)) None)
one_before true c place many o h = grind (arith, nat_tests)
one_before false c place many o h = grind (arith, nat_tests)

pub outside_at : (c : ℕ) (ps : List (ℕ × Range)) → beside_outside c ps ≡ option_map (λ i. c + i) (position (λ p. outside p.0 p.1) ps)
outside_at c [] = refl
outside_at c (p ∷ ps) = one_before (outside p.0 p.1) c (position_or_len (λ p. outside p.0 p.1) ps) (length ps) (beside_outside (c + 1) ps) (outside_at (c + 1) ps)

-- the pairs from the place i on
pub outside_more : (c : ℕ) (ns : List ℕ) (rs : List Range) (i d : ℕ) (e : Range) → i < length ns → i < length rs → first_outside c (drop i ns) (drop i rs) ≡ cond (outside (get_or ns i d) (get_or rs i e)) (Some c) (first_outside (c + 1) (drop (i + 1) ns) (drop (i + 1) rs))
outside_more c ns rs i d e h g = rw (drop_more ns i d h, drop_more rs i e g)

pub outside_all : (c : ℕ) (ns : List ℕ) (rs : List Range) (i : ℕ) → length ns ≤ i → first_outside c (drop i ns) (drop i rs) ≡ None
outside_all c ns rs i h = rw (drop_all i ns h)
