-- The first place of a mark parts the bytes before it from those after it.
use Rattle.std.proofs.Common.{◌≡◌, ℕ, ◌+◌, ◌≤◌, not, true, false, cond, ◌==◌, nat_lt, List, [], ◌∷◌, length, take, drop, Some, None, Option, position, sym, refl, ◌∙◌, subst, arith}
use Rattle.std.proofs.lemmas.Bool.{cond_both, ltb-true, ltb-false}
use Rattle.std.proofs.lemmas.List.{take_all, drop_all}
use Rattle.std.specs.List.{position_or_len}
use Rattle.journal.specs.Lines.{before, after, Placed}

front : (mark : ℕ) (bs : List ℕ) → take (position_or_len (λ b. b == mark) bs) bs ≡ before mark bs
front mark [] = refl
front mark (b ∷ bs) =
    elim (b == mark) as (λ t. take (cond (not t) (1 + position_or_len (λ b. b == mark) bs) 0) (b ∷ bs) ≡ cond t [] (b ∷ before mark bs)) [
      | true ↦ refl
      | false ↦ grind (arith, front mark bs)
    ]

back : (mark : ℕ) (bs : List ℕ) → drop (position_or_len (λ b. b == mark) bs + 1) bs ≡ after mark bs
back mark [] = refl
back mark (b ∷ bs) =
    elim (b == mark) as (λ t. drop (cond (not t) (1 + position_or_len (λ b. b == mark) bs) 0 + 1) (b ∷ bs) ≡ cond t bs (after mark bs)) [
      | true ↦ refl
      | false ↦ grind (arith, back mark bs)
    ]

pub placed : (mark : ℕ) (bs : List ℕ) (o : Option ℕ) → o ≡ position (λ b. b == mark) bs → Placed mark bs o
placed mark bs o e =
    let i = position_or_len (λ b. b == mark) bs in
    subst (Placed mark bs) (sym e)
    (cond_both (nat_lt i (length bs)) (Some i) None (Placed mark bs)
    (λ t. (ltb-true i (length bs) t, front mark bs, back mark bs))
    (λ t. let h : length bs ≤ i = omega (arith, ltb-false i (length bs) t) in (sym (front mark bs) ∙ take_all i bs h, sym (back mark bs) ∙ drop_all (i + 1) bs (omega arith))))
