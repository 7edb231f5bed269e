-- Lines one after another: the first of them, and those that follow it.
use Rattle.std.proofs.Common.{◌≡◌, ℕ, zero, suc, ◌<◌, ◌≤◌, ◌==◌, true, false, cond, List, [], ◌∷◌, length, refl, ap, arith}
use Rattle.journal.specs.Lines.{after, first_line, after_line, first_lines, lines_of}

after_most : (mark : ℕ) (bs : List ℕ) → length (after mark bs) ≤ length bs
after_most mark [] = omega arith
after_most mark (b ∷ bs) =
    elim (b == mark) as (λ t. length (cond t bs (after mark bs)) ≤ length (b ∷ bs)) [
      | true ↦ omega arith
      | false ↦ omega (arith, after_most mark bs)
    ]

after_fewer : (b : ℕ) (bs : List ℕ) → length (after_line (b ∷ bs)) ≤ length bs
after_fewer b bs =
    elim (b == 10) as (λ t. length (cond t bs (after 10 bs)) ≤ length bs) [
      | true ↦ omega arith
      | false ↦ after_most 10 bs
    ]

-- there are no more lines than bytes
enough : (k m : ℕ) (bs : List ℕ) → length bs ≤ k → length bs ≤ m → first_lines k bs ≡ first_lines m bs
enough zero zero bs h g = refl
enough zero (suc m) [] h g = refl
enough zero (suc m) (b ∷ bs) h g = absurd (omega arith)
enough (suc k) zero [] h g = refl
enough (suc k) zero (b ∷ bs) h g = absurd (omega arith)
enough (suc k) (suc m) [] h g = refl
enough (suc k) (suc m) (b ∷ bs) h g = ap (λ ls. first_line (b ∷ bs) ∷ ls) (enough k m (after_line (b ∷ bs)) (omega (arith, after_fewer b bs)) (omega (arith, after_fewer b bs)))

pub line_first : (bs : List ℕ) → 0 < length bs → lines_of bs ≡ first_line bs ∷ lines_of (after_line bs)
line_first [] h = absurd (omega arith)
line_first (b ∷ bs) h = ap (λ ls. first_line (b ∷ bs) ∷ ls) (enough (length bs) (length (after_line (b ∷ bs))) (after_line (b ∷ bs)) (after_fewer b bs) (omega arith))
