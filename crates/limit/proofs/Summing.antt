-- The loop that sums contributions and stops at the first fault.
use Rattle.std.proofs.Common.{◌≡◌, ℕ, suc, ◌+◌, List, [], ◌∷◌, map, length, Ok, Err, Result, sym, ap, ◌∙◌, arith}
use Rattle.filing.specs.Parts.{line_fields}
use Rattle.filing.specs.declared.fields.LineFields.{LineFields}
use Rattle.filing.specs.declared.parts.Line.{Line}
use Rattle.standard.specs.declared.causes.Cause.{Cause}
use Rattle.limit.specs.Lines.{Fault, both, summed}

-- a sum so far, and then what is left
abbrev pub plus : ℕ → Result ℕ Fault → Result ℕ Fault
plus s (Ok b) = Ok (s + b)
plus s (Err e) = Err e

module _ (yield : LineFields → Result ℕ Cause) (t : Result ℕ Fault) where
  -- the sum so far, with what the lines ls from the number i on come to, is t
  abbrev pub SoFar : ℕ → List Line → ℕ → Type 0
  SoFar i ls s = plus s (summed yield i (map line_fields ls)) ≡ t

  -- a line more
  next : (i s : ℕ) (l : Line) (ls ms : List Line) (y : Result ℕ Cause) → ls ≡ l ∷ ms → y ≡ yield (line_fields l) → SoFar i ls s → plus s (both i y (summed yield (suc i) (map line_fields ms))) ≡ t
  next i s l ls ms y is e so_far =
      ap (λ z. plus s (both i z (summed yield (suc i) (map line_fields ms)))) e
      ∙ sym (ap (λ ns. plus s (summed yield i (map line_fields ns))) is)
      ∙ so_far

  pub sum_fault : (i j s : ℕ) (c : Cause) (l : Line) (ls ms : List Line) → j ≡ i → ls ≡ l ∷ ms → Err c ≡ yield (line_fields l) → SoFar i ls s → Err (c, j) ≡ t
  sum_fault i j s c l ls ms here is e so_far = ap (λ n. Err (c, n)) here ∙ next i s l ls ms (Err c) is e so_far

  pub sum_all : (i s : ℕ) (ls : List Line) → length ls ≡ 0 → SoFar i ls s → Ok s ≡ t
  sum_all i s [] none so_far = let zero_left : s ≡ s + 0 = omega arith in ap Ok zero_left ∙ so_far
  sum_all i s (l ∷ ls) none so_far = absurd (omega arith)
