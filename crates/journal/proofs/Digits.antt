-- What one turn over digits keeps.
use Rattle.std.proofs.Common.{◌≡◌, ℕ, zero, suc, ◌+◌, ◌-◌, ◌*◌, ◌<◌, ◌≤◌, true, false, ◌&&◌, List, [], ◌∷◌, length, get_or, drop, fold, sym, ◌∙◌, arith}
use Rattle.std.proofs.lemmas.List.{at_drop_more, at_drop_all}
use Rattle.std.proofs.lemmas.Bool.{and_parts, and_left, leb-true}
use Rattle.journal.specs.Numbers.{digit, all_digits, then_digit, value}

-- the number that digits write after those of n
abbrev pub value_after : ℕ → List ℕ → ℕ
value_after n w = fold then_digit n w

digits_more : (bs : List ℕ) (i : ℕ) → i < length bs → all_digits (drop i bs) ≡ (digit (get_or bs i 0) && all_digits (drop (i + 1) bs))
digits_more bs i h = at_drop_more all_digits bs i 0 h

value_more : (n : ℕ) (bs : List ℕ) (i : ℕ) → i < length bs → value_after n (drop i bs) ≡ value_after (n * 10 + (get_or bs i 0 - 48)) (drop (i + 1) bs)
value_more n bs i h = at_drop_more (value_after n) bs i 0 h

at_least : (n : ℕ) (bs : List ℕ) → n ≤ value_after n bs
at_least n [] = omega arith
at_least n (b ∷ bs) = omega (arith, at_least (then_digit n b) bs)

pub low_at : (w : List ℕ) (k d : ℕ) → all_digits w ≡ true → k < length w → 48 ≤ get_or w k d
low_at [] k d t h = absurd (omega arith)
low_at (b ∷ bs) zero d t h = leb-true _ _ (and_parts _ _ (and_parts _ _ t).0).0
low_at (b ∷ bs) (suc k) d t h = low_at bs k d (and_parts _ _ t).1 (omega arith)

module _ (bs : List ℕ) (i : ℕ) (h : i < length bs) where
  pub no_digit : all_digits (drop i bs) ≡ all_digits bs → digit (get_or bs i 0) ≡ false → false ≡ all_digits bs
  no_digit s t = sym (and_left _ _ t) ∙ sym (digits_more bs i h) ∙ s

  pub one_digit : all_digits (drop i bs) ≡ all_digits bs → digit (get_or bs i 0) ≡ true → all_digits (drop (i + 1) bs) ≡ all_digits bs
  one_digit s t = let p = digits_more bs i h in sym (rw t at p) ∙ s

pub no_more : (bs : List ℕ) (i : ℕ) → length bs ≤ i → all_digits (drop i bs) ≡ all_digits bs → true ≡ all_digits bs
no_more bs i h s = sym (at_drop_all all_digits bs i h) ∙ s

-- n is the number of the digits below i
pub record Sofar (bs : List ℕ) (n i : ℕ) : Type 0 where
  pub digits : all_digits (drop i bs) ≡ true
  pub whole : value_after n (drop i bs) ≡ value bs

module _ (bs : List ℕ) (n i : ℕ) (s : Sofar bs n i) where
  module _ (h : i < length bs) where
    tested : (digit (get_or bs i 0) ≡ true) × (all_digits (drop (i + 1) bs) ≡ true)
    tested = and_parts _ _ (sym (digits_more bs i h) ∙ s.digits)

    pub digit_low : 48 ≤ get_or bs i 0
    digit_low = leb-true _ _ (and_parts _ _ tested.0).0
