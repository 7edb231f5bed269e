-- The search for a field by its code.
use Rattle.std.proofs.Common.{◌≡◌, ℕ, zero, suc, ◌+◌, ◌*◌, ◌<◌, ◌≤◌, nat_lt, eqb, List, [], ◌∷◌, length, get_or, take, drop, Some, None, Option, position, sym, refl, ap, ◌∙◌, subst, inl, inr, arith}
use Rattle.std.specs.Simd.{first_chunks}
use Rattle.std.specs.List.{find, zip, position_or_len}
use Rattle.std.proofs.lemmas.List.{drop_more, drop_all, drop-drop}
use Rattle.std.proofs.lemmas.Bool.{cases_Bool, cond_both, eq-eqb, ne_eqb, ltb-true, ltb-false}
use Rattle.codec.specs.Fields.{field}
use Rattle.codec.specs.Numbers.{number}

-- the number of the field that is found, and 0 where none is
abbrev pub number_of : Option (ℕ × List ℕ) → ℕ
number_of None = 0
number_of (Some p) = number p.1

field_first : (cs bs : List ℕ) (c n : ℕ) → length cs ≤ n → number_of (find (λ p. eqb p.0 c) (zip cs (first_chunks 8 n bs))) ≡ field cs bs c
field_first [] bs c n h = refl
field_first (k ∷ ks) bs c zero h = absurd (omega (arith, h))
field_first (k ∷ ks) bs c (suc n) h =
    elim (cases_Bool (eqb k c)) [
      | inl b ↦ rw b refl
      | inr b ↦ rw b (field_first ks (drop 8 bs) c n (omega (arith, h)))
    ]

pub field_found : (cs bs : List ℕ) (c n : ℕ) (fields : List (List ℕ)) (found : Option (ℕ × List ℕ)) → length cs ≤ n → fields ≡ first_chunks 8 n bs → found ≡ find (λ p. eqb p.0 c) (zip cs fields) → number_of found ≡ field cs bs c
field_found cs bs c n fields found h e f = ap number_of (f ∙ ap (λ fs. find (λ p. eqb p.0 c) (zip cs fs)) e) ∙ field_first cs bs c n h

-- the field among the codes from the place i on
pub field_here : (cs bs : List ℕ) (c i : ℕ) → i < length cs → get_or cs i 0 ≡ c → field (drop i cs) (drop (8 * i) bs) c ≡ number (take 8 (drop (8 * i) bs))
field_here cs bs c i h e = let b = eq-eqb (get_or cs i 0) c e in rw (drop_more cs i 0 h, b)

pub field_past : (cs bs : List ℕ) (c i : ℕ) → i < length cs → (get_or cs i 0 ≡ c → ⊥) → field (drop i cs) (drop (8 * i) bs) c ≡ field (drop (i + 1) cs) (drop (8 * (i + 1)) bs) c
field_past cs bs c i h e =
    let b = ne_eqb (get_or cs i 0) c e in
    let d : drop 8 (drop (8 * i) bs) ≡ drop (8 * (i + 1)) bs = drop-drop 8 (8 * i) bs ∙ ap (λ n. drop n bs) (omega arith) in
    rw (drop_more cs i 0 h, b, d)

pub field_all : (cs bs : List ℕ) (c i : ℕ) → length cs ≤ i → field (drop i cs) bs c ≡ 0
field_all cs bs c i h = rw (drop_all i cs h)

-- a code's place among the codes, and its field
abbrev pub At : List ℕ → List ℕ → ℕ → Option ℕ → Type 0
At cs bs c None = field cs bs c ≡ 0
At cs bs c (Some i) = (i < length cs) × (field cs bs c ≡ number (take 8 (drop (8 * i) bs)))

field_lacks : (cs bs : List ℕ) (c : ℕ) → length cs ≤ position_or_len (λ b. eqb b c) cs → field cs bs c ≡ 0
field_lacks [] bs c h = refl
field_lacks (k ∷ ks) bs c h =
    elim (cases_Bool (eqb k c)) [
      | inl b ↦ absurd (omega (arith, rw b at h))
      | inr b ↦ rw b (field_lacks ks (drop 8 bs) c (omega (arith, rw b at h)))
    ]

field_has : (cs bs : List ℕ) (c : ℕ) → position_or_len (λ b. eqb b c) cs < length cs → field cs bs c ≡ number (take 8 (drop (8 * position_or_len (λ b. eqb b c) cs) bs))
field_has [] bs c h = absurd (omega (arith, h))
field_has (k ∷ ks) bs c h =
    elim (cases_Bool (eqb k c)) [
      | inl b ↦ rw b refl
      | inr b ↦ rw b (field_has ks (drop 8 bs) c (omega (arith, rw b at h)) ∙ ap (λ xs. number (take 8 xs)) (drop-drop (8 * position_or_len (λ x. eqb x c) ks) 8 bs ∙ ap (λ n. drop n bs) (omega arith)))
    ]

pub field_at : (cs bs : List ℕ) (c : ℕ) (o : Option ℕ) → o ≡ position (λ b. eqb b c) cs → At cs bs c o
field_at cs bs c o e =
    let i = position_or_len (λ b. eqb b c) cs in
    subst (At cs bs c) (sym e)
    (cond_both (nat_lt i (length cs)) (Some i) None (At cs bs c)
    (λ t. let below = ltb-true i (length cs) t in (below, field_has cs bs c below))
    (λ t. field_lacks cs bs c (omega (arith, ltb-false i (length cs) t))))

pub chunk_at : (n i : ℕ) (bs d : List ℕ) → i < n → get_or (first_chunks 8 n bs) i d ≡ take 8 (drop (8 * i) bs)
chunk_at zero i bs d h = absurd (omega (arith, h))
chunk_at (suc n) zero bs d h = refl
chunk_at (suc n) (suc i) bs d h = chunk_at n i (drop 8 bs) d (omega (arith, h)) ∙ ap (take 8) (drop-drop (8 * i) 8 bs ∙ ap (λ m. drop m bs) (omega arith))
