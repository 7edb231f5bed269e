-- A schema against its row, line by line.
use Rattle.std.proofs.Common.{◌≡◌, ℕ, suc, ◌+◌, ◌<◌, ◌≤◌, max, Bool, true, false, cond, eqb, ltb, List, [], ◌∷◌, length, get_or, drop, map, Some, None, Option, sym, refl, ap, ◌∙◌, inl, inr, arith}
use Rattle.std.specs.List.{find, prefix_len, zip}
use Rattle.std.specs.Option.{option_map}
use Rattle.std.proofs.lemmas.List.{drop_more, drop_all}
use Rattle.std.proofs.lemmas.List.Recursion.{same_from_clauses}
use Rattle.std.proofs.lemmas.Bool.{cases_Bool, cases_lt, cond-true, cond-false, lt-ltb, le-ltb, eqb-true}
use Rattle.codec.specs.Table.{first_off, heads, row_in}
use Rattle.codec.specs.declared.table.Row.{Row}

-- the codes before the first of a line's are the longest beginning of codes below 21
pub heads_prefix : (cs : List ℕ) → heads cs ≡ prefix_len (λ c. ltb c 21) cs
heads_prefix cs = same_from_clauses heads (prefix_len (λ c. ltb c 21)) (λ c n. cond (ltb c 21) (suc n) 0) refl (λ c cs. refl) (λ c cs. ap (λ n. cond (ltb c 21) n 0) (omega arith)) cs

abbrev pub same_pair : ℕ × ℕ → Bool
same_pair p = eqb p.0 p.1

-- a schema and a row that agree to the end of the longer
off_nowhere : (n : ℕ) (ss rs : List ℕ) → max (length ss) (length rs) ≤ prefix_len same_pair (zip ss rs) → first_off n ss rs ≡ None
off_nowhere n [] [] h = refl
off_nowhere n [] (r ∷ rs) h = absurd (omega arith)
off_nowhere n (s ∷ ss) [] h = absurd (omega arith)
off_nowhere n (s ∷ ss) (r ∷ rs) h =
    elim (cases_Bool (eqb s r)) [
      | inl b ↦ let t = rw b at h in rw b (off_nowhere (n + 1) ss rs (omega arith))
      | inr b ↦ let t = rw b at h in absurd (omega arith)
    ]

-- the first line after those that agree
off_after : (n : ℕ) (ss rs : List ℕ) → prefix_len same_pair (zip ss rs) < max (length ss) (length rs) → first_off n ss rs ≡ Some (n + prefix_len same_pair (zip ss rs))
off_after n [] [] h = absurd (omega arith)
off_after n [] (r ∷ rs) h = ap (λ m. Some m) (omega arith)
off_after n (s ∷ ss) [] h = ap (λ m. Some m) (omega arith)
off_after n (s ∷ ss) (r ∷ rs) h =
    elim (cases_Bool (eqb s r)) [
      | inl b ↦ let t = rw b at h in rw b (off_after (n + 1) ss rs (omega arith) ∙ ap (λ m. Some m) (omega arith))
      | inr b ↦ rw b (ap (λ m. Some m) (omega arith))
    ]

-- the first line after those that agree, where the longer has one
pub off_is : (n k m : ℕ) (ss rs : List ℕ) → k ≡ prefix_len same_pair (zip ss rs) → m ≡ max (length ss) (length rs) → first_off n ss rs ≡ cond (ltb k m) (Some (n + k)) None
off_is n k m ss rs e f =
    elim (cases_lt k m) [
      | inl h ↦ off_after n ss rs (omega arith) ∙ ap (λ j. Some (n + j)) (sym e) ∙ sym (cond-true _ _ _ (lt-ltb k m h))
      | inr h ↦ off_nowhere n ss rs (omega arith) ∙ sym (cond-false _ _ _ (le-ltb k m h))
    ]

-- a schema and a row, and the codes of a row, from the place i on
pub off_more : (n : ℕ) (ss rs : List ℕ) (i : ℕ) → i < length ss → i < length rs → first_off n (drop i ss) (drop i rs) ≡ cond (eqb (get_or ss i 0) (get_or rs i 0)) (first_off (n + 1) (drop (i + 1) ss) (drop (i + 1) rs)) (Some n)
off_more n ss rs i h g = rw (drop_more ss i 0 h, drop_more rs i 0 g)

pub off_long : (n : ℕ) (ss rs : List ℕ) (i : ℕ) → i < length ss → length rs ≤ i → first_off n (drop i ss) (drop i rs) ≡ Some n
off_long n ss rs i h g = rw (drop_more ss i 0 h, drop_all i rs g)

pub off_short : (n : ℕ) (ss rs : List ℕ) (i : ℕ) → length ss ≤ i → i < length rs → first_off n (drop i ss) (drop i rs) ≡ Some n
off_short n ss rs i h g = rw (drop_all i ss h, drop_more rs i 0 g)

pub off_both : (n : ℕ) (ss rs : List ℕ) (i : ℕ) → length ss ≤ i → length rs ≤ i → first_off n (drop i ss) (drop i rs) ≡ None
off_both n ss rs i h g = rw (drop_all i ss h, drop_all i rs g)

pub heads_head : (cs : List ℕ) (i : ℕ) → i < length cs → get_or cs i 0 < 21 → heads (drop i cs) ≡ suc (heads (drop (i + 1) cs))
heads_head cs i h g = let b = lt-ltb (get_or cs i 0) 21 g in rw (drop_more cs i 0 h, b)

pub heads_line : (cs : List ℕ) (i : ℕ) → i < length cs → 21 ≤ get_or cs i 0 → heads (drop i cs) ≡ 0
heads_line cs i h g = let b = le-ltb (get_or cs i 0) 21 g in rw (drop_more cs i 0 h, b)

pub heads_all : (cs : List ℕ) (i : ℕ) → length cs ≤ i → heads (drop i cs) ≡ 0
heads_all cs i h = rw (drop_all i cs h)

pub some_none : {A : Type 0} {x : A} → Some x ≡ None → ⊥
some_none h = grind arith

cond_none : {A : Type 0} (b : Bool) (o : Option A) (x : A) → cond b o (Some x) ≡ None → (b ≡ true) × (o ≡ None)
cond_none true o x h = (refl, h)
cond_none false o x h = absurd (some_none h)

-- a schema that differs nowhere is the row
pub off_none : (n : ℕ) (ss rs : List ℕ) → first_off n ss rs ≡ None → ss ≡ rs
off_none n [] [] h = refl
off_none n [] (r ∷ rs) h = absurd (some_none h)
off_none n (s ∷ ss) [] h = absurd (some_none h)
off_none n (s ∷ ss) (r ∷ rs) h =
    let p = cond_none (eqb s r) (first_off (n + 1) ss rs) n h in
    let e = eqb-true s r p.0 in
    let t = off_none (n + 1) ss rs p.1 in
    cc

-- the row that is found is the version's
row_found : (rs : List Row) (v : ℕ) → option_map (λ (r : Row). r.codes.list.now) (find (λ (r : Row). eqb r.version v) rs) ≡ row_in (map (λ (r : Row). (r.version, r.codes.list.now)) rs) v
row_found [] v = refl
row_found (r ∷ rs) v =
    elim (cases_Bool (eqb r.version v)) [
      | inl b ↦ rw b refl
      | inr b ↦ rw b (row_found rs v)
    ]

pub found_row : {rs all : List Row} (v : ℕ) (o : Option Row) → all ≡ rs → o ≡ find (λ (r : Row). eqb r.version v) rs → option_map (λ (r : Row). r.codes.list.now) o ≡ row_in (map (λ (r : Row). (r.version, r.codes.list.now)) rs) v
found_row {rs} v o a e = ap (option_map (λ (r : Row). r.codes.list.now)) e ∙ row_found rs v
