-- The links of a reading, one after another.
use Rattle.std.proofs.Common.{◌≡◌, ℕ, suc, ◌+◌, ◌-◌, ◌*◌, ◌<◌, List, ltb, length, get_or, take, None, Ok, Err, Result, sym, ap, ◌∙◌, arith}
use Rattle.std.proofs.lemmas.List.Folds.{length-prefix_len}
use Rattle.filing.specs.Checks.{adding}
use Rattle.filing.specs.Filing.{FilingFields}
use Rattle.filing.specs.Told.{Told}
use Rattle.codec.specs.Fields.{line_of}
use Rattle.codec.specs.Reading.{and_then, part, matching, schema, headed, counted, lined, body, head_at, count_at}
use Rattle.codec.proofs.Inverting.{part_length}
use Rattle.codec.proofs.Schemas.{heads_prefix, off_none}
use Rattle.codec.specs.Table.{head_codes, line_codes, first_off}

pub then_ok : {X Y E : Type 0} {r : Result X E} {x : X} (k : X → Result Y E) → r ≡ Ok x → and_then r k ≡ k x
then_ok k h = ap (λ r. and_then r k) h

pub then_err : {X Y E : Type 0} {r : Result X E} {e : E} (k : X → Result Y E) → r ≡ Err e → and_then r k ≡ Err e
then_err k h = ap (λ r. and_then r k) h

-- the line at the place `at`, of which n - i are left
module _ (codes : List ℕ) (n i at size : ℕ) (bs : List ℕ) (f : FilingFields) (e : size ≡ 8 * length codes) (h : i < n) where
  unfolded : lined codes (n - i) at bs f ≡ and_then (part at size bs) (λ b. and_then (adding f (line_of codes b)) (λ g. lined codes (n - (i + 1)) (at + size) bs g))
  unfolded =
      let k : n - i ≡ suc (n - (i + 1)) = omega arith in
      ap (λ j. lined codes j at bs f) k ∙ ap (λ s. and_then (part at s bs) (λ b. and_then (adding f (line_of codes b)) (λ g. lined codes (n - (i + 1)) (at + s) bs g))) (sym e)

  pub lined_cut : (t : Told) → part at size bs ≡ Err t → lined codes (n - i) at bs f ≡ Err t
  lined_cut t p = unfolded ∙ then_err _ p

  pub lined_refused : (b : List ℕ) (t : Told) → part at size bs ≡ Ok b → adding f (line_of codes b) ≡ Err t → lined codes (n - i) at bs f ≡ Err t
  lined_refused b t p a = unfolded ∙ then_ok _ p ∙ then_err _ a

  pub lined_more : (b : List ℕ) (g : FilingFields) (next : ℕ) (same : List ℕ) → part at size bs ≡ Ok b → adding f (line_of codes b) ≡ Ok g → same ≡ bs → next ≡ at + size → lined codes (n - i) at bs f ≡ lined codes (n - (i + 1)) next same g
  lined_more b g next same p a q r =
      unfolded ∙ then_ok _ p ∙ then_ok _ a ∙ ap (λ k. lined codes (n - (i + 1)) k bs g) (sym r) ∙ ap (λ t. lined codes (n - (i + 1)) next t g) (sym q)

-- a schema that is the row, and where it ends
pub schema_passed : (row bs count codes : List ℕ) (at next end n : ℕ) (same : List ℕ) → at ≡ 5 → part at 1 bs ≡ Ok count → same ≡ bs → next ≡ at + 1 → n ≡ get_or count 0 0 → part next n same ≡ Ok codes → end ≡ next + n → None ≡ first_off 1 codes row
    → (schema row bs ≡ Ok tt) × (end ≡ 6 + length row)
schema_passed row bs count codes at next end n same z h b m k c e o =
    let six : next ≡ 6 = omega arith in
    let h5 : part 5 1 bs ≡ Ok count = ap (λ i. part i 1 bs) (sym z) ∙ h in
    let c6 : part 6 (get_or count 0 0) bs ≡ Ok codes = ap (λ i. part i (get_or count 0 0) bs) (sym six) ∙ ap (λ i. part next i bs) (sym k) ∙ ap (part next n) (sym b) ∙ c in
    (then_ok _ h5 ∙ then_ok _ c6 ∙ ap matching (sym o), omega (arith, part_length next n same codes c, ap length (off_none 1 codes row (sym o))))

-- the parts of the body, where each begins where the one before it ends
module _ (row bs head line : List ℕ) (at next : ℕ) (same : List ℕ) (d : head ≡ head_codes row) (l : line ≡ line_codes row) (z : at ≡ head_at row) (b : same ≡ bs) (e : next ≡ at + 8 * length head) where
  headed_at : headed head at bs ≡ headed (head_codes row) (head_at row) bs
  headed_at = ap (λ cs. headed cs at bs) d ∙ ap (λ n. headed (head_codes row) n bs) z

  count_is : next ≡ count_at row
  count_is = omega (arith, ap length d, ap (λ n. length (take n row)) (heads_prefix row), length-prefix_len (λ c. ltb c 21) row, heads_prefix row)

  counted_at : counted next same ≡ counted (count_at row) bs
  counted_at = ap (counted next) b ∙ ap (λ n. counted n bs) count_is

  pub body_head : (t : Told) → headed head at bs ≡ Err t → body row bs ≡ Err t
  body_head t h = then_err _ (sym headed_at ∙ h)

  pub body_count : (f : FilingFields) (t : Told) → headed head at bs ≡ Ok f → counted next same ≡ Err t → body row bs ≡ Err t
  body_count f t h c = then_ok _ (sym headed_at ∙ h) ∙ then_err _ (sym counted_at ∙ c)

  pub body_lines : (f : FilingFields) (k first : ℕ) (still : List ℕ) (r : Result (ℕ × FilingFields) Told) → headed head at bs ≡ Ok f → counted next same ≡ Ok k → still ≡ same → first ≡ next + 1 → lined line k first still f ≡ r → body row bs ≡ r
  body_lines f k first still r h c q n m =
      then_ok _ (sym headed_at ∙ h)
      ∙ then_ok _ (sym counted_at ∙ c)
      ∙ ap (λ cs. lined cs k (count_at row + 1) bs f) (sym l)
      ∙ ap (λ i. lined line k i bs f) (sym (n ∙ ap (λ i. i + 1) count_is))
      ∙ ap (λ t. lined line k first t f) (sym (q ∙ b))
      ∙ m
