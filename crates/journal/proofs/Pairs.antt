-- The bytes that the decoder of hexadecimal text gives are those of the pairs of digits.
use Rattle.std.proofs.Common.{◌≡◌, ℕ, ◌+◌, ◌*◌, ◌/◌, ◌%◌, Bool, true, false, ◌&&◌, ◌==◌, eqb, List, [], ◌∷◌, ◌++◌, length, take, drop, is_some, Some, None, Option, Ok, Err, Result, MatchResult, sym, refl, ap, ◌∙◌, append_assoc, arith}
use Rattle.std.specs.List.{list_all}
use Rattle.std.specs.Option.{option_map, MatchOption, IsSomeAnd}
use Rattle.std.specs.Result.{result_ok}
use Rattle.std.proofs.lemmas.Bool.{cond_both, cond-true, eqb-true, eqb-false}
use Rattle.hex.specs.declared.error.FromHexError.{FromHexError}
use lib.Pointwise.{pointwise}
use Rattle.hex.specs.Hex.{hex_digit_value, value_at, pair_value, decode_pairs, decode_sized, digit_or_error, ◌>>=◌}
use Rattle.journal.specs.Sources.{is_hex, hex_digit, is_hex_digit, both, hex_byte, hex_bytes, unhexed}

abbrev pub decoded : {A : Type 0} → Result A FromHexError → Option A
decoded (Ok x) = Some x
decoded (Err e) = None

digit_is : (b : ℕ) → hex_digit_value b ≡ hex_digit b
digit_is b = grind arith

digit_at : (b i : ℕ) (o : Option ℕ) → decoded (digit_or_error b i o) ≡ o
digit_at b i None = refl
digit_at b i (Some v) = refl

value_is : (b i : ℕ) → decoded (value_at b i) ≡ hex_digit b
value_is b i = digit_at b i (hex_digit_value b) ∙ digit_is b

both_steps : {A B C : Type 0} (f : A → B → C) (r : Result A FromHexError) (s : Result B FromHexError) → decoded (r >>= (λ x. s >>= (λ y. Ok (f x y)))) ≡ both f (decoded r) (decoded s)
both_steps f (Ok x) (Ok y) = refl
both_steps f (Ok x) (Err e) = refl
both_steps f (Err d) (Ok y) = refl
both_steps f (Err d) (Err e) = refl

pair_is : (a b i : ℕ) → decoded (pair_value a b i) ≡ hex_byte a b
pair_is a b i =
    let byte : ℕ → ℕ → ℕ = λ h l. h * 16 + l in
    both_steps byte (value_at a i) (value_at b (i + 1))
    ∙ ap (λ o. both byte o (decoded (value_at b (i + 1)))) (value_is a i)
    ∙ ap (both byte (hex_digit a)) (value_is b (i + 1))

none_after : {X Y Z : Type 0} (f : X → Y → Z) (o : Option X) → both f o None ≡ None
none_after f None = refl
none_after f (Some x) = refl

pairs_are : (i : ℕ) (ds : List ℕ) → decoded (decode_pairs i ds) ≡ hex_bytes ds
unfolding decode_pairs
pairs_are i [] = refl
pairs_are i (a ∷ []) = refl
pairs_are i (a ∷ b ∷ ds) =
    let more : ℕ → List ℕ → List ℕ = λ x xs. x ∷ xs in
    both_steps more (pair_value a b i) (decode_pairs (i + 2) ds)
    ∙ ap (λ o. both more o (decoded (decode_pairs (i + 2) ds))) (pair_is a b i)
    ∙ ap (both more (hex_byte a b)) (pairs_are (i + 2) ds)

odd : (ds : List ℕ) → length ds % 2 ≡ 1 → hex_bytes ds ≡ None
odd [] h = absurd (omega arith)
odd (a ∷ []) h = refl
odd (a ∷ b ∷ ds) h = ap (both (λ x xs. x ∷ xs) (hex_byte a b)) (odd ds (omega arith)) ∙ none_after _ (hex_byte a b)

sized_are : (ds : List ℕ) (n : ℕ) → n ≡ length ds / 2 → decoded (decode_sized ds n) ≡ hex_bytes ds
sized_are ds n e =
    cond_both (length ds % 2 == 1) (Err FromHexError.OddLength) _ (λ r. decoded r ≡ hex_bytes ds)
    (λ t. sym (odd ds (eqb-true _ _ t)))
    (λ t. cond_both (length ds / 2 == n) (decode_pairs 0 ds) (Err FromHexError.InvalidStringLength) (λ r. decoded r ≡ hex_bytes ds) (λ u. pairs_are 0 ds) (λ u. absurd (eqb-false _ _ u (sym e))))

prefixed : (w : List ℕ) → pointwise eqb (take 2 w) (48 ∷ 120 ∷ []) ≡ true → is_hex w ≡ true
prefixed [] h = grind arith
prefixed (a ∷ []) h = grind arith
prefixed (a ∷ b ∷ bs) h = grind arith

-- what is decoded of the digits after `0x` is what the word writes
pub whole : (w ds : List ℕ) (n : ℕ) → pointwise eqb (take 2 w) (48 ∷ 120 ∷ []) ≡ true → ds ≡ drop 2 w → n ≡ length ds / 2 → decoded (decode_sized ds n) ≡ unhexed w
whole w ds n t e h = sized_are ds n h ∙ ap hex_bytes e ∙ sym (cond-true (is_hex w) (hex_bytes (drop 2 w)) None (prefixed w t))

-- what is kept of an answer of the decoder is what it decoded
pub answered : {V : Type 0} (f : V → List ℕ) (d : Result (List ℕ) FromHexError) (r : Result (Unit {0}) FromHexError) (m : Option V) (out : List ℕ) (P : Unit {0} → V → Type 0) → MatchResult d (λ bytes. (r ≡ Ok tt) × (out ≡ bytes)) (λ e. r ≡ Err e) → MatchOption (result_ok r) (m ≡ None) (λ x. IsSomeAnd m (P x)) → ((x : Unit {0}) (v : V) → P x v → f v ≡ out) → option_map f m ≡ decoded d
answered f (Ok bytes) (Ok x) None out P h g is = absurd g
answered f (Ok bytes) (Ok x) (Some v) out P h g is = ap Some (is x v g ∙ h.1)
answered f (Ok bytes) (Err e) m out P h g is = grind (arith, h.0)
answered f (Err e) (Ok x) m out P h g is = grind (arith, h)
answered f (Err e) (Err d) m out P h g is = rw g refl

-- the bytes that are done, before those of the digits to come
abbrev pub joined : List ℕ → Option (List ℕ) → Option (List ℕ)
joined xs o = option_map (λ ys. xs ++ ys) o

joined_more : (xs : List ℕ) (x : ℕ) (o : Option (List ℕ)) → joined xs (both (λ y ys. y ∷ ys) (Some x) o) ≡ joined (xs ++ x ∷ []) o
joined_more xs x None = refl
joined_more xs x (Some ys) = ap Some (sym (append_assoc xs (x ∷ []) ys))

-- two digits to a byte
abbrev Paired : List ℕ → Option (List ℕ) → Type 0
Paired ds None = Unit {0}
Paired ds (Some bs) = length ds ≡ 2 * length bs

paired_more : (a b : ℕ) (ds : List ℕ) (x : Option ℕ) (o : Option (List ℕ)) → Paired ds o → Paired (a ∷ b ∷ ds) (both (λ y ys. y ∷ ys) x o)
paired_more a b ds None o h = tt
paired_more a b ds (Some x) None h = tt
paired_more a b ds (Some x) (Some bs) h = omega arith

-- digits are pairs of hexadecimal digits just where pairs of them write bytes
both_some : {X Y Z : Type 0} (f : X → Y → Z) (o : Option X) (p : Option Y) → is_some (both f o p) ≡ (is_some o && is_some p)
both_some f None p = refl
both_some f (Some x) None = refl
both_some f (Some x) (Some y) = refl

and_pairs : (e a b c : Bool) → (e && (a && (b && c))) ≡ ((a && b) && (e && c))
and_pairs true true b c = refl
and_pairs true false b c = refl
and_pairs false true true c = refl
and_pairs false true false c = refl
and_pairs false false b c = refl

pub are_pairs : (ds : List ℕ) → ((length ds % 2 == 0) && list_all is_hex_digit ds) ≡ is_some (hex_bytes ds)
are_pairs [] = refl
are_pairs (a ∷ []) = refl
are_pairs (a ∷ b ∷ ds) =
    let more : ℕ → List ℕ → List ℕ = λ x xs. x ∷ xs in
    let byte : ℕ → ℕ → ℕ = λ h l. h * 16 + l in
    let even : length (a ∷ b ∷ ds) % 2 ≡ length ds % 2 = omega arith in
    ap (λ n. (n == 0) && list_all is_hex_digit (a ∷ b ∷ ds)) even
    ∙ and_pairs (length ds % 2 == 0) (is_hex_digit a) (is_hex_digit b) (list_all is_hex_digit ds)
    ∙ ap (λ e. (is_hex_digit a && is_hex_digit b) && e) (are_pairs ds)
    ∙ ap (λ e. e && is_some (hex_bytes ds)) (sym (both_some byte (hex_digit a) (hex_digit b)))
    ∙ sym (both_some more (hex_byte a b) (hex_bytes ds))

pub even_pairs : (ds : List ℕ) → length ds % 2 ≡ 0 → list_all is_hex_digit ds ≡ is_some (hex_bytes ds)
even_pairs ds h = ap (λ n. (n == 0) && list_all is_hex_digit ds) (sym h) ∙ are_pairs ds

pub odd_pairs : (ds : List ℕ) → length ds % 2 ≡ 1 → (length ds % 2 == 0) ≡ is_some (hex_bytes ds)
odd_pairs ds h = ap (λ n. n == 0) h ∙ ap is_some (sym (odd ds h))

none_is : (o : Option (List ℕ)) → is_some o ≡ false → o ≡ None
none_is None h = refl
none_is (Some x) h = absurd (grind (arith, h))

-- a word whose digits are no pairs writes no bytes
pub unpaired : (w ds : List ℕ) → pointwise eqb (take 2 w) (48 ∷ 120 ∷ []) ≡ true → ds ≡ drop 2 w → is_some (hex_bytes ds) ≡ false → None ≡ unhexed w
unpaired w ds t e h = sym (none_is (hex_bytes ds) h) ∙ ap hex_bytes e ∙ sym (cond-true (is_hex w) (hex_bytes (drop 2 w)) None (prefixed w t))
