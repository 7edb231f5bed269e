-- An accepted record's schema is its version's row; a schema that is refused differs at the line that is told.
use Rattle.std.proofs.Common.{◌≡◌, ℕ, zero, suc, ◌+◌, ◌-◌, ◌<◌, ◌≤◌, eqb, List, [], ◌∷◌, length, get_or, take, drop, Some, None, Ok, Err, Option, sym, refl, ap, ◌∙◌, subst, inl, inr, arith}
use Rattle.std.proofs.lemmas.List.{get_or-take, get_or-drop}
use Rattle.std.proofs.lemmas.Option.{none-some, same_Some}
use Rattle.std.proofs.lemmas.Bool.{cases_Bool, cond-true, cond-false, eqb-true, eqb-false}
use Rattle.filing.specs.Filing.{FilingFields}
use Rattle.filing.specs.Told.{Told, Name, refusal, line}
use Rattle.codec.specs.Laws.{version_in, schema_in, line_at, Matches, Differs}
use Rattle.codec.specs.Numbers.{number}
use Rattle.codec.specs.Reading.{part, marked, opening, known, matching, schema, body, reading}
use Rattle.codec.specs.Table.{row_of, first_off}
use Rattle.codec.proofs.Bytes.{number_two}
use Rattle.codec.proofs.Inverting.{accepted, err_ok, ok_err, ok_inj, err_inj, then_inv, part_inv, schema_row}
use Rattle.codec.proofs.Schemas.{some_none}
use Rattle.codec.proofs.Numbered.{never_ok, never_then, never_part, never_opening, never_known, never_body, then_four, four_then}

-- the version and the schema, once they are there
count_of : (bs count : List ℕ) → part 5 1 bs ≡ Ok count → get_or count 0 0 ≡ get_or bs 5 0
count_of bs count h = ap (λ t. get_or t 0 0) (sym (part_inv 5 1 bs count h).1) ∙ get_or-take 1 (drop 5 bs) 0 0 (omega arith) ∙ get_or-drop 5 bs 0 0

schema_of : (bs count codes : List ℕ) → part 5 1 bs ≡ Ok count → part 6 (get_or count 0 0) bs ≡ Ok codes → (6 + get_or bs 5 0 ≤ length bs) × (codes ≡ schema_in bs)
schema_of bs count codes h k =
    let n = count_of bs count h in
    let p = part_inv 6 (get_or count 0 0) bs codes k in
    (omega arith, sym p.1 ∙ ap (λ m. take m (drop 6 bs)) n)

version_of : (bs version : List ℕ) → part 3 2 bs ≡ Ok version → number version ≡ version_in bs
version_of bs version h = let p = part_inv 3 2 bs version h in ap number (sym p.1) ∙ number_two bs 3 p.0

known_is : (o : Option (List ℕ)) (row : List ℕ) → known o ≡ Ok row → o ≡ Some row
known_is None row h = absurd (err_ok h)
known_is (Some r) row h = ap (λ x. Some x) (ok_inj h)

some_inj : {X : Type 0} {x y : X} → Some x ≡ Some y → x ≡ y
some_inj h = same_Some _ _ h

none_some : {X : Type 0} {x : X} → None ≡ Some x → ⊥
none_some {x = x} h = none-some x h

-- line i of the schema and of the row, where the first line has the number m, up to line n that differs
record OffAt (m n : ℕ) (ss rs : List ℕ) : Type 0 where
  counted : m ≤ n
  before : (i : ℕ) → i + m < n → line_at ss i ≡ line_at rs i
  there : line_at ss (n - m) ≡ line_at rs (n - m) → ⊥

off_here : (m n : ℕ) (ss rs : List ℕ) → m ≡ n → (line_at ss 0 ≡ line_at rs 0 → ⊥) → OffAt m n ss rs
off_here m n ss rs e h =
    let z : n - m ≡ 0 = omega arith in
    record { counted = omega arith; before = λ i l. absurd (omega arith); there = λ g. h (subst (λ (k : ℕ). line_at ss k ≡ line_at rs k) z g) }

before_more : (m n s r : ℕ) (ss rs : List ℕ) → s ≡ r → OffAt (m + 1) n ss rs → (i : ℕ) → i + m < n → line_at (s ∷ ss) i ≡ line_at (r ∷ rs) i
before_more m n s r ss rs e p zero l = ap (λ x. Some x) e
before_more m n s r ss rs e p (suc i) l = p.before i (omega arith)

abbrev first_value : List (Name × ℕ) → ℕ
first_value [] = 0
first_value (v ∷ vs) = v.1

matching_line : (o : Option ℕ) (n : ℕ) → matching o ≡ Err (refusal 4 ((line, n) ∷ [])) → o ≡ Some n
matching_line None n h = absurd (ok_err h)
matching_line (Some m) n h = ap (λ (t : Told). Some (first_value t.values)) (err_inj h)

first_off_at : (m n : ℕ) (ss rs : List ℕ) → first_off m ss rs ≡ Some n → OffAt m n ss rs
first_off_at m n [] [] h = absurd (none_some h)
first_off_at m n [] (r ∷ rs) h = off_here m n [] (r ∷ rs) (some_inj h) none_some
first_off_at m n (s ∷ ss) [] h = off_here m n (s ∷ ss) [] (some_inj h) some_none
first_off_at m n (s ∷ ss) (r ∷ rs) h =
    elim (cases_Bool (eqb s r)) [
      | inl b ↦
          let p = first_off_at (m + 1) n ss rs (sym (cond-true (eqb s r) (first_off (m + 1) ss rs) (Some m) b) ∙ h) in
          let e : s ≡ r = eqb-true s r b in
          let c : m + 1 ≤ n = p.counted in
          let z : n - m ≡ suc (n - (m + 1)) = omega arith in
          record {
            counted = omega arith;
            before = before_more m n s r ss rs e p;
            there = λ g. p.there (subst (λ (k : ℕ). line_at (s ∷ ss) k ≡ line_at (r ∷ rs) k) z g);
          }
      | inr b ↦ off_here m n (s ∷ ss) (r ∷ rs) (some_inj (sym (cond-false (eqb s r) (first_off (m + 1) ss rs) (Some m) b) ∙ h)) (λ g. eqb-false s r b (some_inj g))
    ]

-- a schema that is refused
schema_differs : (bs row : List ℕ) (n : ℕ) → schema row bs ≡ Err (refusal 4 ((line, n) ∷ [])) → (6 + get_or bs 5 0 ≤ length bs) × OffAt 1 n (schema_in bs) row
schema_differs bs row n h =
    let t : Told = refusal 4 ((line, n) ∷ []) in
    let a = then_four (part 5 1 bs) _ t (never_part 5 1 bs) refl h in
    let b = then_four (part 6 (get_or a.0 0 0) bs) _ t (never_part 6 (get_or a.0 0 0) bs) refl a.2 in
    let s = schema_of bs a.0 b.0 a.1 b.1 in
    (s.0, first_off_at 1 n (schema_in bs) row (ap (λ codes. first_off 1 codes row) (sym s.1) ∙ matching_line (first_off 1 b.0 row) n b.2))

opening_version : (bs : List ℕ) (v : ℕ) → opening bs ≡ Ok v → version_in bs ≡ v
opening_version bs v h =
    let a = then_inv (part 0 3 bs) _ v h in
    let b = then_inv (marked a.0) _ v a.2 in
    let c = then_inv (part 3 2 bs) _ v b.2 in
    sym (version_of bs c.0 c.1) ∙ ok_inj c.2

pub differs : (bs : List ℕ) (n : ℕ) → reading bs ≡ Err (refusal 4 ((line, n) ∷ [])) → Differs bs n
differs bs n h =
    let t : Told = refusal 4 ((line, n) ∷ []) in
    let a = then_four (opening bs) _ t (never_opening bs) refl h in
    let v : ℕ = a.0 in
    let b = then_four (known (row_of v)) _ t (never_known (row_of v)) refl a.2 in
    let row : List ℕ = b.0 in
    let c = four_then (schema row bs) _ t (λ _. never_then (body row bs) _ (never_body row bs) (λ r. never_ok (r.0, v, r.1))) refl b.2 in
    let d = schema_differs bs row n c in
    record {
      row = row;
      is = ap row_of (opening_version bs v a.1) ∙ known_is (row_of v) row b.1;
      whole = d.0;
      counted = d.1.counted;
      before = d.1.before;
      there = d.1.there;
    }

pub matches : (bs : List ℕ) (x : ℕ × ℕ × FilingFields) → reading bs ≡ Ok x → Matches bs x.1
matches bs x h =
    let a = accepted bs x h in
    let s = schema_of bs a.count a.codes a.count_is a.codes_is in
    record {
      version = sym (version_of bs a.version a.version_is) ∙ a.version_good;
      row = a.row;
      is = ap row_of (sym a.version_good) ∙ known_is (row_of (number a.version)) a.row a.row_is;
      whole = s.0;
      lines = λ i. ap (λ codes. line_at codes i) (sym s.1 ∙ (schema_row bs x a).0);
    }
