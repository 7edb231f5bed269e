-- What an accepted record has gone through.
use Rattle.std.proofs.Common.{◌≡◌, ℕ, ◌+◌, ◌*◌, ◌≤◌, Bool, true, false, cond, ltb, List, length, get_or, take, drop, Some, None, Ok, Err, Option, Result, sym, refl, ap, ◌∙◌, arith}
use Rattle.std.proofs.lemmas.List.{length-take-le, length-drop}
use Rattle.std.proofs.lemmas.Bool.{ltb-false, le-ltb, cond-false}
use Rattle.filing.specs.Checks.{heading}
use Rattle.filing.specs.Filing.{FilingFields, blank}
use Rattle.codec.specs.Fields.{head_of}
use Rattle.codec.specs.Numbers.{number}
use Rattle.codec.specs.ReadFaults.{cut}
use Rattle.codec.specs.Reading.{and_then, part, marked, opening, known, matching, schema, headed, few_lines, counted, lined, head_at, count_at, body, reading}
use Rattle.codec.specs.Table.{row_of, head_codes, line_codes, first_off}
use Rattle.codec.proofs.Schemas.{off_none}

pub err_ok : {X E : Type 0} {x : X} {e : E} → ◌≡◌ {A = Result X E} (Err e) (Ok x) → ⊥
err_ok h = grind arith

pub ok_err : {X E : Type 0} {x : X} {e : E} → ◌≡◌ {A = Result X E} (Ok x) (Err e) → ⊥
ok_err h = grind arith

pub ok_inj : {X E : Type 0} {x y : X} → ◌≡◌ {A = Result X E} (Ok x) (Ok y) → x ≡ y
ok_inj h = cc

pub err_inj : {X E : Type 0} {d e : E} → ◌≡◌ {A = Result X E} (Err d) (Err e) → d ≡ e
err_inj h = cc

pub then_inv : {X Y E : Type 0} (r : Result X E) (k : X → Result Y E) (y : Y) → and_then r k ≡ Ok y → (x : X) × (r ≡ Ok x) × (k x ≡ Ok y)
then_inv (Ok x) k y h = (x, refl, h)
then_inv (Err e) k y h = absurd (err_ok h)

pub cond_ok : {X E : Type 0} (b : Bool) (e : E) (r : Result X E) (y : X) → cond b (Err e) r ≡ Ok y → (b ≡ false) × (r ≡ Ok y)
cond_ok true e r y h = absurd (err_ok h)
cond_ok false e r y h = (refl, h)

pub cond_ok' : {X E : Type 0} (b : Bool) (e : E) (r : Result X E) (y : X) → cond b r (Err e) ≡ Ok y → (b ≡ true) × (r ≡ Ok y)
cond_ok' true e r y h = (refl, h)
cond_ok' false e r y h = absurd (err_ok h)

-- a part that is there
pub part_inv : (at size : ℕ) (bs b : List ℕ) → part at size bs ≡ Ok b → (at + size ≤ length bs) × (take size (drop at bs) ≡ b)
part_inv at size bs b h =
    let c = cond_ok (ltb (length bs) (at + size)) (cut (length bs)) (Ok (take size (drop at bs))) b h in
    (ltb-false (length bs) (at + size) c.0, ok_inj c.1)

pub part_there : (at size : ℕ) (bs : List ℕ) → at + size ≤ length bs → part at size bs ≡ Ok (take size (drop at bs))
part_there at size bs h = cond-false _ _ _ (le-ltb (length bs) (at + size) h)

pub part_length : (at size : ℕ) (bs b : List ℕ) → part at size bs ≡ Ok b → size ≡ length b
part_length at size bs b h =
    let p = part_inv at size bs b h in
    sym (length-take-le size (drop at bs) (omega (arith, length-drop at bs, p.0))) ∙ ap length p.1

-- an accepted record's parts, and what each of them gave
pub record Accepted (bs : List ℕ) (x : ℕ × ℕ × FilingFields) : Type 0 where
  pub mark : List ℕ
  pub mark_is : part 0 3 bs ≡ Ok mark
  pub mark_good : marked mark ≡ Ok tt
  pub version : List ℕ
  pub version_is : part 3 2 bs ≡ Ok version
  pub version_good : number version ≡ x.1
  pub row : List ℕ
  pub row_is : known (row_of (number version)) ≡ Ok row
  pub count : List ℕ
  pub count_is : part 5 1 bs ≡ Ok count
  pub codes : List ℕ
  pub codes_is : part 6 (get_or count 0 0) bs ≡ Ok codes
  pub codes_good : matching (first_off 1 codes row) ≡ Ok tt
  pub head : List ℕ
  pub head_is : part (head_at row) (8 * length (head_codes row)) bs ≡ Ok head
  pub start : FilingFields
  pub head_good : heading blank (head_of (head_codes row) head) ≡ Ok start
  pub lines : List ℕ
  pub lines_is : part (count_at row) 1 bs ≡ Ok lines
  pub many : ℕ
  pub lines_good : few_lines (get_or lines 0 0) ≡ Ok many
  pub rest : lined (line_codes row) many (count_at row + 1) bs start ≡ Ok (x.0, x.2)

pub accepted : (bs : List ℕ) (x : ℕ × ℕ × FilingFields) → reading bs ≡ Ok x → Accepted bs x
accepted bs x h =
    let a = then_inv (opening bs) _ x h in
    let b = then_inv (known (row_of a.0)) _ x a.2 in
    let c = then_inv (schema b.0 bs) _ x b.2 in
    let d = then_inv (body b.0 bs) _ x c.2 in
    let e : (d.0.0, a.0, d.0.1) ≡ x = ok_inj d.2 in
    let a1 = then_inv (part 0 3 bs) _ a.0 a.1 in
    let a2 = then_inv (marked a1.0) _ a.0 a1.2 in
    let a3 = then_inv (part 3 2 bs) _ a.0 a2.2 in
    let v : number a3.0 ≡ a.0 = ok_inj a3.2 in
    let c1 = then_inv (part 5 1 bs) _ c.0 c.1 in
    let c2 = then_inv (part 6 (get_or c1.0 0 0) bs) _ c.0 c1.2 in
    let d1 = then_inv (headed (head_codes b.0) (head_at b.0) bs) _ d.0 d.1 in
    let d2 = then_inv (counted (count_at b.0) bs) _ d.0 d1.2 in
    let h1 = then_inv (part (head_at b.0) (8 * length (head_codes b.0)) bs) _ d1.0 d1.1 in
    let h2 = then_inv (part (count_at b.0) 1 bs) _ d2.0 d2.1 in
    record {
      mark = a1.0;
      mark_is = a1.1;
      mark_good = a2.1;
      version = a3.0;
      version_is = a3.1;
      version_good = v ∙ ap (λ (y : ℕ × ℕ × FilingFields). y.1) e;
      row = b.0;
      row_is = ap (λ n. known (row_of n)) v ∙ b.1;
      count = c1.0;
      count_is = c1.1;
      codes = c2.0;
      codes_is = c2.1;
      codes_good = c2.2;
      head = h1.0;
      head_is = h1.1;
      start = d1.0;
      head_good = h1.2;
      lines = h2.0;
      lines_is = h2.1;
      many = d2.0;
      lines_good = h2.2;
      rest = d2.2 ∙ ap (λ (y : ℕ × ℕ × FilingFields). Ok (y.0, y.2)) e;
    }

matching_inv : (o : Option ℕ) → matching o ≡ Ok tt → o ≡ None
matching_inv None h = refl
matching_inv (Some n) h = absurd (err_ok h)

-- the schema of an accepted record is the row, and its count is the row's length
pub schema_row : (bs : List ℕ) (x : ℕ × ℕ × FilingFields) (a : Accepted bs x) → (a.codes ≡ a.row) × (get_or a.count 0 0 ≡ length a.row)
schema_row bs x a =
    let e = off_none 1 a.codes a.row (matching_inv (first_off 1 a.codes a.row) a.codes_good) in
    (e, part_length 6 (get_or a.count 0 0) bs a.codes a.codes_is ∙ ap length e)
