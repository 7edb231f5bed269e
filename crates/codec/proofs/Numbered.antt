-- Only the schema is refused by the number 4.
use Rattle.std.proofs.Common.{◌≡◌, ℕ, zero, suc, ◌+◌, ◌*◌, Bool, true, false, cond, ltb, leb, List, [], ◌∷◌, length, get_or, take, drop, Some, None, Ok, Err, Option, Result, refl, ap, ◌∙◌, arith}
use Rattle.filing.specs.Checks.{most_lines, first, refused_if, out_of_range, no_kind, outside_of_kind, unless_refused, adding}
use Rattle.filing.specs.Emissions.{total}
use Rattle.filing.specs.Filing.{FilingFields, head_outside, among, attributed_sum}
use Rattle.filing.specs.Kinds.{kind_of}
use Rattle.filing.specs.Told.{Told, refusal, line}
use Rattle.filing.specs.declared.fields.LineFields.{LineFields}
use Rattle.filing.specs.declared.kinds.LineKind.{LineKind}
use Rattle.codec.specs.Fields.{head_of, line_of}
use Rattle.codec.specs.Numbers.{number}
use Rattle.codec.specs.ReadFaults.{cut}
use Rattle.codec.specs.Reading.{and_then, part, is_mark, marked, opening, known, headed, counted, lined, head_at, count_at, body}
use Rattle.codec.specs.Table.{head_codes, line_codes}
use Rattle.codec.proofs.Inverting.{ok_err, err_inj}

-- no refusal by 4
abbrev pub Never : {X : Type 0} → Result X Told → Type 0
Never r = (t : Told) → r ≡ Err t → t.number ≡ 4 → ⊥

pub never_ok : {X : Type 0} (x : X) → Never (Ok x)
never_ok x t h n = ok_err h

never_err : {X : Type 0} (d : Told) → (d.number ≡ 4 → ⊥) → Never {X = X} (Err d)
never_err d g t h n = g (ap (λ (s : Told). s.number) (err_inj h) ∙ n)

never_cond : {X : Type 0} (b : Bool) (r s : Result X Told) → Never r → Never s → Never (cond b r s)
never_cond true r s p q = p
never_cond false r s p q = q

pub never_then : {X Y : Type 0} (r : Result X Told) (k : X → Result Y Told) → Never r → ((x : X) → Never (k x)) → Never (and_then r k)
never_then (Ok x) k p q = q x
never_then (Err e) k p q = λ t h n. p t (ap (λ d. Err d) (err_inj h)) n

pub never_part : (at size : ℕ) (bs : List ℕ) → Never (part at size bs)
never_part at size bs = never_cond (ltb (length bs) (at + size)) _ _ (never_err (cut (length bs)) (λ h. omega arith)) (never_ok (take size (drop at bs)))

never_head : (o : Option ℕ) (b : Bool) (f : FilingFields) → Never (unless_refused (first (out_of_range o 0 ∷ refused_if b (refusal 9 []) ∷ [])) f)
never_head (Some c) b f = never_err _ (λ h. omega arith)
never_head None true f = never_err _ (λ h. omega arith)
never_head None false f = never_ok f

never_line : (full : Bool) (k : Option LineKind) (o : Option ℕ) (twice above : Bool) (n : ℕ) (f : FilingFields)
    → Never (unless_refused (first (refused_if full (refusal 7 []) ∷ no_kind k n ∷ out_of_range o n ∷ refused_if twice (refusal 8 ((line, n) ∷ [])) ∷ refused_if above (refusal 9 []) ∷ [])) f)
never_line true k o twice above n f = never_err _ (λ h. omega arith)
never_line false None o twice above n f = never_err _ (λ h. omega arith)
never_line false (Some k) (Some c) twice above n f = never_err _ (λ h. omega arith)
never_line false (Some k) None true above n f = never_err _ (λ h. omega arith)
never_line false (Some k) None false true n f = never_err _ (λ h. omega arith)
never_line false (Some k) None false false n f = never_ok f

never_adding : (f : FilingFields) (l : LineFields) → Never (adding f l)
never_adding f l = never_line (leb most_lines (length f.lines)) (kind_of l.kind) (outside_of_kind (kind_of l.kind) l) (among l f.lines) (ltb (total f.head) (attributed_sum f.lines + l.attributed)) (length f.lines + 1) _

never_lined : (codes : List ℕ) (k at : ℕ) (bs : List ℕ) (f : FilingFields) → Never (lined codes k at bs f)
never_lined codes zero at bs f = never_ok (at, f)
never_lined codes (suc k) at bs f =
    never_then (part at (8 * length codes) bs) _ (never_part at (8 * length codes) bs) (λ b.
    never_then (adding f (line_of codes b)) _ (never_adding f (line_of codes b)) (λ g.
    never_lined codes k (at + 8 * length codes) bs g))

pub never_body : (row bs : List ℕ) → Never (body row bs)
never_body row bs =
    never_then (headed (head_codes row) (head_at row) bs) _
    (never_then (part (head_at row) (8 * length (head_codes row)) bs) _ (never_part (head_at row) (8 * length (head_codes row)) bs) (λ b. never_head (head_outside (head_of (head_codes row) b)) (ltb (total (head_of (head_codes row) b)) 0) _)) (λ f.
    never_then (counted (count_at row) bs) _
    (never_then (part (count_at row) 1 bs) _ (never_part (count_at row) 1 bs) (λ n. never_cond (ltb most_lines (get_or n 0 0)) _ _ (never_err (refusal 7 []) (λ h. omega arith)) (never_ok (get_or n 0 0)))) (λ n.
    never_lined (line_codes row) n (count_at row + 1) bs f))

pub never_opening : (bs : List ℕ) → Never (opening bs)
never_opening bs =
    never_then (part 0 3 bs) _ (never_part 0 3 bs) (λ m.
    never_then (marked m) _ (never_cond (is_mark m) (Ok tt) (Err (refusal 2 [])) (never_ok tt) (never_err (refusal 2 []) (λ h. omega arith))) (λ _.
    never_then (part 3 2 bs) _ (never_part 3 2 bs) (λ v. never_ok (number v))))

pub never_known : (o : Option (List ℕ)) → Never (known o)
never_known None = never_err (refusal 3 []) (λ h. omega arith)
never_known (Some row) = never_ok row

-- a refusal by 4 comes from the link that can give it
pub then_four : {X Y : Type 0} (r : Result X Told) (k : X → Result Y Told) (t : Told) → Never r → t.number ≡ 4 → and_then r k ≡ Err t → (x : X) × (r ≡ Ok x) × (k x ≡ Err t)
then_four (Ok x) k t never n h = (x, refl, h)
then_four (Err e) k t never n h = absurd (never t (ap (λ d. Err d) (err_inj h)) n)

pub four_then : {X Y : Type 0} (r : Result X Told) (k : X → Result Y Told) (t : Told) → ((x : X) → Never (k x)) → t.number ≡ 4 → and_then r k ≡ Err t → r ≡ Err t
four_then (Ok x) k t never n h = absurd (never x t h n)
four_then (Err e) k t never n h = ap (λ d. Err d) (err_inj h)
