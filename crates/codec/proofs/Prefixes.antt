-- Bytes that begin as an accepted record does: they are accepted too, or they are cut.
use Rattle.std.proofs.Common.{◌≡◌, ℕ, zero, suc, ◌+◌, ◌*◌, ◌<◌, ◌≤◌, cond, ltb, List, [], ◌++◌, length, get_or, take, drop, Ok, Err, Result, sym, ap, ◌∙◌, inl, inr, ⊎_elim, arith}
use Rattle.std.proofs.lemmas.List.{drop-take, take_all, take-take, take-append-le, length-append, length-take, length-take-le}
use Rattle.std.proofs.lemmas.Bool.{cases_lt, cond-true, cond-false, lt-ltb, le-ltb}
use Rattle.filing.specs.Checks.{adding}
use Rattle.filing.specs.Filing.{FilingFields}
use Rattle.filing.specs.Told.{Told}
use Rattle.codec.specs.Fields.{line_of}
use Rattle.codec.specs.ReadFaults.{cut}
use Rattle.codec.specs.Numbers.{number}
use Rattle.codec.specs.Reading.{and_then, part, opening, schema, headed, counted, lined, head_at, count_at, body, reading}
use Rattle.codec.specs.Table.{heads, head_codes, line_codes}
use Rattle.codec.proofs.Inverting.{Accepted, accepted, err_ok, ok_inj, then_inv, part_inv, part_there, schema_row}
use Rattle.codec.proofs.Steps.{then_ok, then_err}

-- the first n bytes are those of bs, as far as there are any
abbrev Agrees : ℕ → List ℕ → List ℕ → Type 0
Agrees n bs cs = (e : ℕ) → e ≤ n → e ≤ length cs → take e cs ≡ take e bs

-- an answer that wants the first e of w bytes
abbrev up_to : {X : Type 0} → ℕ → ℕ → X → Result X Told
up_to w e x = cond (ltb w e) (Err (cut w)) (Ok x)

up_cut : {X : Type 0} (w e : ℕ) (x : X) → w < e → up_to w e x ≡ Err (cut w)
up_cut w e x h = cond-true _ _ _ (lt-ltb w e h)

up_there : {X : Type 0} (w e : ℕ) (x : X) → e ≤ w → up_to w e x ≡ Ok x
up_there w e x h = cond-false _ _ _ (le-ltb w e h)

then_up : {X Y : Type 0} (w e m : ℕ) (x : X) (y : Y) (r : Result X Told) (k : X → Result Y Told) → r ≡ up_to w e x → e ≤ m → (e ≤ w → k x ≡ up_to w m y) → and_then r k ≡ up_to w m y
then_up w e m x y r k h l g =
    elim (cases_lt w e) [
      | inl c ↦ then_err k (h ∙ up_cut w e x c) ∙ sym (up_cut w m y (omega arith))
      | inr c ↦ then_ok k (h ∙ up_there w e x c) ∙ g c
    ]

part_up : (n at size : ℕ) (bs cs b : List ℕ) → Agrees n bs cs → at + size ≤ n → part at size bs ≡ Ok b → part at size cs ≡ up_to (length cs) (at + size) b
part_up n at size bs cs b a l h =
    let p = part_inv at size bs b h in
    elim (cases_lt (length cs) (at + size)) [
      | inl c ↦ cond-true _ _ _ (lt-ltb (length cs) (at + size) c) ∙ sym (up_cut (length cs) (at + size) b c)
      | inr c ↦
          part_there at size cs c
          ∙ ap (λ x. Ok x) (sym (drop-take at size cs) ∙ ap (drop at) (a (at + size) l c) ∙ drop-take at size bs ∙ p.1)
          ∙ sym (up_there (length cs) (at + size) b c)
    ]

-- lines end no earlier than they begin
lined_ends : (codes : List ℕ) (k at : ℕ) (bs : List ℕ) (f : FilingFields) (r : ℕ × FilingFields) → lined codes k at bs f ≡ Ok r → at ≤ r.0
lined_ends codes zero at bs f r h = let e : at ≡ r.0 = ap (λ (x : ℕ × FilingFields). x.0) (ok_inj h) in omega arith
lined_ends codes (suc k) at bs f r h =
    let a = then_inv (part at (8 * length codes) bs) _ r h in
    let b = then_inv (adding f (line_of codes a.0)) _ r a.2 in
    omega (arith, lined_ends codes k (at + 8 * length codes) bs b.0 r b.2)

lined_up : (n : ℕ) (bs cs : List ℕ) → Agrees n bs cs → (codes : List ℕ) (k at : ℕ) (f : FilingFields) (r : ℕ × FilingFields) → r.0 ≤ n → at ≤ length cs → lined codes k at bs f ≡ Ok r → lined codes k at cs f ≡ up_to (length cs) r.0 r
lined_up n bs cs a codes zero at f r l w h =
    let e : (at, f) ≡ r = ok_inj h in
    let m : r.0 ≤ length cs = omega (arith, ap (λ (x : ℕ × FilingFields). x.0) e) in
    ap (λ x. Ok x) e ∙ sym (up_there (length cs) r.0 r m)
lined_up n bs cs a codes (suc k) at f r l w h =
    let p = then_inv (part at (8 * length codes) bs) _ r h in
    let q = then_inv (adding f (line_of codes p.0)) _ r p.2 in
    let m = lined_ends codes k (at + 8 * length codes) bs q.0 r q.2 in
    then_up (length cs) (at + 8 * length codes) r.0 p.0 r _ _ (part_up n at (8 * length codes) bs cs p.0 a (omega arith) p.1) m
    (λ there. then_ok _ q.1 ∙ lined_up n bs cs a codes k (at + 8 * length codes) q.0 r l there q.2)

module _ (bs cs : List ℕ) (x : ℕ × ℕ × FilingFields) (agrees : Agrees x.0 bs cs) (a : Accepted bs x) where
  abbrev w : ℕ
  w = length cs

  abbrev row : List ℕ
  row = a.row

  ends : count_at row + 1 ≤ x.0
  ends = lined_ends (line_codes row) a.many (count_at row + 1) bs a.start (x.0, x.2) a.rest

  schema_ends : 6 + get_or a.count 0 0 ≤ head_at row
  schema_ends = omega (arith, (schema_row bs x a).1)

  head_ends : head_at row + 8 * length (head_codes row) ≤ count_at row
  head_ends = omega (arith, length-take (heads row) row)

  opening_up : opening cs ≡ up_to w 5 (number a.version)
  opening_up =
      then_up w 3 5 a.mark _ _ _ (part_up x.0 0 3 bs cs a.mark agrees (omega (arith, ends)) a.mark_is) (omega arith) (λ _.
      then_ok _ a.mark_good
      ∙ then_up w 5 5 a.version _ _ _ (part_up x.0 3 2 bs cs a.version agrees (omega (arith, ends)) a.version_is) (omega arith) (λ there. sym (up_there w 5 _ there)))

  schema_up : schema row cs ≡ up_to w (6 + get_or a.count 0 0) tt
  schema_up =
      then_up w 6 (6 + get_or a.count 0 0) a.count _ _ _ (part_up x.0 5 1 bs cs a.count agrees (omega (arith, ends)) a.count_is) (omega arith) (λ _.
      then_up w (6 + get_or a.count 0 0) (6 + get_or a.count 0 0) a.codes _ _ _ (part_up x.0 6 (get_or a.count 0 0) bs cs a.codes agrees (omega (arith, ends, schema_ends)) a.codes_is) (omega arith) (λ there.
      a.codes_good ∙ sym (up_there w (6 + get_or a.count 0 0) tt there)))

  headed_up : headed (head_codes row) (head_at row) cs ≡ up_to w (head_at row + 8 * length (head_codes row)) a.start
  headed_up =
      then_up w (head_at row + 8 * length (head_codes row)) (head_at row + 8 * length (head_codes row)) a.head _ _ _
      (part_up x.0 (head_at row) (8 * length (head_codes row)) bs cs a.head agrees (omega (arith, ends, head_ends)) a.head_is) (omega arith) (λ there.
      a.head_good ∙ sym (up_there w (head_at row + 8 * length (head_codes row)) a.start there))

  counted_up : counted (count_at row) cs ≡ up_to w (count_at row + 1) a.many
  counted_up =
      then_up w (count_at row + 1) (count_at row + 1) a.lines _ _ _ (part_up x.0 (count_at row) 1 bs cs a.lines agrees ends a.lines_is) (omega arith) (λ there.
      a.lines_good ∙ sym (up_there w (count_at row + 1) a.many there))

  body_up : body row cs ≡ up_to w x.0 (x.0, x.2)
  body_up =
      then_up w (head_at row + 8 * length (head_codes row)) x.0 a.start _ _ _ headed_up (omega (arith, ends, head_ends)) (λ _.
      then_up w (count_at row + 1) x.0 a.many _ _ _ counted_up ends (λ there.
      lined_up x.0 bs cs agrees (line_codes row) a.many (count_at row + 1) a.start (x.0, x.2) (omega arith) there a.rest))

  whole_up : reading cs ≡ up_to w x.0 x
  whole_up =
      then_up w 5 x.0 (number a.version) _ _ _ opening_up (omega (arith, ends)) (λ _.
      then_ok _ a.row_is
      ∙ then_up w (6 + get_or a.count 0 0) x.0 tt _ _ _ schema_up (omega (arith, ends, schema_ends)) (λ _.
      then_up w x.0 x.0 (x.0, x.2) _ _ _ body_up (omega arith) (λ there.
      ap (λ v. Ok (x.0, v, x.2)) a.version_good ∙ sym (up_there w x.0 x there))))

lined_there : (codes : List ℕ) (k at : ℕ) (bs : List ℕ) (f : FilingFields) (r : ℕ × FilingFields) → at ≤ length bs → lined codes k at bs f ≡ Ok r → r.0 ≤ length bs
lined_there codes zero at bs f r l h = let e : at ≡ r.0 = ap (λ (x : ℕ × FilingFields). x.0) (ok_inj h) in omega arith
lined_there codes (suc k) at bs f r l h =
    let a = then_inv (part at (8 * length codes) bs) _ r h in
    let b = then_inv (adding f (line_of codes a.0)) _ r a.2 in
    lined_there codes k (at + 8 * length codes) bs b.0 r (part_inv at (8 * length codes) bs a.0 a.1).0 b.2

used_there : (bs : List ℕ) (x : ℕ × ℕ × FilingFields) → Accepted bs x → x.0 ≤ length bs
used_there bs x a = lined_there (line_codes a.row) a.many (count_at a.row + 1) bs a.start (x.0, x.2) (part_inv (count_at a.row) 1 bs a.lines a.lines_is).0 a.rest

-- bytes after the record change nothing
pub followed : (bs : List ℕ) (x : ℕ × ℕ × FilingFields) → reading bs ≡ Ok x → (rest : List ℕ) → reading (take x.0 bs ++ rest) ≡ Ok x
followed bs x h rest =
    let n : ℕ = x.0 in
    let l = used_there bs x (accepted bs x h) in
    let t : length (take n bs) ≡ n = length-take-le n bs l in
    whole_up bs (take n bs ++ rest) x (λ e k _. take-append-le e (take n bs) rest (omega arith) ∙ take-take e n bs k) (accepted bs x h)
    ∙ up_there (length (take n bs ++ rest)) n x (omega (arith, length-append (take n bs) rest))

-- a proper beginning of a record is cut
pub beginning : (bs : List ℕ) (x : ℕ × ℕ × FilingFields) → reading bs ≡ Ok x → (k : ℕ) → k < x.0 → reading (take k bs) ≡ Err (cut k)
beginning bs x h k less =
    let l = used_there bs x (accepted bs x h) in
    let t : length (take k bs) ≡ k = length-take-le k bs (omega arith) in
    whole_up bs (take k bs) x (λ e _ m. take-take e k bs (omega arith)) (accepted bs x h)
    ∙ up_cut (length (take k bs)) x.0 x (omega arith)
    ∙ ap (λ n. Err (cut n)) t

-- a record has some bytes, and no more than there are
pub within : (bs : List ℕ) (x : ℕ × ℕ × FilingFields) → reading bs ≡ Ok x → (0 < x.0) × (x.0 ≤ length bs)
within bs x h = (
  ⊎_elim
      (λ (l : 0 < x.0). l)
      (λ (l : x.0 ≤ 0).
      absurd
      (let none : x.0 ≡ 0 = omega arith in
      err_ok (ap (λ k. reading (take k bs ++ [])) (sym none) ∙ followed bs x h [])))
      (cases_lt 0 x.0),
  ⊎_elim
      (λ (l : length bs < x.0). absurd (err_ok (sym (beginning bs x h (length bs) l) ∙ ap reading (take_all (length bs) bs (omega arith)) ∙ h)))
      (λ (l : x.0 ≤ length bs). l)
      (cases_lt (length bs) x.0),
)
