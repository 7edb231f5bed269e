-- The links of a body and the parts of a record, with the row split at the number n of the head's codes.
use Rattle.std.proofs.Common.{◌≡◌, ℕ, ◌+◌, ◌-◌, ◌*◌, ◌<◌, ◌≤◌, List, [], ◌∷◌, ◌++◌, length, take, drop, Ok, Err, Result, sym, refl, ap, ◌∙◌, zero-add, arith}
use native.Mathlib.Nat.{sub-zero}
use Rattle.std.specs.List.{flat_map}
use Rattle.std.proofs.lemmas.List.{append_assoc, length-append, length-take-le, length-drop, take_rest}
use Rattle.filing.specs.Checks.{adding}
use Rattle.filing.specs.Filing.{FilingFields}
use Rattle.filing.specs.Told.{Told}
use Rattle.codec.specs.Fields.{head_field, line_field, line_of}
use Rattle.codec.specs.Reading.{part, headed, counted, lined, body, head_at, count_at}
use Rattle.codec.specs.Table.{heads, head_codes, line_codes}
use Rattle.codec.specs.Writing.{pasted, field_bytes, line_bytes, opening_bytes, record_of}
use Rattle.codec.proofs.Pasting.{pasted_both, length_joined, length_fields}
use Rattle.codec.proofs.Steps.{then_ok, then_err, lined_cut as cut_after, lined_refused as refused_after, lined_more as more_after}

-- the line at the place `at`, of which n - i are left
module _ (codes : List ℕ) (n i at : ℕ) (bs : List ℕ) (f : FilingFields) (h : i < n) where
  pub lined_cut : (t : Told) → part at (8 * length codes) bs ≡ Err t → lined codes (n - i) at bs f ≡ Err t
  lined_cut t p = cut_after codes n i at (8 * length codes) bs f refl h t p

  pub lined_refused : (b : List ℕ) (t : Told) → part at (8 * length codes) bs ≡ Ok b → adding f (line_of codes b) ≡ Err t → lined codes (n - i) at bs f ≡ Err t
  lined_refused b t p a = refused_after codes n i at (8 * length codes) bs f refl h b t p a

  pub lined_more : (b : List ℕ) (g : FilingFields) → part at (8 * length codes) bs ≡ Ok b → adding f (line_of codes b) ≡ Ok g → lined codes (n - i) at bs f ≡ lined codes (n - (i + 1)) (at + 8 * length codes) bs g
  lined_more b g p a = more_after codes n i at (8 * length codes) bs f refl h b g (at + 8 * length codes) bs p a refl refl

-- the parts of the body, with the row split as the code splits it
module _ (row bs : List ℕ) (n : ℕ) (e : n ≡ heads row) where
  head_part : take (n - 0) row ≡ head_codes row
  head_part = ap (λ m. take m row) (sub-zero n ∙ e)

  line_part : take (length row - n) (drop n row) ≡ line_codes row
  line_part = take_rest row n ∙ ap (λ m. drop m row) e

  headed_at : headed (take (n - 0) row) (6 + length row) bs ≡ headed (head_codes row) (head_at row) bs
  headed_at = ap (λ cs. headed cs (head_at row) bs) head_part

  counted_at : counted (6 + length row + 8 * n) bs ≡ counted (count_at row) bs
  counted_at = ap (λ m. counted (head_at row + 8 * m) bs) e

  lined_at : (k : ℕ) (f : FilingFields) → lined (take (length row - n) (drop n row)) k (6 + length row + 8 * n + 1) bs f ≡ lined (line_codes row) k (count_at row + 1) bs f
  lined_at k f = ap (λ cs. lined cs k (6 + length row + 8 * n + 1) bs f) line_part ∙ ap (λ m. lined (line_codes row) k (head_at row + 8 * m + 1) bs f) e

  pub body_head : (t : Told) → headed (take (n - 0) row) (6 + length row) bs ≡ Err t → body row bs ≡ Err t
  body_head t h = then_err _ (sym headed_at ∙ h)

  pub body_count : (f : FilingFields) (t : Told) → headed (take (n - 0) row) (6 + length row) bs ≡ Ok f → counted (6 + length row + 8 * n) bs ≡ Err t → body row bs ≡ Err t
  body_count f t h k = then_ok _ (sym headed_at ∙ h) ∙ then_err _ (sym counted_at ∙ k)

  pub body_lines : (f : FilingFields) (k : ℕ) (r : Result (ℕ × FilingFields) Told) → headed (take (n - 0) row) (6 + length row) bs ≡ Ok f → counted (6 + length row + 8 * n) bs ≡ Ok k → lined (take (length row - n) (drop n row)) k (6 + length row + 8 * n + 1) bs f ≡ r → body row bs ≡ r
  body_lines f k r h c l = then_ok _ (sym headed_at ∙ h) ∙ then_ok _ (sym counted_at ∙ c) ∙ sym (lined_at k f) ∙ l

-- a record of four parts, with the row split as the code splits it
module _ (v : ℕ) (row : List ℕ) (f : FilingFields) (n : ℕ) (e : n ≡ heads row) (w : n ≤ length row) where
  abbrev size : ℕ
  size = 6 + length row + 8 * n + 1 + 8 * (length row - n) * length f.lines

  heading_is : field_bytes (take (n - 0) row) (head_field f.head) ≡ field_bytes (head_codes row) (head_field f.head)
  heading_is = ap (λ m. field_bytes (take m row) (head_field f.head)) (sub-zero n ∙ e)

  lines_are : flat_map (line_bytes (take (length row - n) (drop n row))) f.lines ≡ flat_map (line_bytes (line_codes row)) f.lines
  lines_are = ap (λ cs. flat_map (line_bytes cs) f.lines) (take_rest row n ∙ ap (λ m. drop m row) e)

  length_heading : length (field_bytes (head_codes row) (head_field f.head)) ≡ 8 * n
  length_heading = length_fields (head_codes row) (head_field f.head) ∙ ap (λ k. 8 * k) (length-take-le (heads row) row (omega arith) ∙ sym e)

  length_lines : length (flat_map (line_bytes (line_codes row)) f.lines) ≡ 8 * (length row - n) * length f.lines
  length_lines =
      length_joined (line_bytes (line_codes row)) (8 * length (line_codes row)) (λ l. length_fields (line_codes row) (line_field l)) f.lines
      ∙ ap (λ k. 8 * k * length f.lines) (length-drop (heads row) row ∙ ap (λ m. length row - m) (sym e))

  pub length_record : size ≡ length (record_of v row f)
  length_record =
      omega (
        arith,
        length_heading,
        length_lines,
        length-append (field_bytes (head_codes row) (head_field f.head)) (length f.lines ∷ flat_map (line_bytes (line_codes row)) f.lines),
        length-append row (field_bytes (head_codes row) (head_field f.head) ++ (length f.lines ∷ flat_map (line_bytes (line_codes row)) f.lines)),
      )

  pub record_parts : (old b1 b2 b3 b4 : List ℕ) → size ≤ length old
      → b1 ≡ pasted old 0 (opening_bytes v row)
      → b2 ≡ pasted b1 (6 + length row) (field_bytes (take (n - 0) row) (head_field f.head))
      → b3 ≡ pasted b2 (6 + length row + 8 * n) (length f.lines ∷ [])
      → b4 ≡ pasted b3 (6 + length row + 8 * n + 1) (flat_map (line_bytes (take (length row - n) (drop n row))) f.lines)
      → b4 ≡ record_of v row f ++ drop (length (record_of v row f)) old
  record_parts old b1 b2 b3 b4 h e1 e2 e3 e4 =
      let a : List ℕ = opening_bytes v row in
      let b : List ℕ = field_bytes (head_codes row) (head_field f.head) in
      let c : List ℕ = length f.lines ∷ [] in
      let d : List ℕ = flat_map (line_bytes (line_codes row)) f.lines in
      let la : length a ≡ 6 + length row = omega arith in
      let lab : length (a ++ b) ≡ 6 + length row + 8 * n = length-append a b ∙ omega (arith, la, length_heading) in
      let labc : length ((a ++ b) ++ c) ≡ 6 + length row + 8 * n + 1 = length-append (a ++ b) c ∙ omega (arith, lab) in
      let s2 : b2 ≡ pasted old 0 (a ++ b) = e2 ∙ ap (pasted b1 (6 + length row)) heading_is ∙ ap (λ x. pasted x (6 + length row) b) e1 ∙ pasted_both old a b 0 (6 + length row) (omega arith) (omega (arith, length_heading)) in
      let s3 : b3 ≡ pasted old 0 ((a ++ b) ++ c) = e3 ∙ ap (λ x. pasted x (6 + length row + 8 * n) c) s2 ∙ pasted_both old (a ++ b) c 0 (6 + length row + 8 * n) (omega arith) (omega arith) in
      let s4 : b4 ≡ pasted old 0 (((a ++ b) ++ c) ++ d) =
      e4 ∙ ap (pasted b3 (6 + length row + 8 * n + 1)) lines_are ∙ ap (λ x. pasted x (6 + length row + 8 * n + 1) d) s3
      ∙ pasted_both old ((a ++ b) ++ c) d 0 (6 + length row + 8 * n + 1) (omega arith) (omega (arith, length_lines)) in
      s4 ∙ ap (pasted old 0) (append_assoc (a ++ b) c d ∙ append_assoc a b (c ++ d)) ∙ ap (λ m. record_of v row f ++ drop m old) (zero-add (length (record_of v row f)))
