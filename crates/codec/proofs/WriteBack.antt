-- What is read in the written version is what would be written.
use Rattle.std.proofs.Common.{◌≡◌, ℕ, zero, suc, ◌+◌, ◌*◌, ◌&&◌, eqb, ltb, List, [], ◌∷◌, ◌++◌, length, get_or, take, drop, Some, None, Ok, Option, sym, refl, ap, ◌∙◌, arith}
use Rattle.std.specs.List.{flat_map}
use Rattle.std.proofs.lemmas.List.{append_assoc, append-nil, take-append-drop, take-take, drop-take, length-drop, length-take-le}
use Rattle.std.proofs.lemmas.Bool.{eqb-true, and_parts}
use Rattle.filing.specs.Checks.{most_lines, unless_refused, head_refusal, adding, line_refusal}
use Rattle.filing.specs.Filing.{FilingFields, blank}
use Rattle.filing.specs.Told.{Told, refusal}
use Rattle.filing.specs.declared.fields.LineFields.{LineFields}
use Rattle.codec.specs.Fields.{head_of, line_of, head_field}
use Rattle.codec.specs.Numbers.{number, bytes_of}
use Rattle.codec.specs.Reading.{part, is_mark, marked, known, lined, head_at, count_at, reading}
use Rattle.codec.specs.Table.{row_of, head_codes, line_codes, written_version, written_row}
use Rattle.codec.specs.Writing.{field_bytes, line_bytes, opening_bytes, written}
use Rattle.codec.proofs.Bytes.{Small, small_drop, small_take, bytes_back}
use Rattle.codec.proofs.Inverting.{Accepted, accepted, err_ok, ok_inj, then_inv, cond_ok, cond_ok', part_inv, part_length, schema_row}

accepted_is : (o : Option Told) (f g : FilingFields) → unless_refused o f ≡ Ok g → f ≡ g
accepted_is None f g h = ok_inj h
accepted_is (Some t) f g h = absurd (err_ok h)

-- a part comes after what is before it
front : (at size : ℕ) (bs b : List ℕ) → part at size bs ≡ Ok b → take (at + size) bs ≡ take at bs ++ b
front at size bs b h =
    sym (take-append-drop at (take (at + size) bs))
    ∙ ap (λ t. t ++ drop at (take (at + size) bs)) (take-take at (at + size) bs (omega arith))
    ∙ ap (λ t. take at bs ++ t) (drop-take at size bs ∙ (part_inv at size bs b h).1)

small_part : (at size : ℕ) (bs b : List ℕ) → Small bs → part at size bs ≡ Ok b → Small b
small_part at size bs b s h i =
    let e : get_or (take size (drop at bs)) i 0 ≡ get_or b i 0 = ap (λ t. get_or t i 0) (part_inv at size bs b h).1 in
    omega (arith, small_take size (drop at bs) (small_drop at bs s) i)

-- the first k numbers of eight bytes
abbrev numbers : ℕ → List ℕ → List ℕ
numbers zero bs = []
numbers (suc k) bs = number (take 8 bs) ∷ numbers k (drop 8 bs)

numbers_back : (k : ℕ) (bs : List ℕ) → 8 * k ≡ length bs → Small bs → flat_map (bytes_of 8) (numbers k bs) ≡ bs
numbers_back zero [] l s = refl
numbers_back zero (b ∷ bs) l s = absurd (omega arith)
numbers_back (suc k) bs l s =
    let n : length (take 8 bs) ≡ 8 = length-take-le 8 bs (omega arith) in
    let h : bytes_of 8 (number (take 8 bs)) ≡ take 8 bs = ap (λ m. bytes_of m (number (take 8 bs))) (sym n) ∙ bytes_back (take 8 bs) (small_take 8 bs s) in
    let t = numbers_back k (drop 8 bs) (omega (arith, length-drop 8 bs)) (small_drop 8 bs s) in
    ap (λ x. x ++ flat_map (bytes_of 8) (numbers k (drop 8 bs))) h ∙ ap (λ x. take 8 bs ++ x) t ∙ take-append-drop 8 bs

line_back : (b : List ℕ) → 56 ≡ length b → Small b → line_bytes (line_codes written_row) (line_of (line_codes written_row) b) ≡ b
line_back b l s = numbers_back 7 b l s

head_back : (b : List ℕ) → 56 ≡ length b → Small b → field_bytes (head_codes written_row) (head_field (head_of (head_codes written_row) b)) ≡ b
head_back b l s = numbers_back 7 b l s

-- the lines that are read, and their bytes
record LinesRead (k at : ℕ) (bs : List ℕ) (f : FilingFields) (r : ℕ × FilingFields) : Type 0 where
  more : List LineFields
  adds : r.1 ≡ record { head = f.head; lines = f.lines ++ more }
  many : length more ≡ k
  bytes : take r.0 bs ≡ take at bs ++ flat_map (line_bytes (line_codes written_row)) more

lines_read : (k at : ℕ) (bs : List ℕ) (f : FilingFields) (r : ℕ × FilingFields) → Small bs → lined (line_codes written_row) k at bs f ≡ Ok r → LinesRead k at bs f r
lines_read zero at bs f r s h =
    let e : (at, f) ≡ r = ok_inj h in
    record {
      more = [];
      adds = ap (λ (x : ℕ × FilingFields). x.1) (sym e) ∙ ap (λ (ls : List LineFields). record { head = f.head; lines = ls }) (sym (append-nil f.lines));
      many = refl;
      bytes = ap (λ (x : ℕ × FilingFields). take x.0 bs) (sym e) ∙ sym (append-nil (take at bs));
    }
lines_read (suc k) at bs f r s h =
    let p = then_inv (part at 56 bs) _ r h in
    let b : List ℕ = p.0 in
    let l : LineFields = line_of (line_codes written_row) b in
    let q = then_inv (adding f l) _ r p.2 in
    let g : record { head = f.head; lines = f.lines ++ l ∷ [] } ≡ q.0 = accepted_is (line_refusal f l) (record { head = f.head; lines = f.lines ++ l ∷ [] }) q.0 q.1 in
    let ih = lines_read k (at + 56) bs q.0 r s q.2 in
    let here = line_back b (part_length at 56 bs b p.1) (small_part at 56 bs b s p.1) in
    let rest : List ℕ = flat_map (line_bytes (line_codes written_row)) ih.more in
    record {
      more = l ∷ ih.more;
      adds =
          ih.adds
          ∙ ap (λ (x : FilingFields). record { head = x.head; lines = x.lines ++ ih.more }) (sym g)
          ∙ ap (λ (ls : List LineFields). record { head = f.head; lines = ls }) (append_assoc f.lines (l ∷ []) ih.more);
      many = ap suc ih.many;
      bytes =
          ih.bytes
          ∙ ap (λ t. t ++ rest) (front at 56 bs b p.1 ∙ ap (λ t. take at bs ++ t) (sym here))
          ∙ append_assoc (take at bs) (line_bytes (line_codes written_row) l) rest;
    }

mark_back : (m : List ℕ) → 3 ≡ length m → marked m ≡ Ok tt → m ≡ 0x4F ∷ 0x42 ∷ 0x46 ∷ []
mark_back [] l h = absurd (omega arith)
mark_back (a ∷ []) l h = absurd (omega arith)
mark_back (a ∷ b ∷ []) l h = absurd (omega arith)
mark_back (a ∷ b ∷ c ∷ d ∷ t) l h = absurd (omega arith)
mark_back (a ∷ b ∷ c ∷ []) l h =
    let p = cond_ok' (is_mark (a ∷ b ∷ c ∷ [])) (refusal 2 []) (Ok tt) tt h in
    let q = and_parts (eqb a 0x4F) (eqb b 0x42 && eqb c 0x46) p.0 in
    let r = and_parts (eqb b 0x42) (eqb c 0x46) q.1 in
    let x = eqb-true a 0x4F q.0 in
    let y = eqb-true b 0x42 r.0 in
    let z = eqb-true c 0x46 r.1 in
    cc

one_back : (c : List ℕ) → 1 ≡ length c → c ≡ get_or c 0 0 ∷ []
one_back [] l = absurd (omega arith)
one_back (a ∷ []) l = refl
one_back (a ∷ b ∷ t) l = absurd (omega arith)

module _ (bs : List ℕ) (x : ℕ × ℕ × FilingFields) (s : Small bs) (a : Accepted bs x) (v : x.1 ≡ written_version) where
  row_is : a.row ≡ written_row
  row_is = ok_inj (sym a.row_is ∙ ap (λ n. known (row_of n)) (a.version_good ∙ v))

  version_is : a.version ≡ bytes_of 2 written_version
  version_is =
      sym (bytes_back a.version (small_part 3 2 bs a.version s a.version_is))
      ∙ ap (λ k. bytes_of k (number a.version)) (sym (part_length 3 2 bs a.version a.version_is))
      ∙ ap (bytes_of 2) (a.version_good ∙ v)

  count_is : a.count ≡ length a.row ∷ []
  count_is = one_back a.count (part_length 5 1 bs a.count a.count_is) ∙ ap (λ n. n ∷ []) (schema_row bs x a).1

  opening_is : take 20 bs ≡ opening_bytes written_version written_row
  opening_is =
      ap (λ (r : List ℕ). take (6 + length r) bs) (sym row_is)
      ∙ ap (λ n. take (6 + n) bs) (sym (schema_row bs x a).1)
      ∙ front 6 (get_or a.count 0 0) bs a.codes a.codes_is
      ∙ ap (λ t. take 6 bs ++ t) (schema_row bs x a).0
      ∙ ap (λ t. t ++ a.row) (front 5 1 bs a.count a.count_is ∙ ap (λ t. take 5 bs ++ t) count_is)
      ∙ ap (λ t. (t ++ (length a.row ∷ [])) ++ a.row) (front 3 2 bs a.version a.version_is ∙ ap (λ t. take 3 bs ++ t) version_is)
      ∙ ap (λ t. ((t ++ bytes_of 2 written_version) ++ (length a.row ∷ [])) ++ a.row) (front 0 3 bs a.mark a.mark_is ∙ mark_back a.mark (part_length 0 3 bs a.mark a.mark_is) a.mark_good)
      ∙ ap (opening_bytes written_version) row_is

  start_is : record { head = head_of (head_codes written_row) a.head; lines = [] } ≡ a.start
  start_is =
      ap (λ (r : List ℕ). record { head = head_of (head_codes r) a.head; lines = [] }) (sym row_is)
      ∙ accepted_is (head_refusal blank (head_of (head_codes a.row) a.head)) (record { head = head_of (head_codes a.row) a.head; lines = [] }) a.start a.head_good

  head_part : part 20 56 bs ≡ Ok a.head
  head_part = ap (λ (r : List ℕ). part (head_at r) (8 * length (head_codes r)) bs) (sym row_is) ∙ a.head_is

  head_is : take 76 bs ≡ take 20 bs ++ field_bytes (head_codes written_row) (head_field a.start.head)
  head_is =
      front 20 56 bs a.head head_part
      ∙ ap (λ t. take 20 bs ++ t) (sym (head_back a.head (part_length 20 56 bs a.head head_part) (small_part 20 56 bs a.head s head_part)))
      ∙ ap (λ (f : FilingFields). take 20 bs ++ field_bytes (head_codes written_row) (head_field f.head)) start_is

  lines_part : part 76 1 bs ≡ Ok a.lines
  lines_part = ap (λ (r : List ℕ). part (count_at r) 1 bs) (sym row_is) ∙ a.lines_is

  lines_is : take 77 bs ≡ take 76 bs ++ (a.many ∷ [])
  lines_is =
      front 76 1 bs a.lines lines_part
      ∙ ap (λ t. take 76 bs ++ t)
      (one_back a.lines (part_length 76 1 bs a.lines lines_part)
      ∙ ap (λ n. n ∷ []) (ok_inj (cond_ok (ltb most_lines (get_or a.lines 0 0)) (refusal 7 []) (Ok (get_or a.lines 0 0)) a.many a.lines_good).1))

  all_read : LinesRead a.many 77 bs a.start (x.0, x.2)
  all_read = lines_read a.many 77 bs a.start (x.0, x.2) s (ap (λ (r : List ℕ). lined (line_codes r) a.many (count_at r + 1) bs a.start) (sym row_is) ∙ a.rest)

  written_is : written x.2 ≡ take x.0 bs
  written_is =
      let more : List LineFields = all_read.more in
      let hb : List ℕ = field_bytes (head_codes written_row) (head_field a.start.head) in
      let lb : List ℕ = flat_map (line_bytes (line_codes written_row)) more in
      let o : List ℕ = opening_bytes written_version written_row in
      let f : x.2 ≡ record { head = a.start.head; lines = more } =
      all_read.adds ∙ ap (λ (g : FilingFields). record { head = a.start.head; lines = g.lines ++ more }) (sym start_is) in
      let t : take x.0 bs ≡ ((o ++ hb) ++ (a.many ∷ [])) ++ lb =
      all_read.bytes ∙ ap (λ t. t ++ lb) (lines_is ∙ ap (λ t. t ++ (a.many ∷ [])) (head_is ∙ ap (λ t. t ++ hb) opening_is)) in
      ap written f
      ∙ ap (λ n. o ++ (hb ++ (n ∷ lb))) all_read.many
      ∙ sym (append_assoc (o ++ hb) (a.many ∷ []) lb ∙ append_assoc o hb (a.many ∷ lb))
      ∙ sym t

pub write_back : (bs : List ℕ) (x : ℕ × ℕ × FilingFields) → Small bs → reading bs ≡ Ok x → x.1 ≡ written_version → written x.2 ≡ take x.0 bs
write_back bs x s h v = written_is bs x s (accepted bs x h) v
