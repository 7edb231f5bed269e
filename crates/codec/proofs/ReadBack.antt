-- What is written is read back, whatever follows it.
use Rattle.std.proofs.Common.{◌≡◌, ℕ, suc, ◌+◌, ◌*◌, ◌^◌, ◌<◌, false, ltb, List, [], ◌∷◌, ◌++◌, length, get_or, take, Some, None, Ok, Option, sym, refl, ap, ◌∙◌, subst, arith}
use Rattle.std.specs.List.{flat_map}
use Rattle.std.proofs.lemmas.List.{append_assoc, append-nil, length-append, get_or_at, get_or_append_left, take_at, drop_at}
use Rattle.std.proofs.lemmas.List.Sums.{sum_by-append, sum_by-cons}
use Rattle.std.proofs.lemmas.Bool.{le-ltb, cond-false, or_from}
use Rattle.std.proofs.lemmas.Bool.Decides.{nat_tests}
use Rattle.filing.specs.Checks.{most_lines, out_of_range, heading, adding, line_refusal, unless_refused}
use Rattle.filing.specs.Emissions.{total}
use Rattle.filing.specs.Filing.{FilingFields, blank, head_outside, same, among, attributed_sum}
use Rattle.filing.specs.Kinds.{kind_of}
use Rattle.filing.specs.Ranges.{head_numbers, head_ranges, line_numbers, line_ranges, first_outside}
use Rattle.filing.specs.Sound.{InRange, LineInRange, Sound}
use Rattle.filing.specs.Told.{Told}
use Rattle.filing.specs.Views.{fields_of, filed}
use Rattle.filing.specs.declared.fields.HeadFields.{HeadFields}
use Rattle.filing.specs.declared.fields.LineFields.{LineFields}
use Rattle.filing.specs.declared.filing.Filing.{Filing}
use Rattle.filing.specs.declared.signed.Signed.{Signed}
use Rattle.filing.specs.declared.kinds.LineKind.{LineKind}
use Rattle.filing.specs.declared.kinds.LineKind.TheVariants.{Numerical, Calculated, Gaseous}
use Rattle.filing.proofs.Refusing.{refused_none}
use Rattle.codec.specs.Fields.{head_of, line_of, head_field}
use Rattle.codec.specs.Laws.{ReadsBack}
use Rattle.codec.specs.Reading.{part, opening, schema, headed, counted, lined, body, reading}
use Rattle.codec.specs.Table.{head_codes, line_codes, written_version, written_row}
use Rattle.codec.specs.Writing.{field_bytes, line_bytes, opening_bytes, written}
use Rattle.codec.proofs.Bytes.{number_back}
use Rattle.codec.proofs.Inverting.{part_there}
use Rattle.codec.proofs.Pasting.{length_record}
use Rattle.codec.proofs.Steps.{then_ok}

-- numbers in their ranges: none is outside
outside_none : (c : ℕ) (ns : List ℕ) (rs : _) → InRange ns rs → first_outside c ns rs ≡ None
outside_none c [] rs h = refl
outside_none c (n ∷ ns) [] h = refl
outside_none c (n ∷ ns) (r ∷ rs) h =
    cond-false _ _ _ (or_from (ltb n r.least) (ltb r.most n) (le-ltb n r.least h.0) (le-ltb r.most n h.1))
    ∙ outside_none (c + 1) ns rs h.2

-- the fields of a head and of a line fit eight bytes
same_head : (h : HeadFields) {a b c d e f g : ℕ} → a ≡ h.facility → b ≡ h.year → c ≡ h.co2 → d ≡ h.ch4 → e ≡ h.n2o → f ≡ h.sf6 → g ≡ h.captured
    → ◌≡◌ {A = HeadFields} (record { facility = a; year = b; co2 = c; ch4 = d; n2o = e; sf6 = f; captured = g }) h
same_head h p q r s t u v = rw (p, q, r, s, t, u, v)

same_line : (l : LineFields) {a b c d e f g : ℕ} → a ≡ l.kind → b ≡ l.number → c ≡ l.production → d ≡ l.standard → e ≡ l.attributed → f ≡ l.added → g ≡ l.ratio
    → ◌≡◌ {A = LineFields} (record { kind = a; number = b; production = c; standard = d; attributed = e; added = f; ratio = g }) l
same_line l p q r s t u v = rw (p, q, r, s, t, u, v)

head_back : (h : HeadFields) → InRange (head_numbers h) (head_ranges h) → head_of (head_codes written_row) (field_bytes (head_codes written_row) (head_field h)) ≡ h
head_back h i =
    same_head h
    (number_back 8 h.facility (omega arith))
    (number_back 8 h.year (omega arith))
    (number_back 8 h.co2 (omega arith))
    (number_back 8 h.ch4 (omega arith))
    (number_back 8 h.n2o (omega arith))
    (number_back 8 h.sf6 (omega arith))
    (number_back 8 h.captured (omega arith))

-- the most that a field of a line is
record Fits (l : LineFields) : Type 0 where
  kind : l.kind < 256 ^ 8
  number : l.number < 256 ^ 8
  production : l.production < 256 ^ 8
  standard : l.standard < 256 ^ 8
  attributed : l.attributed < 256 ^ 8
  added : l.added < 256 ^ 8
  ratio : l.ratio < 256 ^ 8

kind_fits : (n : ℕ) (k : LineKind) → kind_of n ≡ Some k → n < 256 ^ 8
kind_fits n k h = grind (arith, nat_tests)

line_fits : (l : LineFields) (k : LineKind) → kind_of l.kind ≡ Some k → InRange (line_numbers l) (line_ranges k) → Fits l
line_fits l Numerical e i = record { kind = kind_fits l.kind Numerical e; number = omega arith; production = omega arith; standard = omega arith; attributed = omega arith; added = omega arith; ratio = omega arith }
line_fits l Calculated e i = record { kind = kind_fits l.kind Calculated e; number = omega arith; production = omega arith; standard = omega arith; attributed = omega arith; added = omega arith; ratio = omega arith }
line_fits l Gaseous e i = record { kind = kind_fits l.kind Gaseous e; number = omega arith; production = omega arith; standard = omega arith; attributed = omega arith; added = omega arith; ratio = omega arith }

line_back : (l : LineFields) → LineInRange l → line_of (line_codes written_row) (line_bytes (line_codes written_row) l) ≡ l
line_back l i =
    let f = line_fits l i.kind i.is i.fields in
    same_line l
    (number_back 8 l.kind f.kind)
    (number_back 8 l.number f.number)
    (number_back 8 l.production f.production)
    (number_back 8 l.standard f.standard)
    (number_back 8 l.attributed f.attributed)
    (number_back 8 l.added f.added)
    (number_back 8 l.ratio f.ratio)

heading_back : (h : HeadFields) → InRange (head_numbers h) (head_ranges h) → heading blank h ≡ Ok (record { head = h; lines = [] })
heading_back h i =
    let o : head_outside h ≡ None = outside_none 1 (head_numbers h) (head_ranges h) i in
    let b : ltb (total h) 0 ≡ false = le-ltb (total h) 0 (omega arith) in
    rw (o, b)

not_among : (l d : LineFields) (ms : List LineFields) → ((i : ℕ) → i < length ms → (get_or ms i d).kind ≡ l.kind → (get_or ms i d).number ≡ l.number → ⊥) → among l ms ≡ false
not_among l d [] h = refl
not_among l d (m ∷ ms) h =
    let here : same l m ≡ false = (let g = h 0 (omega arith) in grind (arith, nat_tests)) in
    or_from (same l m) (among l ms) here (not_among l d ms (λ i b. h (suc i) (omega arith)))

-- each line of a sound filing is accepted after those before it
adding_back : (f : FilingFields) (p : List LineFields) (l : LineFields) (ls : List LineFields) → Sound f → f.lines ≡ p ++ l ∷ ls → LineInRange l × (adding (record { head = f.head; lines = p }) l ≡ Ok (record { head = f.head; lines = p ++ l ∷ [] }))
adding_back f p l ls s e =
    let n : ℕ = length p in
    let many : length f.lines ≡ n + suc (length ls) = ap length e ∙ length-append p (l ∷ ls) in
    let at : get_or f.lines n l ≡ l = ap (λ (xs : List LineFields). get_or xs n l) e ∙ get_or_at p l ls l n refl in
    let i : LineInRange l = subst (λ (m : LineFields). LineInRange m) at (s.lines n l (omega arith)) in
    let before : (j : ℕ) → j < n → get_or f.lines j l ≡ get_or p j l = λ j b. ap (λ (xs : List LineFields). get_or xs j l) e ∙ get_or_append_left p (l ∷ ls) l j b in
    let new : among l p ≡ false =
    not_among l l p (λ j b k m. s.apart j n l b (omega arith)
    (ap (λ (x : LineFields). x.kind) (before j b) ∙ k ∙ ap (λ (x : LineFields). x.kind) (sym at))
    (ap (λ (x : LineFields). x.number) (before j b) ∙ m ∙ ap (λ (x : LineFields). x.number) (sym at))) in
    let sums : attributed_sum f.lines ≡ attributed_sum p + (l.attributed + attributed_sum ls) =
    ap attributed_sum e ∙ sum_by-append (λ (m : LineFields). m.attributed) p (l ∷ ls) ∙ ap (λ n. attributed_sum p + n) (sum_by-cons (λ (m : LineFields). m.attributed) l ls) in
    let none : line_refusal (record { head = f.head; lines = p }) l ≡ None =
    refused_none (record { head = f.head; lines = p }) l n i.kind (record { many = refl; room = omega (arith, s.few); is = i.is })
    (ap (λ (o : Option ℕ). out_of_range o (n + 1)) (outside_none 22 (line_numbers l) (line_ranges i.kind) i.fields)) new (omega (arith, s.within)) in
    (i, ap (λ (o : Option Told). unless_refused o (record { head = f.head; lines = p ++ l ∷ [] })) none)

-- a part that stands after others
part_at : (a b c : List ℕ) (at size : ℕ) → length a ≡ at → length b ≡ size → part at size (a ++ (b ++ c)) ≡ Ok b
part_at a b c at size h k =
    part_there at size (a ++ (b ++ c)) (omega (arith, length-append a (b ++ c), length-append b c))
    ∙ ap (λ t. Ok (take size t)) (drop_at a (b ++ c) at h)
    ∙ ap (λ t. Ok t) (take_at b c size k)

lines_back : (f : FilingFields) → Sound f → (p q : List LineFields) → f.lines ≡ p ++ q → (a rest bs : List ℕ) (at : ℕ) → length a ≡ at → bs ≡ a ++ (flat_map (line_bytes (line_codes written_row)) q ++ rest)
    → lined (line_codes written_row) (length q) at bs (record { head = f.head; lines = p }) ≡ Ok (at + 56 * length q, f)
lines_back f s p [] e a rest bs at h b =
    ap (λ (ls : List LineFields). Ok (at, record { head = f.head; lines = ls })) (sym (append-nil p) ∙ sym e) ∙ ap (λ n. Ok (n, f)) (omega arith)
lines_back f s p (l ∷ ls) e a rest bs at h b =
    let lb : List ℕ = line_bytes (line_codes written_row) l in
    let t : List ℕ = flat_map (line_bytes (line_codes written_row)) ls ++ rest in
    let g : FilingFields = record { head = f.head; lines = p } in
    let w : bs ≡ a ++ (lb ++ t) = b ∙ ap (λ x. a ++ x) (append_assoc lb (flat_map (line_bytes (line_codes written_row)) ls) rest) in
    let there : part at 56 bs ≡ Ok lb = ap (part at 56) w ∙ part_at a lb t at 56 h refl in
    let ok = adding_back f p l ls s e in
    let add : adding g (line_of (line_codes written_row) lb) ≡ Ok (record { head = f.head; lines = p ++ l ∷ [] }) = ap (adding g) (line_back l ok.0) ∙ ok.1 in
    let more = lines_back f s (p ++ l ∷ []) ls (e ∙ sym (append_assoc p (l ∷ []) ls)) (a ++ lb) rest bs (at + 56) (length-append a lb ∙ ap (λ n. n + 56) h) (w ∙ sym (append_assoc a lb t)) in
    then_ok _ there ∙ then_ok _ add ∙ more ∙ ap (λ n. Ok (n, f)) (omega arith)

module _ (f : FilingFields) (rest : List ℕ) (s : Sound f) where
  abbrev opens : List ℕ
  opens = opening_bytes written_version written_row

  abbrev heads : List ℕ
  heads = field_bytes (head_codes written_row) (head_field f.head)

  abbrev lines : List ℕ
  lines = flat_map (line_bytes (line_codes written_row)) f.lines

  abbrev tail : List ℕ
  tail = heads ++ (length f.lines ∷ (lines ++ rest))

  opening_back : opening (opens ++ tail) ≡ Ok written_version
  opening_back =
      then_ok _ (part_at [] (0x4F ∷ 0x42 ∷ 0x46 ∷ []) (0 ∷ 3 ∷ length written_row ∷ (written_row ++ tail)) 0 3 refl refl)
      ∙ then_ok _ (part_at (0x4F ∷ 0x42 ∷ 0x46 ∷ []) (0 ∷ 3 ∷ []) (length written_row ∷ (written_row ++ tail)) 3 2 refl refl)

  schema_back : schema written_row (opens ++ tail) ≡ Ok tt
  schema_back =
      then_ok _ (part_at (0x4F ∷ 0x42 ∷ 0x46 ∷ 0 ∷ 3 ∷ []) (length written_row ∷ []) (written_row ++ tail) 5 1 refl refl)
      ∙ then_ok _ (part_at (0x4F ∷ 0x42 ∷ 0x46 ∷ 0 ∷ 3 ∷ length written_row ∷ []) written_row tail 6 14 refl refl)

  headed_back : headed (head_codes written_row) 20 (opens ++ tail) ≡ Ok (record { head = f.head; lines = [] })
  headed_back =
      then_ok _ (part_at opens heads (length f.lines ∷ (lines ++ rest)) 20 56 refl refl)
      ∙ ap (heading blank) (head_back f.head s.head) ∙ heading_back f.head s.head

  counted_back : counted 76 (opens ++ tail) ≡ Ok (length f.lines)
  counted_back =
      then_ok _ (part_at (opens ++ heads) (length f.lines ∷ []) (lines ++ rest) 76 1 refl refl)
      ∙ cond-false _ _ _ (le-ltb most_lines (length f.lines) s.few)

  body_back : body written_row (opens ++ tail) ≡ Ok (77 + 56 * length f.lines, f)
  body_back =
      then_ok _ headed_back ∙ then_ok _ counted_back
      ∙ lines_back f s [] f.lines refl (opens ++ (heads ++ (length f.lines ∷ []))) rest (opens ++ tail) 77 refl refl

  whole_back : reading (opens ++ tail) ≡ Ok (77 + 56 * length f.lines, written_version, f)
  whole_back = then_ok _ opening_back ∙ then_ok _ schema_back ∙ then_ok _ body_back

pub read_back : (f : FilingFields) (rest : List ℕ) → Sound f → reading (written f ++ rest) ≡ Ok (length (written f), written_version, f)
read_back f rest s = whole_back f rest s ∙ ap (λ n. Ok (n, written_version, f)) (length_record written_version written_row f 56 56 (length f.lines) refl refl refl)

-- what is signed is sound, so it is read back
pub signed_back : (s : Signed) (r : Filing) → r ≡ s.filing → Sound (fields_of r) → ReadsBack (filed s) (written (filed s))
signed_back s r is sound rest = read_back (filed s) rest (subst (λ (g : Filing). Sound (fields_of g)) is sound)
