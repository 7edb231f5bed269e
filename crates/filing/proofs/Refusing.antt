-- Which check of a new line refuses it, and that none does.
use Rattle.std.proofs.Common.{◌≡◌, ℕ, ◌+◌, ◌<◌, ◌≤◌, true, false, leb, [], ◌∷◌, length, Some, None, ◌∙◌}
use Rattle.std.proofs.lemmas.Bool.{le-leb, lt-leb, lt-ltb, le-ltb}
use Rattle.filing.specs.Checks.{most_lines, first, refused_if, out_of_range, above_total, line_refusal}
use Rattle.filing.specs.Emissions.{total}
use Rattle.filing.specs.Filing.{FilingFields, line_outside, among, attributed_sum}
use Rattle.filing.specs.Kinds.{kind_of}
use Rattle.filing.specs.Told.{Told, refusal, line}
use Rattle.filing.specs.declared.fields.LineFields.{LineFields}
use Rattle.filing.specs.declared.kinds.LineKind.{LineKind}

pub refused_full : (f : FilingFields) (l : LineFields) (n : ℕ) → length f.lines ≡ n → most_lines ≤ n → line_refusal f l ≡ Some (refusal 7 [])
refused_full f l n e h = let b : leb most_lines n ≡ true = le-leb _ _ h in rw (e, b)

pub refused_kind : (f : FilingFields) (l : LineFields) (n : ℕ) → length f.lines ≡ n → n < most_lines → kind_of l.kind ≡ None → line_refusal f l ≡ Some (refusal 6 ((line, n + 1) ∷ []))
refused_kind f l n e h k = let b : leb most_lines n ≡ false = lt-leb _ _ h in rw (e, b, k)

-- there is room, and the number is that of a kind
pub record Open (f : FilingFields) (l : LineFields) (n : ℕ) (k : LineKind) : Type 0 where
  pub many : length f.lines ≡ n
  pub room : n < most_lines
  pub is : kind_of l.kind ≡ Some k

-- then these checks are left
left : (f : FilingFields) (l : LineFields) (n : ℕ) (k : LineKind) → Open f l n k → line_refusal f l ≡ first (out_of_range (line_outside k l) (n + 1) ∷ refused_if (among l f.lines) (refusal 8 ((line, n + 1) ∷ [])) ∷ above_total (attributed_sum f.lines + l.attributed) f.head ∷ [])
left f l n k o =
    let e : length f.lines ≡ n = o.many in
    let b : leb most_lines n ≡ false = lt-leb _ _ o.room in
    let i : kind_of l.kind ≡ Some k = o.is in
    rw (e, b, i)

pub refused_range : (f : FilingFields) (l : LineFields) (n : ℕ) (k : LineKind) (t : Told) → Open f l n k → out_of_range (line_outside k l) (n + 1) ≡ Some t → line_refusal f l ≡ Some t
refused_range f l n k t o r = left f l n k o ∙ rw r

pub refused_twice : (f : FilingFields) (l : LineFields) (n : ℕ) (k : LineKind) → Open f l n k → out_of_range (line_outside k l) (n + 1) ≡ None → among l f.lines ≡ true → line_refusal f l ≡ Some (refusal 8 ((line, n + 1) ∷ []))
refused_twice f l n k o r a = left f l n k o ∙ rw (r, a)

pub refused_above : (f : FilingFields) (l : LineFields) (n : ℕ) (k : LineKind) → Open f l n k → out_of_range (line_outside k l) (n + 1) ≡ None → among l f.lines ≡ false → total f.head < attributed_sum f.lines + l.attributed → line_refusal f l ≡ Some (refusal 9 [])
refused_above f l n k o r a h = let b = lt-ltb _ _ h in left f l n k o ∙ rw (r, a, b)

pub refused_none : (f : FilingFields) (l : LineFields) (n : ℕ) (k : LineKind) → Open f l n k → out_of_range (line_outside k l) (n + 1) ≡ None → among l f.lines ≡ false → attributed_sum f.lines + l.attributed ≤ total f.head → line_refusal f l ≡ None
refused_none f l n k o r a h = let b = le-ltb _ _ h in left f l n k o ∙ rw (r, a, b)
