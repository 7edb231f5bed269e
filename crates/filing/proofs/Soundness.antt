-- Every filing is sound.
use Rattle.std.proofs.Common.{◌≡◌, ℕ, zero, suc, ◌+◌, ◌<◌, Bool, true, false, cond, not, ltb, List, [], ◌∷◌, length, get_or, is_some, Some, None, Option, refl, arith}
use Rattle.std.proofs.lemmas.Bool.{ltb-false, and_parts, or_parts, not-true}
use Rattle.std.proofs.lemmas.Bool.Decides.{nat_tests}
use Rattle.filing.specs.Filing.{kind_in_range, lines_in_range, same, among, apart}
use Rattle.filing.specs.Kinds.{kind_of}
use Rattle.filing.specs.Parts.{head_fields, entered}
use Rattle.filing.specs.Ranges.{first_outside, outside, line_numbers, line_ranges, head_numbers, head_ranges}
use Rattle.filing.specs.Sound.{InRange, LineInRange, Sound}
use Rattle.filing.specs.Views.{fields_of}
use Rattle.filing.specs.declared.fields.LineFields.{LineFields}
use Rattle.filing.specs.declared.filing.Filing.{Filing}
use Rattle.filing.specs.declared.kinds.LineKind.{LineKind}
use Rattle.filing.specs.declared.ranges.Range.{Range}
use Rattle.filing.proofs.Keeping.{count_is}

inside : (b : Bool) (o : Option ℕ) (c : ℕ) → not (is_some (cond b (Some c) o)) ≡ true → (b ≡ false) × (not (is_some o) ≡ true)
inside true o c h = absurd (grind arith)
inside false o c h = (refl, h)

in_range : (c : ℕ) (ns : List ℕ) (rs : List Range) → not (is_some (first_outside c ns rs)) ≡ true → InRange ns rs
in_range c [] rs h = tt
in_range c (n ∷ ns) [] h = tt
in_range c (n ∷ ns) (r ∷ rs) h =
    let p = inside (outside n r) (first_outside (c + 1) ns rs) c h in
    let q = or_parts (ltb n r.least) (ltb r.most n) p.0 in
    (ltb-false _ _ q.0, ltb-false _ _ q.1, in_range (c + 1) ns rs p.1)

line_in_range : (o : Option LineKind) (l : LineFields) → kind_of l.kind ≡ o → kind_in_range o l ≡ true → LineInRange l
line_in_range None l e h = absurd (grind arith)
line_in_range (Some k) l e h = record { kind = k; is = e; fields = in_range 22 (line_numbers l) (line_ranges k) h }

lines_all_in_range : (ls : List LineFields) → lines_in_range ls ≡ true → (i : ℕ) (d : LineFields) → i < length ls → LineInRange (get_or ls i d)
lines_all_in_range [] h i d b = absurd (omega arith)
lines_all_in_range (l ∷ ls) h zero d b = line_in_range (kind_of l.kind) l refl (and_parts _ _ h).0
lines_all_in_range (l ∷ ls) h (suc i) d b = lines_all_in_range ls (and_parts (kind_in_range (kind_of l.kind) l) (lines_in_range ls) h).1 i d (omega arith)

not_same : (l : LineFields) (ls : List LineFields) → among l ls ≡ false → (j : ℕ) (d : LineFields) → j < length ls → same l (get_or ls j d) ≡ false
not_same l [] h j d b = absurd (omega arith)
not_same l (m ∷ ms) h zero d b = (or_parts (same l m) (among l ms) h).0
not_same l (m ∷ ms) h (suc j) d b = not_same l ms (or_parts (same l m) (among l ms) h).1 j d (omega arith)

all_apart : (ls : List LineFields) → apart ls ≡ true → (i j : ℕ) (d : LineFields) → i < j → j < length ls → same (get_or ls i d) (get_or ls j d) ≡ false
all_apart [] h i j d l b = absurd (omega arith)
all_apart (m ∷ ms) h i zero d l b = absurd (omega arith)
all_apart (m ∷ ms) h zero (suc j) d l b = not_same m ms (not-true _ (and_parts (not (among m ms)) (apart ms) h).0) j d (omega arith)
all_apart (m ∷ ms) h (suc i) (suc j) d l b = all_apart ms (and_parts (not (among m ms)) (apart ms) h).1 i j d (omega arith) (omega arith)

differ : (l m : LineFields) → same l m ≡ false → l.kind ≡ m.kind → l.number ≡ m.number → ⊥
differ l m h k n = grind (arith, nat_tests)

pub sound : (f : Filing) → Sound (fields_of f)
sound f =
    let ls = entered f.lines f.count in
    record {
      head = in_range 1 (head_numbers (head_fields f.head)) (head_ranges (head_fields f.head)) f.head_in_range;
      few = omega (arith, count_is f, f.few);
      lines = lines_all_in_range ls f.lines_in_range;
      apart = λ i j d l b k n. differ (get_or ls i d) (get_or ls j d) (all_apart ls f.lines_apart i j d l b) k n;
      within = f.within;
    }
