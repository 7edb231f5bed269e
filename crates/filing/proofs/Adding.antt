-- A line that no check refuses may be added: what every filing keeps holds with it.
use Rattle.std.proofs.Common.{◌≡◌, ℕ, ◌+◌, ◌<◌, ◌≤◌, Bool, true, false, not, List, [], ◌∷◌, ◌++◌, map, length, take, set, Some, None, Option, refl, ap, ◌∙◌, arith}
use Rattle.std.proofs.lemmas.List.{take_more_set, map_push}
use Rattle.std.proofs.lemmas.Bool.{leb-false, ltb-false, and_parts, and_from, or_parts, or_from, not-true, not_from_false}
use Rattle.std.proofs.lemmas.Bool.Decides.{nat_tests}
use Rattle.filing.specs.Checks.{most_lines, first, refused_if, out_of_range, no_kind, outside_of_kind, line_refusal}
use Rattle.filing.specs.Emissions.{total}
use Rattle.filing.specs.Filing.{FilingFields, kind_in_range, lines_in_range, same, among, apart, attributed_sum}
use Rattle.filing.specs.Kinds.{kind_of}
use Rattle.filing.specs.Parts.{line_fields, entered}
use Rattle.filing.specs.Told.{Told}
use Rattle.filing.specs.declared.fields.LineFields.{LineFields}
use Rattle.filing.specs.declared.kinds.LineKind.{LineKind}
use Rattle.filing.specs.declared.parts.Line.{Line}

pub entered_push : (ls : List Line) (n : ℕ) (l : Line) → n < length ls → entered (set ls n l) (n + 1) ≡ entered ls n ++ line_fields l ∷ []
entered_push ls n l h = ap (map line_fields) (take_more_set ls n l h) ∙ map_push line_fields (take n ls) l

-- what a line meets that no check refuses
pub record Admitted (f : FilingFields) (l : LineFields) : Type 0 where
  pub room : length f.lines < most_lines
  pub in_range : kind_in_range (kind_of l.kind) l ≡ true
  pub new : among l f.lines ≡ false
  pub within : attributed_sum f.lines + l.attributed ≤ total f.head

some_none : {A : Type 0} {x : A} → Some x ≡ None → ⊥
some_none h = grind arith

passed : (b1 : Bool) (k : Option LineKind) (l : LineFields) (o : Option ℕ) (n : ℕ) (b3 b4 : Bool) (t7 t8 t9 : Told) → o ≡ outside_of_kind k l → first (refused_if b1 t7 ∷ no_kind k n ∷ out_of_range o n ∷ refused_if b3 t8 ∷ refused_if b4 t9 ∷ []) ≡ None → (b1 ≡ false) × (kind_in_range k l ≡ true) × (b3 ≡ false) × (b4 ≡ false)
passed true k l o n b3 b4 t7 t8 t9 e h = absurd (some_none h)
passed false None l o n b3 b4 t7 t8 t9 e h = absurd (some_none h)
passed false (Some k) l (Some c) n b3 b4 t7 t8 t9 e h = absurd (some_none h)
passed false (Some k) l None n true b4 t7 t8 t9 e h = absurd (some_none h)
passed false (Some k) l None n false true t7 t8 t9 e h = absurd (some_none h)
passed false (Some k) l None n false false t7 t8 t9 e h = (refl, rw (← e), refl, refl)

pub admitted : (f : FilingFields) (l : LineFields) → line_refusal f l ≡ None → Admitted f l
admitted f l h =
    let p = passed _ (kind_of l.kind) l _ _ _ _ _ _ _ refl h in
    record { room = leb-false _ _ p.0; in_range = p.1; new = p.2; within = ltb-false _ _ p.3 }

pub in_range_push : (ls : List LineFields) (l : LineFields) → lines_in_range ls ≡ true → kind_in_range (kind_of l.kind) l ≡ true → lines_in_range (ls ++ l ∷ []) ≡ true
in_range_push [] l h g = and_from _ _ g refl
in_range_push (m ∷ ms) l h g =
    let p = and_parts (kind_in_range (kind_of m.kind) m) (lines_in_range ms) h in
    and_from _ _ p.0 (in_range_push ms l p.1 g)

-- a line that is new to the others is new to each, and each is new to it
not_among_push : (m : LineFields) (ms : List LineFields) (l : LineFields) → among m ms ≡ false → same l m ≡ false → among m (ms ++ l ∷ []) ≡ false
not_among_push m [] l h g = grind (arith, nat_tests)
not_among_push m (n ∷ ns) l h g =
    let p = or_parts (same m n) (among m ns) h in
    or_from _ _ p.0 (not_among_push m ns l p.1 g)

pub apart_push : (ls : List LineFields) (l : LineFields) → apart ls ≡ true → among l ls ≡ false → apart (ls ++ l ∷ []) ≡ true
apart_push [] l h g = refl
apart_push (m ∷ ms) l h g =
    let p = and_parts (not (among m ms)) (apart ms) h in
    let q = or_parts (same l m) (among l ms) g in
    and_from _ _ (not_from_false _ (not_among_push m ms l (not-true _ p.0) q.0)) (apart_push ms l p.1 q.1)
