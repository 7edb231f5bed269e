-- What the lines of a sound filing come to for an activity.
use Rattle.std.proofs.Common.{◌≡◌, ℕ, ◌<◌, ◌≤◌, Bool, true, false, not, ltb, List, length, map, take, filter, sum_by, Some, sym, ap, ◌∙◌, subst, arith}
use Rattle.std.proofs.lemmas.List.{length-map, length-take, take_all}
use Rattle.std.proofs.lemmas.Bool.{eqb-true, and_parts, ltb-true, lt-ltb}
use Rattle.filing.specs.Filing.{FilingFields}
use Rattle.filing.specs.Kinds.{kind_of}
use Rattle.filing.specs.Parts.{line_fields}
use Rattle.filing.specs.Ranges.{line_numbers, line_ranges}
use Rattle.filing.specs.Sound.{InRange, LineInRange, Sound}
use Rattle.filing.specs.declared.fields.LineFields.{LineFields}
use Rattle.filing.specs.declared.filing.Filing.{Filing}
use Rattle.filing.specs.declared.kinds.LineKind.{LineKind}
use Rattle.filing.specs.declared.kinds.LineKind.TheVariants.{Calculated}
use Rattle.filing.specs.declared.parts.Line.{Line}
use Rattle.filing.specs.Views.{fields_of}
use Rattle.standard.specs.Ranges.{most_produced}
use Rattle.standard.specs.Seen.{lines_of}
use Rattle.standard.specs.Reference.{of_activity, has_activity, made_by}
use Rattle.std.specs.List.{list_any}
use Rattle.filing.specs.Parts.{line_fields}
use Rattle.standard.proofs.Lines.{few_small, list_any-map, some_passed, sum_by-filter-map}

pub few_lines_filed : (f : FilingFields) (ls : List Line) → Sound f → map line_fields ls ≡ f.lines → length ls ≤ 6
few_lines_filed f ls s e = omega (arith, s.few, ap length e, length-map ls line_fields)

-- all lines of a filing, as many as a loop over them has gone past
module _ (activity : ℕ) (f : FilingFields) (ls : List Line) (s : Sound f) (e : map line_fields ls ≡ f.lines) where
  all : (i : ℕ) → length ls ≤ i → map line_fields (take i ls) ≡ f.lines
  all i past = ap (map line_fields) (take_all i ls past) ∙ e

-- a calculated line has production
produces : (activity : ℕ) (l : LineFields) → LineInRange l → of_activity activity l ≡ true → 1 ≤ l.production
produces activity l r h =
    let two : l.kind ≡ 2 = eqb-true _ _ (and_parts _ _ h).0 in
    let is : Some r.kind ≡ Some Calculated = sym r.is ∙ ap kind_of two in
    let same : r.kind ≡ Calculated = cc in
    let P : LineKind → Type 0 = λ k. InRange (line_numbers l) (line_ranges k) in
    (subst P same r.fields).2.0

-- then the production of the activity's lines is above 0 just where a line is of the activity
has_made : (activity : ℕ) (f : FilingFields) → Sound f → has_activity activity (Some f) ≡ ltb 0 (made_by activity f)
has_made activity f s = some_passed (of_activity activity) (λ l. l.production) f.lines (λ j d b h. produces activity _ (s.lines j d b) h)

pub made_above : (activity : ℕ) (f : FilingFields) → Sound f → (made : ℕ) → made ≡ made_by activity f → has_activity activity (Some f) ≡ true → 0 < made
made_above activity f s made is has = omega (arith, ltb-true 0 (made_by activity f) (sym (has_made activity f s) ∙ has))

-- so none of it is no line of the activity, and some of it is a line
pub made_none : (activity : ℕ) (f : FilingFields) → Sound f → (made : ℕ) → made ≡ made_by activity f → made ≡ 0 → has_activity activity (Some f) ≡ false
made_none activity f s made is none = has_made activity f s ∙ ap (ltb 0) (sym is ∙ none)

pub made_some : (activity : ℕ) (f : FilingFields) → Sound f → (made : ℕ) → made ≡ made_by activity f → 0 < made → has_activity activity (Some f) ≡ true
made_some activity f s made is more = has_made activity f s ∙ ap (ltb 0) (sym is) ∙ lt-ltb 0 made more

-- the lines of a filing are at most six
pub few_lines : (f : Filing) → length (lines_of f) ≤ 6
few_lines f = omega (arith, f.few, length-take f.count f.lines)

module _ (activity : ℕ) (f : Filing) where
  -- whether a line is of the activity, and what the lines have of it, of the lines as they are kept
  pub among : list_any (λ l. of_activity activity (line_fields l)) (lines_of f) ≡ has_activity activity (Some (fields_of f))
  among = sym (list_any-map (of_activity activity) line_fields (lines_of f))

  -- whether one was found is whether the filing has the activity
  pub has_as : (found b : Bool) → found ≡ list_any (λ l. of_activity activity (line_fields l)) (lines_of f) → found ≡ b → has_activity activity (Some (fields_of f)) ≡ b
  has_as found b is e = sym among ∙ sym is ∙ e

  pub made : sum_by (λ (l : Line). l.production.thousandths) (filter (λ l. of_activity activity (line_fields l)) (lines_of f)) ≡ made_by activity (fields_of f)
  made = sym (sum_by-filter-map (λ m. m.production) (of_activity activity) line_fields (lines_of f))

  pub emitted : sum_by (λ (l : Line). l.attributed.kg) (filter (λ l. not (of_activity activity (line_fields l))) (lines_of f)) ≡ sum_by (λ m. m.attributed) (filter (λ m. not (of_activity activity m)) (fields_of f).lines)
  emitted = sym (sum_by-filter-map (λ m. m.attributed) (λ m. not (of_activity activity m)) line_fields (lines_of f))

  pub made_small : made_by activity (fields_of f) ≤ most_produced
  made_small = omega (arith, made, few_small (λ (l : Line). l.production.thousandths) (λ l. of_activity activity (line_fields l)) 100000000000 (lines_of f) (λ l. l.production.range) (few_lines f))
