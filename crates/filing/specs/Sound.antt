-- What every draft and every signed filing keeps, in words.
use Rattle.std.specs.Prelude.{◌≡◌, ℕ, ◌<◌, ◌≤◌, List, [], ◌∷◌, length, get_or, Some, ◌≢◌, slice_index_or}
use Rattle.filing.specs.Checks.{most_lines}
use Rattle.filing.specs.Emissions.{total}
use Rattle.filing.specs.Filing.{FilingFields, attributed_sum}
use Rattle.filing.specs.Kinds.{kind_of}
use Rattle.filing.specs.Ranges.{head_numbers, head_ranges, line_numbers, line_ranges}
use Rattle.filing.specs.declared.fields.LineFields.{LineFields}
use Rattle.filing.specs.declared.kinds.LineKind.{LineKind}
use Rattle.filing.specs.declared.ranges.Range.{Range}

-- each number is in its range
abbrev pub InRange : List ℕ → List Range → Type 0
InRange [] rs = Unit {0}
InRange (n ∷ ns) [] = Unit {0}
InRange (n ∷ ns) (r ∷ rs) = (r.least ≤ n) × (n ≤ r.most) × InRange ns rs

-- the kind is one of the three, and each field is in the range that it has for that kind
pub record LineInRange (l : LineFields) : Type 0 where
  pub kind : LineKind
  pub is : kind_of l.kind ≡ Some kind
  pub fields : InRange (line_numbers l) (line_ranges kind)

pub record Sound (f : FilingFields) : Type 0 where
  pub head : InRange (head_numbers f.head) (head_ranges f.head)
  pub few : length f.lines ≤ most_lines
  pub lines : (i : ℕ) (d : LineFields) → i < length f.lines → LineInRange (slice_index_or f.lines i d)
  -- no two lines have equal kind and number
  pub apart : (i j : ℕ) (d : LineFields) → i < j → j < length f.lines → (get_or f.lines i d).kind ≡ (get_or f.lines j d).kind → (get_or f.lines i d).number ≢ (get_or f.lines j d).number
  pub within : attributed_sum f.lines ≤ total f.head
