-- A filing as plain numbers, and what every filing keeps.
use Rattle.std.specs.Prelude.{ℕ, Bool, true, false, not, ◌&&◌, ◌||◌, List, [], ◌∷◌, is_some, Some, None, sum_by, Option, ◌==◌}
use Rattle.filing.specs.Kinds.{kind_of}
use Rattle.filing.specs.Ranges.{head_numbers, head_ranges, line_numbers, line_ranges, first_outside}
use Rattle.filing.specs.declared.fields.HeadFields.{HeadFields}
use Rattle.filing.specs.declared.fields.LineFields.{LineFields}
use Rattle.filing.specs.declared.kinds.LineKind.{LineKind}

pub record FilingFields : Type 0 where
  pub head : HeadFields
  pub lines : List LineFields

-- where a draft starts
abbrev pub blank : FilingFields
blank =
    record {
      head = record { facility = 1; year = 2017; co2 = 0; ch4 = 0; n2o = 0; sf6 = 0; captured = 0 };
      lines = [];
    }

-- the code of the first field outside its range
abbrev pub head_outside : HeadFields → Option ℕ
head_outside h = first_outside 1 (head_numbers h) (head_ranges h)

abbrev pub line_outside : LineKind → LineFields → Option ℕ
line_outside k l = first_outside 22 (line_numbers l) (line_ranges k)

abbrev pub head_in_range : HeadFields → Bool
head_in_range h = not (is_some (head_outside h))

abbrev pub kind_in_range : Option LineKind → LineFields → Bool
kind_in_range None l = false
kind_in_range (Some k) l = not (is_some (line_outside k l))

abbrev pub lines_in_range : List LineFields → Bool
lines_in_range [] = true
lines_in_range (l ∷ ls) = kind_in_range (kind_of l.kind) l && lines_in_range ls

-- of this kind, by its number, and with this number
abbrev pub named : ℕ → ℕ → LineFields → Bool
named kind number l = l.kind == kind && l.number == number

-- equal kind and number
abbrev pub same : LineFields → LineFields → Bool
same l m = l.kind == m.kind && l.number == m.number

abbrev pub among : LineFields → List LineFields → Bool
among l [] = false
among l (m ∷ ms) = same l m || among l ms

-- no two lines of equal kind and number
abbrev pub apart : List LineFields → Bool
apart [] = true
apart (l ∷ ls) = not (among l ls) && apart ls

-- the lines' attributed kilograms together
abbrev pub attributed_sum : List LineFields → ℕ
attributed_sum ls = sum_by (λ l. l.attributed) ls
