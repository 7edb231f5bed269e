-- The plain numbers of a head and of lines that are kept.
use Rattle.std.specs.Prelude.{◌≡◌, ℕ, List, map, take, Some, None, Ok, Err, Result}
use Rattle.filing.specs.Checks.{out_of_range}
use Rattle.filing.specs.Filing.{head_outside, line_outside}
use Rattle.filing.specs.Kinds.{kind_number}
use Rattle.filing.specs.Told.{told}
use Rattle.filing.specs.declared.faults.FilingFault.{FilingFault}
use Rattle.filing.specs.declared.fields.HeadFields.{HeadFields}
use Rattle.filing.specs.declared.fields.LineFields.{LineFields}
use Rattle.filing.specs.declared.kinds.LineKind.{LineKind}
use Rattle.filing.specs.declared.parts.Head.{Head}
use Rattle.filing.specs.declared.parts.Line.{Line}

abbrev pub head_fields : Head → HeadFields
head_fields h =
    record {
      facility = h.facility;
      year = h.year;
      co2 = h.co2.kg;
      ch4 = h.ch4.kg;
      n2o = h.n2o.kg;
      sf6 = h.sf6.kg;
      captured = h.captured.kg;
    }

abbrev pub line_fields : Line → LineFields
line_fields l =
    record {
      kind = kind_number l.kind;
      number = l.number;
      production = l.production.thousandths;
      standard = l.standard.ten_thousandths;
      attributed = l.attributed.kg;
      added = l.added.mw;
      ratio = l.ratio;
    }

-- the first lines of an array, as plain numbers
abbrev pub entered : List Line → ℕ → List LineFields
entered lines count = map line_fields (take count lines)

-- a head made of fields that are in their ranges, or the refusal of the first that is not
abbrev pub HeadMade : HeadFields → Result Head FilingFault → Type 0
HeadMade f (Ok h) = (head_fields h ≡ f) × (out_of_range (head_outside f) 0 ≡ None)
HeadMade f (Err e) = out_of_range (head_outside f) 0 ≡ Some (told e)

abbrev pub LineMade : LineKind → LineFields → ℕ → Result Line FilingFault → Type 0
LineMade k f place (Ok l) = (line_fields l ≡ f) × (out_of_range (line_outside k f) place ≡ None)
LineMade k f place (Err e) = out_of_range (line_outside k f) place ≡ Some (told e)
