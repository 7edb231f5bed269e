-- A filing with one line more keeps what every filing keeps.
use Rattle.std.proofs.Common.{◌≡◌, ◌+◌, ◌<◌, ◌≤◌, true, set, None, Ok, ap, ◌∙◌, arith}
use Rattle.std.proofs.lemmas.List.Sums.{sum_by_push}
use Rattle.filing.specs.Checks.{most_lines, line_refusal}
use Rattle.filing.specs.Emissions.{total}
use Rattle.filing.specs.Filing.{lines_in_range, apart, attributed_sum}
use Rattle.filing.specs.Parts.{head_fields, line_fields, entered}
use Rattle.filing.specs.Views.{fields_of, LineChecked}
use Rattle.filing.specs.declared.fields.LineFields.{LineFields}
use Rattle.filing.specs.declared.filing.Filing.{Filing}
use Rattle.filing.specs.declared.parts.Line.{Line}
use Rattle.filing.proofs.Adding.{Admitted, admitted, entered_push, in_range_push, apart_push}
use Rattle.filing.proofs.Keeping.{count_is}

pub record Grown (f : Filing) (l : Line) : Type 0 where
  pub below : f.count < most_lines
  pub in_range : lines_in_range (entered (set f.lines f.count l) (f.count + 1)) ≡ true
  pub apart : apart (entered (set f.lines f.count l) (f.count + 1)) ≡ true
  pub within : attributed_sum (entered (set f.lines f.count l) (f.count + 1)) ≤ total (head_fields f.head)

pub grown : (f : Filing) (l : Line) (fields : LineFields) → LineChecked (fields_of f) fields (Ok l) → Grown f l
grown f l fields checked =
    let h : line_refusal (fields_of f) (line_fields l) ≡ None = ap (line_refusal (fields_of f)) checked.0 ∙ checked.1 in
    let a : Admitted (fields_of f) (line_fields l) = admitted (fields_of f) (line_fields l) h in
    let below : f.count < most_lines = omega (arith, a.room, count_is f) in
    let push = entered_push f.lines f.count l (omega (arith, below, f.room)) in
    let old = entered f.lines f.count in
    record {
      below = below;
      in_range = ap lines_in_range push ∙ in_range_push old (line_fields l) f.lines_in_range a.in_range;
      apart = ap apart push ∙ apart_push old (line_fields l) f.lines_apart a.new;
      within = omega (arith, ap attributed_sum push, sum_by_push (λ (m : LineFields). m.attributed) old (line_fields l), a.within);
    }
