use Rattle.std.proofs.Common.{List, [], ◌∷◌, ◌++◌, map, length, drop, refl, ap, ◌∙◌, zero-add, rules, arith}
use Rattle.std.specs.List.{flat_map}
use Rattle.filing.specs.Parts.{line_fields}
use Rattle.filing.specs.Views.{fields_of, filed}
use Rattle.filing.specs.declared.fields.HeadFields.{HeadFields}
use Rattle.filing.specs.declared.fields.LineFields.{LineFields}
use Rattle.codec.specs.Fields.{head_field}
use Rattle.codec.specs.Table.{head_codes, line_codes}
use Rattle.codec.specs.Writing.{field_bytes, line_bytes, written}
use Rattle.codec.proofs.Pasting.{length_written, same_record, put_is, put_both}
use Rattle.codec.proofs.writer.write.Goals as goal

pub returns-then-buffer-size-clause-says : goal.returns-then-buffer-size-clause-says
returns-then-buffer-size-clause-says c =
    let whole = length_written c.written-row.ensures.version c.written-row.ensures.codes (ap fields_of c.filing-report.ensures.is) c.split.ensures.head c.size.ensures c.split.ensures.line c.size-2.ensures c.count.ensures in
    (omega (arith, whole), refl)

pub returns-clause-says : goal.returns-clause-says
returns-clause-says c =
    let f = filed c.args.filing.now in
    let row = c.written-row.result.codes.list.now in
    let s = same_record c.written-row.result.version row c.written-row.ensures.version c.written-row.ensures.codes (ap fields_of c.filing-report.ensures.is) in
    let whole = length_written c.written-row.ensures.version c.written-row.ensures.codes (ap fields_of c.filing-report.ensures.is) c.split.ensures.head c.size.ensures c.split.ensures.line c.size-2.ensures c.count.ensures in
    let head = ap (λ cs. field_bytes cs (head_field c.from.result)) c.split.ensures.head ∙ ap (λ (h : HeadFields). field_bytes (head_codes row) (head_field h)) (c.from.ensures ∙ c.head.ensures) in
    let lines =
    ap (λ cs. flat_map (line_bytes cs) (map line_fields c.lines.result.now)) c.split.ensures.line ∙ ap (λ (xs : List LineFields). flat_map (line_bytes (line_codes row)) xs) c.lines.ensures.fields in
    let put = put_both c.put_opening.ensures (put_both (put_is head c.put_fields.ensures) (put_both (put_is (ap (λ k. k ∷ []) c.count-2.ensures) c.put.ensures) (put_is lines c.put_lines.ensures))) in
    let wrote = (put_is s put).wrote ∙ ap (λ n. written f ++ drop n c.args.buffer.now) (zero-add (length (written f))) in
    let same = put.same in
    (omega arith, whole, search rules)
