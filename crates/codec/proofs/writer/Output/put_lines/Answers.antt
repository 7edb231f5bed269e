use Rattle.std.proofs.Common.{◌≡◌, ◌≤◌, ◌+◌, ◌*◌, ◌<◌, map, length, get_or, sym, ap, ◌∙◌, subst, arith}
use Rattle.std.proofs.lemmas.List.{get_or-map, length-map}
use Rattle.filing.specs.Parts.{line_fields}
use Rattle.codec.specs.Fields.{line_field}
use Rattle.codec.specs.Writing.{line_bytes}
use Rattle.codec.proofs.Pasting.{put_is, put_room, put_more, length_fields}
use Rattle.codec.proofs.writer.Output.put_lines.Goals as goal

pub put_fields-requires : goal.put_fields-requires
put_fields-requires c =
    let codes = c.args.codes.list.now in
    let lines = c.args.lines.now in
    let here : c.loop-line.line-index < length (map line_fields lines) = omega (arith, length-map lines line_fields) in
    put_room (line_bytes codes) (8 * length codes) (λ l. length_fields codes (line_field l)) (map line_fields lines) c.loop-line.line-index c.loop-line.invariant here
    (subst (λ n. c.args.self.now.at + 8 * length codes * n ≤ length c.args.self.now.buffer.now) (sym (length-map lines line_fields)) c.requires)

pub loop-line-preserved : goal.loop-line-preserved
loop-line-preserved c =
    let codes = c.args.codes.list.now in
    let lines = c.args.lines.now in
    let i = c.loop-line.line-index in
    let line = c.line-item.result in
    let at : line_fields line ≡ get_or (map line_fields lines) i (line_fields line) = ap line_fields c.line-item.is ∙ sym (get_or-map line_fields lines i line (line_fields line) c.loop-line-test.true) in
    let here : i < length (map line_fields lines) = omega (arith, length-map lines line_fields) in
    put_more (line_bytes codes) (8 * length codes) (λ l. length_fields codes (line_field l)) (map line_fields lines) i c.loop-line.invariant here (line_fields line) at
    (put_is (ap (line_bytes codes) c.from.ensures) c.put_fields.ensures)
