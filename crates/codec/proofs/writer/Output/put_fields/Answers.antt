use Rattle.std.proofs.Common.{◌≤◌, ◌+◌, length, get_or, refl, ap, ◌∙◌, arith}
use Rattle.std.proofs.lemmas.List.{get_or_default}
use Rattle.codec.specs.Numbers.{bytes_of}
use Rattle.codec.proofs.Bytes.{bytes_eight}
use Rattle.codec.proofs.Pasting.{put_is, put_room, put_more}
use Rattle.codec.proofs.writer.Output.put_fields.Goals as goal

pub put-requires : goal.put-requires
put-requires g c =
    let room : c.loop-code.self.at + 8 ≤ length c.loop-code.self.buffer.now =
    put_room (λ k. bytes_of 8 (g.F.Coded.field c.args.fields.now k)) 8 (λ k. refl) c.args.codes.list.now c.loop-code.code-index c.loop-code.invariant c.loop-code-test.true c.requires in
    omega (arith, ap length c.to_be_bytes.ensures)

pub loop-code-preserved : goal.loop-code-preserved
loop-code-preserved g c =
    let codes = c.args.codes.list.now in
    let i = c.loop-code.code-index in
    let code = get_or codes i 0 in
    put_more (λ k. bytes_of 8 (g.F.Coded.field c.args.fields.now k)) 8 (λ k. refl) codes i c.loop-code.invariant c.loop-code-test.true code (get_or_default codes i 0 code c.loop-code-test.true)
    (put_is (c.to_be_bytes.ensures ∙ bytes_eight c.value.result ∙ ap (bytes_of 8) c.value.ensures) c.put.ensures)
