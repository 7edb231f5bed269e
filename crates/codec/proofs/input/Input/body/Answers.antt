use Rattle.std.proofs.Common.{Ok, sym, ap, ◌∙◌}
use Rattle.codec.proofs.Steps.{body_lines}
use Rattle.codec.proofs.input.Input.body.Goals as goal

pub returns : goal.returns
returns c =
    let h = c.in_ok-draft.ensures in
    let n = c.in_ok-count.ensures in
    body_lines c.args.row.list.now c.args.self.now.bytes.now c.split.result.0.list.now c.split.result.1.list.now c.args.self.now.at _ _ c.split.ensures.head c.split.ensures.line c.requires h.1 h.2 _ _ _ _ _ h.0 n.0 n.1 n.2 c.in_ok-full.ensures
    ∙ ap (λ f. Ok (c.lined.new.self.at, f)) (sym c.sign.ensures)
