use Rattle.std.proofs.Common.{◌∷◌, ◌≡◌, length, ap, rules}
use Rattle.journal.specs.Lines.{lines_of}
use Rattle.journal.proofs.Following.{line_first}
use Rattle.journal.proofs.lines.LinesIterator.next.Goals as goal

pub returns : goal.returns
returns c =
    let bs = c.args.self.now.rest.now in
    let step : lines_of bs ≡ c.first_line.result.0.now ∷ lines_of c.first_line.result.1.now =
    rw (c.first_line.ensures.line, c.first_line.ensures.rest) (line_first bs (search rules)) in
    let fewer = ap length step in
    record { steps = step; goes = search rules }
