use Rattle.std.proofs.Common.{ℕ, ◌∷◌, length, Ok, sym, ap, ◌∙◌, rules}
use Rattle.std.proofs.lemmas.List.{take_rest}
use Rattle.filing.specs.Filing.{FilingFields}
use Rattle.filing.specs.Views.{filed}
use Rattle.codec.specs.Records.{records_of}
use Rattle.codec.proofs.Following.{record_first}
use Rattle.codec.proofs.record.RecordsIterator.next.Goals as goal

pub returns-in-Ok : goal.returns-in-Ok
returns-in-Ok c =
    let bs = c.args.self.now.rest.now in
    let r = c.in-Ok.record in
    let x : ℕ × ℕ × FilingFields = (r.used, r.version, filed r.signed) in
    let step = record_first bs x c.in-Ok.ensures.says ∙ ap (λ rest. Ok x ∷ records_of rest) (sym (take_rest bs r.used)) in
    let fewer = ap length step in
    record { steps = step; goes = search rules }
