use Rattle.std.proofs.Common.{◌≡◌, ◌+◌, sym, ap, rules, ◌∙◌, arith}
use Rattle.std.proofs.lemmas.Result.{err_from_is_err_and}
use Rattle.filing.specs.Filing.{among, attributed_sum}
use Rattle.filing.specs.Parts.{line_fields}
use Rattle.filing.specs.Views.{fields_of}
use Rattle.filing.proofs.Entries.{among_any}
use Rattle.filing.proofs.Keeping.{count_is}
use Rattle.filing.proofs.Refusing.{Open, refused_range, refused_twice, refused_above, refused_none}
use Rattle.filing.proofs.filing.Filing.checked_line.Goals as goal
use Rattle.filing.proofs.filing.Filing.checked_line.Goals.{After-checked, After-holds, After-attributed_kg}

open_here : (c : After-checked) → Open (fields_of c.args.self.now) c.args.fields c.args.self.now.count c.in_ok-kind.kind
open_here c =
    record { many = count_is c.args.self.now; room = c.if-self-ge-MOST_LINES.false; is = search rules }

held_is : (c : After-holds) → among c.args.fields (fields_of c.args.self.now).lines ≡ c.holds.result
held_is c =
    let l = line_fields c.in_ok-line.line in
    let old = ap (among l) (sym c.lines-earlier.ensures.fields) ∙ sym (c.holds.ensures ∙ among_any l c.lines-earlier.result.now) in
    rw (← c.in_ok-line.ensures.0) old

sum_is : (c : After-attributed_kg) → c.attributed_kg.result + c.in_ok-line.line.attributed.kg ≡ attributed_sum (fields_of c.args.self.now).lines + c.args.fields.attributed
sum_is c =
    omega (arith, ap attributed_sum c.lines-earlier.ensures.fields, c.attributed_kg.ensures, ap (λ l. l.attributed) c.in_ok-line.ensures.0)

pub returns-in_err-line : goal.returns-in_err-line
returns-in_err-line c =
    let p = err_from_is_err_and c.from_residual-in_err-line.result c.from_residual-in_err-line.ensures.1 in
    rw (p.1, p.2) (refused_range _ _ _ _ _ (open_here (goal.at.returns-in_err-line c).After-checked) c.in_err-line.ensures)

pub returns-then-holds : goal.returns-then-holds
returns-then-holds c = refused_twice _ _ _ _ (open_here (goal.at.returns-then-holds c).After-checked) c.in_ok-line.ensures.1 (held_is (goal.at.returns-then-holds c).After-holds ∙ c.if-holds.true)

pub returns-then-total_kg-attributed_kg : goal.returns-then-total_kg-attributed_kg
returns-then-total_kg-attributed_kg c =
    let p = goal.at.returns-then-total_kg-attributed_kg c in
    refused_above _ _ _ _ (open_here p.After-checked) c.in_ok-line.ensures.1 (held_is p.After-holds ∙ c.if-holds.false) (omega (arith, sum_is p.After-attributed_kg, c.total_kg.ensures.value))

pub returns : goal.returns
returns c =
    let p = goal.at.returns c in
    (c.in_ok-line.ensures.0, refused_none _ _ _ _ (open_here p.After-checked) c.in_ok-line.ensures.1 (held_is p.After-holds ∙ c.if-holds.false) (omega (arith, sum_is p.After-attributed_kg, c.total_kg.ensures.value)))
