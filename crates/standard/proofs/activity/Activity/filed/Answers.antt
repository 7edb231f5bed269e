use Rattle.std.proofs.Common.{◌≡◌, arith}
use Rattle.filing.specs.Views.{fields_of}
use Rattle.standard.specs.Reference.{emitted_by}
use Rattle.standard.proofs.Filed.{made_none, made_some, made_small}
use Rattle.standard.proofs.activity.Activity.filed.Goals as goal

pub returns-then-made-eq-WITHOUT_LINE : goal.returns-then-made-eq-WITHOUT_LINE
returns-then-made-eq-WITHOUT_LINE c =
    let f = c.filing-filing.result.now in
    rw (← c.filing-filing.ensures.is) (made_none c.args.self.number (fields_of f) c.filing-filing.ensures.sound _ c.sums-others.ensures.made c.if-made-eq-WITHOUT_LINE.true)

pub invariant_of-result : goal.invariant_of-result
invariant_of-result c = record { emitted = omega arith; made = (omega arith, omega (arith, made_small c.args.self.number c.filing-filing.result.now)) }

pub returns : goal.returns
returns c =
    let f = c.filing-filing.result.now in
    let has = made_some c.args.self.number (fields_of f) c.filing-filing.ensures.sound _ c.sums-others.ensures.made (omega arith) in
    let kg : c.saturating_sub.result ≡ emitted_by c.args.self.number (fields_of f) = cc in
    rw (← c.filing-filing.ensures.is) (has, cc)
