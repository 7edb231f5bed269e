use Rattle.std.proofs.Common.{◌≡◌, length, arith}
use Rattle.std.specs.Iterator.Adapters.{zip_second}
use Rattle.std.specs.Slice.Iter.{iter_rest}
use Rattle.standard.specs.Places.{filings, up_to}
use Rattle.standard.specs.Adding.{Adds}
use Rattle.standard.specs.Capacity.{dated_from, additions, triggering_megawatts, other_megawatts}
use Rattle.standard.proofs.Additions.{adds_all, adds_both}
use Rattle.standard.proofs.capacity.capacity_of.Goals as goal

pub returns : goal.returns
unfolding additions triggering_megawatts other_megawatts
returns c =
    let i = c.loop-year.invariant in
    let s = c.in-None.ensures.steps in
    let none : length (iter_rest (zip_second c.loop-year.year-iterator)) ≡ 0 = grind (arith, s, i.1) in
    let past : filings (iter_rest (zip_second c.into_iter-year-iterator.result)) ≡ up_to c.args.year (filings c.args.places.now) = cc in
    let adds : Adds c.args.unit (dated_from 2017 (up_to c.args.year (filings c.args.places.now))) c.loop-year.triggering c.loop-year.other = rw past at (adds_all c.args.unit _ _ _ _ _ none i.0) in
    record { triggering = adds.triggering; other = adds.other; all = adds_both _ _ _ _ adds }
