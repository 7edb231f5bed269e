use Rattle.std.proofs.Common.{◌≡◌, length, List, [], get_or, take, vec_items, sym, ap, ◌∙◌, subst, arith, rules}
use Rattle.std.proofs.lemmas.List.{get_or_read, take_all}
use Rattle.register.specs.Answers.{answer_to}
use Rattle.register.specs.Calls.{CallFields, call_fields}
use Rattle.register.specs.Laws.{Laws}
use Rattle.register.specs.Lived.{Lived}
use Rattle.register.specs.Performing.{answered, history_of}
use Rattle.register.specs.declared.calls.Call.{Call}
use Rattle.register.proofs.Telling.{told_more, each_more}
use Rattle.register.proofs.Trails.{trail_start, trail_more}
use Rattle.register.proofs.Wholes.{laws_of}
use Rattle.register.proofs.perform.run.Goals as goal

pub loop-call-init : goal.loop-call-init
loop-call-init g c =
    let r = c.in_ok-register.register in
    let L = c.in_ok-register.ensures in
    let laws : Laws g.M.LimitMethod.meaning r.method [] r = laws_of g.M.LimitMethod.meaning r.method [] r (subst (λ m. Lived g.M.LimitMethod.meaning m r []) (sym L.method_is) L) in (
      laws,
      search rules,
      λ k x a lt. absurd (omega arith),
      trail_start _ _ _ _ r laws,
    )

pub loop-call-preserved : goal.loop-call-preserved
loop-call-preserved g c =
    let r = c.in_ok-register.register in
    let xs = c.args.calls.now in
    let i = c.loop-call.call-index in
    let x = c.call-item.result in
    let told = told_more call_fields xs i x c.loop-call-test.true c.call-item.is in
    let p = c.perform.ensures.laws r.method (history_of (take i xs)) c.loop-call.invariant.0.lived in
    let laws = subst (λ (h : List CallFields). Laws g.M.LimitMethod.meaning r.method h c.perform.new.self) (sym told) p.0 in
    let long = sym c.loop-call.answers.ok.0 ∙ c.loop-call.invariant.1 in (
      laws,
      omega (arith, c.push_reserved.ensures.len, c.loop-call.invariant.1),
      λ k d a lt.
          each_more answered (λ j. answer_to (g.M.LimitMethod.meaning r.method) (call_fields (get_or xs j d)) (history_of (take j xs))) (vec_items c.loop-call.answers) (vec_items c.push_reserved.new.self) i c.perform.result
          c.push_reserved.ensures.items long
          (p.1 ∙ ap (λ (y : Call). answer_to (g.M.LimitMethod.meaning r.method) (call_fields y) (history_of (take i xs))) (get_or_read xs i x c.loop-call-test.true c.call-item.is d))
          (λ j b lt'. c.loop-call.invariant.2 j d b lt') k a lt,
      trail_more
          _ _ xs (vec_items c.loop-call.answers) (vec_items c.push_reserved.new.self) i x c.perform.result c.loop-call.register c.perform.new.self c.loop-call-test.true c.call-item.is c.push_reserved.ensures.items long
          c.loop-call.invariant.3 laws (c.perform.ensures.laws, c.perform.ensures.refused),
    )

pub returns : goal.returns
returns g c =
    let is = c.in_ok-register.ensures.method_is in
    let n : c.loop-call.call-index ≡ length c.args.calls.now = omega arith in
    let cut : take c.loop-call.call-index c.args.calls.now ≡ c.args.calls.now = take_all c.loop-call.call-index c.args.calls.now (omega arith) in record {
      laws = rw (is, cut) at c.loop-call.invariant.0;
      all = search rules;
      each = λ k x a lt. rw is at c.loop-call.invariant.2 k x a (omega arith);
      throughout = rw (is, n) at c.loop-call.invariant.3;
    }
