use Rattle.std.proofs.Common.{◌≡◌, length, List, [], get_or, take, vec_items, sym, ap, ◌∙◌, subst, arith, rules}
use Rattle.std.proofs.lemmas.List.{get_or_read, take_all}
use Rattle.register.proofs.Telling.{told_more, each_more}
use Rattle.register.proofs.Trails.{trail_start, trail_more}
use Rattle.register.proofs.Wholes.{laws_of}
use Rattle.engine.specs.Engine.{engine_meaning, engine_method, step_fields, step_answered, steps_of, EngineLaws}
use Rattle.engine.specs.Steps.{StepFields, step_answer}
use Rattle.engine.specs.declared.steps.Step.{Step}
use Rattle.engine.proofs.perform.run.Goals as goal

pub loop-step-init : goal.loop-step-init
loop-step-init c =
    let g = c.in_ok-engine.engine in
    let laws : EngineLaws engine_method [] g = laws_of engine_meaning engine_method [] g.register c.in_ok-engine.ensures in (
      laws,
      search rules,
      search rules,
      λ k x a lt. absurd (omega arith),
      trail_start _ _ _ _ g laws,
    )

pub loop-step-preserved : goal.loop-step-preserved
loop-step-preserved c =
    let xs = c.args.steps.now in
    let i = c.loop-step.step-index in
    let x = c.step-item.result in
    let more = told_more step_fields xs i x c.loop-step-test.true c.step-item.is in
    let p = c.perform.ensures.laws engine_method (steps_of (take i xs)) c.loop-step.invariant.0.lived in
    let laws = subst (λ (h : List StepFields). EngineLaws engine_method h c.perform.new.self) (sym more) p.0 in
    let long = sym c.loop-step.answers.ok.0 ∙ c.loop-step.invariant.1 in (
      laws,
      omega (arith, c.push_reserved.ensures.len, c.loop-step.invariant.1),
      search rules,
      λ k d a lt.
          each_more step_answered (λ j. step_answer (engine_meaning engine_method) (step_fields (get_or xs j d)) (steps_of (take j xs))) (vec_items c.loop-step.answers) (vec_items c.push_reserved.new.self) i c.perform.result
          c.push_reserved.ensures.items long
          (p.1 ∙ ap (λ (y : Step). step_answer (engine_meaning engine_method) (step_fields y) (steps_of (take i xs))) (get_or_read xs i x c.loop-step-test.true c.step-item.is d))
          (λ j b lt'. c.loop-step.invariant.3 j d b lt') k a lt,
      trail_more
          _ _ xs (vec_items c.loop-step.answers) (vec_items c.push_reserved.new.self) i x c.perform.result c.loop-step.engine c.perform.new.self c.loop-step-test.true c.step-item.is c.push_reserved.ensures.items long
          c.loop-step.invariant.4 laws (c.perform.ensures.laws, c.perform.ensures.refused),
    )

pub returns : goal.returns
returns c =
    let n : c.loop-step.step-index ≡ length c.args.steps.now = omega arith in
    let cut : take c.loop-step.step-index c.args.steps.now ≡ c.args.steps.now = take_all c.loop-step.step-index c.args.steps.now (omega arith) in record {
      laws = rw cut at c.loop-step.invariant.0;
      all = search rules;
      each = λ k s a lt. c.loop-step.invariant.3 k s a (omega arith);
      throughout = rw n at c.loop-step.invariant.4;
    }
