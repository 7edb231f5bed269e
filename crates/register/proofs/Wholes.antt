-- The laws of a whole history, at the register that has lived it.
use Rattle.std.proofs.Common.{List, ◌++◌, is_some, sym, ap, ◌∙◌, subst, append_assoc}
use Rattle.std.specs.Option.{option_map}
use Rattle.limit.specs.Laws.{Meaning}
use Rattle.register.specs.Acceptance.{accepted}
use Rattle.register.specs.Calls.{CallFields}
use Rattle.register.specs.Laws.{unnumbered, Latest, Laws}
use Rattle.register.specs.Lived.{Lived}
use Rattle.register.specs.declared.table.Register.{Register}
use Rattle.register.proofs.Enrolments.{enrolment_stays}
use Rattle.register.proofs.Numbering.{latest_of, standing_touched}
use Rattle.register.proofs.Shown.{assessed_found, assessed_figures, assessed_same, shown_is}
use Rattle.register.proofs.Undone.{undone_stands}

pub laws_of : {M : Type 0} (μ : M → Meaning) (m : M) (cs : List CallFields) (r : Register M) → Lived μ m r cs → Laws μ m cs r
laws_of {M} μ m cs r lived =
    let es = accepted cs in
    record {
      lived = lived;
      found = λ f y. ap is_some (shown_is μ m r es lived f y) ∙ assessed_found (μ m) es f y lived.known;
      figures = λ f y a shows. (assessed_figures (μ m) es f y a (sym (shown_is μ m r es lived f y) ∙ shows)).0;
      restored = λ before did undid k are Did-so undid-so r₀ lived₀ f y.
          let es₀ = accepted before in
          ap (option_map unnumbered) (shown_is μ m r es lived f y)
          ∙ assessed_same (μ m) es es₀ f y lived₀.known (λ e. enrolment_stays cs (undid ++ did) es₀ f e (are ∙ sym (append_assoc undid did es₀))) (undone_stands es es₀ did undid k are Did-so undid-so f)
          ∙ sym (ap (option_map unnumbered) (shown_is μ m r₀ es₀ lived₀ f y));
      numbered = λ f y a shows.
          let is = assessed_figures (μ m) es f y a (sym (shown_is μ m r es lived f y) ∙ shows) in
          subst (Latest es f y) (sym is.1) (latest_of es f y (standing_touched es f y is.0.filing is.0.stands));
    }
