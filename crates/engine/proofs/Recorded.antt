-- A step whose filing is the record in some bytes, from what the reader says of them.
use Rattle.std.proofs.Common.{◌≡◌, ℕ, List, ◌∷◌, Ok, Err, Result, sym, refl, ap, ◌∙◌, subst}
use Rattle.filing.specs.Filing.{FilingFields}
use Rattle.filing.specs.Told.{Told}
use Rattle.codec.specs.Reading.{reading}
use Rattle.limit.specs.Laws.{Meaning}
use Rattle.limit.specs.declared.joined.Joined.{Joined}
use Rattle.limit.specs.declared.methods.Industrial.{Industrial}
use Rattle.limit.specs.declared.methods.Station.{Station}
use Rattle.register.specs.Answers.{answer_to, number_answer}
use Rattle.register.specs.Calls.{CallFields}
use Rattle.register.specs.Laws.{Laws}
use Rattle.register.specs.Lived.{Lived, Lives}
use Rattle.register.specs.declared.refusals.Refusal.{Refusal}
use Rattle.register.specs.declared.table.Register.{Register}
use Rattle.register.proofs.Wholes.{laws_of}
use Rattle.engine.specs.Engine.{engine_meaning}
use Rattle.engine.specs.declared.engine.Engine.{Engine}
use Rattle.engine.specs.Steps.{StepFields, StepAnswered, call_from, calls_of, with_call, unread, with_record, record_answer}

module _ {M : Type 0} (μ : M → Meaning) (make : FilingFields → CallFields) (bytes : List ℕ) (m : M) (cs : List CallFields) where
  pub unread_step : (r : Register M) (t : Told) → reading bytes ≡ Err t → Lived μ m r cs → Laws μ m (with_call (call_from make (reading bytes)) cs) r × (unread t ≡ record_answer (μ m) make (reading bytes) cs)
  unread_step r t is L =
      subst (λ (x : Result (ℕ × ℕ × FilingFields) Told). Laws μ m (with_call (call_from make x) cs) r × (unread t ≡ record_answer (μ m) make x cs)) (sym is) (laws_of μ m cs r L, refl)

  pub read_step : (r s : Register M) (n v : ℕ) (f : FilingFields) (ans : Result ℕ Refusal) → reading bytes ≡ Ok (n, v, f) → Lives μ r s (make f) (λ m cs. number_answer ans ≡ answer_to (μ m) (make f) cs) → Lived μ m r cs → Laws μ m (with_call (call_from make (reading bytes)) cs) s × (with_record n v (number_answer ans) ≡ record_answer (μ m) make (reading bytes) cs)
  read_step r s n v f ans is lives L =
      let p = lives m cs L in
      subst (λ (x : Result (ℕ × ℕ × FilingFields) Told). Laws μ m (with_call (call_from make x) cs) s × (with_record n v (number_answer ans) ≡ record_answer (μ m) make x cs)) (sym is)
      (laws_of μ m (make f ∷ cs) s p.0, ap (with_record n v) p.1)

-- what a step makes of the register r, where x is what its bytes say: at their reading it is `Steps`
abbrev Read : (FilingFields → CallFields) → Register (Joined Industrial Station) → Register (Joined Industrial Station) → StepAnswered → Result (ℕ × ℕ × FilingFields) Told → Type 0
Read make r s a x =
    (m : Joined Industrial Station) (ss : List StepFields) → Lived engine_meaning m r (calls_of ss)
    → Laws engine_meaning m (with_call (call_from make x) (calls_of ss)) s × (a ≡ record_answer (engine_meaning m) make x (calls_of ss))

module _ (make : FilingFields → CallFields) (bytes : List ℕ) {r : Register (Joined Industrial Station)} where
  pub unread_steps : {t : Told} {a : StepAnswered} → reading bytes ≡ Err t → a ≡ unread t → Read make r r a (reading bytes)
  unread_steps {a = a} is says = subst (Read make r r a) (sym is) (λ m ss L. (laws_of engine_meaning m (calls_of ss) r L, says))

  pub read_steps : {s : Register (Joined Industrial Station)} {n v : ℕ} {f : FilingFields} {a : StepAnswered} (ans : Result ℕ Refusal) → reading bytes ≡ Ok (n, v, f) → a ≡ with_record n v (number_answer ans)
      → Lives engine_meaning r s (make f) (λ m cs. number_answer ans ≡ answer_to (engine_meaning m) (make f) cs) → Read make r s a (reading bytes)
  read_steps {s} {n} {v} {f} {a} ans is says lives =
      subst (Read make r s a) (sym is) (λ m ss L.
      let p = lives m (calls_of ss) L in
      (laws_of engine_meaning m (make f ∷ calls_of ss) s p.0, says ∙ ap (with_record n v) p.1))

abbrev pub engine_of : Register (Joined Industrial Station) → Engine
engine_of r = record { register = r }

-- an engine is its register
pub engine_same : (g : Engine) (s : Register (Joined Industrial Station)) → s ≡ g.register → engine_of s ≡ g
engine_same g s h = ap engine_of h
