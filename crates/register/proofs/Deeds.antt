-- An act: the register holds what the events and the act say, and the answer is theirs.
use Rattle.std.proofs.Common.{◌≡◌, ℕ, ◌+◌, ◌≤◌, List, [], ◌∷◌, ◌++◌, Some, None, Ok, Err, Option, Result, sym, ap, ◌∙◌, subst, arith}
use Rattle.filing.specs.Filing.{FilingFields}
use Rattle.filing.specs.declared.signed.Signed.{Signed}
use Rattle.enrolment.specs.declared.enrolment.Enrolment.{Enrolment}
use Rattle.limit.specs.Laws.{Meaning, Later}
use Rattle.standard.specs.Places.{filing_at}
use Rattle.register.specs.Acceptance.{accepted, refusal_of, first_of, book_full, spent}
use Rattle.register.specs.Answers.{numbered, answer_by, number_answer}
use Rattle.register.specs.Calls.{CallFields, Act, Event, acts, event_of}
use Rattle.register.specs.History.{standing_at, numbers}
use Rattle.register.specs.Lived.{Holds, Lived, logged_acts}
use Rattle.register.specs.Steps.{Refit, Done, Acted, EnrolledBy}
use Rattle.register.specs.Striking.{undo_log, closed_acts, unstruck}
use Rattle.register.specs.Views.{Logged}
use Rattle.register.specs.declared.refusals.Refusal.{Refusal}
use Rattle.register.specs.declared.refusals.Refusal.TheVariants.{Unknown, Enrolled, Enrolment as BadEnrolment, Stands, Vacant, Book, Bare, Spent}
use Rattle.register.specs.declared.table.Register.{Register}
use Rattle.register.proofs.Keeping.{check_holds, check_passes, refused_lives, accepted_lives}
use Rattle.register.proofs.Plain.{known_on, not_full, is_full, not_spent, is_spent, plant_at, by_read, by_enrolled}
use Rattle.register.proofs.Refills.{Refills, act_refills}
use Rattle.register.proofs.Refits.{refit_lives}

module _ {M : Type 0} (μ : M → Meaning) where
  module _ (later : (m : M) → Later (μ m)) (m : M) (r s : Register M) (a : Act) (low : 2017 ≤ a.year) (high : a.year ≤ 2036) (e : Enrolment) (by : EnrolledBy r a.facility e) (old v : Option Signed) (v-is : filing_at v ≡ a.leaves) where
    pub done_holds : (es : List Event) → Holds μ m r es → filing_at old ≡ standing_at es a.facility a.year → (n : ℕ) → Done μ r s a.facility a.year e old v n → Holds μ m s (acts a ∷ es) × (n ≡ numbers es + 1)
    unfolding standing_at
    done_holds es H old-is n D =
        let d = plant_at μ m r es H a.facility in
        let read = by_read μ m r es H a.facility e by in
        let number : n ≡ numbers es + 1 = D.number ∙ ap (λ (i : ℕ). i + 1) H.used_is in
        let events₀ : Refills es (acts a ∷ es) a.facility a.year (filing_at v) (numbers es + 1) = subst (λ (o : Option FilingFields). Refills es (acts a ∷ es) a.facility a.year o (numbers es + 1)) (sym v-is) (act_refills es a) in
        let events : Refills es (acts a ∷ es) a.facility a.year (filing_at v) n = subst (λ (i : ℕ). Refills es (acts a ∷ es) a.facility a.year (filing_at v) i) (sym number) events₀ in
        let fit : Refit (μ m) r.plants s.plants a.facility a.year e v n = subst (λ (x : M). Refit (μ x) r.plants s.plants a.facility a.year e v n) H.method_is D.refit in
        let L : Option FilingFields → List Logged = λ o. record { facility = a.facility; year = a.year; before = o } ∷ [] in (
          record {
            method_is = D.method ∙ H.method_is;
            four = D.refit.long ∙ H.four;
            used_is = D.used ∙ number;
            log_is = D.log ∙ ap (λ (l : List Logged). l ++ L (filing_at old)) H.log_is ∙ ap (λ (o : Option FilingFields). logged_acts (undo_log es) (closed_acts es) ++ L o) old-is;
            log_len = omega (arith, D.log_len, H.log_len);
            plants_are = refit_lives (μ m) (later m) es (acts a ∷ es) r.plants s.plants a.facility a.year e v n low high events fit H.plants_are d read (by.enrolment d read) by.low;
            known = known_on es (acts a ∷ es) (λ f h. h) (unstruck (acts a ∷ es))
                (record { is_enrolled = by_enrolled μ m r es H a.facility e by; from = low; to = high }, H.known);
            no_others = H.no_others;
          },
          number,
        )

    -- the answer to a call that only the undo log and the numbers can refuse
    module _ (c : CallFields) (cs : List CallFields) (L : Lived μ m r cs) (does : event_of c ≡ Some (acts a)) (refuses : refusal_of c (accepted cs) ≡ first_of (book_full (accepted cs) ∷ spent (accepted cs) ∷ [])) (old-is : filing_at old ≡ standing_at (accepted cs) a.facility a.year) where
      abbrev Answers : Result ℕ Refusal → Type 0
      Answers ans = number_answer ans ≡ answer_by (refusal_of c (accepted cs)) (numbered (numbers (accepted cs) + 1))

      refused_so : (w : Refusal) → s ≡ r → refusal_of c (accepted cs) ≡ Some w → Lived μ m s (c ∷ cs) × Answers (Err w)
      refused_so w same why =
          (subst (λ (x : Register M). Lived μ m x (c ∷ cs)) (sym same) (refused_lives μ m r c cs w why L), sym (ap (λ (o : Option Refusal). answer_by o (numbered (numbers (accepted cs) + 1))) why))

      pub acted_lives : (ans : Result ℕ Refusal) → Acted μ r s a.facility a.year e old v ans → Lived μ m s (c ∷ cs) × (number_answer ans ≡ answer_by (refusal_of c (accepted cs)) (numbered (numbers (accepted cs) + 1)))
      acted_lives (Ok n) D =
          let es = accepted cs in
          let none : refusal_of c es ≡ None = refuses ∙ check_passes (book_full es) (spent es ∷ []) (not_full μ m r es L D.room) ∙ check_passes (spent es) [] (not_spent μ m r es L D.unspent) in
          let done = done_holds es L old-is n D in
          (accepted_lives μ m s c cs (acts a) none does done.0, ap numbered done.1 ∙ sym (ap (λ (o : Option Refusal). answer_by o (numbered (numbers es + 1))) none))
      acted_lives (Err Book) D =
          let es = accepted cs in
          refused_so Book D.0 (refuses ∙ check_holds (book_full es) (spent es ∷ []) (is_full μ m r es L D.1))
      acted_lives (Err Spent) D =
          let es = accepted cs in
          refused_so Spent D.0 (refuses ∙ check_passes (book_full es) (spent es ∷ []) (not_full μ m r es L D.1.0) ∙ check_holds (spent es) [] (is_spent μ m r es L D.1.1))
      acted_lives (Err Unknown) D = absurd D.1
      acted_lives (Err Enrolled) D = absurd D.1
      acted_lives (Err BadEnrolment) D = absurd D.1
      acted_lives (Err Stands) D = absurd D.1
      acted_lives (Err Vacant) D = absurd D.1
      acted_lives (Err Bare) D = absurd D.1
