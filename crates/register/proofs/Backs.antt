-- A take-back: the register holds what the events and the take-back say.
use Rattle.std.proofs.Common.{◌≡◌, ℕ, suc, ◌+◌, ◌<◌, List, [], ◌∷◌, ◌++◌, map, length, is_some, None, vec_items, vec_len, sym, refl, ap, ◌∙◌, subst, arith}
use Rattle.std.specs.List.{AllByRecursion}
use Rattle.std.proofs.lemmas.List.{same_from_push, map-append, length-append}
use Rattle.std.proofs.lemmas.Bool.{true≢false}
use Rattle.enrolment.specs.declared.enrolment.Enrolment.{Enrolment}
use Rattle.limit.specs.Laws.{Meaning, Later}
use Rattle.standard.specs.Places.{filing_at}
use Rattle.register.specs.Acceptance.{refusal_of, bare, spent, accepted}
use Rattle.register.specs.Answers.{numbered, granted, answer_by}
use Rattle.register.specs.Calls.{take_back, Act, Event, takes_back}
use Rattle.register.specs.History.{left_by, enrolment_of, numbers}
use Rattle.register.specs.Lived.{Holds, Known, logged_acts, LivesAnswering}
use Rattle.register.specs.Steps.{Refit, EnrolledBy, Absent}
use Rattle.register.specs.Striking.{undo_log, closed_acts}
use Rattle.register.specs.Views.{Logged, logged}
use Rattle.register.specs.declared.log.Entry.{Entry}
use Rattle.register.specs.declared.table.Register.{Register}
use Rattle.register.proofs.Asking.{absent_none}
use Rattle.register.proofs.Keeping.{check_passes, accepted_lives}
use Rattle.register.proofs.Plain.{known_on, not_bare, not_spent, plant_at, by_read}
use Rattle.register.proofs.Refills.{Refills, tail, open_tail, take_back_refills}
use Rattle.register.proofs.Refits.{refit_lives}

-- a list that is not empty
uncons : (l : List Act) → (length l ≡ 0 → ⊥) → (a : Act) × ((more : List Act) × (l ≡ a ∷ more))
uncons [] h = absurd (h refl)
uncons (a ∷ more) h = (a, (more, refl))

module _ {M : Type 0} (μ : M → Meaning) (m : M) (r : Register M) (es : List Event) (H : Holds μ m r es) (held : 0 < vec_len r.log.entries) where
  -- the newest act of the undo log
  newest : (a : Act) × ((more : List Act) × (undo_log es ≡ a ∷ more))
  newest = uncons (undo_log es) (λ h. omega (arith, held, H.log_len, h))

  taken_unrefused : r.used < 1000000 → refusal_of take_back es ≡ None
  taken_unrefused h = check_passes (bare es) (spent es ∷ []) (not_bare μ m r es H held) ∙ check_passes (spent es) [] (not_spent μ m r es H h)

  module _ (entry : Entry) (rest : List Entry) (items : vec_items r.log.entries ≡ rest ++ (entry ∷ [])) where
    -- the entry is that act
    lines : (map logged rest ≡ logged_acts newest.1.0 (closed_acts es)) × (logged entry ≡ record { facility = newest.0.facility; year = newest.0.year; before = left_by (newest.1.0 ++ closed_acts es) newest.0.facility newest.0.year })
    lines =
        let a = newest.0 in
        let more = newest.1.0 in
        same_from_push (map logged rest) (logged_acts more (closed_acts es)) (logged entry) (record { facility = a.facility; year = a.year; before = left_by (more ++ closed_acts es) a.facility a.year })
        (sym (map-append logged rest (entry ∷ [])) ∙ sym (ap (map logged) items) ∙ H.log_is ∙ ap (λ (l : List Act). logged_acts l (closed_acts es)) newest.1.1)

    known_all : AllByRecursion (Known es) (newest.0 ∷ newest.1.0 ++ closed_acts es)
    known_all = subst (λ (l : List Act). AllByRecursion (Known es) (l ++ closed_acts es)) newest.1.1 H.known

    -- its facility is enrolled
    pub taken_known : Absent r entry.place.facility → ⊥
    taken_known absent =
        let here : entry.place.facility ≡ newest.0.facility = ap (λ (l : Logged). l.facility) lines.1 in
        true≢false (sym (ap (λ (f : ℕ). is_some (enrolment_of es f)) here ∙ known_all.0.is_enrolled) ∙ ap is_some (absent_none μ m r es H entry.place.facility absent))

    taken_holds : ((m : M) → Later (μ m)) → (s : Register M) → vec_items s.log.entries ≡ rest → (e : Enrolment) → EnrolledBy r entry.place.facility e → (n : ℕ) → n ≡ r.used + 1 → s.used ≡ n → s.method ≡ r.method → Refit (μ r.method) r.plants s.plants entry.place.facility entry.place.year e entry.before n → Holds μ m s (takes_back ∷ es) × (n ≡ numbers es + 1)
    taken_holds later s left e by n number used method refit =
        let f = entry.place.facility in
        let d = plant_at μ m r es H f in
        let d-is = by_read μ m r es H f e by in
        let y = entry.place.year in
        let a = newest.0 in
        let more = newest.1.0 in
        let h = newest.1.1 in
        let after : undo_log (takes_back ∷ es) ≡ more = open_tail 0 es ∙ ap tail h in
        let counted : n ≡ numbers es + 1 = number ∙ ap (λ (i : ℕ). i + 1) H.used_is in
        let events₀ : Refills es (takes_back ∷ es) f y (filing_at entry.before) (numbers es + 1) = subst (λ (l : Logged). Refills es (takes_back ∷ es) l.facility l.year l.before (numbers es + 1)) (sym lines.1) (take_back_refills es a more h) in
        let events : Refills es (takes_back ∷ es) f y (filing_at entry.before) n = subst (λ (i : ℕ). Refills es (takes_back ∷ es) f y (filing_at entry.before) i) (sym counted) events₀ in
        let fit : Refit (μ m) r.plants s.plants f y e entry.before n = subst (λ (x : M). Refit (μ x) r.plants s.plants f y e entry.before n) H.method_is refit in (
          record {
            method_is = method ∙ H.method_is;
            four = refit.long ∙ H.four;
            used_is = used ∙ counted;
            log_is = ap (map logged) left ∙ lines.0 ∙ sym (ap (λ (l : List Act). logged_acts l (closed_acts es)) after);
            log_len =
                let long : length (undo_log es) ≡ suc (length more) = ap length h in
                let short : length (undo_log (takes_back ∷ es)) ≡ length more = ap length after in
                omega (arith, H.log_len, long, short, s.log.entries.ok.0, ap length left, r.log.entries.ok.0, ap length items, length-append rest (entry ∷ []));
            plants_are = refit_lives (μ m) (later m) es (takes_back ∷ es) r.plants s.plants f y e entry.before n entry.place.year_range.0 entry.place.year_range.1 events fit H.plants_are d d-is (by.enrolment d d-is) by.low;
            known = subst (λ (l : List Act). AllByRecursion (Known (takes_back ∷ es)) (l ++ closed_acts es)) (sym after) (known_on es (takes_back ∷ es) (λ g k. k) (more ++ closed_acts es) known_all.1);
            no_others = H.no_others;
          },
          counted,
        )

module _ {M : Type 0} (μ : M → Meaning) (r : Register M) (held : 0 < vec_len r.log.entries) (entry : Entry) (rest : List Entry) (items : vec_items r.log.entries ≡ rest ++ (entry ∷ [])) where
  pub taken_lives : ((m : M) → Later (μ m)) → (s : Register M) → vec_items s.log.entries ≡ rest → (e : Enrolment) → EnrolledBy r entry.place.facility e → (n : ℕ) → (r.used < 1000000) × (n ≡ r.used + 1) → s.used ≡ n → s.method ≡ r.method → Refit (μ r.method) r.plants s.plants entry.place.facility entry.place.year e entry.before n → LivesAnswering μ r s take_back (numbered n)
  taken_lives later s left e by n next used method refit m cs L =
      let es = accepted cs in
      let none = taken_unrefused μ m r es L held next.0 in
      let taken = taken_holds μ m r es L held entry rest items later s left e by n next.1 used method refit in
      (accepted_lives μ m s take_back cs takes_back none refl taken.0, ap numbered taken.1 ∙ sym (ap (λ o. answer_by o (granted (μ m) take_back es)) none))
