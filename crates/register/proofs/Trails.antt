-- A trail of states: none yet, and one step more.
use Rattle.std.proofs.Common.{◌≡◌, ℕ, ◌+◌, ◌<◌, ◌≢◌, cond, ◌==◌, List, [], ◌∷◌, ◌++◌, length, get_or, take, refl, sym, subst, ⊎_elim, arith}
use Rattle.std.proofs.lemmas.Bool.{cases_eq, eq-eqb, ne_eqb, cond-true, cond-false}
use Rattle.std.proofs.lemmas.List.{get_or_read, get_or_push, get_or_append_left}
use Rattle.register.specs.Performing.{Trail}

-- the states of a trail with n steps, and s after one step more
abbrev longer : {X : Type 0} → (ℕ → X) → ℕ → X → ℕ → X
longer after n s k = cond (k == n + 1) s (after k)

longer_new : {X : Type 0} (after : ℕ → X) (n : ℕ) (s : X) → longer after n s (n + 1) ≡ s
longer_new after n s = cond-true (n + 1 == n + 1) s (after (n + 1)) (eq-eqb (n + 1) (n + 1) refl)

longer_old : {X : Type 0} (after : ℕ → X) (n : ℕ) (s : X) (k : ℕ) → k < n + 1 → longer after n s k ≡ after k
longer_old after n s k lt = cond-false (k == n + 1) s (after k) (ne_eqb k (n + 1) (λ e. absurd (omega arith)))

module _ {X C A : Type 0} (P : List C → X → Type 0) (D : X → X → C → A → Type 0) (steps : List C) where
  pub trail_start : (answers : List A) (r : X) → P [] r → Trail P D steps answers 0 r
  trail_start answers r p = record {
    after = λ k. r;
    last = refl;
    holds = λ k le. let z : 0 ≡ k = omega arith in subst (λ (j : ℕ). P (take j steps) r) z p;
    goes = λ k c a lt. absurd (omega arith);
  }

  pub trail_more : (old new : List A) (i : ℕ) (x : C) (y : A) (r s : X) → i < length steps → x ≡ get_or steps i x → new ≡ old ++ (y ∷ []) → length old ≡ i → Trail P D steps old i r → P (take (i + 1) steps) s → D r s x y → Trail P D steps new (i + 1) s
  trail_more old new i x y r s lt x-is new-is len t p d =
      let now = longer t.after i s in record {
        after = now;
        last = longer_new t.after i s;
        holds = λ k le.
            ⊎_elim
            (λ (e : k ≡ i + 1). subst (λ (j : ℕ). P (take j steps) (now j)) (sym e) (subst (P (take (i + 1) steps)) (sym (longer_new t.after i s)) p))
            (λ (ne : k ≢ i + 1). subst (P (take k steps)) (sym (longer_old t.after i s k (omega arith))) (t.holds k (omega arith)))
            (cases_eq k (i + 1));
        goes = λ k c a below.
            subst (λ (told : List A). D (now k) (now (k + 1)) (get_or steps k c) (get_or told k a)) (sym new-is)
            (⊎_elim
            (λ (e : k ≡ i).
            subst (λ (j : ℕ). D (now j) (now (j + 1)) (get_or steps j c) (get_or (old ++ (y ∷ [])) j a)) (sym e)
            (rw (longer_old t.after i s i (omega arith), t.last, longer_new t.after i s, ← get_or_read steps i x lt x-is c, get_or_push old y a i len) d))
            (λ (ne : k ≢ i).
            rw (longer_old t.after i s k (omega arith), longer_old t.after i s (k + 1) (omega arith), get_or_append_left old (y ∷ []) a k (omega arith))
            (t.goes k c a (omega arith)))
            (cases_eq k i));
      }
