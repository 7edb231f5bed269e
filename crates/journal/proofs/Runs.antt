-- What one turn of the cut into words keeps, and that the words are the parts between blanks that have a byte.
use Rattle.std.proofs.Common.{◌≡◌, ℕ, ◌+◌, ◌-◌, ◌<◌, ◌≤◌, Bool, not, true, false, cond, ◌==◌, eqb, filter, List, [], ◌∷◌, ◌++◌, length, get_or, take, drop, sym, refl, ap, ◌∙◌, append_assoc, append-nil, arith, length-drop, Bor}
use native.Mathlib.Nat.{sub_self}
use Rattle.std.proofs.lemmas.List.{at_drop_more, at_drop_all, take_more, get_or-drop, map_push}
use Rattle.std.proofs.lemmas.Bool.{eqb-false}
use Rattle.std.specs.List.{slice_split, onto_first}
use Rattle.journal.specs.Words.{blank, word, split, contents}

abbrev pub some : List ℕ → Bool
some w = not (length w == 0)

-- the parts, with the bytes that are begun put before the first
abbrev begun : List ℕ → List (List ℕ) → List (List ℕ)
begun w [] = w ∷ []
begun w (p ∷ ps) = (w ++ p) ∷ ps

kept : (w : List ℕ) (ps : List (List ℕ)) → filter some (w ∷ ps) ≡ word w ++ filter some ps
kept [] ps = refl
kept (b ∷ bs) ps = grind arith

begun_none : (ps : List (List ℕ)) → filter some (begun [] ps) ≡ filter some ps
begun_none [] = refl
begun_none (p ∷ ps) = refl

begun_more : (w : List ℕ) (b : ℕ) (ps : List (List ℕ)) → begun w (onto_first b ps) ≡ begun (w ++ b ∷ []) ps
begun_more w b [] = refl
begun_more w b (p ∷ ps) = ap (λ l. l ∷ ps) (sym (append_assoc w (b ∷ []) p))

parts_from : (w bs : List ℕ) → filter some (begun w (slice_split blank bs)) ≡ split w bs
parts_from w [] = kept (w ++ []) [] ∙ simp append-nil
parts_from w (b ∷ bs) =
    elim (blank b) as (λ t. filter some (begun w (cond t ([] ∷ slice_split blank bs) (onto_first b (slice_split blank bs)))) ≡ cond t (word w ++ split [] bs) (split (w ++ b ∷ []) bs)) [
      | true ↦ kept (w ++ []) (slice_split blank bs) ∙ rw append-nil (ap (λ l. word w ++ l) (sym (begun_none (slice_split blank bs)) ∙ parts_from [] bs))
      | false ↦ ap (filter some) (begun_more w b (slice_split blank bs)) ∙ parts_from (w ++ b ∷ []) bs
    ]

pub parts : (bs : List ℕ) → filter some (slice_split blank bs) ≡ split [] bs
parts bs = sym (begun_none (slice_split blank bs)) ∙ parts_from [] bs

-- the bytes from start up to i
abbrev pub between : List ℕ → ℕ → ℕ → List ℕ
between bs start i = take (i - start) (drop start bs)

some_word : (w : List ℕ) → eqb (length w) 0 ≡ false → w ∷ [] ≡ word w
some_word [] e = absurd (eqb-false 0 0 e refl)
some_word (b ∷ bs) e = refl

pub one_more : (old new : List (Bor (List ℕ))) (w : Bor (List ℕ)) → eqb (length w.now) 0 ≡ false → new ≡ old ++ w ∷ [] → contents new ≡ contents old ++ word w.now
one_more old new w has e = ap contents e ∙ map_push (λ (s : Bor (List ℕ)). s.now) old w ∙ ap (λ l. contents old ++ l) (some_word w.now has)

-- the words that are done, the word begun at start and the bytes from i on give all words
pub record Sofar (bs : List ℕ) (done : List (List ℕ)) (start i : ℕ) : Type 0 where
  pub begun : start ≤ i
  pub whole : done ++ split (between bs start i) (drop i bs) ≡ split [] bs

pub moved : (bs : List ℕ) (done more : List (List ℕ)) (start begin i : ℕ) → Sofar bs done start i → more ≡ done → begin ≡ start → Sofar bs more begin i
moved bs done more start begin i s e f = record { begun = omega (arith, s.begun); whole = rw (e, f) s.whole }

module _ (bs : List ℕ) (done : List (List ℕ)) (start i : ℕ) (s : Sofar bs done start i) where
  step : i < length bs → split (between bs start i) (drop i bs) ≡ cond (blank (get_or bs i 0)) (word (between bs start i) ++ split [] (drop (i + 1) bs)) (split (between bs start i ++ get_or bs i 0 ∷ []) (drop (i + 1) bs))
  step h = at_drop_more (split (between bs start i)) bs i 0 h

  pub at_blank : (more : List (List ℕ)) → i < length bs → blank (get_or bs i 0) ≡ true → more ≡ done ++ word (between bs start i) → Sofar bs more (i + 1) (i + 1)
  at_blank more h t e =
      let p = step h in
      record {
        begun = omega arith;
        whole = ap (λ l. more ++ split l (drop (i + 1) bs)) (ap (λ n. take n (drop (i + 1) bs)) (sub_self (i + 1)))
            ∙ ap (λ l. l ++ split [] (drop (i + 1) bs)) e
            ∙ append_assoc done _ _
            ∙ ap (λ l. done ++ l) (sym (rw t at p))
            ∙ s.whole;
      }

  longer : i < length bs → between bs start (i + 1) ≡ between bs start i ++ get_or bs i 0 ∷ []
  longer h =
      let g : i - start < length (drop start bs) = omega (arith, s.begun, length-drop start bs) in
      let n : i + 1 - start ≡ i - start + 1 = omega (arith, s.begun) in
      let m : start + (i - start) ≡ i = omega (arith, s.begun) in
      ap (λ k. take k (drop start bs)) n
      ∙ take_more (drop start bs) (i - start) 0 g
      ∙ ap (λ b. between bs start i ++ b ∷ []) (get_or-drop start bs (i - start) 0 ∙ ap (λ k. get_or bs k 0) m)

  pub in_word : i < length bs → blank (get_or bs i 0) ≡ false → Sofar bs done start (i + 1)
  in_word h t =
      let p = step h in
      record {
        begun = omega (arith, s.begun);
        whole = ap (λ l. done ++ split l (drop (i + 1) bs)) (longer h)
            ∙ ap (λ l. done ++ l) (sym (rw t at p))
            ∙ s.whole;
      }

  pub at_end : length bs ≤ i → i ≤ length bs → (more : List (List ℕ)) → more ≡ done ++ word (between bs start (length bs)) → more ≡ split [] bs
  at_end h g more e =
      let n : length bs ≡ i = omega arith in
      e ∙ ap (λ k. done ++ word (between bs start k)) n
      ∙ ap (λ l. done ++ l) (sym (at_drop_all (split (between bs start i)) bs i h))
      ∙ s.whole
