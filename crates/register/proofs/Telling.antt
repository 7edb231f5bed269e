-- A history told from its oldest step on, and the answers to it: one more of each.
use Rattle.std.proofs.Common.{◌≡◌, ℕ, ◌+◌, ◌<◌, ◌≢◌, List, [], ◌∷◌, ◌++◌, map, reverse, length, get_or, take, sym, ap, ◌∙◌, subst, ⊎_elim, arith}
use Rattle.std.proofs.lemmas.List.{map_more, reverse-append, get_or_push, get_or_append_left}
use Rattle.std.proofs.lemmas.Bool.{cases_eq}

module _ {X Y : Type 0} (view : X → Y) where
  pub told_more : (xs : List X) (i : ℕ) (x : X) → i < length xs → x ≡ get_or xs i x → reverse (map view (take (i + 1) xs)) ≡ view x ∷ reverse (map view (take i xs))
  told_more xs i x h is =
      ap reverse (map_more view xs i x h ∙ ap (λ (y : X). map view (take i xs) ++ (view y ∷ [])) (sym is))
      ∙ reverse-append (map view (take i xs)) (view x ∷ [])

  pub each_more : (F : ℕ → Y) (old new : List X) (i : ℕ) (a : X) → new ≡ old ++ (a ∷ []) → length old ≡ i → view a ≡ F i → ((k : ℕ) (d : X) → k < i → view (get_or old k d) ≡ F k) → (k : ℕ) (d : X) → k < i + 1 → view (get_or new k d) ≡ F k
  each_more F old new i a is len here before k d lt =
      ap (λ (l : List X). view (get_or l k d)) is
      ∙ ⊎_elim
      (λ (e : k ≡ i). subst (λ (j : ℕ). view (get_or (old ++ (a ∷ [])) j d) ≡ F j) (sym e) (ap view (get_or_push old a d i len) ∙ here))
      (λ (ne : k ≢ i). let lt' : k < i = omega arith in ap view (get_or_append_left old (a ∷ []) d k (omega arith)) ∙ before k d lt')
      (cases_eq k i)
