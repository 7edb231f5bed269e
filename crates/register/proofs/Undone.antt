-- Acts and then as many take-backs leave all that stood before them.
use Rattle.std.proofs.Common.{◌≡◌, ℕ, zero, suc, ◌+◌, List, [], ◌∷◌, ◌++◌, refl, ap, ◌∙◌, arith}
use Rattle.register.specs.Calls.{Act, Event, enrols, acts, takes_back, closes}
use Rattle.register.specs.History.{left_by, standing_at}
use Rattle.register.specs.Laws.{Acts, Backs}
use Rattle.register.specs.Striking.{open_acts, closed_acts}

-- take-backs are still to be matched by what is before them
backs_open : (k : ℕ) (bs older : List Event) (n : ℕ) → Backs k bs → open_acts n (bs ++ older) ≡ open_acts (n + k) older
backs_open zero [] older n h = let e : n ≡ n + 0 = omega arith in ap (λ (i : ℕ). open_acts i older) e
backs_open (suc k) [] older n h = absurd h
backs_open zero (enrols e ∷ bs) older n h = backs_open zero bs older n h
backs_open (suc k) (enrols e ∷ bs) older n h = backs_open (suc k) bs older n h
backs_open zero (acts a ∷ bs) older n h = absurd h
backs_open (suc k) (acts a ∷ bs) older n h = absurd h
backs_open zero (takes_back ∷ bs) older n h = absurd h
backs_open (suc k) (takes_back ∷ bs) older n h = let e : suc n + k ≡ n + suc k = omega arith in backs_open k bs older (suc n) h ∙ ap (λ (i : ℕ). open_acts i older) e
backs_open zero (closes ∷ bs) older n h = absurd h
backs_open (suc k) (closes ∷ bs) older n h = absurd h

-- as many acts match them
acts_open : (k : ℕ) (ds older : List Event) → Acts k ds → open_acts k (ds ++ older) ≡ open_acts 0 older
acts_open zero [] older h = refl
acts_open (suc k) [] older h = absurd h
acts_open zero (enrols e ∷ ds) older h = acts_open zero ds older h
acts_open (suc k) (enrols e ∷ ds) older h = acts_open (suc k) ds older h
acts_open zero (acts a ∷ ds) older h = absurd h
acts_open (suc k) (acts a ∷ ds) older h = acts_open k ds older h
acts_open zero (takes_back ∷ ds) older h = absurd h
acts_open (suc k) (takes_back ∷ ds) older h = absurd h
acts_open zero (closes ∷ ds) older h = absurd h
acts_open (suc k) (closes ∷ ds) older h = absurd h

-- neither closes anything
backs_closed : (k : ℕ) (bs older : List Event) → Backs k bs → closed_acts (bs ++ older) ≡ closed_acts older
backs_closed zero [] older h = refl
backs_closed (suc k) [] older h = absurd h
backs_closed zero (enrols e ∷ bs) older h = backs_closed zero bs older h
backs_closed (suc k) (enrols e ∷ bs) older h = backs_closed (suc k) bs older h
backs_closed zero (acts a ∷ bs) older h = absurd h
backs_closed (suc k) (acts a ∷ bs) older h = absurd h
backs_closed zero (takes_back ∷ bs) older h = absurd h
backs_closed (suc k) (takes_back ∷ bs) older h = backs_closed k bs older h
backs_closed zero (closes ∷ bs) older h = absurd h
backs_closed (suc k) (closes ∷ bs) older h = absurd h

acts_closed : (k : ℕ) (ds older : List Event) → Acts k ds → closed_acts (ds ++ older) ≡ closed_acts older
acts_closed zero [] older h = refl
acts_closed (suc k) [] older h = absurd h
acts_closed zero (enrols e ∷ ds) older h = acts_closed zero ds older h
acts_closed (suc k) (enrols e ∷ ds) older h = acts_closed (suc k) ds older h
acts_closed zero (acts a ∷ ds) older h = absurd h
acts_closed (suc k) (acts a ∷ ds) older h = acts_closed k ds older h
acts_closed zero (takes_back ∷ ds) older h = absurd h
acts_closed (suc k) (takes_back ∷ ds) older h = absurd h
acts_closed zero (closes ∷ ds) older h = absurd h
acts_closed (suc k) (closes ∷ ds) older h = absurd h

pub undone_stands : (es es₀ did undid : List Event) (k : ℕ) → es ≡ undid ++ (did ++ es₀) → Acts k did → Backs k undid → (f y : ℕ) → standing_at es f y ≡ standing_at es₀ f y
unfolding standing_at
undone_stands es es₀ did undid k is a b f y =
    let none : 0 + k ≡ k = omega arith in
    let opened : open_acts 0 (undid ++ (did ++ es₀)) ≡ open_acts 0 es₀ = backs_open k undid (did ++ es₀) 0 b ∙ ap (λ (i : ℕ). open_acts i (did ++ es₀)) none ∙ acts_open k did es₀ a in
    let closed : closed_acts (undid ++ (did ++ es₀)) ≡ closed_acts es₀ = backs_closed k undid (did ++ es₀) b ∙ acts_closed k did es₀ a in
    ap (λ (l : List Event). left_by (open_acts 0 l ++ closed_acts l) f y) is
    ∙ ap (λ (l : List Act). left_by (l ++ closed_acts (undid ++ (did ++ es₀))) f y) opened
    ∙ ap (λ (l : List Act). left_by (open_acts 0 es₀ ++ l) f y) closed
