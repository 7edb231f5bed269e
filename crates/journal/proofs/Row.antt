-- What one turn over a row of numbers keeps.
use Rattle.std.proofs.Common.{◌≡◌, ℕ, suc, ◌+◌, ◌-◌, ◌<◌, ◌≤◌, List, [], ◌∷◌, ◌++◌, length, get_or, take, drop, set, Ok, Err, Result, sym, refl, ap, ◌∙◌, append_assoc, append-nil, arith, length-set, Bor}
use Rattle.std.proofs.lemmas.List.{drop_more, drop_all, take_more_set, take_all, length-map, get_or-map}
use Rattle.journal.specs.declared.steps.Misread.{Misread}
use Rattle.journal.specs.declared.steps.Misread.TheVariants.{Missing}
use Rattle.journal.specs.Numbers.{decimal}
use Rattle.journal.specs.Words.{contents}
use Rattle.journal.specs.Steps.{and_then, placed, numbers}

-- the numbers that are found, before those of the words to come
abbrev pub joined : List ℕ → Result (List ℕ) Misread → Result (List ℕ) Misread
joined xs r = and_then r (λ ys. Ok (xs ++ ys))

joined_nil : (r : Result (List ℕ) Misread) → joined [] r ≡ r
joined_nil (Ok ys) = refl
joined_nil (Err e) = refl

joined_more : (xs : List ℕ) (x : ℕ) (r : Result (List ℕ) Misread) → joined xs (and_then r (λ ys. Ok (x ∷ ys))) ≡ joined (xs ++ x ∷ []) r
joined_more xs x (Ok ys) = ap Ok (sym (append_assoc xs (x ∷ []) ys))
joined_more xs x (Err e) = refl

-- the first i words are the first i numbers of out
pub record Sofar (ws : List (List ℕ)) (n : ℕ) (out : List ℕ) (i : ℕ) : Type 0 where
  pub long : length out ≡ n
  pub whole : joined (take i out) (numbers (i + 2) (n - i) (drop i ws)) ≡ numbers 2 n ws

module _ (ss : List (Bor (List ℕ))) (n : ℕ) (out : List ℕ) (i : ℕ) (s : Sofar (contents ss) n out i) where
  many : length (contents ss) ≡ length ss
  many = length-map ss (λ (s : Bor (List ℕ)). s.now)

  -- what the words to come say gives what all say
  told : (r : Result (List ℕ) Misread) → numbers (i + 2) (n - i) (drop i (contents ss)) ≡ r → joined (take i out) r ≡ numbers 2 n (contents ss)
  told r e = ap (joined (take i out)) (sym e) ∙ s.whole

  pub missing : i < n → length ss ≤ i → Err (Missing (i + 2)) ≡ numbers 2 n (contents ss)
  missing h g =
      let k : n - i ≡ suc (n - (i + 1)) = omega arith in
      let none : length (contents ss) ≤ i = omega (arith, many) in
      told (Err (Missing (i + 2))) (rw (k, drop_all i (contents ss) none))

  module _ (h : i < n) (g : i < length ss) (d : Bor (List ℕ)) where
    next : numbers (i + 2) (n - i) (drop i (contents ss)) ≡ and_then (placed (i + 2) (decimal (get_or ss i d).now)) (λ x. and_then (numbers (i + 2 + 1) (n - (i + 1)) (drop (i + 1) (contents ss))) (λ xs. Ok (x ∷ xs)))
    next =
        let k : n - i ≡ suc (n - (i + 1)) = omega arith in
        let some : i < length (contents ss) = omega (arith, many) in
        rw (k, drop_more (contents ss) i [] some, get_or-map (λ (s : Bor (List ℕ)). s.now) ss i d [] g)

    pub wrong : (e : Misread) → Err e ≡ placed (i + 2) (decimal (get_or ss i d).now) → Err e ≡ numbers 2 n (contents ss)
    wrong e t = told (Err e) (next ∙ ap (λ r. and_then r (λ x. and_then (numbers (i + 2 + 1) (n - (i + 1)) (drop (i + 1) (contents ss))) (λ xs. Ok (x ∷ xs)))) (sym t))

    pub more : (x : ℕ) → Ok x ≡ placed (i + 2) (decimal (get_or ss i d).now) → Sofar (contents ss) n (set out i x) (i + 1)
    more x t =
        let q = next ∙ ap (λ r. and_then r (λ x. and_then (numbers (i + 2 + 1) (n - (i + 1)) (drop (i + 1) (contents ss))) (λ xs. Ok (x ∷ xs)))) (sym t) in
        let f : i < length out = omega (arith, s.long) in
        let a : i + 1 + 2 ≡ i + 2 + 1 = omega arith in
        record {
          long = length-set out i x ∙ s.long;
          whole = ap (λ l. joined l (numbers (i + 1 + 2) (n - (i + 1)) (drop (i + 1) (contents ss)))) (take_more_set out i x f)
              ∙ ap (λ k. joined (take i out ++ x ∷ []) (numbers k (n - (i + 1)) (drop (i + 1) (contents ss)))) a
              ∙ sym (joined_more (take i out) x _)
              ∙ told _ q;
        }

  module _ (h : n ≤ i) (u : i ≤ n) where
    pub all : length ss ≤ n → Ok out ≡ numbers 2 n (contents ss)
    all g =
        let k : n - i ≡ 0 = omega arith in
        let none : length (contents ss) ≤ i = omega (arith, many) in
        let l : length out ≤ i = omega (arith, s.long) in
        ap Ok (sym (append-nil _ ∙ take_all i out l)) ∙ told (Ok []) (rw (k, drop_all i (contents ss) none))
