-- What an act and a take-back do to what stands, to enrolments and to numbers.
use Rattle.std.proofs.Common.{◌≡◌, ℕ, zero, suc, ◌+◌, Bool, true, false, cond, ◌&&◌, eqb, leb, List, [], ◌∷◌, ◌++◌, Option, sym, refl, ap, ◌∙◌}
use Rattle.std.proofs.lemmas.Bool.{and_parts, eqb-true}
use Rattle.filing.specs.Filing.{FilingFields}
use Rattle.register.specs.Calls.{Act, Event, enrols, acts, takes_back, closes}
use Rattle.register.specs.History.{left_by, standing_at, enrolment_of, numbers, if_touched, number_of}
use Rattle.register.specs.Striking.{struck_or, open_acts, undo_log, closed_acts}

-- from the events es to ds, the place of f and y is filled with v, and the number n is given to it and all later years
pub record Refills (es ds : List Event) (f y : ℕ) (v : Option FilingFields) (n : ℕ) : Type 0 where
  pub leaves_at : (g z : ℕ) → standing_at ds g z ≡ cond (eqb f g && eqb y z) v (standing_at es g z)
  pub enrolls : (g : ℕ) → enrolment_of ds g ≡ enrolment_of es g
  pub numbers_at : (g z : ℕ) → number_of ds g z ≡ cond (eqb f g && leb y z) n (number_of es g z)

pub act_refills : (es : List Event) (a : Act) → Refills es (acts a ∷ es) a.facility a.year a.leaves (numbers es + 1)
unfolding standing_at number_of
act_refills es a = record { leaves_at = λ g z. refl; enrolls = λ g. refl; numbers_at = λ g z. refl }

abbrev pub tail : List Act → List Act
tail [] = []
tail (a ∷ more) = more

struck_tail : (n : ℕ) (a : Act) (older : ℕ → List Act) → ((m : ℕ) → older (suc m) ≡ tail (older m)) → struck_or (suc n) a older ≡ tail (struck_or n a older)
struck_tail zero a older h = refl
struck_tail (suc n) a older h = h n

-- one take-back more strikes the newest
pub open_tail : (n : ℕ) (es : List Event) → open_acts (suc n) es ≡ tail (open_acts n es)
open_tail n [] = refl
open_tail n (enrols e ∷ es) = open_tail n es
open_tail n (acts a ∷ es) = struck_tail n a (λ m. open_acts m es) (λ m. open_tail m es)
open_tail n (takes_back ∷ es) = open_tail (suc n) es
open_tail n (closes ∷ es) = refl

struck_leaves : (b : Bool) (o w v : Option FilingFields) → (b ≡ true → w ≡ v) → w ≡ cond b v (cond b o w)
struck_leaves true o w v h = h refl
struck_leaves false o w v h = refl

-- a take-back leaves what stood before the act that it strikes
pub take_back_refills : (es : List Event) (a : Act) (more : List Act) → undo_log es ≡ a ∷ more → Refills es (takes_back ∷ es) a.facility a.year (left_by (more ++ closed_acts es) a.facility a.year) (numbers es + 1)
unfolding standing_at number_of
take_back_refills es a more h =
    let after : open_acts 1 es ≡ more = open_tail 0 es ∙ ap tail h in
    record {
      leaves_at = λ g z.
          let L = more ++ closed_acts es in
          let b = eqb a.facility g && eqb a.year z in
          ap (λ (l : List Act). left_by (l ++ closed_acts es) g z) after
          ∙ struck_leaves b a.leaves (left_by L g z) (left_by L a.facility a.year)
          (λ t.
          let p = and_parts (eqb a.facility g) (eqb a.year z) t in
          let f≡ : a.facility ≡ g = eqb-true a.facility g p.0 in
          let y≡ : a.year ≡ z = eqb-true a.year z p.1 in
          sym (ap (λ (i : ℕ). left_by L i a.year) f≡ ∙ ap (left_by L g) y≡))
          ∙ ap (λ (l : List Act). cond b (left_by L a.facility a.year) (left_by (l ++ closed_acts es) g z)) (sym h);
      enrolls = λ g. refl;
      numbers_at = λ g z. ap (λ (l : List Act). if_touched l g z (numbers es + 1) (number_of es g z)) h;
    }
