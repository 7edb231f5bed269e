-- A facility's places, by their years.
use Rattle.std.proofs.Common.{◌≡◌, ℕ, ◌+◌, ◌-◌, ◌<◌, ◌≤◌, Bool, cond, eqb, ◌≢◌, List, length, get_or, set, Option, sym, refl, ap, ◌∙◌, ⊎_elim, arith}
use Rattle.std.proofs.lemmas.List.FromFn.{length-map-range_with_len, get_or-map-range_with_len}
use Rattle.std.proofs.lemmas.List.{same_lists, length-set, get_or-set_same, get_or-set_other}
use Rattle.std.proofs.lemmas.Bool.{cases_eq, eq-eqb, ne_eqb}
use Rattle.filing.specs.Filing.{FilingFields}
use Rattle.register.specs.Calls.{Event}
use Rattle.register.specs.History.{standing_at, places_of}

pub places_long : (es : List Event) (f : ℕ) → length (places_of es f) ≡ 20
unfolding places_of
places_long es f = length-map-range_with_len (standing_at es f) 2017 20

pub place_at : (es : List Event) (f k : ℕ) (d : Option FilingFields) → k < 20 → get_or (places_of es f) k d ≡ standing_at es f (2017 + k)
unfolding places_of
place_at es f k d h = get_or-map-range_with_len (standing_at es f) 2017 20 k (2017 + k) d h refl

pub place_of : (es : List Event) (f y : ℕ) (d : Option FilingFields) → 2017 ≤ y → y ≤ 2036 → get_or (places_of es f) (y - 2017) d ≡ standing_at es f y
unfolding places_of
place_of es f y d low high = get_or-map-range_with_len (standing_at es f) 2017 20 (y - 2017) y d (omega arith) (omega arith)

-- where the same stands in each year, the places are the same
pub places_same : (es ds : List Event) (f g : ℕ) → ((y : ℕ) → standing_at es f y ≡ standing_at ds g y) → places_of es f ≡ places_of ds g
places_same es ds f g h =
    same_lists (places_of es f) (places_of ds g) (places_long es f ∙ sym (places_long ds g))
    (λ k d lt. let lt' : k < 20 = omega (arith, places_long es f) in place_at es f k d lt' ∙ h (2017 + k) ∙ sym (place_at ds g k d lt'))

-- where another stands in one year, that place is filled with it
pub places_set : (es ds : List Event) (f y : ℕ) (v : Option FilingFields) → 2017 ≤ y → y ≤ 2036 → ((z : ℕ) → standing_at ds f z ≡ cond (eqb y z) v (standing_at es f z)) → set (places_of es f) (y - 2017) v ≡ places_of ds f
places_set es ds f y v low high h =
    same_lists (set (places_of es f) (y - 2017) v) (places_of ds f) (length-set (places_of es f) (y - 2017) v ∙ places_long es f ∙ sym (places_long ds f))
    (λ k d lt.
    let lt' : k < 20 = omega (arith, length-set (places_of es f) (y - 2017) v, places_long es f) in
    ⊎_elim
    (λ (e : k ≡ y - 2017).
    let z : y ≡ 2017 + k = omega arith in
    let w : y - 2017 < length (places_of es f) = omega (arith, places_long es f) in
    ap (λ (j : ℕ). get_or (set (places_of es f) (y - 2017) v) j d) e ∙ get_or-set_same (places_of es f) (y - 2017) v d w
    ∙ sym (place_at ds f k d lt' ∙ h (2017 + k) ∙ ap (λ (b : Bool). cond b v (standing_at es f (2017 + k))) (eq-eqb y (2017 + k) z)))
    (λ (ne : k ≢ y - 2017).
    let z : y ≢ 2017 + k = omega arith in
    get_or-set_other (places_of es f) (y - 2017) k v d ne ∙ place_at es f k d lt'
    ∙ sym (place_at ds f k d lt' ∙ h (2017 + k) ∙ ap (λ (b : Bool). cond b v (standing_at es f (2017 + k))) (ne_eqb y (2017 + k) z)))
    (cases_eq k (y - 2017)))
