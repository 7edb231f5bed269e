-- Records one after another: the first of them, and those that follow it.
use Rattle.std.proofs.Common.{◌≡◌, ℕ, zero, suc, ◌<◌, ◌≤◌, List, [], ◌∷◌, length, drop, Ok, Err, refl, ap, ◌∙◌, arith}
use Rattle.std.proofs.lemmas.List.{length-drop}
use Rattle.filing.specs.Filing.{FilingFields}
use Rattle.filing.specs.Told.{Told}
use Rattle.codec.specs.Reading.{reading}
use Rattle.codec.specs.Records.{Reading, and_those, first_records, records_of}
use Rattle.codec.proofs.Inverting.{err_ok}
use Rattle.codec.proofs.Prefixes.{within}

-- what follows a record matters only where there is one
same_those : (f g : List ℕ → List Reading) (bs : List ℕ) (r : Reading) → ((x : ℕ × ℕ × FilingFields) → r ≡ Ok x → f (drop x.0 bs) ≡ g (drop x.0 bs)) → and_those f bs r ≡ and_those g bs r
same_those f g bs (Ok x) h = ap (λ l. Ok x ∷ l) (h x refl)
same_those f g bs (Err t) h = refl

-- there are no more records than bytes
enough : (k m : ℕ) (bs : List ℕ) → length bs ≤ k → length bs ≤ m → first_records k bs ≡ first_records m bs
enough zero zero bs h g = refl
enough zero (suc m) [] h g = refl
enough zero (suc m) (b ∷ bs) h g = absurd (omega arith)
enough (suc k) zero [] h g = refl
enough (suc k) zero (b ∷ bs) h g = absurd (omega arith)
enough (suc k) (suc m) [] h g = refl
enough (suc k) (suc m) (b ∷ bs) h g =
    same_those (first_records k) (first_records m) (b ∷ bs) (reading (b ∷ bs)) (λ x e.
    let w = within (b ∷ bs) x e in
    let n = length-drop x.0 (b ∷ bs) in
    enough k m (drop x.0 (b ∷ bs)) (omega arith) (omega arith))

pub record_first : (bs : List ℕ) (x : ℕ × ℕ × FilingFields) → reading bs ≡ Ok x → records_of bs ≡ Ok x ∷ records_of (drop x.0 bs)
record_first [] x h = absurd (err_ok h)
record_first (b ∷ bs) x h =
    let w = within (b ∷ bs) x h in
    let n = length-drop x.0 (b ∷ bs) in
    ap (and_those (first_records (length bs)) (b ∷ bs)) h
    ∙ ap (λ l. Ok x ∷ l) (enough (length bs) (length (drop x.0 (b ∷ bs))) (drop x.0 (b ∷ bs)) (omega arith) (omega arith))

pub refusal_last : (bs : List ℕ) (t : Told) → 0 < length bs → reading bs ≡ Err t → records_of bs ≡ Err t ∷ []
refusal_last [] t l h = absurd (omega arith)
refusal_last (b ∷ bs) t l h = ap (and_those (first_records (length bs)) (b ∷ bs)) h
