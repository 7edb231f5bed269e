-- A line names a record only if it has two words.
use Rattle.std.proofs.Common.{◌≡◌, ℕ, List, [], ◌∷◌, length, None, refl, Bor}
use Rattle.journal.specs.Words.{contents}
use Rattle.journal.specs.Sources.{record_word}

pub not_two : (ss : List (Bor (List ℕ))) → (length ss ≡ 2 → ⊥) → None ≡ record_word (contents ss)
not_two [] h = refl
not_two (a ∷ []) h = refl
not_two (a ∷ b ∷ []) h = absurd (h refl)
not_two (a ∷ b ∷ e ∷ ss) h = refl
