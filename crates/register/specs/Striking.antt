-- Which acts are struck by take-backs. Events stand newest first.
use Rattle.std.specs.Prelude.{ℕ, zero, suc, List, [], ◌∷◌, ◌++◌}
use Rattle.register.specs.Calls.{Act, Event, enrols, acts, takes_back, closes}

-- an act met with n take-backs still to be matched: one of them strikes it, or it stands
abbrev pub struck_or : ℕ → Act → (ℕ → List Act) → List Act
struck_or zero a older = a ∷ older zero
struck_or (suc n) a older = older n

-- the unstruck acts since the last close; each take-back strikes the next older act that is not struck
abbrev pub open_acts : ℕ → List Event → List Act
open_acts n [] = []
open_acts n (enrols e ∷ es) = open_acts n es
open_acts n (acts a ∷ es) = struck_or n a (λ m. open_acts m es)
open_acts n (takes_back ∷ es) = open_acts (suc n) es
open_acts n (closes ∷ es) = []

-- the undo log
abbrev pub undo_log : List Event → List Act
undo_log es = open_acts 0 es

-- the unstruck acts before the last close, which no take-back can strike any more
abbrev pub closed_acts : List Event → List Act
closed_acts [] = []
closed_acts (enrols e ∷ es) = closed_acts es
closed_acts (acts a ∷ es) = closed_acts es
closed_acts (takes_back ∷ es) = closed_acts es
closed_acts (closes ∷ es) = undo_log es ++ closed_acts es

abbrev pub unstruck : List Event → List Act
unstruck es = undo_log es ++ closed_acts es
