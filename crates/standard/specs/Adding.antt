-- What dated lines add to a unit.
use Rattle.std.specs.Prelude.{◌≡◌, ℕ, Bool, true, false, not, List, sum_by, filter}
use Rattle.standard.specs.Capacity.{Dated, of_unit, triggers, megawatts}

-- that an addition triggers, or that it does not
abbrev pub triggers_is : Bool → Dated → Bool
triggers_is true a = triggers a
triggers_is false a = not (triggers a)

-- of the unit's lines among ds, those that trigger have t megawatts and the others u
pub record Adds (unit : ℕ) (ds : List Dated) (t u : ℕ) : Type 0 where
  pub triggering : t ≡ sum_by megawatts (filter triggers (filter (of_unit unit) ds))
  pub other : u ≡ sum_by megawatts (filter (λ a. not (triggers a)) (filter (of_unit unit) ds))
