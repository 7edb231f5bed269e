-- What two outcomes keep, the one that is taken keeps.
use Rattle.std.specs.Prelude.{◌≡◌, Bool, true, false, if◌then◌else◌}
use Rattle.limit.specs.Outcome.{Told, no_limit}
use Rattle.limit.specs.Laws.{AtMost}

pub either_same : (b : Bool) (x y v w : Told) → x ≡ v → y ≡ w → (if b then x else y) ≡ (if b then v else w)
either_same true x y v w p q = p
either_same false x y v w p q = q

pub either_vacant : (b : Bool) (x y : Told) → x ≡ no_limit 15 → y ≡ no_limit 15 → (if b then x else y) ≡ no_limit 15
either_vacant true x y p q = p
either_vacant false x y p q = q

pub either_small : (b : Bool) (x y : Told) → AtMost x → AtMost y → AtMost (if b then x else y)
either_small true x y p q = p
either_small false x y p q = q
