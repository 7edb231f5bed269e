-- Options, by their cases.
use Rattle.std.proofs.Common.{◌≡◌, true, false, ◌⊎◌, is_some, Some, None, Option, Err, refl, inl, inr}
use Rattle.std.specs.Option.{ok_or}
use Rattle.std.proofs.lemmas.Bool.{false≢true, true≢false}

pub none_or_some : {X : Type 0} (o : Option X) → (o ≡ None) ⊎ ((x : X) × (o ≡ Some x))
none_or_some None = inl refl
none_or_some (Some x) = inr (x, refl)

pub some_of : {X : Type 0} (o : Option X) → is_some o ≡ true → (x : X) × (o ≡ Some x)
some_of None h = absurd (false≢true h)
some_of (Some x) h = (x, refl)

pub none_of : {X : Type 0} (o : Option X) → is_some o ≡ false → o ≡ None
none_of None h = refl
none_of (Some x) h = absurd (true≢false h)

-- the error in place of a value that is missing
pub missing : {X E : Type 0} (o : Option X) (e f : E) → o ≡ None → Err f ≡ ok_or o e → f ≡ e
missing None e f none is = cc
missing (Some x) e f none is = cc
