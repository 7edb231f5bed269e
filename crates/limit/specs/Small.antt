-- Limits are at most ten to the twelfth.
use Rattle.std.specs.Prelude.{◌≡◌, ℕ, zero, suc, ◌+◌, ◌-◌, ◌*◌, ◌≤◌, Bool, true, false, cond, ◌&&◌, List, [], ◌∷◌, length, Some, None, Ok, Err, Option, Result, nat_le, nat_lt, slice_index_or}
use Rattle.std.proofs.Common.{zero-le, sym, ◌∙◌, subst, le_trans, add-le-add, lit<, lit≤}
use Rattle.std.proofs.Math.Nat.{add_comm, suc-mul, mul-le-mul_right}
use Rattle.std.specs.List.{AllByRecursion}
use Rattle.std.proofs.ByRecursion.{All-from_get_or}
use Rattle.quantity.specs.Ranges.{most_tonnes}
use Rattle.quantity.specs.Rounding.{nearest}
use Rattle.quantity.proofs.Nearest.{nearest_near, nearest_within}
use Rattle.filing.specs.Filing.{FilingFields}
use Rattle.filing.specs.Sound.{Sound}
use Rattle.filing.specs.declared.fields.LineFields.{LineFields}
use Rattle.enrolment.specs.declared.fields.EnrolmentFields.{EnrolmentFields}
use Rattle.standard.specs.Contribution.{contribution}
use Rattle.standard.specs.Places.{Places, standing}
use Rattle.standard.specs.Ranges.{most_contributed}
use Rattle.standard.specs.declared.calculation.Calculation.{Calculation}
use Rattle.standard.specs.declared.causes.Cause.{Cause}
use Rattle.standard.proofs.Small.{Below, contribution_small}
use Rattle.limit.specs.Laws.{SoundAt, AtMost}
use Rattle.limit.specs.Lines.{Fault, both, summed, in_tonnes, limit_of}
use Rattle.limit.specs.Methods.{of_filing}
use Rattle.limit.specs.Outcome.{Told, no_limit}

no_line : LineFields
no_line = record { kind = 0; number = 0; production = 0; standard = 0; attributed = 0; added = 0; ratio = 0 }

-- a sum of so many contributions
abbrev Sum : ℕ → Result ℕ Fault → Type 0
Sum most (Ok n) = n ≤ most
Sum most (Err e) = Unit {0}

both_small : (i most : ℕ) (a : Result ℕ Cause) (b : Result ℕ Fault) → Below most_contributed a → Sum most b → Sum (most_contributed + most) (both i a b)
both_small i most (Ok a) (Ok b) p q = add-le-add p q
both_small i most (Ok a) (Err e) p q = tt
both_small i most (Err c) b p q = tt

module _ (yield : LineFields → Result ℕ Cause) where
  summed_small : (i : ℕ) (ls : List LineFields) → AllByRecursion (λ l. Below most_contributed (yield l)) ls → Sum (length ls * most_contributed) (summed yield i ls)
  summed_small i [] h = zero-le
  summed_small i (l ∷ ls) h =
      let one_more : most_contributed + length ls * most_contributed ≡ suc (length ls) * most_contributed =
      add_comm most_contributed (length ls * most_contributed) ∙ sym (suc-mul (length ls) most_contributed)
      in
      subst (λ most. Sum most (summed yield i (l ∷ ls))) one_more
      (both_small i (length ls * most_contributed) (yield l) (summed yield (suc i) ls) h.0 (summed_small (suc i) ls h.1))

  tonnes_small : (r : Result ℕ Fault) (n : ℕ) → n ≤ 6 → Sum (n * most_contributed) r → AtMost (in_tonnes r)
  tonnes_small (Ok s) n few h =
      let six : n * most_contributed ≤ 6 * most_contributed = mul-le-mul_right most_contributed few in
      let top : 6 * most_contributed ≤ most_tonnes * 10000000 = lit≤ tt in
      nearest_within s 10000000 (nearest s 10000000) most_tonnes (lit< tt) (le_trans h (le_trans six top)) (nearest_near s 10000000 (lit< tt))
  tonnes_small (Err e) n few h = tt

  limit_small : (ls : List LineFields) → length ls ≤ 6 → AllByRecursion (λ l. Below most_contributed (yield l)) ls → AtMost (limit_of yield ls)
  unfolding limit_of
  limit_small ls few h = tonnes_small (summed yield 1 ls) (length ls) few (summed_small 1 ls h)

lines_small : (by : Calculation) (e : EnrolmentFields) (ps : Places) (y : ℕ) (f : FilingFields) → Sound f → AtMost (limit_of (contribution by e ps y) f.lines)
lines_small by e ps y f s = limit_small (contribution by e ps y) f.lines s.few (All-from_get_or (λ l. Below most_contributed (contribution by e ps y l)) f.lines no_line (λ i h. contribution_small by e ps y (slice_index_or f.lines i no_line) (s.lines i no_line h)))

chosen_small : (b c : Bool) (t : Told) → AtMost t → AtMost (cond b (no_limit 41) (cond c (no_limit 42) t))
chosen_small true c t h = tt
chosen_small false true t h = tt
chosen_small false false t h = h

filing_small : (free : Bool) (by : Calculation) (e : EnrolmentFields) (ps : Places) (y : ℕ) (o : Option FilingFields) → SoundAt o → AtMost (of_filing free by e ps y o)
filing_small free by e ps y None s = tt
filing_small free by e ps y (Some f) s = chosen_small (nat_lt y 2019) free (limit_of (contribution by e ps y) f.lines) (lines_small by e ps y f s)

sound_at : (ps : Places) (i : ℕ) → AllByRecursion SoundAt ps → SoundAt (slice_index_or ps i None)
sound_at [] i h = tt
sound_at (p ∷ ps) zero h = h.0
sound_at (p ∷ ps) (suc i) h = sound_at ps i h.1

sound_standing : (b : Bool) (o : Option FilingFields) → SoundAt o → SoundAt (cond b o None)
sound_standing true o h = h
sound_standing false o h = tt

pub outcome_small : (free : Bool) (by : Calculation) (e : EnrolmentFields) (ps : Places) (y : ℕ) → AllByRecursion SoundAt ps → AtMost (of_filing free by e ps y (standing ps y))
outcome_small free by e ps y h = filing_small free by e ps y (standing ps y) (sound_standing (nat_le 2017 y && nat_le y 2036) (slice_index_or ps (y - 2017) None) (sound_at ps (y - 2017) h))
