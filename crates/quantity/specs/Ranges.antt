-- The most that each quantity may be, and what making one from bare numbers answers.
use Rattle.std.specs.Prelude.{◌≡◌, ℕ, ◌<◌, ◌⊎◌, Some, None, Option}

abbrev pub most_kilograms : ℕ
most_kilograms = 200000000000

abbrev pub most_tonnes : ℕ
most_tonnes = 1000000000000

abbrev pub most_thousandths : ℕ
most_thousandths = 100000000000

abbrev pub most_ten_thousandths : ℕ
most_ten_thousandths = 10000000

abbrev pub most_megawatts : ℕ
most_megawatts = 1000

abbrev pub most_numerator : ℕ
most_numerator = 10000000000000000000

-- the quantity of exactly n, or none where n is above the most
abbrev pub Within : {Q : Type 0} → (Q → ℕ) → ℕ → ℕ → Option Q → Type 0
Within count most n None = most < n
Within count most n (Some q) = count q ≡ n

-- the quotient of exactly n by d, or none where n is above the most or d is 0
abbrev pub Divided : {Q : Type 0} → (Q → ℕ) → (Q → ℕ) → ℕ → ℕ → Option Q → Type 0
Divided num den n d None = (most_numerator < n) ⊎ (d ≡ 0)
Divided num den n d (Some q) = (num q ≡ n) × (den q ≡ d)
