-- Bytes and the numbers that they write.
use Rattle.std.proofs.Common.{◌≡◌, ℕ, zero, suc, ◌+◌, ◌*◌, ◌/◌, ◌%◌, ◌^◌, ◌<◌, ◌≤◌, List, [], ◌∷◌, length, get_or, take, drop, sym, refl, ap, ◌∙◌, mod-eq_of_lt, mul_assoc, add_comm, div-one, arith, lit<}
use native.Mathlib.Nat.{mod-one, pow-succ', add-mul-div_right, add-mul-mod_self_right}
use lib.Arith.{digits_lt, digits_div, mod-mul}
use Rattle.std.proofs.lemmas.List.{drop_more, get_or-drop}
use Rattle.codec.specs.Numbers.{number, bytes_of}

pub number_eight : (bs : List ℕ) → length bs ≡ 8 → number bs ≡ get_or bs 0 0 * 72057594037927936 + get_or bs 1 0 * 281474976710656 + get_or bs 2 0 * 1099511627776 + get_or bs 3 0 * 4294967296 + get_or bs 4 0 * 16777216 + get_or bs 5 0 * 65536 + get_or bs 6 0 * 256 + get_or bs 7 0
number_eight (a ∷ b ∷ c ∷ d ∷ e ∷ f ∷ g ∷ h ∷ []) l = omega arith
number_eight [] l = absurd (omega arith)
number_eight (a ∷ []) l = absurd (omega arith)
number_eight (a ∷ b ∷ []) l = absurd (omega arith)
number_eight (a ∷ b ∷ c ∷ []) l = absurd (omega arith)
number_eight (a ∷ b ∷ c ∷ d ∷ []) l = absurd (omega arith)
number_eight (a ∷ b ∷ c ∷ d ∷ e ∷ []) l = absurd (omega arith)
number_eight (a ∷ b ∷ c ∷ d ∷ e ∷ f ∷ []) l = absurd (omega arith)
number_eight (a ∷ b ∷ c ∷ d ∷ e ∷ f ∷ g ∷ []) l = absurd (omega arith)
number_eight (a ∷ b ∷ c ∷ d ∷ e ∷ f ∷ g ∷ h ∷ i ∷ t) l = absurd (omega arith)

pub number_two : (bs : List ℕ) (at : ℕ) → at + 2 ≤ length bs → number (take 2 (drop at bs)) ≡ get_or bs at 0 * 256 + get_or bs (at + 1) 0
number_two bs at h = rw (drop_more bs at 0 (omega arith), drop_more bs (at + 1) 0 (omega arith)) (omega arith)

-- the bytes that the code makes of a number
pub bytes_two : (n : ℕ) → (n / 256 % 256) ∷ (n % 256) ∷ [] ≡ bytes_of 2 n
bytes_two n = rw (div-one n)

pub bytes_eight : (n : ℕ) → (n / 72057594037927936 % 256) ∷ (n / 281474976710656 % 256) ∷ (n / 1099511627776 % 256) ∷ (n / 4294967296 % 256) ∷ (n / 16777216 % 256) ∷ (n / 65536 % 256) ∷ (n / 256 % 256) ∷ (n % 256) ∷ [] ≡ bytes_of 8 n
bytes_eight n = rw (div-one n)

-- every element is a byte
abbrev pub Small : List ℕ → Type 0
Small bs = (i : ℕ) → get_or bs i 0 < 256

pub small_drop : (n : ℕ) (bs : List ℕ) → Small bs → Small (drop n bs)
small_drop n bs s i = rw get_or-drop (s (n + i))

pub small_take : (n : ℕ) (bs : List ℕ) → Small bs → Small (take n bs)
small_take zero bs s i = lit< tt
small_take (suc n) [] s i = lit< tt
small_take (suc n) (b ∷ bs) s zero = s 0
small_take (suc n) (b ∷ bs) s (suc i) = small_take n bs (λ j. s (suc j)) i

power_pos : (k : ℕ) → 0 < 256 ^ k
power_pos zero = lit< tt
power_pos (suc k) = let h = power_pos k in rw (pow-succ' 256 k) (omega arith)

length_bytes : (k n : ℕ) → length (bytes_of k n) ≡ k
length_bytes zero n = refl
length_bytes (suc k) n = ap suc (length_bytes k n)

number_bytes : (k n : ℕ) → number (bytes_of k n) ≡ n % 256 ^ k
number_bytes zero n = sym (mod-one n)
number_bytes (suc k) n =
    ap (λ m. n / 256 ^ k % 256 * 256 ^ m + number (bytes_of k n)) (length_bytes k n)
    ∙ ap (λ m. n / 256 ^ k % 256 * 256 ^ k + m) (number_bytes k n)
    ∙ sym (mod-mul n {m = 256} {c = 256 ^ k} (lit< tt) (power_pos k))
    ∙ ap (λ m. n % m) (sym (pow-succ' 256 k))

-- what bytes write is read back
pub number_back : (k n : ℕ) → n < 256 ^ k → number (bytes_of k n) ≡ n
number_back k n h = number_bytes k n ∙ mod-eq_of_lt h

number_lt : (bs : List ℕ) → Small bs → number bs < 256 ^ length bs
number_lt [] s = lit< tt
number_lt (b ∷ bs) s = rw (pow-succ' 256 (length bs)) (digits_lt (s 0) (number_lt bs (λ i. s (suc i))))

-- the lower bytes do not depend on what is above them
lower_bytes : (k x m : ℕ) → bytes_of k (x * 256 ^ k + m) ≡ bytes_of k m
lower_bytes zero x m = refl
lower_bytes (suc k) x m =
    let e : x * 256 ^ suc k + m ≡ x * 256 * 256 ^ k + m = ap (λ y. x * y + m) (pow-succ' 256 k) ∙ ap (λ y. y + m) (sym (mul_assoc x 256 (256 ^ k))) in
    let h : (x * 256 * 256 ^ k + m) / 256 ^ k % 256 ≡ m / 256 ^ k % 256 =
    ap (λ y. y / 256 ^ k % 256) (add_comm (x * 256 * 256 ^ k) m)
    ∙ ap (λ y. y % 256) (add-mul-div_right m (x * 256) (power_pos k))
    ∙ add-mul-mod_self_right (m / 256 ^ k) x 256 in
    let t = lower_bytes k (x * 256) m in
    rw e (rw (h, t))

-- the bytes of what bytes write
pub bytes_back : (bs : List ℕ) → Small bs → bytes_of (length bs) (number bs) ≡ bs
bytes_back [] s = refl
bytes_back (b ∷ bs) s =
    let small : Small bs = λ i. s (suc i) in
    let h : (b * 256 ^ length bs + number bs) / 256 ^ length bs % 256 ≡ b = ap (λ y. y % 256) (digits_div b (number_lt bs small)) ∙ mod-eq_of_lt (s 0) in
    let t = lower_bytes (length bs) b (number bs) ∙ bytes_back bs small in
    rw (h, t)
