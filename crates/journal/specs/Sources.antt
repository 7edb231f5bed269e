-- The word that names a record, and bytes in hexadecimal digits.
use Rattle.std.specs.Prelude.{◌≡◌, ℕ, ◌+◌, ◌-◌, ◌*◌, Bool, false, cond, ◌&&◌, List, [], ◌∷◌, length, drop, is_some, Some, None, codes, Option, ◌==◌, nat_le}
use Rattle.std.specs.Str.{bytes_eq}

-- the second of two words, where the first is `sign`
abbrev pub record_word : List (List ℕ) → Option (List ℕ)
record_word [] = None
record_word (w ∷ []) = None
record_word (w ∷ v ∷ []) = cond (bytes_eq w (codes "sign")) (Some v) None
record_word (w ∷ v ∷ u ∷ ws) = None

-- the word begins with `0x`
abbrev pub is_hex : List ℕ → Bool
is_hex [] = false
is_hex (a ∷ []) = false
is_hex (a ∷ b ∷ bs) = a == 48 && b == 120

-- 0 to 9, a to f, A to F
abbrev pub hex_digit : ℕ → Option ℕ
hex_digit b =
    cond (nat_le 48 b && nat_le b 57) (Some (b - 48))
    (cond (nat_le 97 b && nat_le b 102) (Some (b - 97 + 10))
    (cond (nat_le 65 b && nat_le b 70) (Some (b - 65 + 10))
    None))

abbrev pub is_hex_digit : ℕ → Bool
is_hex_digit b = is_some (hex_digit b)

abbrev pub both : {X Y Z : Type 0} → (X → Y → Z) → Option X → Option Y → Option Z
both f None p = None
both f (Some x) None = None
both f (Some x) (Some y) = Some (f x y)

-- the byte that two digits write
abbrev pub hex_byte : ℕ → ℕ → Option ℕ
hex_byte a b = both (λ h l. h * 16 + l) (hex_digit a) (hex_digit b)

-- the bytes that pairs of digits write
abbrev pub hex_bytes : List ℕ → Option (List ℕ)
hex_bytes [] = Some []
hex_bytes (a ∷ []) = None
hex_bytes (a ∷ b ∷ bs) = both (λ x xs. x ∷ xs) (hex_byte a b) (hex_bytes bs)

abbrev pub unhexed : List ℕ → Option (List ℕ)
unhexed w = cond (is_hex w) (hex_bytes (drop 2 w)) None

-- a word has two bytes before its digits, and two digits to a byte
abbrev pub Sized : List ℕ → Option (List ℕ) → Type 0
Sized w None = Unit {0}
Sized w (Some bs) = length w ≡ 2 + 2 * length bs
