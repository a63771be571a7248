-- The small words of the rules: cases, tests of numbers, bits of a field, bytes of a zone.
use Rattle.std.specs.Prelude.{ℕ, ◌+◌, ◌-◌, ◌*◌, ◌/◌, ◌%◌, ◌^◌, Bool, true, false, ◌&&◌, get_or, take, drop, replicate, ltb, leb, eqb, if◌then◌else◌}
use Rattle.std.specs.Bool.{beq}
use mathlib.Core.List.{List, [], ◌∷◌, zip_with}
use Rattle.std.specs.Int.Bits.{bit_xor}

-- `a ⇒ b`: b is asked only where a holds; `a iff b`: both hold or neither
infixr 32 ◌⇒◌
abbrev pub ◌⇒◌ : Bool → Bool → Bool
a ⇒ b = if a then b else true

infix 40 ◌iff◌
abbrev pub ◌iff◌ : Bool → Bool → Bool
a iff b = beq a b

infix 50 ◌is◌
abbrev pub ◌is◌ : ℕ → ℕ → Bool
a is b = eqb a b

infix 50 ◌under◌
abbrev pub ◌under◌ : ℕ → ℕ → Bool
a under b = ltb a b

infix 50 ◌up_to◌
abbrev pub ◌up_to◌ : ℕ → ℕ → Bool
a up_to b = leb a b

-- bit n of a field
abbrev pub bit : ℕ → ℕ → Bool
bit n x = x / 2 ^ n % 2 is 1

-- "Fields not named must be zero": a field is no more than the bits that are named
unfoldable pub named : List ℕ → ℕ → ℕ
named [] x = 0
named (n ∷ ns) x = x / 2 ^ n % 2 * 2 ^ n + named ns x

unfoldable pub only_bits : List ℕ → ℕ → Bool
only_bits ns x = named ns x is x

-- the byte at a position, and the bytes from one position up to and with another, as in "SN4-7"
abbrev pub byte : ℕ → List ℕ → ℕ
byte at zone = get_or zone at 0

abbrev pub bytes : ℕ → ℕ → List ℕ → List ℕ
bytes from upto zone = take (upto + 1 - from) (drop from zone)

abbrev pub zeros : ℕ → List ℕ
zeros n = replicate n 0

-- two rows of bytes are equal; one row XOR another
unfoldable pub equal : List ℕ → List ℕ → Bool
equal [] [] = true
equal [] (y ∷ ys) = false
equal (x ∷ xs) [] = false
equal (x ∷ xs) (y ∷ ys) = x is y && equal xs ys

abbrev pub xor_row : List ℕ → List ℕ → List ℕ
xor_row a b = zip_with bit_xor a b
