-- "Fields not named must be zero", as code tests it: a mask leaves a byte as it is exactly where only the named bits are set.
use Prim.Native.Nat.{ℕ, zero, suc, ◌<◌}
use mathlib.Core.Path.{◌≡◌, refl, ap, ◌∙◌}
use mathlib.Core.Logic.{⊎_elim}
use mathlib.Core.Bool.{Bool, true, ◌&&◌}
use mathlib.Core.List.{List, [], ◌∷◌}
use native.Mathlib.Nat.{eq-or-lt_of_le, le_of_suc-le-suc, not-suc-le-zero}
use lib.Bits.{bit_and}
use Rattle.rules.specs.Words.{◌is◌, ◌iff◌, named, only_bits}
use Rattle.rules.proofs.Tests.{and_left, and_right, iff_same}

-- a test passes at each number below n
abbrev below : (ℕ → Bool) → ℕ → Bool
below f zero = true
below f (suc n) = f n && below f n

below_at : (f : ℕ → Bool) (n : ℕ) → below f n ≡ true → (x : ℕ) → x < n → f x ≡ true
below_at f zero t x h = absurd (not-suc-le-zero h)
below_at f (suc n) t x h =
    ⊎_elim (λ (e : x ≡ n). ap f e ∙ and_left (f n) (below f n) t)
    (λ (l : x < n). below_at f n (and_right (f n) (below f n) t) x l)
    (eq-or-lt_of_le (le_of_suc-le-suc h))

-- at one byte, the mask says what the list of bits says
abbrev agrees : List ℕ → ℕ → ℕ → Bool
agrees ns mask x = bit_and x mask is x iff only_bits ns x

masked : (ns : List ℕ) (mask : ℕ) → below (agrees ns mask) 256 ≡ true → (x : ℕ) → x < 256 → (bit_and x mask is x) ≡ only_bits ns x
masked ns mask t x h = iff_same (bit_and x mask is x) (only_bits ns x) (below_at (agrees ns mask) 256 t x h)

pub mac_mask : (x : ℕ) → x < 256 → (bit_and x 0x77 is x) ≡ only_bits (0 ∷ 1 ∷ 2 ∷ 4 ∷ 5 ∷ 6 ∷ []) x
unfolding named only_bits
mac_mask = masked (0 ∷ 1 ∷ 2 ∷ 4 ∷ 5 ∷ 6 ∷ []) 0x77 refl

pub check_mac_mask : (x : ℕ) → x < 256 → (bit_and x 0x27 is x) ≡ only_bits (0 ∷ 1 ∷ 2 ∷ 5 ∷ []) x
unfolding named only_bits
check_mac_mask = masked (0 ∷ 1 ∷ 2 ∷ 5 ∷ []) 0x27 refl

pub derive_key_mask : (x : ℕ) → x < 256 → (bit_and x 0x04 is x) ≡ only_bits (2 ∷ []) x
unfolding named only_bits
derive_key_mask = masked (2 ∷ []) 0x04 refl

pub read_mask : (x : ℕ) → x < 256 → (bit_and x 0x83 is x) ≡ only_bits (7 ∷ 1 ∷ 0 ∷ []) x
unfolding named only_bits
read_mask = masked (7 ∷ 1 ∷ 0 ∷ []) 0x83 refl

pub write_mask : (x : ℕ) → x < 256 → (bit_and x 0xC3 is x) ≡ only_bits (7 ∷ 6 ∷ 1 ∷ 0 ∷ []) x
unfolding named only_bits
write_mask = masked (7 ∷ 6 ∷ 1 ∷ 0 ∷ []) 0xC3 refl

pub lock_mask : (x : ℕ) → x < 256 → (bit_and x 0x81 is x) ≡ only_bits (0 ∷ 7 ∷ []) x
unfolding named only_bits
lock_mask = masked (0 ∷ 7 ∷ []) 0x81 refl
