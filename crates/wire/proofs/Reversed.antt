-- Sixteen bits in reverse order. Reversal is additive over XOR, so each law on it holds once it holds at the sixteen single bits, which the checker computes.
use Prim.Native.Nat.{ℕ, zero, suc, ◌+◌, ◌*◌, ◌/◌, ◌%◌, ◌^◌, ◌<◌}
use mathlib.Core.Path.{◌≡◌, refl, sym, ◌∙◌}
use native.Mathlib.Nat.{mod-lt, zero-lt-suc, zero-add, pow-suc}
use native.Mathlib.Omega.{arith}
use lib.Arith.{digits_lt}
use lib.Bits.{xor_shr, xor_mod, xor_block}
use Rattle.std.specs.Int.{reverse_bits_onto, reverse_bits}
use Rattle.std.proofs.Common.{w16}
use Rattle.wire.specs.Reversed.{reversed}
use Rattle.wire.proofs.Xor.{Additive, times_power, low_sixteen, agree}

pub reversed_lt : (n x : ℕ) → reversed n x < 2 ^ n
unfolding reversed
reversed_lt zero x = omega arith
reversed_lt (suc n) x = omega (arith, digits_lt {m = 2} {c = 2 ^ n} (mod-lt x (zero-lt-suc 1)) (reversed_lt n (x / 2)))

pub reversed_additive : (n : ℕ) → Additive (reversed n)
unfolding reversed
reversed_additive zero a b = refl
reversed_additive (suc n) a b =
    let u = reversed n (a / 2) in
    let v = reversed n (b / 2) in
    rw (xor_shr a b 1, xor_mod a b 1, reversed_additive n (a / 2) (b / 2))
    (sym (xor_block n (a % 2) (b % 2) u v (reversed_lt n (a / 2)) (reversed_lt n (b / 2))))

-- ---- by the library: `reverse_bits` puts each bit below those that it has

moved : (a b p r : ℕ) → (a * 2 + b) * p + r ≡ a * (p * 2) + (b * p + r)
moved a b p r = grind arith

onto : (n x a : ℕ) → reverse_bits_onto n x a ≡ a * 2 ^ n + reversed n x
unfolding reverse_bits_onto reversed
onto zero x a = omega arith
onto (suc n) x a = onto n (x / 2) (a * 2 + x % 2) ∙ rw (pow-suc 2 n) (moved a (x % 2) (2 ^ n) (reversed n (x / 2)))

pub by_library : (x : ℕ) → reverse_bits w16 x ≡ reversed 16 x
by_library x = onto 16 x 0 ∙ zero-add (reversed 16 x)

-- ---- reversal undoes itself, turns up into down, and the top bit into the lowest

pub twice : (x : ℕ) → x < 2 ^ 16 → reversed 16 (reversed 16 x) ≡ x
unfolding reversed
twice = agree (λ x. reversed 16 (reversed 16 x)) (λ x. x) (λ a b. simp (reversed_additive 16)) (λ a b. refl) 16 refl

pub up_down : (x : ℕ) → x < 2 ^ 16 → reversed 16 (x * 2 % 2 ^ 16) ≡ reversed 16 x / 2
unfolding reversed
up_down =
    agree (λ x. reversed 16 (x * 2 % 2 ^ 16)) (λ x. reversed 16 x / 2)
    (λ a b. rw (times_power 1 a b, low_sixteen (a * 2) (b * 2), reversed_additive 16))
    (λ a b. rw (reversed_additive 16 a b, xor_shr (reversed 16 a) (reversed 16 b) 1)) 16 refl

pub top_low : (x : ℕ) → x < 2 ^ 16 → x / 0x8000 ≡ reversed 16 x % 2
unfolding reversed
top_low =
    agree (λ x. x / 0x8000) (λ x. reversed 16 x % 2) (λ a b. xor_shr a b 15)
    (λ a b. rw (reversed_additive 16 a b, xor_mod (reversed 16 a) (reversed 16 b) 1)) 16 refl
