-- The register held in reverse order: what bits do to it one by one, that eight at once do the same, and what the bytes of a list do.
use Rattle.std.specs.Prelude.{if◌then◌else◌, fold}
use Prim.Native.Nat.{ℕ, zero, suc, ◌*◌, ◌/◌, ◌%◌, ◌^◌, ◌<◌}
use mathlib.Core.Path.{◌≡◌, refl, sym, ap, ◌∙◌}
use mathlib.Core.List.{List, [], ◌∷◌}
use native.Mathlib.Omega.{arith}
use lib.Arith.{lt-one}
use lib.Bits.{bit_xor, xor_shr, xor_mod, xor_lt, xor_zero_r}
use lib.Count.{ones, ones_in}
use lib.Dec.{eqb}
use Rattle.wire.specs.Wire.{bit_in, bits_in, check_from}
use Rattle.wire.specs.Reversed.{reversed}
use Rattle.wire.proofs.Cases.{if_either}
use Rattle.wire.proofs.Xor.{on_bit, sorted, Additive, times_power, low_sixteen, bit_times, odd_additive, agree}
use Rattle.wire.proofs.Reversed.{reversed_lt, reversed_additive, twice, up_down, top_low}

-- ---- the definition's step: 16 bits stay 16 bits, and 8005 is XORed in as often as the two bits differ

bit_in_lt : (c b : ℕ) → bit_in c b < 2 ^ 16
unfolding bit_in
bit_in_lt c b =
    let up : ℕ = c * 2 % 2 ^ 16 in
    if_either (λ (r : ℕ). r < 2 ^ 16) (eqb (c / 0x8000) b) (omega arith) (xor_lt 16 up 0x8005 (omega arith) (omega arith))

bits_in_lt : (n c x : ℕ) → c < 2 ^ 16 → bits_in n c x < 2 ^ 16
unfolding bits_in
bits_in_lt zero c x h = h
bits_in_lt (suc n) c x h = bits_in_lt n (bit_in c (x % 2)) (x / 2) (bit_in_lt c (x % 2))

bit_enters : (c b : ℕ) → c < 2 ^ 16 → b < 2 → bit_in c b ≡ bit_xor (c * 2 % 2 ^ 16) (bit_xor (c / 0x8000) b * 0x8005)
unfolding bit_in
bit_enters c b hc hb =
    let u : ℕ = c * 2 % 2 ^ 16 in
    let same : u ≡ bit_xor u 0 = sym (xor_zero_r u) in
    on_bit (λ (t : ℕ). if eqb t b then u else bit_xor u 0x8005 ≡ bit_xor u (bit_xor t b * 0x8005))
    (on_bit (λ (b : ℕ). if eqb 0 b then u else bit_xor u 0x8005 ≡ bit_xor u (bit_xor 0 b * 0x8005)) same refl b hb)
    (on_bit (λ (b : ℕ). if eqb 1 b then u else bit_xor u 0x8005 ≡ bit_xor u (bit_xor 1 b * 0x8005)) refl same b hb)
    (c / 0x8000) (omega arith)

-- ---- the same step in reverse order, on the register with the bits that are still to enter XORed in

abbrev down : ℕ → ℕ
down z = bit_xor (z / 2) (z % 2 * 0xA001)

unfoldable downs : ℕ → ℕ → ℕ
downs zero z = z
downs (suc n) z = downs n (down z)

polynomial : (b : ℕ) → b < 2 → reversed 16 (b * 0x8005) ≡ b * 0xA001
unfolding reversed
polynomial = on_bit (λ (b : ℕ). reversed 16 (b * 0x8005) ≡ b * 0xA001) refl refl

bit_down : (c x : ℕ) → c < 2 ^ 16 → bit_xor (reversed 16 (bit_in c (x % 2))) (x / 2) ≡ down (bit_xor (reversed 16 c) x)
bit_down c x h =
    let q : ℕ = reversed 16 c in
    let v : bit_xor (c / 0x8000) (x % 2) ≡ bit_xor q x % 2 = rw (top_low c h) (sym (xor_mod q x 1)) in
    let p = polynomial (bit_xor q x % 2) (omega arith) in
    rw (bit_enters c (x % 2) h (omega arith), v, reversed_additive 16, up_down c h, p, xor_shr q x 1) (simp sorted)

bits_down : (n c x : ℕ) → c < 2 ^ 16 → x < 2 ^ n → reversed 16 (bits_in n c x) ≡ downs n (bit_xor (reversed 16 c) x)
unfolding bits_in downs
bits_down zero c x hc hx = rw (lt-one hx) (sym (xor_zero_r (reversed 16 c)))
bits_down (suc n) c x hc hx =
    bits_down n (bit_in c (x % 2)) (x / 2) (bit_in_lt c (x % 2)) (omega arith) ∙ ap (downs n) (bit_down c x hc)

-- ---- eight such steps at once, as `byte_in` computes them: both are additive, so the sixteen single bits decide

abbrev pub eight : ℕ → ℕ
eight z =
    let t : ℕ = z % 2 ^ 8 in
    bit_xor (bit_xor (bit_xor (z / 2 ^ 8) (t * 2 ^ 6 % 2 ^ 16)) (t * 2 ^ 7 % 2 ^ 16)) (ones t % 2 * 0xC001)

down_additive : Additive down
down_additive a b =
    rw (xor_shr a b 1, xor_mod a b 1, bit_times 0xA001 (a % 2) (b % 2) (omega arith) (omega arith)) (simp sorted)

downs_additive : (n : ℕ) → Additive (downs n)
unfolding downs
downs_additive zero a b = refl
downs_additive (suc n) a b = rw (down_additive a b, downs_additive n (down a) (down b))

eight_additive : Additive eight
eight_additive a b =
    let s : ℕ = a % 2 ^ 8 in
    let t : ℕ = b % 2 ^ 8 in
    let odd = bit_times 0xC001 (ones s % 2) (ones t % 2) (omega arith) (omega arith) in
    rw (xor_shr a b 8, xor_mod a b 8, times_power 6 s t, times_power 7 s t, odd_additive s t, odd) (simp (low_sixteen, sorted))

downs_eight : (z : ℕ) → z < 2 ^ 16 → downs 8 z ≡ eight z
unfolding downs ones ones_in
downs_eight = agree (downs 8) eight (downs_additive 8) eight_additive 16 refl

-- ---- what `byte_in` promises, and the way back from it

pub byte_enters : (q x : ℕ) → q < 2 ^ 16 → x < 256 → eight (bit_xor q x) ≡ reversed 16 (bits_in 8 (reversed 16 q) x)
byte_enters q x hq hx =
    sym (bits_down 8 (reversed 16 q) x (reversed_lt 16 q) hx ∙ ap (λ (r : ℕ). downs 8 (bit_xor r x)) (twice q hq)
    ∙ downs_eight (bit_xor q x) (xor_lt 16 q x hq (omega arith)))

pub byte_left : (q x : ℕ) → reversed 16 (reversed 16 (bits_in 8 (reversed 16 q) x)) ≡ bits_in 8 (reversed 16 q) x
byte_left q x = twice (bits_in 8 (reversed 16 q) x) (bits_in_lt 8 (reversed 16 q) x (reversed_lt 16 q))

-- and so do the bytes of a list, one after another
abbrev pub enters : ℕ → ℕ → ℕ
enters q x = reversed 16 (bits_in 8 (reversed 16 q) x)

pub all_enter : (q : ℕ) (xs : List ℕ) → reversed 16 (fold enters q xs) ≡ check_from (reversed 16 q) xs
unfolding check_from
all_enter q [] = refl
all_enter q (x ∷ xs) = all_enter (enters q x) xs ∙ ap (λ (c : ℕ). check_from c xs) (byte_left q x)
