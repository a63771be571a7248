-- Laws of XOR. A function is additive where it takes XOR to XOR; two such functions that are equal at the single bits 1, 2, 4, .. are equal.
use Prim.Native.Nat.{ℕ, zero, suc, ◌+◌, ◌*◌, ◌/◌, ◌%◌, ◌^◌, ◌<◌}
use mathlib.Core.Path.{◌≡◌, refl, sym, ◌∙◌}
use mathlib.Core.Bool.{Bool, true, ◌&&◌, and-eq-true_iff}
use native.Mathlib.Nat.{mod-lt, not-suc-le-zero, le_of_suc-le-suc, add-zero, zero-mul, one-mul, div-lt_iff_lt-mul}
use native.Mathlib.Omega.{arith}
use lib.Arith.{bin_ind, lt-one}
use lib.Pow.{split, pow_pos}
use lib.Dec.{eqb}
use borrow.Author.Tests.{eqb-true}
use lib.Bits.{bit_xor, bit_and, xor_shr, xor_mod, xor_block, xor_zero_r, xor_comm, xor_self, xor_shifted, and_shr, and_mod}
use lib.Count.{ones, ones_step}

-- ---- what holds of 0 and 1 holds of a bit, and of a number's lowest bit

pub on_bit : (P : ℕ → Type 0) → P 0 → P 1 → (x : ℕ) → x < 2 → P x
on_bit P p q zero h = p
on_bit P p q (suc zero) h = q
on_bit P p q (suc (suc x)) h = absurd (not-suc-le-zero (le_of_suc-le-suc (le_of_suc-le-suc h)))

low : (P : ℕ → Type 0) → P 0 → P 1 → (x : ℕ) → P (x % 2)
low P p q x = on_bit P p q (x % 2) (omega arith)

-- ---- XOR is associative, and AND goes over it: bit by bit

half : (a b : ℕ) → bit_xor a b / 2 ≡ bit_xor (a / 2) (b / 2)
half a b = xor_shr a b 1

lowest : (a b : ℕ) → bit_xor a b % 2 ≡ bit_xor (a % 2) (b % 2)
lowest a b = xor_mod a b 1

by_halves : {x y : ℕ} → x / 2 ≡ y / 2 → x % 2 ≡ y % 2 → x ≡ y
by_halves {x} {y} h l = omega arith

pub xor_assoc : (a b c : ℕ) → bit_xor (bit_xor a b) c ≡ bit_xor a (bit_xor b c)
xor_assoc =
    bin_ind (λ (n : ℕ). (b c : ℕ) → bit_xor (bit_xor n b) c ≡ bit_xor n (bit_xor b c)) (λ b c. refl)
    (λ n ih b c. by_halves (simp half (ih (b / 2) (c / 2))) (simp lowest (bits n b c)))
  where
    bits : (a b c : ℕ) → bit_xor (bit_xor (a % 2) (b % 2)) (c % 2) ≡ bit_xor (a % 2) (bit_xor (b % 2) (c % 2))
    bits a b c =
        low (λ (x : ℕ). bit_xor (bit_xor x (b % 2)) (c % 2) ≡ bit_xor x (bit_xor (b % 2) (c % 2))) refl
        (low (λ (y : ℕ). bit_xor (bit_xor 1 y) (c % 2) ≡ bit_xor 1 (bit_xor y (c % 2))) refl
        (low (λ (z : ℕ). bit_xor (bit_xor 1 1) z ≡ bit_xor 1 (bit_xor 1 z)) refl refl c) b) a

pub and_xor : (a b m : ℕ) → bit_and (bit_xor a b) m ≡ bit_xor (bit_and a m) (bit_and b m)
and_xor =
    bin_ind (λ (n : ℕ). (b m : ℕ) → bit_and (bit_xor n b) m ≡ bit_xor (bit_and n m) (bit_and b m)) (λ b m. refl)
    (λ n ih b m. by_halves (simp (half, and_half) (ih (b / 2) (m / 2))) (simp (lowest, and_lowest) (bits n b m)))
  where
    and_half : (a b : ℕ) → bit_and a b / 2 ≡ bit_and (a / 2) (b / 2)
    and_half a b = and_shr a b 1

    and_lowest : (a b : ℕ) → bit_and a b % 2 ≡ bit_and (a % 2) (b % 2)
    and_lowest a b = and_mod a b 1

    bits : (a b m : ℕ) → bit_and (bit_xor (a % 2) (b % 2)) (m % 2) ≡ bit_xor (bit_and (a % 2) (m % 2)) (bit_and (b % 2) (m % 2))
    bits a b m =
        low (λ (x : ℕ). bit_and (bit_xor x (b % 2)) (m % 2) ≡ bit_xor (bit_and x (m % 2)) (bit_and (b % 2) (m % 2))) refl
        (low (λ (y : ℕ). bit_and (bit_xor 1 y) (m % 2) ≡ bit_xor (bit_and 1 (m % 2)) (bit_and y (m % 2)))
        (low (λ (z : ℕ). bit_and (bit_xor 1 0) z ≡ bit_xor (bit_and 1 z) (bit_and 0 z)) refl refl m)
        (low (λ (z : ℕ). bit_and (bit_xor 1 1) z ≡ bit_xor (bit_and 1 z) (bit_and 1 z)) refl refl m) b) a

pub xor_left_comm : (a b c : ℕ) → bit_xor a (bit_xor b c) ≡ bit_xor b (bit_xor a c)
xor_left_comm a b c = rw (← xor_assoc a b c, xor_comm a b) (xor_assoc b a c)

-- both sides of an equation in one order
pub ruleset sorted = (xor_assoc, xor_comm, xor_left_comm)

-- ---- additive functions

abbrev pub Additive : (ℕ → ℕ) → Type 0
Additive f = (a b : ℕ) → f (bit_xor a b) ≡ bit_xor (f a) (f b)

pub times_power : (k : ℕ) → Additive (λ x. x * 2 ^ k)
times_power k a b = sym (simp add-zero at (xor_block k a b 0 0 (pow_pos k) (pow_pos k)))

pub low_sixteen : Additive (λ x. x % 2 ^ 16)
low_sixteen a b = xor_mod a b 16

-- a bit, times anything
pub bit_times : (k a b : ℕ) → a < 2 → b < 2 → bit_xor a b * k ≡ bit_xor (a * k) (b * k)
bit_times k a b ha hb =
    on_bit (λ (x : ℕ). bit_xor x b * k ≡ bit_xor (x * k) (b * k)) (simp zero-mul)
    (on_bit (λ (y : ℕ). bit_xor 1 y * k ≡ bit_xor (1 * k) (y * k)) (simp (zero-mul, xor_zero_r)) (simp (zero-mul, xor_self)) b hb) a ha

-- whether the ones of a number are odd
pub odd_additive : Additive (λ x. ones x % 2)
unfolding ones
odd_additive =
    bin_ind (λ (n : ℕ). (b : ℕ) → ones (bit_xor n b) % 2 ≡ bit_xor (ones n % 2) (ones b % 2)) (λ b. refl)
    (λ n ih b. rw (step (bit_xor n b), step n, step b, half n b, lowest n b, ih (b / 2)) (simp sorted))
  where
    sum : (x y : ℕ) → (x + y) % 2 ≡ bit_xor (x % 2) (y % 2)
    sum x y =
        let e : (x + y) % 2 ≡ (x % 2 + y % 2) % 2 = omega arith in
        e
        ∙ low (λ (u : ℕ). (u + y % 2) % 2 ≡ bit_xor u (y % 2)) (low (λ (v : ℕ). (0 + v) % 2 ≡ v) refl refl y)
        (low (λ (v : ℕ). (1 + v) % 2 ≡ bit_xor 1 v) refl refl y) x

    step : (n : ℕ) → ones n % 2 ≡ bit_xor (n % 2) (ones (n / 2) % 2)
    step n =
        let e : n % 2 % 2 ≡ n % 2 = omega arith in
        rw (ones_step n, sum (n % 2) (ones (n / 2)), e)

-- ---- equal at the single bits, hence equal

-- the test that f and g are equal at 1, 2, 4, .. up to 2 ^ (n - 1)
abbrev pub same : (ℕ → ℕ) → (ℕ → ℕ) → ℕ → Bool
same f g zero = true
same f g (suc n) = eqb (f (2 ^ n)) (g (2 ^ n)) && same f g n

at_zero : (f : ℕ → ℕ) → Additive f → f 0 ≡ 0
at_zero f hf = hf 0 0 ∙ xor_self (f 0)

module _ (f g : ℕ → ℕ) (hf : Additive f) (hg : Additive g) where
  pub agree : (n : ℕ) → same f g n ≡ true → (x : ℕ) → x < 2 ^ n → f x ≡ g x
  agree zero e x h = rw (lt-one h, at_zero f hf, at_zero g hg)
  agree (suc n) e x h =
      let p = (and-eq-true_iff (eqb (f (2 ^ n)) (g (2 ^ n))) (same f g n)).0 e in
      let r : ℕ = x % 2 ^ n in
      let rest : f r ≡ g r = agree n p.1 r (mod-lt x (pow_pos n)) in
      let parts : x ≡ bit_xor (x / 2 ^ n * 2 ^ n) r = sym (xor_shifted (x / 2 ^ n) n r (mod-lt x (pow_pos n)) ∙ split x n) in
      let bit : x / 2 ^ n < 2 = (div-lt_iff_lt-mul (pow_pos n)).1 (omega arith) in
      let top = eqb-true (f (2 ^ n)) (g (2 ^ n)) p.0 in
      rw parts
      (on_bit (λ (t : ℕ). f (bit_xor (t * 2 ^ n) r) ≡ g (bit_xor (t * 2 ^ n) r)) (rw zero-mul rest) (rw (one-mul, hf, hg) (cc)) (x / 2 ^ n) bit)
