-- Uses: the highest one bit of a byte, and where a use is stored.
use Prim.Native.Nat.{ℕ, zero, suc, ◌+◌, ◌-◌, ◌*◌, ◌^◌, ◌%◌, ◌≤◌, ◌<◌}
use mathlib.Core.Path.{◌≡◌}
use mathlib.Core.List.{List}
use native.Mathlib.Omega.{arith}
use native.Mathlib.Nat.{one-mul, mod-eq_of_lt, lt_of_le_of_lt}
use lib.Count.{count_leading_zeros, leading_top}
use Rattle.rules.specs.declared.Slot.{Slot}
use Rattle.rules.specs.Words.{◌is◌, byte}
use Rattle.rules.specs.State.{index}
use Rattle.rules.specs.Uses.{first_nonzero, use_at}
use Rattle.rules.proofs.Tests.{if_within}

-- the highest one bit of a byte: there is one, it is a byte, and the byte is no less
pub record Highest (b : ℕ) : Type 0 where
  pub there : count_leading_zeros 8 b ≤ 7
  pub shifted : 1 * 2 ^ (7 - count_leading_zeros 8 b) % 256 ≡ 2 ^ (7 - count_leading_zeros 8 b)
  pub within : 2 ^ (7 - count_leading_zeros 8 b) ≤ b

pub highest : (b : ℕ) → (b ≡ 0 → ⊥) → b < 256 → Highest b
highest b ne h =
    let t = leading_top 8 b (omega arith) h in
    let j : ℕ = t.0 in
    let ej : 7 - count_leading_zeros 8 b ≡ j = omega (arith, t.1) in
    let le : 2 ^ j ≤ b = t.2 in
    record {
      there = omega (arith, t.1);
      shifted = rw (ej, one-mul, mod-eq_of_lt {n = 2 ^ j} {m = 256} (lt_of_le_of_lt le h));
      within = rw ej le;
    }

first_within : (c : List ℕ) (at n : ℕ) → first_nonzero c at n ≤ at + n
unfolding first_nonzero
first_within c at zero = omega arith
first_within c at (suc n) = if_within (byte at c is 0) (omega (arith, first_within c (at + 1) n)) (omega arith)

-- a use is stored no further than LastKeyUse goes
pub use_within : (c : List ℕ) (k : Slot) → use_at c k ≤ 83
unfolding use_at
use_within c k = if_within (index k is 15) (first_within c 68 15) (omega arith)
