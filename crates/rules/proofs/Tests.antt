-- Tests: both halves of an `&&` or an `||`, an `iff` that holds, a `⇒` with one half known, a bound by cases, a bit that is not
-- there.
use Rattle.std.specs.Prelude.{if◌then◌else◌}
use Prim.Native.Nat.{ℕ, ◌^◌, ◌≤◌, ◌<◌}
use mathlib.Core.Path.{◌≡◌, refl, sym, ◌∙◌}
use mathlib.Core.Bool.{Bool, true, false, not, ◌&&◌, ◌||◌}
use native.Mathlib.Omega.{arith}
use native.Mathlib.Nat.{div-eq_of_lt, lt_of_lt_of_le, pow-le-pow_right}
use Rattle.wire.proofs.Cases.{if_either}
use Rattle.rules.specs.Words.{◌⇒◌, ◌iff◌, bit}

pub and_left : (a b : Bool) → (a && b) ≡ true → a ≡ true
and_left true b h = refl
and_left false b h = h

pub and_right : (a b : Bool) → (a && b) ≡ true → b ≡ true
and_right true b h = h
and_right false b h = cc

pub or_left : (a b : Bool) → (a || b) ≡ false → a ≡ false
or_left true b h = h
or_left false b h = refl

pub or_right : (a b : Bool) → (a || b) ≡ false → b ≡ false
or_right true b h = cc
or_right false b h = h

-- what an `||` gives where its second half does not hold
pub or_first : (a b : Bool) → (a || b) ≡ true → b ≡ false → a ≡ true
or_first true b h k = refl
or_first false b h k = sym k ∙ h

pub then_true : (a : Bool) → (a ⇒ true) ≡ true
then_true true = refl
then_true false = refl

pub then_false : (a : Bool) → (a ⇒ false) ≡ not a
then_false true = refl
then_false false = refl

-- a bound on both cases
pub if_within : (t : Bool) {a b n : ℕ} → a ≤ n → b ≤ n → (if t then a else b) ≤ n
if_within t {n = n} ha hb = if_either (λ (m : ℕ). m ≤ n) t ha hb

-- a number below 2 ^ k has no bit from k on
pub bit_none : (n x k : ℕ) → x < 2 ^ k → k ≤ n → bit n x ≡ false
bit_none n x k h l = rw (div-eq_of_lt {n = x} {m = 2 ^ n} (lt_of_lt_of_le h (pow-le-pow_right (omega arith) l)))

pub iff_same : (a b : Bool) → (a iff b) ≡ true → a ≡ b
iff_same true true h = refl
iff_same false false h = refl
iff_same true false h = cc
iff_same false true h = cc
