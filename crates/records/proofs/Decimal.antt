-- The digits that are printed are a part of five digits and a line feed.
use Prim.Native.Nat.{ℕ, ◌-◌, ◌/◌, ◌≤◌}
use mathlib.Core.Path.{◌≡◌}
use mathlib.Core.List.{[], ◌∷◌, ◌++◌}
use native.Mathlib.Omega.{arith}
use lib.ListN.{take, drop, length-drop}
use lib.Seq.{take_all, drop-append-le}
use Rattle.rules.specs.Words.{◌under◌}
use Rattle.rules.proofs.Tests.{if_within}
use Rattle.records.specs.Records.{digit, zeros_in_front, five_digits, decimal}

pub zeros_few : (n : ℕ) → zeros_in_front n ≤ 4
zeros_few n =
    if_within (n under 10) (omega arith) (if_within (n under 100) (omega arith) (if_within (n under 1000) (omega arith) (if_within (n under 10000) (omega arith) (omega arith))))

-- five digits and a line feed, from the first digit that is no zero in front
pub printed : (n : ℕ) {from a b d e f : ℕ} → from ≡ zeros_in_front n
    → a ≡ digit (n / 10000) → b ≡ digit (n / 1000) → d ≡ digit (n / 100) → e ≡ digit (n / 10) → f ≡ digit n
    → take (6 - from) (drop from (a ∷ b ∷ d ∷ e ∷ f ∷ 10 ∷ [])) ≡ decimal n ++ (10 ∷ [])
unfolding decimal
printed n {from} zeros p q r s t =
    let few : from ≤ 5 = omega (arith, zeros_few n) in
    let digits = five_digits n ++ (10 ∷ []) in
    rw (p, q, r, s, t, take_all (6 - from) (drop from digits) (simp length-drop (omega arith)), drop-append-le from (five_digits n) (10 ∷ []) few, zeros)
