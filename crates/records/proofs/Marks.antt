-- A mark is the first two bytes; fewer bytes, or another first byte, bear none.
use Rattle.std.proofs.Common.{◌≡◌, ℕ, ◌≤◌, ◌<◌, ◌&&◌, false, List, [], ◌∷◌, length, take, refl, arith}
use Rattle.std.proofs.lemmas.Bool.Decides.{nat_tests}
use Rattle.rules.specs.Words.{◌is◌, byte, equal}

pub mark_none : (l : List ℕ) (a b : ℕ) → length l < 2 → equal (take 2 l) (a ∷ b ∷ []) ≡ false
unfolding equal
mark_none [] a b h = refl
mark_none (x ∷ []) a b h = grind (arith, nat_tests)
mark_none (x ∷ y ∷ l) a b h = absurd (omega arith)

pub mark_two : (l : List ℕ) (a b : ℕ) → 2 ≤ length l → equal (take 2 l) (a ∷ b ∷ []) ≡ (byte 0 l is a && byte 1 l is b)
unfolding equal
mark_two [] a b h = absurd (omega arith)
mark_two (x ∷ []) a b h = absurd (omega arith)
mark_two (x ∷ y ∷ l) a b h = grind (arith, nat_tests)

pub mark_other : (l : List ℕ) (a b : ℕ) → (byte 0 l ≡ a → ⊥) → equal (take 2 l) (a ∷ b ∷ []) ≡ false
unfolding equal
mark_other [] a b h = refl
mark_other (x ∷ l) a b h = grind (arith, nat_tests)

pub ruleset marks = (mark_none, mark_two, mark_other)
