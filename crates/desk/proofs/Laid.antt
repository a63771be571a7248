-- The layout: bytes written over others, one part after the other, and the length of a state.
use Prim.Native.Nat.{ℕ, ◌+◌, ◌≤◌}
use mathlib.Core.Path.{◌≡◌, sym, ◌∙◌}
use mathlib.Core.Bool.{true}
use mathlib.Core.List.{List, ◌++◌}
use native.Mathlib.Omega.{arith}
use lib.ListN.{length, take, length-append, length-take, length-drop}
use lib.Seq.{take_all}
use borrow.Author.Tests.{eqb-true, eq-eqb}
use borrow.Rule.Slice.PartMut.{put_mid}
use Rattle.std.proofs.lemmas.Slice.{take-put_mid}
use Rattle.rules.proofs.Tests.{and_left}
use Rattle.desk.specs.Desk.{in_range, is_state}

pub state_length : (s : List ℕ) → is_state s ≡ true → length s ≡ 702
unfolding is_state
state_length s h = eqb-true (length s) 702 (and_left _ _ h)

pub state_made : (s : List ℕ) → length s ≡ 702 → in_range s ≡ true → is_state s ≡ true
unfolding is_state
state_made s h k = rw (eq-eqb _ _ h) k

-- ---- bytes written over others

laid_next : (n m : ℕ) (x p : List ℕ) → length x ≡ 702 → length p ≡ m → n + m ≤ 702
    → (length (put_mid n m x p) ≡ 702) × (take (n + m) (put_mid n m x p) ≡ take n x ++ p)
laid_next n m x p h e k =
    (simp (length-append, length-take, length-drop) (omega arith), take-put_mid n m x p (n + m) (omega arith) (omega arith))

-- five parts, one after the other
module _ (s a b d k e : List ℕ) (h : length s ≡ 702) (ha : length a ≡ 88) (hb : length b ≡ 64) (hd : length d ≡ 512) (hk : length k ≡ 32) (he : length e ≡ 6) where
  pub laid : put_mid 696 6 (put_mid 664 32 (put_mid 152 512 (put_mid 88 64 (put_mid 0 88 s a) b) d) k) e ≡ a ++ b ++ d ++ k ++ e
  laid =
      let x1 : List ℕ = put_mid 0 88 s a in
      let x2 : List ℕ = put_mid 88 64 x1 b in
      let x3 : List ℕ = put_mid 152 512 x2 d in
      let x4 : List ℕ = put_mid 664 32 x3 k in
      let x5 : List ℕ = put_mid 696 6 x4 e in
      let r1 = laid_next 0 88 s a h ha (omega arith) in
      let r2 = laid_next 88 64 x1 b r1.0 hb (omega arith) in
      let r3 = laid_next 152 512 x2 d r2.0 hd (omega arith) in
      let r4 = laid_next 664 32 x3 k r3.0 hk (omega arith) in
      let r5 = laid_next 696 6 x4 e r4.0 he (omega arith) in
      sym (take_all 702 x5 (omega arith)) ∙ r5.1 ∙ rw (r4.1, r3.1, r2.1, r1.1)
