-- What the stores of `put_fitting` leave in the buffer: the count, then header and data, then their check value.
use Prim.Native.Nat.{ℕ, suc, ◌+◌, ◌-◌, ◌/◌, ◌%◌, ◌≤◌}
use mathlib.Core.Path.{◌≡◌}
use mathlib.Core.List.{List, [], ◌∷◌, ◌++◌}
use native.Mathlib.Omega.{arith}
use borrow.Rule.Slice.PartMut.{put_mid}
use lib.ListN.{length, take, drop, set}
use Rattle.wire.specs.Wire.{low_first, check_from}
use Rattle.wire.proofs.Frame.{begun, framed}
use Rattle.blocks.specs.Blocks.{command_block}

-- the data, and then count and header before it, are what `framed` speaks of
joined : (o input : List ℕ) (k a b c d : ℕ) → 5 ≤ length o → k ≡ length (a ∷ b ∷ c ∷ d ∷ input) + 3
    → put_mid 1 4 (set (put_mid 5 (length input) o input) 0 k) (a ∷ b ∷ c ∷ d ∷ []) ≡ begun o (a ∷ b ∷ c ∷ d ∷ input)
joined (x ∷ x₁ ∷ x₂ ∷ x₃ ∷ x₄ ∷ o) input k a b c d h e =
    let m : ℕ = length input in
    let i : suc (suc (suc (suc m))) + 1 - 1 ≡ suc (suc (suc (suc m))) = omega arith in
    rw (e, i)
joined [] input k a b c d h e = absurd (omega arith)
joined (x ∷ []) input k a b c d h e = absurd (omega arith)
joined (x ∷ x₁ ∷ []) input k a b c d h e = absurd (omega arith)
joined (x ∷ x₁ ∷ x₂ ∷ []) input k a b c d h e = absurd (omega arith)
joined (x ∷ x₁ ∷ x₂ ∷ x₃ ∷ []) input k a b c d h e = absurd (omega arith)

module _ (opcode param1 param2 : ℕ) (input o : List ℕ) where
  -- the buffer before the check value is stored
  abbrev pub unchecked : List ℕ
  unchecked =
      put_mid 1 4 (set (put_mid 5 (length input) o input) 0 (length input + 7)) (opcode ∷ param1 ∷ low_first param2)

  pub stored : {c : ℕ} → length input + 7 ≤ length o → c ≡ check_from 0 (take (length input + 5) unchecked)
      → put_mid (length input + 5) (length input + 7 - (length input + 5)) unchecked (low_first c)
      ≡ command_block opcode param1 param2 input ++ drop (length input + 7) o
  unfolding command_block
  stored {c} h e =
      let p : List ℕ = opcode ∷ param1 ∷ low_first param2 ++ input in
      let i : length input + 5 ≡ length p + 1 = omega arith in
      let k : length input + 7 ≡ length p + 3 = omega arith in
      let all = joined o input (length input + 7) opcode param1 (param2 % 256) (param2 / 256) (omega arith) k in
      rw (all, i, k) (framed o p c (omega arith) (rw (all, i) at e))
