-- The length that is given tells whether the data fitted.
use Rattle.std.specs.Prelude.{if◌then◌else◌}
use Prim.Native.Nat.{ℕ, ◌+◌}
use mathlib.Core.Path.{◌≡◌, refl}
use mathlib.Core.Bool.{Bool, true, false}
use mathlib.Core.List.{List}
use native.Mathlib.Omega.{arith}
use lib.ListN.{length}
use Rattle.blocks.specs.Blocks.{fits, block_length}

none : (t : Bool) (n : ℕ) → (if t then n + 7 else 0) ≡ 0 → t ≡ false
none true n e = absurd (omega arith)
none false n e = refl

some : (t : Bool) (n : ℕ) → ((if t then n + 7 else 0) ≡ 0 → ⊥) → t ≡ true
some true n e = refl
some false n e = absurd (e refl)

pub unfit : (input buffer : List ℕ) → block_length input buffer ≡ 0 → fits input buffer ≡ false
unfolding block_length
unfit input buffer e = none (fits input buffer) (length input) e

pub fit : (input buffer : List ℕ) → (block_length input buffer ≡ 0 → ⊥) → fits input buffer ≡ true
unfolding block_length
fit input buffer e = some (fits input buffer) (length input) e
