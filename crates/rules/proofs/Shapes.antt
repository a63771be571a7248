-- What the shapes of Read and Write say: the address fits, and a value is as long as its address asks, or 32 bytes with a MAC.
use Rattle.std.specs.Prelude.{if◌then◌else◌}
use Prim.Native.Nat.{ℕ}
use mathlib.Core.Path.{◌≡◌, refl}
use mathlib.Core.Bool.{Bool, true, false, ◌&&◌, ◌||◌}
use mathlib.Core.List.{List, [], ◌∷◌}
use native.Mathlib.Omega.{arith}
use borrow.Author.Tests.{eqb-true}
use lib.ListN.{length}
use Rattle.rules.specs.declared.Fields.{Fields}
use Rattle.rules.specs.Words.{◌is◌, bit, only_bits}
use Rattle.rules.specs.Address.{size, address_fits}
use Rattle.rules.specs.Read.{read_shape}
use Rattle.rules.specs.Write.{write_shape, has_mac}
use Rattle.rules.proofs.Tests.{and_left, and_right, or_first}

pub read_fits : (f : Fields) (input : List ℕ) → read_shape f input ≡ true → address_fits f ≡ true
unfolding read_shape
read_fits f input h =
    let bits = only_bits (7 ∷ 1 ∷ 0 ∷ []) f.param1 in
    and_right bits (address_fits f) (and_left (bits && address_fits f) (length input is 0) h)

length_fits : Bool → ℕ → Bool
length_fits t n = if t then n is 32 || n is 64 else n is 4

write_shape_fits : (f : Fields) (input : List ℕ) → write_shape f input ≡ true
    → (address_fits f ≡ true) × (length_fits (bit 7 f.param1) (length input) ≡ true)
unfolding write_shape length_fits
write_shape_fits f input h =
    let bits = only_bits (7 ∷ 6 ∷ 1 ∷ 0 ∷ []) f.param1 in
    let fits = length_fits (bit 7 f.param1) (length input) in
    (and_right bits (address_fits f) (and_left (bits && address_fits f) fits h), and_right (bits && address_fits f) fits h)

pub write_fits : (f : Fields) (input : List ℕ) → write_shape f input ≡ true → address_fits f ≡ true
write_fits f input h = (write_shape_fits f input h).0

clear_length : (t : Bool) (n : ℕ) → length_fits t n ≡ true → (n is 64) ≡ false → n ≡ (if t then 32 else 4)
unfolding length_fits
clear_length true n h k = eqb-true n 32 (or_first (n is 32) (n is 64) h k)
clear_length false n h k = eqb-true n 4 h

pub size_clear : (f : Fields) (input : List ℕ) → write_shape f input ≡ true → has_mac input ≡ false → length input ≡ size f
size_clear f input h k = clear_length (bit 7 f.param1) (length input) (write_shape_fits f input h).1 k

mac_length : (t : Bool) (n : ℕ) → length_fits t n ≡ true → n ≡ 64 → ◌≡◌ {A = ℕ} (if t then 32 else 4) 32
unfolding length_fits
mac_length true n h k = refl
mac_length false n h k = omega (arith, eqb-true n 4 h)

pub size_mac : (f : Fields) (input : List ℕ) → write_shape f input ≡ true → has_mac input ≡ true → size f ≡ 32
size_mac f input h k = mac_length (bit 7 f.param1) (length input) (write_shape_fits f input h).1 (eqb-true (length input) 64 k)
