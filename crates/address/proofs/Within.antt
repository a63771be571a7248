-- The 4 or 32 bytes that an address names are all there, where it fits.
use Rattle.std.proofs.Common.{◌≡◌, ◌+◌, ◌*◌, ◌≤◌, true, arith}
use Rattle.std.proofs.lemmas.Bool.Decides.{nat_tests}
use Rattle.rules.specs.declared.Fields.{Fields}
use Rattle.rules.specs.Address.{zone, size, address_fits, position}

pub size_small : (f : Fields) → size f ≤ 32
size_small f = grind (arith, nat_tests)

pub position_small : (f : Fields) → position f ≤ 4 * f.param2
unfolding position
position_small f = grind (arith, nat_tests)

pub config_within : (f : Fields) → address_fits f ≡ true → zone f ≡ 0 → position f + size f ≤ 88
unfolding address_fits position
config_within f h z = grind (arith, nat_tests)

pub otp_within : (f : Fields) → address_fits f ≡ true → zone f ≡ 1 → position f + size f ≤ 64
unfolding address_fits position
otp_within f h z = grind (arith, nat_tests)

pub data_within : (f : Fields) → address_fits f ≡ true → (zone f ≡ 0 → ⊥) → (zone f ≡ 1 → ⊥) → position f + size f ≤ 512
unfolding address_fits position
data_within f h n m = grind (arith, nat_tests)
