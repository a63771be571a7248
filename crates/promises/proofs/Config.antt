-- The public functions of crate `config`.
use Rattle.config.proofs.key_of.Reads as key_of
use Rattle.config.proofs.only_bits.Reads as only-bits
use Rattle.config.proofs.param1_bit.Reads as param1-bit
use Rattle.config.proofs.slot_bit.Reads as slot-bit
use Rattle.config.proofs.write_key.Reads as write-key
use Rattle.config.proofs.read_key.Reads as read-key
use Rattle.config.proofs.check_mac_bit.Reads as check-mac-bit
use Rattle.config.proofs.config_locked.Reads as config-locked
use Rattle.config.proofs.values_locked.Reads as values-locked
use Rattle.config.proofs.both_locked.Reads as both-locked
use Rattle.promises.proofs.Fixed.{Fixed, fixed}

pub key_of_fixed : Fixed key_of.Pre key_of.Post
key_of_fixed = fixed

pub only_bits_fixed : Fixed only-bits.Pre only-bits.Post
only_bits_fixed = fixed

pub param1_bit_fixed : Fixed param1-bit.Pre param1-bit.Post
param1_bit_fixed = fixed

pub slot_bit_fixed : Fixed slot-bit.Pre slot-bit.Post
slot_bit_fixed = fixed

pub write_key_fixed : Fixed write-key.Pre write-key.Post
write_key_fixed = fixed

pub read_key_fixed : Fixed read-key.Pre read-key.Post
read_key_fixed = fixed

pub check_mac_bit_fixed : Fixed check-mac-bit.Pre check-mac-bit.Post
check_mac_bit_fixed = fixed

pub config_locked_fixed : Fixed config-locked.Pre config-locked.Post
config_locked_fixed = fixed

pub values_locked_fixed : Fixed values-locked.Pre values-locked.Post
values_locked_fixed = fixed

pub both_locked_fixed : Fixed both-locked.Pre both-locked.Post
both_locked_fixed = fixed
