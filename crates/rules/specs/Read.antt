-- Read.
use Rattle.std.specs.Prelude.{ℕ, Bool, true, not, ◌&&◌, ◌||◌, List, [], ◌∷◌, length, take, drop, if◌then◌else◌}
use Rattle.rules.specs.declared.Device.{Device}
use Rattle.rules.specs.declared.Fields.{Fields}
use Rattle.rules.specs.Words.{◌is◌, ◌under◌, bit, only_bits, xor_row}
use Rattle.rules.specs.State.{slot_bytes, both_locked, otp_mode, is_secret, encrypt_read, read_key}
use Rattle.rules.specs.Plan.{Rule, gives}
use Rattle.rules.specs.Address.{zone, size, word, data_slot, address_fits, position, encrypts, encrypts_for}

-- Bit 7: 32 bytes, else 4; bits 1-0 zone 0-2.
unfoldable pub read_shape : Fields → List ℕ → Bool
read_shape f input = only_bits (7 ∷ 1 ∷ 0 ∷ []) f.param1 && address_fits f && length input is 0

-- OTP: both locks; mode AA or 55 all, 00 only words 2-15 by 4, other modes none.
unfoldable pub otp_read_free : List ℕ → Fields → Bool
otp_read_free config f =
    both_locked config
    && (otp_mode config is 0xAA || otp_mode config is 0x55
    || (otp_mode config is 0x00 && not (bit 7 f.param1) && not ((word f).0 under 2)))

-- Data: both locks; IsSecret, EncryptRead 00 clear; 01, 10 refused; 11: 32 bytes (4 is 0F), XOR TempKey, which needs Valid, GenData 1,
-- CheckFlag 0, SlotID = ReadKey, SourceFlag = CheckMacConfig bit slot/2.
unfoldable pub data_read_free : Device → Fields → Bool
data_read_free d f =
    both_locked d.config
    && (if is_secret d.config (data_slot f)
    then encrypt_read d.config (data_slot f) && bit 7 f.param1 && encrypts d.tempKey
    && encrypts_for d.config d.tempKey (read_key d.config (data_slot f)) (data_slot f)
    else not (encrypt_read d.config (data_slot f)))

-- Configuration always.
unfoldable pub read_free : Device → Fields → Bool
read_free d f = if zone f is 0 then true else (if zone f is 1 then otp_read_free d.config f else data_read_free d f)

-- the bytes that are read
unfoldable pub read_bytes : Device → Fields → List ℕ
read_bytes d f =
    if zone f is 0 then take (size f) (drop (position f) d.config)
    else (if zone f is 1 then take (size f) (drop (position f) d.otp)
    else (if is_secret d.config (data_slot f) then xor_row (slot_bytes d (data_slot f)) d.tempKey.bytes
    else take (size f) (drop (position f) d.«data»)))

unfoldable pub read : Device → Fields → List ℕ → Rule
read d f input = record { shape = read_shape f input; free = read_free d f; effect = gives (read_bytes d f) }
