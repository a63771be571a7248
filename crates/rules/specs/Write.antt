-- Write.
use Rattle.std.specs.Prelude.{ℕ, ◌+◌, Bool, false, not, ◌&&◌, ◌||◌, length, take, drop, if◌then◌else◌}
use mathlib.Core.List.{List, [], ◌∷◌, zip_with}
use Rattle.std.specs.Int.Bits.{bit_and}
use Rattle.digest.specs.Sha256.{sha256}
use Rattle.rules.specs.declared.Device.{Device}
use Rattle.rules.specs.declared.Fields.{Fields}
use Rattle.rules.specs.Words.{◌⇒◌, ◌iff◌, ◌is◌, ◌up_to◌, bit, bytes, equal, only_bits, xor_row}
use Rattle.rules.specs.State.{config_locked, values_locked, otp_mode, is_secret, write_config_bit, write_key}
use Rattle.rules.specs.Plan.{Store, in_config, in_otp, in_data, upwards, Plan, puts, refused_after, Rule}
use Rattle.rules.specs.Messages.{header, layout96}
use Rattle.rules.specs.Address.{zone, size, data_slot, address_fits, position, encrypts, encrypts_for}

-- Bit 6 encrypted, bit 7 and address as Read; data 4, 32, or 64 (value, MAC), the last two with bit 7.
unfoldable pub write_shape : Fields → List ℕ → Bool
write_shape f input =
    only_bits (7 ∷ 6 ∷ 1 ∷ 0 ∷ []) f.param1
    && address_fits f
    && (if bit 7 f.param1 then length input is 32 || length input is 64 else length input is 4)

abbrev pub has_mac : List ℕ → Bool
has_mac input = length input is 64

-- Configuration: unlocked, bit 6 clear, no MAC, no byte under 16 or over 83.
unfoldable pub config_write_free : List ℕ → Fields → List ℕ → Bool
config_write_free config f input =
    not (config_locked config)
    && not (bit 6 f.param1)
    && not (has_mac input)
    && 16 up_to position f
    && position f + size f up_to 84

-- the data slot that a word belongs to is written encrypted: WriteConfig bit 14
abbrev pub slot_encrypted : List ℕ → Fields → Bool
slot_encrypted config f = write_config_bit 14 config (data_slot f)

-- MAC present exactly when encrypted. Values unlocked: bit 6 decides encryption. Values locked: data by WriteConfig; OTP clear.
unfoldable pub encrypted : List ℕ → Fields → Bool
encrypted config f =
    if zone f is 0 then false
    else (if values_locked config then zone f is 2 && slot_encrypted config f
    else bit 6 f.param1)

-- Values unlocked: 32 bytes. Encrypted: Valid, GenData 1, CheckFlag 0.
unfoldable pub unlocked_write_free : Device → Fields → Bool
unlocked_write_free d f = bit 7 f.param1 && (bit 6 f.param1 ⇒ encrypts d.tempKey)

-- Bits 15-13 000 clear (4 bytes only if IsSecret 0), bit 14 encrypted, else refused.
-- Encrypted: Valid, GenData 1, CheckFlag 0. Data, locked: also SlotID = WriteKey and SourceFlag = CheckMacConfig bit slot/2.
unfoldable pub slot_write_free : Device → Fields → Bool
slot_write_free d f =
    if slot_encrypted d.config f
    then encrypts d.tempKey
    && encrypts_for d.config d.tempKey (write_key d.config (data_slot f)) (data_slot f)
    else not (write_config_bit 15 d.config (data_slot f))
    && not (write_config_bit 13 d.config (data_slot f))
    && (bit 7 f.param1 || not (is_secret d.config (data_slot f)))

-- Values locked: bit 6 clear; data by WriteConfig; OTP only in mode 55.
unfoldable pub locked_write_free : Device → Fields → Bool
locked_write_free d f =
    not (bit 6 f.param1) && (if zone f is 1 then otp_mode d.config is 0x55 else slot_write_free d f)

-- Data and OTP need configuration locked.
unfoldable pub write_free : Device → Fields → List ℕ → Bool
write_free d f input =
    if zone f is 0 then config_write_free d.config f input
    else config_locked d.config
    && (has_mac input iff encrypted d.config f)
    && (if values_locked d.config then locked_write_free d f else unlocked_write_free d f)

-- Encrypted: plain = value XOR TempKey; MAC = SHA-256(TempKey, 12, Param1, Param2, SN8, SN0-1, 25 zeros, plain).
abbrev pub plain : Device → List ℕ → List ℕ
plain d input = xor_row (bytes 0 31 input) d.tempKey.bytes

unfoldable pub write_mac : Device → Fields → List ℕ → List ℕ
write_mac d f input = sha256 (layout96 d.tempKey.bytes (header 0x12 f) d.config (plain d input))

-- old AND new
abbrev pub and_row : List ℕ → List ℕ → List ℕ
and_row a b = zip_with bit_and a b

-- OTP with values locked: result old AND new
unfoldable pub otp_written : Device → Fields → List ℕ → List ℕ
otp_written d f value =
    if values_locked d.config then and_row (take (size f) (drop (position f) d.otp)) value else value

unfoldable pub written : Device → Fields → List ℕ → List Store
written d f value =
    if zone f is 0 then upwards in_config (position f) value
    else (if zone f is 1 then upwards in_otp (position f) (otp_written d f value)
    else upwards in_data (position f) value)

unfoldable pub write_effect : Device → Fields → List ℕ → Plan
write_effect d f input =
    if encrypted d.config f
    then (if equal (write_mac d f input) (bytes 32 63 input) then puts (written d f (plain d input)) else refused_after [])
    else puts (written d f input)

unfoldable pub write : Device → Fields → List ℕ → Rule
write d f input = record { shape = write_shape f input; free = write_free d f input; effect = write_effect d f input }
