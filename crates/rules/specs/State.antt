-- What the state holds.
use Rattle.std.specs.Prelude.{ℕ, ◌+◌, ◌*◌, ◌/◌, ◌%◌, Bool, true, false, not, ◌&&◌, List, length, take, drop, if◌then◌else◌}
use Rattle.rules.specs.declared.Device.{Device}
use Rattle.rules.specs.declared.Fields.{Fields}
use Rattle.rules.specs.declared.Slot.{Slot}
use Rattle.rules.specs.declared.TempKey.{TempKey}
use Rattle.rules.specs.declared.Power.{Power}
use Rattle.rules.specs.declared.Power.TheVariants.{Asleep, Idle, Awake}
use Rattle.rules.specs.declared.Number.{Number}
use Rattle.rules.specs.declared.Number.TheVariants.{Answered, ShortOutput, WrongRandom, NoAnswer, WrongImage}
use Rattle.rules.specs.declared.Status.{Status}
use Rattle.rules.specs.declared.Status.TheVariants.{Done, Unequal, BadShape, Refused, Woken, Damaged}
use Rattle.rules.specs.Words.{◌is◌, bit, byte, bytes, zeros}

-- ---- the document's numbers

abbrev pub number_of : Number → ℕ
number_of Answered = 0
number_of ShortOutput = 1
number_of WrongRandom = 2
number_of NoAnswer = 3
number_of WrongImage = 4

abbrev pub status_byte : Status → ℕ
status_byte Done = 0x00
status_byte Unequal = 0x01
status_byte BadShape = 0x03
status_byte Refused = 0x0F
status_byte Woken = 0x11
status_byte Damaged = 0xFF

abbrev pub is_awake : Power → Bool
is_awake Asleep = false
is_awake Idle = false
is_awake Awake = true

-- ---- slots

-- A slot number is 0 to 15: of a larger number the low four bits count.
abbrev pub slot : ℕ → Slot
slot n = record { 0 = n }

abbrev pub index : Slot → ℕ
index k = k.0 % 16

-- "Key" means the low four bits of Param2.
abbrev pub key : Fields → Slot
key f = slot (f.param2 % 16)

-- Data 512 (16 slots of 32).
unfoldable pub slot_bytes : Device → Slot → List ℕ
slot_bytes d k = take 32 (drop (32 * index k) d.«data»)

-- ---- TempKey

-- Emptying TempKey sets all of it to zero.
abbrev pub emptied : TempKey
emptied = record { bytes = zeros 32; slotID = slot 0; sourceFlag = false; genData = false; checkFlag = false; valid = false }

-- 32 bytes taken into TempKey with a SourceFlag: SlotID and other flags 0, Valid 1.
abbrev pub taken : List ℕ → Bool → TempKey
taken row source = record { bytes = row; slotID = slot 0; sourceFlag = source; genData = false; checkFlag = false; valid = true }

-- ---- configuration: 0-3 SN0-3, 4-7 RevNum, 8-12 SN4-8

abbrev pub sn0_1 : List ℕ → List ℕ
sn0_1 config = bytes 0 1 config

abbrev pub sn2_3 : List ℕ → List ℕ
sn2_3 config = bytes 2 3 config

abbrev pub rev_num : List ℕ → List ℕ
rev_num config = bytes 4 7 config

abbrev pub sn4_7 : List ℕ → List ℕ
sn4_7 config = bytes 8 11 config

abbrev pub sn8 : List ℕ → List ℕ
sn8 config = bytes 12 12 config

-- 17 CheckMacConfig, 18 OTPmode, 19 SelectorMode
abbrev pub check_mac_bit : List ℕ → Slot → Bool
check_mac_bit config k = bit (index k / 2) (byte 17 config)

abbrev pub otp_mode : List ℕ → ℕ
otp_mode config = byte 18 config

abbrev pub selector_mode : List ℕ → ℕ
selector_mode config = byte 19 config

-- 20-51 SlotConfig (two bytes each, low first)
unfoldable pub slot_config : List ℕ → Slot → ℕ
slot_config config k = byte (20 + 2 * index k) config + 256 * byte (21 + 2 * index k) config

-- 52+2i UseFlag and 53+2i UpdateCount of slot i (0-7), 68-83 LastKeyUse
abbrev pub use_flag_at : Slot → ℕ
use_flag_at k = 52 + 2 * index k

abbrev pub update_count_at : Slot → ℕ
update_count_at k = 53 + 2 * index k

-- 84 UserExtra, 85 Selector, 86 LockValue, 87 LockConfig. A lock byte of 55 means unlocked, any other value locked.
abbrev pub user_extra_at : ℕ
user_extra_at = 84

abbrev pub selector_at : ℕ
selector_at = 85

abbrev pub lock_value_at : ℕ
lock_value_at = 86

abbrev pub lock_config_at : ℕ
lock_config_at = 87

abbrev pub locked : ℕ → Bool
locked b = not (b is 0x55)

abbrev pub values_locked : List ℕ → Bool
values_locked config = locked (byte lock_value_at config)

abbrev pub config_locked : List ℕ → Bool
config_locked config = locked (byte lock_config_at config)

abbrev pub both_locked : List ℕ → Bool
both_locked config = config_locked config && values_locked config

-- ---- SlotConfig: 15-12 WriteConfig, 11-8 WriteKey, 7 IsSecret, 6 EncryptRead, 5 LimitedUse, 4 CheckOnly, 3-0 ReadKey

abbrev pub write_config_bit : ℕ → List ℕ → Slot → Bool
write_config_bit n config k = bit n (slot_config config k)

abbrev pub write_key : List ℕ → Slot → Slot
write_key config k = slot (slot_config config k / 256 % 16)

abbrev pub is_secret : List ℕ → Slot → Bool
is_secret config k = bit 7 (slot_config config k)

abbrev pub encrypt_read : List ℕ → Slot → Bool
encrypt_read config k = bit 6 (slot_config config k)

abbrev pub limited_use : List ℕ → Slot → Bool
limited_use config k = bit 5 (slot_config config k)

abbrev pub check_only : List ℕ → Slot → Bool
check_only config k = bit 4 (slot_config config k)

abbrev pub read_key : List ℕ → Slot → Slot
read_key config k = slot (slot_config config k % 16)

-- ---- a fresh state: 664 bytes (configuration, OTP, data), TempKey empty

abbrev pub device_from : List ℕ → Device
device_from image = record { config = bytes 0 87 image; otp = bytes 88 151 image; «data» = bytes 152 663 image; tempKey = emptied }

abbrev pub fresh_device : List ℕ → Device
fresh_device image = if length image is 664 then device_from image else device_from (zeros 664)

abbrev pub fresh_number : List ℕ → Number
fresh_number image = if length image is 664 then Answered else WrongImage
