-- GenDig.
use Rattle.std.specs.Prelude.{ℕ, ◌*◌, Bool, true, ◌&&◌, ◌||◌, List, [], ◌∷◌, length, take, drop, if◌then◌else◌}
use Rattle.digest.specs.Sha256.{sha256}
use Rattle.rules.specs.declared.Device.{Device}
use Rattle.rules.specs.declared.Fields.{Fields}
use Rattle.rules.specs.declared.Slot.{Slot}
use Rattle.rules.specs.declared.TempKey.{TempKey}
use Rattle.rules.specs.declared.Status.TheVariants.{Done}
use Rattle.rules.specs.Words.{◌⇒◌, ◌is◌, ◌under◌, ◌up_to◌}
use Rattle.rules.specs.State.{slot, key, slot_bytes, config_locked, check_only, status_byte}
use Rattle.rules.specs.Plan.{Store, Rule}
use Rattle.rules.specs.Uses.{use_left, spend}
use Rattle.rules.specs.Messages.{header, layout96}

-- Param1 0 configuration, 1 OTP, 2 data (the value is the key).
abbrev pub from_data : Fields → Bool
from_data f = f.param1 is 2

-- Param1 2 with a CheckOnly key, at any Param2
abbrev pub check_only_key : List ℕ → Fields → Bool
check_only_key config f = from_data f && check_only config (key f)

-- For 0 and 1 the value is 32-byte block Param2, 0 or 1, else 03. Data in: 4 bytes for Param1 2 with a CheckOnly key; else none.
unfoldable pub gen_dig_shape : List ℕ → Fields → List ℕ → Bool
gen_dig_shape config f input =
    (from_data f || (f.param1 under 2 && f.param2 under 2))
    && length input is (if check_only_key config f then 4 else 0)

-- Configuration locked (house, for all three); Valid; data: Param2 under 8000, a use left.
unfoldable pub gen_dig_free : Device → Fields → Bool
gen_dig_free d f =
    config_locked d.config
    && d.tempKey.valid
    && (from_data f ⇒ (f.param2 under 0x8000 && use_left d.config (key f)))

unfoldable pub gen_dig_value : Device → Fields → List ℕ
gen_dig_value d f =
    if f.param1 is 0 then take 32 (drop (32 * f.param2) d.config)
    else (if f.param1 is 1 then take 32 (drop (32 * f.param2) d.otp)
    else slot_bytes d (key f))

-- the 4 bytes replacing the 4 header bytes
unfoldable pub gen_dig_header : List ℕ → Fields → List ℕ → List ℕ
gen_dig_header config f input = if check_only_key config f then input else header 0x15 f

-- data with Param2 up to 15
abbrev pub key_named : Fields → Bool
key_named f = from_data f && f.param2 up_to 15

-- TempKey = SHA-256(value, 15, Param1, Param2, SN8, SN0-1, 25 zeros, TempKey). GenData 1 and SlotID only for data with Param2 up to 15,
-- else both 0. CheckFlag set for Param1 2 with a CheckOnly key, else kept; SourceFlag kept.
unfoldable pub gen_dig_key : Device → Fields → List ℕ → TempKey
gen_dig_key d f input = record {
  bytes = sha256 (layout96 (gen_dig_value d f) (gen_dig_header d.config f input) d.config d.tempKey.bytes);
  slotID = if key_named f then key f else slot 0;
  sourceFlag = d.tempKey.sourceFlag;
  genData = key_named f;
  checkFlag = check_only_key d.config f || d.tempKey.checkFlag;
  valid = true;
}

-- GenDig data draws on the key, and spends one use of it.
unfoldable pub gen_dig_draws : Fields → List Slot
gen_dig_draws f = if from_data f then key f ∷ [] else []

unfoldable pub gen_dig_spent : List ℕ → Fields → List Store
gen_dig_spent config f = if from_data f then spend config (key f) else []

unfoldable pub gen_dig : Device → Fields → List ℕ → Rule
gen_dig d f input = record {
  shape = gen_dig_shape d.config f input;
  free = gen_dig_free d f;
  effect = record {
    draws = gen_dig_draws f;
    stores = gen_dig_spent d.config f;
    tempKey = gen_dig_key d f input;
    answer = status_byte Done ∷ [];
  };
}
