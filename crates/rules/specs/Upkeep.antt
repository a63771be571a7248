-- Lock, UpdateExtra and DevRev.
use Rattle.std.specs.Prelude.{ℕ, ◌%◌, ◌/◌, Bool, true, not, ◌&&◌, ◌||◌, List, [], ◌∷◌, ◌++◌, length, if◌then◌else◌}
use Rattle.wire.specs.Wire.{check_value}
use Rattle.rules.specs.declared.Device.{Device}
use Rattle.rules.specs.declared.Fields.{Fields}
use Rattle.rules.specs.Words.{◌⇒◌, ◌is◌, ◌under◌, bit, byte, only_bits}
use Rattle.rules.specs.State.{config_locked, values_locked, rev_num, selector_mode, user_extra_at, selector_at, lock_value_at, lock_config_at}
use Rattle.rules.specs.Plan.{in_config, Rule, gives, puts}

-- ---- Lock. Bit 0: 0 configuration, 1 values; bit 7 skips the summary (Param2 then 0, else 03).
abbrev pub of_values : Fields → Bool
of_values f = bit 0 f.param1

abbrev pub skips_summary : Fields → Bool
skips_summary f = bit 7 f.param1

unfoldable pub lock_shape : Fields → List ℕ → Bool
lock_shape f input = only_bits (0 ∷ 7 ∷ []) f.param1 && (skips_summary f ⇒ f.param2 is 0) && length input is 0

-- the check value of the 88 bytes, or of data then OTP
unfoldable pub summary : Device → Fields → ℕ
summary d f = if of_values f then check_value (d.«data» ++ d.otp) else check_value d.config

-- Zone unlocked; values need configuration locked.
unfoldable pub zone_open : List ℕ → Fields → Bool
zone_open config f = if of_values f then not (values_locked config) && config_locked config else not (config_locked config)

-- With bit 7 clear Param2 is the check value.
unfoldable pub lock_free : Device → Fields → Bool
lock_free d f = zone_open d.config f && (skips_summary f || summary d f is f.param2)

-- Byte becomes 00.
unfoldable pub lock : Device → Fields → List ℕ → Rule
lock d f input = record {
  shape = lock_shape f input;
  free = lock_free d f;
  effect = puts (in_config (if of_values f then lock_value_at else lock_config_at) 0x00 ∷ []);
}

-- ---- UpdateExtra. 0: byte 84, 1: byte 85 = low Param2, high byte zero; 85 refused if it and SelectorMode are nonzero.
unfoldable pub update_extra_shape : Fields → List ℕ → Bool
update_extra_shape f input = f.param1 under 2 && f.param2 / 256 is 0 && length input is 0

unfoldable pub update_extra_free : List ℕ → Fields → Bool
update_extra_free config f = f.param1 is 1 ⇒ (byte selector_at config is 0 || selector_mode config is 0)

unfoldable pub update_extra : Device → Fields → List ℕ → Rule
update_extra d f input = record {
  shape = update_extra_shape f input;
  free = update_extra_free d.config f;
  effect = puts (in_config (if f.param1 is 1 then selector_at else user_extra_at) (f.param2 % 256) ∷ []);
}

-- ---- DevRev. RevNum.
unfoldable pub dev_rev_shape : Fields → List ℕ → Bool
dev_rev_shape f input = f.param1 is 0 && f.param2 is 0 && length input is 0

unfoldable pub dev_rev : Device → Fields → List ℕ → Rule
dev_rev d f input = record { shape = dev_rev_shape f input; free = true; effect = gives (rev_num d.config) }
