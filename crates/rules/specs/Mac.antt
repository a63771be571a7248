-- MAC.
use Rattle.std.specs.Prelude.{ℕ, Bool, not, ◌&&◌, ◌||◌, List, [], ◌∷◌, length, if◌then◌else◌}
use Rattle.digest.specs.Sha256.{sha256}
use Rattle.rules.specs.declared.Device.{Device}
use Rattle.rules.specs.declared.Fields.{Fields}
use Rattle.rules.specs.declared.Slot.{Slot}
use Rattle.rules.specs.declared.TempKey.{TempKey}
use Rattle.rules.specs.Words.{◌⇒◌, ◌iff◌, ◌is◌, bit, only_bits}
use Rattle.rules.specs.State.{key, slot_bytes, both_locked, check_only, emptied}
use Rattle.rules.specs.Plan.{Store, Rule}
use Rattle.rules.specs.Uses.{use_left, spend}
use Rattle.rules.specs.Messages.{mac_message}

-- Param1 bit 0: second 32 bytes are TempKey, else 32 bytes in; bit 1: first 32 are TempKey, else the slot; bit 2; 4: OTP 0-10;
-- 5: OTP 0-7; 6: SN2-7.
unfoldable pub mac_shape : Fields → List ℕ → Bool
mac_shape f input =
    only_bits (0 ∷ 1 ∷ 2 ∷ 4 ∷ 5 ∷ 6 ∷ []) f.param1 && length input is (if bit 0 f.param1 then 0 else 32)

abbrev pub uses_temp_key : Fields → Bool
uses_temp_key f = bit 0 f.param1 || bit 1 f.param1

-- MAC with bit 1 clear draws on the key.
abbrev pub draws_key : Fields → Bool
draws_key f = not (bit 1 f.param1)

unfoldable pub first_row : Device → Fields → List ℕ
first_row d f = if bit 1 f.param1 then d.tempKey.bytes else slot_bytes d (key f)

unfoldable pub second_row : Device → Fields → List ℕ → List ℕ
second_row d f sent = if bit 0 f.param1 then d.tempKey.bytes else sent

-- SourceFlag = bit 2
abbrev pub source_is_bit2 : TempKey → Fields → Bool
source_is_bit2 t f = t.sourceFlag iff bit 2 f.param1

-- If TempKey is used: Valid, CheckFlag 0, SourceFlag = bit 2.
unfoldable pub mac_temp_key : TempKey → Fields → Bool
mac_temp_key t f = uses_temp_key f ⇒ (t.valid && not t.checkFlag && source_is_bit2 t f)

-- Drawn slot: CheckOnly 0, a use left.
unfoldable pub mac_slot : List ℕ → Fields → Bool
mac_slot config f = draws_key f ⇒ (not (check_only config (key f)) && use_left config (key f))

-- Both locks (house).
unfoldable pub mac_free : Device → Fields → Bool
mac_free d f = both_locked d.config && mac_temp_key d.tempKey f && mac_slot d.config f

-- the slot that is drawn on, and its use
unfoldable pub key_drawn : Fields → List Slot
key_drawn f = if draws_key f then key f ∷ [] else []

unfoldable pub key_spent : List ℕ → Fields → List Store
key_spent config f = if draws_key f then spend config (key f) else []

unfoldable pub mac_digest : Device → Fields → List ℕ → List ℕ
mac_digest d f input = sha256 (mac_message (first_row d f) (second_row d f input) f d.otp d.config)

unfoldable pub mac : Device → Fields → List ℕ → Rule
mac d f input = record {
  shape = mac_shape f input;
  free = mac_free d f;
  effect = record { draws = key_drawn f; stores = key_spent d.config f; tempKey = emptied; answer = mac_digest d f input };
}
