-- CheckMac.
use Rattle.std.specs.Prelude.{ℕ, ◌+◌, ◌*◌, ◌/◌, Bool, true, ◌&&◌, ◌||◌, List, [], ◌∷◌, ◌++◌, length, if◌then◌else◌}
use Rattle.digest.specs.Sha256.{sha256}
use Rattle.rules.specs.declared.Device.{Device}
use Rattle.rules.specs.declared.Fields.{Fields}
use Rattle.rules.specs.declared.Slot.{Slot}
use Rattle.rules.specs.declared.TempKey.{TempKey}
use Rattle.rules.specs.declared.Status.{Status}
use Rattle.rules.specs.declared.Status.TheVariants.{Done, Unequal}
use Rattle.rules.specs.Words.{◌⇒◌, ◌iff◌, ◌is◌, bit, bytes, equal, only_bits}
use Rattle.rules.specs.State.{slot, index, key, slot_bytes, both_locked, read_key, check_mac_bit, emptied, taken, status_byte}
use Rattle.rules.specs.Plan.{Plan, Rule}
use Rattle.rules.specs.Uses.{use_left}
use Rattle.rules.specs.Messages.{check_mac_message}
use Rattle.rules.specs.Mac.{uses_temp_key, draws_key, first_row, second_row, source_is_bit2, key_drawn, key_spent}

-- Bits 0, 1, 2, 5 of Param1, 0 to 2 as in MAC with the challenge for the bytes in; always 77 bytes: challenge 32, response 32, other 13 (o).
unfoldable pub check_mac_shape : Fields → List ℕ → Bool
check_mac_shape f input = only_bits (0 ∷ 1 ∷ 2 ∷ 5 ∷ []) f.param1 && length input is 77

abbrev pub challenge : List ℕ → List ℕ
challenge input = bytes 0 31 input

abbrev pub response : List ℕ → List ℕ
response input = bytes 32 63 input

abbrev pub other : List ℕ → List ℕ
other input = bytes 64 76 input

-- TempKey as for MAC, but CheckFlag may be 1.
unfoldable pub check_mac_temp_key : TempKey → Fields → Bool
check_mac_temp_key t f = uses_temp_key f ⇒ (t.valid && source_is_bit2 t f)

-- Slot first: a use left.
unfoldable pub check_mac_slot : List ℕ → Fields → Bool
check_mac_slot config f = draws_key f ⇒ use_left config (key f)

-- Both locks (house).
unfoldable pub check_mac_free : Device → Fields → Bool
check_mac_free d f = both_locked d.config && check_mac_temp_key d.tempKey f && check_mac_slot d.config f

unfoldable pub check_mac_digest : Device → Fields → List ℕ → List ℕ
check_mac_digest d f input =
    sha256 (check_mac_message (first_row d f) (second_row d f (challenge input)) f (other input) d.otp d.config)

-- the target (odd: key + 1 if key is even, else key)
abbrev pub copy_target : Fields → Slot
copy_target f = slot (index (key f) / 2 * 2 + 1)

-- Copy when .. Param1 is 01 or 05, the target has ReadKey 0, and CheckMacConfig bit target/2 equals bit 2.
unfoldable pub copy_holds : List ℕ → Fields → Bool
copy_holds config f =
    (f.param1 is 0x01 || f.param1 is 0x05)
    && (read_key config (copy_target f)).0 is 0
    && (check_mac_bit config (copy_target f) iff bit 2 f.param1)

-- CheckMac with bit 1 clear draws on the key; one whose copy conditions hold, equal or not: also on the target.
unfoldable pub check_mac_draws : List ℕ → Fields → List Slot
check_mac_draws config f = key_drawn f ++ (if copy_holds config f then copy_target f ∷ [] else [])

-- the copy: TempKey = target, SlotID 0, SourceFlag 1, GenData 0, CheckFlag 0, Valid 1
unfoldable pub check_mac_key : Device → Fields → Bool → TempKey
check_mac_key d f same = if same && copy_holds d.config f then taken (slot_bytes d (copy_target f)) true else emptied

unfoldable pub check_mac_status : Bool → Status
check_mac_status same = if same then Done else Unequal

unfoldable pub check_mac_effect : Device → Fields → Bool → Plan
check_mac_effect d f same = record {
  draws = check_mac_draws d.config f;
  stores = key_spent d.config f;
  tempKey = check_mac_key d f same;
  answer = status_byte (check_mac_status same) ∷ [];
}

unfoldable pub check_mac : Device → Fields → List ℕ → Rule
check_mac d f input = record {
  shape = check_mac_shape f input;
  free = check_mac_free d f;
  effect = check_mac_effect d f (equal (check_mac_digest d f input) (response input));
}
