-- DeriveKey.
use Rattle.std.specs.Prelude.{ℕ, ◌+◌, ◌*◌, ◌%◌, Bool, not, ◌&&◌, ◌||◌, List, [], ◌∷◌, ◌++◌, length, if◌then◌else◌}
use Rattle.digest.specs.Sha256.{sha256}
use Rattle.rules.specs.declared.Device.{Device}
use Rattle.rules.specs.declared.Fields.{Fields}
use Rattle.rules.specs.declared.Slot.{Slot}
use Rattle.rules.specs.declared.TempKey.{TempKey}
use Rattle.rules.specs.declared.Status.TheVariants.{Done}
use Rattle.rules.specs.Words.{◌⇒◌, ◌iff◌, ◌is◌, ◌under◌, byte, equal, only_bits}
use Rattle.rules.specs.State.{index, key, slot_bytes, both_locked, write_config_bit, write_key, check_only, use_flag_at, update_count_at, emptied, status_byte}
use Rattle.rules.specs.Plan.{Store, in_config, in_data, upwards, Plan, refused_after, Rule}
use Rattle.rules.specs.Uses.{use_left, spend}
use Rattle.rules.specs.Messages.{header, layout96, parent_message}
use Rattle.rules.specs.Mac.{source_is_bit2}

-- Param1 bit 2; 0 or 32 bytes.
unfoldable pub derive_key_shape : Fields → List ℕ → Bool
derive_key_shape f input = only_bits (2 ∷ []) f.param1 && (length input is 0 || length input is 32)

-- The target is the key. The parent is its WriteKey. Source is the parent if bit 12, else the target.
abbrev pub parent : List ℕ → Fields → Slot
parent config f = write_key config (key f)

abbrev pub from_parent : List ℕ → Fields → Bool
from_parent config f = write_config_bit 12 config (key f)

abbrev pub asks_mac : List ℕ → Fields → Bool
asks_mac config f = write_config_bit 15 config (key f)

unfoldable pub source : List ℕ → Fields → Slot
source config f = if from_parent config f then parent config f else key f

abbrev pub parent_drawn : List ℕ → Fields → Bool
parent_drawn config f = from_parent config f || asks_mac config f

-- Valid, GenData 0, CheckFlag 0, SourceFlag = bit 2.
unfoldable pub derive_key_temp_key : TempKey → Fields → Bool
derive_key_temp_key t f = t.valid && not t.genData && not t.checkFlag && source_is_bit2 t f

-- Drawn slots: CheckOnly 0; the parent, if drawn, has a use left.
unfoldable pub derive_key_slots : List ℕ → Fields → Bool
derive_key_slots config f =
    not (check_only config (source config f))
    && (parent_drawn config f ⇒ (not (check_only config (parent config f)) && use_left config (parent config f)))

-- Both locks (house); target bit 13; Valid, GenData 0, CheckFlag 0, SourceFlag = bit 2; MAC present exactly if bit 15.
unfoldable pub derive_key_free : Device → Fields → List ℕ → Bool
derive_key_free d f input =
    both_locked d.config
    && write_config_bit 13 d.config (key f)
    && derive_key_temp_key d.tempKey f
    && (length input is 32 iff asks_mac d.config f)
    && derive_key_slots d.config f

-- DeriveKey draws on the source, and on the parent if bit 15.
unfoldable pub derive_key_draws : List ℕ → Fields → List Slot
derive_key_draws config f = source config f ∷ (if asks_mac config f then parent config f ∷ [] else [])

-- MAC = SHA-256(parent, 1C, Param1, Param2, SN8, SN0-1).
unfoldable pub derive_key_mac : Device → Fields → List ℕ
derive_key_mac d f = sha256 (parent_message (slot_bytes d (parent d.config f)) f d.config)

-- New target = the 96-byte GenDig layout with source and 1C.
unfoldable pub new_target : Device → Fields → List ℕ
new_target d f = sha256 (layout96 (slot_bytes d (source d.config f)) (header 0x1C f) d.config d.tempKey.bytes)

-- Slots 0-7: UseFlag FF, UpdateCount plus one, 255 going to 0.
unfoldable pub refilled : List ℕ → Slot → List Store
refilled config k =
    if index k under 8
    then in_config (use_flag_at k) 0xFF ∷ in_config (update_count_at k) ((byte (update_count_at k) config + 1) % 256) ∷ []
    else []

-- One use of a drawn parent is spent first, even where it is the target.
unfoldable pub derive_key_stores : Device → Fields → List Store
derive_key_stores d f =
    (if parent_drawn d.config f then spend d.config (parent d.config f) else [])
    ++ upwards in_data (32 * index (key f)) (new_target d f)
    ++ refilled d.config (key f)

unfoldable pub derived : Device → Fields → Plan
derived d f = record {
  draws = derive_key_draws d.config f;
  stores = derive_key_stores d f;
  tempKey = emptied;
  answer = status_byte Done ∷ [];
}

unfoldable pub derive_key : Device → Fields → List ℕ → Rule
derive_key d f input = record {
  shape = derive_key_shape f input;
  free = derive_key_free d f input;
  effect =
      if asks_mac d.config f ⇒ equal (derive_key_mac d f) input
      then derived d f
      else refused_after (derive_key_draws d.config f);
}
