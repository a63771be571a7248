-- Where Read and Write go: a zone, a word of it, and 4 or 32 bytes.
use Rattle.std.specs.Prelude.{ℕ, ◌*◌, ◌/◌, ◌%◌, Bool, not, ◌&&◌, List, if◌then◌else◌}
use Rattle.rules.specs.declared.Fields.{Fields}
use Rattle.rules.specs.declared.Slot.{Slot}
use Rattle.rules.specs.declared.TempKey.{TempKey}
use Rattle.rules.specs.declared.Word.{Word}
use Rattle.rules.specs.Words.{◌⇒◌, ◌iff◌, ◌is◌, ◌up_to◌, bit}
use Rattle.rules.specs.State.{slot, index, check_mac_bit}

-- Bits 1-0 zone 0-2.
abbrev pub zone : Fields → ℕ
zone f = f.param1 % 4

-- Bit 7: 32 bytes, else 4.
abbrev pub size : Fields → ℕ
size f = if bit 7 f.param1 then 32 else 4

-- Param2 is a word address.
abbrev pub word : Fields → Word
word f = record { 0 = f.param2 }

-- Address: data slot bits 6-3, word 2-0: slot 1 starts at word 8.
abbrev pub slot_of : Word → Slot
slot_of w = slot (w.0 / 8 % 16)

-- the data slot that Read and Write go to
abbrev pub data_slot : Fields → Slot
data_slot f = slot_of (word f)

-- Configuration words 0-21, OTP words 0-15, else 03 (data words 0-127). Configuration word 16 up is 4 bytes only (03).
unfoldable pub address_fits : Fields → Bool
address_fits f =
    if zone f is 0 then (word f).0 up_to 21 && (bit 7 f.param1 ⇒ (word f).0 up_to 15)
    else (if zone f is 1 then (word f).0 up_to 15
    else zone f is 2 && (word f).0 up_to 127)

-- the position of the first byte: at 32 bytes low three bits are ignored
unfoldable pub position : Fields → ℕ
position f = if bit 7 f.param1 then 32 * ((word f).0 / 8) else 4 * (word f).0

-- What every encrypted Read and Write needs of TempKey: Valid, GenData 1, CheckFlag 0.
unfoldable pub encrypts : TempKey → Bool
encrypts t = t.valid && t.genData && not t.checkFlag

-- SlotID = a key's number, SourceFlag = CheckMacConfig bit slot/2.
unfoldable pub encrypts_for : List ℕ → TempKey → Slot → Slot → Bool
encrypts_for config t by k = index t.slotID is index by && (t.sourceFlag iff check_mac_bit config k)
