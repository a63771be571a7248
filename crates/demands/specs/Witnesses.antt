-- Demand 3 is not empty, and all that it supposes is needed: tokens, and what calls on them show.
use Rattle.std.specs.Prelude.{ℕ, ◌≡◌, true, false, List, [], ◌∷◌, ◌++◌, replicate}
use Rattle.rules.specs.declared.Slot.{Slot}
use Rattle.rules.specs.Words.{zeros}
use Rattle.rules.specs.State.{slot, slot_bytes}
use Rattle.rules.specs.Events.{wake, sleep}
use Rattle.token.specs.declared.Token.{Token}
use Rattle.demands.specs.Calls.{Call, answer_of, after, asleep, call, command}
use Rattle.demands.specs.Demand3.{Alike, Kept, draws_on, spared, SameRun}

-- ---- tokens

-- the low byte of slot 1's SlotConfig, and the lock bytes
pub record Setting : Type 0 where
  pub bits : ℕ
  pub lock_value : ℕ
  pub lock_config : ℕ

-- a token of zeros but for CheckMacConfig 03, SlotConfig of slots 1 (as set), 2 (derived from slot 1) and 3 (read encrypted under slot 1), the
-- lock bytes as set, and the first byte of slot 1
unfoldable pub holding : Setting → ℕ → Token
holding x secret =
    asleep ((17, 0x03) ∷ (22, x.bits) ∷ (25, 0x31) ∷ (26, 0xC1) ∷ (86, x.lock_value) ∷ (87, x.lock_config) ∷ (184, secret) ∷ [])

abbrev pub secret_slot : Slot
secret_slot = slot 1

-- IsSecret 1, EncryptRead 0, both zones locked
abbrev pub as_demanded : Setting
as_demanded = record { bits = 0x80; lock_value = 0x00; lock_config = 0x00 }

abbrev pub one : Token
one = holding as_demanded 0x11

abbrev pub another : Token
another = holding as_demanded 0x22

-- ---- calls

-- wake, and Nonce 3: TempKey is 32 bytes 44
abbrev pub start : List Call
start = call wake ∷ command 0x16 0x03 0 (replicate 32 0x44) ∷ []

-- MAC of the slot and TempKey; Read of four bytes of slot 0
abbrev pub mac_of_slot : Call
mac_of_slot = command 0x08 0x05 1 []

abbrev pub read_open : Call
read_open = command 0x02 0x02 0 []

abbrev pub run : List Call
run = start ++ mac_of_slot ∷ read_open ∷ call sleep ∷ []

-- the response that is right for slot 0 and TempKey, and the one for a slot that begins with 11 and a challenge of zeros
abbrev pub right_for_open : List ℕ
right_for_open =
    0xB3 ∷ 0x61 ∷ 0xDD ∷ 0xBB ∷ 0x98 ∷ 0x83 ∷ 0xE0 ∷ 0xD9 ∷ 0x6E ∷ 0x5C ∷ 0x3D ∷ 0x7A ∷ 0x19 ∷ 0x99 ∷ 0x1E ∷ 0xB9 ∷
    0xCC ∷ 0x3F ∷ 0x35 ∷ 0xE7 ∷ 0x80 ∷ 0x88 ∷ 0xF6 ∷ 0x2A ∷ 0xB4 ∷ 0x56 ∷ 0xC6 ∷ 0x47 ∷ 0xFC ∷ 0xDF ∷ 0x22 ∷ 0x55 ∷ []

abbrev pub right_for_slot : List ℕ
right_for_slot =
    0xC7 ∷ 0x24 ∷ 0x61 ∷ 0x57 ∷ 0xE3 ∷ 0xBC ∷ 0xB1 ∷ 0x4E ∷ 0x4A ∷ 0xCA ∷ 0x96 ∷ 0x5F ∷ 0x31 ∷ 0x49 ∷ 0xF1 ∷ 0xD5 ∷
    0x92 ∷ 0x3E ∷ 0x99 ∷ 0x30 ∷ 0xD6 ∷ 0xA3 ∷ 0x56 ∷ 0x2F ∷ 0x54 ∷ 0xB7 ∷ 0x24 ∷ 0x70 ∷ 0x32 ∷ 0xDA ∷ 0x09 ∷ 0xEA ∷ []

-- CheckMac of the slot with the response that is right where it begins with 11; CheckMac of slot 0 with the right response, which copies
-- the neighbouring slot to TempKey
abbrev pub check_of_slot : Call
check_of_slot = command 0x28 0x00 1 (zeros 32 ++ right_for_slot ++ zeros 13)

abbrev pub copy_of_slot : Call
copy_of_slot = command 0x28 0x05 0 (zeros 32 ++ right_for_open ++ zeros 13)

-- MAC of TempKey alone
abbrev pub mac_of_temp_key : Call
mac_of_temp_key = command 0x08 0x07 0 []

-- GenDig of the slot; an encrypted Read of slot 3
abbrev pub gen_dig_of_slot : Call
gen_dig_of_slot = command 0x15 0x02 1 []

abbrev pub read_encrypted : Call
read_encrypted = command 0x02 0x82 24 []

-- DeriveKey of slot 2 from the slot; a Read of slot 2
abbrev pub derive_from_slot : Call
derive_from_slot = command 0x1C 0x04 2 []

abbrev pub read_derived : Call
read_derived = command 0x02 0x02 16 []

-- Read of four bytes of the slot; GenDig of slot 0; an encrypted Read of the slot
abbrev pub read_slot : Call
read_slot = command 0x02 0x02 8 []

abbrev pub gen_dig_of_open : Call
gen_dig_of_open = command 0x15 0x02 0 []

abbrev pub read_slot_encrypted : Call
read_slot_encrypted = command 0x02 0x82 8 []

-- Lock of the values, with the summary that is right where the slot begins with 11
abbrev pub lock_values : Call
lock_values = command 0x17 0x01 0x5688 []

-- Write of zeros to SlotConfig of slots 0 and 1; Lock of the configuration
abbrev pub open_slot : Call
open_slot = command 0x12 0x00 5 (zeros 4)

abbrev pub lock_configuration : Call
lock_configuration = command 0x17 0x80 0 []

-- ---- what they show

-- after the start, a call draws on the slot and its own answers differ
pub record Answers (c : Call) : Type 0 where
  pub drawn : draws_on secret_slot (after one start) c ≡ true
  pub unlike : answer_of (after one start) c ≡ answer_of (after another start) c → ⊥

-- after the start, a call draws on the slot, and the answers of a later call that does not draw on it differ
pub record Tells (c later : Call) : Type 0 where
  pub drawn : draws_on secret_slot (after one start) c ≡ true
  pub apart : draws_on secret_slot (after one (start ++ c ∷ [])) later ≡ false
  pub unlike : answer_of (after one (start ++ c ∷ [])) later ≡ answer_of (after another (start ++ c ∷ [])) later → ⊥

-- under another setting, the answers of the last of some calls differ, though the tokens are alike and none of the calls draws on the slot
pub record Exposed (x : Setting) (cs : List Call) (last : Call) : Type 0 where
  pub alike : Alike secret_slot (holding x 0x11) (holding x 0x22)
  pub spared : spared secret_slot (holding x 0x11) (cs ++ last ∷ []) ≡ true
  pub unlike : answer_of (after (holding x 0x11) cs) last ≡ answer_of (after (holding x 0x22) cs) last → ⊥

pub record Witnesses : Type 0 where
  -- demand 3 is not empty: two tokens alike but for the slot, and a run that spares it
  pub alike : Alike secret_slot one another
  pub kept : Kept secret_slot one
  pub unlike : slot_bytes one.device secret_slot ≡ slot_bytes another.device secret_slot → ⊥
  pub spared : spared secret_slot one run ≡ true
  pub same : SameRun secret_slot one another run
  -- a MAC that draws on the slot does differ
  pub mac : Answers mac_of_slot
  -- every other draw has to be excluded
  pub check_mac : Answers check_of_slot
  pub copy : Tells copy_of_slot mac_of_temp_key
  pub gen_dig : Tells gen_dig_of_slot read_encrypted
  pub derive_key : Tells derive_from_slot read_derived
  -- and the slot's bits and both locks matter: IsSecret 0, EncryptRead 1, values unlocked, configuration unlocked
  pub not_secret : Exposed (record { bits = 0x00; lock_value = 0x00; lock_config = 0x00 }) (call wake ∷ []) read_slot
  pub read_allowed : Exposed (record { bits = 0xC0; lock_value = 0x00; lock_config = 0x00 }) (start ++ gen_dig_of_open ∷ []) read_slot_encrypted
  pub values_open : Exposed (record { bits = 0x80; lock_value = 0x55; lock_config = 0x00 }) (call wake ∷ []) lock_values
  pub config_open : Exposed (record { bits = 0x80; lock_value = 0x00; lock_config = 0x55 }) (call wake ∷ open_slot ∷ lock_configuration ∷ []) read_slot
