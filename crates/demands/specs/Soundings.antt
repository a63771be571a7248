-- The soundings P1 to P12 of document 01, together as one table under a single statement. Each event is a call on a token made from an image.
use Rattle.std.specs.Prelude.{ℕ, ◌≡◌, true, List, [], ◌∷◌}
use Rattle.rules.specs.Words.{byte, zeros}
use Rattle.rules.specs.State.{slot, is_secret, read_key, write_config_bit, use_flag_at, update_count_at}
use Rattle.rules.specs.Events.{wake, block}
use Rattle.token.specs.declared.Token.{Token}
use Rattle.demands.specs.Calls.{Call, given, answer_of, after, asleep, call, command}

-- ---- calls and tokens

-- a MAC of slot 0, a Nonce 3
abbrev pub mac_of_slot0 : Call
mac_of_slot0 = command 0x08 0x00 0 (zeros 32)

abbrev pub nonce3 : Call
nonce3 = command 0x16 0x03 0 (zeros 32)

abbrev pub awake : List (ℕ × ℕ) → Token
awake xs = (given (asleep xs) (call wake)).token

-- slot 0 with LimitedUse and a UseFlag
abbrev pub limited_to : ℕ → Token
limited_to flag = awake ((20, 0x20) ∷ (52, flag) ∷ [])

abbrev pub use_flag : Token → ℕ
use_flag s = byte (use_flag_at (slot 0)) s.device.config

abbrev pub update_count : Token → ℕ
update_count s = byte (update_count_at (slot 0)) s.device.config

-- slot 0 with SlotConfig bytes 82 E0
abbrev pub config82E0 : List ℕ
config82E0 = (asleep ((20, 0x82) ∷ (21, 0xE0) ∷ [])).device.config

-- ---- the table

pub record Soundings : Type 0 where
  -- wake from Asleep
  pub p1 : answer_of (asleep []) (call wake) ≡ 0x04 ∷ 0x11 ∷ 0x33 ∷ 0x43 ∷ []
  -- the DevRev block
  pub p2 : answer_of (awake []) (call (block (0x07 ∷ 0x30 ∷ 0x00 ∷ 0x00 ∷ 0x00 ∷ 0x03 ∷ 0x5D ∷ []))) ≡ 0x07 ∷ 0x00 ∷ 0x00 ∷ 0x00 ∷ 0x00 ∷ 0x03 ∷ 0xAD ∷ []
  -- its last byte 5E
  pub p3 : answer_of (awake []) (call (block (0x07 ∷ 0x30 ∷ 0x00 ∷ 0x00 ∷ 0x00 ∷ 0x03 ∷ 0x5E ∷ []))) ≡ 0x04 ∷ 0xFF ∷ 0x01 ∷ 0x42 ∷ []
  -- an empty slice
  pub p4 : answer_of (awake []) (call (block [])) ≡ 0x04 ∷ 0xFF ∷ 0x01 ∷ 0x42 ∷ []
  -- 03: opcode 47 is unknown
  pub p5 : answer_of (awake []) (command 0x47 0x00 0 []) ≡ 0x04 ∷ 0x03 ∷ 0x83 ∷ 0x42 ∷ []
  -- 0F: a MAC with both zones unlocked
  pub p6 : answer_of (awake ((86, 0x55) ∷ (87, 0x55) ∷ [])) mac_of_slot0 ≡ 0x04 ∷ 0x0F ∷ 0x23 ∷ 0x42 ∷ []
  -- 00: a Nonce 3
  pub p7 : answer_of (awake []) nonce3 ≡ 0x04 ∷ 0x00 ∷ 0x03 ∷ 0x40 ∷ []
  -- 01: a CheckMac that compares unequal
  pub p8 : answer_of (awake []) (command 0x28 0x00 0 (zeros 77)) ≡ 0x04 ∷ 0x01 ∷ 0x00 ∷ 0xC3 ∷ []
  -- UseFlag FF to 7F, 01 to 00, 00 refused
  pub p9 :
      (use_flag (given (limited_to 0xFF) mac_of_slot0).token ≡ 0x7F)
      × (use_flag (given (limited_to 0x01) mac_of_slot0).token ≡ 0x00)
      × (answer_of (limited_to 0x00) mac_of_slot0 ≡ 0x04 ∷ 0x0F ∷ 0x23 ∷ 0x42 ∷ [])
  -- SlotConfig bytes 82 E0: secret, ReadKey 2, encrypted write (bit 14)
  pub p10 : (is_secret config82E0 (slot 0) ≡ true) × (read_key config82E0 (slot 0) ≡ slot 2) × (write_config_bit 14 config82E0 (slot 0) ≡ true)
  -- OTP F0 written AA is A0: OTPmode 55, byte 88 of the image is OTP's first
  pub p11 : byte 0 (given (awake ((18, 0x55) ∷ (88, 0xF0) ∷ [])) (command 0x12 0x01 0 (0xAA ∷ zeros 3))).token.device.otp ≡ 0xA0
  -- UpdateCount 255 to 0: a DeriveKey of slot 0, after a Nonce 3
  pub p12 : update_count (after (awake ((21, 0x20) ∷ (53, 255) ∷ [])) (nonce3 ∷ command 0x1C 0x04 0 [] ∷ [])) ≡ 0
