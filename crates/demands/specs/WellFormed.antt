-- What the state holds, by document 01: "configuration 88 bytes, OTP 64, data 512 (16 slots of 32), TempKey and power .. TempKey: 32 bytes, SlotID 0
-- to 15". The definitions range over lists of any length; a fresh state is well formed, and every call leaves it so.
use Rattle.std.specs.Prelude.{ℕ, ◌≤◌, ◌≡◌, ◌⊎◌, List, [], length}
use Rattle.rules.specs.declared.Number.TheVariants.{Answered}
use Rattle.rules.specs.Events.{wake}
use Rattle.token.specs.declared.Token.{Token}
use Rattle.token.specs.Outcome.{fresh_of}
use Rattle.demands.specs.Calls.{Call, given, after, asleep, call, command}
use Rattle.demands.specs.Soundings.{awake}

pub record WellFormed (s : Token) : Type 0 where
  pub config : length s.device.config ≡ 88
  pub otp : length s.device.otp ≡ 64
  pub data_zone : length s.device.«data» ≡ 512
  pub tempKey : length s.device.tempKey.bytes ≡ 32
  pub slotID : s.device.tempKey.slotID.0 ≤ 15

-- each length of an answer occurs: a wake's status, DevRev's 4 bytes, Random's 32
pub record Occurring : Type 0 where
  pub four : (given (asleep []) (call wake)).length ≡ 4
  pub seven : (given (awake []) (command 0x30 0x00 0 [])).length ≡ 7
  pub thirty_five : (given (awake []) (command 0x1B 0x00 0 [])).length ≡ 35

pub record StaysWellFormed : Type 0 where
  pub fresh : (image : List ℕ) → WellFormed (fresh_of image).token
  pub calls : (s : Token) (cs : List Call) → WellFormed s → WellFormed (after s cs)
  -- 0 answered, 4 to 35 bytes: an answer is its count, 1, 4 or 32 bytes and its check value
  pub lengths : (s : Token) (c : Call) → WellFormed s → (given s c).number ≡ Answered
      → ((given s c).length ≡ 4) ⊎ (((given s c).length ≡ 7) ⊎ ((given s c).length ≡ 35))
  -- and with any other number it is empty
  pub others : (s : Token) (c : Call) → ((given s c).number ≡ Answered → ⊥) → (given s c).length ≡ 0
  -- the output has room for it
  pub fits : (s : Token) (c : Call) → WellFormed s → (given s c).length ≤ length c.output
  pub occurring : Occurring
