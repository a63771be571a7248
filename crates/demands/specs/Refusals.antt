-- Demand 1 is not empty: each cause of a refusal occurs, and what such a call leaves, computed.
use Rattle.std.specs.Prelude.{ℕ, ◌≡◌, Bool, true, false, [], ◌∷◌}
use Rattle.wire.specs.Wire.{whole}
use Rattle.rules.specs.declared.Number.TheVariants.{ShortOutput, WrongRandom}
use Rattle.rules.specs.declared.Status.TheVariants.{BadShape, Refused, Damaged}
use Rattle.rules.specs.Words.{zeros}
use Rattle.rules.specs.Events.{sleep, block}
use Rattle.token.specs.declared.Token.{Token}
use Rattle.demands.specs.Calls.{Call, given, runs, rule_in, call, command}
use Rattle.demands.specs.Demand1.{TurnedAway, Says, with_emptied, wrong_mac_in}
use Rattle.demands.specs.Soundings.{awake, nonce3}

-- ---- tokens and calls

-- a token with both zones locked, Awake, with the TempKey of a Nonce 3. DeriveKey of slot 0 asks for a MAC (bits 15 and 13), a Write of
-- slot 1 is encrypted (bit 14), both under slot 0; CheckMacConfig is 01, since that TempKey's SourceFlag is 1
abbrev pub keyed : Token
keyed = (given (awake ((17, 0x01) ∷ (21, 0xA0) ∷ (23, 0x40) ∷ [])) nonce3).token

-- and after a GenDig of slot 0, which an encrypted Write needs
abbrev pub digested : Token
digested = (given keyed (command 0x15 0x02 0 [])).token

-- a sleep with so many random bytes and so many bytes of output
abbrev pub sleep_with : ℕ → ℕ → Call
sleep_with random output = record { event = sleep; random = zeros random; output = zeros output }

-- a Lock with a bit that it does not have, and one of a zone that is locked
abbrev pub lock_bit1 : Call
lock_bit1 = command 0x17 0x02 0 []

abbrev pub lock_again : Call
lock_again = command 0x17 0x80 0 []

-- a DeriveKey of slot 0 and an encrypted Write of slot 1, with zeros for a MAC
abbrev pub derive_unproved : Call
derive_unproved = command 0x1C 0x04 0 (zeros 32)

abbrev pub write_unproved : Call
write_unproved = command 0x12 0x82 8 (zeros 64)

-- ---- what they show

-- a command that runs, with its shape, its conditions and its MAC as said
pub record Stands (s : Token) (c : Call) (shaped met wrong : Bool) : Type 0 where
  pub runs : runs s c ≡ true
  pub shape : (rule_in s c).shape ≡ shaped
  pub free : (rule_in s c).free ≡ met
  pub mac : wrong_mac_in s c ≡ wrong

pub record Refusals : Type 0 where
  -- there is a TempKey to be emptied
  pub held : keyed.device.tempKey.valid ≡ true
  -- a sleep that is turned away for an output of 34 bytes, or for 31 random bytes, has not slept
  pub short_output : TurnedAway keyed (sleep_with 32 34) ShortOutput
  pub wrong_random : TurnedAway keyed (sleep_with 31 35) WrongRandom
  -- 03 for the shape, 0F for the conditions
  pub shape : Stands keyed lock_bit1 false false false × Says keyed lock_bit1 BadShape (with_emptied keyed)
  pub conditions : Stands keyed lock_again true false false × Says keyed lock_again Refused (with_emptied keyed)
  -- 0F after the digest
  pub derive_key : Stands keyed derive_unproved true true true × Says keyed derive_unproved Refused (with_emptied keyed)
  pub write : Stands digested write_unproved true true true × Says digested write_unproved Refused (with_emptied digested)
  -- FF, with TempKey kept
  pub damaged : (whole [] ≡ false) × Says keyed (call (block [])) Damaged keyed
