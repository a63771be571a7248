-- What happened, item 1 of the minutes: the soft copy "kept its challenge through the watchdog's sleep. When the lock manager released a stale
-- claim, the old holder's claim still checked out". Here no challenge outlives a sleep (which is also the watchdog's expiry): until a Nonce is
-- accepted TempKey is empty, and every command that uses it is refused. This supposes right buffers: a sleep refused for its buffers (numbers 1
-- and 2 precede all else) has not slept, and whoever calls it must look at the number.
use Rattle.std.specs.Prelude.{ℕ, ◌≡◌, Bool, true, false, ◌&&◌, List, [], ◌∷◌, if◌then◌else◌}
use Rattle.wire.specs.Wire.{frame}
use Rattle.rules.specs.declared.Device.{Device}
use Rattle.rules.specs.declared.Fields.{Fields}
use Rattle.rules.specs.declared.TempKey.{TempKey}
use Rattle.rules.specs.declared.Status.TheVariants.{BadShape, Refused}
use Rattle.rules.specs.Words.{◌is◌}
use Rattle.rules.specs.State.{emptied, status_byte, is_secret}
use Rattle.rules.specs.Plan.{with_temp_key}
use Rattle.rules.specs.Mac.{uses_temp_key}
use Rattle.rules.specs.Address.{zone, data_slot}
use Rattle.rules.specs.Write.{encrypted}
use Rattle.rules.specs.Commands.{Command, a_read, a_mac, a_write, a_gen_dig, a_nonce, a_lock, a_random, a_derive_key, an_update_extra, a_check_mac, a_dev_rev, unknown, plan_of}
use Rattle.rules.specs.Events.{sleep, fields_of}
use Rattle.token.specs.declared.Token.{Token}
use Rattle.demands.specs.Calls.{Call, given, answer_of, right_buffers, runs, block_of, command_in, rule_in, after}

-- A Nonce is accepted: it runs, and its shape is right; it has no other condition.
pub record NonceAccepted (s : Token) (c : Call) : Type 0 where
  pub runs : runs s c ≡ true
  pub command : command_in c ≡ a_nonce
  pub shape : (rule_in s c).shape ≡ true

-- no Nonce is accepted in a run of calls
abbrev pub NoNonce : Token → List Call → Type 0
NoNonce s [] = Unit {0}
NoNonce s (c ∷ cs) = (NonceAccepted s c → ⊥) × NoNonce (given s c).token cs

-- The commands that use TempKey: MAC and CheckMac with bit 0 or 1, GenDig, DeriveKey, a Read of a secret slot, an encrypted Write.
unfoldable pub needs_temp_key : Command → Device → Fields → Bool
needs_temp_key a_read d f = zone f is 2 && is_secret d.config (data_slot f)
needs_temp_key a_mac d f = uses_temp_key f
needs_temp_key a_write d f = encrypted d.config f
needs_temp_key a_gen_dig d f = true
needs_temp_key a_nonce d f = false
needs_temp_key a_lock d f = false
needs_temp_key a_random d f = false
needs_temp_key a_derive_key d f = true
needs_temp_key an_update_extra d f = false
needs_temp_key a_check_mac d f = uses_temp_key f
needs_temp_key a_dev_rev d f = false
needs_temp_key unknown d f = false

-- No challenge is left in a token: TempKey is empty, and a command that uses it answers 0F, or 03 where its shape is wrong.
pub record NoChallenge (s : Token) : Type 0 where
  pub empty : s.device.tempKey ≡ emptied
  pub refused : (c : Call) → runs s c ≡ true → needs_temp_key (command_in c) s.device (fields_of (block_of c.event)) ≡ true
      → answer_of s c ≡ frame (status_byte (if (rule_in s c).shape then Refused else BadShape) ∷ [])

pub record Incident : Type 0 where
  -- after a sleep of any token, with buffers that are right, over any calls in which no Nonce is accepted, no challenge is left
  pub slept : (s : Token) (c : Call) (cs : List Call) → c.event ≡ sleep → right_buffers c ≡ true → NoNonce (given s c).token cs
      → NoChallenge (after s (c ∷ cs))
  -- no command was left out: any other comes to the same whatever TempKey holds
  pub others : (c : Command) (d : Device) (t : TempKey) (f : Fields) (input supplied : List ℕ) → needs_temp_key c d f ≡ false
      → plan_of c (with_temp_key t d) f input supplied ≡ plan_of c d f input supplied
