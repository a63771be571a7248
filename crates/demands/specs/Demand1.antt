-- Demand 1. "Every call ends and nothing is assumed of its bytes. A call refused for its buffers changes no byte and no state. A refused command
-- answers its status and changes nothing but emptying TempKey; a damaged block does not even do that."
use Rattle.std.specs.Prelude.{ℕ, ◌≡◌, Bool, true, false, not, ◌&&◌, ◌⊎◌, List, [], ◌∷◌, ◌++◌, length, drop}
use Rattle.wire.specs.Wire.{frame, whole}
use Rattle.rules.specs.declared.Device.{Device}
use Rattle.rules.specs.declared.Fields.{Fields}
use Rattle.rules.specs.declared.Number.{Number}
use Rattle.rules.specs.declared.Number.TheVariants.{Answered, ShortOutput, WrongRandom, NoAnswer}
use Rattle.rules.specs.declared.Status.{Status}
use Rattle.rules.specs.declared.Status.TheVariants.{BadShape, Refused, Damaged}
use Rattle.rules.specs.Words.{◌is◌, ◌under◌, bytes, equal}
use Rattle.rules.specs.State.{is_awake, emptied, status_byte}
use Rattle.rules.specs.Plan.{with_temp_key}
use Rattle.rules.specs.DeriveKey.{derive_key_mac, asks_mac}
use Rattle.rules.specs.Write.{write_mac, encrypted}
use Rattle.rules.specs.Commands.{Command, a_read, a_mac, a_write, a_gen_dig, a_nonce, a_lock, a_random, a_derive_key, an_update_extra, a_check_mac, a_dev_rev, unknown}
use Rattle.rules.specs.Events.{block, fields_of, input_of}
use Rattle.token.specs.declared.Token.{Token}
use Rattle.demands.specs.Calls.{Call, given, output_of, answer_of, right_buffers, runs, block_of, command_in, rule_in}

-- ---- what a refusal is

-- A call is turned away with a number: no answer, every byte of the output and the state as they were.
pub record TurnedAway (s : Token) (c : Call) (n : Number) : Type 0 where
  pub number : (given s c).number ≡ n
  pub length : (given s c).length ≡ 0
  pub token : (given s c).token ≡ s
  pub output : output_of s c ≡ c.output

-- A call answers a status and leaves the token so: the status framed at the front of the output, the rest of the output as it was.
pub record Says (s : Token) (c : Call) (r : Status) (t : Token) : Type 0 where
  pub number : (given s c).number ≡ Answered
  pub length : (given s c).length ≡ 4
  pub token : (given s c).token ≡ t
  pub output : output_of s c ≡ frame (status_byte r ∷ []) ++ drop 4 c.output
  pub answer : answer_of s c ≡ frame (status_byte r ∷ [])

-- the token with TempKey empty, else as it was
abbrev pub with_emptied : Token → Token
with_emptied s = record { device = with_temp_key emptied s.device; power = s.power }

-- ---- its causes: the buffers (page Calls), a command's shape and its conditions (its rule's), and after these its digest

-- a DeriveKey that asks for a MAC and an encrypted Write are given another than theirs; no other rule has a
-- refusal in its effect (and if one had, `refused` below would speak of it)
unfoldable pub wrong_mac : Command → Device → Fields → List ℕ → Bool
wrong_mac a_derive_key d f input = asks_mac d.config f && not (equal (derive_key_mac d f) input)
wrong_mac a_write d f input = encrypted d.config f && not (equal (write_mac d f input) (bytes 32 63 input))
wrong_mac a_read d f input = false
wrong_mac a_mac d f input = false
wrong_mac a_gen_dig d f input = false
wrong_mac a_nonce d f input = false
wrong_mac a_lock d f input = false
wrong_mac a_random d f input = false
wrong_mac an_update_extra d f input = false
wrong_mac a_check_mac d f input = false
wrong_mac a_dev_rev d f input = false
wrong_mac unknown d f input = false

abbrev pub wrong_mac_in : Token → Call → Bool
wrong_mac_in s c = wrong_mac (command_in c) s.device (fields_of (block_of c.event)) (input_of (block_of c.event))

-- ---- Of every token, event, block, random bytes and output buffer of any content and length: by cause, and by what the call shows.

pub record ByCause (s : Token) (c : Call) : Type 0 where
  -- "A call refused for its buffers changes no byte and no state." An output under 35 bytes, else random bytes that are not 32. No other call
  -- is given number 1 or 2.
  pub short_output : length c.output under 35 ≡ true → TurnedAway s c ShortOutput
  pub wrong_random : length c.output under 35 ≡ false → length c.random is 32 ≡ false → TurnedAway s c WrongRandom
  pub fitting : right_buffers c ≡ true → ((given s c).number ≡ Answered) ⊎ ((given s c).number ≡ NoAnswer)
  -- "A refused command answers its status and changes nothing but emptying TempKey;" A command that runs: 03 for its shape, 0F for its
  -- conditions, and 0F for its MAC after them.
  pub shape : runs s c ≡ true → (rule_in s c).shape ≡ false → Says s c BadShape (with_emptied s)
  pub conditions : runs s c ≡ true → (rule_in s c).shape ≡ true → (rule_in s c).free ≡ false → Says s c Refused (with_emptied s)
  pub digest : runs s c ≡ true → (rule_in s c).shape ≡ true → (rule_in s c).free ≡ true → wrong_mac_in s c ≡ true
      → Says s c Refused (with_emptied s)
  -- "a damaged block does not even do that." Given to a token that is Awake, with buffers that are right, it answers FF and leaves the state
  -- as it was.
  pub damaged_awake : (b : List ℕ) → c.event ≡ block b → whole b ≡ false → right_buffers c ≡ true → is_awake s.power ≡ true
      → Says s c Damaged s

-- By what a call shows.
pub record Demand1 (s : Token) (c : Call) : Type 0 where
  -- numbers 1 and 2 leave the state and every byte of the output as they were
  pub buffers : ((given s c).number ≡ ShortOutput) ⊎ ((given s c).number ≡ WrongRandom) → ((given s c).token ≡ s) × (output_of s c ≡ c.output)
  -- an answer of 03 or 0F is its frame at the front of the output with the rest unchanged, and the state changes in nothing but the empty TempKey
  pub refused : (r : Status) → (r ≡ BadShape) ⊎ (r ≡ Refused) → answer_of s c ≡ frame (status_byte r ∷ [])
      → ((given s c).token ≡ with_emptied s) × (output_of s c ≡ frame (status_byte r ∷ []) ++ drop 4 c.output)
  -- a damaged block leaves the state as it was; where it is answered, the answer is FF
  pub damaged : (b : List ℕ) → c.event ≡ block b → whole b ≡ false
      → ((given s c).token ≡ s) × ((given s c).number ≡ Answered → answer_of s c ≡ frame (status_byte Damaged ∷ []))
  -- a number 3 leaves the output as it was
  pub silent : (given s c).number ≡ NoAnswer → output_of s c ≡ c.output
