-- Demand 3. "Take two tokens under demand 2's rules, both zones locked, alike but for one slot whose bits say secret and never read. Give both
-- the same calls. Until the first command other than MAC that draws on that slot, all answers are equal and the tokens differ at most in that
-- slot, save that a MAC drawing on it answers a digest that may differ, and its check value with it."
use Rattle.std.specs.Prelude.{ℕ, ◌/◌, ◌≡◌, Bool, true, false, ◌&&◌, ◌||◌, List, [], ◌∷◌, length, take, drop}
use Rattle.rules.specs.declared.Slot.{Slot}
use Rattle.rules.specs.Words.{◌⇒◌, ◌is◌, byte}
use Rattle.rules.specs.State.{index, both_locked, is_secret, encrypt_read}
use Rattle.rules.specs.Commands.{Command, a_read, a_mac, a_write, a_gen_dig, a_nonce, a_lock, a_random, a_derive_key, an_update_extra, a_check_mac, a_dev_rev, unknown}
use Rattle.token.specs.declared.Token.{Token}
use Rattle.demands.specs.Calls.{Call, given, output_of, command_in, draws}

-- Two tokens are alike but for a slot: every byte and field outside its 32 bytes of the data zone is equal.
pub record Alike (k : Slot) (s t : Token) : Type 0 where
  pub config : s.device.config ≡ t.device.config
  pub otp : s.device.otp ≡ t.device.otp
  pub tempKey : s.device.tempKey ≡ t.device.tempKey
  pub power : s.power ≡ t.power
  pub data_length : length s.device.«data» ≡ length t.device.«data»
  pub elsewhere : (i : ℕ) → (i / 32 ≡ index k → ⊥) → byte i s.device.«data» ≡ byte i t.device.«data»

-- Both zones locked, the slot's bits say secret and never read: IsSecret 1, EncryptRead 0.
pub record Kept (k : Slot) (s : Token) : Type 0 where
  pub locked : both_locked s.device.config ≡ true
  pub secret : is_secret s.device.config k ≡ true
  pub never_read : encrypt_read s.device.config k ≡ false

-- a call draws on a slot; it is a MAC that does
unfoldable pub holds : Slot → List Slot → Bool
holds k [] = false
holds k (x ∷ xs) = index x is index k || holds k xs

abbrev pub draws_on : Slot → Token → Call → Bool
draws_on k s c = holds k (draws s c)

unfoldable pub is_mac : Command → Bool
is_mac a_mac = true
is_mac a_read = false
is_mac a_write = false
is_mac a_gen_dig = false
is_mac a_nonce = false
is_mac a_lock = false
is_mac a_random = false
is_mac a_derive_key = false
is_mac an_update_extra = false
is_mac a_check_mac = false
is_mac a_dev_rev = false
is_mac unknown = false

-- no call of a run, other than a MAC, draws on the slot
unfoldable pub spared : Slot → Token → List Call → Bool
spared k s [] = true
spared k s (c ∷ cs) = (draws_on k s c ⇒ is_mac (command_in c)) && spared k (given s c).token cs

-- What one call shows in two tokens: both draw on the same slots, number and length are equal, and so is the whole output buffer, save that
-- a MAC that draws on the slot may differ in bytes 1 to 34 of it.
pub record SameCall (k : Slot) (s t : Token) (c : Call) : Type 0 where
  pub draws : draws s c ≡ draws t c
  pub number : (given s c).number ≡ (given t c).number
  pub length : (given s c).length ≡ (given t c).length
  pub output : draws_on k s c ≡ false → output_of s c ≡ output_of t c
  pub front : take 1 (output_of s c) ≡ take 1 (output_of t c)
  pub rest : drop 35 (output_of s c) ≡ drop 35 (output_of t c)

-- call by call: before each call and after the last the tokens are alike but for the slot
abbrev pub SameRun : Slot → Token → Token → List Call → Type 0
SameRun k s t [] = Alike k s t
SameRun k s t (c ∷ cs) = Alike k s t × SameCall k s t c × SameRun k (given s c).token (given t c).token cs

pub record Demand3 (k : Slot) (s t : Token) (cs : List Call) : Type 0 where
  -- as long as no call other than MAC draws on the slot
  pub same : spared k s cs ≡ true → SameRun k s t cs
  -- the first such draw comes at the same call in both
  pub first : spared k s cs ≡ spared k t cs
