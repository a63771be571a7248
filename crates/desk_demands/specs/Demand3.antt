-- Demand 3 over a desk's bytes. "Take two tokens under demand 2's rules, both zones locked, alike but for one slot whose bits say secret
-- and never read. Give both the same calls. Until the first command other than MAC that draws on that slot, all answers are equal and the
-- tokens differ at most in that slot, save that a MAC drawing on it answers a digest that may differ, and its check value with it."
use Rattle.std.specs.Prelude.{ℕ, ◌+◌, ◌*◌, ◌≤◌, ◌<◌, ◌≡◌, true, false, ◌⊎◌, List, [], ◌∷◌}
use Rattle.rules.specs.declared.Slot.{Slot}
use Rattle.rules.specs.Words.{byte, bytes}
use Rattle.rules.specs.State.{index, is_secret, encrypt_read}
use Rattle.desk.specs.Desk.{is_state, loaded}
use Rattle.demands.specs.Calls.{Call}
use Rattle.demands.specs.Demand3.{draws_on, spared}
use Rattle.desk_demands.specs.Calls.{call_number, call_state, call_output, call_length}

-- The bytes of two states are alike but for slot k: every byte outside 152 + 32k to 183 + 32k is equal.
pub record Alike (k : Slot) (s t : List ℕ) : Type 0 where
  pub first : is_state s ≡ true
  pub second : is_state t ≡ true
  pub elsewhere : (i : ℕ) → (i < 152 + 32 * index k) ⊎ (184 + 32 * index k ≤ i) → byte i s ≡ byte i t

-- Both zones locked, the slot's bits say secret and never read: lock bytes other than 55, IsSecret 1, EncryptRead 0.
pub record Kept (k : Slot) (s : List ℕ) : Type 0 where
  pub values : byte 86 s ≡ 0x55 → ⊥
  pub config : byte 87 s ≡ 0x55 → ⊥
  pub secret : is_secret (bytes 0 87 s) k ≡ true
  pub never_read : encrypt_read (bytes 0 87 s) k ≡ false

-- What one call shows: number and length are equal, and so is the whole output buffer, save that a MAC that draws on the slot may differ in
-- bytes 1 to 34 of it.
pub record SameCall (k : Slot) (s t : List ℕ) (c : Call) : Type 0 where
  pub number : call_number s c ≡ call_number t c
  pub length : call_length s c ≡ call_length t c
  pub output : draws_on k (loaded s) c ≡ false → call_output s c ≡ call_output t c
  pub save : (i : ℕ) → (i < 1) ⊎ (35 ≤ i) → byte i (call_output s c) ≡ byte i (call_output t c)

-- call by call: before each call and after the last the bytes are alike but for the slot
abbrev pub SameRun : Slot → List ℕ → List ℕ → List Call → Type 0
SameRun k s t [] = Alike k s t
SameRun k s t (c ∷ cs) = Alike k s t × SameCall k s t c × SameRun k (call_state s c) (call_state t c) cs

pub record Demand3 (k : Slot) (s t : List ℕ) (cs : List Call) : Type 0 where
  -- as long as no call other than MAC draws on the slot
  pub same : spared k (loaded s) cs ≡ true → SameRun k s t cs
  -- the first such draw comes at the same call in both
  pub first : spared k (loaded s) cs ≡ spared k (loaded t) cs
