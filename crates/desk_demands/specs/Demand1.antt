-- Demand 1 over a desk's bytes. "Every call ends and nothing is assumed of its bytes. A call refused for its buffers changes no byte and no
-- state. A refused command answers its status and changes nothing but emptying TempKey; a damaged block does not even do that."
use Rattle.std.specs.Prelude.{ℕ, ◌≤◌, ◌<◌, ◌≡◌, true, false, ◌⊎◌, List, [], ◌∷◌, ◌++◌, length, drop}
use Rattle.wire.specs.Wire.{frame, whole}
use Rattle.rules.specs.declared.Status.{Status}
use Rattle.rules.specs.declared.Status.TheVariants.{BadShape, Refused, Damaged}
use Rattle.rules.specs.Words.{byte, bytes, zeros}
use Rattle.rules.specs.State.{status_byte}
use Rattle.rules.specs.Events.{block, front_of}
use Rattle.desk.specs.Desk.{is_state, loaded}
use Rattle.demands.specs.Calls.{Call, right_buffers, runs, rule_in}
use Rattle.demands.specs.Demand1.{wrong_mac_in}
use Rattle.desk_demands.specs.Calls.{call_number, call_state, call_output, call_length}

-- A call is turned away: no answer, every byte of the output and of the state as it was.
pub record TurnedAway (s : List ℕ) (c : Call) : Type 0 where
  pub length : call_length s c ≡ 0
  pub state : call_state s c ≡ s
  pub output : call_output s c ≡ c.output

-- A call answers a status and leaves these bytes: the status framed at the front of the output, the rest of the output as it was.
pub record Says (s : List ℕ) (c : Call) (r : Status) (after : List ℕ) : Type 0 where
  pub number : call_number s c ≡ 0
  pub length : call_length s c ≡ 4
  pub state : call_state s c ≡ after
  pub output : call_output s c ≡ frame (status_byte r ∷ []) ++ drop 4 c.output

-- TempKey's bytes 664 to 700 zeros, all others as they were
abbrev pub with_emptied : List ℕ → List ℕ
with_emptied s = bytes 0 663 s ++ zeros 37 ++ byte 701 s ∷ []

-- ---- Of any bytes, event, block, random bytes and output buffer of any content and length: by cause, and by what the call shows.

pub record ByCause (s : List ℕ) (c : Call) : Type 0 where
  -- "A call refused for its buffers changes no byte and no state." Nor does one refused for its state. Bytes that are no state give 40
  -- whatever the buffers are; a state gives 1, or else 2:
  pub no_state : is_state s ≡ false → call_number s c ≡ 40
  pub short_output : is_state s ≡ true → length c.output < 35 → call_number s c ≡ 1
  pub wrong_random : is_state s ≡ true → 35 ≤ length c.output → (length c.random ≡ 32 → ⊥) → call_number s c ≡ 2
  -- No other call is given one of them.
  pub fitting : right_buffers c ≡ true → is_state s ≡ true → (call_number s c ≡ 0) ⊎ (call_number s c ≡ 3)
  -- "A refused command answers its status and changes nothing but emptying TempKey;" Of a command that runs: 03 for its shape; 0F for its
  -- conditions, and for its MAC after them.
  pub shape : is_state s ≡ true → runs (loaded s) c ≡ true → (rule_in (loaded s) c).shape ≡ false → Says s c BadShape (with_emptied s)
  pub conditions : is_state s ≡ true → runs (loaded s) c ≡ true → (rule_in (loaded s) c).shape ≡ true → (rule_in (loaded s) c).free ≡ false
      → Says s c Refused (with_emptied s)
  pub digest : is_state s ≡ true → runs (loaded s) c ≡ true → (rule_in (loaded s) c).shape ≡ true → (rule_in (loaded s) c).free ≡ true
      → wrong_mac_in (loaded s) c ≡ true → Says s c Refused (with_emptied s)
  -- "a damaged block does not even do that." A state that is Awake (701 is 2) answers FF, and no byte of the state changes.
  pub damaged_awake : (b : List ℕ) → c.event ≡ block b → whole b ≡ false → right_buffers c ≡ true → is_state s ≡ true → byte 701 s ≡ 2
      → Says s c Damaged s

-- By what a call shows.
pub record Demand1 (s : List ℕ) (c : Call) : Type 0 where
  -- numbers 1, 2 and 40 leave every byte of the state and of the output as it was
  pub turned_away : (call_number s c ≡ 1) ⊎ ((call_number s c ≡ 2) ⊎ (call_number s c ≡ 40)) → TurnedAway s c
  -- where the answer is 03 or 0F, nothing but TempKey's bytes is changed
  pub shown : (r : Status) → (r ≡ BadShape) ⊎ (r ≡ Refused) → call_number s c ≡ 0
      → front_of (call_length s c) (call_output s c) ≡ frame (status_byte r ∷ []) → call_state s c ≡ with_emptied s
  -- a damaged block in no case changes a byte of the state
  pub damaged : (b : List ℕ) → c.event ≡ block b → whole b ≡ false → call_state s c ≡ s
  -- a number 3 leaves the output as it was
  pub silent : call_number s c ≡ 3 → call_output s c ≡ c.output
