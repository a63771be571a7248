-- Calls on the bytes that a desk keeps, runs of calls, and that they are calls on a token: what carries the demands over to C.
use Rattle.std.specs.Prelude.{ℕ, ◌≡◌, true, ◌⊎◌, List, [], ◌∷◌, length}
use Rattle.rules.specs.State.{number_of}
use Rattle.token.specs.Outcome.{fresh_of}
use Rattle.desk.specs.Desk as desk
use Rattle.desk.specs.Desk.{is_state, loaded, saved, fresh_state}
use Rattle.demands.specs.Calls.{Call, given, output_of, after}

-- What a C call gives, as crate `desk` promises it: its number, the state's bytes after it, the output buffer after it, the answer's length.
abbrev pub call_number : List ℕ → Call → ℕ
call_number s c = desk.number s c.event c.random c.output

abbrev pub call_state : List ℕ → Call → List ℕ
call_state s c = desk.state_after s c.event c.random c.output

abbrev pub call_output : List ℕ → Call → List ℕ
call_output s c = desk.output_of s c.event c.random c.output

abbrev pub call_length : List ℕ → Call → ℕ
call_length s c = desk.answer_length s c.event c.random c.output

-- the state's bytes after a run of C calls
abbrev pub bytes_after : List ℕ → List Call → List ℕ
bytes_after s [] = s
bytes_after s (c ∷ cs) = bytes_after (call_state s c) cs

-- ---- A state stays a state.

pub record StaysState : Type 0 where
  -- 702 bytes that hold anything become one, whatever the image
  pub fresh : (image s : List ℕ) → length s ≡ 702 → is_state (fresh_state image s) ≡ true
  -- and hold the fresh token of that image
  pub made : (image s : List ℕ) → length s ≡ 702 → loaded (fresh_state image s) ≡ (fresh_of image).token
  -- and no call undoes that
  pub calls : (s : List ℕ) (cs : List Call) → is_state s ≡ true → is_state (bytes_after s cs) ≡ true

-- ---- A run of C calls on a state is the run of calls on the token that its bytes hold.

pub record Carried (s : List ℕ) (cs : List Call) : Type 0 where
  pub token : loaded (bytes_after s cs) ≡ after (loaded s) cs
  pub bytes : bytes_after s cs ≡ saved (after (loaded s) cs)
  -- and so is what the next call gives
  pub number : (c : Call) → call_number (bytes_after s cs) c ≡ number_of (given (after (loaded s) cs) c).number
  pub output : (c : Call) → call_output (bytes_after s cs) c ≡ output_of (after (loaded s) cs) c
  pub length : (c : Call) → call_length (bytes_after s cs) c ≡ (given (after (loaded s) cs) c).length

-- ---- The answer's length, of any bytes: "With number 0 *length is 4, 7 or 35 ..; with every other number *length is 0." (include/chhutirok.h)

pub record Lengths (s : List ℕ) (c : Call) : Type 0 where
  pub answered : call_number s c ≡ 0 → (call_length s c ≡ 4) ⊎ ((call_length s c ≡ 7) ⊎ (call_length s c ≡ 35))
  pub otherwise : (call_number s c ≡ 0 → ⊥) → call_length s c ≡ 0
