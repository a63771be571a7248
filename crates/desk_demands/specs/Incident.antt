-- The incident over a desk's bytes (item 1 of the minutes): no challenge outlives a sleep. The sleep must have happened, and the caller
-- knows it by its number: a sleep that gives 1, 2 or 40 (refused for its buffers, or for bytes that are no state) has not slept, and
-- TempKey is as it was. Whoever calls chhutirok_sleep must look at the number.
use Rattle.std.specs.Prelude.{ℕ, ◌≡◌, true, List, ◌∷◌, if◌then◌else◌}
use Rattle.rules.specs.declared.Status.TheVariants.{BadShape, Refused}
use Rattle.rules.specs.Words.{bytes, zeros}
use Rattle.rules.specs.Events.{sleep, fields_of}
use Rattle.desk.specs.Desk.{is_state, loaded}
use Rattle.demands.specs.Calls.{Call, right_buffers, runs, block_of, command_in, rule_in}
use Rattle.demands.specs.Incident.{NoNonce, needs_temp_key}
use Rattle.desk_demands.specs.Calls.{call_number, call_state, bytes_after}
use Rattle.desk_demands.specs.Demand1.{Says}

-- No challenge is left in a state: TempKey's bytes 664 to 700 are zeros, and a command that uses it answers 0F, or 03 where its shape is
-- wrong, and changes no byte of the state.
pub record NoChallenge (s : List ℕ) : Type 0 where
  pub empty : bytes 664 700 s ≡ zeros 37
  pub refused : (c : Call) → runs (loaded s) c ≡ true → needs_temp_key (command_in c) (loaded s).device (fields_of (block_of c.event)) ≡ true
      → Says s c (if (rule_in (loaded s) c).shape then Refused else BadShape) s

pub record Incident : Type 0 where
  -- a sleep with buffers that are right, of any state, gives number 3
  pub sleeps : (s : List ℕ) (c : Call) → c.event ≡ sleep → right_buffers c ≡ true → is_state s ≡ true → call_number s c ≡ 3
  -- after a sleep that gave number 3, over any calls in which no Nonce is accepted, no challenge is left
  pub slept : (s : List ℕ) (c : Call) (cs : List Call) → c.event ≡ sleep → call_number s c ≡ 3 → NoNonce (loaded (call_state s c)) cs
      → NoChallenge (bytes_after s (c ∷ cs))
