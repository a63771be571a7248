-- The demands over a desk's bytes are not empty: two states, and what calls on them show.
use Rattle.std.specs.Prelude.{ℕ, ◌≡◌, true, List, [], ◌∷◌, ◌++◌}
use Rattle.rules.specs.Words.{byte, zeros}
use Rattle.rules.specs.Events.{wake, sleep}
use Rattle.desk.specs.Desk.{loaded, saved}
use Rattle.demands.specs.Calls.{call}
use Rattle.demands.specs.Demand3.{spared}
use Rattle.demands.specs.Refusals.{sleep_with}
use Rattle.demands.specs.Witnesses as tokens
use Rattle.demands.specs.Witnesses.{secret_slot, start, mac_of_slot, mac_of_temp_key, run}
use Rattle.desk_demands.specs.Calls.{call_number, call_output, call_length, bytes_after}
use Rattle.desk_demands.specs.Demand3.{Alike, Kept, SameRun}

-- the bytes of two tokens of crate `demands`, which differ in the first byte of slot 1
abbrev pub one : List ℕ
one = saved tokens.one

abbrev pub another : List ℕ
another = saved tokens.another

pub record Witnesses : Type 0 where
  -- they meet all that demand 3 supposes, with a run of calls that spares the slot
  pub alike : Alike secret_slot one another
  pub kept : Kept secret_slot one
  pub unlike : byte 184 one ≡ byte 184 another → ⊥
  pub spared : spared secret_slot (loaded one) run ≡ true
  pub same : SameRun secret_slot one another run
  -- and on that run a MAC that draws on it does differ
  pub mac : call_output (bytes_after one start) mac_of_slot ≡ call_output (bytes_after another start) mac_of_slot → ⊥
  -- after a Nonce and a sleep, MAC of TempKey is refused with 0F
  pub slept : call_number (bytes_after one start) (call sleep) ≡ 3
  pub refused : call_output (bytes_after one (start ++ call sleep ∷ call wake ∷ [])) mac_of_temp_key ≡ 0x04 ∷ 0x0F ∷ 0x23 ∷ 0x42 ∷ zeros 31
  -- after a sleep refused for its buffers it is answered with a digest
  pub awake : call_number (bytes_after one start) (sleep_with 32 34) ≡ 1
  pub answered : call_length (bytes_after one (start ++ sleep_with 32 34 ∷ [])) mac_of_temp_key ≡ 35
