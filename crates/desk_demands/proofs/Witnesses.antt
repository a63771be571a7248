-- What calls on the two states show, computed on their tokens.
use mathlib.Core.Path.{◌≡◌, refl, sym, ap, ◌∙◌}
use mathlib.Core.Bool.{true}
use mathlib.Core.List.{List, [], ◌∷◌, ◌++◌}
use borrow.Author.Tests.{eqb-false}
use Rattle.rules.specs.Words.{byte, zeros}
use Rattle.rules.specs.State.{number_of}
use Rattle.rules.specs.Events.{wake, sleep}
use Rattle.token.specs.declared.Token.{Token}
use Rattle.desk.specs.Desk.{is_state, loaded, last_six, saved}
use Rattle.demands.specs.Calls.{Call, given, output_of, after, call}
use Rattle.demands.specs.Demand3.{spared}
use Rattle.demands.specs.Refusals.{sleep_with}
use Rattle.demands.specs.WellFormed.{WellFormed}
use Rattle.demands.specs.Witnesses as tokens
use Rattle.demands.specs.Witnesses.{holding, secret_slot, start, mac_of_slot, mac_of_temp_key, run}
use Rattle.demands.proofs.WellFormed.{fresh_formed}
use Rattle.demands.proofs.Witnesses as proved
use Rattle.demands.proofs.Witnesses.{opening, digesting}
use Rattle.desk_demands.specs.Calls.{call_number, call_output, call_length, bytes_after}
use Rattle.desk_demands.specs.Demand3.{Alike, Kept}
use Rattle.desk_demands.specs.Witnesses.{one, another, Witnesses}
use Rattle.desk_demands.proofs.Carried.{formed_state, formed_loaded, carried}
use Rattle.desk_demands.proofs.SameBytes.{alike, demand_3}

-- ---- two states

tokens_formed : WellFormed tokens.one × WellFormed tokens.another
unfolding holding
tokens_formed = (fresh_formed _, fresh_formed _)

one_state : is_state one ≡ true
one_state = formed_state tokens.one tokens_formed.0

another_state : is_state another ≡ true
another_state = formed_state tokens.another tokens_formed.1

one_loaded : loaded one ≡ tokens.one
one_loaded = formed_loaded tokens.one tokens_formed.0

another_loaded : loaded another ≡ tokens.another
another_loaded = formed_loaded tokens.another tokens_formed.1

states_alike : Alike secret_slot one another
states_alike = alike secret_slot one another one_state another_state (rw (one_loaded, another_loaded) (proved.witnesses).alike)

state_kept : Kept secret_slot one
unfolding opening saved last_six
state_kept = record { values = eqb-false _ 0x55 refl; config = eqb-false _ 0x55 refl; secret = refl; never_read = refl }

states_unlike : byte 184 one ≡ byte 184 another → ⊥
unfolding opening saved last_six
states_unlike = eqb-false _ _ refl

run_spared : spared secret_slot (loaded one) run ≡ true
run_spared = rw one_loaded (proved.witnesses).spared

-- ---- what a call gives after some calls, by the tokens

number_there : (cs : List Call) (c : Call) → call_number (bytes_after one cs) c ≡ number_of (given (after tokens.one cs) c).number
number_there cs c = (carried one cs one_state).number c ∙ ap (λ (t : Token). number_of (given (after t cs) c).number) one_loaded

output_there : (cs : List Call) (c : Call) → call_output (bytes_after one cs) c ≡ output_of (after tokens.one cs) c
output_there cs c = (carried one cs one_state).output c ∙ ap (λ (t : Token). output_of (after t cs) c) one_loaded

output_other : (cs : List Call) (c : Call) → call_output (bytes_after another cs) c ≡ output_of (after tokens.another cs) c
output_other cs c = (carried another cs another_state).output c ∙ ap (λ (t : Token). output_of (after t cs) c) another_loaded

length_there : (cs : List Call) (c : Call) → call_length (bytes_after one cs) c ≡ (given (after tokens.one cs) c).length
length_there cs c = (carried one cs one_state).length c ∙ ap (λ (t : Token). (given (after t cs) c).length) one_loaded

-- ---- the calls

same_back : (cs : List Call) (c : Call) → call_output (bytes_after one cs) c ≡ call_output (bytes_after another cs) c
    → output_of (after tokens.one cs) c ≡ output_of (after tokens.another cs) c
same_back cs c e = sym (output_there cs c) ∙ e ∙ output_other cs c

mac_unlike : call_output (bytes_after one start) mac_of_slot ≡ call_output (bytes_after another start) mac_of_slot → ⊥
mac_unlike e = (proved.witnesses).mac.unlike (rw ((proved.witnesses).same.2.2.1.length, same_back start mac_of_slot e))

sleep_given : number_of (given (after tokens.one start) (call sleep)).number ≡ 3
unfolding opening
sleep_given = refl

sleep_refuses : output_of (after tokens.one (start ++ call sleep ∷ call wake ∷ [])) mac_of_temp_key ≡ 0x04 ∷ 0x0F ∷ 0x23 ∷ 0x42 ∷ zeros 31
unfolding opening
sleep_refuses = refl

short_given : number_of (given (after tokens.one start) (sleep_with 32 34)).number ≡ 1
unfolding opening
short_given = refl

short_answered : (given (after tokens.one (start ++ sleep_with 32 34 ∷ [])) mac_of_temp_key).length ≡ 35
unfolding digesting
short_answered = refl

pub witnesses : Witnesses
witnesses = record {
  alike = states_alike;
  kept = state_kept;
  unlike = states_unlike;
  spared = run_spared;
  same = (demand_3 secret_slot one another run states_alike state_kept).same run_spared;
  mac = mac_unlike;
  slept = number_there start (call sleep) ∙ sleep_given;
  refused = output_there (start ++ call sleep ∷ call wake ∷ []) mac_of_temp_key ∙ sleep_refuses;
  awake = number_there start (sleep_with 32 34) ∙ short_given;
  answered = length_there (start ++ sleep_with 32 34 ∷ []) mac_of_temp_key ∙ short_answered;
}
