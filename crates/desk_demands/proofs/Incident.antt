-- The incident over a desk's bytes: a sleep that gave number 3 has taken place, and then crate `demands` has it of the token.
use Rattle.std.specs.Prelude.{if◌then◌else◌}
use Prim.Native.Nat.{ℕ}
use mathlib.Core.Path.{◌≡◌, sym, ap, subst, ◌∙◌}
use mathlib.Core.Bool.{true}
use mathlib.Core.Logic.{inr}
use mathlib.Core.List.{List, ◌∷◌}
use Rattle.wire.proofs.Cases.{if_all}
use Rattle.rules.specs.declared.Fields.{Fields}
use Rattle.rules.specs.declared.Status.{Status}
use Rattle.rules.specs.declared.Status.TheVariants.{BadShape, Refused}
use Rattle.rules.specs.declared.TempKey.{TempKey}
use Rattle.rules.specs.Words.{bytes, zeros}
use Rattle.rules.specs.State.{emptied}
use Rattle.rules.specs.Plan.{with_temp_key}
use Rattle.rules.specs.Events.{sleep, sleep_turn, fields_of, input_of}
use Rattle.desk.specs.Desk.{is_state, loaded, saved}
use Rattle.desk.proofs.RoundTrip.{saved_loaded}
use Rattle.demands.specs.Calls.{Call, given, right_buffers, runs, block_of, command_in, rule_in}
use Rattle.demands.specs.Incident.{NoNonce, needs_temp_key}
use Rattle.demands.proofs.Calling.{call_fits}
use Rattle.demands.proofs.TempKey.{unmet}
use Rattle.demands.proofs.Incident as proved
use Rattle.desk_demands.specs.Calls.{call_number, call_state, bytes_after}
use Rattle.desk_demands.specs.Demand1.{Says, with_emptied}
use Rattle.desk_demands.specs.Incident.{NoChallenge, Incident}
use Rattle.desk_demands.proofs.Parts.{whole_config, whole_otp, whole_data, whole_row, saved_empty}
use Rattle.desk_demands.proofs.Carried.{call_gives_number, call_token, run_stays, run_token}
use Rattle.desk_demands.proofs.Numbers.{accepted}
use Rattle.desk_demands.proofs.Demand1.{by_cause, state_emptied}

-- a state whose token has an empty TempKey
module _ (s : List ℕ) (h : is_state s ≡ true) (e : (loaded s).device.tempKey ≡ emptied) where
  zeros_there : bytes 664 700 s ≡ zeros 37
  zeros_there =
      subst (λ (x : List ℕ). bytes 664 700 x ≡ zeros 37) (saved_loaded s h)
      (saved_empty (loaded s) (whole_config s h) (whole_otp s h) (whole_data s h) (whole_row s h) e)

  -- to empty it changes nothing
  emptied_same : with_emptied s ≡ s
  emptied_same =
      sym (state_emptied s h)
      ∙ ap (λ (k : TempKey). saved (record { device = with_temp_key k (loaded s).device; power = (loaded s).power })) (sym e)
      ∙ saved_loaded s h

  refuses : (c : Call) → runs (loaded s) c ≡ true → needs_temp_key (command_in c) (loaded s).device (fields_of (block_of c.event)) ≡ true
      → Says s c (if (rule_in (loaded s) c).shape then Refused else BadShape) s
  refuses c r u =
      let f : Fields = fields_of (block_of c.event) in
      let free = unmet (loaded s).device f (ap (λ (k : TempKey). k.valid) e) (command_in c) (input_of (block_of c.event)) c.random u in
      subst (Says s c _) emptied_same
      (if_all (λ (x : Status). Says s c x (with_emptied s)) (rule_in (loaded s) c).shape Refused BadShape
      (λ w. (by_cause s c).conditions h r w free)
      ((by_cause s c).shape h r))

slept : (s : List ℕ) (c : Call) (cs : List Call) → c.event ≡ sleep → call_number s c ≡ 3 → NoNonce (loaded (call_state s c)) cs
    → NoChallenge (bytes_after s (c ∷ cs))
slept s c cs e n none =
    let ok = accepted s c (inr n) in
    let none-there : NoNonce (given (loaded s) c).token cs = rw (call_token s c ok.1) at none in
    let left = (proved.incident).slept (loaded s) c cs e ok.0 none-there in
    let x : List ℕ = bytes_after s (c ∷ cs) in
    let h : is_state x ≡ true = run_stays s (c ∷ cs) ok.1 in
    let empty : (loaded x).device.tempKey ≡ emptied = rw (run_token s (c ∷ cs) ok.1) left.empty in
    record { empty = zeros_there x h empty; refused = refuses x h empty }

sleeps : (s : List ℕ) (c : Call) → c.event ≡ sleep → right_buffers c ≡ true → is_state s ≡ true → call_number s c ≡ 3
unfolding sleep_turn
sleeps s c e fit h = rw (call_gives_number s c h, (call_fits (loaded s) c fit).0, e)

pub incident : Incident
incident = record { sleeps = sleeps; slept = slept }
