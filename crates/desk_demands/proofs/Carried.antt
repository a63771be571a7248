-- A state stays a state, and a run of C calls is a run of calls on its token.
use Prim.Native.Nat.{ℕ}
use mathlib.Core.Path.{◌≡◌, refl, sym, ap, ◌∙◌}
use mathlib.Core.Bool.{Bool, true, false}
use mathlib.Core.List.{List, [], ◌∷◌}
use lib.ListN.{length}
use borrow.Author.Tests.{le-leb, eq-eqb}
use Rattle.rules.specs.declared.Power.{Power}
use Rattle.rules.specs.declared.Power.TheVariants.{Asleep, Idle, Awake}
use Rattle.rules.specs.Words.{◌up_to◌}
use Rattle.rules.specs.State.{number_of}
use Rattle.token.specs.declared.Token.{Token}
use Rattle.token.specs.Outcome.{fresh_of}
use Rattle.desk.specs.Desk as desk
use Rattle.desk.specs.Desk.{in_range, is_state, flag_byte, power_byte, loaded, last_six, saved, fresh_state}
use Rattle.desk.proofs.RoundTrip.{loaded_saved, saved_loaded}
use Rattle.demands.specs.Calls.{Call, given, output_of, after}
use Rattle.demands.specs.WellFormed.{WellFormed}
use Rattle.demands.proofs.WellFormed.{call_formed, fresh_formed}
use Rattle.desk_demands.specs.Calls.{call_number, call_state, call_output, call_length, bytes_after, StaysState, Carried}
use Rattle.desk_demands.proofs.Parts.{whole_config, whole_otp, whole_data, whole_row, slot_range, saved_last, saved_length}

-- ---- states and well-formed tokens

pub state_formed : (s : List ℕ) → is_state s ≡ true → WellFormed (loaded s)
state_formed s h =
    record { config = whole_config s h; otp = whole_otp s h; data_zone = whole_data s h; tempKey = whole_row s h; slotID = slot_range s h }

flag_range : (b : Bool) → flag_byte b up_to 1 ≡ true
flag_range true = refl
flag_range false = refl

power_range : (p : Power) → power_byte p up_to 2 ≡ true
power_range Asleep = refl
power_range Idle = refl
power_range Awake = refl

pub formed_state : (t : Token) → WellFormed t → is_state (saved t) ≡ true
unfolding is_state in_range last_six
formed_state t w =
    let last = saved_last t w.config w.otp w.data_zone w.tempKey in
    rw (
      eq-eqb (length (saved t)) 702 (saved_length t w.config w.otp w.data_zone w.tempKey),
      last 0,
      last 1,
      last 2,
      last 3,
      last 4,
      last 5,
      le-leb t.device.tempKey.slotID.0 15 w.slotID,
      flag_range t.device.tempKey.sourceFlag,
      flag_range t.device.tempKey.genData,
      flag_range t.device.tempKey.checkFlag,
      flag_range t.device.tempKey.valid,
      power_range t.power,
    )

pub formed_loaded : (t : Token) → WellFormed t → loaded (saved t) ≡ t
formed_loaded t w = loaded_saved t w.config w.otp w.data_zone w.tempKey

-- ---- one call on a state

module _ (s : List ℕ) (c : Call) (h : is_state s ≡ true) where
  pub call_gives_number : call_number s c ≡ number_of (given (loaded s) c).number
  unfolding desk.number
  call_gives_number = rw h

  pub call_gives_state : call_state s c ≡ saved (given (loaded s) c).token
  unfolding desk.state_after
  call_gives_state = rw h

  pub call_gives_output : call_output s c ≡ output_of (loaded s) c
  unfolding desk.output_of
  call_gives_output = rw h

  pub call_gives_length : call_length s c ≡ (given (loaded s) c).length
  unfolding desk.answer_length
  call_gives_length = rw h

  call_whole : WellFormed (given (loaded s) c).token
  call_whole = call_formed (loaded s) c (state_formed s h)

  pub call_stays : is_state (call_state s c) ≡ true
  call_stays = rw call_gives_state (formed_state _ call_whole)

  pub call_token : loaded (call_state s c) ≡ (given (loaded s) c).token
  call_token = rw call_gives_state (formed_loaded _ call_whole)

-- ---- runs

pub run_stays : (s : List ℕ) (cs : List Call) → is_state s ≡ true → is_state (bytes_after s cs) ≡ true
run_stays s [] h = h
run_stays s (c ∷ cs) h = run_stays (call_state s c) cs (call_stays s c h)

pub run_token : (s : List ℕ) (cs : List Call) → is_state s ≡ true → loaded (bytes_after s cs) ≡ after (loaded s) cs
run_token s [] h = refl
run_token s (c ∷ cs) h = run_token (call_state s c) cs (call_stays s c h) ∙ ap (λ (t : Token). after t cs) (call_token s c h)

-- ---- theorems

fresh_stays : (image s : List ℕ) → length s ≡ 702 → is_state (fresh_state image s) ≡ true
unfolding fresh_state
fresh_stays image s h = rw (eq-eqb (length s) 702 h) (formed_state (fresh_of image).token (fresh_formed image))

fresh_token : (image s : List ℕ) → length s ≡ 702 → loaded (fresh_state image s) ≡ (fresh_of image).token
unfolding fresh_state
fresh_token image s h = rw (eq-eqb (length s) 702 h) (formed_loaded (fresh_of image).token (fresh_formed image))

pub stays_state : StaysState
stays_state = record { fresh = fresh_stays; made = fresh_token; calls = run_stays }

pub carried : (s : List ℕ) (cs : List Call) → is_state s ≡ true → Carried s cs
carried s cs h =
    let x : List ℕ = bytes_after s cs in
    let k : is_state x ≡ true = run_stays s cs h in
    let t : loaded x ≡ after (loaded s) cs = run_token s cs h in
    record {
      token = t;
      bytes = sym (saved_loaded x k) ∙ ap saved t;
      number = λ c. call_gives_number x c k ∙ ap (λ (u : Token). number_of (given u c).number) t;
      output = λ c. call_gives_output x c k ∙ ap (λ (u : Token). output_of u c) t;
      length = λ c. call_gives_length x c k ∙ ap (λ (u : Token). (given u c).length) t;
    }
