-- The incident: a sleep empties TempKey, and only an accepted Nonce fills an empty one, since GenDig and a CheckMac that copies need it Valid. So does
-- every other command that uses it, and is refused.
use Rattle.std.specs.Prelude.{if◌then◌else◌}
use Prim.Native.Nat.{ℕ}
use mathlib.Core.Path.{◌≡◌, refl, sym, ap, ◌∙◌}
use mathlib.Core.Bool.{Bool, true, false, ◌&&◌, ◌||◌, false≢true}
use mathlib.Core.Logic.{◌⊎◌, inl, inr, ⊎_elim}
use mathlib.Core.List.{List, [], ◌∷◌}
use borrow.Author.Tests.{eqb-true}
use Rattle.wire.specs.Wire.{frame}
use Rattle.wire.proofs.Cases.{if_all, if_either}
use Rattle.rules.specs.declared.Device.{Device}
use Rattle.rules.specs.declared.Fields.{Fields}
use Rattle.rules.specs.declared.TempKey.{TempKey}
use Rattle.rules.specs.declared.Status.TheVariants.{BadShape, Refused}
use Rattle.rules.specs.Words.{◌is◌, bit, bytes, equal}
use Rattle.rules.specs.State.{emptied, status_byte, read_key}
use Rattle.rules.specs.Plan.{Plan, Rule, settle}
use Rattle.rules.specs.Nonce.{random}
use Rattle.rules.specs.Mac.{mac, uses_temp_key}
use Rattle.rules.specs.CheckMac.{check_mac, check_mac_effect, check_mac_key, check_mac_digest, copy_holds, copy_target, response}
use Rattle.rules.specs.DeriveKey.{derive_key, derived}
use Rattle.rules.specs.Read.{read}
use Rattle.rules.specs.Write.{write, write_effect, write_mac, encrypted}
use Rattle.rules.specs.Upkeep.{lock, update_extra, dev_rev}
use Rattle.rules.specs.Commands.{Command, a_read, a_mac, a_write, a_gen_dig, a_nonce, a_lock, a_random, a_derive_key, an_update_extra, a_check_mac, a_dev_rev, unknown, rule_of, command_of}
use Rattle.rules.specs.Events.{sleep, sleep_turn, plan_for, opcode_of, fields_of, input_of}
use Rattle.rules.proofs.Tests.{and_left, and_right}
use Rattle.rules.proofs.Settle.{settle_all}
use Rattle.token.specs.declared.Token.{Token}
use Rattle.token.specs.declared.Outcome.{Outcome}
use Rattle.demands.specs.Calls.{Call, given, answer_of, right_buffers, runs, block_of, command_in, rule_in, after}
use Rattle.demands.specs.Incident.{NonceAccepted, NoNonce, needs_temp_key, NoChallenge, Incident}
use Rattle.demands.proofs.Calling.{turn_device, call_cases, call_fits, block_runs, runs_answer}
use Rattle.demands.proofs.TempKey.{unmet, others_same}

-- a rule whose conditions are not met answers 0F, or 03 where its shape is wrong
settle_unmet : (r : Rule) → r.free ≡ false → (settle r).answer ≡ status_byte (if r.shape then Refused else BadShape) ∷ []
settle_unmet r h = go r.shape where
  go : (t : Bool) → (settle (record { shape = t; free = r.free; effect = r.effect })).answer ≡ status_byte (if t then Refused else BadShape) ∷ []
  go true = rw h
  go false = refl

-- ---- an empty TempKey stays empty

abbrev Empty : Token → Type 0
Empty s = s.device.tempKey ≡ emptied

abbrev Empties : Plan → Type 0
Empties p = p.tempKey ≡ emptied

-- a CheckMac that copies uses TempKey: its Param1 is 01 or 05
one_or_five : (n : ℕ) → (n is 0x01 || n is 0x05) ≡ true → (bit 0 n || bit 1 n) ≡ true
one_or_five n h = ⊎_elim (λ e. rw (eqb-true n 1 e)) (λ e. rw (eqb-true n 5 e)) (or_either (n is 0x01) (n is 0x05) h) where
  or_either : (a b : Bool) → (a || b) ≡ true → (a ≡ true) ⊎ (b ≡ true)
  or_either true b h = inl refl
  or_either false b h = inr h

copy_uses : (config : List ℕ) (f : Fields) → copy_holds config f ≡ true → uses_temp_key f ≡ true
unfolding copy_holds
copy_uses config f h =
    let named : Bool = f.param1 is 0x01 || f.param1 is 0x05 in
    let open-target : Bool = (read_key config (copy_target f)).0 is 0 in
    one_or_five f.param1 (and_left named open-target (and_left (named && open-target) _ h))

module _ (d : Device) (f : Fields) (empty : d.tempKey.valid ≡ false) where
  -- a command that uses TempKey does not get past its conditions
  past : {A : Type 0} (c : Command) (input supplied : List ℕ) → needs_temp_key c d f ≡ true → (rule_of c d f input supplied).free ≡ true → A
  past c input supplied u free = absurd (false≢true (sym (unmet d f empty c input supplied u) ∙ free))

  check_mac_empty : (input : List ℕ) (same : Bool) → (check_mac d f input).free ≡ true → check_mac_key d f same ≡ emptied
  unfolding check_mac_key needs_temp_key
  check_mac_empty input same free =
      if_all (λ (t : TempKey). t ≡ emptied) (same && copy_holds d.config f) _ _
      (λ h. past a_check_mac input [] (copy_uses d.config f (and_right same (copy_holds d.config f) h)) free)
      (λ _. refl)

  effect_empty : (c : Command) (input supplied : List ℕ) → (c ≡ a_nonce → ⊥) → (rule_of c d f input supplied).free ≡ true
      → (rule_of c d f input supplied).effect.tempKey ≡ emptied
  unfolding needs_temp_key read mac write write_effect lock random derive_key derived update_extra check_mac check_mac_effect dev_rev
  effect_empty a_read input supplied other free = refl
  effect_empty a_mac input supplied other free = refl
  effect_empty a_write input supplied other free =
      if_either Empties (encrypted d.config f) (if_either Empties (equal (write_mac d f input) (bytes 32 63 input)) refl refl) refl
  effect_empty a_gen_dig input supplied other free = past a_gen_dig input supplied refl free
  effect_empty a_nonce input supplied other free = absurd (other refl)
  effect_empty a_lock input supplied other free = refl
  effect_empty a_random input supplied other free = refl
  effect_empty a_derive_key input supplied other free = past a_derive_key input supplied refl free
  effect_empty an_update_extra input supplied other free = refl
  effect_empty a_check_mac input supplied other free = check_mac_empty input (equal (check_mac_digest d f input) (response input)) free
  effect_empty a_dev_rev input supplied other free = refl
  effect_empty unknown input supplied other free = refl

call_empty : (s : Token) (c : Call) → (NonceAccepted s c → ⊥) → Empty s → Empty (given s c).token
unfolding plan_for
call_empty s c none h =
    call_cases (λ (o : Outcome) (_ : List ℕ). Empty o.token) s c h h
    (λ wide right. turn_device (λ (d : Device). d.tempKey ≡ emptied) s.device s.power c.event c.random h refl
    (λ b e a w.
    let r : Rule = rule_of (command_of (opcode_of b)) s.device (fields_of b) (input_of b) c.random in
    settle_all Empties r
    (λ shape free. effect_empty s.device (fields_of b) (ap (λ (t : TempKey). t.valid) h) (command_of (opcode_of b)) (input_of b) c.random
    (λ n. none (record { runs = block_runs s c b wide right e a w; command = rw e n; shape = rw e shape }))
    free)
    refl refl))

run_empty : (s : Token) (cs : List Call) → NoNonce s cs → Empty s → Empty (after s cs)
run_empty s [] none h = h
run_empty s (c ∷ cs) none h = run_empty (given s c).token cs none.1 (call_empty s c none.0 h)

sleep_empty : (s : Token) (c : Call) → c.event ≡ sleep → right_buffers c ≡ true → Empty (given s c).token
unfolding sleep_turn
sleep_empty s c e h = rw ((call_fits s c h).0, e)

-- a command that runs answers what its rule comes to
run_answer : (s : Token) (c : Call) → runs s c ≡ true → answer_of s c ≡ frame (settle (rule_in s c)).answer
unfolding plan_for
run_answer = runs_answer

slept : (s : Token) (c : Call) (cs : List Call) → c.event ≡ sleep → right_buffers c ≡ true → NoNonce (given s c).token cs
    → NoChallenge (after s (c ∷ cs))
slept s c cs e h none =
    let t : Token = after s (c ∷ cs) in
    let empty : Empty t = run_empty (given s c).token cs none (sleep_empty s c e h) in
    record {
      empty = empty;
      refused = λ b r u.
          let f : Fields = fields_of (block_of b.event) in
          let free = unmet t.device f (ap (λ (k : TempKey). k.valid) empty) (command_in b) (input_of (block_of b.event)) b.random u in
          run_answer t b r ∙ ap frame (settle_unmet (rule_in t b) free);
    }

pub incident : Incident
incident = record { slept = slept; others = others_same }
