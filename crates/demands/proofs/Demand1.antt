-- Demand 1: by cases on the buffers, on the event and on the command. By cause: what a rule comes to where a check fails, through the event
-- and the call. By what a call shows: no command that changes more than TempKey answers 03 or 0F, it answers 00, 01 or 32 bytes.
use Prim.Native.Nat.{ℕ, ◌≤◌}
use mathlib.Core.Path.{◌≡◌, refl, sym, ap, ◌∙◌}
use mathlib.Core.Bool.{Bool, true, false, not, false≢true}
use mathlib.Core.Logic.{◌⊎◌, inl, inr, ⊎_elim}
use mathlib.Core.List.{List, [], ◌∷◌, ◌++◌}
use native.Mathlib.Omega.{arith}
use borrow.Author.Tests.{eqb-true, not-true}
use lib.ListN.{length, drop}
use Rattle.wire.specs.Wire.{counted, frame, whole}
use Rattle.wire.proofs.Laws.{length_frame, frame_same, frame_some}
use Rattle.wire.proofs.Cases.{if_either}
use Rattle.rules.specs.declared.Device.{Device}
use Rattle.rules.specs.declared.Fields.{Fields}
use Rattle.rules.specs.declared.Power.{Power}
use Rattle.rules.specs.declared.Number.TheVariants.{Answered, ShortOutput, WrongRandom, NoAnswer}
use Rattle.rules.specs.declared.Status.{Status}
use Rattle.rules.specs.declared.Status.TheVariants.{Done, BadShape, Refused, Woken, Damaged}
use Rattle.rules.specs.Words.{◌⇒◌, ◌is◌, ◌under◌, bytes, equal}
use Rattle.rules.specs.State.{number_of, is_awake, emptied, status_byte}
use Rattle.rules.specs.Plan.{Plan, with_temp_key, apply}
use Rattle.rules.specs.Nonce.{nonce, nonce_input, nonce_random, random, used_random}
use Rattle.rules.specs.Mac.{mac, mac_digest}
use Rattle.rules.specs.CheckMac.{check_mac, check_mac_effect, check_mac_status, check_mac_digest, response}
use Rattle.rules.specs.GenDig.{gen_dig}
use Rattle.rules.specs.DeriveKey.{derive_key, derive_key_mac, asks_mac, derived}
use Rattle.rules.specs.Read.{read}
use Rattle.rules.specs.Write.{write, write_effect, write_mac, encrypted}
use Rattle.rules.specs.Upkeep.{lock, update_extra, dev_rev}
use Rattle.rules.specs.Commands.{Command, a_read, a_mac, a_write, a_gen_dig, a_nonce, a_lock, a_random, a_derive_key, an_update_extra, a_check_mac, a_dev_rev, unknown, rule_of, command_of}
use Rattle.rules.specs.Events.{Event, wake, idle, sleep, block, Turn, turn, answering, wake_turn, idle_turn, sleep_turn, block_turn, plan_for, opcode_of, fields_of, input_of, number_for, output_after, front_of}
use Rattle.rules.proofs.Tests.{and_left, and_right}
use Rattle.rules.proofs.Settle.{settle_all}
use Rattle.rules.proofs.Answers.{length_mac, length_used}
use Rattle.token.specs.declared.Token.{Token}
use Rattle.token.specs.declared.Outcome.{Outcome}
use Rattle.token.specs.Outcome.{outcome}
use Rattle.demands.specs.Calls.{Call, turn_of, given, output_of, answer_of, right_buffers, runs, block_of, command_in, rule_in}
use Rattle.demands.specs.Demand1.{ByCause, Demand1, TurnedAway, Says, with_emptied, wrong_mac, wrong_mac_in}
use Rattle.demands.proofs.Calling.{turned, answered, call_cases, call_fits, front_answer, runs_fits, runs_turn}

-- ---- by cause

-- a plan that refuses: it changes nothing but emptying TempKey and answers a status
abbrev Refusing : Device → Status → Plan → Type 0
Refusing d r p = (apply p d ≡ with_temp_key emptied d) × (p.answer ≡ status_byte r ∷ [])

-- what a wrong MAC comes to
effect_refuses : (c : Command) (d : Device) (f : Fields) (input supplied : List ℕ) → wrong_mac c d f input ≡ true
    → Refusing d Refused (rule_of c d f input supplied).effect
unfolding wrong_mac derive_key write write_effect
effect_refuses a_derive_key d f input supplied h =
    let asked = asks_mac d.config f in
    let same = equal (derive_key_mac d f) input in
    rw (and_left asked (not same) h, not-true same (and_right asked (not same) h)) (refl, refl)
effect_refuses a_write d f input supplied h =
    let asked = encrypted d.config f in
    let same = equal (write_mac d f input) (bytes 32 63 input) in
    rw (and_left asked (not same) h, not-true same (and_right asked (not same) h)) (refl, refl)
effect_refuses a_read d f input supplied h = absurd (false≢true h)
effect_refuses a_mac d f input supplied h = absurd (false≢true h)
effect_refuses a_gen_dig d f input supplied h = absurd (false≢true h)
effect_refuses a_nonce d f input supplied h = absurd (false≢true h)
effect_refuses a_lock d f input supplied h = absurd (false≢true h)
effect_refuses a_random d f input supplied h = absurd (false≢true h)
effect_refuses an_update_extra d f input supplied h = absurd (false≢true h)
effect_refuses a_check_mac d f input supplied h = absurd (false≢true h)
effect_refuses a_dev_rev d f input supplied h = absurd (false≢true h)
effect_refuses unknown d f input supplied h = absurd (false≢true h)

answer_or_not : (a : List ℕ) → (number_for a ≡ Answered) ⊎ (number_for a ≡ NoAnswer)
answer_or_not [] = inr refl
answer_or_not (b ∷ bs) = inl refl

module _ (s : Token) (c : Call) where
  -- the buffers
  short_away : length c.output under 35 ≡ true → TurnedAway s c ShortOutput
  unfolding outcome output_after
  short_away h = record { number = rw h; length = rw h; token = rw h; output = rw h }

  random_away : length c.output under 35 ≡ false → length c.random is 32 ≡ false → TurnedAway s c WrongRandom
  unfolding outcome output_after
  random_away h k = record { number = rw (h, k); length = rw (h, k); token = rw (h, k); output = rw (h, k) }

  -- right buffers, and an event that answers a status
  event_says : (r : Status) (d : Device) (p : Power) → right_buffers c ≡ true → turn_of s c ≡ answering d p (status_byte r ∷ [])
      → Says s c r (record { device = d; power = p })
  unfolding frame counted
  event_says r d p h e =
      let framed : List ℕ = frame (status_byte r ∷ []) in
      let g : given s c ≡ turned (answering d p (status_byte r ∷ [])) = (call_fits s c h).0 ∙ ap turned e in
      let out : output_of s c ≡ framed ++ drop 4 c.output = (call_fits s c h).1 ∙ ap (λ (t : Turn). answered t c.output) e in
      record {
        number = ap (λ (o : Outcome). o.number) g;
        length = ap (λ (o : Outcome). o.length) g;
        token = ap (λ (o : Outcome). o.token) g;
        output = out;
        answer = rw (g, out) (front_answer framed (drop 4 c.output));
      }

  -- a command
  plan_says : (r : Status) → runs s c ≡ true → Refusing s.device r (plan_for s.device (block_of c.event) c.random)
      → Says s c r (with_emptied s)
  plan_says r h e =
      let p : Plan = plan_for s.device (block_of c.event) c.random in
      let d : Device = with_temp_key emptied s.device in
      let same = ap (λ (x : Device). answering x s.power p.answer) e.0 ∙ ap (answering d s.power) e.1 in
      event_says r d s.power (runs_fits s c h) (runs_turn s c h ∙ same)

  shape_says : runs s c ≡ true → (rule_in s c).shape ≡ false → Says s c BadShape (with_emptied s)
  unfolding plan_for
  shape_says h e = plan_says BadShape h (rw e (refl, refl))

  free_says : runs s c ≡ true → (rule_in s c).shape ≡ true → (rule_in s c).free ≡ false → Says s c Refused (with_emptied s)
  unfolding plan_for
  free_says h e k = plan_says Refused h (rw (e, k) (refl, refl))

  mac_says : runs s c ≡ true → (rule_in s c).shape ≡ true → (rule_in s c).free ≡ true → wrong_mac_in s c ≡ true → Says s c Refused (with_emptied s)
  unfolding plan_for
  mac_says h e k w =
      let b : List ℕ = block_of c.event in
      plan_says Refused h (rw (e, k) (effect_refuses (command_in c) s.device (fields_of b) (input_of b) c.random w))

  -- a damaged block
  damaged_says : (b : List ℕ) → c.event ≡ block b → whole b ≡ false → right_buffers c ≡ true → is_awake s.power ≡ true
      → Says s c Damaged s
  unfolding block_turn
  damaged_says b e h fit a = event_says Damaged s.device s.power fit (rw (e, a, h))

pub by_cause : (s : Token) (c : Call) → ByCause s c
by_cause s c =
    record {
      short_output = short_away s c;
      wrong_random = random_away s c;
      fitting = λ h. rw (call_fits s c h).0 (answer_or_not (turn_of s c).answer);
      shape = shape_says s c;
      conditions = free_says s c;
      digest = mac_says s c;
      damaged_awake = damaged_says s c;
    }

-- ---- by what a call shows

-- a status n that refuses: 03 or 0F lie between the others
module _ (n : ℕ) (above : 2 ≤ n) (below : n ≤ 16) (d : Device) where
  -- a plan that answers it changes nothing but emptying TempKey
  abbrev Harmless : Plan → Type 0
  Harmless p = p.answer ≡ n ∷ [] → apply p d ≡ with_temp_key emptied d

  unlike : (s : Status) {A : Type 0} → status_byte s ≤ 1 → status_byte s ∷ [] ≡ n ∷ [] → A
  unlike s l e = let h : status_byte s ≡ n = cc in absurd (omega arith)

  long : (l : List ℕ) {A : Type 0} → length l ≡ 32 → l ≡ n ∷ [] → A
  long l h e = absurd (omega (arith, ap length e))

  effect_harmless : (c : Command) (f : Fields) (input supplied : List ℕ) → length supplied ≡ 32 → Harmless (rule_of c d f input supplied).effect
  unfolding read mac write gen_dig nonce lock random derive_key update_extra check_mac dev_rev nonce_input nonce_random check_mac_effect check_mac_status derived write_effect
  effect_harmless a_read f input supplied h = λ _. refl
  effect_harmless a_mac f input supplied h = long (mac_digest d f input) (length_mac d f input)
  effect_harmless a_write f input supplied h =
      if_either Harmless (encrypted d.config f)
      (if_either Harmless (equal (write_mac d f input) (bytes 32 63 input)) (unlike Done (omega arith)) (λ _. refl))
      (unlike Done (omega arith))
  effect_harmless a_gen_dig f input supplied h = unlike Done (omega arith)
  effect_harmless a_nonce f input supplied h =
      if_either Harmless (f.param1 is 3) (unlike Done (omega arith)) (long (used_random d.config supplied) (length_used d.config supplied h))
  effect_harmless a_lock f input supplied h = unlike Done (omega arith)
  effect_harmless a_random f input supplied h = λ _. refl
  effect_harmless a_derive_key f input supplied h =
      if_either Harmless (asks_mac d.config f ⇒ equal (derive_key_mac d f) input) (unlike Done (omega arith)) (λ _. refl)
  effect_harmless an_update_extra f input supplied h = unlike Done (omega arith)
  effect_harmless a_check_mac f input supplied h =
      unlike (check_mac_status same) (if_either (λ (s : Status). status_byte s ≤ 1) same (omega arith) (omega arith))
    where
      same : Bool
      same = equal (check_mac_digest d f input) (response input)
  effect_harmless a_dev_rev f input supplied h = λ _. refl
  effect_harmless unknown f input supplied h = λ _. refl

  plan_harmless : (b supplied : List ℕ) → length supplied ≡ 32 → Harmless (plan_for d b supplied)
  unfolding plan_for
  plan_harmless b supplied h =
      let c : Command = command_of (opcode_of b) in
      settle_all Harmless (rule_of c d (fields_of b) (input_of b) supplied) (λ _ _. effect_harmless c (fields_of b) (input_of b) supplied h)
      (λ _. refl) (λ _. refl)

-- an event that answers it does so too
module _ (n : ℕ) (above : 2 ≤ n) (below : n ≤ 16) (s : Token) where
  abbrev Refuses : Turn → Type 0
  Refuses t = t.answer ≡ frame (n ∷ []) → (turned t).token ≡ with_emptied s

  unsaid : (r : Status) {A : Type 0} → 17 ≤ status_byte r → frame (status_byte r ∷ []) ≡ frame (n ∷ []) → A
  unsaid r l e = let h : status_byte r ∷ [] ≡ n ∷ [] = frame_same _ _ e in let k : status_byte r ≡ n = cc in absurd (omega arith)

  mute : {A : Type 0} → [] ≡ frame (n ∷ []) → A
  mute e = absurd (frame_some (n ∷ []) e)

  turn_refuses : (e : Event) (supplied : List ℕ) → length supplied ≡ 32 → Refuses (turn s.device s.power e supplied)
  unfolding wake_turn idle_turn sleep_turn block_turn
  turn_refuses wake supplied h = if_either Refuses (is_awake s.power) mute (unsaid Woken (omega arith))
  turn_refuses idle supplied h = mute
  turn_refuses sleep supplied h = mute
  turn_refuses (block b) supplied h =
      if_either Refuses (is_awake s.power)
      (if_either Refuses (whole b)
      (λ e. let same = plan_harmless n above below s.device b supplied h (frame_same _ _ e) in cc)
      (unsaid Damaged (omega arith)))
      mute

  call_refuses : (c : Call) → answer_of s c ≡ frame (n ∷ [])
      → ((given s c).token ≡ with_emptied s) × (output_of s c ≡ frame (n ∷ []) ++ drop 4 c.output)
  call_refuses c =
      call_cases
      (λ (o : Outcome) (out : List ℕ). front_of o.length out ≡ frame (n ∷ []) → (o.token ≡ with_emptied s) × (out ≡ frame (n ∷ []) ++ drop 4 c.output))
      s c nothing nothing
      (λ _ right e.
      let a : (turn_of s c).answer ≡ frame (n ∷ []) = sym (front_answer (turn_of s c).answer _) ∙ e in (
        turn_refuses c.event c.random (eqb-true (length c.random) 32 right) a,
        rw (a, length_frame (n ∷ [])),
      ))
    where
      nothing : {A : Type 0} → front_of 0 c.output ≡ frame (n ∷ []) → A
      nothing e = mute (sym (front_answer [] c.output) ∙ e)

-- ---- the other parts

-- numbers 1 and 2 are given for the buffers alone
answer_number : (a : List ℕ) → (number_for a ≡ ShortOutput) ⊎ (number_for a ≡ WrongRandom) → ⊥
answer_number [] h = ⊎_elim (λ e. omega (arith, ap number_of e)) (λ e. omega (arith, ap number_of e)) h
answer_number (b ∷ bs) h = ⊎_elim (λ e. omega (arith, ap number_of e)) (λ e. omega (arith, ap number_of e)) h

no_answer : (a out : List ℕ) → number_for a ≡ NoAnswer → a ++ drop (length a) out ≡ out
no_answer [] out e = refl
no_answer (b ∷ bs) out e = absurd (omega (arith, ap number_of e))

-- a damaged block given to any token
abbrev Unchanged : Token → List ℕ → Turn → Type 0
Unchanged s out t = ((turned t).token ≡ s) × (number_for t.answer ≡ Answered → front_of (length t.answer) (answered t out) ≡ frame (status_byte Damaged ∷ []))

damaged_turn : (s : Token) (b supplied out : List ℕ) → whole b ≡ false → Unchanged s out (block_turn s.device s.power b supplied)
unfolding block_turn
damaged_turn s b supplied out h =
    if_either (Unchanged s out) (is_awake s.power)
    (rw h (refl, λ _. front_answer (frame (status_byte Damaged ∷ [])) _))
    (refl, λ e. absurd (omega (arith, ap number_of e)))

pub demand_1 : (s : Token) (c : Call) → Demand1 s c
demand_1 s c =
    record {
      buffers =
          call_cases
          (λ (o : Outcome) (out : List ℕ). (o.number ≡ ShortOutput) ⊎ (o.number ≡ WrongRandom) → (o.token ≡ s) × (out ≡ c.output))
          s c (λ _. (refl, refl)) (λ _. (refl, refl)) (λ _ _ h. absurd (answer_number (turn_of s c).answer h));
      refused = λ r h.
          call_refuses (status_byte r)
          (⊎_elim (λ e. omega (arith, ap status_byte e)) (λ e. omega (arith, ap status_byte e)) h)
          (⊎_elim (λ e. omega (arith, ap status_byte e)) (λ e. omega (arith, ap status_byte e)) h)
          s c;
      damaged = λ b e h.
          call_cases
          (λ (o : Outcome) (out : List ℕ). (o.token ≡ s) × (o.number ≡ Answered → front_of o.length out ≡ frame (status_byte Damaged ∷ [])))
          s c (refl, λ n. absurd (omega (arith, ap number_of n))) (refl, λ n. absurd (omega (arith, ap number_of n)))
          (λ _ _. rw e (damaged_turn s b c.random c.output h));
      silent =
          call_cases (λ (o : Outcome) (out : List ℕ). o.number ≡ NoAnswer → out ≡ c.output)
          s c (λ _. refl) (λ _. refl) (λ _ _ e. no_answer (turn_of s c).answer c.output e);
    }
