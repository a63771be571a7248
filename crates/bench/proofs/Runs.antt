-- The bench's lines as runs of calls, and what the demands say of them.
use Rattle.std.specs.Prelude.{if◌then◌else◌}
use Prim.Native.Nat.{ℕ, ◌≤◌}
use mathlib.Core.Path.{◌≡◌, refl, ap, sym, subst, ◌∙◌}
use mathlib.Core.Bool.{Bool, true, false, ◌&&◌, false≢true}
use mathlib.Core.List.{List, [], ◌∷◌, ◌++◌, map, append_assoc}
use lib.ListN.{length}
use Rattle.wire.specs.Wire.{bit_in, bits_in, check_from, check_value, counted, frame, low_first_at, whole}
use Rattle.rules.specs.declared.Slot.{Slot}
use Rattle.rules.specs.declared.Status.TheVariants.{BadShape, Refused}
use Rattle.rules.specs.Words.{equal, named, only_bits}
use Rattle.rules.specs.State.{is_awake, status_byte}
use Rattle.rules.specs.Nonce.{nonce_shape, nonce_input, nonce}
use Rattle.rules.specs.Mac.{mac_shape, mac_temp_key, mac_slot, mac_free, mac}
use Rattle.rules.specs.Upkeep.{dev_rev_shape, dev_rev}
use Rattle.rules.specs.Commands.{command_of}
use Rattle.rules.specs.Events.{Event, wake, idle, sleep, block, plan_for, wake_turn, sleep_turn, block_turn, output_after, number_for}
use Rattle.rules.proofs.Tests.{and_right}
use Rattle.token.specs.declared.Token.{Token}
use Rattle.token.specs.Outcome.{outcome, fresh_of}
use Rattle.records.specs.Records.{announced, uncut, record_at, ascii, hex, event_line}
use Rattle.demands.specs.Calls.{Call, given, right_buffers, runs, rule_in, after, call}
use Rattle.demands.specs.Demand3.{draws_on, SameCall, SameRun}
use Rattle.demands.specs.Incident.{NoNonce, NoChallenge}
use Rattle.demands.proofs.Calling.{runs_fits}
use Rattle.demands.proofs.SameRuns.{demand_3}
use Rattle.demands.proofs.Incident.{incident}
use Rattle.bench.specs.Bench.{line_at, lines_from, lines, printed}
use Rattle.bench.specs.Steps.{Step, image, made, steps_from, steps, token_after, after_steps, name_of, line_on, told}
use Rattle.bench.specs.Runs.{slept, UsesTempKey, Runs}
use Rattle.bench.proofs.Steps.{call_line, printed_told, steps_right}

-- ---- steps after others

after_append : (s : Token) (xs ys : List Step) → after_steps s (xs ++ ys) ≡ after_steps (after_steps s xs) ys
after_append s [] ys = refl
after_append s (x ∷ xs) ys = after_append (token_after s x) xs ys

after_calls : (s : Token) (cs : List Call) → after_steps s (map made cs) ≡ after s cs
after_calls s [] = refl
after_calls s (c ∷ cs) = after_calls (given s c).token cs

calls : (s : Token) (before : List Step) (cs : List Call) → after_steps s (before ++ map made cs) ≡ after (after_steps s before) cs
calls s before cs = after_append s before (map made cs) ∙ after_calls (after_steps s before) cs

told_append : (s : Token) (xs ys : List Step) → told s (xs ++ ys) ≡ told s xs ++ told (after_steps s xs) ys
told_append s [] ys = refl
told_append s (x ∷ xs) ys =
    let line = line_on s x in
    let next = token_after s x in
    ap (λ l. line ++ l) (told_append next xs ys) ∙ sym (append_assoc line (told next xs) (told (after_steps next xs) ys))

-- a step's line, and the token after it, told otherwise
module _ (s : Token) (before rest : List Step) (x : Step) {line : List ℕ} {next : Token} where
  told_step : line_on (after_steps s before) x ≡ line → after_steps s (before ++ x ∷ []) ≡ next
      → told s (before ++ x ∷ rest) ≡ told s before ++ line ++ told next rest
  told_step e f =
      let t = after_steps s before in
      let same : token_after t x ≡ next = sym (after_append s before (x ∷ [])) ∙ f in
      told_append s before (x ∷ rest) ∙ rw (e, same) (sym (append_assoc (told s before) line (told next rest)))

  printed_step : (input : List ℕ) → length input ≤ 65536 → steps input ≡ before ++ x ∷ rest → line_on (after_steps s before) x ≡ line
      → after_steps s (before ++ x ∷ []) ≡ next
      → printed input ≡ told s before ++ line ++ told next rest
  printed_step input h e p q = printed_told input s h ∙ ap (told s) e ∙ told_step p q

-- after an image and calls
module _ (s : Token) (before : List Step) (bytes : List ℕ) where
  fresh_calls : (cs : List Call) → after_steps s (before ++ image bytes ∷ map made cs) ≡ after (fresh_of bytes).token cs
  fresh_calls cs = after_append s before (image bytes ∷ map made cs) ∙ after_calls (fresh_of bytes).token cs

  fresh_next : (cs : List Call) (c : Call)
      → after_steps s (before ++ image bytes ∷ map made cs ++ made c ∷ []) ≡ after (fresh_of bytes).token (cs ++ c ∷ [])
  fresh_next cs c =
      let joined = append_assoc before (image bytes ∷ map made cs) (made c ∷ []) ∙ ap (λ l. before ++ image bytes ∷ l) (snoc cs) in
      ap (after_steps s) joined ∙ fresh_calls (cs ++ c ∷ []) where
        snoc : (ds : List Call) → map made ds ++ made c ∷ [] ≡ map made (ds ++ c ∷ [])
        snoc [] = refl
        snoc (d ∷ ds) = ap (λ l. made d ∷ l) (snoc ds)

-- ---- demand 3

same_line : (k : Slot) (s t : Token) (c : Call) → SameCall k s t c → draws_on k s c ≡ false → line_on s (made c) ≡ line_on t (made c)
same_line k s t c same h = rw (same.number, same.length, same.output h)

after_same : (k : Slot) (s t : Token) (cs : List Call) (c : Call) → SameRun k s t (cs ++ c ∷ []) → draws_on k (after s cs) c ≡ false
    → line_on (after s cs) (made c) ≡ line_on (after t cs) (made c)
after_same k s t [] c same h = same_line k s t c same.1 h
after_same k s t (d ∷ cs) c same h = after_same k (given s d).token (given t d).token cs c same.2 h

-- ---- the incident

-- only a block runs
runs_name : (s : Token) (c : Call) → runs s c ≡ true → name_of c.event ≡ ascii "block "
unfolding runs
runs_name s c h = go c.event h where
  ready : Bool
  ready = right_buffers c && is_awake s.power

  go : (e : Event) → runs s (record { event = e; random = c.random; output = c.output }) ≡ true → name_of e ≡ ascii "block "
  go wake h = absurd (false≢true (and_right ready false h))
  go idle h = absurd (false≢true (and_right ready false h))
  go sleep h = absurd (false≢true (and_right ready false h))
  go (block b) h = refl

refusal_line : (shape : Bool) {name answer : List ℕ} → name ≡ ascii "block "
    → answer ≡ frame (status_byte (if shape then Refused else BadShape) ∷ [])
    → event_line name (number_for answer) answer ≡ ascii (if shape then "block 040F2342\n" else "block 04038342\n")
unfolding event_line hex frame counted check_value check_from bits_in bit_in
refusal_line true e f = rw (e, f)
refusal_line false e f = rw (e, f)

module _ (s : Token) (before : List Step) (cs : List Call) (none : NoNonce (after_steps s (slept before [])) cs) where
  none_left : NoChallenge (after_steps s (slept before cs))
  none_left =
      let t : Token = after_steps s before in
      let sleeps = call sleep in
      let first = subst (λ (u : Token). NoNonce u cs) (after_append s before (made sleeps ∷ [])) none in
      subst NoChallenge (sym (calls s before (sleeps ∷ cs))) (incident.slept t sleeps cs refl refl first)

  refused_line : (c : Call) → UsesTempKey (after_steps s (slept before cs)) c
      → line_on (after_steps s (slept before cs)) (made c)
      ≡ ascii (if (rule_in (after_steps s (slept before cs)) c).shape then "block 040F2342\n" else "block 04038342\n")
  refused_line c uses =
      let t : Token = after_steps s (slept before cs) in
      call_line t c (runs_fits t c uses.runs)
      ∙ refusal_line (rule_in t c).shape (runs_name t c uses.runs) (none_left.refused c uses.runs uses.needs)

-- ---- the examples, computed

opening : Unit {0}
unfolding
    printed lines lines_from line_at steps steps_from record_at uncut announced equal event_line hex
    fresh_of outcome output_after wake_turn sleep_turn block_turn plan_for command_of named only_bits
    dev_rev dev_rev_shape nonce nonce_shape nonce_input mac mac_shape mac_free mac_temp_key mac_slot
    whole low_first_at frame counted check_value check_from bits_in bit_in
opening = tt

pub bench_runs : Runs
unfolding opening
bench_runs = record {
  lines = printed_told;
  buffers = steps_right;
  step = λ s before rest x. told_step s before rest x refl refl;
  calls = calls;
  run = λ input bytes s before rest cs c h e.
      printed_step s (before ++ image bytes ∷ map made cs) rest (made c) input h e
      (ap (λ (t : Token). line_on t (made c)) (fresh_calls s before bytes cs)) (fresh_next s before bytes cs c);
  demand3 = λ k s t cs c alike kept h. after_same k s t cs c ((demand_3 k s t (cs ++ c ∷ []) alike kept).same h);
  incident = λ input s before rest cs c h e none uses.
      printed_step s (slept before cs) rest (made c) input h e (refused_line s before cs none c uses) refl;
  first_steps = refl;
  first_lines = refl;
  stale_steps = refl;
  stale_lines = refl;
}
