-- What a call gives, by cases on its buffers and its event; blocks that run; what holds over a run of calls.
use Rattle.std.specs.Prelude.{if◌then◌else◌}
use Prim.Native.Nat.{ℕ}
use mathlib.Core.Path.{◌≡◌, refl, ap, ◌∙◌}
use mathlib.Core.Bool.{Bool, true, false, ◌&&◌, false≢true}
use mathlib.Core.List.{List, [], ◌∷◌, ◌++◌}
use native.Mathlib.Omega.{arith}
use borrow.Author.Tests.{leb-true, le-ltb, ltb-false, le-leb}
use lib.ListN.{length, drop, length-append}
use lib.Seq.{take-append_seam}
use Rattle.wire.specs.Wire.{frame, whole}
use Rattle.wire.proofs.Cases.{if_all, if_either}
use Rattle.rules.specs.declared.Device.{Device}
use Rattle.rules.specs.declared.Power.{Power}
use Rattle.rules.specs.declared.Number.TheVariants.{ShortOutput, WrongRandom}
use Rattle.rules.specs.Words.{◌is◌, ◌under◌, ◌up_to◌}
use Rattle.rules.specs.State.{is_awake, emptied}
use Rattle.rules.specs.Plan.{Plan, with_temp_key, apply}
use Rattle.rules.specs.Events.{Event, wake, idle, sleep, block, Turn, turn, answering, wake_turn, idle_turn, sleep_turn, block_turn, plan_for, number_for, output_after, front_of}
use Rattle.rules.proofs.Tests.{and_left, and_right}
use Rattle.token.specs.declared.Token.{Token}
use Rattle.token.specs.declared.Outcome.{Outcome}
use Rattle.token.specs.Outcome.{outcome, unchanged}
use Rattle.demands.specs.Calls.{Call, turn_of, given, output_of, answer_of, right_buffers, runs, block_of, after}

-- ---- events

-- the device after an event: as it was, with TempKey emptied, or, Awake, after a whole block's plan
pub turn_device : (P : Device → Type 0) (d : Device) (p : Power) (e : Event) (supplied : List ℕ) → P d → P (with_temp_key emptied d)
    → ((b : List ℕ) → e ≡ block b → is_awake p ≡ true → whole b ≡ true → P (apply (plan_for d b supplied) d)) → P (turn d p e supplied).device
unfolding wake_turn idle_turn sleep_turn block_turn
turn_device P d p wake supplied same empty planned = if_either (λ (t : Turn). P t.device) (is_awake p) same same
turn_device P d p idle supplied same empty planned = same
turn_device P d p sleep supplied same empty planned = empty
turn_device P d p (block b) supplied same empty planned =
    if_all (λ (t : Turn). P t.device) (is_awake p) _ _
    (λ a. if_all (λ (t : Turn). P t.device) (whole b) _ _ (λ w. planned b refl a w) (λ _. same))
    (λ _. same)

-- ---- calls

-- what an event gives a call whose buffers are right, and the output after it
abbrev pub turned : Turn → Outcome
turned t = record { token = record { device = t.device; power = t.power }; number = number_for t.answer; length = length t.answer }

abbrev pub answered : Turn → List ℕ → List ℕ
answered t output = t.answer ++ drop (length t.answer) output

-- what a call gives, and the output after it: those of number 1, of number 2, or the event's
pub call_cases : (P : Outcome → List ℕ → Type 0) (s : Token) (c : Call) → P (unchanged s ShortOutput) c.output
    → P (unchanged s WrongRandom) c.output
    → (length c.output under 35 ≡ false → length c.random is 32 ≡ true → P (turned (turn_of s c)) (answered (turn_of s c) c.output))
    → P (given s c) (output_of s c)
unfolding outcome output_after
call_cases P s c short wrong right = go (length c.output under 35) (length c.random is 32) right where
  go : (a b : Bool) → (a ≡ false → b ≡ true → P (turned (turn_of s c)) (answered (turn_of s c) c.output))
      → P (if a then unchanged s ShortOutput else (if b then turned (turn_of s c) else unchanged s WrongRandom))
      (if a then c.output else (if b then answered (turn_of s c) c.output else c.output))
  go true b h = short
  go false true h = h refl refl
  go false false h = wrong

pub call_fits : (s : Token) (c : Call) → right_buffers c ≡ true → (given s c ≡ turned (turn_of s c)) × (output_of s c ≡ answered (turn_of s c) c.output)
unfolding outcome output_after
call_fits s c h =
    let out : ℕ = length c.output in
    let wide = leb-true 35 out (and_left (35 up_to out) (length c.random is 32) h) in
    rw (le-ltb out 35 wide, and_right (35 up_to out) (length c.random is 32) h) (refl, refl)

-- what is handed back of an output that begins with an answer is that answer
pub front_answer : (a rest : List ℕ) → front_of (length a) (a ++ rest) ≡ a
front_answer a rest =
    rw (le-ltb (length (a ++ rest)) (length a) (omega (arith, length-append a rest))) (take-append_seam a rest)

pub call_answer : (s : Token) (c : Call) → right_buffers c ≡ true → answer_of s c ≡ (turn_of s c).answer
call_answer s c h =
    let g = call_fits s c h in
    rw (g.0, g.1) (front_answer (turn_of s c).answer _)

-- ---- blocks that run

-- a whole block given to a token that is Awake, with buffers that are right, runs
pub block_runs : (s : Token) (c : Call) (b : List ℕ) → length c.output under 35 ≡ false → length c.random is 32 ≡ true → c.event ≡ block b
    → is_awake s.power ≡ true → whole b ≡ true → runs s c ≡ true
unfolding runs
block_runs s c b wide right e a w =
    rw (le-leb 35 (length c.output) (ltb-false (length c.output) 35 wide), right, a, e, w)

pub runs_fits : (s : Token) (c : Call) → runs s c ≡ true → right_buffers c ≡ true
unfolding runs
runs_fits s c h = and_left (right_buffers c) (is_awake s.power) (and_left (right_buffers c && is_awake s.power) _ h)

-- what a block that runs comes to, by its plan
abbrev pub planned : Token → Plan → Turn
planned s p = answering (apply p s.device) s.power p.answer

pub runs_turn : (s : Token) (c : Call) → runs s c ≡ true → turn_of s c ≡ planned s (plan_for s.device (block_of c.event) c.random)
unfolding runs block_turn
runs_turn s c h = go c.event h where
  ready : Bool
  ready = right_buffers c && is_awake s.power

  go : (e : Event) → runs s (record { event = e; random = c.random; output = c.output }) ≡ true
      → turn s.device s.power e c.random ≡ planned s (plan_for s.device (block_of e) c.random)
  go wake h = absurd (false≢true (and_right ready false h))
  go idle h = absurd (false≢true (and_right ready false h))
  go sleep h = absurd (false≢true (and_right ready false h))
  go (block b) h = rw (and_right (right_buffers c) (is_awake s.power) (and_left ready (whole b) h), and_right ready (whole b) h)

-- and is answered by what its rule comes to
pub runs_answer : (s : Token) (c : Call) → runs s c ≡ true → answer_of s c ≡ frame (plan_for s.device (block_of c.event) c.random).answer
runs_answer s c h = call_answer s c (runs_fits s c h) ∙ ap (λ (t : Turn). t.answer) (runs_turn s c h)

-- ---- runs of calls

-- what each call leaves, a run leaves
pub after_all : (P : Token → Type 0) → ((s : Token) (c : Call) → P s → P (given s c).token) → (s : Token) (cs : List Call) → P s
    → P (after s cs)
after_all P step s [] h = h
after_all P step s (c ∷ cs) h = after_all P step (given s c).token cs (step s c h)
