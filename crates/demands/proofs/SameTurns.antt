-- One event in two devices equal beside a slot that is secret and never read, with both zones locked: what they answer, and what they become.
use Rattle.std.specs.Prelude.{if◌then◌else◌}
use Prim.Native.Nat.{ℕ, ◌+◌}
use mathlib.Core.Path.{◌≡◌, refl, sym, ap, subst, ◌∙◌}
use mathlib.Core.Bool.{Bool, true, false, ◌&&◌, false≢true}
use mathlib.Core.List.{List, [], ◌∷◌, ◌++◌}
use lib.ListN.{length, take, drop}
use lib.Seq.{drop_at}
use Rattle.wire.specs.Wire.{whole, counted, frame}
use Rattle.wire.proofs.Laws.{length_frame}
use Rattle.wire.proofs.Cases.{if_both}
use Rattle.rules.specs.declared.Device.{Device}
use Rattle.rules.specs.declared.Power.{Power}
use Rattle.rules.specs.declared.Slot.{Slot}
use Rattle.rules.specs.declared.Power.TheVariants.{Asleep, Awake}
use Rattle.rules.specs.declared.Status.TheVariants.{Woken, Damaged}
use Rattle.rules.specs.Words.{◌⇒◌}
use Rattle.rules.specs.State.{is_awake, emptied, status_byte}
use Rattle.rules.specs.Plan.{Plan, with_temp_key, apply}
use Rattle.rules.specs.Commands.{command_of}
use Rattle.rules.specs.Events.{Event, wake, idle, sleep, block, Turn, silent, answering, turn, wake_turn, idle_turn, sleep_turn, block_turn, plan_for, opcode_of, fields_of, input_of, number_for}
use Rattle.token.specs.declared.Token.{Token}
use Rattle.demands.specs.Calls.{block_of}
use Rattle.demands.specs.Demand3.{Kept, holds, is_mac}
use Rattle.demands.proofs.Beside.{Beside, with_data, Near, apply_near}
use Rattle.demands.proofs.SamePlans.{Like, plan_like}

-- ---- answers on the wire

-- an answer at the front of an output
abbrev pub put : List ℕ → List ℕ → List ℕ
put a o = a ++ drop (length a) o

-- two answers: the same unless the slot is drawn on; of one number and length, and the outputs the same in byte 0 and from byte 35 on
pub record Shown (drawn : Bool) (a b : List ℕ) : Type 0 where
  pub number : number_for a ≡ number_for b
  pub size : length a ≡ length b
  pub same : drawn ≡ false → a ≡ b
  pub front : (o : List ℕ) → take 1 (put a o) ≡ take 1 (put b o)
  pub rest : (o : List ℕ) → drop 35 (put a o) ≡ drop 35 (put b o)

shown_same : (drawn : Bool) (a b : List ℕ) → a ≡ b → Shown drawn a b
shown_same drawn a b e =
    subst (λ (x : List ℕ). Shown drawn a x) e
    (record { number = refl; size = refl; same = λ h. refl; front = λ o. refl; rest = λ o. refl })

frame_rest : (p o : List ℕ) → length p ≡ 32 → drop 35 (put (frame p) o) ≡ drop 35 o
frame_rest p o l =
    let e : length (frame p) ≡ 35 = length_frame p ∙ ap (λ (n : ℕ). n + 3) l in
    drop_at (frame p) (drop (length (frame p)) o) 35 e ∙ ap (λ (n : ℕ). drop n o) e

-- two digests
digests_shown : (drawn : Bool) (p q : List ℕ) → drawn ≡ true → length p ≡ 32 → length q ≡ 32 → Shown drawn (frame p) (frame q)
unfolding frame counted
digests_shown drawn p q h lp lq = record {
  number = refl;
  size = length_frame p ∙ ap (λ (n : ℕ). n + 3) (lp ∙ sym lq) ∙ sym (length_frame q);
  same = λ n. absurd (false≢true (sym n ∙ h));
  front = λ o. rw (lp, lq);
  rest = λ o. frame_rest p o lp ∙ sym (frame_rest q o lq);
}

frames_shown : (k : Slot) (a b : Plan) → Like k a b → Shown (holds k a.draws) (frame a.answer) (frame b.answer)
frames_shown k a b l = go (holds k a.draws) l.answer l.digests where
  go : (drawn : Bool) → (drawn ≡ false → a.answer ≡ b.answer) → (drawn ≡ true → (length a.answer ≡ 32) × (length b.answer ≡ 32))
      → Shown drawn (frame a.answer) (frame b.answer)
  go true e n = digests_shown true a.answer b.answer refl (n refl).0 (n refl).1
  go false e n = shown_same false (frame a.answer) (frame b.answer) (ap frame (e refl))

-- ---- events

-- the slots that an event draws on
abbrev pub drawn_in : Device → Power → Event → List ℕ → List Slot
drawn_in d p wake supplied = []
drawn_in d p idle supplied = []
drawn_in d p sleep supplied = []
drawn_in d p (block b) supplied = if is_awake p && whole b then (plan_for d b supplied).draws else []

pub record SameTurn (k : Slot) (drawn : Bool) (u v : Turn) : Type 0 where
  pub near : Near k u.device v.device
  pub power : u.power ≡ v.power
  pub shown : Shown drawn u.answer v.answer

-- what a block comes to, by the tests that it is given to
abbrev ends : Bool → Bool → Device → Power → Plan → Turn
ends awake good d p plan =
    if awake
    then (if good then answering (apply plan d) p plan.answer else answering d p (status_byte Damaged ∷ []))
    else silent d p

silent_same : (k : Slot) (drawn : Bool) (d : Device) (y : List ℕ) (p : Power) (answer : List ℕ) → Beside k d.«data» y
    → SameTurn k drawn (record { device = d; power = p; answer = answer }) (record { device = with_data y d; power = p; answer = answer })
silent_same k drawn d y p answer w =
    record { near = record { others = refl; beside = w }; power = refl; shown = shown_same drawn answer answer refl }

ends_same : (k : Slot) (d : Device) (y : List ℕ) (p : Power) (a b : Plan) (awake good : Bool) → Beside k d.«data» y
    → (awake ≡ true → good ≡ true → Like k a b)
    → SameTurn k (holds k (if awake && good then a.draws else [])) (ends awake good d p a) (ends awake good (with_data y d) p b)
ends_same k d y p a b true true w l =
    let like = l refl refl in
    record { near = apply_near k a b d y like.stores like.tempKey w; power = refl; shown = frames_shown k a b like }
ends_same k d y p a b true false w l = silent_same k _ d y p (frame (status_byte Damaged ∷ [])) w
ends_same k d y p a b false good w l = silent_same k _ d y p [] w

module _ (k : Slot) (s : Token) (y : List ℕ) (w : Beside k s.device.«data» y) (kept : Kept k s) where
  pub turn_same : (e : Event) (supplied : List ℕ)
      → (holds k (drawn_in s.device s.power e supplied) ⇒ is_mac (command_of (opcode_of (block_of e)))) ≡ true
      → SameTurn k (holds k (drawn_in s.device s.power e supplied)) (turn s.device s.power e supplied)
      (turn (with_data y s.device) s.power e supplied)
  unfolding wake_turn idle_turn sleep_turn block_turn plan_for
  turn_same wake supplied h =
      if_both (SameTurn k (holds k [])) (is_awake s.power) (λ a. silent_same k _ s.device y s.power [] w)
      (λ a. silent_same k _ s.device y Awake (frame (status_byte Woken ∷ [])) w)
  turn_same idle supplied h = silent_same k _ s.device y _ [] w
  turn_same sleep supplied h = silent_same k _ (with_temp_key emptied s.device) y Asleep [] w
  turn_same (block b) supplied h =
      ends_same k s.device y s.power (plan_for s.device b supplied) (plan_for (with_data y s.device) b supplied) (is_awake s.power) (whole b) w
      (λ a g. plan_like k s.device y w kept.locked kept.secret kept.never_read (command_of (opcode_of b)) (fields_of b) (input_of b) supplied
      (rw (a, g) at h))
