-- One call on two tokens alike but for a slot that is secret and never read, with both zones locked.
use Prim.Native.Nat.{ℕ}
use mathlib.Core.Path.{◌≡◌, refl, sym, ap}
use mathlib.Core.Bool.{Bool, true, false, ◌&&◌, and-false}
use mathlib.Core.List.{List}
use borrow.Author.Tests.{ltb-false, le-leb}
use lib.ListN.{length, take, drop}
use Rattle.wire.proofs.Cases.{if_both, if_same}
use Rattle.rules.specs.declared.Slot.{Slot}
use Rattle.rules.specs.Words.{◌⇒◌, ◌is◌, ◌under◌}
use Rattle.rules.specs.State.{is_awake}
use Rattle.rules.specs.Commands.{command_of}
use Rattle.rules.specs.Events.{Event, wake, idle, sleep, block, plan_for, opcode_of, fields_of, input_of, output_after}
use Rattle.token.specs.declared.Token.{Token}
use Rattle.token.specs.declared.Outcome.{Outcome}
use Rattle.token.specs.Outcome.{outcome}
use Rattle.demands.specs.Calls.{Call, turn_of, given, output_of, right_buffers, runs, block_of, command_in, draws}
use Rattle.demands.specs.Demand3.{Alike, Kept, draws_on, is_mac, SameCall}
use Rattle.demands.proofs.Beside.{Beside, with_data, Near}
use Rattle.demands.proofs.SamePlans.{draws_same}
use Rattle.demands.proofs.SameTurns.{SameTurn, drawn_in, turn_same}

-- ---- alike tokens

-- the token with another data zone
abbrev pub twin : List ℕ → Token → Token
twin y s = record { device = with_data y s.device; power = s.power }

near_alike : (k : Slot) (s t : Token) → Near k s.device t.device → s.power ≡ t.power → Alike k s t
near_alike k s t n p = record {
  config = ap (λ (d : _). d.config) (sym n.others);
  otp = ap (λ (d : _). d.otp) (sym n.others);
  tempKey = ap (λ (d : _). d.tempKey) (sym n.others);
  power = p;
  data_length = n.beside.same_length;
  elsewhere = n.beside.elsewhere;
}

pub alike_twin : (k : Slot) (s t : Token) → Alike k s t → twin t.device.«data» s ≡ t
alike_twin k s t a = rw (a.config, a.otp, a.tempKey, a.power)

pub alike_beside : (k : Slot) (s t : Token) → Alike k s t → Beside k s.device.«data» t.device.«data»
alike_beside k s t a = record { same_length = a.data_length; elsewhere = a.elsewhere }

-- ---- a call

-- the slots that a call with buffers that are right draws on are its event's
drawn_fits : (s : Token) (e : Event) (supplied output : List ℕ) → (length output under 35) ≡ false → (length supplied is 32) ≡ true
    → draws s (record { event = e; random = supplied; output = output }) ≡ drawn_in s.device s.power e supplied
unfolding draws runs
drawn_fits s wake supplied output a b = rw (and-false (right_buffers _ && is_awake s.power))
drawn_fits s idle supplied output a b = rw (and-false (right_buffers _ && is_awake s.power))
drawn_fits s sleep supplied output a b = rw (and-false (right_buffers _ && is_awake s.power))
drawn_fits s (block x) supplied output a b = rw (le-leb 35 (length output) (ltb-false (length output) 35 a), b)

record SameOutcome (k : Slot) (o q : Outcome) : Type 0 where
  number : o.number ≡ q.number
  size : o.length ≡ q.length
  alike : Alike k o.token q.token

record SameOutput (drawn : Bool) (x y : List ℕ) : Type 0 where
  same : drawn ≡ false → x ≡ y
  front : take 1 x ≡ take 1 y
  rest : drop 35 x ≡ drop 35 y

module _ (k : Slot) (s : Token) (y : List ℕ) (w : Beside k s.device.«data» y) (kept : Kept k s) where
  pub draws_twin : (c : Call) → draws s c ≡ draws (twin y s) c
  unfolding draws runs plan_for
  draws_twin c =
      let b = block_of c.event in
      if_same (runs s c)
      (λ a. draws_same s.device y kept.locked (command_of (opcode_of b)) (fields_of b) (input_of b) c.random)
      (λ a. refl)

  module _ (c : Call) (spared : (draws_on k s c ⇒ is_mac (command_in c)) ≡ true) where
    itself : Alike k s (twin y s)
    itself = near_alike k s (twin y s) (record { others = refl; beside = w }) refl

    event_same : (length c.output under 35) ≡ false → (length c.random is 32) ≡ true
        → SameTurn k (draws_on k s c) (turn_of s c) (turn_of (twin y s) c)
    event_same a b =
        let e = drawn_fits s c.event c.random c.output a b in
        rw e (turn_same k s y w kept c.event c.random (rw e at spared))

    outcome_same : SameOutcome k (given s c) (given (twin y s) c)
    unfolding outcome
    outcome_same =
        if_both (SameOutcome k) (length c.output under 35)
        (λ a. record { number = refl; size = refl; alike = itself })
        (λ a. if_both (SameOutcome k) (length c.random is 32)
        (λ b. let t = event_same a b in
        record { number = t.shown.number; size = t.shown.size; alike = near_alike k _ _ t.near t.power })
        (λ b. record { number = refl; size = refl; alike = itself }))

    output_same : SameOutput (draws_on k s c) (output_of s c) (output_of (twin y s) c)
    unfolding output_after
    output_same =
        if_both (SameOutput (draws_on k s c)) (length c.output under 35)
        (λ a. record { same = λ h. refl; front = refl; rest = refl })
        (λ a. if_both (SameOutput (draws_on k s c)) (length c.random is 32)
        (λ b. let t = (event_same a b).shown in
        record { same = λ h. rw (t.same h); front = t.front c.output; rest = t.rest c.output })
        (λ b. record { same = λ h. refl; front = refl; rest = refl }))

    pub alike_after : Alike k (given s c).token (given (twin y s) c).token
    alike_after = outcome_same.alike

    pub call_same : SameCall k s (twin y s) c
    call_same = record {
      draws = draws_twin c;
      number = outcome_same.number;
      length = outcome_same.size;
      output = output_same.same;
      front = output_same.front;
      rest = output_same.rest;
    }
