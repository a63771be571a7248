-- The answer's length: what crate `demands` has of the token that the bytes hold, and none where they are no state.
use Prim.Native.Nat.{ℕ}
use mathlib.Core.Path.{◌≡◌, ap, ◌∙◌}
use mathlib.Core.Logic.{inl}
use mathlib.Core.List.{List}
use Rattle.rules.specs.State.{number_of}
use Rattle.desk.specs.Desk.{loaded}
use Rattle.demands.specs.Calls.{Call}
use Rattle.demands.proofs.WellFormed.{stays_well_formed}
use Rattle.desk_demands.specs.Calls.{call_length, Lengths}
use Rattle.desk_demands.proofs.Carried.{state_formed, call_gives_number, call_gives_length}
use Rattle.desk_demands.proofs.Numbers.{none_length, by_state, accepted, answered}

pub lengths : (s : List ℕ) (c : Call) → Lengths s c
lengths s c = record {
  answered = λ e.
      let h = (accepted s c (inl e)).1 in
      rw (call_gives_length s c h) (stays_well_formed.lengths (loaded s) c (state_formed s h) (answered s c e));
  otherwise = λ n.
      by_state s (call_length s c ≡ 0)
      (λ h. call_gives_length s c h ∙ stays_well_formed.others (loaded s) c (λ a. n (call_gives_number s c h ∙ ap number_of a)))
      (none_length s c);
}
