-- Demand 3, proved: over a run of calls, two tokens alike but for a slot stay so and show the same.
use mathlib.Core.Path.{◌≡◌, refl, subst}
use mathlib.Core.Bool.{Bool, true, false, ◌&&◌}
use mathlib.Core.List.{List, [], ◌∷◌}
use Rattle.rules.specs.declared.Slot.{Slot}
use Rattle.rules.specs.Words.{◌⇒◌}
use Rattle.rules.proofs.Tests.{and_left, and_right}
use Rattle.token.specs.declared.Token.{Token}
use Rattle.demands.specs.Calls.{Call, given, command_in, draws}
use Rattle.demands.specs.Demand3.{Alike, Kept, draws_on, is_mac, spared, SameCall, SameRun, Demand3}
use Rattle.demands.proofs.Keeping.{kept_call}
use Rattle.demands.proofs.SameCalls.{alike_twin, alike_beside, draws_twin, alike_after, call_same}

-- ---- one call on any two tokens that are alike

module _ (k : Slot) (s t : Token) (a : Alike k s t) (w : Kept k s) (c : Call) where
  same_draws : draws s c ≡ draws t c
  same_draws = subst (λ (u : Token). draws s c ≡ draws u c) (alike_twin k s t a) (draws_twin k s _ (alike_beside k s t a) w c)

  same_call : (draws_on k s c ⇒ is_mac (command_in c)) ≡ true → SameCall k s t c
  same_call h = subst (λ (u : Token). SameCall k s u c) (alike_twin k s t a) (call_same k s _ (alike_beside k s t a) w c h)

  same_after : (draws_on k s c ⇒ is_mac (command_in c)) ≡ true → Alike k (given s c).token (given t c).token
  same_after h =
      subst (λ (u : Token). Alike k (given s c).token (given u c).token) (alike_twin k s t a) (alike_after k s _ (alike_beside k s t a) w c h)

-- ---- runs

same_run : (k : Slot) (cs : List Call) (s t : Token) → Alike k s t → Kept k s → spared k s cs ≡ true → SameRun k s t cs
unfolding spared
same_run k [] s t a w h = a
same_run k (c ∷ cs) s t a w h =
    let now = and_left (draws_on k s c ⇒ is_mac (command_in c)) (spared k (given s c).token cs) h in
    let later = and_right (draws_on k s c ⇒ is_mac (command_in c)) (spared k (given s c).token cs) h in
    (a, same_call k s t a w c now, same_run k cs (given s c).token (given t c).token (same_after k s t a w c now) (kept_call k s c w) later)

-- the rest of a run counts only where the call before it spares the slot
and_same : (x y z : Bool) → (x ≡ true → y ≡ z) → (x && y) ≡ (x && z)
and_same true y z e = e refl
and_same false y z e = refl

same_first : (k : Slot) (cs : List Call) (s t : Token) → Alike k s t → Kept k s → spared k s cs ≡ spared k t cs
unfolding spared
same_first k [] s t a w = refl
same_first k (c ∷ cs) s t a w =
    rw (← same_draws k s t a w c)
    (and_same (draws_on k s c ⇒ is_mac (command_in c)) (spared k (given s c).token cs) (spared k (given t c).token cs)
    (λ now. same_first k cs (given s c).token (given t c).token (same_after k s t a w c now) (kept_call k s c w)))

pub demand_3 : (k : Slot) (s t : Token) (cs : List Call) → Alike k s t → Kept k s → Demand3 k s t cs
demand_3 k s t cs a w = record { same = same_run k cs s t a w; first = same_first k cs s t a w }
