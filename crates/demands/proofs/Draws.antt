-- Slots that are not drawn on, and rules that come to the same where a slot is not.
use mathlib.Core.Path.{◌≡◌, refl}
use mathlib.Core.Bool.{true, false, ◌||◌, or_assoc}
use mathlib.Core.List.{List, [], ◌∷◌, ◌++◌}
use borrow.Author.Tests.{eqb-false}
use Rattle.rules.specs.declared.Slot.{Slot}
use Rattle.rules.specs.Words.{◌is◌}
use Rattle.rules.specs.State.{index}
use Rattle.rules.specs.Plan.{Rule, settle}
use Rattle.rules.proofs.Tests.{or_left, or_right}
use Rattle.rules.proofs.Settle.{settle_eq}
use Rattle.demands.specs.Demand3.{holds}

pub missed : (k j : Slot) (js : List Slot) → holds k (j ∷ js) ≡ false → index j ≡ index k → ⊥
unfolding holds
missed k j js h = eqb-false (index j) (index k) (or_left (index j is index k) (holds k js) h)

pub missed_rest : (k j : Slot) (js : List Slot) → holds k (j ∷ js) ≡ false → holds k js ≡ false
unfolding holds
missed_rest k j js h = or_right (index j is index k) (holds k js) h

pub holds_append : (k : Slot) (xs ys : List Slot) → holds k (xs ++ ys) ≡ (holds k xs || holds k ys)
unfolding holds
holds_append k [] ys = refl
holds_append k (x ∷ xs) ys = rw (holds_append k xs ys, or_assoc (index x is index k) (holds k xs) (holds k ys))

-- two rules with the same checks come to the same where the slot is not drawn on and their effects are then the same
pub settle_same : (k : Slot) (r q : Rule) → r.shape ≡ q.shape → r.free ≡ q.free → holds k (settle r).draws ≡ false
    → (r.shape ≡ true → r.free ≡ true → holds k r.effect.draws ≡ false → r.effect ≡ q.effect)
    → settle r ≡ settle q
settle_same k r q es ef h e = settle_eq r q es ef (λ a b. e a b (rw (a, b) at h))
