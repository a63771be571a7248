-- Through a rule's checks to what it comes to.
use Rattle.std.specs.Prelude.{if◌then◌else◌}
use mathlib.Core.Path.{◌≡◌, refl}
use mathlib.Core.Bool.{true}
use Rattle.wire.proofs.Cases.{if_all, if_both}
use Rattle.rules.specs.declared.Status.{Status}
use Rattle.rules.specs.declared.Status.TheVariants.{BadShape, Refused}
use Rattle.rules.specs.Plan.{Plan, says, Rule, settle}

-- what holds of a rule's effect where its checks pass, and of the two refusals, holds of what the rule comes to
pub settle_all : (P : Plan → Type 0) (r : Rule) → (r.shape ≡ true → r.free ≡ true → P r.effect) → P (says Refused) → P (says BadShape)
    → P (settle r)
settle_all P r p q₁ q₂ =
    if_all P r.shape (if r.free then r.effect else says Refused) (says BadShape)
    (λ a. if_all P r.free r.effect (says Refused) (λ b. p a b) (λ b. q₁))
    (λ a. q₂)

-- two rules with the same checks: how their effects are related where the checks pass, so is what they come to
pub settle_both : (R : Plan → Plan → Type 0) → ((s : Status) → R (says s) (says s)) → (r q : Rule) → r.shape ≡ q.shape → r.free ≡ q.free
    → (r.shape ≡ true → r.free ≡ true → R r.effect q.effect) → R (settle r) (settle q)
settle_both R same r q es ef e =
    rw (← es, ← ef)
    (if_both R r.shape (λ a. if_both R r.free (λ b. e a b) (λ b. same Refused)) (λ a. same BadShape))

pub settle_eq : (r q : Rule) → r.shape ≡ q.shape → r.free ≡ q.free → (r.shape ≡ true → r.free ≡ true → r.effect ≡ q.effect)
    → settle r ≡ settle q
settle_eq r q es ef e = settle_both (λ (p₁ p₂ : Plan). p₁ ≡ p₂) (λ s. refl) r q es ef e

pub settle_draws : (r q : Rule) → r.shape ≡ q.shape → r.free ≡ q.free → r.effect.draws ≡ q.effect.draws
    → (settle r).draws ≡ (settle q).draws
settle_draws r q es ef e = settle_both (λ (p₁ p₂ : Plan). p₁.draws ≡ p₂.draws) (λ s. refl) r q es ef (λ a b. e)
