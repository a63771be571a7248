-- Numbers 1, 2 and 40 change no byte of the state and of the output, and the answer's length is 0.
use Prim.Native.Nat.{ℕ, ◌≤◌, ◌<◌}
use mathlib.Core.Path.{◌≡◌, refl}
use mathlib.Core.Bool.{true, false}
use mathlib.Core.List.{List}
use lib.ListN.{length}
use borrow.Author.Tests.{lt-ltb, le-ltb, ne_eqb}
use Rattle.rules.specs.Events.{Event, output_after}
use Rattle.token.specs.Outcome.{outcome}
use Rattle.desk.specs.Desk.{is_state, number, state_after, output_of, answer_length}
use Rattle.desk.proofs.RoundTrip.{saved_loaded}

module _ (s : List ℕ) (e : Event) (random output : List ℕ) where
  -- a call that gives n and leaves everything
  abbrev pub Refused : ℕ → Type 0
  Refused n =
      (number s e random output ≡ n)
      × ((state_after s e random output ≡ s) × ((output_of s e random output ≡ output) × (answer_length s e random output ≡ 0)))

  pub no_state_refused : is_state s ≡ false → Refused 40
  unfolding number state_after output_of answer_length
  no_state_refused h = rw h (refl, (refl, (refl, refl)))

  pub short_output_away : is_state s ≡ true → length output < 35 → Refused 1
  unfolding number state_after output_of answer_length outcome output_after
  short_output_away h k = rw (h, lt-ltb _ _ k) (refl, (saved_loaded s h, (refl, refl)))

  pub wrong_random_away : is_state s ≡ true → 35 ≤ length output → (length random ≡ 32 → ⊥) → Refused 2
  unfolding number state_after output_of answer_length outcome output_after
  wrong_random_away h k n = rw (h, le-ltb _ _ k, ne_eqb _ _ n) (refl, (saved_loaded s h, (refl, refl)))
