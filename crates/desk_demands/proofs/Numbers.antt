-- A C call's number by cases, and what 0 and 3 tell; calls on bytes that are no state.
use Prim.Native.Nat.{ℕ, ◌≤◌, ◌<◌}
use mathlib.Core.Path.{◌≡◌, refl, sym, ap, ◌∙◌}
use mathlib.Core.Bool.{Bool, true, false}
use mathlib.Core.Logic.{◌⊎◌, inl, inr, ⊎_elim}
use mathlib.Core.List.{List, [], ◌∷◌}
use native.Mathlib.Omega.{arith}
use borrow.Author.Tests.{ltb-true, ltb-false, le-leb, eqb-false}
use lib.ListN.{length}
use Rattle.wire.proofs.Cases.{if_all}
use Rattle.rules.specs.declared.Number.TheVariants.{Answered, NoAnswer}
use Rattle.rules.specs.Words.{◌is◌, ◌under◌}
use Rattle.rules.specs.State.{number_of}
use Rattle.desk.specs.Desk as desk
use Rattle.desk.specs.Desk.{is_state, loaded}
use Rattle.demands.specs.Calls.{Call, given, right_buffers}
use Rattle.demands.proofs.Demand1.{by_cause}
use Rattle.desk_demands.specs.Calls.{call_number, call_state, call_length, bytes_after}
use Rattle.desk_demands.proofs.Carried.{call_gives_number}

-- ---- bytes that are no state

module _ (s : List ℕ) (c : Call) (h : is_state s ≡ false) where
  pub none_state : call_state s c ≡ s
  unfolding desk.state_after
  none_state = rw h

  pub none_length : call_length s c ≡ 0
  unfolding desk.answer_length
  none_length = rw h

pub none_run : (s : List ℕ) (cs : List Call) → is_state s ≡ false → bytes_after s cs ≡ s
none_run s [] h = refl
none_run s (c ∷ cs) h = rw (none_state s c h) (none_run s cs h)

-- what holds whether a test passes or fails; of a state and of any other bytes
by_test : (t : Bool) (P : Type 0) → (t ≡ true → P) → (t ≡ false → P) → P
by_test true P passes fails = passes refl
by_test false P passes fails = fails refl

pub by_state : (s : List ℕ) (P : Type 0) → (is_state s ≡ true → P) → (is_state s ≡ false → P) → P
by_state s = by_test (is_state s)

-- ---- the number

module _ (s : List ℕ) (c : Call) where
  -- 40 with its cause, then 1 and 2 with theirs, then the token's
  pub number_cases : (P : ℕ → Type 0) → (is_state s ≡ false → P 40) → (is_state s ≡ true → length c.output < 35 → P 1)
      → (is_state s ≡ true → 35 ≤ length c.output → (length c.random ≡ 32 → ⊥) → P 2)
      → (is_state s ≡ true → right_buffers c ≡ true → P (number_of (given (loaded s) c).number)) → P (call_number s c)
  unfolding desk.number
  number_cases P none short wrong right = if_all P (is_state s) _ _ held none where
    held : is_state s ≡ true → P (number_of (given (loaded s) c).number)
    held h =
        let away = by_cause (loaded s) c in
        by_test (right_buffers c) _ (right h)
        (λ unfit. by_test (length c.output under 35) _
        (λ e. rw (away.short_output e).number (short h (ltb-true (length c.output) 35 e)))
        (λ e.
        let wide : 35 ≤ length c.output = ltb-false (length c.output) 35 e in
        let other : length c.random is 32 ≡ false = rw (le-leb 35 (length c.output) wide) at unfit in
        rw (away.wrong_random e other).number (wrong h wide (eqb-false (length c.random) 32 other))))

  -- a call that gives 0 or 3 has taken place
  pub accepted : (call_number s c ≡ 0) ⊎ (call_number s c ≡ 3) → (right_buffers c ≡ true) × (is_state s ≡ true)
  accepted =
      number_cases (λ (n : ℕ). (n ≡ 0) ⊎ (n ≡ 3) → (right_buffers c ≡ true) × (is_state s ≡ true))
      (λ _. ⊎_elim (λ e. absurd (omega (arith, e))) (λ e. absurd (omega (arith, e))))
      (λ _ _. ⊎_elim (λ e. absurd (omega (arith, e))) (λ e. absurd (omega (arith, e))))
      (λ _ _ _. ⊎_elim (λ e. absurd (omega (arith, e))) (λ e. absurd (omega (arith, e))))
      (λ h fit _. (fit, h))

  -- and its token's number is Answered or NoAnswer
  pub answered : call_number s c ≡ 0 → (given (loaded s) c).number ≡ Answered
  answered e =
      let ok = accepted (inl e) in
      let n : number_of (given (loaded s) c).number ≡ 0 = sym (call_gives_number s c ok.1) ∙ e in
      ⊎_elim (λ a. a) (λ b. absurd (omega (arith, ap number_of b))) ((by_cause (loaded s) c).fitting ok.0)

  pub unanswered : call_number s c ≡ 3 → (given (loaded s) c).number ≡ NoAnswer
  unanswered e =
      let ok = accepted (inr e) in
      let n : number_of (given (loaded s) c).number ≡ 3 = sym (call_gives_number s c ok.1) ∙ e in
      ⊎_elim (λ a. absurd (omega (arith, ap number_of a))) (λ b. b) ((by_cause (loaded s) c).fitting ok.0)
