-- Demand 1 over a desk's bytes: the refusals of crate `desk`, and what crate `demands` has of the token that the bytes hold.
use Prim.Native.Nat.{ℕ}
use mathlib.Core.Path.{◌≡◌, ap, subst, ◌∙◌}
use mathlib.Core.Bool.{true, false}
use mathlib.Core.Logic.{◌⊎◌, inl, inr, ⊎_elim}
use mathlib.Core.List.{List, [], ◌∷◌}
use native.Mathlib.Omega.{arith}
use Rattle.wire.specs.Wire.{frame, whole}
use Rattle.rules.specs.declared.Status.{Status}
use Rattle.rules.specs.declared.Status.TheVariants.{BadShape, Refused}
use Rattle.rules.specs.Words.{byte}
use Rattle.rules.specs.State.{number_of, is_awake, status_byte}
use Rattle.rules.specs.Events.{block, front_of}
use Rattle.token.specs.declared.Token.{Token}
use Rattle.desk.specs.Desk.{is_state, loaded, saved}
use Rattle.desk.proofs.RoundTrip.{saved_loaded}
use Rattle.desk.proofs.Refusals.{Refused as Declined, short_output_away, wrong_random_away, no_state_refused}
use Rattle.demands.specs.Calls.{Call, answer_of}
use Rattle.demands.specs.Demand1 as tokens
use Rattle.demands.proofs.Demand1 as proved
use Rattle.desk_demands.specs.Calls.{call_number, call_state, call_output, call_length}
use Rattle.desk_demands.specs.Demand1.{TurnedAway, Says, with_emptied, ByCause, Demand1}
use Rattle.desk_demands.proofs.Parts.{whole_config, whole_otp, whole_data, whole_row, saved_emptied}
use Rattle.desk_demands.proofs.Carried.{call_gives_number, call_gives_state, call_gives_output, call_gives_length}
use Rattle.desk_demands.proofs.Numbers.{none_state, by_state, number_cases, accepted, unanswered}

-- ---- refused for its buffers or its state

-- a number that tells that a call has taken place, and one that tells that it has not
clash : (n : ℕ) → (n ≡ 0) ⊎ (n ≡ 3) → (n ≡ 1) ⊎ ((n ≡ 2) ⊎ (n ≡ 40)) → ⊥
clash n (inl a) (inl b) = omega arith
clash n (inl a) (inr (inl b)) = omega arith
clash n (inl a) (inr (inr b)) = omega arith
clash n (inr a) (inl b) = omega arith
clash n (inr a) (inr (inl b)) = omega arith
clash n (inr a) (inr (inr b)) = omega arith

module _ (s : List ℕ) (c : Call) where
  declined : (n : ℕ) → Declined s c.event c.random c.output n → TurnedAway s c
  declined n r = record { length = r.1.1.1; state = r.1.0; output = r.1.1.0 }

  away : (call_number s c ≡ 1) ⊎ ((call_number s c ≡ 2) ⊎ (call_number s c ≡ 40)) → TurnedAway s c
  away =
      number_cases s c (λ (n : ℕ). (n ≡ 1) ⊎ ((n ≡ 2) ⊎ (n ≡ 40)) → TurnedAway s c)
      (λ h _. declined 40 (no_state_refused s c.event c.random c.output h))
      (λ h short _. declined 1 (short_output_away s c.event c.random c.output h short))
      (λ h wide wrong _. declined 2 (wrong_random_away s c.event c.random c.output h wide wrong))
      (λ h fit. let n = (proved.by_cause (loaded s) c).fitting fit in
      λ m. absurd (clash _ (⊎_elim (λ a. inl (ap number_of a)) (λ b. inr (ap number_of b)) n) m))

-- ---- an answer, and the bytes after it

says_bytes : (s : List ℕ) (c : Call) (r : Status) (t : Token) → is_state s ≡ true → tokens.Says (loaded s) c r t → Says s c r (saved t)
says_bytes s c r t h w = record {
  number = call_gives_number s c h ∙ ap number_of w.number;
  length = call_gives_length s c h ∙ w.length;
  state = call_gives_state s c h ∙ ap saved w.token;
  output = call_gives_output s c h ∙ w.output;
}

pub state_emptied : (s : List ℕ) → is_state s ≡ true → saved (tokens.with_emptied (loaded s)) ≡ with_emptied s
state_emptied s h =
    rw (saved_loaded s h) at (saved_emptied (loaded s) (whole_config s h) (whole_otp s h) (whole_data s h) (whole_row s h))

module _ (s : List ℕ) (c : Call) where
  refused : (r : Status) → is_state s ≡ true → tokens.Says (loaded s) c r (tokens.with_emptied (loaded s)) → Says s c r (with_emptied s)
  refused r h w = subst (Says s c r) (state_emptied s h) (says_bytes s c r _ h w)

  unchanged : (r : Status) → is_state s ≡ true → tokens.Says (loaded s) c r (loaded s) → Says s c r s
  unchanged r h w = subst (Says s c r) (saved_loaded s h) (says_bytes s c r _ h w)

  shown : (r : Status) → (r ≡ BadShape) ⊎ (r ≡ Refused) → call_number s c ≡ 0
      → front_of (call_length s c) (call_output s c) ≡ frame (status_byte r ∷ []) → call_state s c ≡ with_emptied s
  shown r k e a =
      let h : is_state s ≡ true = (accepted s c (inl e)).1 in
      let b : answer_of (loaded s) c ≡ frame (status_byte r ∷ []) = rw (← call_gives_length s c h, ← call_gives_output s c h) a in
      call_gives_state s c h ∙ ap saved ((proved.demand_1 (loaded s) c).refused r k b).0 ∙ state_emptied s h

  damaged : (b : List ℕ) → c.event ≡ block b → whole b ≡ false → call_state s c ≡ s
  damaged b e w =
      by_state s (call_state s c ≡ s)
      (λ h. call_gives_state s c h ∙ ap saved ((proved.demand_1 (loaded s) c).damaged b e w).0 ∙ saved_loaded s h)
      (none_state s c)

-- power is the last byte
awake : (s : List ℕ) → byte 701 s ≡ 2 → is_awake (loaded s).power ≡ true
unfolding loaded
awake s e = rw e

pub by_cause : (s : List ℕ) (c : Call) → ByCause s c
by_cause s c =
    let d = proved.by_cause (loaded s) c in
    record {
      no_state = λ h. (no_state_refused s c.event c.random c.output h).0;
      short_output = λ h short. (short_output_away s c.event c.random c.output h short).0;
      wrong_random = λ h wide wrong. (wrong_random_away s c.event c.random c.output h wide wrong).0;
      fitting = λ fit h.
          ⊎_elim (λ a. inl (call_gives_number s c h ∙ ap number_of a)) (λ b. inr (call_gives_number s c h ∙ ap number_of b)) (d.fitting fit);
      shape = λ h r w. refused s c _ h (d.shape r w);
      conditions = λ h r w n. refused s c _ h (d.conditions r w n);
      digest = λ h r w n m. refused s c _ h (d.digest r w n m);
      damaged_awake = λ b e w fit h a. unchanged s c _ h (d.damaged_awake b e w fit (awake s a));
    }

pub demand_1 : (s : List ℕ) (c : Call) → Demand1 s c
demand_1 s c =
    record {
      turned_away = away s c;
      shown = shown s c;
      damaged = damaged s c;
      silent = λ e. call_gives_output s c (accepted s c (inr e)).1 ∙ (proved.demand_1 (loaded s) c).silent (unanswered s c e);
    }
