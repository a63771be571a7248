-- Demand 3 over a desk's bytes: what crate `demands` has of the two tokens, call by call.
use Prim.Native.Nat.{ℕ, ◌+◌, ◌-◌, ◌≤◌, ◌<◌}
use mathlib.Core.Path.{◌≡◌, sym, ap, subst, ◌∙◌}
use mathlib.Core.Bool.{true}
use mathlib.Core.Logic.{◌⊎◌, ⊎_elim}
use mathlib.Core.List.{List, [], ◌∷◌}
use native.Mathlib.Omega.{arith}
use lib.ListN.{take, drop}
use lib.Seq.{get_or-take, get_or-drop}
use Rattle.rules.specs.declared.Slot.{Slot}
use Rattle.rules.specs.Words.{byte}
use Rattle.rules.specs.State.{number_of}
use Rattle.desk.specs.Desk.{is_state, loaded}
use Rattle.desk.proofs.RoundTrip.{saved_loaded}
use Rattle.demands.specs.Calls.{Call, output_of}
use Rattle.demands.specs.Demand3 as tokens
use Rattle.demands.proofs.SameRuns as runs
use Rattle.desk_demands.specs.Calls.{call_state}
use Rattle.desk_demands.specs.Demand3.{Alike, Kept, SameCall, SameRun, Demand3}
use Rattle.desk_demands.proofs.Carried.{state_formed, call_gives_number, call_gives_output, call_gives_length, call_stays, call_token}
use Rattle.desk_demands.proofs.AlikeBytes.{tokens_alike, tokens_kept, bytes_alike}

-- outputs that agree in byte 0 and from byte 35 on
ends_same : (x y : List ℕ) → take 1 x ≡ take 1 y → drop 35 x ≡ drop 35 y → (i : ℕ) → (i < 1) ⊎ (35 ≤ i) → byte i x ≡ byte i y
ends_same x y f r i = ⊎_elim front rest where
  front : i < 1 → byte i x ≡ byte i y
  front l = sym (get_or-take 1 x i 0 l) ∙ ap (λ (z : List ℕ). byte i z) f ∙ get_or-take 1 y i 0 l

  rest : 35 ≤ i → byte i x ≡ byte i y
  rest l =
      let e : 35 + (i - 35) ≡ i = omega arith in
      subst (λ (j : ℕ). byte j x ≡ byte j y) e
      (sym (get_or-drop 35 x (i - 35) 0) ∙ ap (λ (z : List ℕ). byte (i - 35) z) r ∙ get_or-drop 35 y (i - 35) 0)

module _ (k : Slot) (s t : List ℕ) (hs : is_state s ≡ true) (ht : is_state t ≡ true) where
  pub alike : tokens.Alike k (loaded s) (loaded t) → Alike k s t
  alike a = record {
    first = hs;
    second = ht;
    elsewhere = λ i out. rw (saved_loaded s hs, saved_loaded t ht) at (bytes_alike k (loaded s) (loaded t) (state_formed s hs) a i out);
  }

  same_call : (c : Call) → tokens.SameCall k (loaded s) (loaded t) c → SameCall k s t c
  same_call c w =
      let output = call_gives_output s c hs in
      let other = call_gives_output t c ht in
      record {
        number = rw (call_gives_number s c hs, call_gives_number t c ht) (ap number_of w.number);
        length = rw (call_gives_length s c hs, call_gives_length t c ht) w.length;
        output = λ n. rw (output, other) (w.output n);
        save = λ i out. rw (output, other) (ends_same (output_of (loaded s) c) (output_of (loaded t) c) w.front w.rest i out);
      }

same_run : (k : Slot) (cs : List Call) (s t : List ℕ) → is_state s ≡ true → is_state t ≡ true → tokens.SameRun k (loaded s) (loaded t) cs
    → SameRun k s t cs
same_run k [] s t hs ht w = alike k s t hs ht w
same_run k (c ∷ cs) s t hs ht w = (
  alike k s t hs ht w.0,
  same_call k s t hs ht c w.1,
  same_run k cs (call_state s c) (call_state t c) (call_stays s c hs) (call_stays t c ht) (rw (call_token s c hs, call_token t c ht) w.2),
)

pub demand_3 : (k : Slot) (s t : List ℕ) (cs : List Call) → Alike k s t → Kept k s → Demand3 k s t cs
demand_3 k s t cs a w =
    let d = runs.demand_3 k (loaded s) (loaded t) cs (tokens_alike k s t a) (tokens_kept k s w) in
    record { same = λ h. same_run k cs s t a.first a.second (d.same h); first = d.first }
