-- A call on a token with both zones locked leaves the locks and every slot's bits as they are.
use Prim.Native.Nat.{ℕ, ◌+◌, ◌*◌, ◌≤◌}
use mathlib.Core.Path.{◌≡◌, refl, sym, ◌∙◌}
use mathlib.Core.Bool.{true, true≢false}
use mathlib.Core.List.{List, [], ◌∷◌}
use native.Mathlib.Omega.{arith}
use lib.Seq.{get_or-set_other}
use Rattle.rules.specs.declared.Device.{Device}
use Rattle.rules.specs.declared.Slot.{Slot}
use Rattle.rules.specs.Words.{byte}
use Rattle.rules.specs.State.{index, slot_config, config_locked, values_locked, both_locked}
use Rattle.rules.specs.Plan.{Store, in_config, in_otp, in_data, store, store_all}
use Rattle.rules.specs.Events.{plan_for}
use Rattle.rules.proofs.Tests.{and_left}
use Rattle.token.specs.declared.Token.{Token}
use Rattle.token.specs.declared.Outcome.{Outcome}
use Rattle.demands.specs.Calls.{Call, given}
use Rattle.demands.specs.Demand3.{Kept}
use Rattle.demands.proofs.Calling.{turn_device, call_cases}
use Rattle.demands.proofs.ReadPlans.{none_open}
use Rattle.demands.proofs.Stores.{Allows, All, all_stores}

-- a store in the configuration goes to bytes 52 to 85
abbrev Usual : Store → Type 0
Usual (in_config at b) = (52 ≤ at) × (at ≤ 85)
Usual (in_otp at b) = Unit {0}
Usual (in_data at b) = Unit {0}

usual : (config : List ℕ) → both_locked config ≡ true → Allows config Usual
usual config h = record {
  otp = λ at b. tt;
  slots = λ at b. tt;
  counts = λ at b l m. (l, m);
  unlocked = λ e. absurd (true≢false (sym (and_left (config_locked config) (values_locked config) h) ∙ e));
  locks = λ f o. absurd (true≢false (sym o ∙ none_open config f h));
}

-- every other byte of the configuration stays
abbrev Aside : ℕ → Type 0
Aside n = (at : ℕ) → 52 ≤ at → at ≤ 85 → n ≡ at → ⊥

abbrev Stays : List ℕ → List ℕ → Type 0
Stays before config = (n : ℕ) → Aside n → byte n config ≡ byte n before

stores_stay : (xs : List Store) (d : Device) → All Usual xs → Stays d.config (store_all d xs).config
stores_stay [] d u n a = refl
stores_stay (in_config at b ∷ xs) d u n a =
    stores_stay xs (store d (in_config at b)) u.1 n a ∙ get_or-set_other d.config at n b 0 (a at u.0.0 u.0.1)
stores_stay (in_otp at b ∷ xs) d u n a = stores_stay xs (store d (in_otp at b)) u.1 n a
stores_stay (in_data at b ∷ xs) d u n a = stores_stay xs (store d (in_data at b)) u.1 n a

call_stays : (s : Token) (c : Call) → both_locked s.device.config ≡ true → Stays s.device.config (given s c).token.device.config
call_stays s c h =
    let config = s.device.config in
    call_cases (λ (o : Outcome) (_ : List ℕ). Stays config o.token.device.config) s c (λ n a. refl) (λ n a. refl)
    (λ _ _. turn_device (λ (d : Device). Stays config d.config) s.device s.power c.event c.random (λ n a. refl) (λ n a. refl)
    (λ b _ _ _. stores_stay (plan_for s.device b c.random).stores s.device (all_stores Usual s.device (usual config h) b c.random)))

slot_stays : (k : Slot) (before config : List ℕ) → Stays before config → slot_config config k ≡ slot_config before k
unfolding slot_config
slot_stays k before config s =
    rw (s (20 + 2 * index k) (λ at l h e. omega arith), s (21 + 2 * index k) (λ at l h e. omega arith))

kept_stays : (k : Slot) (s t : Token) → Kept k s → Stays s.device.config t.device.config → Kept k t
kept_stays k s t w h =
    let e = slot_stays k s.device.config t.device.config h in
    record {
      locked = rw (h 86 (λ at l h e. omega arith), h 87 (λ at l h e. omega arith)) w.locked;
      secret = rw e w.secret;
      never_read = rw e w.never_read;
    }

pub kept_call : (k : Slot) (s : Token) (c : Call) → Kept k s → Kept k (given s c).token
kept_call k s c w = kept_stays k s (given s c).token w (call_stays s c w.locked)
