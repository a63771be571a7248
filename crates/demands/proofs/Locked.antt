-- A zone once locked stays locked: no store of any command puts 55 at a lock byte.
use Prim.Native.Nat.{ℕ, zero, suc, ◌≤◌}
use mathlib.Core.Path.{◌≡◌, refl, ap}
use mathlib.Core.Bool.{true}
use mathlib.Core.List.{List, [], ◌∷◌}
use native.Mathlib.Omega.{arith}
use lib.ListN.{set}
use Rattle.rules.specs.declared.Device.{Device}
use Rattle.rules.specs.Words.{byte}
use Rattle.rules.specs.State.{locked}
use Rattle.rules.specs.Plan.{Store, in_config, in_otp, in_data, store, store_all}
use Rattle.rules.specs.Events.{plan_for}
use Rattle.token.specs.declared.Token.{Token}
use Rattle.token.specs.declared.Outcome.{Outcome}
use Rattle.demands.specs.Calls.{Call, given, after}
use Rattle.demands.specs.Locked.{StaysLocked}
use Rattle.demands.proofs.Calling.{turn_device, call_cases, after_all}
use Rattle.demands.proofs.Stores.{Allows, All, all_stores}

-- a byte other than 55 stays so where another is stored, or one other than 55
set_locked : (c : List ℕ) (i n b : ℕ) → (i ≡ n → locked b ≡ true) → locked (byte n c) ≡ true → locked (byte n (set c i b)) ≡ true
set_locked [] i n b l h = h
set_locked (x ∷ c) zero zero b l h = l refl
set_locked (x ∷ c) zero (suc n) b l h = h
set_locked (x ∷ c) (suc i) zero b l h = h
set_locked (x ∷ c) (suc i) (suc n) b l h = set_locked c i n b (λ e. l (ap suc e)) h

-- a lock byte's position
module _ (n : ℕ) (at-lock : 86 ≤ n) where
  abbrev Shut : Device → Type 0
  Shut d = locked (byte n d.config) ≡ true

  -- a store that leaves the byte locked
  abbrev Leaves : Store → Type 0
  Leaves (in_config at b) = at ≡ n → locked b ≡ true
  Leaves (in_otp at b) = Unit {0}
  Leaves (in_data at b) = Unit {0}

  leaves : (config : List ℕ) → Allows config Leaves
  leaves config = record {
    otp = λ at b. tt;
    slots = λ at b. tt;
    counts = λ at b l m e. absurd (omega arith);
    unlocked = λ u at b l e. absurd (omega arith);
    locks = λ f o at e. refl;
  }

  stores_shut : (xs : List Store) (d : Device) → All Leaves xs → Shut d → Shut (store_all d xs)
  stores_shut [] d u h = h
  stores_shut (in_config at b ∷ xs) d u h = stores_shut xs (store d (in_config at b)) u.1 (set_locked d.config at n b u.0 h)
  stores_shut (in_otp at b ∷ xs) d u h = stores_shut xs (store d (in_otp at b)) u.1 h
  stores_shut (in_data at b ∷ xs) d u h = stores_shut xs (store d (in_data at b)) u.1 h

  call_shut : (s : Token) (c : Call) → Shut s.device → Shut (given s c).token.device
  call_shut s c h =
      call_cases (λ (o : Outcome) (_ : List ℕ). Shut o.token.device) s c h h
      (λ _ _. turn_device Shut s.device s.power c.event c.random h h
      (λ b _ _ _. stores_shut (plan_for s.device b c.random).stores s.device
      (all_stores Leaves s.device (leaves s.device.config) b c.random) h))

  pub run_shut : (s : Token) (cs : List Call) → Shut s.device → Shut (after s cs).device
  run_shut = after_all (λ (s : Token). Shut s.device) call_shut

pub stays_locked : (s : Token) (cs : List Call) → StaysLocked s cs
stays_locked s cs = record { config = run_shut 87 (omega arith) s cs; values = run_shut 86 (omega arith) s cs }
