-- A lock byte of a desk's state stays other than 55: crate `demands` has it of the token that the bytes hold.
use Prim.Native.Nat.{ℕ, ◌<◌}
use mathlib.Core.Path.{◌≡◌}
use mathlib.Core.Bool.{true}
use mathlib.Core.List.{List}
use native.Mathlib.Omega.{arith}
use borrow.Author.Tests.{ne_eqb, eqb-false, not-true}
use lib.Seq.{get_or-take}
use Rattle.rules.specs.Words.{byte}
use Rattle.rules.specs.State.{locked}
use Rattle.desk.specs.Desk.{is_state, loaded}
use Rattle.demands.specs.Calls.{Call, after}
use Rattle.demands.proofs.Locked as tokens
use Rattle.desk_demands.specs.Calls.{bytes_after}
use Rattle.desk_demands.specs.Locked.{StaysLocked}
use Rattle.desk_demands.proofs.Carried.{run_token}
use Rattle.desk_demands.proofs.Numbers.{none_run, by_state}

-- a byte of the configuration
config_byte : (s : List ℕ) (n : ℕ) → n < 88 → byte n (loaded s).device.config ≡ byte n s
unfolding loaded
config_byte s n l = get_or-take 88 s n 0 l

module _ (s : List ℕ) (cs : List Call) (n : ℕ) (l : n < 88)
    (shut : locked (byte n (loaded s).device.config) ≡ true → locked (byte n (after (loaded s) cs).device.config) ≡ true) where
  byte_locked : is_state s ≡ true → (byte n s ≡ 0x55 → ⊥) → byte n (bytes_after s cs) ≡ 0x55 → ⊥
  byte_locked h u =
      let a : locked (byte n (loaded s).device.config) ≡ true = rw (config_byte s n l, ne_eqb (byte n s) 0x55 u) in
      let b : locked (byte n (loaded (bytes_after s cs)).device.config) ≡ true = rw (run_token s cs h) (shut a) in
      let c : locked (byte n (bytes_after s cs)) ≡ true = rw (config_byte (bytes_after s cs) n l) at b in
      eqb-false (byte n (bytes_after s cs)) 0x55 (not-true _ c)

  stays : (byte n s ≡ 0x55 → ⊥) → byte n (bytes_after s cs) ≡ 0x55 → ⊥
  stays u = by_state s (byte n (bytes_after s cs) ≡ 0x55 → ⊥) (λ h. byte_locked h u) (λ h. rw (none_run s cs h) u)

pub stays_locked : (s : List ℕ) (cs : List Call) → StaysLocked s cs
stays_locked s cs =
    let t = tokens.stays_locked (loaded s) cs in
    record { values = stays s cs 86 (omega arith) t.values; config = stays s cs 87 (omega arith) t.config }
