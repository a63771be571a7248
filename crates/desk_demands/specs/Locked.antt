-- Demand 3, its last sentence, over a desk's bytes. "And over any calls a zone once locked stays locked." A lock byte (86 LockValue,
-- 87 LockConfig) other than 55 stays so; for all bytes, a state or not.
use Rattle.std.specs.Prelude.{ℕ, ◌≡◌, List}
use Rattle.rules.specs.Words.{byte}
use Rattle.demands.specs.Calls.{Call}
use Rattle.desk_demands.specs.Calls.{bytes_after}

pub record StaysLocked (s : List ℕ) (cs : List Call) : Type 0 where
  pub values : (byte 86 s ≡ 0x55 → ⊥) → byte 86 (bytes_after s cs) ≡ 0x55 → ⊥
  pub config : (byte 87 s ≡ 0x55 → ⊥) → byte 87 (bytes_after s cs) ≡ 0x55 → ⊥
