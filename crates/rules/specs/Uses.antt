-- Uses: with LimitedUse, each use clears the highest one bit of UseFlag (slots 0-7), or of the first nonzero LastKeyUse byte
-- (slot 15); uses left are the ones. Slots 8-14 are unlimited (house).
use Rattle.std.specs.Prelude.{ℕ, zero, suc, ◌+◌, ◌-◌, ◌^◌, Bool, ◌&&◌, ◌||◌, List, [], ◌∷◌, if◌then◌else◌}
use Rattle.std.specs.Int.Count.{ones, count_leading_zeros}
use Rattle.rules.specs.declared.Slot.{Slot}
use Rattle.rules.specs.Words.{◌⇒◌, ◌is◌, ◌under◌, byte, bytes}
use Rattle.rules.specs.State.{index, limited_use, use_flag_at}
use Rattle.rules.specs.Plan.{Store, in_config}

unfoldable pub limited : List ℕ → Slot → Bool
limited config k = (index k under 8 || index k is 15) && limited_use config k

-- the ones of a row of bytes
unfoldable pub ones_of : List ℕ → ℕ
ones_of [] = 0
ones_of (b ∷ bs) = ones b + ones_of bs

-- the uses left of a limited slot
unfoldable pub uses_left : List ℕ → Slot → ℕ
uses_left config k = if index k is 15 then ones_of (bytes 68 83 config) else ones (byte (use_flag_at k) config)

-- a use is left: a slot that is not limited always has one
unfoldable pub use_left : List ℕ → Slot → Bool
use_left config k = limited config k ⇒ 0 under uses_left config k

-- the first of the bytes from a position on that is not zero: the last of them where the n before it are all zero
unfoldable pub first_nonzero : List ℕ → ℕ → ℕ → ℕ
first_nonzero config at zero = at
first_nonzero config at (suc n) = if byte at config is 0 then first_nonzero config (at + 1) n else at

-- the byte that a slot's next use clears a bit of
unfoldable pub use_at : List ℕ → Slot → ℕ
use_at config k = if index k is 15 then first_nonzero config 68 15 else use_flag_at k

-- the highest one bit cleared
unfoldable pub clear_highest : ℕ → ℕ
clear_highest b = b - 2 ^ (7 - count_leading_zeros 8 b)

-- one use of a slot
unfoldable pub spend : List ℕ → Slot → List Store
spend config k = if limited config k then in_config (use_at config k) (clear_highest (byte (use_at config k) config)) ∷ [] else []
