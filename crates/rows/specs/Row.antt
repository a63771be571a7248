-- A row: 32 bytes that a function hands on by value.
use Rattle.std.specs.Prelude.{ℕ, ◌-◌, List, ◌++◌, take, drop, if◌then◌else◌}
use Rattle.rules.specs.Words.{◌under◌, zeros}

-- the n bytes of a list from a position on, as many as there are, filled up with zeros to 32
unfoldable pub row : List ℕ → ℕ → ℕ → List ℕ
row l at n = take 32 (take n (drop at l) ++ zeros 32)

-- how many of n bytes stand in a zone of len bytes from a position on
unfoldable pub fitting : ℕ → ℕ → ℕ → ℕ
fitting len at n = if n under len - at then n else len - at
