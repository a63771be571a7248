-- What keeps the fields of a message within its 96 bytes: a part is no longer than was asked for.
-- Cited in answers: with a `using` most of these goals stay open, since the `grind` that it adds gives up at its limits.
use Rattle.std.proofs.Common.{ℕ, ◌≤◌, List, length, take, arith, length-take}

pub part_within : (n : ℕ) (s : List ℕ) → length (take n s) ≤ n
part_within n s = omega (arith, length-take n s)
