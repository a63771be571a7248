-- What is left to store, stored, makes the whole.
use Rattle.std.proofs.Common.{◌≡◌, ◌*◌, length, drop}
use Rattle.std.proofs.lemmas.List.Edits.{sets}
use Rattle.records.specs.Records.{hex}
use Rattle.records.proofs.lines.put_hex.Given as goal

abbrev pub invariant-loop-i : goal.invariant-loop-i
invariant-loop-i l = (length l.out ≡ 2 * length l.s) × (sets l.out (2 * l.i) (hex (drop l.i l.s)) ≡ hex l.s)
