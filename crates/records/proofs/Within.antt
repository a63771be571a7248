-- A record stays within the input, and a line within the output.
use Prim.Native.Nat.{ℕ, ◌-◌, ◌≤◌}
use mathlib.Core.List.{List}
use native.Mathlib.Omega.{arith}
use Rattle.std.proofs.lemmas.Bool.Decides.{nat_tests}
use lib.ListN.{length, drop, length-drop}
use Rattle.records.specs.declared.Record.{Record}
use Rattle.records.specs.declared.Record.TheVariants.{Image, Wake, Idle, Sleep, Block, Bad}
use Rattle.records.specs.Records.{length_of, uncut, first, record_at, put_length}

uncut_within : (rest : List ℕ) → length_of (uncut rest) ≤ length rest
unfolding uncut
uncut_within rest = grind (arith, nat_tests)

first_within : (r : Record) (n : ℕ) → length_of r ≤ n → length_of (first r) ≤ n
first_within Image n h = h
first_within Wake n h = omega arith
first_within Idle n h = omega arith
first_within Sleep n h = omega arith
first_within (Block k) n h = omega arith
first_within Bad n h = h

pub record_within : (input : List ℕ) (at : ℕ) → length_of (record_at input at) ≤ length input - at
unfolding record_at
record_within input at =
    let front = first_within (uncut input) (length input) (uncut_within input) in
    let rest = uncut_within (drop at input) in
    grind (arith, nat_tests, length-drop {A = ℕ})

pub put_within : (o : List ℕ) (at : ℕ) (l : List ℕ) → put_length o at l ≤ length o - at
unfolding put_length
put_within o at l = grind (arith, nat_tests)
