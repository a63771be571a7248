-- What was sent: the code hands it on in rows of 32 bytes, and the rules look at the bytes themselves.
use Prim.Native.Nat.{ℕ, ◌+◌, ◌≤◌}
use mathlib.Core.Path.{◌≡◌}
use mathlib.Core.List.{List, ◌++◌}
use native.Mathlib.Omega.{arith}
use lib.ListN.{length, take, drop, length-take, length-drop}
use lib.Seq.{take-append-le, drop-append-le}
use Rattle.rules.specs.declared.Fields.{Fields}
use Rattle.rules.specs.Words.{zeros}
use Rattle.rules.specs.Messages.{check_mac_message}
use Rattle.rules.specs.CheckMac.{other}
use Rattle.rows.specs.Row.{row}
use Rattle.rows.proofs.Row.{row_there}

-- the 13 bytes of the row are all that the message looks at
front : (o z : List ℕ) (at n : ℕ) → at + n ≤ length o → take n (drop at (o ++ z)) ≡ take n (drop at o)
front o z at n h =
    let a : at ≤ length o = omega arith in
    let k : n ≤ length (drop at o) = simp length-drop (omega arith) in
    rw (drop-append-le at o z a) (take-append-le n (drop at o) z k)

pub other_sent : (first second : List ℕ) (f : Fields) (input otp config : List ℕ) → length input ≡ 77
    → check_mac_message first second f (row input 64 13) otp config ≡ check_mac_message first second f (other input) otp config
unfolding check_mac_message
other_sent first second f input otp config h =
    let o : List ℕ = other input in
    let z : List ℕ = zeros 19 in
    let l : length o ≡ 13 = simp (length-take, length-drop) (omega arith) in
    rw (row_there input 64 13 (omega arith) (omega arith), front o z 0 4 (omega arith), front o z 4 3 (omega arith), front o z 7 4 (omega arith), front o z 11 2 (omega arith))
