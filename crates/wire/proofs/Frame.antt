-- What the two copies of `put_frame` leave in the output: its bytes after the first place, then their check value.
use Rattle.std.specs.Prelude.{length, take, drop}
use Prim.Native.Nat.{ℕ, ◌+◌, ◌-◌, ◌≤◌}
use mathlib.Core.Path.{◌≡◌, sym, ◌∙◌}
use mathlib.Core.List.{List, [], ◌∷◌, ◌++◌, append_assoc}
use native.Mathlib.Nat.{not-suc-le-zero}
use native.Mathlib.Numerals.{add-one}
use native.Mathlib.Omega.{arith}
use borrow.Rule.Slice.PartMut.{put_mid}
use lib.ListN.{set}
use lib.Seq.{take_at, drop-drop}
use Rattle.std.proofs.lemmas.List.{drop_at}
use Rattle.wire.specs.Wire.{check_from, check_value, low_first, counted, frame}

-- the count, and the bytes copied after it
abbrev pub begun : List ℕ → List ℕ → List ℕ
begun o p = put_mid 1 (length p + 1 - 1) (set o 0 (length p + 3)) p

begins : (o p : List ℕ) → 1 ≤ length o → begun o p ≡ counted p ++ drop (length p + 1) o
unfolding counted
begins [] p h = absurd (not-suc-le-zero h)
begins (x ∷ o) p h =
    let n : length p + 1 - 1 ≡ length p = omega arith in
    rw (n, add-one (length p))

-- then the check value of what stands there, copied after it
pub framed : (o p : List ℕ) (c : ℕ) → length p + 3 ≤ length o → c ≡ check_from 0 (take (length p + 1) (begun o p))
    → put_mid (length p + 1) (length p + 3 - (length p + 1)) (begun o p) (low_first c) ≡ frame p ++ drop (length p + 3) o
unfolding frame check_value counted
framed o p c h e =
    let n : ℕ = length p in
    let l : List ℕ = counted p in
    let o' : List ℕ = drop (n + 1) o in
    let b : begun o p ≡ l ++ o' = begins o p (omega arith) in
    let front : take (n + 1) (l ++ o') ≡ l = take_at l o' (n + 1) (sym (add-one n)) in
    let back : drop (n + 1) (l ++ o') ≡ o' = drop_at l o' (n + 1) (sym (add-one n)) in
    let two : n + 3 - (n + 1) ≡ 2 = omega arith in
    let three : n + 1 + 2 ≡ n + 3 = omega arith in
    let sum : c ≡ check_from 0 l = e ∙ rw (b, front) in
    rw (b, front, back, two, drop-drop 2 (n + 1) o, three, sum, append_assoc)
