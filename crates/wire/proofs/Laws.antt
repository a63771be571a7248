-- Laws of the check value, of frames and of whole blocks, for this crate and those above.
use Prim.Native.Nat.{ℕ, suc, ◌+◌, ◌≤◌}
use mathlib.Core.Path.{◌≡◌, refl, ap}
use mathlib.Core.Bool.{true, and-eq-true_iff}
use mathlib.Core.List.{List, [], ◌∷◌, ◌++◌}
use native.Mathlib.Omega.{arith}
use borrow.Author.Tests.{le-leb, leb-true}
use lib.ListN.{length, take, drop, length-append}
use lib.Seq.{take-append_seam}
use Rattle.wire.specs.Wire.{bits_in, check_from, check_value, low_first, counted, frame, fits, put_length, put_output, whole}

-- ---- the check value

-- carried on: that of bytes and more bytes is that of the more, from that of the first
pub check_append : (c : ℕ) (xs ys : List ℕ) → check_from c (xs ++ ys) ≡ check_from (check_from c xs) ys
unfolding check_from
check_append c [] ys = refl
check_append c (x ∷ xs) ys = check_append (bits_in 8 c x) xs ys

-- ---- frames

pub length_frame : (p : List ℕ) → length (frame p) ≡ length p + 3
unfolding frame counted
length_frame p = simp length-append (omega arith)

-- a frame determines its bytes
pub frame_same : (p q : List ℕ) → frame p ≡ frame q → p ≡ q
unfolding frame counted
frame_same p q e =
    let n : length p ≡ length q = omega (arith, length_frame p, length_frame q, ap length e) in
    let ahead : take (length (counted p)) (frame p) ≡ counted p = take-append_seam (counted p) (low_first (check_value (counted p))) in
    let behind : take (length (counted q)) (frame q) ≡ counted q = take-append_seam (counted q) (low_first (check_value (counted q))) in
    let m : length (counted p) ≡ length (counted q) = ap suc n in
    let same : counted p ≡ counted q = cc in
    ap (drop 1) same

-- no frame is empty
pub frame_some : (p : List ℕ) → [] ≡ frame p → ⊥
frame_some p e = omega (arith, length_frame p, ap length e)

-- what `put` gives for bytes that fit
pub put_fits : (out p : List ℕ) → length p ≤ 32 → 35 ≤ length out
    → (put_length out p ≡ length p + 3) × (put_output out p ≡ frame p ++ drop (length p + 3) out)
unfolding put_length put_output fits
put_fits out p h k = rw (le-leb _ _ h, le-leb _ _ k) (refl, refl)

-- ---- whole blocks

pub whole_length : (b : List ℕ) → whole b ≡ true → (7 ≤ length b) × (length b ≤ 84)
unfolding whole
whole_length b e =
    let bounds = (and-eq-true_iff _ _).0 ((and-eq-true_iff _ _).0 ((and-eq-true_iff _ _).0 e).0).0 in
    (leb-true 7 (length b) bounds.0, leb-true (length b) 84 bounds.1)
