-- A row of 32 bytes: what it is where all its bytes are there, and how a loop fills it; equal rows.
use Prim.Native.Nat.{ℕ, zero, suc, ◌+◌, ◌-◌, min, ◌≤◌, ◌<◌}
use mathlib.Core.Bool.{◌&&◌}
use mathlib.Core.Path.{◌≡◌, refl, sym, ap, ◌∙◌}
use mathlib.Core.List.{List, [], ◌∷◌, ◌++◌, append-nil}
use native.Mathlib.Omega.{arith}
use native.Mathlib.Numerals.{add-one}
use native.Mathlib.Nat.{zero-add}
use lib.ListN.{length, get_or, take, drop, set, length-take, length-drop}
use lib.Seq.{take_all, take_at, take-take, get_or-drop, paste, paste-suc}
use borrow.Author.Tests.{ltb-true, ltb-false}
use Rattle.wire.proofs.Cases.{if_all}
use Rattle.std.proofs.Common.{nat_eq}
use Rattle.std.proofs.lemmas.List.{take-replicate, drop-replicate}
use Rattle.std.specs.Cmp.Lexicographic.{pointwise}
use Rattle.rules.specs.Words.{◌is◌, ◌under◌, equal, zeros}
use Rattle.rules.proofs.Rows.{length_part}
use Rattle.rows.specs.Row.{row, fitting}

-- as many as fit: the smaller of what is asked and what is left
pub fitting_min : (len at n : ℕ) → fitting len at n ≡ min n (len - at)
unfolding fitting
fitting_min len at n =
    if_all (λ (m : ℕ). m ≡ min n (len - at)) (n under len - at) n (len - at)
    (λ e. omega (arith, ltb-true n (len - at) e))
    (λ e. omega (arith, ltb-false n (len - at) e))

-- filled up with zeros to k
filled : (k m : ℕ) (x : List ℕ) → k ≤ m → take k (x ++ zeros m) ≡ take k x ++ zeros (k - length x)
filled zero m x h = let e : 0 - length x ≡ 0 = omega arith in rw e
filled (suc k) m [] h = let e : suc k - 0 ≡ suc k = omega arith in rw e (take-replicate (suc k) m 0 h)
filled (suc k) m (b ∷ bs) h =
    let e : suc k - suc (length bs) ≡ k - length bs = omega arith in
    rw e (ap (λ (l : List ℕ). b ∷ l) (filled k m bs (omega arith)))

pub row_filled : (l : List ℕ) (at n : ℕ) → row l at n ≡ take 32 (take n (drop at l)) ++ zeros (32 - min n (length l - at))
unfolding row
row_filled l at n = rw (← length-drop at l, ← length-take n (drop at l)) (filled 32 32 (take n (drop at l)) (omega arith))

-- a row whose bytes are all there
pub row_there : (l : List ℕ) (at n : ℕ) → n ≤ 32 → at + n ≤ length l → row l at n ≡ take n (drop at l) ++ zeros (32 - n)
row_there l at n h k =
    let e : min n (length l - at) ≡ n = omega arith in
    let f : take 32 (take n (drop at l)) ≡ take n (drop at l) = take_all 32 (take n (drop at l)) (simp length-take (omega arith)) in
    row_filled l at n ∙ rw (e, f)

pub take_row : (l : List ℕ) (at n : ℕ) → n ≤ 32 → at + n ≤ length l → take n (row l at n) ≡ take n (drop at l)
take_row l at n h k = rw (row_there l at n h k) (take_at (take n (drop at l)) (zeros (32 - n)) n (length_part l at n k))

pub row_whole : (l : List ℕ) (at : ℕ) → at + 32 ≤ length l → row l at 32 ≡ take 32 (drop at l)
row_whole l at h = row_there l at 32 (omega arith) h ∙ append-nil (take 32 (drop at l))

-- 32 bytes make a row of themselves
pub row_all : (l : List ℕ) → length l ≡ 32 → row l 0 32 ≡ l
row_all l h = row_whole l 0 (omega arith) ∙ take_all 32 l (omega arith)

-- a turn of the loop that fills a row
pub row_more : (d s : List ℕ) (at i : ℕ) → i < length d → at + i < length s
    → set (paste d 0 (drop at s) i) i (get_or s (at + i) 0) ≡ paste d 0 (drop at s) (i + 1)
row_more d s at i hd hs =
    let h : i < length (drop at s) = simp length-drop (omega arith) in
    let k : 0 + i < length d = omega arith in
    rw (add-one, ← paste-suc d 0 (drop at s) i 0 k h, get_or-drop, zero-add)

-- a part of a part
take_both : (m n i : ℕ) (l : List ℕ) → i ≡ min (min n (length l)) m → take m (take n l) ≡ take i l
take_both m n i l e =
    let w : List ℕ = take m (take n l) in
    let k : length w ≤ i = simp length-take (omega arith) in
    sym (take_all i w k) ∙ take-take i m (take n l) (omega arith) ∙ take-take i n l (omega arith)

-- the end of that loop
pub row_copied : (l : List ℕ) (at n i : ℕ) → i ≡ min (min n (length l - at)) 32 → paste (zeros 32) 0 (drop at l) i ≡ row l at n
row_copied l at n i e =
    let t : take 32 (take n (drop at l)) ≡ take i (drop at l) = take_both 32 n i (drop at l) (rw length-drop e) in
    let f : 32 - min n (length l - at) ≡ 32 - i = omega arith in
    let z : drop (0 + i) (zeros 32) ≡ zeros (32 - i) = rw zero-add (drop-replicate i 32 0) in
    cc (row_filled l at n, t, f, z)

-- the rules' equality of rows is that of slices
pub equal_lists : (a b : List ℕ) → equal a b ≡ pointwise nat_eq a b
unfolding equal
equal_lists [] [] = refl
equal_lists [] (y ∷ ys) = refl
equal_lists (x ∷ xs) [] = refl
equal_lists (x ∷ xs) (y ∷ ys) = ap (λ t. x is y && t) (equal_lists xs ys)
