-- The ones of a row of bytes as a sum, and its first byte that is not zero as a position.
use Prim.Native.Nat.{ℕ, zero, suc, ◌+◌, ◌≤◌, ◌<◌}
use mathlib.Core.Path.{◌≡◌, refl, sym, ap, ◌∙◌}
use mathlib.Core.Bool.{Bool, true, false, not, cond}
use mathlib.Core.List.{List, [], ◌∷◌}
use native.Mathlib.Omega.{arith}
use native.Mathlib.Numerals.{add-one}
use borrow.Author.Tests.{ltb-false}
use Rattle.std.specs.Prelude.{Some, None, if◌then◌else◌}
use lib.Dec.{eqb, ltb}
use lib.ListN.{length, get_or, take, drop}
use lib.Count.{ones}
use lib.Seq.{drop-cons}
use Rattle.std.specs.List.{sum_by, position, position_or_len}
use Rattle.std.specs.Option.{unwrap_or}
use Rattle.std.proofs.lemmas.List.Sums.{sum_by-cons, prefix_len-le-length}
use Rattle.rules.proofs.Rows.{length_part}
use Rattle.rules.specs.Uses.{ones_of, first_nonzero}

pub ones_summed : (l : List ℕ) → ones_of l ≡ sum_by ones l
unfolding ones_of
ones_summed [] = refl
ones_summed (b ∷ bs) = ap (λ n. ones b + n) (ones_summed bs) ∙ sym (sum_by-cons ones b bs)

first_case : (t : Bool) (at rest more : ℕ) → rest ≡ at + 1 + more → (if t then rest else at) ≡ at + cond (not (not t)) (1 + more) 0
first_case true at rest more h = omega arith
first_case false at rest more h = omega arith

first_at : (l : List ℕ) (at n : ℕ) → at + n ≤ length l
    → first_nonzero l at n ≡ at + position_or_len (λ x. not (eqb x 0)) (take n (drop at l))
unfolding first_nonzero
first_at l at zero h = omega arith
first_at l at (suc n) h =
    let k : at < length l = omega arith in
    let m = first_at l (at + 1) n (omega arith) in
    rw (drop-cons l at 0 k, ← add-one at) (first_case (eqb (get_or l at 0) 0) at (first_nonzero l (at + 1) n) _ m)

there : (t : Bool) (m n : ℕ) → (t ≡ false → m ≡ n) → unwrap_or (cond t (Some m) None) n ≡ m
there true m n h = refl
there false m n h = sym (h refl)

-- the first of n bytes that is not zero, or the byte after them, lies as far on as its position among them
pub first_placed : (l : List ℕ) (at n : ℕ) → at + n ≤ length l
    → at + unwrap_or (position (λ x. not (eqb x 0)) (take n (drop at l))) n ≡ first_nonzero l at n
first_placed l at n h =
    let p : List ℕ = take n (drop at l) in
    let m : ℕ = position_or_len (λ x. not (eqb x 0)) p in
    let e : length p ≡ n = length_part l at n h in
    let w : m ≤ length p = prefix_len-le-length _ p in
    let q = there (ltb m n) m n (λ f. omega (arith, ltb-false m n f)) in
    rw e (rw q (sym (first_at l at n h)))
