-- Rows of bytes: one made of two byte by byte, a part.
use Prim.Native.Nat.{ℕ, zero, suc, ◌+◌, ◌≤◌, ◌<◌}
use mathlib.Core.Path.{◌≡◌, refl, sym, ap, ◌∙◌}
use mathlib.Core.List.{List, [], ◌∷◌, zip_with}
use native.Mathlib.Nat.{not-suc-le-zero}
use native.Mathlib.Omega.{arith}
use lib.ListN.{length, get_or, take, drop, length-take, length-drop}
use denote.Param.Members.{Mut}
use Rattle.std.specs.Fn.{Called}
use Rattle.std.specs.Array.{IsFromFnResult}
use Rattle.digest.proofs.FillLaws.{made}

-- ---- a row made of two, byte by byte: by XOR, by AND

module _ (f : ℕ → ℕ → ℕ) where
  pub zip_length : (a b : List ℕ) → length a ≡ length b → length (zip_with f a b) ≡ length a
  unfolding zip_with
  zip_length [] ys h = refl
  zip_length (x ∷ xs) [] h = sym h
  zip_length (x ∷ xs) (y ∷ ys) h = ap suc (zip_length xs ys (omega (arith, h)))

  pub zip_within : (a b : List ℕ) → length (zip_with f a b) ≤ length a
  unfolding zip_with
  zip_within [] ys = omega arith
  zip_within (x ∷ xs) [] = omega arith
  zip_within (x ∷ xs) (y ∷ ys) = omega (arith, zip_within xs ys)

  pub zip_at : (a b : List ℕ) (i : ℕ) → i < length a → i < length b → get_or (zip_with f a b) i 0 ≡ f (get_or a i 0) (get_or b i 0)
  unfolding zip_with
  zip_at [] ys i ha hb = absurd (not-suc-le-zero ha)
  zip_at (x ∷ xs) [] i ha hb = absurd (not-suc-le-zero hb)
  zip_at (x ∷ xs) (y ∷ ys) zero ha hb = refl
  zip_at (x ∷ xs) (y ∷ ys) (suc i) ha hb = zip_at xs ys i (omega (arith, ha)) (omega (arith, hb))

  pub take_zip : (n : ℕ) (a b : List ℕ) → take n (zip_with f a b) ≡ zip_with f (take n a) (take n b)
  unfolding zip_with
  take_zip zero a b = refl
  take_zip (suc n) [] ys = refl
  take_zip (suc n) (x ∷ xs) [] = refl
  take_zip (suc n) (x ∷ xs) (y ∷ ys) = ap (λ (l : List ℕ). f x y ∷ l) (take_zip n xs ys)

-- a row of 32 made by `std::array::from_fn`, where a call at i gives op of the two rows' i-th bytes and leaves the closure as it is
module _ {F : Type 0} (g : Mut F (ℕ × Unit {0}) ℕ) (op : ℕ → ℕ → ℕ) (s : F) (a b : List ℕ)
    (call : (i y : ℕ) (t : F) → Called g s (i, tt) y t → (y ≡ op (get_or a i 0) (get_or b i 0)) × (t ≡ s)) where
  pub made_zip : (ys : List ℕ) → length a ≡ 32 → length b ≡ 32 → IsFromFnResult g s ys 32 → ys ≡ zip_with op a b
  made_zip ys ha hb m =
      let same : (i y : ℕ) (t : F) → Called g s (i, tt) y t → (t ≡ s) × (y ≡ op (get_or a i 0) (get_or b i 0)) =
      λ i y t c. ((call i y t c).1, (call i y t c).0) in
      made (λ (i : ℕ). op (get_or a i 0) (get_or b i 0)) same (zip_with op a b) m (zip_length op a b (omega arith) ∙ ha)
      (λ (i : ℕ) (h : i < 32). sym (zip_at op a b i (omega arith) (omega arith)))

-- ---- a part of a row

pub length_part : (l : List ℕ) (at n : ℕ) → at + n ≤ length l → length (take n (drop at l)) ≡ n
length_part l at n h = simp (length-take, length-drop) (omega arith)
