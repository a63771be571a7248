-- The rounds in parts: eight in a row, and those on what is left of two lists.
use Rattle.std.proofs.Common.{◌≡◌, ℕ, suc, ◌<◌, List, [], ◌∷◌, ◌++◌, length, get_or, drop, refl, ap, ap₂, arith, drop_of_length-le, drop-cons}
use Rattle.digest.specs.declared.Words.{Words}
use Rattle.digest.specs.Sha256.{round, rounds}

-- rounds over two lists each, one behind the other
rounds_append : (k k' w w' : List ℕ) (s : Words) → length k ≡ length w → rounds (k ++ k') (w ++ w') s ≡ rounds k' w' (rounds k w s)
unfolding rounds
rounds_append (a ∷ k) k' (b ∷ w) w' s h = rounds_append k k' w w' (round s a b) (omega arith)
rounds_append (a ∷ k) k' [] w' s h = absurd (omega arith)
rounds_append [] k' (b ∷ w) w' s h = absurd (omega arith)
rounds_append [] k' [] w' s h = refl

-- the rounds from t on are the round t and those behind it
module _ (k w : List ℕ) (t : ℕ) (s : Words) where
  round_more : t < length k → t < length w → rounds (drop t k) (drop t w) s ≡ rounds (drop (suc t) k) (drop (suc t) w) (round s (get_or k t 0) (get_or w t 0))
  unfolding rounds
  round_more hk hw = ap₂ (λ (x y : List ℕ). rounds x y s) (drop-cons k t 0 hk) (drop-cons w t 0 hw)

-- eight rounds, one after the other
module _ (k w : List ℕ) (s : Words) {s₀ s₁ s₂ s₃ s₄ s₅ s₆ s₇ : Words} where
  pub eight_law : length k ≡ 8 → length w ≡ 8
      → s₀ ≡ round s (get_or k 0 0) (get_or w 0 0) → s₁ ≡ round s₀ (get_or k 1 0) (get_or w 1 0)
      → s₂ ≡ round s₁ (get_or k 2 0) (get_or w 2 0) → s₃ ≡ round s₂ (get_or k 3 0) (get_or w 3 0)
      → s₄ ≡ round s₃ (get_or k 4 0) (get_or w 4 0) → s₅ ≡ round s₄ (get_or k 5 0) (get_or w 5 0)
      → s₆ ≡ round s₅ (get_or k 6 0) (get_or w 6 0) → s₇ ≡ round s₆ (get_or k 7 0) (get_or w 7 0)
      → s₇ ≡ rounds k w s
  unfolding rounds
  eight_law hk hw e₀ e₁ e₂ e₃ e₄ e₅ e₆ e₇ =
      let r₀ = round_more k w 0 s (omega arith) (omega arith) in
      let r₁ = round_more k w 1 s₀ (omega arith) (omega arith) in
      let r₂ = round_more k w 2 s₁ (omega arith) (omega arith) in
      let r₃ = round_more k w 3 s₂ (omega arith) (omega arith) in
      let r₄ = round_more k w 4 s₃ (omega arith) (omega arith) in
      let r₅ = round_more k w 5 s₄ (omega arith) (omega arith) in
      let r₆ = round_more k w 6 s₅ (omega arith) (omega arith) in
      let r₇ = round_more k w 7 s₆ (omega arith) (omega arith) in
      let none : drop 8 k ≡ [] = drop_of_length-le k {i = 8} (omega arith) in
      let last : rounds (drop 8 k) (drop 8 w) s₇ ≡ s₇ = ap (λ (l : List ℕ). rounds l (drop 8 w) s₇) none in
      cc

-- the rounds on two lists are those on what is taken off the front of each, and then those on what is left
module _ (k k' w w' : List ℕ) (s : Words) {ks ws : List ℕ} {s' last : Words} where
  pub rounds_next : ks ≡ k ++ k' → ws ≡ w ++ w' → length k ≡ length w → s' ≡ rounds k w s → rounds ks ws s ≡ last → rounds k' w' s' ≡ last
  rounds_next e f h r p = let a = rounds_append k k' w w' s h in cc

-- on no constants there is no round
pub rounds_none : (k w : List ℕ) (s : Words) {last : Words} → length k ≡ 0 → rounds k w s ≡ last → s ≡ last
unfolding rounds
rounds_none [] w s h p = p
rounds_none (a ∷ k) w s h p = absurd (omega arith)
