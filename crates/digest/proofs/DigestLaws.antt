-- From one block to the digest: the value after one more block, and after all; how long a digest is.
use Rattle.std.proofs.Common.{◌≡◌, ℕ, suc, ◌+◌, ◌/◌, List, length, refl, ap, ◌∙◌, add-one, arith}
use Rattle.digest.specs.declared.Words.{Words}
use Rattle.digest.specs.Sha256.{pad, words, block, compress, hash, output, sha256}
use Rattle.digest.proofs.PaddingLaws.{length_pad, length_words}

module _ (ws : List ℕ) (i : ℕ) {b : List ℕ} {v v' : Words} where
  pub hash_more : b ≡ block ws i → v' ≡ compress v b → v ≡ hash i ws → v' ≡ hash (i + 1) ws
  unfolding hash
  hash_more e₁ e₂ e₃ =
      let n : hash (i + 1) ws ≡ hash (suc i) ws = ap (λ (k : ℕ). hash k ws) (add-one i) in
      cc

module _ (m : List ℕ) (i : ℕ) {v : Words} {r : List ℕ} where
  pub hash_done : i ≡ (length m + 8) / 64 + 1 → v ≡ hash i (words (pad m)) → r ≡ output v → r ≡ sha256 m
  unfolding sha256
  hash_done e p q =
      let n : i ≡ length (words (pad m)) / 16 = omega (arith, length_words (pad m), length_pad m) in
      q ∙ ap output (p ∙ ap (λ (k : ℕ). hash k (words (pad m))) n)

-- a digest has 32 bytes
pub length_sha256 : (m : List ℕ) → length (sha256 m) ≡ 32
unfolding sha256
length_sha256 m = refl
