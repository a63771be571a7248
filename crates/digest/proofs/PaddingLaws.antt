-- What stands at each byte, at each word and in each block of a padded message.
use Rattle.std.proofs.Common.{◌≡◌, ℕ, zero, suc, ◌+◌, ◌-◌, ◌*◌, ◌/◌, ◌%◌, ◌^◌, ◌<◌, ◌≤◌, List, [], ◌∷◌, ◌++◌, length, get_or, drop, replicate, sym, refl, ap, ◌∙◌, subst, arith, length-append, length-drop, length-take-le, get_or-drop, get_or-take, get_or-append-add}
use lib.ListN.{length-replicate, get_or-replicate, get_or-append}
use lib.Seq.{get_or-append_seam}
use Rattle.digest.specs.Sha256.{word, zeros, count, pad, words, block}

-- the zeros are the least number that the standard's equation allows
pub zeros_fit : (n : ℕ) → (n + 1 + zeros n) % 64 ≡ 56
zeros_fit n = omega arith

pub zeros_least : (n z : ℕ) → (n + 1 + z) % 64 ≡ 56 → zeros n ≤ z
zeros_least n z e = omega arith

-- the byte at which the count of bits begins, for a message of n bytes
abbrev pub end : ℕ → ℕ
end n = (n + 8) / 64 * 64 + 56

pub end_is : (n : ℕ) → end n ≡ n + 1 + zeros n
end_is n = omega arith

-- ---- the bytes
module _ (m : List ℕ) where
  abbrev zs : List ℕ
  zs = replicate (zeros (length m)) 0

  abbrev cs : List ℕ
  cs = count (length m)

  pub length_pad : length (pad m) ≡ 64 * ((length m + 8) / 64 + 1)
  unfolding pad
  length_pad = length-append m (0x80 ∷ (zs ++ cs)) ∙ omega (arith, length-append zs cs, length-replicate {A = ℕ} (zeros (length m)) 0)

  module _ (i : ℕ) where
    pub pad_in : i < length m → get_or m i 0 ≡ get_or (pad m) i 0
    unfolding pad
    pad_in h = sym (get_or-append m (0x80 ∷ (zs ++ cs)) 0 i h)

    pub pad_one : i ≡ length m → 0x80 ≡ get_or (pad m) i 0
    unfolding pad
    pad_one e = sym (ap (λ (k : ℕ). get_or (pad m) k 0) e ∙ get_or-append_seam m 0x80 (zs ++ cs) 0)

    after : length m < i → get_or (pad m) i 0 ≡ get_or (zs ++ cs) (i - suc (length m)) 0
    unfolding pad
    after h =
        let e : i ≡ length m + suc (i - suc (length m)) = omega arith in
        ap (λ (k : ℕ). get_or (pad m) k 0) e ∙ get_or-append-add m (0x80 ∷ (zs ++ cs)) (suc (i - suc (length m))) 0

    pub pad_zero : length m < i → i < end (length m) → 0 ≡ get_or (pad m) i 0
    pad_zero h l =
        let b : i - suc (length m) < zeros (length m) = omega (arith, end_is (length m)) in
        sym (after h ∙ get_or-append zs cs 0 (i - suc (length m)) (subst (λ (k : ℕ). i - suc (length m) < k) (sym (length-replicate (zeros (length m)) 0)) b)
        ∙ get_or-replicate (zeros (length m)) (i - suc (length m)) 0 0 b)

  pub pad_count : (i k : ℕ) → i ≡ end (length m) + k → get_or cs k 0 ≡ get_or (pad m) i 0
  pad_count i k e =
      let h : length m < i = omega (arith, end_is (length m)) in
      let f : i - suc (length m) ≡ length zs + k = omega (arith, end_is (length m), length-replicate {A = ℕ} (zeros (length m)) 0) in
      sym (after i h ∙ ap (λ (j : ℕ). get_or (zs ++ cs) j 0) f ∙ get_or-append-add zs cs k 0)

-- which byte stands at each place before the count
pub ruleset bytes_by_place = (pad_in, pad_one, pad_zero, end_is)

-- ---- the words of a list
pub length_words : (l : List ℕ) → length (words l) ≡ length l / 4
unfolding words
length_words (a ∷ b ∷ c ∷ d ∷ l) = omega (arith, length_words l)
length_words (a ∷ b ∷ c ∷ []) = refl
length_words (a ∷ b ∷ []) = refl
length_words (a ∷ []) = refl
length_words [] = refl

-- the word at the byte i of a list
abbrev pub word_from : List ℕ → ℕ → ℕ
word_from l i = word (get_or l i 0) (get_or l (i + 1) 0) (get_or l (i + 2) 0) (get_or l (i + 3) 0)

past_four : (a b c d : ℕ) (l : List ℕ) (i j : ℕ) → i ≡ 4 + j → get_or (a ∷ b ∷ c ∷ d ∷ l) i 0 ≡ get_or l j 0
past_four a b c d l i j e = ap (λ (k : ℕ). get_or (a ∷ b ∷ c ∷ d ∷ l) k 0) e ∙ get_or-append-add (a ∷ b ∷ c ∷ d ∷ []) l j 0

words_at : (l : List ℕ) (j : ℕ) → 4 * j + 3 < length l → get_or (words l) j 0 ≡ word_from l (4 * j)
unfolding words
words_at (a ∷ b ∷ c ∷ d ∷ l) zero h = refl
words_at (a ∷ b ∷ c ∷ d ∷ l) (suc j) h =
    let e = words_at l j (omega arith) in
    let e₀ = past_four a b c d l (4 * suc j) (4 * j) (omega arith) in
    let e₁ = past_four a b c d l (4 * suc j + 1) (4 * j + 1) (omega arith) in
    let e₂ = past_four a b c d l (4 * suc j + 2) (4 * j + 2) (omega arith) in
    let e₃ = past_four a b c d l (4 * suc j + 3) (4 * j + 3) (omega arith) in
    cc
words_at (a ∷ b ∷ c ∷ []) j h = omega arith
words_at (a ∷ b ∷ []) j h = omega arith
words_at (a ∷ []) j h = omega arith
words_at [] j h = refl

-- the word of a number's four bytes is the number modulo 2 ^ 32
word_bytes : (x : ℕ) → word (x / 2 ^ 24 % 256) (x / 2 ^ 16 % 256) (x / 2 ^ 8 % 256) (x % 256) ≡ x % 2 ^ 32
word_bytes x =
    let a = two x in
    let b = three x in
    let c = four x in
    omega arith
  where
    two : (x : ℕ) → x / 2 ^ 8 % 256 * 2 ^ 8 + x % 256 ≡ x % 2 ^ 16
    two x = omega arith

    three : (x : ℕ) → x / 2 ^ 16 % 256 * 2 ^ 16 + x % 2 ^ 16 ≡ x % 2 ^ 24
    three x = omega arith

    four : (x : ℕ) → x / 2 ^ 24 % 256 * 2 ^ 24 + x % 2 ^ 24 ≡ x % 2 ^ 32
    four x = omega arith

-- ---- the words of a padded message
module _ (m : List ℕ) (j : ℕ) (h : j < 16 * ((length m + 8) / 64 + 1)) where
  at_word : get_or (words (pad m)) j 0 ≡ word_from (pad m) (4 * j)
  at_word = words_at (pad m) j (omega (arith, length_pad m))

  module _ {a b c d r : ℕ} where
    pub word_law : a ≡ get_or (pad m) (4 * j) 0 → b ≡ get_or (pad m) (4 * j + 1) 0 → c ≡ get_or (pad m) (4 * j + 2) 0 → d ≡ get_or (pad m) (4 * j + 3) 0
        → r ≡ word a b c d → r ≡ get_or (words (pad m)) j 0
    word_law e₀ e₁ e₂ e₃ e = let w = at_word in cc

  pub word_in : {r : ℕ} → 4 * j + 3 < length m → r ≡ word_from m (4 * j) → r ≡ get_or (words (pad m)) j 0
  word_in l e =
      let at = pad_in m in
      word_law (at (4 * j) (omega arith)) (at (4 * j + 1) (omega arith)) (at (4 * j + 2) (omega arith)) (at (4 * j + 3) l) e

  pub word_zero : length m < 4 * j → 4 * j < end (length m) → 0 ≡ get_or (words (pad m)) j 0
  word_zero l u =
      let at = pad_zero m in
      word_law (at (4 * j) l u) (at (4 * j + 1) (omega arith) (omega arith)) (at (4 * j + 2) (omega arith) (omega arith)) (at (4 * j + 3) (omega arith) (omega arith)) refl

  pub word_high : 4 * j ≡ end (length m) → length m / 2 ^ 29 % 2 ^ 32 ≡ get_or (words (pad m)) j 0
  word_high e =
      let at = pad_count m in
      let q : length m / 2 ^ 29 ≡ 8 * length m / 2 ^ 32 = omega arith in
      word_law (at (4 * j) 0 (omega arith)) (at (4 * j + 1) 1 (omega arith)) (at (4 * j + 2) 2 (omega arith)) (at (4 * j + 3) 3 (omega arith))
      (ap (λ (x : ℕ). x % 2 ^ 32) q ∙ sym (word_bytes (8 * length m / 2 ^ 32)))

  pub word_low : end (length m) < 4 * j → length m % 2 ^ 29 * 8 ≡ get_or (words (pad m)) j 0
  word_low l =
      let at = pad_count m in
      let q : length m % 2 ^ 29 * 8 ≡ 8 * length m % 2 ^ 32 = omega arith in
      word_law (at (4 * j) 4 (omega arith)) (at (4 * j + 1) 5 (omega arith)) (at (4 * j + 2) 6 (omega arith)) (at (4 * j + 3) 7 (omega arith))
      (q ∙ sym (word_bytes (8 * length m)))

-- which word stands at each place
pub ruleset words_by_place = (word_in, word_law, word_zero, word_high, word_low)

-- ---- the blocks of a padded message
module _ (m : List ℕ) (i : ℕ) (h : i < (length m + 8) / 64 + 1) where
  pub block_long : length (block (words (pad m)) i) ≡ 16
  block_long =
      let ws = words (pad m) in
      length-take-le 16 (drop (16 * i) ws) (omega (arith, length-drop (16 * i) ws, length_words (pad m), length_pad m))

  pub block_at : (j : ℕ) → j < 16 → get_or (block (words (pad m)) i) j 0 ≡ get_or (words (pad m)) (16 * i + j) 0
  block_at j l = get_or-take 16 (drop (16 * i) (words (pad m))) j 0 l ∙ get_or-drop (16 * i) (words (pad m)) j 0
