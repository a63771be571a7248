-- Lists that are filled from the front, by stores or by the calls of a closure.
use denote.Param.Members.{Mut, Called}
use Rattle.std.specs.Array.{IsFromFnResult, IsFromFnResultFrom}
use Rattle.std.proofs.lemmas.Grind.{same_number_lists}
use Rattle.std.proofs.Common.{zero-add, ◌≡◌, ℕ, zero, suc, ◌+◌, ◌<◌, List, [], ◌∷◌, ◌++◌, length, get_or, take, set, sym, ap, ◌∙◌, ap₂, add-one, arith, take_all, take-suc, take-suc-set}

-- a store at i, seen in the first n, which is i + 1
pub take_set : (l : List ℕ) (i n x : ℕ) → n ≡ suc i → i < length l → take n (set l i x) ≡ take i l ++ (x ∷ [])
take_set l i n x e h = ap (λ (k : ℕ). take k (set l i x)) e ∙ take-suc-set l i x h

-- b agrees with l on the first i elements, and then on one more
pub take_more : (l b : List ℕ) (i : ℕ) {x : ℕ} → i < length l → i < length b → x ≡ get_or l i 0 → take i b ≡ take i l → take (i + 1) (set b i x) ≡ take (i + 1) l
take_more l b i {x} hl hb e p =
    take_set b i (i + 1) x (add-one i) hb ∙ ap₂ (λ (u : List ℕ) (y : ℕ). u ++ (y ∷ [])) p e ∙ sym (ap (λ (n : ℕ). take n l) (add-one i) ∙ take-suc l i 0 hl)

-- b agrees with all of l
pub take_done : (l b : List ℕ) (i n : ℕ) → i ≡ n → length l ≡ n → take i b ≡ take i l → take n b ≡ l
take_done l b i n e h p = ap (λ (k : ℕ). take k b) (sym e) ∙ p ∙ take_all i l (omega arith)

-- what `std::array::from_fn` makes of a closure that stays as it is, and gives f i at i
module _ {F : Type 0} {g : Mut F (ℕ × Unit {0}) ℕ} {s : F}
    (f : ℕ → ℕ) (same : (i y : ℕ) (q : F) → Called g s (i, tt) y q → (q ≡ s) × (y ≡ f i)) where
  made_from : (ys : List ℕ) (i n k j : ℕ) → IsFromFnResultFrom g s ys i n → k < n → i + k ≡ j → get_or ys j 0 ≡ f j
  made_from ys i zero k j _ h e = absurd (omega arith)
  made_from ys i (suc n) zero j (q, y, at, called, rest) h e =
      let l : i ≡ j = omega arith in
      ap (λ (x : ℕ). get_or ys x 0) (sym l) ∙ at.1 0 ∙ (same i y q called).1 ∙ ap f l
  made_from ys i (suc n) (suc k) j (q, y, at, called, rest) h e =
      let left : IsFromFnResultFrom g s ys (i + 1) n = rw (same i y q called).0 at rest in
      made_from ys (i + 1) n k j left (omega arith) (omega arith)

  pub made : {ys : List ℕ} {n : ℕ} (l : List ℕ) → IsFromFnResult g s ys n → length l ≡ n → ((i : ℕ) → i < n → f i ≡ get_or l i 0) → ys ≡ l
  made {ys} {n} l r h e =
      same_number_lists ys l (r.long ∙ sym h) (λ k b. at k (rw r.long at b))
    where
      at : (k : ℕ) → k < n → get_or ys k 0 ≡ get_or l k 0
      at k h = made_from ys 0 n k k r.each h (zero-add k) ∙ e k h
