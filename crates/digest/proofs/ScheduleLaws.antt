-- The schedule, a word at a time.
use Rattle.std.proofs.Common.{◌≡◌, ℕ, suc, ◌+◌, ◌-◌, ◌<◌, ◌≤◌, List, [], ◌∷◌, ◌++◌, length, take, set, sym, ap, ◌∙◌, ap₂, add-one, arith, take_all, get_or-take}
use Rattle.digest.specs.Sha256.{next, with_next, schedule_to, schedule}
use Rattle.digest.proofs.FillLaws.{take_set}

-- the word t of the schedule is made of the words before it
next_take : (w : List ℕ) (t : ℕ) → 16 ≤ t → next (take t w) t ≡ next w t
unfolding next
next_take w t h =
    let a = get_or-take t w (t - 2) 0 (omega arith) in
    let b = get_or-take t w (t - 7) 0 (omega arith) in
    let c = get_or-take t w (t - 15) 0 (omega arith) in
    let d = get_or-take t w (t - 16) 0 (omega arith) in
    cc

-- w holds the schedule of b up to t, then with one word more, then whole
module _ (w b : List ℕ) (t : ℕ) where
  pub schedule_more : {x : ℕ} → 16 ≤ t → t < length w → x ≡ next w t → take t w ≡ schedule_to (t - 16) b → take (t + 1) (set w t x) ≡ schedule_to (t + 1 - 16) b
  unfolding schedule_to
  schedule_more {x} h l e p =
      let n : t + 1 - 16 ≡ suc (t - 16) = omega arith in
      let f : t ≡ 16 + (t - 16) = omega arith in
      take_set w t (t + 1) x (add-one t) l ∙ ap (λ (y : ℕ). take t w ++ (y ∷ [])) (e ∙ sym (next_take w t h))
      ∙ ap₂ with_next p f ∙ ap (λ (k : ℕ). schedule_to k b) (sym n)

  pub schedule_done : t ≡ 64 → length w ≡ 64 → take t w ≡ schedule_to (t - 16) b → w ≡ schedule b
  schedule_done e h p = sym (take_all t w (omega arith)) ∙ p ∙ ap (λ (k : ℕ). schedule_to (k - 16) b) e
