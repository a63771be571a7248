-- Bytes that are alike but for a slot hold tokens that are, and the bytes of such tokens are.
use Prim.Native.Nat.{ℕ, ◌+◌, ◌-◌, ◌*◌, ◌/◌, ◌≤◌, ◌<◌}
use mathlib.Core.Path.{◌≡◌, refl, sym, ap, subst, ◌∙◌}
use mathlib.Core.Bool.{Bool, true, false}
use mathlib.Core.Logic.{◌⊎◌, inl, inr, ⊎_elim}
use mathlib.Core.List.{List, ◌++◌, append_assoc}
use native.Mathlib.Omega.{arith}
use borrow.Author.Tests.{ltb-true, ltb-false, ne_eqb}
use lib.ListN.{length, take, drop, length-append, get_or-append, get_or-eq_default}
use lib.Seq.{ext_get_or, get_or-take, get_or-drop, get_or-append-add}
use Rattle.rules.specs.declared.Slot.{Slot}
use Rattle.rules.specs.Words.{◌under◌, byte, bytes}
use Rattle.rules.specs.State.{index}
use Rattle.rules.proofs.Rows.{length_part}
use Rattle.token.specs.declared.Token.{Token}
use Rattle.desk.specs.Desk.{loaded, temp_key_in, last_six, saved}
use Rattle.desk.proofs.Laid.{state_length}
use Rattle.demands.specs.Demand3 as tokens
use Rattle.demands.specs.WellFormed.{WellFormed}
use Rattle.demands.proofs.SameCalls.{twin, alike_twin}
use Rattle.desk_demands.specs.Demand3.{Alike, Kept}

-- a position outside a slot's bytes
abbrev Outside : Slot → ℕ → Type 0
Outside k i = (i < 152 + 32 * index k) ⊎ (184 + 32 * index k ≤ i)

-- a position, below another or not
below : (i n : ℕ) → (i < n) ⊎ (n ≤ i)
below i n = go (i under n) refl where
  go : (t : Bool) → (i under n) ≡ t → (i < n) ⊎ (n ≤ i)
  go true e = inl (ltb-true i n e)
  go false e = inr (ltb-false i n e)

-- ---- from bytes to tokens

module _ (k : Slot) (s t : List ℕ) (a : Alike k s t) where
  part_alike : (at n : ℕ) → at + n ≤ 702 → ((i : ℕ) → i < n → Outside k (at + i)) → take n (drop at s) ≡ take n (drop at t)
  part_alike at n l out =
      let ls = length_part s at n (omega (arith, state_length s a.first)) in
      let lt = length_part t at n (omega (arith, state_length t a.second)) in
      ext_get_or 0 (take n (drop at s)) (take n (drop at t)) (ls ∙ sym lt)
      (λ i h. let j : i < n = omega (arith, ls) in
      rw (get_or-take n (drop at s) i 0 j, get_or-take n (drop at t) i 0 j, get_or-drop at s i 0, get_or-drop at t i 0)
      (a.elsewhere (at + i) (out i j)))

  temp_key_alike : temp_key_in s ≡ temp_key_in t
  unfolding temp_key_in
  temp_key_alike =
      let p : bytes 664 695 s ≡ bytes 664 695 t = part_alike 664 32 (omega arith) (λ i h. inr (omega arith)) in
      let b0 : byte 696 s ≡ byte 696 t = a.elsewhere 696 (inr (omega arith)) in
      let b1 : byte 697 s ≡ byte 697 t = a.elsewhere 697 (inr (omega arith)) in
      let b2 : byte 698 s ≡ byte 698 t = a.elsewhere 698 (inr (omega arith)) in
      let b3 : byte 699 s ≡ byte 699 t = a.elsewhere 699 (inr (omega arith)) in
      let b4 : byte 700 s ≡ byte 700 t = a.elsewhere 700 (inr (omega arith)) in
      rw (p, b0, b1, b2, b3, b4)

  data_alike : (i : ℕ) → (i / 32 ≡ index k → ⊥) → byte i (bytes 152 663 s) ≡ byte i (bytes 152 663 t)
  data_alike i out = ⊎_elim inside beyond (below i 512) where
    apart : Outside k (152 + i)
    apart = ⊎_elim (λ l. inl (omega arith)) (λ l. inr (omega arith)) (below i (32 * index k))

    inside : i < 512 → byte i (bytes 152 663 s) ≡ byte i (bytes 152 663 t)
    inside l =
        rw (get_or-take 512 (drop 152 s) i 0 l, get_or-take 512 (drop 152 t) i 0 l, get_or-drop 152 s i 0, get_or-drop 152 t i 0)
        (a.elsewhere (152 + i) apart)

    beyond : 512 ≤ i → byte i (bytes 152 663 s) ≡ byte i (bytes 152 663 t)
    beyond l =
        get_or-eq_default (bytes 152 663 s) 0 (omega (arith, length_part s 152 512 (omega (arith, state_length s a.first))))
        ∙ sym (get_or-eq_default (bytes 152 663 t) 0 (omega (arith, length_part t 152 512 (omega (arith, state_length t a.second)))))

  pub tokens_alike : tokens.Alike k (loaded s) (loaded t)
  unfolding loaded
  tokens_alike = record {
    config = part_alike 0 88 (omega arith) (λ i h. inl (omega arith));
    otp = part_alike 88 64 (omega arith) (λ i h. inl (omega arith));
    tempKey = temp_key_alike;
    power = let p : byte 701 s ≡ byte 701 t = a.elsewhere 701 (inr (omega arith)) in rw p;
    data_length =
        length_part s 152 512 (omega (arith, state_length s a.first))
        ∙ sym (length_part t 152 512 (omega (arith, state_length t a.second)));
    elsewhere = data_alike;
  }

pub tokens_kept : (k : Slot) (s : List ℕ) → Kept k s → tokens.Kept k (loaded s)
unfolding loaded
tokens_kept k s w = record {
  locked = rw (get_or-take 88 s 87 0 (omega arith), get_or-take 88 s 86 0 (omega arith), ne_eqb _ _ w.config, ne_eqb _ _ w.values);
  secret = w.secret;
  never_read = w.never_read;
}

-- ---- from tokens to bytes

-- a part put for another of its length: the bytes beside it stay
around : (p x y q : List ℕ) (i : ℕ) → length x ≡ length y → ((j : ℕ) → i ≡ length p + j → byte j x ≡ byte j y)
    → byte i (p ++ (x ++ q)) ≡ byte i (p ++ (y ++ q))
around p x y q i l e = ⊎_elim before after (below i (length p)) where
  before : i < length p → byte i (p ++ (x ++ q)) ≡ byte i (p ++ (y ++ q))
  before h = get_or-append p (x ++ q) 0 i h ∙ sym (get_or-append p (y ++ q) 0 i h)

  behind : (j : ℕ) → i ≡ length p + j → byte j (x ++ q) ≡ byte j (y ++ q)
  behind j f = ⊎_elim inside beyond (below j (length x)) where
    inside : j < length x → byte j (x ++ q) ≡ byte j (y ++ q)
    inside h = get_or-append x q 0 j h ∙ e j f ∙ sym (get_or-append y q 0 j (rw l at h))

    beyond : length x ≤ j → byte j (x ++ q) ≡ byte j (y ++ q)
    beyond h =
        let n : ℕ = j - length x in
        let u : j ≡ length x + n = omega arith in
        let v : j ≡ length y + n = omega arith in
        subst (λ (m : ℕ). byte m (x ++ q) ≡ byte n q) (sym u) (get_or-append-add x q n 0)
        ∙ sym (subst (λ (m : ℕ). byte m (y ++ q) ≡ byte n q) (sym v) (get_or-append-add y q n 0))

  after : length p ≤ i → byte i (p ++ (x ++ q)) ≡ byte i (p ++ (y ++ q))
  after h =
      let j : ℕ = i - length p in
      let u : i ≡ length p + j = omega arith in
      subst (λ (m : ℕ). byte m (p ++ (x ++ q)) ≡ byte m (p ++ (y ++ q))) (sym u)
      (get_or-append-add p (x ++ q) j 0 ∙ behind j u ∙ sym (get_or-append-add p (y ++ q) j 0))

module _ (k : Slot) (u v : Token) (w : WellFormed u) (a : tokens.Alike k u v) where
  beside : (i j : ℕ) → Outside k i → i ≡ 152 + j → byte j u.device.«data» ≡ byte j v.device.«data»
  beside i j out e = a.elsewhere j (λ d. ⊎_elim (λ o. omega arith) (λ o. omega arith) out)

  twin_bytes : (i : ℕ) → Outside k i → byte i (saved u) ≡ byte i (saved (twin v.device.«data» u))
  unfolding saved
  twin_bytes i out =
      let p : List ℕ = u.device.config ++ u.device.otp in
      let l : length p ≡ 152 = rw (length-append u.device.config u.device.otp, w.config, w.otp) in
      let key = u.device.tempKey.bytes in
      let six = last_six u.device.tempKey u.power in
      let x = u.device.«data» in
      let y = v.device.«data» in
      let ex : p ++ x ++ key ++ six ≡ p ++ (x ++ (key ++ six)) = simp append_assoc in
      let ey : p ++ y ++ key ++ six ≡ p ++ (y ++ (key ++ six)) = simp append_assoc in
      rw (ex, ey) (around p x y (key ++ six) i a.data_length (λ j e. beside i j out (e ∙ ap (λ (n : ℕ). n + j) l)))

  pub bytes_alike : (i : ℕ) → Outside k i → byte i (saved u) ≡ byte i (saved v)
  bytes_alike i out = subst (λ (t : Token). byte i (saved u) ≡ byte i (saved t)) (alike_twin k u v a) (twin_bytes i out)
