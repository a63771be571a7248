-- What is stored turn by turn and part by part is the line, stored at once; and so from a position on.
use Prim.Native.Nat.{ℕ, suc, ◌+◌, ◌-◌, ◌*◌, ◌/◌, ◌%◌, ◌≤◌, ◌<◌, min}
use mathlib.Core.Path.{◌≡◌, refl, sym, ◌∙◌}
use mathlib.Core.Bool.{Bool, true, false}
use mathlib.Core.List.{List, [], ◌∷◌, ◌++◌, append-nil}
use native.Mathlib.Nat.{zero-add, add-zero, add-suc, suc-add, mul-suc}
use native.Mathlib.Numerals.{add-one, add-two}
use native.Mathlib.Omega.{arith}
use borrow.Author.Tests.{le-leb, lt-leb, leb-true, leb-false}
use lib.ListN.{length, take, drop, set, length-append, length-drop}
use lib.Seq.{sets, length-sets, drop-cons, sets-eq}
use Rattle.std.proofs.lemmas.List.{drop-drop, drop_all, take_all, take-append-drop, append_assoc}
use borrow.Rule.Slice.PartMut.{put_mid}
use Rattle.rules.specs.Words.{◌up_to◌, byte}
use Rattle.records.specs.Records.{hex_digit, hex, put_length, put_output}

-- a turn: the digits of the byte at i are stored, and those after it are left
pub hex_turn : (o s : List ℕ) (to i : ℕ) → i < length s
    → sets o to (hex (drop i s)) ≡ sets (set (set o to (hex_digit (byte i s / 16))) (to + 1) (hex_digit (byte i s % 16))) (to + 2) (hex (drop (i + 1) s))
unfolding hex
hex_turn o s to i h = rw (add-one to, add-two to, add-one i, drop-cons s i 0 h)

pub length_hex : (s : List ℕ) → length (hex s) ≡ 2 * length s
unfolding hex
length_hex [] = refl
length_hex (b ∷ bs) = rw (length_hex bs, mul-suc 2 (length bs), add-two (2 * length bs))

-- two parts, one after the other
pub sets_append : (a b o : List ℕ) (at : ℕ) → sets (sets o at a) (at + length a) b ≡ sets o at (a ++ b)
sets_append [] b o at = rw add-zero
sets_append (x ∷ a) b o at = rw (add-suc at (length a), ← suc-add at (length a)) (sets_append a b (set o at x) (suc at))

pub whole_hex : (o s : List ℕ) → length o ≡ 2 * length s → sets o 0 (hex s) ≡ hex s
whole_hex o s h =
    let n : length (hex s) ≡ length o = rw (length_hex s, h) in
    rw (sets-eq (hex s) o 0 (omega arith), drop_all (0 + length (hex s)) o (omega arith)) (append-nil (hex s))

-- what two writes leave, one after the other, and a line feed after them
fronted : (o a : List ℕ) → length a ≤ length o → a ++ drop (length a) o ≡ sets o 0 a
fronted o a h = rw (sets-eq a o 0 (omega arith), zero-add)

written : (o a : List ℕ) (at end : ℕ) → end ≡ at + length a → end ≤ length o → put_mid at (end - at) o a ≡ sets o at a
written o a at end q h =
    let n : end - at ≡ length a = omega arith in
    rw (n, drop-drop, sets-eq a o at (omega arith), append_assoc)

pub both_written : (o a b : List ℕ) {ya yb : List ℕ} {end : ℕ} → ya ≡ a → yb ≡ b → end ≡ length a + length b → end ≤ length o
    → put_mid (length a) (end - length a) (ya ++ drop (length a) o) yb ≡ sets o 0 (a ++ b)
both_written o a b {end = end} p q r h =
    let room : end ≤ length (sets o 0 a) = rw (length-sets o 0 a) h in
    rw (p, q, fronted o a (omega arith), written (sets o 0 a) b (length a) end r room, ← zero-add (length a)) (sets_append a b o 0)

pub ended : (o a b : List ℕ) {out : List ℕ} {end : ℕ} → out ≡ sets o 0 (a ++ b) → end ≡ length a + length b
    → set out end 10 ≡ sets o 0 (a ++ (b ++ (10 ∷ [])))
ended o a b {out} {end} p q =
    let n : end ≡ 0 + length (a ++ b) = simp length-append (omega arith) in
    rw (p, n, ← append_assoc) (sets_append (a ++ b) (10 ∷ []) o 0)

-- what is told of a line that is put, or is not
abbrev pub IsPut : List ℕ → ℕ → List ℕ → ℕ → List ℕ → Type 0
IsPut o at l n last = record { value : n ≡ put_length o at l; out_after : last ≡ put_output o at l }

-- a line that does not fit, and one that does
pub not_put : (o : List ℕ) (at : ℕ) (l : List ℕ) → length o < at + length l → IsPut o at l 0 o
unfolding put_length put_output
not_put o at l h = rw (lt-leb (at + length l) (length o) h) (record { value = refl; out_after = refl })

pub put : (o : List ℕ) (at : ℕ) (l : List ℕ) {n : ℕ} {last : List ℕ} → at + length l ≤ length o → n ≡ length l → last ≡ sets o at l
    → IsPut o at l n last
unfolding put_length put_output
put o at l h p q = rw (p, q, le-leb (at + length l) (length o) h) (record { value = refl; out_after = refl })

-- a line is put in an output from a position on as it is put at the front of the room there
nothing_put : (r l : List ℕ) (n : ℕ) → length r ≡ n → (0 < length l → n < length l) → IsPut r 0 l 0 r
nothing_put r [] n e h = put r 0 [] (omega arith) refl refl
nothing_put r (x ∷ l) n e h = not_put r 0 (x ∷ l) (omega (arith, h (omega arith)))

module _ (o : List ℕ) (at : ℕ) (l : List ℕ) {n : ℕ} {last : List ℕ} where
  put_at : at + length l ≤ length o → IsPut (drop at o) 0 l n last → IsPut o at l n (put_mid at (length o - at) o last)
  put_at h g =
      let room : length (drop at o) ≡ length o - at = length-drop at o in
      let k = put (drop at o) 0 l (omega arith) refl refl in
      let f = fronted (drop at o) l (omega arith) in
      let e : last ≡ l ++ drop (length l) (drop at o) = (g.out_after ∙ sym k.out_after) ∙ sym f in
      let none = drop_all (length o - at) (drop at o) (omega arith) in
      put o at l h (g.value ∙ sym k.value) (rw (e, sets-eq l o at h, drop-drop, none, append-nil, append_assoc))

  put_none : (from : ℕ) → from ≡ min at (length o) → length o < at + length l → IsPut (drop from o) 0 l n last
      → IsPut o at l n (put_mid from (length o - from) o last)
  put_none from p h g =
      let room : length (drop from o) ≡ length o - from = length-drop from o in
      let k = nothing_put (drop from o) l (length o - from) room (λ (some : 0 < length l). omega arith) in
      let e : last ≡ drop from o = g.out_after ∙ sym k.out_after in
      let none = drop_all (length o - from) (drop from o) (omega arith) in
      rw (g.value ∙ sym k.value, e, none, append-nil, take-append-drop) (not_put o at l h)

  either : (t : Bool) (from : ℕ) → (at + length l up_to length o) ≡ t → from ≡ min at (length o) → IsPut (drop from o) 0 l n last
      → IsPut o at l n (put_mid from (length o - from) o last)
  either true from q p g =
      let h = leb-true (at + length l) (length o) q in
      let e : from ≡ at = omega arith in
      rw e (put_at h (rw e at g))
  either false from q p g = put_none from p (leb-false (at + length l) (length o) q) g

  pub put_in : {from : ℕ} → from ≡ min at (length o) → IsPut (take (length o - from) (drop from o)) 0 l n last
      → IsPut o at l n (put_mid from (length o - from) o last)
  put_in {from} p g =
      let e = take_all (length o - from) (drop from o) (simp length-drop (omega arith)) in
      either (at + length l up_to length o) from refl p (rw e at g)

-- what is stored and the position after it, in the words of the promise
pub placed : (o l : List ℕ) (at : ℕ) {last : List ℕ} {end : ℕ} → at + length l ≤ length o → last ≡ sets o at l → end ≡ at + length l
    → (end - at ≡ put_length o at l) × (last ≡ put_output o at l)
placed o l at {last} {end} h stored e =
    let p = put o at l h (omega arith) stored in
    (p.value, p.out_after)
