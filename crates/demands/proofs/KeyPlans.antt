-- MAC, CheckMac, GenDig and DeriveKey in two devices equal beside a slot: they come to the same where they do not draw on the slot.
use Rattle.std.specs.Prelude.{if◌then◌else◌}
use Prim.Native.Nat.{ℕ}
use mathlib.Core.Path.{◌≡◌, refl, ap}
use mathlib.Core.Bool.{Bool, true, false, not, ◌&&◌, ◌||◌}
use mathlib.Core.List.{List, [], ◌∷◌}
use native.Mathlib.Omega.{arith}
use borrow.Author.Tests.{eqb-false, ltb-true}
use Rattle.wire.proofs.Cases.{if_all, if_same}
use Rattle.rules.specs.declared.Device.{Device}
use Rattle.rules.specs.declared.Fields.{Fields}
use Rattle.rules.specs.declared.Slot.{Slot}
use Rattle.rules.specs.Words.{◌⇒◌, ◌is◌, ◌under◌, bit, equal}
use Rattle.rules.specs.State.{key, slot_bytes, taken}
use Rattle.rules.specs.Plan.{Plan, settle, refused_after}
use Rattle.rules.specs.Mac.{mac, mac_free, mac_digest, first_row, second_row, key_drawn}
use Rattle.rules.specs.CheckMac.{check_mac, check_mac_free, check_mac_digest, check_mac_effect, check_mac_draws, check_mac_key, copy_target, copy_holds, response}
use Rattle.rules.specs.GenDig.{gen_dig, gen_dig_shape, gen_dig_free, gen_dig_draws, gen_dig_key, gen_dig_value, from_data}
use Rattle.rules.specs.DeriveKey.{derive_key, derive_key_free, derive_key_draws, derive_key_mac, derive_key_stores, new_target, derived, source, parent, asks_mac}
use Rattle.rules.proofs.Tests.{or_left, or_right, and_left, and_right}
use Rattle.demands.specs.Demand3.{holds}
use Rattle.demands.proofs.Draws.{missed, missed_rest, holds_append, settle_same}
use Rattle.demands.proofs.Beside.{Beside, with_data, slot_same}

-- GenDig's Param1, in shape and neither 0 nor 1
only_data : (p : ℕ) (small : Bool) → (p is 2 || (p under 2 && small)) ≡ true → (p is 0) ≡ false → (p is 1) ≡ false → (p is 2) ≡ true
only_data p small a z o = go (p is 2) a where
  go : (t : Bool) → (t || (p under 2 && small)) ≡ true → t ≡ true
  go true a = refl
  go false a = absurd (omega (arith, ltb-true p 2 (and_left (p under 2) small a), eqb-false p 0 z, eqb-false p 1 o))

-- DeriveKey draws on the same slots where its MAC is refused
pub derive_draws : (d : Device) (f : Fields) (input : List ℕ) → (derive_key d f input).effect.draws ≡ derive_key_draws d.config f
unfolding derive_key derived
derive_draws d f input =
    if_all (λ (p : Plan). p.draws ≡ derive_key_draws d.config f) (asks_mac d.config f ⇒ equal (derive_key_mac d f) input)
    (derived d f) (refused_after (derive_key_draws d.config f)) (λ a. refl) (λ a. refl)

module _ (k : Slot) (d : Device) (y : List ℕ) (w : Beside k d.«data» y) where
  -- a slot's bytes, drawn on where a test fails
  drawn_same : (t : Bool) (row : List ℕ) (j : Slot) → holds k (if not t then j ∷ [] else []) ≡ false
      → (if t then row else slot_bytes d j) ≡ (if t then row else slot_bytes (with_data y d) j)
  drawn_same true row j h = refl
  drawn_same false row j h = slot_same k d y w j (missed k j [] h)

  first_same : (f : Fields) → holds k (key_drawn f) ≡ false → first_row d f ≡ first_row (with_data y d) f
  unfolding first_row key_drawn
  first_same f h = drawn_same (bit 1 f.param1) d.tempKey.bytes (key f) h

  pub digest_same : (f : Fields) (input : List ℕ) → holds k (key_drawn f) ≡ false → mac_digest d f input ≡ mac_digest (with_data y d) f input
  unfolding mac_digest second_row
  digest_same f input h = rw (first_same f h)

  pub mac_same : (f : Fields) (input : List ℕ) → holds k (settle (mac d f input)).draws ≡ false
      → settle (mac d f input) ≡ settle (mac (with_data y d) f input)
  unfolding mac mac_free
  mac_same f input h =
      settle_same k (mac d f input) (mac (with_data y d) f input) refl refl h (λ a b e. rw (digest_same f input e))

  -- CheckMac's copy
  copy_same : (f : Fields) (same : Bool) → holds k (if copy_holds d.config f then copy_target f ∷ [] else []) ≡ false
      → check_mac_key d f same ≡ check_mac_key (with_data y d) f same
  unfolding check_mac_key
  copy_same f same h =
      if_same (same && copy_holds d.config f)
      (λ c. let e = rw (and_right same (copy_holds d.config f) c) at h in
      ap (λ (row : List ℕ). taken row true) (slot_same k d y w (copy_target f) (missed k (copy_target f) [] e)))
      (λ c. refl)

  pub check_mac_same : (f : Fields) (input : List ℕ) → holds k (settle (check_mac d f input)).draws ≡ false
      → settle (check_mac d f input) ≡ settle (check_mac (with_data y d) f input)
  unfolding check_mac check_mac_free check_mac_digest check_mac_effect check_mac_draws second_row
  check_mac_same f input h =
      settle_same k (check_mac d f input) (check_mac (with_data y d) f input) refl refl h
      (λ a b e. let copied : List Slot = if copy_holds d.config f then copy_target f ∷ [] else [] in
      let e₂ : (holds k (key_drawn f) || holds k copied) ≡ false = rw (holds_append k (key_drawn f) copied) at e in
      let e₃ = first_same f (or_left (holds k (key_drawn f)) (holds k copied) e₂) in
      let e₄ = copy_same f (equal (check_mac_digest (with_data y d) f input) (response input)) (or_right (holds k (key_drawn f)) (holds k copied) e₂) in
      rw (e₃, e₄))

  -- GenDig's value: of a rule whose shape holds, the slot where Param1 is 2
  value_same : (f : Fields) (input : List ℕ) → gen_dig_shape d.config f input ≡ true → holds k (gen_dig_draws f) ≡ false
      → gen_dig_value d f ≡ gen_dig_value (with_data y d) f
  unfolding gen_dig_shape gen_dig_draws gen_dig_value
  value_same f input a h =
      if_same (f.param1 is 0) (λ z. refl)
      (λ z. if_same (f.param1 is 1) (λ o. refl)
      (λ o. let c = only_data f.param1 (f.param2 under 2) (and_left (from_data f || (f.param1 under 2 && f.param2 under 2)) _ a) z o in
      slot_same k d y w (key f) (missed k (key f) [] (rw c at h))))

  pub gen_dig_same : (f : Fields) (input : List ℕ) → holds k (settle (gen_dig d f input)).draws ≡ false
      → settle (gen_dig d f input) ≡ settle (gen_dig (with_data y d) f input)
  unfolding gen_dig gen_dig_free gen_dig_key
  gen_dig_same f input h =
      settle_same k (gen_dig d f input) (gen_dig (with_data y d) f input) refl refl h
      (λ a b e. rw (value_same f input a e))

  -- DeriveKey's source, and its parent where a MAC is asked for
  target_same : (f : Fields) → holds k (derive_key_draws d.config f) ≡ false → new_target d f ≡ new_target (with_data y d) f
  unfolding new_target derive_key_draws
  target_same f h = rw (slot_same k d y w (source d.config f) (missed k (source d.config f) _ h))

  parent_same : (f : Fields) (input : List ℕ) → holds k (derive_key_draws d.config f) ≡ false
      → (asks_mac d.config f ⇒ equal (derive_key_mac d f) input) ≡ (asks_mac d.config f ⇒ equal (derive_key_mac (with_data y d) f) input)
  unfolding derive_key_mac derive_key_draws
  parent_same f input h =
      if_same (asks_mac d.config f)
      (λ c. let p = parent d.config f in
      let e = missed_rest k (source d.config f) (p ∷ []) (rw c at h) in
      rw (slot_same k d y w p (missed k p [] e)))
      (λ c. refl)

  pub derive_key_same : (f : Fields) (input : List ℕ) → holds k (settle (derive_key d f input)).draws ≡ false
      → settle (derive_key d f input) ≡ settle (derive_key (with_data y d) f input)
  unfolding derive_key derive_key_free derived derive_key_stores
  derive_key_same f input h =
      settle_same k (derive_key d f input) (derive_key (with_data y d) f input) refl refl h
      (λ a b e. let e₂ = rw (derive_draws d f input) at e in
      rw (parent_same f input e₂, target_same f e₂))
