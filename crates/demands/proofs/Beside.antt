-- Two data zones that are equal beside one slot: what lies outside the slot is equal, and a byte stored in both keeps them so.
use Prim.Native.Nat.{ℕ, zero, suc, ◌+◌, ◌*◌, ◌/◌, ◌<◌}
use mathlib.Core.Path.{◌≡◌, refl, sym, ap}
use mathlib.Core.List.{List, [], ◌∷◌}
use native.Mathlib.Omega.{arith}
use native.Mathlib.Nat.{suc-ne-zero, suc_inj}
use lib.ListN.{length, take, drop, set, length-take, length-drop, length-set}
use lib.Seq.{ext_get_or, get_or-take, get_or-drop}
use Rattle.rules.specs.declared.Device.{Device}
use Rattle.rules.specs.declared.Slot.{Slot}
use Rattle.rules.specs.Words.{byte}
use Rattle.rules.specs.State.{index, slot_bytes}
use Rattle.rules.specs.Plan.{Store, in_config, in_otp, in_data, Plan, store, store_all, with_temp_key, apply}

pub record Beside (k : Slot) (x y : List ℕ) : Type 0 where
  pub same_length : length x ≡ length y
  pub elsewhere : (i : ℕ) → (i / 32 ≡ index k → ⊥) → byte i x ≡ byte i y

-- the device with another data zone
abbrev pub with_data : List ℕ → Device → Device
with_data y d = record { config = d.config; otp = d.otp; «data» = y; tempKey = d.tempKey }

-- a byte stored in two zones of one length leaves equal bytes equal
set_byte : (x y : List ℕ) (at b i : ℕ) → length x ≡ length y → byte i x ≡ byte i y → byte i (set x at b) ≡ byte i (set y at b)
set_byte [] [] at b i l e = refl
set_byte [] (v ∷ y) at b i l e = absurd (suc-ne-zero (length y) (sym l))
set_byte (u ∷ x) [] at b i l e = absurd (suc-ne-zero (length x) l)
set_byte (u ∷ x) (v ∷ y) zero b zero l e = refl
set_byte (u ∷ x) (v ∷ y) zero b (suc i) l e = e
set_byte (u ∷ x) (v ∷ y) (suc at) b zero l e = e
set_byte (u ∷ x) (v ∷ y) (suc at) b (suc i) l e = set_byte x y at b i (suc_inj l) e

module _ (k : Slot) (x y : List ℕ) (w : Beside k x y) where
  -- a part that lies outside the slot
  pub part_same : (a n : ℕ) → ((i : ℕ) → i < n → (a + i) / 32 ≡ index k → ⊥) → take n (drop a x) ≡ take n (drop a y)
  part_same a n out =
      ext_get_or 0 (take n (drop a x)) (take n (drop a y))
      (simp (length-take, length-drop, w.same_length))
      (λ i h. let j : i < n = omega (arith, length-take n (drop a x)) in
      rw (get_or-take n (drop a x) i 0 j, get_or-take n (drop a y) i 0 j, get_or-drop a x i 0, get_or-drop a y i 0) (w.elsewhere (a + i) (out i j)))

  pub set_beside : (at b : ℕ) → Beside k (set x at b) (set y at b)
  set_beside at b = record {
    same_length = rw (length-set x at b, length-set y at b) w.same_length;
    elsewhere = λ i out. set_byte x y at b i w.same_length (w.elsewhere i out);
  }

-- another slot's bytes
pub slot_same : (k : Slot) (d : Device) (y : List ℕ) → Beside k d.«data» y → (j : Slot) → (index j ≡ index k → ⊥)
    → slot_bytes d j ≡ slot_bytes (with_data y d) j
unfolding slot_bytes
slot_same k d y w j n = part_same k d.«data» y w (32 * index j) 32 (λ i h e. n (omega arith))

-- ---- a plan carried out in both

-- a device that is another one with a data zone equal beside the slot
pub record Near (k : Slot) (d e : Device) : Type 0 where
  pub others : e ≡ with_data e.«data» d
  pub beside : Beside k d.«data» e.«data»

stores_near : (k : Slot) (xs : List Store) (d : Device) (y : List ℕ) → Beside k d.«data» y → Near k (store_all d xs) (store_all (with_data y d) xs)
stores_near k [] d y w = record { others = refl; beside = w }
stores_near k (in_config at b ∷ xs) d y w = stores_near k xs (store d (in_config at b)) y w
stores_near k (in_otp at b ∷ xs) d y w = stores_near k xs (store d (in_otp at b)) y w
stores_near k (in_data at b ∷ xs) d y w = stores_near k xs (store d (in_data at b)) (set y at b) (set_beside k d.«data» y w at b)

pub apply_near : (k : Slot) (p q : Plan) (d : Device) (y : List ℕ) → p.stores ≡ q.stores → p.tempKey ≡ q.tempKey → Beside k d.«data» y
    → Near k (apply p d) (apply q (with_data y d))
apply_near k p q d y es et w =
    let n = stores_near k p.stores d y w in
    record { others = rw (← es, ← et) (ap (with_temp_key p.tempKey) n.others); beside = rw (← es) n.beside }
