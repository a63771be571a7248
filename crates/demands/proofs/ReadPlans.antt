-- Read and Lock in two devices equal beside a slot that is secret and never read, with both zones locked: they come to the same.
use Rattle.std.specs.Prelude.{if◌then◌else◌}
use Prim.Native.Nat.{ℕ, ◌+◌, ◌*◌, ◌/◌, ◌≤◌, ◌<◌}
use mathlib.Core.Path.{◌≡◌, refl, sym, ap, ◌∙◌}
use mathlib.Core.Bool.{Bool, true, false, false≢true}
use mathlib.Core.List.{List}
use native.Mathlib.Omega.{arith}
use borrow.Author.Tests.{leb-true}
use Rattle.wire.proofs.Cases.{if_all, if_same}
use Rattle.rules.specs.declared.Device.{Device}
use Rattle.rules.specs.declared.Fields.{Fields}
use Rattle.rules.specs.declared.Slot.{Slot}
use Rattle.rules.specs.declared.Word.{Word}
use Rattle.rules.specs.Words.{◌is◌, ◌up_to◌, bit, xor_row}
use Rattle.rules.specs.State.{index, slot_config, config_locked, values_locked, both_locked, is_secret, encrypt_read}
use Rattle.rules.specs.Plan.{settle, gives}
use Rattle.rules.specs.Address.{zone, size, word, slot_of, data_slot, address_fits, position}
use Rattle.rules.specs.Read.{read, read_free, read_bytes, data_read_free}
use Rattle.rules.specs.Upkeep.{lock, lock_free, zone_open, of_values}
use Rattle.rules.proofs.Tests.{and_left, and_right}
use Rattle.rules.proofs.Shapes.{read_fits}
use Rattle.rules.proofs.Settle.{settle_eq}
use Rattle.demands.proofs.Beside.{Beside, with_data, slot_same, part_same}

-- ---- Read

-- the slot that a data word in shape belongs to holds all the bytes that are read there
in_slot : (w : Word) (long : Bool) (i : ℕ) → w.0 ≤ 127 → i < (if long then 32 else 4)
    → ((if long then 32 * (w.0 / 8) else 4 * w.0) + i) / 32 ≡ index (slot_of w)
in_slot w true i h l = omega arith
in_slot w false i h l = omega arith

fits_data : (f : Fields) → (zone f is 0) ≡ false → (zone f is 1) ≡ false → address_fits f ≡ true → (word f).0 ≤ 127
unfolding address_fits
fits_data f z o h = leb-true (word f).0 127 (and_right (zone f is 2) ((word f).0 up_to 127) (rw (z, o) at h))

-- the rule of a slot is that of its number
same_config : (config : List ℕ) (j k : Slot) → index j ≡ index k → slot_config config j ≡ slot_config config k
unfolding slot_config
same_config config j k e = rw e

module _ (k : Slot) (d : Device) (y : List ℕ) (w : Beside k d.«data» y) where
  unread : (f : Fields) → is_secret d.config k ≡ true → encrypt_read d.config k ≡ false → data_read_free d f ≡ true
      → index (data_slot f) ≡ index k → ⊥
  unfolding data_read_free
  unread f s n b e =
      let c = same_config d.config (data_slot f) k e in
      false≢true (rw (c, s, n) at (and_right (both_locked d.config) _ b))

  bytes_same : (f : Fields) → is_secret d.config k ≡ true → encrypt_read d.config k ≡ false → address_fits f ≡ true → read_free d f ≡ true
      → read_bytes d f ≡ read_bytes (with_data y d) f
  unfolding read_free read_bytes position
  bytes_same f s n a b =
      if_same (zone f is 0) (λ z. refl)
      (λ z. if_same (zone f is 1) (λ o. refl)
      (λ o. let out = unread f s n (rw (z, o) at b) in
      if_same (is_secret d.config (data_slot f))
      (λ c. ap (λ (row : List ℕ). xor_row row d.tempKey.bytes) (slot_same k d y w (data_slot f) out))
      (λ c. part_same k d.«data» y w (position f) (size f)
      (λ i l e. out (sym (in_slot (word f) (bit 7 f.param1) i (fits_data f z o a) l) ∙ e)))))

  pub read_same : (f : Fields) (input : List ℕ) → is_secret d.config k ≡ true → encrypt_read d.config k ≡ false
      → settle (read d f input) ≡ settle (read (with_data y d) f input)
  unfolding read read_free data_read_free
  read_same f input s n =
      settle_eq (read d f input) (read (with_data y d) f input) refl refl
      (λ a b. ap gives (bytes_same f s n (read_fits f input a) b))

-- ---- Lock

-- with both zones locked no zone is open to Lock
pub none_open : (config : List ℕ) (f : Fields) → both_locked config ≡ true → zone_open config f ≡ false
unfolding zone_open
none_open config f h =
    rw (and_left (config_locked config) (values_locked config) h, and_right (config_locked config) (values_locked config) h)
    (if_all (λ (t : Bool). t ≡ false) (of_values f) false false (λ v. refl) (λ v. refl))

pub lock_same : (d : Device) (y : List ℕ) (f : Fields) (input : List ℕ) → both_locked d.config ≡ true
    → settle (lock d f input) ≡ settle (lock (with_data y d) f input)
unfolding lock lock_free
lock_same d y f input h = rw (none_open d.config f h)
