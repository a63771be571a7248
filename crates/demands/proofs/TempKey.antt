-- Which commands use TempKey: with TempKey not Valid their conditions are not met, and no other command comes to anything else for its sake.
use Rattle.std.specs.Prelude.{if◌then◌else◌}
use Prim.Native.Nat.{ℕ}
use mathlib.Core.Path.{◌≡◌, refl, ap}
use mathlib.Core.Bool.{Bool, true, false, not, ◌&&◌, and-false, false≢true, true≢false}
use mathlib.Core.List.{List}
use borrow.Author.Tests.{eqb-true}
use Rattle.wire.proofs.Cases.{if_all, if_same}
use Rattle.rules.specs.declared.Device.{Device}
use Rattle.rules.specs.declared.Fields.{Fields}
use Rattle.rules.specs.declared.TempKey.{TempKey}
use Rattle.rules.specs.Words.{◌iff◌, ◌is◌, bit}
use Rattle.rules.specs.State.{slot_bytes, config_locked, values_locked, is_secret}
use Rattle.rules.specs.Plan.{Plan, with_temp_key, gives, settle}
use Rattle.rules.specs.Address.{zone, data_slot, address_fits, encrypts}
use Rattle.rules.specs.Mac.{mac, mac_free, mac_temp_key, mac_digest, uses_temp_key, first_row, second_row}
use Rattle.rules.specs.CheckMac.{check_mac, check_mac_free, check_mac_temp_key, check_mac_digest, check_mac_effect, check_mac_key, challenge}
use Rattle.rules.specs.GenDig.{gen_dig, gen_dig_free}
use Rattle.rules.specs.DeriveKey.{derive_key, derive_key_free, derive_key_temp_key}
use Rattle.rules.specs.Read.{read, read_shape, read_free, data_read_free, read_bytes}
use Rattle.rules.specs.Write.{write, write_shape, write_effect, written, otp_written, write_free, locked_write_free, unlocked_write_free, slot_write_free, slot_encrypted, encrypted, has_mac}
use Rattle.rules.specs.Nonce.{nonce, random}
use Rattle.rules.specs.Upkeep.{lock, lock_free, summary, update_extra, dev_rev}
use Rattle.rules.specs.Commands.{Command, a_read, a_mac, a_write, a_gen_dig, a_nonce, a_lock, a_random, a_derive_key, an_update_extra, a_check_mac, a_dev_rev, unknown, rule_of, plan_of}
use Rattle.rules.proofs.Tests.{and_left, and_right, or_left, or_right}
use Rattle.rules.proofs.Shapes.{read_fits, write_fits}
use Rattle.demands.specs.Incident.{needs_temp_key}

-- a TempKey that is not Valid
module _ (d : Device) (f : Fields) (empty : d.tempKey.valid ≡ false) where
  mac_unmet : uses_temp_key f ≡ true → mac_free d f ≡ false
  unfolding mac_free mac_temp_key
  mac_unmet u = rw (u, empty, and-false)

  check_mac_unmet : uses_temp_key f ≡ true → check_mac_free d f ≡ false
  unfolding check_mac_free check_mac_temp_key
  check_mac_unmet u = rw (u, empty, and-false)

  gen_dig_unmet : gen_dig_free d f ≡ false
  unfolding gen_dig_free
  gen_dig_unmet = rw (empty, and-false)

  derive_key_unmet : (input : List ℕ) → derive_key_free d f input ≡ false
  unfolding derive_key_free derive_key_temp_key
  derive_key_unmet input = rw (empty, and-false)

  read_unmet : (zone f is 2 && is_secret d.config (data_slot f)) ≡ true → read_free d f ≡ false
  unfolding read_free data_read_free encrypts
  read_unmet u =
      let z : zone f ≡ 2 = eqb-true (zone f) 2 (and_left (zone f is 2) _ u) in
      let k : is_secret d.config (data_slot f) ≡ true = and_right (zone f is 2) _ u in
      rw (z, k, empty, and-false, and-false)

  locked_unmet : (zone f is 2 && slot_encrypted d.config f) ≡ true → locked_write_free d f ≡ false
  unfolding locked_write_free slot_write_free encrypts
  locked_unmet u =
      let z : zone f ≡ 2 = eqb-true (zone f) 2 (and_left (zone f is 2) _ u) in
      let k : slot_encrypted d.config f ≡ true = and_right (zone f is 2) _ u in
      rw (z, k, empty, and-false)

  unlocked_unmet : bit 6 f.param1 ≡ true → unlocked_write_free d f ≡ false
  unfolding unlocked_write_free encrypts
  unlocked_unmet u = rw (u, empty, and-false)

  values_unmet : zone f is 0 ≡ false → encrypted d.config f ≡ true
      → (if values_locked d.config then locked_write_free d f else unlocked_write_free d f) ≡ false
  unfolding encrypted
  values_unmet z u =
      if_all (λ (x : Bool). x ≡ false) (values_locked d.config) _ _ (λ l. locked_unmet (rw (z, l) at u)) (λ l. unlocked_unmet (rw (z, l) at u))

  write_unmet : (input : List ℕ) → encrypted d.config f ≡ true → write_free d f input ≡ false
  unfolding encrypted write_free
  write_unmet input u =
      if_all (λ (x : Bool). x ≡ false) (zone f is 0) _ _ (λ z. absurd (false≢true (rw z at u))) (λ z. rw (values_unmet z u, and-false))

  -- the conditions of a command that uses TempKey are not met
  pub unmet : (c : Command) (input supplied : List ℕ) → needs_temp_key c d f ≡ true → (rule_of c d f input supplied).free ≡ false
  unfolding needs_temp_key read mac write gen_dig derive_key check_mac
  unmet a_read input supplied u = read_unmet u
  unmet a_mac input supplied u = mac_unmet u
  unmet a_write input supplied u = write_unmet input u
  unmet a_gen_dig input supplied u = gen_dig_unmet
  unmet a_nonce input supplied u = absurd (false≢true u)
  unmet a_lock input supplied u = absurd (false≢true u)
  unmet a_random input supplied u = absurd (false≢true u)
  unmet a_derive_key input supplied u = derive_key_unmet input
  unmet an_update_extra input supplied u = absurd (false≢true u)
  unmet a_check_mac input supplied u = check_mac_unmet u
  unmet a_dev_rev input supplied u = absurd (false≢true u)
  unmet unknown input supplied u = absurd (false≢true u)

-- ---- and no other

-- two rules of one shape come to the same if their conditions and effects are the same in that shape
shape_same : (shape : Bool) (a b : Bool) (p q : Plan) → (shape ≡ true → a ≡ b) → (shape ≡ true → p ≡ q)
    → settle (record { shape = shape; free = a; effect = p }) ≡ settle (record { shape = shape; free = b; effect = q })
shape_same true a b p q e k = rw (e refl, k refl)
shape_same false a b p q e k = refl

-- an address in its shape that is neither of configuration nor of OTP is of data
zone_is_data : (f : Fields) → address_fits f ≡ true → zone f is 0 ≡ false → zone f is 1 ≡ false → zone f is 2 ≡ true
unfolding address_fits
zone_is_data f h z o = and_left (zone f is 2) _ (rw (z, o) at h)

module _ (d : Device) (t : TempKey) (f : Fields) where
  abbrev e : Device
  e = with_temp_key t d

  first_same : uses_temp_key f ≡ false → first_row e f ≡ first_row d f
  unfolding first_row slot_bytes
  first_same u = rw (or_right (bit 0 f.param1) (bit 1 f.param1) u)

  second_same : (sent : List ℕ) → uses_temp_key f ≡ false → second_row e f sent ≡ second_row d f sent
  unfolding second_row
  second_same sent u = rw (or_left (bit 0 f.param1) (bit 1 f.param1) u)

  mac_same : (input : List ℕ) → uses_temp_key f ≡ false → settle (mac e f input) ≡ settle (mac d f input)
  unfolding mac mac_free mac_temp_key mac_digest
  mac_same input u = rw (u, first_same u, second_same input u)

  check_mac_same : (input : List ℕ) → uses_temp_key f ≡ false → settle (check_mac e f input) ≡ settle (check_mac d f input)
  unfolding check_mac check_mac_free check_mac_temp_key check_mac_digest check_mac_effect check_mac_key slot_bytes
  check_mac_same input u = rw (u, first_same u, second_same (challenge input) u)

  -- a read of data is not of a secret slot
  module _ (input : List ℕ) (u : (zone f is 2 && is_secret d.config (data_slot f)) ≡ false) where
    clear : address_fits f ≡ true → zone f is 0 ≡ false → zone f is 1 ≡ false → is_secret d.config (data_slot f) ≡ false
    clear h z o = rw (zone_is_data f h z o) at u

    read_free_same : address_fits f ≡ true → read_free e f ≡ read_free d f
    unfolding read_free data_read_free
    read_free_same h = if_same (zone f is 0) (λ _. refl) (λ z. if_same (zone f is 1) (λ _. refl) (λ o. rw (clear h z o)))

    read_bytes_same : address_fits f ≡ true → read_bytes e f ≡ read_bytes d f
    unfolding read_bytes
    read_bytes_same h = if_same (zone f is 0) (λ _. refl) (λ z. if_same (zone f is 1) (λ _. refl) (λ o. rw (clear h z o)))

    read_same : settle (read e f input) ≡ settle (read d f input)
    unfolding read
    read_same =
        shape_same (read_shape f input) (read_free e f) (read_free d f) (gives (read_bytes e f)) (gives (read_bytes d f))
        (λ s. read_free_same (read_fits f input s))
        (λ s. ap gives (read_bytes_same (read_fits f input s)))

  -- a write that is not encrypted
  module _ (input : List ℕ) (u : encrypted d.config f ≡ false) where
    locked_same : address_fits f ≡ true → zone f is 0 ≡ false → values_locked d.config ≡ true → locked_write_free e f ≡ locked_write_free d f
    unfolding encrypted locked_write_free slot_write_free
    locked_same h z l =
        ap (λ (x : Bool). not (bit 6 f.param1) && x)
        (if_same (zone f is 1) (λ _. refl) (λ o. let k : slot_encrypted d.config f ≡ false = rw (z, l, zone_is_data f h z o) at u in rw k))

    unlocked_same : zone f is 0 ≡ false → values_locked d.config ≡ false → unlocked_write_free e f ≡ unlocked_write_free d f
    unfolding encrypted unlocked_write_free
    unlocked_same z l = let k : bit 6 f.param1 ≡ false = rw (z, l) at u in rw k

    write_free_same : address_fits f ≡ true → write_free e f input ≡ write_free d f input
    unfolding write_free
    write_free_same h =
        if_same (zone f is 0) (λ _. refl)
        (λ z.
        ap (λ (x : Bool). config_locked d.config && (has_mac input iff encrypted d.config f) && x)
        (if_same (values_locked d.config) (locked_same h z) (unlocked_same z)))

    write_same : settle (write e f input) ≡ settle (write d f input)
    unfolding write write_effect written otp_written
    write_same =
        shape_same (write_shape f input) (write_free e f input) (write_free d f input) (write_effect e f input) (write_effect d f input)
        (λ s. write_free_same (write_fits f input s))
        (λ s. rw u)

pub others_same : (c : Command) (d : Device) (t : TempKey) (f : Fields) (input supplied : List ℕ) → needs_temp_key c d f ≡ false
    → plan_of c (with_temp_key t d) f input supplied ≡ plan_of c d f input supplied
unfolding needs_temp_key nonce lock lock_free summary random update_extra dev_rev
others_same a_read d t f input supplied u = read_same d t f input u
others_same a_mac d t f input supplied u = mac_same d t f input u
others_same a_write d t f input supplied u = write_same d t f input u
others_same a_gen_dig d t f input supplied u = absurd (true≢false u)
others_same a_nonce d t f input supplied u = refl
others_same a_lock d t f input supplied u = refl
others_same a_random d t f input supplied u = refl
others_same a_derive_key d t f input supplied u = absurd (true≢false u)
others_same an_update_extra d t f input supplied u = refl
others_same a_check_mac d t f input supplied u = check_mac_same d t f input u
others_same a_dev_rev d t f input supplied u = refl
others_same unknown d t f input supplied u = refl
