-- A state stays a state: a store keeps the length of its zone, and what a command leaves in TempKey is 32 bytes, under a SlotID up to 15.
use Prim.Native.Nat.{ℕ, ◌≤◌}
use mathlib.Core.Path.{◌≡◌, ◌∙◌}
use mathlib.Core.Bool.{Bool, true, ◌&&◌}
use mathlib.Core.List.{List, [], ◌∷◌}
use native.Mathlib.Omega.{arith}
use borrow.Author.Tests.{eqb-true}
use lib.ListN.{length, length-set, length-replicate}
use Rattle.digest.proofs.DigestLaws.{length_sha256}
use Rattle.wire.proofs.Cases.{if_all, if_either}
use Rattle.rules.specs.declared.Device.{Device}
use Rattle.rules.specs.declared.Fields.{Fields}
use Rattle.rules.specs.declared.Slot.{Slot}
use Rattle.rules.specs.declared.TempKey.{TempKey}
use Rattle.rules.specs.Words.{◌⇒◌, ◌is◌, bytes, zeros, equal}
use Rattle.rules.specs.State.{emptied, device_from}
use Rattle.rules.specs.Plan.{Store, in_config, in_otp, in_data, store, store_all, apply, Plan, Rule}
use Rattle.rules.specs.Nonce.{nonce_shape, nonce_input, nonce_random, nonce, random}
use Rattle.rules.specs.Mac.{mac}
use Rattle.rules.specs.CheckMac.{check_mac, check_mac_effect, check_mac_key, check_mac_digest, copy_holds, copy_target, response}
use Rattle.rules.specs.GenDig.{gen_dig, gen_dig_key, key_named}
use Rattle.rules.specs.DeriveKey.{derive_key, derived, derive_key_mac, asks_mac}
use Rattle.rules.specs.Read.{read}
use Rattle.rules.specs.Write.{write, write_effect, write_mac, encrypted}
use Rattle.rules.specs.Upkeep.{lock, update_extra, dev_rev}
use Rattle.rules.specs.Commands.{Command, a_read, a_mac, a_write, a_gen_dig, a_nonce, a_lock, a_random, a_derive_key, an_update_extra, a_check_mac, a_dev_rev, unknown, rule_of, command_of}
use Rattle.rules.specs.Events.{plan_for, opcode_of, fields_of, input_of}
use Rattle.rules.proofs.Rows.{length_part}
use Rattle.rules.proofs.Tests.{and_left}
use Rattle.rules.proofs.Settle.{settle_all}
use Rattle.token.specs.declared.Token.{Token}
use Rattle.token.specs.declared.Outcome.{Outcome}
use Rattle.token.specs.Outcome.{fresh_of}
use Rattle.demands.specs.Calls.{Call, given}
use Rattle.demands.specs.WellFormed.{WellFormed, StaysWellFormed}
use Rattle.demands.proofs.Calling.{turn_device, call_cases, after_all}
use Rattle.demands.proofs.Lengths.{length_slot, call_lengths, call_others, call_fitting, occurring}

-- the zones of a device, its TempKey, and both: what a well-formed state says of them
abbrev Zones : Device → Type 0
Zones d = (length d.config ≡ 88) × (length d.otp ≡ 64) × (length d.«data» ≡ 512)

abbrev Holds : TempKey → Type 0
Holds t = (length t.bytes ≡ 32) × (t.slotID.0 ≤ 15)

abbrev Formed : Device → Type 0
Formed d = Zones d × Holds d.tempKey

formed : (s : Token) → WellFormed s → Formed s.device
formed s h = ((h.config, h.otp, h.data_zone), (h.tempKey, h.slotID))

well_formed : (s : Token) → Formed s.device → WellFormed s
well_formed s h = record { config = h.0.0; otp = h.0.1; data_zone = h.0.2; tempKey = h.1.0; slotID = h.1.1 }

-- ---- stores

stores_zones : (xs : List Store) (d : Device) → Zones d → Zones (store_all d xs)
stores_zones [] d h = h
stores_zones (in_config at b ∷ xs) d h = stores_zones xs (store d (in_config at b)) (length-set d.config at b ∙ h.0, h.1, h.2)
stores_zones (in_otp at b ∷ xs) d h = stores_zones xs (store d (in_otp at b)) (h.0, length-set d.otp at b ∙ h.1, h.2)
stores_zones (in_data at b ∷ xs) d h = stores_zones xs (store d (in_data at b)) (h.0, h.1, length-set d.«data» at b ∙ h.2)

-- ---- TempKey

holds_emptied : Holds emptied
holds_emptied = (length-replicate {A = ℕ} 32 0, omega arith)

abbrev Leaves : Plan → Type 0
Leaves p = Holds p.tempKey

module _ (d : Device) (f : Fields) (h : Zones d) where
  holds_nonce : (input supplied : List ℕ) → nonce_shape f input ≡ true → Leaves (nonce d f input supplied).effect
  unfolding nonce_shape nonce nonce_input nonce_random
  holds_nonce input supplied shape =
      if_all Leaves (f.param1 is 3) _ _
      (λ e. (eqb-true (length input) 32 (and_left (length input is 32) (f.param2 is 0) (rw e at shape)), omega arith))
      (λ _. (length_sha256 _, omega arith))

  holds_gen_dig : (input : List ℕ) → Holds (gen_dig_key d f input)
  unfolding gen_dig_key
  holds_gen_dig input = (length_sha256 _, if_either (λ (k : Slot). k.0 ≤ 15) (key_named f) (omega arith) (omega arith))

  holds_copy : (same : Bool) → Holds (check_mac_key d f same)
  unfolding check_mac_key
  holds_copy same =
      if_either Holds (same && copy_holds d.config f) (length_slot d (copy_target f) h.2, omega arith) holds_emptied

  holds_effect : (c : Command) (input supplied : List ℕ) → (rule_of c d f input supplied).shape ≡ true
      → Leaves (rule_of c d f input supplied).effect
  unfolding read mac write write_effect gen_dig nonce lock random derive_key derived update_extra check_mac check_mac_effect dev_rev
  holds_effect a_read input supplied shape = holds_emptied
  holds_effect a_mac input supplied shape = holds_emptied
  holds_effect a_write input supplied shape =
      if_either Leaves (encrypted d.config f)
      (if_either Leaves (equal (write_mac d f input) (bytes 32 63 input)) holds_emptied holds_emptied)
      holds_emptied
  holds_effect a_gen_dig input supplied shape = holds_gen_dig input
  holds_effect a_nonce input supplied shape = holds_nonce input supplied shape
  holds_effect a_lock input supplied shape = holds_emptied
  holds_effect a_random input supplied shape = holds_emptied
  holds_effect a_derive_key input supplied shape =
      if_either Leaves (asks_mac d.config f ⇒ equal (derive_key_mac d f) input) holds_emptied holds_emptied
  holds_effect an_update_extra input supplied shape = holds_emptied
  holds_effect a_check_mac input supplied shape = holds_copy (equal (check_mac_digest d f input) (response input))
  holds_effect a_dev_rev input supplied shape = holds_emptied
  holds_effect unknown input supplied shape = holds_emptied

-- ---- commands, calls, runs

plan_formed : (d : Device) (b supplied : List ℕ) → Zones d → Formed (apply (plan_for d b supplied) d)
unfolding plan_for
plan_formed d b supplied h =
    let c : Command = command_of (opcode_of b) in
    let r : Rule = rule_of c d (fields_of b) (input_of b) supplied in (
      stores_zones (plan_for d b supplied).stores d h,
      settle_all Leaves r (λ shape _. holds_effect d (fields_of b) h c (input_of b) supplied shape) holds_emptied holds_emptied,
    )

pub call_formed : (s : Token) (c : Call) → WellFormed s → WellFormed (given s c).token
call_formed s c h =
    let k : Formed s.device = formed s h in
    call_cases (λ (o : Outcome) (_ : List ℕ). WellFormed o.token) s c h h
    (λ _ _. well_formed _
    (turn_device Formed s.device s.power c.event c.random k (k.0, holds_emptied)
    (λ b _ _ _. plan_formed s.device b c.random k.0)))

-- ---- a fresh state

image_formed : (image : List ℕ) → length image ≡ 664 → Formed (device_from image)
image_formed image h = (
  (length_part image 0 88 (omega arith), length_part image 88 64 (omega arith), length_part image 152 512 (omega arith)),
  holds_emptied,
)

pub fresh_formed : (image : List ℕ) → WellFormed (fresh_of image).token
unfolding fresh_of
fresh_formed image =
    well_formed (fresh_of image).token
    (if_all Formed (length image is 664) (device_from image) (device_from (zeros 664))
    (λ e. image_formed image (eqb-true (length image) 664 e))
    (λ _. image_formed (zeros 664) (length-replicate {A = ℕ} 664 0)))

pub stays_well_formed : StaysWellFormed
stays_well_formed = record {
  fresh = fresh_formed;
  calls = after_all WellFormed call_formed;
  lengths = call_lengths;
  others = call_others;
  fits = call_fitting;
  occurring = occurring;
}
