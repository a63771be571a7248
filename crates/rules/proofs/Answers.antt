-- How long answers are: no command answers with more than 32 bytes, where the random bytes are 32.
use Prim.Native.Nat.{ℕ, ◌*◌, ◌≤◌}
use mathlib.Core.Path.{◌≡◌, refl}
use mathlib.Core.List.{List}
use native.Mathlib.Omega.{arith}
use lib.Bits.{bit_xor}
use lib.Dec.{lit≤}
use lib.ListN.{length, take, drop, length-take}
use Rattle.digest.proofs.DigestLaws.{length_sha256}
use Rattle.wire.proofs.Cases.{if_either}
use Rattle.rules.specs.declared.Device.{Device}
use Rattle.rules.specs.declared.Fields.{Fields}
use Rattle.rules.specs.declared.Slot.{Slot}
use Rattle.rules.specs.Words.{◌⇒◌, ◌is◌, bit, bytes, equal}
use Rattle.rules.specs.State.{index, slot_bytes, config_locked, is_secret}
use Rattle.rules.specs.Plan.{Plan, Rule, settle}
use Rattle.rules.specs.Nonce.{four_times, used_random, nonce_input, nonce_random, nonce, random}
use Rattle.rules.specs.Mac.{mac_digest, mac}
use Rattle.rules.specs.CheckMac.{check_mac_effect, check_mac}
use Rattle.rules.specs.GenDig.{gen_dig}
use Rattle.rules.specs.DeriveKey.{derive_key_mac, derived, derive_key, asks_mac}
use Rattle.rules.specs.Address.{zone, size, word, slot_of, position}
use Rattle.rules.specs.Read.{read_bytes, read}
use Rattle.rules.specs.Write.{encrypted, write_mac, write_effect, write}
use Rattle.rules.specs.Upkeep.{lock, update_extra, dev_rev}
use Rattle.rules.specs.Commands.{Command, a_read, a_mac, a_write, a_gen_dig, a_nonce, a_lock, a_random, a_derive_key, an_update_extra, a_check_mac, a_dev_rev, unknown, command_of, plan_of}
use Rattle.rules.specs.Events.{opcode_of, fields_of, input_of, plan_for}
use Rattle.rules.proofs.Tests.{if_within}
use Rattle.rules.proofs.Rows.{zip_within}
use Rattle.rules.proofs.Settle.{settle_all}

-- at most 32 bytes: a list, a plan's answer
abbrev Short : List ℕ → Type 0
Short l = length l ≤ 32

abbrev Few : Plan → Type 0
Few p = Short p.answer

short_take : (n : ℕ) (l : List ℕ) → n ≤ 32 → Short (take n l)
short_take n l h = simp length-take (omega arith)

-- ---- digests, random bytes, bytes that are read

pub length_mac : (d : Device) (f : Fields) (input : List ℕ) → length (mac_digest d f input) ≡ 32
unfolding mac_digest
length_mac d f input = length_sha256 _

pub length_used : (config supplied : List ℕ) → length supplied ≡ 32 → length (used_random config supplied) ≡ 32
unfolding used_random four_times
length_used config supplied h = if_either (λ (l : List ℕ). length l ≡ 32) (config_locked config) h refl

module _ (d : Device) (f : Fields) where
  short_part : (zone : List ℕ) → Short (take (size f) (drop (position f) zone))
  short_part zone = short_take (size f) (drop (position f) zone) (if_within (bit 7 f.param1) (lit≤ tt) (lit≤ tt))

  short_slot : (k : Slot) → Short (slot_bytes d k)
  unfolding slot_bytes
  short_slot k = short_take 32 (drop (32 * index k) d.«data») (lit≤ tt)

  short_read : Short (read_bytes d f)
  unfolding read_bytes
  short_read =
      let k : Slot = slot_of (word f) in
      let masked = zip_within bit_xor (slot_bytes d k) d.tempKey.bytes in
      if_either Short (zone f is 0) (short_part d.config)
      (if_either Short (zone f is 1) (short_part d.otp)
      (if_either Short (is_secret d.config k) (omega (arith, masked, short_slot k)) (short_part d.«data»)))

-- ---- commands

few_write : (d : Device) (f : Fields) (input : List ℕ) → Few (write_effect d f input)
unfolding write_effect
few_write d f input =
    if_either Few (encrypted d.config f) (if_either Few (equal (write_mac d f input) (bytes 32 63 input)) (lit≤ tt) (lit≤ tt)) (lit≤ tt)

few_nonce : (d : Device) (f : Fields) (input supplied : List ℕ) → length supplied ≡ 32 → Few (nonce d f input supplied).effect
unfolding nonce nonce_input nonce_random
few_nonce d f input supplied h = if_either Few (f.param1 is 3) (lit≤ tt) (omega (arith, length_used d.config supplied h))

few_derive : (d : Device) (f : Fields) (input : List ℕ) → Few (derive_key d f input).effect
unfolding derive_key derived
few_derive d f input = if_either Few (asks_mac d.config f ⇒ equal (derive_key_mac d f) input) (lit≤ tt) (lit≤ tt)

few_settle : (r : Rule) → Few r.effect → Few (settle r)
few_settle r h = settle_all Few r (λ _ _. h) (lit≤ tt) (lit≤ tt)

few : (c : Command) (d : Device) (f : Fields) (input supplied : List ℕ) → length supplied ≡ 32 → Few (plan_of c d f input supplied)
unfolding read mac write gen_dig nonce lock random derive_key update_extra check_mac check_mac_effect dev_rev
few a_read d f input supplied h = few_settle (read d f input) (short_read d f)
few a_mac d f input supplied h = few_settle (mac d f input) (omega (arith, length_mac d f input))
few a_write d f input supplied h = few_settle (write d f input) (few_write d f input)
few a_gen_dig d f input supplied h = few_settle (gen_dig d f input) (lit≤ tt)
few a_nonce d f input supplied h = few_settle (nonce d f input supplied) (few_nonce d f input supplied h)
few a_lock d f input supplied h = few_settle (lock d f input) (lit≤ tt)
few a_random d f input supplied h = few_settle (random d f input supplied) (omega (arith, length_used d.config supplied h))
few a_derive_key d f input supplied h = few_settle (derive_key d f input) (few_derive d f input)
few an_update_extra d f input supplied h = few_settle (update_extra d f input) (lit≤ tt)
few a_check_mac d f input supplied h = few_settle (check_mac d f input) (lit≤ tt)
few a_dev_rev d f input supplied h = few_settle (dev_rev d f input) (short_take 4 (drop 4 d.config) (lit≤ tt))
few unknown d f input supplied h = lit≤ tt

pub few_for : (d : Device) (block supplied : List ℕ) → length supplied ≡ 32 → length (plan_for d block supplied).answer ≤ 32
unfolding plan_for
few_for d block supplied h = few (command_of (opcode_of block)) d (fields_of block) (input_of block) supplied h
