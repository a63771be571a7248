-- Where commands store: in OTP, in data, in bytes 52 to 85 of the configuration (uses, update counts, UserExtra, Selector), below its byte 84
-- while it is unlocked, and the 00 of a Lock of a zone that is open. What holds of all such stores holds of every store of a command.
use Rattle.std.specs.Prelude.{if◌then◌else◌}
use Prim.Native.Nat.{ℕ, zero, suc, ◌+◌, ◌*◌, ◌%◌, ◌≤◌, ◌<◌}
use mathlib.Core.Path.{◌≡◌}
use mathlib.Core.Bool.{Bool, true, false, not, ◌&&◌, false≢true}
use mathlib.Core.List.{List, [], ◌∷◌, ◌++◌}
use native.Mathlib.Omega.{arith}
use borrow.Author.Tests.{leb-true, ltb-true, not-true}
use lib.ListN.{length}
use Rattle.wire.proofs.Cases.{if_all, if_either}
use Rattle.rules.specs.declared.Device.{Device}
use Rattle.rules.specs.declared.Fields.{Fields}
use Rattle.rules.specs.declared.Slot.{Slot}
use Rattle.rules.specs.Words.{◌⇒◌, ◌is◌, ◌under◌, ◌up_to◌, bit, byte, bytes, equal}
use Rattle.rules.specs.State.{index, key, config_locked}
use Rattle.rules.specs.Plan.{Store, in_config, in_otp, in_data, upwards, Plan}
use Rattle.rules.specs.Uses.{limited, first_nonzero, use_at, spend}
use Rattle.rules.specs.Address.{zone, size, position}
use Rattle.rules.specs.Commands.{Command, a_read, a_mac, a_write, a_gen_dig, a_nonce, a_lock, a_random, a_derive_key, an_update_extra, a_check_mac, a_dev_rev, unknown, rule_of, command_of}
use Rattle.rules.specs.Events.{plan_for, opcode_of, fields_of, input_of}
use Rattle.rules.specs.Nonce.{nonce, random, nonce_input, nonce_random}
use Rattle.rules.specs.Mac.{mac, key_spent, draws_key}
use Rattle.rules.specs.CheckMac.{check_mac, check_mac_effect}
use Rattle.rules.specs.GenDig.{gen_dig, gen_dig_spent, from_data}
use Rattle.rules.specs.DeriveKey.{derive_key, derive_key_stores, derive_key_mac, derived, refilled, new_target, parent_drawn, parent, asks_mac}
use Rattle.rules.specs.Read.{read}
use Rattle.rules.specs.Write.{write, write_shape, write_free, config_write_free, has_mac, write_effect, write_mac, written, encrypted, otp_written, plain}
use Rattle.rules.specs.Upkeep.{lock, lock_free, zone_open, update_extra, dev_rev}
use Rattle.rules.proofs.Tests.{and_left, and_right}
use Rattle.rules.proofs.Shapes.{size_clear}
use Rattle.rules.proofs.Uses.{use_within}
use Rattle.rules.proofs.Settle.{settle_all}

-- a property that holds of all the stores above, under a configuration
pub record Allows (config : List ℕ) (P : Store → Type 0) : Type 0 where
  pub otp : (at b : ℕ) → P (in_otp at b)
  pub slots : (at b : ℕ) → P (in_data at b)
  pub counts : (at b : ℕ) → 52 ≤ at → at ≤ 85 → P (in_config at b)
  pub unlocked : config_locked config ≡ false → (at b : ℕ) → at < 84 → P (in_config at b)
  pub locks : (f : Fields) → zone_open config f ≡ true → (at : ℕ) → P (in_config at 0x00)

abbrev pub All : (Store → Type 0) → List Store → Type 0
All P [] = Unit {0}
All P (x ∷ xs) = P x × All P xs

-- ---- numbers

first_above : (config : List ℕ) (at n : ℕ) → at ≤ first_nonzero config at n
unfolding first_nonzero
first_above config at zero = omega arith
first_above config at (suc n) =
    let rest : at + 1 ≤ first_nonzero config (at + 1) n = first_above config (at + 1) n in
    if_either (λ (m : ℕ). at ≤ m) (byte at config is 0) (omega arith) (omega arith)

use_above : (config : List ℕ) (k : Slot) → 52 ≤ use_at config k
unfolding use_at
use_above config k =
    let last : 68 ≤ first_nonzero config 68 15 = first_above config 68 15 in
    if_either (λ (m : ℕ). 52 ≤ m) (index k is 15) (omega arith) (omega arith)

-- bytes written to the configuration end before its byte 84
module _ (d : Device) (f : Fields) (input : List ℕ) (shape : write_shape f input ≡ true) (free : write_free d f input ≡ true) (z : zone f is 0 ≡ true) where
  unlocked_fits : (config_locked d.config ≡ false) × (position f + length input ≤ 84)
  unfolding write_free config_write_free
  unlocked_fits =
      let no-lock : Bool = not (config_locked d.config) in
      let clear : Bool = no-lock && not (bit 6 f.param1) in
      let bare : Bool = clear && not (has_mac input) in
      let above : Bool = bare && 16 up_to position f in
      let all : (above && position f + size f up_to 84) ≡ true = rw z at free in
      let bare-true : bare ≡ true = and_left bare (16 up_to position f) (and_left above _ all) in
      let unlocked : no-lock ≡ true = and_left no-lock _ (and_left clear _ bare-true) in (
        not-true (config_locked d.config) unlocked,
        omega (arith, size_clear f input shape (not-true (has_mac input) (and_right clear _ bare-true)), leb-true (position f + size f) 84 (and_right above _ all)),
      )

-- ---- rows, uses, a key that is rolled, a write

module _ (P : Store → Type 0) where
  all_append : (xs ys : List Store) → All P xs → All P ys → All P (xs ++ ys)
  all_append [] ys p q = q
  all_append (x ∷ xs) ys p q = (p.0, all_append xs ys p.1 q)

  all_upwards : (at : ℕ → ℕ → Store) (top : ℕ) → ((p b : ℕ) → p < top → P (at p b)) → (p : ℕ) (row : List ℕ) → p + length row ≤ top
      → All P (upwards at p row)
  all_upwards at top each p [] h = tt
  all_upwards at top each p (b ∷ row) h = (each p b (omega arith), all_upwards at top each (p + 1) row (omega arith))

module _ (P : Store → Type 0) (config : List ℕ) (w : Allows config P) where
  all_data : (p : ℕ) (row : List ℕ) → All P (upwards in_data p row)
  all_data p row = all_upwards P in_data (p + length row) (λ i b h. w.slots i b) p row (omega arith)

  all_otp : (p : ℕ) (row : List ℕ) → All P (upwards in_otp p row)
  all_otp p row = all_upwards P in_otp (p + length row) (λ i b h. w.otp i b) p row (omega arith)

  -- a use, spent where a test passes
  all_spent : (t : Bool) (k : Slot) → All P (if t then spend config k else [])
  unfolding spend
  all_spent t k =
      if_either (All P) t
      (if_either (All P) (limited config k) (w.counts _ _ (use_above config k) (omega (arith, use_within config k)), tt) tt)
      tt

  all_refilled : (k : Slot) → All P (refilled config k)
  unfolding refilled
  all_refilled k =
      if_all (All P) (index k under 8) _ []
      (λ a. let l : index k < 8 = ltb-true (index k) 8 a in
      (w.counts _ _ (omega arith) (omega arith), (w.counts _ _ (omega arith) (omega arith), tt)))
      (λ a. tt)

-- ---- commands

module _ (P : Store → Type 0) (d : Device) (w : Allows d.config P) where
  abbrev AllPlan : Plan → Type 0
  AllPlan p = All P p.stores

  all_written : (f : Fields) (value : List ℕ) → (zone f is 0 ≡ true → (config_locked d.config ≡ false) × (position f + length value ≤ 84))
      → All P (written d f value)
  unfolding written
  all_written f value fits =
      if_all (All P) (zone f is 0) _ _
      (λ z. all_upwards P in_config 84 (λ i b h. w.unlocked (fits z).0 i b h) (position f) value (fits z).1)
      (λ z. if_either (All P) (zone f is 1) (all_otp P d.config w (position f) (otp_written d f value)) (all_data P d.config w (position f) value))

  all_write : (f : Fields) (input : List ℕ) → write_shape f input ≡ true → write_free d f input ≡ true → AllPlan (write_effect d f input)
  unfolding write_effect encrypted
  all_write f input shape free =
      if_all AllPlan (encrypted d.config f) _ _
      (λ e. if_either AllPlan (equal (write_mac d f input) (bytes 32 63 input)) (all_written f (plain d input) (λ z. absurd (false≢true (rw z at e)))) tt)
      (λ e. all_written f input (unlocked_fits d f input shape free))

  all_derived : (f : Fields) → AllPlan (derived d f)
  unfolding derived derive_key_stores
  all_derived f =
      let config = d.config in
      let spent : List Store = if parent_drawn config f then spend config (parent config f) else [] in
      let row = upwards in_data (32 * index (key f)) (new_target d f) in
      all_append P (spent ++ row) (refilled config (key f))
      (all_append P spent row (all_spent P config w (parent_drawn config f) (parent config f)) (all_data P config w (32 * index (key f)) (new_target d f)))
      (all_refilled P config w (key f))

  all_effect : (c : Command) (f : Fields) (input supplied : List ℕ) → (rule_of c d f input supplied).shape ≡ true → (rule_of c d f input supplied).free ≡ true
      → AllPlan (rule_of c d f input supplied).effect
  unfolding read mac write gen_dig nonce lock lock_free random update_extra check_mac check_mac_effect dev_rev derive_key nonce_input nonce_random key_spent gen_dig_spent
  all_effect a_read f input supplied shape free = tt
  all_effect a_mac f input supplied shape free = all_spent P d.config w (draws_key f) (key f)
  all_effect a_write f input supplied shape free = all_write f input shape free
  all_effect a_gen_dig f input supplied shape free = all_spent P d.config w (from_data f) (key f)
  all_effect a_nonce f input supplied shape free = if_either AllPlan (f.param1 is 3) tt tt
  all_effect a_lock f input supplied shape free = (w.locks f (and_left (zone_open d.config f) _ free) _, tt)
  all_effect a_random f input supplied shape free = tt
  all_effect a_derive_key f input supplied shape free = if_either AllPlan (asks_mac d.config f ⇒ equal (derive_key_mac d f) input) (all_derived f) tt
  all_effect an_update_extra f input supplied shape free = (
    if_either (λ (at : ℕ). P (in_config at (f.param2 % 256))) (f.param1 is 1) (w.counts _ _ (omega arith) (omega arith))
        (w.counts _ _ (omega arith) (omega arith)),
    tt,
  )
  all_effect a_check_mac f input supplied shape free = all_spent P d.config w (draws_key f) (key f)
  all_effect a_dev_rev f input supplied shape free = tt
  all_effect unknown f input supplied shape free = tt

  pub all_stores : (b supplied : List ℕ) → AllPlan (plan_for d b supplied)
  unfolding plan_for
  all_stores b supplied =
      let c : Command = command_of (opcode_of b) in
      settle_all AllPlan (rule_of c d (fields_of b) (input_of b) supplied) (all_effect c (fields_of b) (input_of b) supplied) tt tt
