-- The two tokens' answers, computed.
use Prim.Native.Nat.{ℕ, ◌/◌}
use mathlib.Core.Path.{◌≡◌, refl, ap, sym, ◌∙◌}
use mathlib.Core.Bool.{true, false}
use mathlib.Core.List.{List, [], ◌∷◌, ◌++◌, zip_with}
use borrow.Author.Tests.{eqb-false}
use lib.ListN.{set}
use lib.Seq.{get_or-set_other}
use lib.Bits.{bit_xor, xor_self, xor_zero_r}
use native.Mathlib.Omega.{arith}
use Rattle.digest.specs.Sha256.{K, H0, pad, words, next, schedule_to, round, rounds, plus, compress, hash, sha256}
use Rattle.wire.specs.Wire.{bit_in, bits_in, check_from, check_value, counted, frame, low_first_at, whole}
use Rattle.wire.proofs.Xor.{xor_assoc}
use Rattle.wire.proofs.Cases.{if_all}
use Rattle.rules.specs.declared.Device.{Device}
use Rattle.rules.specs.declared.Fields.{Fields}
use Rattle.rules.specs.declared.Slot.{Slot}
use Rattle.rules.specs.Words.{◌is◌, byte, zeros, named, only_bits, equal}
use Rattle.rules.specs.State.{slot_bytes, slot_config}
use Rattle.rules.specs.Plan.{Plan, settle}
use Rattle.rules.specs.Uses.{limited, use_left, spend}
use Rattle.rules.specs.Messages.{mac_message, check_mac_message, layout96}
use Rattle.rules.specs.Mac.{draws_key, mac_shape, first_row, second_row, mac_temp_key, mac_slot, mac_free, key_drawn, key_spent, mac_digest, mac}
use Rattle.rules.specs.CheckMac.{check_mac_shape, check_mac_temp_key, check_mac_slot, check_mac_free, check_mac_digest, copy_holds, check_mac_draws, check_mac_key, check_mac_status, check_mac_effect, check_mac}
use Rattle.rules.specs.GenDig.{gen_dig_shape, gen_dig_free, gen_dig_value, gen_dig_header, gen_dig_key, gen_dig_draws, gen_dig_spent, gen_dig}
use Rattle.rules.specs.DeriveKey.{derive_key_shape, source, derive_key_temp_key, derive_key_slots, derive_key_free, derive_key_draws, new_target, refilled, derive_key_stores, derived, derive_key}
use Rattle.rules.specs.Address.{address_fits, position, encrypts, encrypts_for}
use Rattle.rules.specs.Read.{read_shape, data_read_free, read_free, read_bytes, read}
use Rattle.rules.specs.Write.{write, write_shape, write_free, config_write_free, write_effect, encrypted, written}
use Rattle.rules.specs.Upkeep.{lock, lock_shape, lock_free, zone_open, summary}
use Rattle.rules.specs.Nonce.{nonce_shape, nonce_input, nonce}
use Rattle.rules.specs.Commands.{command_of}
use Rattle.rules.specs.Events.{wake, wake_turn, sleep_turn, block_turn, plan_for, output_after}
use Rattle.rules.proofs.Settle.{settle_all}
use Rattle.token.specs.declared.Token.{Token}
use Rattle.token.specs.Outcome.{outcome, fresh_of}
use Rattle.demands.specs.Calls.{Call, block_of, runs, draws, answer_of, after, call}
use Rattle.demands.specs.Demand3.{Alike, Kept, holds, is_mac, spared, draws_on}
use Rattle.demands.specs.Witnesses.{Setting, holding, as_demanded, Exposed, read_slot, gen_dig_of_open, read_slot_encrypted, lock_values, open_slot, lock_configuration, one, another, secret_slot, start, mac_of_slot, run, Witnesses, gen_dig_of_slot, read_encrypted, derive_from_slot, read_derived, copy_of_slot, mac_of_temp_key, check_of_slot}
use Rattle.demands.proofs.SameRuns.{demand_3}

-- two rows that differ at a place
differ : (at : ℕ) (x y : List ℕ) → (byte at x is byte at y) ≡ false → x ≡ y → ⊥
differ at x y h e = eqb-false (byte at x) (byte at y) h (ap (λ (l : List ℕ). byte at l) e)

-- a byte of the data zone outside slot 1 is zero
beside : (i b : ℕ) → (i / 32 ≡ 1 → ⊥) → byte i (set (zeros 512) 32 b) ≡ byte i (zeros 512)
beside i b out = get_or-set_other (zeros 512) 32 i b 0 (λ e. out (omega arith))

tokens_alike : (x : Setting) → Alike secret_slot (holding x 0x11) (holding x 0x22)
unfolding holding fresh_of
tokens_alike x = record {
  config = refl;
  otp = refl;
  tempKey = refl;
  power = refl;
  data_length = refl;
  elsewhere = λ i out. beside i 0x11 out ∙ sym (beside i 0x22 out);
}

-- What is opened to compute an answer, without its digests and with them: to unfold `opening` is to unfold all that its line names.
unfoldable pub opening : Unit {0}
unfolding
    holding fresh_of outcome output_after runs draws holds is_mac spared plan_for wake_turn sleep_turn block_turn command_of
    whole low_first_at check_value check_from bits_in bit_in frame counted
    only_bits named equal zip_with slot_bytes slot_config limited use_left spend
    nonce nonce_shape nonce_input
    mac mac_shape mac_free mac_temp_key mac_slot mac_digest mac_message first_row second_row key_drawn key_spent
    check_mac check_mac_shape check_mac_free check_mac_temp_key check_mac_slot check_mac_digest check_mac_message check_mac_draws check_mac_key check_mac_status
    check_mac_effect copy_holds
    gen_dig gen_dig_shape gen_dig_free gen_dig_value gen_dig_header gen_dig_key gen_dig_draws gen_dig_spent layout96
    derive_key derive_key_shape derive_key_free derive_key_temp_key derive_key_slots derive_key_draws derive_key_stores derived new_target source refilled
    read read_shape read_free data_read_free read_bytes address_fits position encrypts encrypts_for
    write write_shape write_free config_write_free write_effect encrypted written lock lock_shape lock_free zone_open summary
opening = tt

unfoldable pub digesting : Unit {0}
unfolding opening sha256 hash words pad compress plus rounds K schedule_to round H0 next
digesting = tt

tokens_kept : Kept secret_slot one
unfolding opening
tokens_kept = record { locked = refl; secret = refl; never_read = refl }

tokens_unlike : slot_bytes one.device secret_slot ≡ slot_bytes another.device secret_slot → ⊥
unfolding opening
tokens_unlike = differ 0 _ _ refl

run_spared : spared secret_slot one run ≡ true
unfolding opening
run_spared = refl

-- ---- what each call draws on

abbrev Drawn : Call → Type 0
Drawn c = draws_on secret_slot (after one start) c ≡ true

all_drawn : Drawn mac_of_slot × Drawn check_of_slot × Drawn copy_of_slot × Drawn gen_dig_of_slot × Drawn derive_from_slot
unfolding opening
all_drawn = (refl, refl, refl, refl, refl)

-- a Read draws on nothing, whatever the token, nor does a MAC of TempKey alone
none_drawn : (s : Token) (c : Call) → (plan_for s.device (block_of c.event) c.random).draws ≡ [] → draws_on secret_slot s c ≡ false
unfolding draws holds
none_drawn s c e =
    if_all (λ (l : List Slot). holds secret_slot l ≡ false) (runs s c) (plan_for s.device (block_of c.event) c.random).draws []
    (λ a. rw e) (λ a. refl)

read_draws : (d : Device) (f : Fields) (input : List ℕ) → (settle (read d f input)).draws ≡ []
unfolding read
read_draws d f input = settle_all (λ (p : Plan). p.draws ≡ []) (read d f input) (λ a b. refl) refl refl

mac_draws : (d : Device) (f : Fields) (input : List ℕ) → draws_key f ≡ false → (settle (mac d f input)).draws ≡ []
unfolding mac key_drawn
mac_draws d f input h = settle_all (λ (p : Plan). p.draws ≡ []) (mac d f input) (λ a b. rw h) refl refl

all_apart : (s : Token) → (draws_on secret_slot s read_encrypted ≡ false) × (draws_on secret_slot s read_derived ≡ false) × (draws_on secret_slot s mac_of_temp_key ≡ false)
unfolding plan_for command_of frame counted
all_apart s = (
  none_drawn s read_encrypted (read_draws s.device _ _),
  none_drawn s read_derived (read_draws s.device _ _),
  none_drawn s mac_of_temp_key (mac_draws s.device _ _ refl),
)

-- ---- the first bytes of the answers

abbrev Unlike : Setting → List Call → Call → Type 0
Unlike x cs c = (byte 1 (answer_of (after (holding x 0x11) cs) c) is byte 1 (answer_of (after (holding x 0x22) cs) c)) ≡ false

mac_unlike : Unlike as_demanded start mac_of_slot
unfolding digesting
mac_unlike = refl

check_mac_unlike : Unlike as_demanded start check_of_slot
unfolding digesting
check_mac_unlike = refl

copy_unlike : Unlike as_demanded (start ++ copy_of_slot ∷ []) mac_of_temp_key
unfolding digesting
copy_unlike = refl

gen_dig_unlike : Unlike as_demanded (start ++ gen_dig_of_slot ∷ []) read_encrypted
unfolding digesting
gen_dig_unlike = refl

derive_unlike : Unlike as_demanded (start ++ derive_from_slot ∷ []) read_derived
unfolding digesting
derive_unlike = refl

-- ---- other settings

slot_not_secret : Exposed (record { bits = 0x00; lock_value = 0x00; lock_config = 0x00 }) (call wake ∷ []) read_slot
unfolding opening
slot_not_secret = record { alike = tokens_alike _; spared = refl; unlike = differ 1 _ _ refl }

abbrev readable : Setting
readable = record { bits = 0xC0; lock_value = 0x00; lock_config = 0x00 }

allowed_spared : spared secret_slot (holding readable 0x11) (start ++ gen_dig_of_open ∷ read_slot_encrypted ∷ []) ≡ true
unfolding opening
allowed_spared = refl

-- there the answers are the slot's bytes XOR one digest, whatever it is
xor_same : (a b h : ℕ) → bit_xor a h ≡ bit_xor b h → a ≡ b
xor_same a b h e = sym (back a) ∙ ap (λ (x : ℕ). bit_xor x h) e ∙ back b where
  back : (x : ℕ) → bit_xor (bit_xor x h) h ≡ x
  back x = xor_assoc x h h ∙ ap (bit_xor x) (xor_self h) ∙ xor_zero_r x

allowed_unlike : answer_of (after (holding readable 0x11) (start ++ gen_dig_of_open ∷ [])) read_slot_encrypted
    ≡ answer_of (after (holding readable 0x22) (start ++ gen_dig_of_open ∷ [])) read_slot_encrypted
    → ⊥
unfolding opening sha256
allowed_unlike e =
    let h = byte 0 (after (holding readable 0x11) (start ++ gen_dig_of_open ∷ [])).device.tempKey.bytes in
    eqb-false 0x11 0x22 refl (xor_same 0x11 0x22 h (ap (λ (l : List ℕ). byte 1 l) e))

values_are_open : Exposed (record { bits = 0x80; lock_value = 0x55; lock_config = 0x00 }) (call wake ∷ []) lock_values
unfolding opening
values_are_open = record { alike = tokens_alike _; spared = refl; unlike = differ 1 _ _ refl }

config_is_open : Exposed (record { bits = 0x80; lock_value = 0x00; lock_config = 0x55 }) (call wake ∷ open_slot ∷ lock_configuration ∷ []) read_slot
unfolding opening
config_is_open = record { alike = tokens_alike _; spared = refl; unlike = differ 1 _ _ refl }

pub witnesses : Witnesses
witnesses = record {
  alike = tokens_alike as_demanded;
  kept = tokens_kept;
  unlike = tokens_unlike;
  spared = run_spared;
  same = (demand_3 secret_slot one another run (tokens_alike as_demanded) tokens_kept).same run_spared;
  mac = record { drawn = all_drawn.0; unlike = differ 1 _ _ mac_unlike };
  check_mac = record { drawn = all_drawn.1; unlike = differ 1 _ _ check_mac_unlike };
  copy = record { drawn = all_drawn.2; apart = (all_apart _).2; unlike = differ 1 _ _ copy_unlike };
  gen_dig = record { drawn = all_drawn.3; apart = (all_apart _).0; unlike = differ 1 _ _ gen_dig_unlike };
  derive_key = record { drawn = all_drawn.4; apart = (all_apart _).1; unlike = differ 1 _ _ derive_unlike };
  not_secret = slot_not_secret;
  read_allowed = record { alike = tokens_alike readable; spared = allowed_spared; unlike = allowed_unlike };
  values_open = values_are_open;
  config_open = config_is_open;
}
