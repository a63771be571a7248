-- The soundings: the checker computes each from the definitions.
use mathlib.Core.Path.{refl}
use mathlib.Core.List.{zip_with}
use lib.Count.{ones, count_leading_zeros}
use Rattle.digest.specs.Sha256.{K, H0, pad, words, next, schedule_to, round, rounds, plus, compress, hash, sha256}
use Rattle.wire.specs.Wire.{bit_in, bits_in, check_from, check_value, counted, frame, low_first_at, whole}
use Rattle.rules.specs.Words.{named, only_bits, equal}
use Rattle.rules.specs.State.{slot_bytes, slot_config}
use Rattle.rules.specs.Uses.{limited, uses_left, use_left, use_at, clear_highest, spend}
use Rattle.rules.specs.Messages.{check_mac_message}
use Rattle.rules.specs.Address.{address_fits, position}
use Rattle.rules.specs.Nonce.{nonce_shape, nonce_input, nonce}
use Rattle.rules.specs.Mac.{mac_shape, first_row, second_row, mac_temp_key, mac_slot, mac_free, key_spent, mac}
use Rattle.rules.specs.CheckMac.{check_mac_shape, check_mac_temp_key, check_mac_slot, check_mac_free, check_mac_digest, check_mac_status, check_mac_effect, check_mac}
use Rattle.rules.specs.DeriveKey.{derive_key_shape, source, derive_key_temp_key, derive_key_slots, derive_key_free, new_target, refilled, derive_key_stores, derived, derive_key}
use Rattle.rules.specs.Write.{write_shape, encrypted, locked_write_free, write_free, otp_written, written, write_effect, write}
use Rattle.rules.specs.Upkeep.{dev_rev_shape, dev_rev}
use Rattle.rules.specs.Commands.{command_of}
use Rattle.rules.specs.Events.{plan_for, wake_turn, block_turn, output_after}
use Rattle.token.specs.Outcome.{outcome, fresh_of}
use Rattle.demands.specs.Soundings.{Soundings}

pub soundings : Soundings
unfolding ones count_leading_zeros
    K H0 pad words next schedule_to round rounds plus compress hash sha256
    bit_in bits_in check_from check_value counted frame low_first_at whole
    named only_bits equal slot_bytes slot_config limited uses_left use_left use_at clear_highest spend check_mac_message address_fits position
    nonce_shape nonce_input nonce
    mac_shape first_row second_row mac_temp_key mac_slot mac_free key_spent mac
    check_mac_shape check_mac_temp_key check_mac_slot check_mac_free check_mac_digest check_mac_status check_mac_effect check_mac
    derive_key_shape source derive_key_temp_key derive_key_slots derive_key_free new_target refilled derive_key_stores derived derive_key
    write_shape encrypted locked_write_free write_free zip_with otp_written written write_effect write
    dev_rev_shape dev_rev command_of plan_for wake_turn block_turn output_after outcome fresh_of
soundings = record {
  p1 = refl;
  p2 = refl;
  p3 = refl;
  p4 = refl;
  p5 = refl;
  p6 = refl;
  p7 = refl;
  p8 = refl;
  p9 = (refl, refl, refl);
  p10 = (refl, refl, refl);
  p11 = refl;
  p12 = refl;
}
