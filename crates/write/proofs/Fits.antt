-- What the conditions of Write hold: a MAC is present exactly when encrypted; and old AND new in the first bytes of two rows.
use Rattle.std.specs.Prelude.{if◌then◌else◌}
use Prim.Native.Nat.{ℕ, ◌+◌, ◌≤◌}
use mathlib.Core.Path.{◌≡◌, ◌∙◌}
use mathlib.Core.Bool.{Bool, true, false, not, ◌&&◌}
use mathlib.Core.List.{List}
use native.Mathlib.Omega.{arith}
use lib.ListN.{length, take, drop}
use lib.Seq.{take_all}
use lib.Bits.{bit_and}
use borrow.Author.Tests.{not-true}
use Rattle.rules.specs.declared.Device.{Device}
use Rattle.rules.specs.declared.Fields.{Fields}
use Rattle.rules.specs.Words.{◌iff◌, ◌is◌, ◌up_to◌, bit}
use Rattle.rules.specs.State.{config_locked, values_locked}
use Rattle.rules.specs.Address.{zone, size, position}
use Rattle.rules.specs.Write.{has_mac, slot_encrypted, config_write_free, encrypted, locked_write_free, unlocked_write_free, write_free, and_row}
use Rattle.rules.proofs.Tests.{and_left, and_right, iff_same}
use Rattle.rules.proofs.Rows.{take_zip}
use Rattle.rules.proofs.Shapes.{write_fits, size_clear, size_mac}
use Rattle.rows.specs.Row.{row}
use Rattle.rows.proofs.Row.{take_row, row_whole}
use Rattle.address.proofs.Within.{size_small, otp_within}

-- ---- MAC present exactly when encrypted

-- configuration takes no MAC
no_mac : (config : List ℕ) (f : Fields) (input : List ℕ) → config_write_free config f input ≡ true → has_mac input ≡ false
unfolding config_write_free
no_mac config f input h =
    let unlocked = not (config_locked config) in
    let plain = not (bit 6 f.param1) in
    let none = not (has_mac input) in
    let above = 16 up_to position f in
    let under = position f + size f up_to 84 in
    not-true (has_mac input) (and_right (unlocked && plain) none (and_left (unlocked && plain && none) above (and_left (unlocked && plain && none && above) under h)))

by_zone : (t a b m e : Bool) → (a ≡ true → m ≡ false) → (b ≡ true → m ≡ (if t then false else e)) → (if t then a else b) ≡ true → m ≡ (if t then false else e)
by_zone true a b m e none same h = none h
by_zone false a b m e none same h = same h

pub mac_encrypted : (d : Device) (f : Fields) (input : List ℕ) → write_free d f input ≡ true → has_mac input ≡ encrypted d.config f
unfolding write_free encrypted
mac_encrypted d f input h =
    let locked = config_locked d.config in
    let same = has_mac input iff encrypted d.config f in
    let rest = if values_locked d.config then locked_write_free d f else unlocked_write_free d f in
    by_zone (zone f is 0) (config_write_free d.config f input) (locked && same && rest) (has_mac input)
    (if values_locked d.config then zone f is 2 && slot_encrypted d.config f else bit 6 f.param1)
    (no_mac d.config f input)
    (λ k. iff_same (has_mac input) (encrypted d.config f) (and_right locked same (and_left (locked && same) rest k)))
    h

-- what shape and conditions say of the value and of the MAC
pub ruleset shaped = (write_fits, size_clear, size_mac, mac_encrypted, row_whole)

-- ---- old AND new: what stands in the first bytes of two rows
pub and_taken : (old value : List ℕ) (at n : ℕ) → n ≤ 32 → at + n ≤ length old → length value ≡ n
    → take n (and_row (row old at n) (row value 0 n)) ≡ and_row (take n (drop at old)) value
and_taken old value at n h k e =
    let f : take n (row value 0 n) ≡ value = take_row value 0 n h (omega arith) ∙ take_all n value (omega arith) in
    rw (take_zip bit_and n (row old at n) (row value 0 n), take_row old at n h k, f)

-- that OTP has these bytes, and that they make no more than a row
pub ruleset stored = (otp_within, size_small, and_taken)
