-- The layout's parts: a state's zones are whole; and where the bytes of a token with whole zones stand, TempKey full or empty.
use Prim.Native.Nat.{ℕ, ◌+◌, ◌≤◌}
use mathlib.Core.Path.{◌≡◌, sym, ◌∙◌}
use mathlib.Core.Bool.{true}
use mathlib.Core.List.{List, [], ◌∷◌, ◌++◌, append_assoc}
use native.Mathlib.Omega.{arith}
use borrow.Author.Tests.{leb-true}
use lib.ListN.{length, length-append}
use lib.Seq.{take_at, drop_at, get_or-append-add}
use Rattle.rules.specs.Words.{◌is◌, ◌up_to◌, byte, bytes, zeros}
use Rattle.rules.specs.State.{emptied}
use Rattle.rules.specs.Plan.{with_temp_key}
use Rattle.rules.proofs.Rows.{length_part}
use Rattle.rules.proofs.Tests.{and_left, and_right}
use Rattle.token.specs.declared.Token.{Token}
use Rattle.desk.specs.Desk.{in_range, is_state, power_byte, temp_key_in, loaded, last_six, saved}
use Rattle.desk.proofs.Laid.{state_length}

-- ---- a state's zones

module _ (s : List ℕ) (h : is_state s ≡ true) where
  pub whole_config : length (loaded s).device.config ≡ 88
  unfolding loaded
  whole_config = length_part s 0 88 (omega (arith, state_length s h))

  pub whole_otp : length (loaded s).device.otp ≡ 64
  unfolding loaded
  whole_otp = length_part s 88 64 (omega (arith, state_length s h))

  pub whole_data : length (loaded s).device.«data» ≡ 512
  unfolding loaded
  whole_data = length_part s 152 512 (omega (arith, state_length s h))

  pub whole_row : length (loaded s).device.tempKey.bytes ≡ 32
  unfolding loaded temp_key_in
  whole_row = length_part s 664 32 (omega (arith, state_length s h))

  pub slot_range : (loaded s).device.tempKey.slotID.0 ≤ 15
  unfolding is_state in_range loaded temp_key_in
  slot_range =
      let all : in_range s ≡ true = and_right (length s is 702) (in_range s) h in
      let r : byte 696 s up_to 15 ≡ true = and_left _ _ (and_left _ _ (and_left _ _ (and_left _ _ (and_left _ _ all)))) in
      omega (arith, leb-true (byte 696 s) _ r)

-- ---- a token's bytes

behind : (p q : List ℕ) (n i : ℕ) → length p ≡ n → byte (n + i) (p ++ q) ≡ byte i q
behind p q n i h = rw (← h) (get_or-append-add p q i 0)

module _ (t : Token) (ha : length t.device.config ≡ 88) (hb : length t.device.otp ≡ 64) (hd : length t.device.«data» ≡ 512)
    (hk : length t.device.tempKey.bytes ≡ 32) where
  abbrev front : List ℕ
  front = t.device.config ++ t.device.otp ++ t.device.«data»

  front_length : length front ≡ 664
  front_length = simp length-append (omega arith)

  pub saved_last : (i : ℕ) → byte (696 + i) (saved t) ≡ byte i (last_six t.device.tempKey t.power)
  unfolding saved
  saved_last i =
      let l : length (front ++ t.device.tempKey.bytes) ≡ 696 = simp length-append (omega arith) in
      behind (front ++ t.device.tempKey.bytes) (last_six t.device.tempKey t.power) 696 i l

  pub saved_length : length (saved t) ≡ 702
  unfolding saved last_six
  saved_length = simp length-append (omega arith)

  saved_front : bytes 0 663 (saved t) ≡ front
  unfolding saved
  saved_front =
      let rest = last_six t.device.tempKey t.power in
      rw (append_assoc front t.device.tempKey.bytes rest) (take_at front (t.device.tempKey.bytes ++ rest) 664 front_length)

  -- TempKey emptied
  pub saved_emptied : saved (record { device = with_temp_key emptied t.device; power = t.power })
      ≡ bytes 0 663 (saved t) ++ zeros 37 ++ byte 701 (saved t) ∷ []
  unfolding saved last_six
  saved_emptied =
      rw (saved_front, saved_last 5)
      (append_assoc front (zeros 32) (last_six emptied t.power) ∙ sym (append_assoc front (zeros 37) (power_byte t.power ∷ [])))

  -- TempKey empty
  pub saved_empty : t.device.tempKey ≡ emptied → bytes 664 700 (saved t) ≡ zeros 37
  unfolding saved last_six
  saved_empty e =
      let rest = last_six emptied t.power in
      rw (e, append_assoc front (zeros 32) rest, drop_at front (zeros 32 ++ rest) 664 front_length)
