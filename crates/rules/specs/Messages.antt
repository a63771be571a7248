-- The messages that commands digest, each a list in the document's order, over a command's fields, the keys, OTP and configuration.
-- Messages hold Param2 as sent.
use Rattle.std.specs.Prelude.{ℕ, ◌%◌, ◌||◌, List, [], ◌∷◌, ◌++◌, if◌then◌else◌}
use Rattle.rules.specs.declared.Fields.{Fields}
use Rattle.wire.specs.Wire.{low_first}
use Rattle.rules.specs.Words.{bit, bytes, zeros}
use Rattle.rules.specs.State.{sn0_1, sn2_3, sn4_7, sn8}

-- opcode, Param1, Param2
abbrev pub header : ℕ → Fields → List ℕ
header opcode f = opcode ∷ f.param1 ∷ low_first f.param2

-- Nonce: random 32, input, 16, Param1, low Param2.
unfoldable pub nonce_message : List ℕ → List ℕ → Fields → List ℕ
nonce_message random input f = random ++ input ++ 0x16 ∷ f.param1 ∷ f.param2 % 256 ∷ []

-- MAC: message 88 bytes: first, second, 08, Param1, Param2, OTP0-7, OTP8-10, SN8, SN4-7, SN0-1, SN2-3, unincluded fields zero.
-- Param1 bit 4: OTP 0-10; 5: OTP 0-7; 6: SN2-7.
unfoldable pub mac_message : List ℕ → List ℕ → Fields → List ℕ → List ℕ → List ℕ
mac_message first second f otp config =
    first
    ++ second
    ++ header 0x08 f
    ++ (if bit 4 f.param1 || bit 5 f.param1 then bytes 0 7 otp else zeros 8)
    ++ (if bit 4 f.param1 then bytes 8 10 otp else zeros 3)
    ++ sn8 config
    ++ (if bit 6 f.param1 then sn4_7 config else zeros 4)
    ++ sn0_1 config
    ++ (if bit 6 f.param1 then sn2_3 config else zeros 2)

-- CheckMac: first, second, o0-3, OTP0-7 if bit 5 else zero, o4-6, SN8, o7-10, SN0-1, o11-12.
unfoldable pub check_mac_message : List ℕ → List ℕ → Fields → List ℕ → List ℕ → List ℕ → List ℕ
check_mac_message first second f other otp config =
    first
    ++ second
    ++ bytes 0 3 other
    ++ (if bit 5 f.param1 then bytes 0 7 otp else zeros 8)
    ++ bytes 4 6 other
    ++ sn8 config
    ++ bytes 7 10 other
    ++ sn0_1 config
    ++ bytes 11 12 other

-- GenDig: value, 15, Param1, Param2, SN8, SN0-1, 25 zeros, TempKey: the 96-byte layout, which DeriveKey and an encrypted Write use too.
unfoldable pub layout96 : List ℕ → List ℕ → List ℕ → List ℕ → List ℕ
layout96 value head config last = value ++ head ++ sn8 config ++ sn0_1 config ++ zeros 25 ++ last

-- DeriveKey's MAC: parent, 1C, Param1, Param2, SN8, SN0-1.
unfoldable pub parent_message : List ℕ → Fields → List ℕ → List ℕ
parent_message parent f config = parent ++ header 0x1C f ++ sn8 config ++ sn0_1 config
