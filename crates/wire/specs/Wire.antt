-- Blocks and answers on the wire, as document 01 has them: the check value, the frame of an answer, and when a block is whole.
use Rattle.std.specs.Prelude.{ℕ, zero, suc, ◌+◌, ◌-◌, ◌*◌, ◌/◌, ◌%◌, List, [], ◌∷◌, ◌++◌, Bool, ◌&&◌, length, get_or, take, drop, eqb, leb, if◌then◌else◌}
use Rattle.std.specs.Int.Bits.{bit_xor}

-- ---- Check value: 16 bits, polynomial 8005, start 0, each byte's lowest bit first, over all bytes before it.

-- A bit b enters the register c: it is compared with the top bit, the register goes up one place, and where they differ 8005 is XORed in.
unfoldable pub bit_in : ℕ → ℕ → ℕ
bit_in c b =
    let up : ℕ = c * 2 % 0x10000 in
    if eqb (c / 0x8000) b then up else bit_xor up 0x8005

-- The n lowest bits of x enter, lowest first.
unfoldable pub bits_in : ℕ → ℕ → ℕ → ℕ
bits_in zero c x = c
bits_in (suc n) c x = bits_in n (bit_in c (x % 2)) (x / 2)

-- Bytes enter after others whose check value is c.
unfoldable pub check_from : ℕ → List ℕ → ℕ
check_from c [] = c
check_from c (x ∷ xs) = check_from (bits_in 8 c x) xs

unfoldable pub check_value : List ℕ → ℕ
check_value l = check_from 0 l

-- ---- Answer: count, 1, 4 or 32 bytes, check value (low byte first).

abbrev pub low_first : ℕ → List ℕ
low_first c = c % 256 ∷ c / 256 ∷ []

-- The bytes of an answer after their count, which counts itself and the check value too.
unfoldable pub counted : List ℕ → List ℕ
counted p = (length p + 3) ∷ p

unfoldable pub frame : List ℕ → List ℕ
frame p = counted p ++ low_first (check_value (counted p))

-- An answer's bytes p fit an output: they are at most 32, and the output has at least 35 bytes.
unfoldable pub fits : List ℕ → List ℕ → Bool
fits out p = leb (length p) 32 && leb 35 (length out)

-- Where they fit, their frame is put at the front of the output and its length given; else nothing is put, and 0 given.
unfoldable pub put_length : List ℕ → List ℕ → ℕ
put_length out p = if fits out p then length p + 3 else 0

unfoldable pub put_output : List ℕ → List ℕ → List ℕ
put_output out p = if fits out p then frame p ++ drop (length p + 3) out else out

-- The frame of any bytes p whose count is one byte: they are at most 252, and the output has room for the frame.
unfoldable pub frame_fits : List ℕ → List ℕ → Bool
frame_fits out p = leb (length p) 252 && leb (length p + 3) (length out)

-- Where they fit, their frame is put at the front of the output and its length given; else nothing is put, and 0 given.
unfoldable pub put_frame_length : List ℕ → List ℕ → ℕ
put_frame_length out p = if frame_fits out p then length p + 3 else 0

unfoldable pub put_frame_output : List ℕ → List ℕ → List ℕ
put_frame_output out p = if frame_fits out p then frame p ++ drop (length p + 3) out else out

-- ---- Block: count, opcode, Param1, Param2 (low byte first), data, check value (low byte first).

-- The number at places i and i + 1, low byte first.
unfoldable pub low_first_at : List ℕ → ℕ → ℕ
low_first_at b i = get_or b i 0 + get_or b (i + 1) 0 * 256

-- FF: the slice is not 7 to 84 bytes, count differs from its length, or the check value is wrong. Otherwise the block is whole.
unfoldable pub whole : List ℕ → Bool
whole b =
    leb 7 (length b) && leb (length b) 84 && eqb (get_or b 0 0) (length b)
    && eqb (low_first_at b (length b - 2)) (check_value (take (length b - 2) b))
