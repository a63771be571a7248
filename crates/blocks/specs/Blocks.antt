-- Blocks that a caller sends: a command framed as a whole block, so that nobody writes a check value by hand.
use Rattle.std.specs.Prelude.{ℕ, ◌+◌, Bool, ◌&&◌, List, ◌∷◌, ◌++◌, length, drop, if◌then◌else◌}
use Rattle.wire.specs.Wire.{low_first, frame}
use Rattle.rules.specs.Words.{◌up_to◌}

-- Block: count, opcode, Param1, Param2 (low byte first), data, check value (low byte first).
unfoldable pub command_block : ℕ → ℕ → ℕ → List ℕ → List ℕ
command_block opcode param1 param2 input = frame (opcode ∷ param1 ∷ low_first param2 ++ input)

-- A block has 7 to 84 bytes, so data of up to 77 fits it; and the buffer must have room for the block.
unfoldable pub fits : List ℕ → List ℕ → Bool
fits input buffer = length input up_to 77 && (length input + 7) up_to length buffer

-- Where the data fits, the block stands at the front of the buffer and the rest is unchanged; else nothing is put, and the length is 0.
unfoldable pub block_length : List ℕ → List ℕ → ℕ
block_length input buffer = if fits input buffer then length input + 7 else 0

unfoldable pub buffer_after : ℕ → ℕ → ℕ → List ℕ → List ℕ → List ℕ
buffer_after opcode param1 param2 input buffer =
    if fits input buffer then command_block opcode param1 param2 input ++ drop (length input + 7) buffer else buffer
