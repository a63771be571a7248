-- What a caller sends who had a command framed: a whole block, which is read as it was asked.
use Prim.Native.Nat.{ℕ, ◌+◌, ◌-◌, ◌*◌, ◌/◌, ◌%◌, ◌≤◌}
use mathlib.Core.Path.{◌≡◌, refl, sym}
use mathlib.Core.Bool.{true}
use mathlib.Core.List.{List, [], ◌∷◌, ◌++◌}
use native.Mathlib.Numerals.{add-one}
use native.Mathlib.Omega.{arith}
use borrow.Author.Tests.{le-ltb, le-leb, leb-true, eq-eqb}
use lib.ListN.{length, get_or, take, drop, length-append}
use lib.Seq.{take_at, get_or_at, get_or-append-add}
use Rattle.wire.specs.Wire.{low_first, check_value, counted, frame, low_first_at, whole}
use Rattle.wire.proofs.Laws.{length_frame}
use Rattle.rules.specs.Events.{opcode_of, fields_of, input_of, front_of}
use Rattle.rules.proofs.Tests.{and_left}
use Rattle.blocks.specs.Blocks.{command_block, fits, block_length, buffer_after}

-- a frame of at least four and at most 81 bytes is whole
whole_frame : (p : List ℕ) → 4 ≤ length p → length p ≤ 81 → whole (frame p) ≡ true
unfolding whole low_first_at frame counted
whole_frame p h k =
    let n : ℕ = length p in
    let c : ℕ = check_value (counted p) in
    let end : n + 3 - 2 ≡ n + 1 = omega arith in
    let ahead : take (n + 1) (frame p) ≡ counted p = take_at (counted p) (low_first c) (n + 1) (sym (add-one n)) in
    let low : get_or (frame p) (n + 1) 0 ≡ c % 256 = get_or_at (counted p) (c % 256) (c / 256 ∷ []) 0 (n + 1) (sym (add-one n)) in
    let high : get_or (frame p) (n + 1 + 1) 0 ≡ c / 256 = rw (add-one n) (get_or-append-add (counted p) (low_first c) 1 0) in
    let both : c % 256 + c / 256 * 256 ≡ c = omega arith in
    let least = le-leb 7 (n + 3) (omega arith) in
    let most = le-leb (n + 3) 84 (omega arith) in
    rw (length_frame p, end, ahead, low, high, both, least, most, eq-eqb (n + 3) (n + 3) refl, eq-eqb c c refl)

module _ (opcode param1 param2 : ℕ) (input : List ℕ) where
  abbrev block : List ℕ
  block = command_block opcode param1 param2 input

  length_block : length block ≡ length input + 7
  unfolding command_block
  length_block = omega (arith, length_frame (opcode ∷ param1 ∷ low_first param2 ++ input))

  module _ (buffer : List ℕ) (h : fits input buffer ≡ true) where
    -- the front part of the buffer, by the length that was given
    abbrev pub sent : List ℕ
    sent = front_of (block_length input buffer) (buffer_after opcode param1 param2 input buffer)

    sent_block : sent ≡ block
    unfolding block_length buffer_after
    sent_block =
        let rest : List ℕ = drop (length input + 7) buffer in
        let l : length input + 7 ≤ length (block ++ rest) = simp length-append (omega (arith, length_block)) in
        rw (h, le-ltb _ _ l) (take_at block rest (length input + 7) length_block)

    pub sent_whole : whole sent ≡ true
    unfolding fits command_block
    sent_whole =
        let few : length input ≤ 77 = leb-true (length input) 77 (and_left _ _ h) in
        rw sent_block (whole_frame (opcode ∷ param1 ∷ low_first param2 ++ input) (omega arith) (omega arith))

    pub sent_read : (opcode_of sent ≡ opcode) × (fields_of sent ≡ record { param1 = param1; param2 = param2 }) × (input_of sent ≡ input)
    unfolding command_block frame counted
    sent_read =
        let both : param2 % 256 + 256 * (param2 / 256) ≡ param2 = omega arith in
        let n : length input + 7 - 7 ≡ length input = omega arith in
        rw (sent_block, length_block, n, both) (refl, refl, take_at input _ (length input) refl)
