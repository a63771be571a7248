-- What the bench program prints, by the records and lines of Records.antt.
use Rattle.std.specs.Prelude.{ℕ, zero, suc, ◌+◌, Bool, true, false, List, [], ◌++◌, length, drop, if◌then◌else◌}
use Rattle.rules.specs.Words.{◌under◌, ◌up_to◌}
use Rattle.rules.specs.Events.{Turn, silent, wake_turn, idle_turn, sleep_turn, block_turn, number_for}
use Rattle.token.specs.declared.Token.{Token}
use Rattle.token.specs.declared.Outcome.{Outcome}
use Rattle.token.specs.Outcome.{fresh_of}
use Rattle.records.specs.declared.Record.{Record}
use Rattle.records.specs.declared.Record.TheVariants.{Image, Wake, Idle, Sleep, Block, Bad}
use Rattle.records.specs.Records.{record_at, length_of, image_at, block_at, random_at, line_of, too_long}

-- What a record at an offset comes to, given the token before it: EE makes a fresh state and WK, ID, SL, BK are events. EE has no answer;
-- a bad record has none and changes nothing.
abbrev pub turn_of : Record → Token → List ℕ → ℕ → Turn
turn_of Image s input at = silent (fresh_of (image_at input at)).token.device (fresh_of (image_at input at)).token.power
turn_of Wake s input at = wake_turn s.device s.power
turn_of Idle s input at = idle_turn s.device s.power
turn_of Sleep s input at = sleep_turn s.device s.power
turn_of (Block n) s input at = block_turn s.device s.power (block_at input at n) (random_at input at n)
turn_of Bad s input at = silent s.device s.power

abbrev pub turn_at : Token → List ℕ → ℕ → Turn
turn_at s input at = turn_of (record_at input at) s input at

-- the token after it
abbrev pub after : Turn → Token
after t = record { device = t.device; power = t.power }

-- One line each: `wake`, `idle`, `sleep` or `block`, a space, then the answer in upper-case hex, or `none`. EE prints `image`.
unfoldable pub line_at : Token → List ℕ → ℕ → List ℕ
line_at s input at = line_of (record_at input at) at (number_for (turn_at s input at).answer) (turn_at s input at).answer

-- A bad or cut record, or one before the first EE, prints `bad`, a space and its decimal offset, and ends.
abbrev pub is_bad : Record → Bool
is_bad Image = false
is_bad Wake = false
is_bad Idle = false
is_bad Sleep = false
is_bad (Block n) = false
is_bad Bad = true

-- the lines of at most n records, from an offset on, and none at the end of the input
unfoldable pub lines_from : ℕ → Token → List ℕ → ℕ → List ℕ
lines_from zero s input at = []
lines_from (suc n) s input at =
    if at under length input
    then line_at s input at
    ++ (if is_bad (record_at input at)
    then []
    else lines_from n (after (turn_at s input at)) input (at + length_of (record_at input at)))
    else []

-- All of them: no record but a bad one takes less than two bytes, so there are no more records than bytes. No record before the first EE
-- has an event, so that any token will do at the start.
unfoldable pub lines : List ℕ → List ℕ
lines input = lines_from (length input) (fresh_of []).token input 0

-- Standard input, up to 65,536 bytes, is a run of records; a longer input prints only `too long`.
unfoldable pub printed : List ℕ → List ℕ
printed input = if length input up_to 65536 then lines input else too_long

-- ---- What a step of the run gives: the outcome of the record's turn, and its answer in front of the output.

abbrev pub outcome_of : Turn → Outcome
outcome_of t = record { token = after t; number = number_for t.answer; length = length t.answer }

abbrev pub in_front : List ℕ → List ℕ → List ℕ
in_front answer output = answer ++ drop (length answer) output
