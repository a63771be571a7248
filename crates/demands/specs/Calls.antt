-- Calls on a token, what they give, and runs of calls: what the demands speak of. And tokens and calls for examples.
use Rattle.std.specs.Prelude.{ℕ, Bool, false, ◌&&◌, List, [], ◌∷◌, ◌++◌, length, set, if◌then◌else◌}
use Rattle.wire.specs.Wire.{frame, whole, low_first}
use Rattle.rules.specs.declared.Slot.{Slot}
use Rattle.rules.specs.Words.{zeros}
use Rattle.rules.specs.State.{is_awake}
use Rattle.rules.specs.Plan.{Rule}
use Rattle.rules.specs.Commands.{Command, command_of, rule_of}
use Rattle.rules.specs.Events.{Event, wake, idle, sleep, block, Turn, turn, plan_for, opcode_of, fields_of, input_of, output_after, front_of}
use Rattle.token.specs.declared.Token.{Token}
use Rattle.token.specs.declared.Outcome.{Outcome}
use Rattle.token.specs.Outcome.{outcome, buffers_fit, fresh_of}

-- A call is an event with its block, its random bytes and its output buffer, all of any content and length.
pub record Call : Type 0 where
  pub event : Event
  pub random : List ℕ
  pub output : List ℕ

abbrev pub turn_of : Token → Call → Turn
turn_of s c = turn s.device s.power c.event c.random

-- what a call gives: number, length and the token after it; and the output buffer after it
abbrev pub given : Token → Call → Outcome
given s c = outcome s (turn_of s c) c.random c.output

abbrev pub output_of : Token → Call → List ℕ
output_of s c = output_after (turn_of s c) c.random c.output

-- the answer that is handed back: the front part of the output
abbrev pub answer_of : Token → Call → List ℕ
answer_of s c = front_of (given s c).length (output_of s c)

-- ---- drawing on a slot

-- the buffers are right: numbers 1 and 2 do not apply
abbrev pub right_buffers : Call → Bool
right_buffers c = buffers_fit (length c.random) (length c.output)

-- whether a call runs a command: a whole block given to a token that is Awake, with buffers that are right
unfoldable pub runs : Token → Call → Bool
runs s c = right_buffers c && is_awake s.power && whole_block c.event where
  whole_block : Event → Bool
  whole_block wake = false
  whole_block idle = false
  whole_block sleep = false
  whole_block (block b) = whole b

-- its block, the command in it and that command's rule
abbrev pub block_of : Event → List ℕ
block_of wake = []
block_of idle = []
block_of sleep = []
block_of (block b) = b

abbrev pub command_in : Call → Command
command_in c = command_of (opcode_of (block_of c.event))

abbrev pub rule_in : Token → Call → Rule
rule_in s c = rule_of (command_in c) s.device (fields_of (block_of c.event)) (input_of (block_of c.event)) c.random

-- the slots that a call draws on
unfoldable pub draws : Token → Call → List Slot
draws s c = if runs s c then (plan_for s.device (block_of c.event) c.random).draws else []

-- ---- runs

abbrev pub after : Token → List Call → Token
after s [] = s
after s (c ∷ cs) = after (given s c).token cs

-- ---- for examples: a token made from 664 zeros but for some bytes, each by its position in the image and its value

abbrev pub image : List (ℕ × ℕ) → List ℕ
image [] = zeros 664
image (x ∷ xs) = set (image xs) x.0 x.1

abbrev pub asleep : List (ℕ × ℕ) → Token
asleep xs = (fresh_of (image xs)).token

-- ---- and calls with buffers that are right

abbrev pub call : Event → Call
call e = record { event = e; random = zeros 32; output = zeros 35 }

-- a whole block: count, opcode, Param1, Param2 (low byte first), data, check value (low byte first)
abbrev pub command : ℕ → ℕ → ℕ → List ℕ → Call
command opcode param1 param2 input = call (block (frame (opcode ∷ param1 ∷ low_first param2 ++ input)))
