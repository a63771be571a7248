-- Calls and their numbers: wake, idle, sleep (also watchdog expiry), block.
use Rattle.std.specs.Prelude.{ℕ, ◌+◌, ◌-◌, ◌*◌, List, [], ◌∷◌, ◌++◌, length, take, drop, if◌then◌else◌}
use Rattle.wire.specs.Wire.{frame, whole}
use Rattle.rules.specs.declared.Device.{Device}
use Rattle.rules.specs.declared.Fields.{Fields}
use Rattle.rules.specs.declared.Power.{Power}
use Rattle.rules.specs.declared.Power.TheVariants.{Asleep, Idle, Awake}
use Rattle.rules.specs.declared.Status.TheVariants.{Woken, Damaged}
use Rattle.rules.specs.declared.Number.{Number}
use Rattle.rules.specs.declared.Number.TheVariants.{Answered, NoAnswer}
use Rattle.rules.specs.Words.{◌is◌, ◌under◌, byte}
use Rattle.rules.specs.State.{is_awake, emptied, status_byte}
use Rattle.rules.specs.Plan.{Plan, with_temp_key, apply}
use Rattle.rules.specs.Commands.{command_of, plan_of}

-- Block: count, opcode, Param1, Param2 (low byte first), data, check value (low byte first).
abbrev pub opcode_of : List ℕ → ℕ
opcode_of block = byte 1 block

abbrev pub fields_of : List ℕ → Fields
fields_of block = record { param1 = byte 2 block; param2 = byte 3 block + 256 * byte 4 block }

abbrev pub input_of : List ℕ → List ℕ
input_of block = take (length block - 7) (drop 5 block)

-- what a whole block comes to
unfoldable pub plan_for : Device → List ℕ → List ℕ → Plan
plan_for d block supplied = plan_of (command_of (opcode_of block)) d (fields_of block) (input_of block) supplied

-- what an event comes to: device and power after it, and the answer on the wire, empty where there is no answer
pub record Turn : Type 0 where
  pub device : Device
  pub power : Power
  pub answer : List ℕ

abbrev pub silent : Device → Power → Turn
silent d p = record { device = d; power = p; answer = [] }

abbrev pub answering : Device → Power → List ℕ → Turn
answering d p payload = record { device = d; power = p; answer = frame payload }

-- Wake: Awake and answer status 11 if Asleep or Idle; if Awake, number 3, no change.
unfoldable pub wake_turn : Device → Power → Turn
wake_turn d p = if is_awake p then silent d p else answering d Awake (status_byte Woken ∷ [])

-- Idle: if Awake, Idle, TempKey kept; else no change; number 3.
unfoldable pub idle_turn : Device → Power → Turn
idle_turn d p = silent d (if is_awake p then Idle else p)

-- Sleep: Asleep, TempKey emptied, number 3.
unfoldable pub sleep_turn : Device → Power → Turn
sleep_turn d p = silent (with_temp_key emptied d) Asleep

-- Block when not Awake: number 3, no change. FF: .. State unchanged.
unfoldable pub block_turn : Device → Power → List ℕ → List ℕ → Turn
block_turn d p block supplied =
    if is_awake p
    then (if whole block
    then answering (apply (plan_for d block supplied) d) p (plan_for d block supplied).answer
    else answering d p (status_byte Damaged ∷ []))
    else silent d p

pub data Event : Type 0 where
  wake idle sleep : Event
  block : List ℕ → Event

abbrev pub turn : Device → Power → Event → List ℕ → Turn
turn d p wake supplied = wake_turn d p
turn d p idle supplied = idle_turn d p
turn d p sleep supplied = sleep_turn d p
turn d p (block b) supplied = block_turn d p b supplied

-- 0 answered, 3 event gives no answer
abbrev pub number_for : List ℕ → Number
number_for [] = NoAnswer
number_for (b ∷ bs) = Answered

-- The output after an event. 1 output under 35 bytes, 2 random bytes not exactly 32: everything is left; 0 answered: rest of output unchanged.
unfoldable pub output_after : Turn → List ℕ → List ℕ → List ℕ
output_after t supplied output =
    if length output under 35 then output
    else (if length supplied is 32 then t.answer ++ drop (length t.answer) output else output)

-- The answer is handed back as the front part of the caller's output buffer, asked for by that length; a length beyond the buffer gives the empty part.
abbrev pub front_of : ℕ → List ℕ → List ℕ
front_of n output = if length output under n then [] else take n output
