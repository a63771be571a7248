-- The desk's C interface, as include/chhutirok.h has it: a token is 702 bytes that the caller keeps.
use Rattle.std.specs.Prelude.{ℕ, Bool, true, false, ◌&&◌, List, [], ◌∷◌, ◌++◌, length, if◌then◌else◌}
use Rattle.rules.specs.declared.TempKey.{TempKey}
use Rattle.rules.specs.declared.Power.{Power}
use Rattle.rules.specs.declared.Power.TheVariants.{Asleep, Idle, Awake}
use Rattle.rules.specs.Words.{◌is◌, ◌up_to◌, byte, bytes}
use Rattle.rules.specs.State.{number_of, slot}
use Rattle.rules.specs.Events.{Turn, Event, turn, output_after}
use Rattle.blocks.specs.Blocks.{fits}
use Rattle.token.specs.declared.Token.{Token}
use Rattle.token.specs.declared.Outcome.{Outcome}
use Rattle.token.specs.Outcome.{outcome, fresh_of}

-- ---- which bytes are a state

-- SlotID 696 (0 to 15), SourceFlag 697, GenData 698, CheckFlag 699, Valid 700 (0 or 1 each), power 701 (0 to 2)
unfoldable pub in_range : List ℕ → Bool
in_range s =
    byte 696 s up_to 15
    && byte 697 s up_to 1
    && byte 698 s up_to 1
    && byte 699 s up_to 1
    && byte 700 s up_to 1
    && byte 701 s up_to 2

unfoldable pub is_state : List ℕ → Bool
is_state s = length s is 702 && in_range s

-- ---- the layout, read and written

abbrev pub flag : ℕ → Bool
flag b = b is 1

abbrev pub flag_byte : Bool → ℕ
flag_byte true = 1
flag_byte false = 0

-- power (0 Asleep, 1 Idle, 2 Awake)
abbrev pub power : ℕ → Power
power b = if b is 0 then Asleep else (if b is 1 then Idle else Awake)

abbrev pub power_byte : Power → ℕ
power_byte Asleep = 0
power_byte Idle = 1
power_byte Awake = 2

-- TempKey's bytes 664-695, SlotID 696, SourceFlag 697, GenData 698, CheckFlag 699, Valid 700
unfoldable pub temp_key_in : List ℕ → TempKey
temp_key_in s = record {
  bytes = bytes 664 695 s;
  slotID = slot (byte 696 s);
  sourceFlag = flag (byte 697 s);
  genData = flag (byte 698 s);
  checkFlag = flag (byte 699 s);
  valid = flag (byte 700 s);
}

-- configuration 0-87, OTP 88-151, data 152-663, TempKey 664-700, power 701
unfoldable pub loaded : List ℕ → Token
loaded s = record {
  device = record { config = bytes 0 87 s; otp = bytes 88 151 s; «data» = bytes 152 663 s; tempKey = temp_key_in s };
  power = power (byte 701 s);
}

-- the last six bytes: SlotID, SourceFlag, GenData, CheckFlag, Valid, power
unfoldable pub last_six : TempKey → Power → List ℕ
last_six k p =
    k.slotID.0 ∷ flag_byte k.sourceFlag ∷ flag_byte k.genData ∷ flag_byte k.checkFlag ∷ flag_byte k.valid ∷ power_byte p ∷ []

unfoldable pub saved : Token → List ℕ
saved t =
    t.device.config ++ t.device.otp ++ t.device.«data» ++ t.device.tempKey.bytes ++ last_six t.device.tempKey t.power

-- ---- an event: its number, the state and the output after it, the answer's length; 40 where the bytes are no state, and nothing is changed

abbrev pub turn_of : List ℕ → Event → List ℕ → Turn
turn_of s e random = turn (loaded s).device (loaded s).power e random

abbrev pub outcome_of : List ℕ → Event → List ℕ → List ℕ → Outcome
outcome_of s e random output = outcome (loaded s) (turn_of s e random) random output

unfoldable pub number : List ℕ → Event → List ℕ → List ℕ → ℕ
number s e random output = if is_state s then number_of (outcome_of s e random output).number else 40

unfoldable pub state_after : List ℕ → Event → List ℕ → List ℕ → List ℕ
state_after s e random output = if is_state s then saved (outcome_of s e random output).token else s

unfoldable pub output_of : List ℕ → Event → List ℕ → List ℕ → List ℕ
output_of s e random output = if is_state s then output_after (turn_of s e random) random output else output

unfoldable pub answer_length : List ℕ → Event → List ℕ → List ℕ → ℕ
answer_length s e random output = if is_state s then (outcome_of s e random output).length else 0

-- ---- a fresh state from an image, into 702 bytes that may hold anything; 40 where they are not 702

unfoldable pub fresh_call_number : List ℕ → List ℕ → ℕ
fresh_call_number image s = if length s is 702 then number_of (fresh_of image).number else 40

unfoldable pub fresh_state : List ℕ → List ℕ → List ℕ
fresh_state image s = if length s is 702 then saved (fresh_of image).token else s

-- ---- a command framed as a block (crates/blocks/specs/Blocks.antt); 42 where its data does not fit

unfoldable pub frame_number : List ℕ → List ℕ → ℕ
frame_number input buffer = if fits input buffer then 0 else 42

-- ---- the version of this interface, CHHUTIROK_VERSION

abbrev pub version : ℕ
version = 1
