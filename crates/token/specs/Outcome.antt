-- An event gives its number, the new state and the answer's length.
use Rattle.std.specs.Prelude.{ℕ, Bool, ◌&&◌, List, length, if◌then◌else◌}
use Rattle.rules.specs.declared.Number.{Number}
use Rattle.rules.specs.declared.Number.TheVariants.{ShortOutput, WrongRandom}
use Rattle.rules.specs.declared.Power.TheVariants.{Asleep}
use Rattle.rules.specs.Words.{◌is◌, ◌under◌, ◌up_to◌}
use Rattle.rules.specs.State.{fresh_device, fresh_number}
use Rattle.rules.specs.Events.{Turn, number_for}
use Rattle.token.specs.declared.Token.{Token}
use Rattle.token.specs.declared.Outcome.{Outcome}
use Rattle.token.specs.declared.fresh.Made.{Made}

-- a number with an empty answer, the token as it is
abbrev pub unchanged : Token → Number → Outcome
unchanged s n = record { token = s; number = n; length = 0 }

-- 1 output under 35 bytes, 2 random bytes not exactly 32: so many bytes of each are right where neither applies.
abbrev pub buffers_fit : ℕ → ℕ → Bool
buffers_fit supplied output = 35 up_to output && supplied is 32

-- which of the two applies to buffers that are not right
abbrev pub refusal : ℕ → Number
refusal output = if output under 35 then ShortOutput else WrongRandom

-- 1 and 2 apply to every event and precede all else, 1 first.
unfoldable pub outcome : Token → Turn → List ℕ → List ℕ → Outcome
outcome s t supplied output =
    if length output under 35 then unchanged s ShortOutput
    else (if length supplied is 32
    then record { token = record { device = t.device; power = t.power }; number = number_for t.answer; length = length t.answer }
    else unchanged s WrongRandom)

-- A fresh state is made from 664 bytes, Asleep, TempKey empty; number 4 and the 664 zeros' state for any other length.
unfoldable pub fresh_of : List ℕ → Made
fresh_of image = record { token = record { device = fresh_device image; power = Asleep }; number = fresh_number image }
