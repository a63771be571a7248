-- The records of an input as steps: images and the demands' calls; and the lines of steps.
use Rattle.std.specs.Prelude.{ℕ, zero, suc, ◌+◌, Bool, true, ◌&&◌, List, [], ◌∷◌, ◌++◌, length, if◌then◌else◌}
use Rattle.rules.specs.Words.{◌under◌, zeros}
use Rattle.rules.specs.Events.{Event, wake, idle, sleep, block}
use Rattle.token.specs.declared.Token.{Token}
use Rattle.token.specs.Outcome.{fresh_of}
use Rattle.records.specs.declared.Record.{Record}
use Rattle.records.specs.declared.Record.TheVariants.{Image, Wake, Idle, Sleep, Block, Bad}
use Rattle.records.specs.Records.{record_at, length_of, image_at, block_at, random_at, ascii, decimal, event_line}
use Rattle.demands.specs.Calls.{Call, given, answer_of, right_buffers, call}
use Rattle.bench.specs.Bench.{is_bad}

-- Standard input is a run of records. A record is a step: an image, of which a fresh token is made; a call; or bad, at its offset.
pub data Step : Type 0 where
  image : List ℕ → Step
  made : Call → Step
  bad : ℕ → Step

-- EE then 664 bytes; WK; ID; SL; BK, length byte, block, 32 random bytes. Every call has 35 bytes of output; WK, ID and SL have 32 zeros
-- for random bytes.
abbrev pub block_call : List ℕ → ℕ → ℕ → Call
block_call input at n = record { event = block (block_at input at n); random = random_at input at n; output = zeros 35 }

abbrev pub step_of : Record → List ℕ → ℕ → Step
step_of Image input at = image (image_at input at)
step_of Wake input at = made (call wake)
step_of Idle input at = made (call idle)
step_of Sleep input at = made (call sleep)
step_of (Block n) input at = made (block_call input at n)
step_of Bad input at = bad at

abbrev pub step_at : List ℕ → ℕ → Step
step_at input at = step_of (record_at input at) input at

-- the steps of at most n records, from an offset on; a bad record is the last, and there is none at the end of the input
unfoldable pub steps_from : ℕ → List ℕ → ℕ → List Step
steps_from zero input at = []
steps_from (suc n) input at =
    if at under length input
    then step_at input at ∷ (if is_bad (record_at input at) then [] else steps_from n input (at + length_of (record_at input at)))
    else []

-- all of them: there are no more records than bytes
unfoldable pub steps : List ℕ → List Step
steps input = steps_from (length input) input 0

-- whether the buffers of a step, if it is a call, are right: numbers 1 and 2 do not apply
abbrev pub buffers_right : Step → Bool
buffers_right (image bytes) = true
buffers_right (made c) = right_buffers c
buffers_right (bad at) = true

abbrev pub all_buffers_right : List Step → Bool
all_buffers_right [] = true
all_buffers_right (x ∷ xs) = buffers_right x && all_buffers_right xs

-- the token after a step, and after some
abbrev pub token_after : Token → Step → Token
token_after s (image bytes) = (fresh_of bytes).token
token_after s (made c) = (given s c).token
token_after s (bad at) = s

abbrev pub after_steps : Token → List Step → Token
after_steps s [] = s
after_steps s (x ∷ xs) = after_steps (token_after s x) xs

-- One line each: `wake`, `idle`, `sleep` or `block`, a space, then the answer in upper-case hex, or `none`. EE prints `image`. A bad record
-- prints `bad`, a space and its decimal offset.
abbrev pub name_of : Event → List ℕ
name_of wake = ascii "wake "
name_of idle = ascii "idle "
name_of sleep = ascii "sleep "
name_of (block b) = ascii "block "

abbrev pub line_on : Token → Step → List ℕ
line_on s (image bytes) = ascii "image\n"
line_on s (made c) = event_line (name_of c.event) (given s c).number (answer_of s c)
line_on s (bad at) = ascii "bad " ++ (decimal at ++ ascii "\n")

-- the lines of steps, each on the token that those before it left
abbrev pub told : Token → List Step → List ℕ
told s [] = []
told s (x ∷ xs) = line_on s x ++ told (token_after s x) xs
