-- The bench program: the records of its input, and the lines of its output.
use Rattle.std.specs.Prelude.{ℕ, ◌+◌, ◌-◌, ◌/◌, ◌%◌, Bool, true, false, List, [], ◌∷◌, ◌++◌, length, take, drop, if◌then◌else◌}
use Prim.Native.Char.{code}
use Prim.Native.String.{String, [] as end, ◌∷◌ as ◌then◌}
use Rattle.std.proofs.lemmas.List.Edits.{sets}
use Rattle.rules.specs.Words.{◌is◌, ◌under◌, ◌up_to◌, byte, equal}
use Rattle.rules.specs.declared.Number.{Number}
use Rattle.rules.specs.declared.Number.TheVariants.{Answered, ShortOutput, WrongRandom, NoAnswer, WrongImage}
use Rattle.records.specs.declared.Record.{Record}
use Rattle.records.specs.declared.Record.TheVariants.{Image, Wake, Idle, Sleep, Block, Bad}

-- the bytes of a text in ASCII
abbrev pub ascii : String → List ℕ
ascii end = []
ascii (c then s) = code c ∷ ascii s

-- ---- Standard input is a run of records, each with a mark of two ASCII capitals first:
-- EE then 664 bytes; WK; ID; SL; BK, length byte, block, 32 random bytes.

abbrev pub marked : String → List ℕ → Bool
marked mark rest = equal (take 2 rest) (ascii mark)

-- what the mark says of the record at the front of the rest of the input
unfoldable pub announced : List ℕ → Record
announced rest =
    if marked "EE" rest then Image
    else (if marked "WK" rest then Wake
    else (if marked "ID" rest then Idle
    else (if marked "SL" rest then Sleep
    else (if marked "BK" rest then Block (byte 2 rest)
    else Bad))))

-- how many bytes a record takes; a bad one ends the run
abbrev pub length_of : Record → ℕ
length_of Image = 2 + 664
length_of Wake = 2
length_of Idle = 2
length_of Sleep = 2
length_of (Block n) = 2 + 1 + n + 32
length_of Bad = 0

-- a record that is cut is bad
unfoldable pub uncut : List ℕ → Record
uncut rest = if length rest under length_of (announced rest) then Bad else announced rest

-- a record before the first EE is bad
abbrev pub first : Record → Record
first Image = Image
first Wake = Bad
first Idle = Bad
first Sleep = Bad
first (Block n) = Bad
first Bad = Bad

-- The record at an offset of the input. Since a bad record ends the run, only the one at 0 can stand before the first EE.
unfoldable pub record_at : List ℕ → ℕ → Record
record_at input at = if at is 0 then first (uncut input) else uncut (drop at input)

-- the fields of the record at an offset: an image's 664 bytes; a block of n bytes, and the 32 random bytes after it
abbrev pub image_at : List ℕ → ℕ → List ℕ
image_at input at = take 664 (drop 2 (drop at input))

abbrev pub block_at : List ℕ → ℕ → ℕ → List ℕ
block_at input at n = take n (drop 3 (drop at input))

abbrev pub random_at : List ℕ → ℕ → ℕ → List ℕ
random_at input at n = take 32 (drop (3 + n) (drop at input))

-- ---- One line each: `wake`, `idle`, `sleep` or `block`, a space, then the answer in upper-case hex, or `none`. EE prints `image`.
-- A bad or cut record, or one before the first EE, prints `bad`, a space and its decimal offset.

abbrev pub hex_digit : ℕ → ℕ
hex_digit d = if d under 10 then code "0" + d else code "A" + (d - 10)

unfoldable pub hex : List ℕ → List ℕ
hex [] = []
hex (b ∷ bs) = hex_digit (b / 16) ∷ hex_digit (b % 16) ∷ hex bs

abbrev pub digit : ℕ → ℕ
digit n = code "0" + n % 10

-- five digits hold an offset; zeros in front are left out
abbrev pub zeros_in_front : ℕ → ℕ
zeros_in_front n =
    if n under 10 then 4
    else (if n under 100 then 3
    else (if n under 1000 then 2
    else (if n under 10000 then 1
    else 0)))

abbrev pub five_digits : ℕ → List ℕ
five_digits n = digit (n / 10000) ∷ digit (n / 1000) ∷ digit (n / 100) ∷ digit (n / 10) ∷ digit n ∷ []

unfoldable pub decimal : ℕ → List ℕ
decimal n = drop (zeros_in_front n) (five_digits n)

abbrev pub is_answered : Number → Bool
is_answered Answered = true
is_answered ShortOutput = false
is_answered WrongRandom = false
is_answered NoAnswer = false
is_answered WrongImage = false

unfoldable pub event_line : List ℕ → Number → List ℕ → List ℕ
event_line name n answer = name ++ ((if is_answered n then hex answer else ascii "none") ++ ascii "\n")

-- the line of a record at an offset, whose event had a number and an answer
abbrev pub line_of : Record → ℕ → Number → List ℕ → List ℕ
line_of Image offset n answer = ascii "image\n"
line_of Wake offset n answer = event_line (ascii "wake ") n answer
line_of Idle offset n answer = event_line (ascii "idle ") n answer
line_of Sleep offset n answer = event_line (ascii "sleep ") n answer
line_of (Block k) offset n answer = event_line (ascii "block ") n answer
line_of Bad offset n answer = ascii "bad " ++ (decimal offset ++ ascii "\n")

-- a longer input prints only `too long`
abbrev pub too_long : List ℕ
too_long = ascii "too long\n"

-- ---- A line is put at a position of the output where it fits there, and its length given; else nothing is put, and 0 given.

abbrev pub fits : List ℕ → ℕ → List ℕ → Bool
fits output at line = at + length line up_to length output

unfoldable pub put_length : List ℕ → ℕ → List ℕ → ℕ
put_length output at line = if fits output at line then length line else 0

unfoldable pub put_output : List ℕ → ℕ → List ℕ → List ℕ
put_output output at line = if fits output at line then sets output at line else output
