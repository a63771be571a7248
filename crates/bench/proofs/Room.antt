-- How long the lines are: a record's line has at most seven times its bytes, and a `bad` line ten.
use Rattle.std.specs.Prelude.{if◌then◌else◌}
use Prim.Native.Nat.{ℕ, zero, suc, ◌+◌, ◌-◌, ◌*◌, ◌≤◌}
use mathlib.Core.Path.{◌≡◌, refl}
use mathlib.Core.Bool.{Bool, true, false}
use mathlib.Core.List.{List, [], ◌∷◌, ◌++◌}
use native.Mathlib.Omega.{arith}
use borrow.Author.Tests.{leb-true}
use lib.Dec.{lit≤}
use lib.ListN.{length, length-append, length-drop}
use Rattle.wire.specs.Wire.{whole}
use Rattle.wire.proofs.Cases.{if_all, if_either}
use Rattle.wire.proofs.Laws.{length_frame}
use Rattle.rules.specs.declared.Device.{Device}
use Rattle.rules.specs.declared.Power.{Power}
use Rattle.rules.specs.declared.Status.TheVariants.{Woken, Damaged}
use Rattle.rules.specs.Words.{◌under◌, ◌up_to◌}
use Rattle.rules.specs.State.{is_awake, status_byte}
use Rattle.rules.specs.Events.{Turn, wake_turn, idle_turn, sleep_turn, block_turn, plan_for, number_for}
use Rattle.token.specs.declared.Token.{Token}
use Rattle.token.specs.Outcome.{fresh_of}
use Rattle.rules.proofs.Answers.{few_for}
use Rattle.records.specs.declared.Record.{Record}
use Rattle.records.specs.declared.Record.TheVariants.{Image, Wake, Idle, Sleep, Block, Bad}
use Rattle.records.specs.Records.{record_at, length_of, block_at, random_at, ascii, event_line, line_of, decimal, too_long}
use Rattle.records.proofs.Put.{length_hex}
use Rattle.records.proofs.Within.{record_within}
use Rattle.bench.specs.Bench.{turn_of, turn_at, after, line_at, is_bad, lines_from, lines, printed}
use Rattle.bench.proofs.Given.{random_whole}

-- ---- answers

wake_short : (d : Device) (p : Power) → length (wake_turn d p).answer ≤ 4
unfolding wake_turn
wake_short d p =
    let short = λ (t : Turn). length t.answer ≤ 4 in
    if_either short (is_awake p) (omega arith) (rw (length_frame (status_byte Woken ∷ [])) (lit≤ tt))

block_short : (d : Device) (p : Power) (block supplied : List ℕ) → length supplied ≡ 32 → length (block_turn d p block supplied).answer ≤ 35
unfolding block_turn
block_short d p block supplied h =
    let plan = plan_for d block supplied in
    let few = few_for d block supplied h in
    let short = λ (t : Turn). length t.answer ≤ 35 in
    if_either short (is_awake p)
    (if_either short (whole block) (rw (length_frame plan.answer) (omega arith)) (rw (length_frame (status_byte Damaged ∷ [])) (lit≤ tt)))
    (omega arith)

-- ---- lines

event_short : (name answer : List ℕ) (m : ℕ) → length answer ≤ m → 2 ≤ m → length (event_line name (number_for answer) answer) ≤ length name + (2 * m + 1)
unfolding event_line
event_short name [] m h k = simp length-append (omega arith)
event_short name (b ∷ bs) m h k = simp (length-append, length_hex) (omega arith)

bad_short : (at : ℕ) → length (ascii "bad " ++ (decimal at ++ ascii "\n")) ≤ 10
unfolding decimal
bad_short at = simp (length-append, length-drop) (omega arith)

-- how long a record's line may be
abbrev bound : Record → ℕ
bound r = if is_bad r then 10 else 7 * length_of r

line_of_short : (r : Record) (s : Token) (input : List ℕ) (at : ℕ) → r ≡ record_at input at
    → length (line_of r at (number_for (turn_of r s input at).answer) (turn_of r s input at).answer) ≤ bound r
unfolding idle_turn sleep_turn
line_of_short Image s input at e = lit≤ tt
line_of_short Wake s input at e = event_short (ascii "wake ") (wake_turn s.device s.power).answer 4 (wake_short s.device s.power) (lit≤ tt)
line_of_short Idle s input at e = omega (arith, event_short (ascii "idle ") [] 2 (lit≤ tt) (lit≤ tt))
line_of_short Sleep s input at e = omega (arith, event_short (ascii "sleep ") [] 2 (lit≤ tt) (lit≤ tt))
line_of_short (Block n) s input at e =
    let block = block_at input at n in
    let random = random_at input at n in
    omega (
      arith,
      event_short (ascii "block ") (block_turn s.device s.power block random).answer 35
          (block_short s.device s.power block random (random_whole input at n e)) (lit≤ tt),
    )
line_of_short Bad s input at e = bad_short at

line_short : (s : Token) (input : List ℕ) (at : ℕ) → length (line_at s input at) ≤ bound (record_at input at)
unfolding line_at
line_short s input at = line_of_short (record_at input at) s input at refl

-- ---- all lines

one_more : (b : Bool) (line rest : List ℕ) (k room : ℕ) → length line ≤ (if b then 10 else 7 * k) → length rest ≤ 7 * (room - k) + 10 → k ≤ room
    → length (line ++ (if b then [] else rest)) ≤ 7 * room + 10
one_more true line rest k room h g w = simp length-append (omega arith)
one_more false line rest k room h g w = simp length-append (omega arith)

lines_short : (n : ℕ) (s : Token) (input : List ℕ) (at : ℕ) → length (lines_from n s input at) ≤ 7 * (length input - at) + 10
unfolding lines_from
lines_short zero s input at = omega arith
lines_short (suc n) s input at =
    let k = length_of (record_at input at) in
    let room = length input - at in
    let rest = lines_from n (after (turn_at s input at)) input (at + k) in
    let g = lines_short n (after (turn_at s input at)) input (at + k) in
    let e : length input - (at + k) ≡ room - k = omega arith in
    if_all (λ l. length l ≤ 7 * room + 10) (at under length input) _ []
    (λ _. one_more (is_bad (record_at input at)) (line_at s input at) rest k room (line_short s input at) (rw e at g) (record_within input at))
    (λ _. omega arith)

pub printed_short : (input : List ℕ) → length (printed input) ≤ 458762
unfolding printed lines
printed_short input =
    if_all (λ l. length l ≤ 458762) (length input up_to 65536) _ too_long
    (λ e. let h : length input ≤ 65536 = leb-true (length input) 65536 e in omega (arith, lines_short (length input) (fresh_of []).token input 0))
    (λ _. lit≤ tt)
