-- Record by record, the line is that of its step, and the token after it the step's.
use Prim.Native.Nat.{ℕ, zero, suc, ◌+◌, ◌≤◌}
use mathlib.Core.Path.{◌≡◌, refl, ap, sym, ◌∙◌}
use mathlib.Core.Bool.{Bool, true, false}
use mathlib.Core.List.{List, [], ◌∷◌, ◌++◌}
use borrow.Author.Tests.{le-leb, eq-eqb}
use lib.ListN.{length}
use Rattle.std.specs.Prelude.{if◌then◌else◌}
use Rattle.rules.specs.Words.{◌under◌}
use Rattle.rules.specs.Events.{wake, idle, sleep, number_for}
use Rattle.token.specs.declared.Token.{Token}
use Rattle.token.specs.declared.Outcome.{Outcome}
use Rattle.token.specs.Outcome.{fresh_of}
use Rattle.records.specs.declared.Record.{Record}
use Rattle.records.specs.declared.Record.TheVariants.{Image, Wake, Idle, Sleep, Block, Bad}
use Rattle.records.specs.Records.{record_at, first, uncut, length_of, random_at, event_line}
use Rattle.records.specs.Records as lines
use Rattle.demands.specs.Calls.{Call, given, answer_of, right_buffers, call}
use Rattle.demands.specs.Calls as calls
use Rattle.demands.proofs.Calling.{call_fits, call_answer}
use Rattle.bench.specs.Bench as bench
use Rattle.bench.specs.Bench.{line_at, is_bad, lines_from, lines, printed}
use Rattle.bench.specs.Steps.{Step, made, block_call, step_of, step_at, steps_from, steps, name_of, line_on, token_after, told, buffers_right, all_buffers_right}
use Rattle.bench.proofs.Given.{random_whole}

-- ---- a call whose buffers are right: its line and the token after it are those of its turn

module _ (s : Token) (c : Call) (h : right_buffers c ≡ true) where
  -- the number is that of the answer
  pub call_line : line_on s (made c) ≡ event_line (name_of c.event) (number_for (answer_of s c)) (answer_of s c)
  call_line =
      let number = ap (λ (o : Outcome). o.number) (call_fits s c h).0 in
      ap (λ n. event_line (name_of c.event) n (answer_of s c)) (number ∙ ap number_for (sym (call_answer s c h)))

  turn_line : event_line (name_of c.event) (number_for (calls.turn_of s c).answer) (calls.turn_of s c).answer ≡ line_on s (made c)
  turn_line = ap (λ a. event_line (name_of c.event) (number_for a) a) (sym (call_answer s c h)) ∙ sym call_line

  turn_token : bench.after (calls.turn_of s c) ≡ (given s c).token
  turn_token = sym (ap (λ (o : Outcome). o.token) (call_fits s c h).0)

-- ---- a record

module _ (input : List ℕ) (at : ℕ) where
  -- a block that is not cut has its 32 random bytes
  step_right : (r : Record) → r ≡ record_at input at → buffers_right (step_of r input at) ≡ true
  step_right Image e = refl
  step_right Wake e = refl
  step_right Idle e = refl
  step_right Sleep e = refl
  step_right (Block n) e = rw (eq-eqb (length (random_at input at n)) 32 (random_whole input at n e))
  step_right Bad e = refl

  module _ (s : Token) where
    step_line : (r : Record) → r ≡ record_at input at
        → lines.line_of r at (number_for (bench.turn_of r s input at).answer) (bench.turn_of r s input at).answer
        ≡ line_on s (step_of r input at)
    step_line Image e = refl
    step_line Wake e = turn_line s (call wake) refl
    step_line Idle e = turn_line s (call idle) refl
    step_line Sleep e = turn_line s (call sleep) refl
    step_line (Block n) e = turn_line s (block_call input at n) (step_right (Block n) e)
    step_line Bad e = refl

    step_token : (r : Record) → r ≡ record_at input at → bench.after (bench.turn_of r s input at) ≡ token_after s (step_of r input at)
    step_token Image e = refl
    step_token Wake e = turn_token s (call wake) refl
    step_token Idle e = turn_token s (call idle) refl
    step_token Sleep e = turn_token s (call sleep) refl
    step_token (Block n) e = turn_token s (block_call input at n) (step_right (Block n) e)
    step_token Bad e = refl

    line_of_step : line_at s input at ≡ line_on s (step_at input at)
    unfolding line_at
    line_of_step = step_line (record_at input at) refl

-- ---- all records

one_more : (a b : Bool) (s : Token) (x : Step) (xs : List Step) {line rest : List ℕ} → line ≡ line_on s x → rest ≡ told (token_after s x) xs
    → (if a then line ++ (if b then [] else rest) else []) ≡ told s (if a then x ∷ (if b then [] else xs) else [])
one_more true true s x xs e f = rw e
one_more true false s x xs e f = rw (e, f)
one_more false b s x xs e f = refl

lines_told : (n : ℕ) (s : Token) (input : List ℕ) (at : ℕ) → lines_from n s input at ≡ told s (steps_from n input at)
unfolding lines_from steps_from
lines_told zero s input at = refl
lines_told (suc n) s input at =
    let next = at + length_of (record_at input at) in
    let x = step_at input at in
    let same = ap (λ (t : Token). lines_from n t input next) (step_token input at s (record_at input at) refl) in
    one_more (at under length input) (is_bad (record_at input at)) s x (steps_from n input next) (line_of_step input at s)
    (same ∙ lines_told n (token_after s x) input next)

-- the first record is an image, or bad
any_token : (n : ℕ) (s t : Token) (input : List ℕ) → told s (steps_from n input 0) ≡ told t (steps_from n input 0)
unfolding steps_from record_at
any_token zero s t input = refl
any_token (suc n) s t input = go (0 under length input) (uncut input) _ where
  go : (a : Bool) (r : Record) (xs : List Step)
      → told s (if a then step_of (first r) input 0 ∷ (if is_bad (first r) then [] else xs) else [])
      ≡ told t (if a then step_of (first r) input 0 ∷ (if is_bad (first r) then [] else xs) else [])
  go true Image xs = refl
  go true Wake xs = refl
  go true Idle xs = refl
  go true Sleep xs = refl
  go true (Block n) xs = refl
  go true Bad xs = refl
  go false r xs = refl

pub printed_told : (input : List ℕ) (s : Token) → length input ≤ 65536 → printed input ≡ told s (steps input)
unfolding printed lines steps
printed_told input s h =
    let blank = (fresh_of []).token in
    rw (le-leb (length input) 65536 h) (lines_told (length input) blank input 0 ∙ any_token (length input) blank s input)

one_more_right : (a b : Bool) (x : Step) (xs : List Step) → buffers_right x ≡ true → all_buffers_right xs ≡ true
    → all_buffers_right (if a then x ∷ (if b then [] else xs) else []) ≡ true
one_more_right true true x xs e f = rw e
one_more_right true false x xs e f = rw (e, f)
one_more_right false b x xs e f = refl

from_right : (n : ℕ) (input : List ℕ) (at : ℕ) → all_buffers_right (steps_from n input at) ≡ true
unfolding steps_from
from_right zero input at = refl
from_right (suc n) input at =
    one_more_right (at under length input) (is_bad (record_at input at)) (step_at input at) _ (step_right input at (record_at input at) refl)
    (from_right n input (at + length_of (record_at input at)))

pub steps_right : (input : List ℕ) → all_buffers_right (steps input) ≡ true
unfolding steps
steps_right input = from_right (length input) input 0
