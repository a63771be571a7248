-- What an event gives where the output has 35 bytes and the random bytes are 32: the turn's token, number and answer.
use Prim.Native.Nat.{ℕ, ◌-◌, ◌≤◌}
use mathlib.Core.Path.{◌≡◌, refl, sym, subst, ◌∙◌}
use mathlib.Core.List.{List}
use native.Mathlib.Omega.{arith}
use borrow.Author.Tests.{le-ltb, eq-eqb}
use lib.ListN.{length, length-take, length-drop}
use Rattle.rules.specs.declared.Number.TheVariants.{NoAnswer}
use Rattle.rules.specs.Events.{Turn, output_after, block_turn}
use Rattle.token.specs.declared.Token.{Token}
use Rattle.token.specs.declared.Outcome.{Outcome}
use Rattle.token.specs.declared.fresh.Made.{Made}
use Rattle.token.specs.Outcome.{outcome, unchanged, fresh_of}
use Rattle.records.specs.declared.Record.{Record}
use Rattle.records.specs.declared.Record.TheVariants.{Image, Block, Bad}
use Rattle.records.specs.Records.{record_at, length_of, image_at, block_at, random_at}
use Rattle.records.proofs.Within.{record_within}
use Rattle.bench.specs.Bench.{turn_of, outcome_of, in_front}

-- the two promises of a step
abbrev pub Given : Turn → List ℕ → Outcome → List ℕ → Type 0
Given t before o out = record { value : o ≡ outcome_of t; output_after : out ≡ in_front t.answer before }

event : (s : Token) (t : Turn) (random before : List ℕ) {o : Outcome} {out : List ℕ} → length before ≡ 35 → length random ≡ 32
    → record { value : o ≡ outcome s t random before; output_after : out ≡ output_after t random before }
    → Given t before o out
unfolding outcome output_after
event s t random before h k g =
    let enough : 35 ≤ length before = omega arith in
    rw (le-ltb (length before) 35 enough, eq-eqb (length random) 32 k) at g

-- a block that is not cut has its 32 random bytes
pub random_whole : (input : List ℕ) (at n : ℕ) → Block n ≡ record_at input at → length (random_at input at n) ≡ 32
random_whole input at n e =
    let within : length_of (Block n) ≤ length input - at = subst (λ (r : Record). length_of r ≤ length input - at) (sym e) (record_within input at) in
    simp (length-take, length-drop) (omega arith)

-- each arm of a step: what the record is known to be, and what was given for that
module _ (s : Token) (input : List ℕ) (at : ℕ) (before : List ℕ) (h : length before ≡ 35) {what : Record} {o : Outcome} where
  pub image_given : {image : List ℕ} {made : Made} → what ≡ Image → image ≡ image_at input at → made ≡ fresh_of image
      → o ≡ unchanged made.token NoAnswer → Given (turn_of what s input at) before o before
  image_given w e m g = rw (w, g, m, e) (record { value = refl; output_after = refl })

  pub event_given : (it : Record) (random : List ℕ) {out : List ℕ} → length random ≡ 32 → what ≡ it
      → record {
        value : o ≡ outcome s (turn_of it s input at) random before;
        output_after : out ≡ output_after (turn_of it s input at) random before;
      }
      → Given (turn_of what s input at) before o out
  event_given it random k w g = rw w (event s (turn_of it s input at) random before h k g)

  pub block_given : (n : ℕ) {block random out : List ℕ} → what ≡ record_at input at → what ≡ Block n
      → block ≡ block_at input at n → random ≡ random_at input at n
      → record {
        value : o ≡ outcome s (block_turn s.device s.power block random) random before;
        output_after : out ≡ output_after (block_turn s.device s.power block random) random before;
      }
      → Given (turn_of what s input at) before o out
  block_given n found w e f g = event_given (Block n) (random_at input at n) (random_whole input at n (sym w ∙ found)) w (rw (e, f) at g)

  pub bad_given : what ≡ Bad → o ≡ unchanged s NoAnswer → Given (turn_of what s input at) before o before
  bad_given w g = rw (w, g) (record { value = refl; output_after = refl })
