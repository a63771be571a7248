-- What is printed is the lines of a run of the demands' calls; so what the demands say of calls they say of lines.
use Rattle.std.specs.Prelude.{ℕ, ◌≤◌, ◌≡◌, true, false, List, [], ◌∷◌, ◌++◌, map, length, if◌then◌else◌}
use Rattle.rules.specs.declared.Slot.{Slot}
use Rattle.rules.specs.Words.{zeros}
use Rattle.rules.specs.Events.{wake, sleep, block, fields_of}
use Rattle.token.specs.declared.Token.{Token}
use Rattle.token.specs.Outcome.{fresh_of}
use Rattle.records.specs.Records.{ascii}
use Rattle.demands.specs.Calls.{Call, runs, block_of, command_in, rule_in, after, call, command}
use Rattle.demands.specs.Demand3.{Alike, Kept, draws_on, spared}
use Rattle.demands.specs.Incident.{NoNonce, needs_temp_key}
use Rattle.demands.specs.Soundings.{nonce3}
use Rattle.bench.specs.Bench.{printed}
use Rattle.bench.specs.Steps.{Step, image, made, steps, all_buffers_right, after_steps, line_on, told}

-- some steps, then SL, then calls
abbrev pub slept : List Step → List Call → List Step
slept before cs = before ++ made (call sleep) ∷ map made cs

-- a call runs a command that uses TempKey
pub record UsesTempKey (s : Token) (c : Call) : Type 0 where
  pub runs : runs s c ≡ true
  pub needs : needs_temp_key (command_in c) s.device (fields_of (block_of c.event)) ≡ true

-- ---- examples

-- the BK record of a call
abbrev pub block_record : Call → List ℕ
block_record c = ascii "BK" ++ length (block_of c.event) ∷ block_of c.event ++ c.random

-- EE with zeros, WK, BK with 07 30 00 00 00 03 5D, SL, the same BK
abbrev pub dev_rev_call : Call
dev_rev_call = call (block (0x07 ∷ 0x30 ∷ 0x00 ∷ 0x00 ∷ 0x00 ∷ 0x03 ∷ 0x5D ∷ []))

abbrev pub first : List ℕ
first = ascii "EE" ++ zeros 664 ++ ascii "WK" ++ block_record dev_rev_call ++ ascii "SL" ++ block_record dev_rev_call

-- a stale claim: EE with zeros, WK, BK with Nonce 3, SL, WK, BK with a MAC of slot 0 and TempKey
abbrev pub claim : Call
claim = command 0x08 0x05 0 []

abbrev pub stale : List ℕ
stale = ascii "EE" ++ zeros 664 ++ ascii "WK" ++ block_record nonce3 ++ ascii "SL" ++ ascii "WK" ++ block_record claim

-- ---- the statement

pub record Runs : Type 0 where
  -- Up to 65,536 bytes print the lines of their steps. A record before the first EE is bad, so that any token will do at the start.
  pub lines : (input : List ℕ) (s : Token) → length input ≤ 65536 → printed input ≡ told s (steps input)
  -- no call of theirs is refused for its buffers
  pub buffers : (input : List ℕ) → all_buffers_right (steps input) ≡ true
  -- each step's line is that on the token after the steps before it
  pub step : (s : Token) (before rest : List Step) (x : Step)
      → told s (before ++ x ∷ rest) ≡ told s before ++ line_on (after_steps s before) x ++ told (after_steps s (before ++ x ∷ [])) rest
  -- and after calls that token is the demands'
  pub calls : (s : Token) (before : List Step) (cs : List Call) → after_steps s (before ++ map made cs) ≡ after (after_steps s before) cs
  -- so, after an image and calls, the next call's line is that on the token after those calls on a fresh one
  pub run : (input bytes : List ℕ) (s : Token) (before rest : List Step) (cs : List Call) (c : Call) → length input ≤ 65536
      → steps input ≡ before ++ image bytes ∷ map made cs ++ made c ∷ rest
      → printed input
      ≡ told s (before ++ image bytes ∷ map made cs)
      ++ line_on (after (fresh_of bytes).token cs) (made c)
      ++ told (after (fresh_of bytes).token (cs ++ c ∷ [])) rest
  -- demand 3: of two tokens as it takes them, after the same calls, a call that does not draw on the slot prints the same line; only the MACs
  -- that draw on it may print others
  pub demand3 : (k : Slot) (s t : Token) (cs : List Call) (c : Call) → Alike k s t → Kept k s → spared k s (cs ++ c ∷ []) ≡ true
      → draws_on k (after s cs) c ≡ false → line_on (after s cs) (made c) ≡ line_on (after t cs) (made c)
  -- the incident: after SL, over any calls in which no Nonce is accepted, a block that uses TempKey prints 0F, or 03 where its shape is
  -- wrong
  pub incident : (input : List ℕ) (s : Token) (before rest : List Step) (cs : List Call) (c : Call) → length input ≤ 65536
      → steps input ≡ slept before cs ++ made c ∷ rest → NoNonce (after_steps s (slept before [])) cs
      → UsesTempKey (after_steps s (slept before cs)) c
      → printed input
      ≡ told s (slept before cs)
      ++ ascii (if (rule_in (after_steps s (slept before cs)) c).shape then "block 040F2342\n" else "block 04038342\n")
      ++ told (after_steps s (slept before cs ++ made c ∷ [])) rest
  -- the examples: their steps and their lines
  pub first_steps : steps first ≡ image (zeros 664) ∷ map made (call wake ∷ dev_rev_call ∷ call sleep ∷ dev_rev_call ∷ [])
  pub first_lines : printed first ≡ ascii "image\nwake 04113343\nblock 070000000003AD\nsleep none\nblock none\n"
  pub stale_steps : steps stale ≡ slept (image (zeros 664) ∷ map made (call wake ∷ nonce3 ∷ [])) (call wake ∷ []) ++ made claim ∷ []
  pub stale_lines : printed stale ≡ ascii "image\nwake 04113343\nblock 04000340\nsleep none\nwake 04113343\nblock 040F2342\n"
