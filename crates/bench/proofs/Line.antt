-- The line that is put for a record, and what is told of it.
use Prim.Native.Nat.{ℕ, ◌+◌, ◌-◌, ◌≤◌}
use mathlib.Core.Path.{◌≡◌, refl, ap, sym, ◌∙◌}
use mathlib.Core.List.{List, ◌++◌}
use native.Mathlib.Omega.{arith}
use borrow.Author.Tests.{le-ltb}
use lib.ListN.{length, length-append}
use lib.Seq.{sets, take-append_seam}
use Rattle.rules.specs.declared.Number.{Number}
use Rattle.rules.specs.Events.{number_for, front_of}
use Rattle.token.specs.declared.Token.{Token}
use Rattle.token.specs.declared.Outcome.{Outcome}
use Rattle.records.specs.declared.Record.{Record}
use Rattle.records.specs.Records.{record_at, line_of, put_length, put_output}
use Rattle.records.proofs.Put.{placed}
use Rattle.bench.specs.Bench.{turn_of, turn_at, after, line_at}
use Rattle.bench.proofs.Given.{Given}

-- the answer is the front part of the output after it
front_answer : (answer rest : List ℕ) → front_of (length answer) (answer ++ rest) ≡ answer
front_answer answer rest =
    let long : length answer ≤ length (answer ++ rest) = simp length-append (omega arith) in
    rw (le-ltb (length (answer ++ rest)) (length answer) long) (take-append_seam answer rest)

module _ (s : Token) (input : List ℕ) (at : ℕ) where
  line_is : {what : Record} {number : Number} {answer : List ℕ} → what ≡ record_at input at → number ≡ number_for (turn_of what s input at).answer
      → answer ≡ (turn_of what s input at).answer
      → line_of what at number answer ≡ line_at s input at
  unfolding line_at
  line_is w e f = rw (e, f, w)

  -- the three promises of `tell`
  abbrev pub IsTold : List ℕ → ℕ → Token → ℕ → List ℕ → Type 0
  IsTold out used next end last =
      record {
        token_value : next ≡ after (turn_at s input at);
        used_value : end ≡ used + length (line_at s input at);
        out_after : last ≡ sets out used (line_at s input at);
      }

  module _ (before out : List ℕ) (used : ℕ) (room : used + length (line_at s input at) ≤ length out) {what : Record} {o : Outcome}
      {after-step answer last : List ℕ} {n : ℕ} where
    pub told : what ≡ record_at input at → Given (turn_of what s input at) before o after-step → answer ≡ front_of o.length after-step
        → record {
          value : n ≡ put_length out used (line_of what at o.number answer);
          out_after : last ≡ put_output out used (line_of what at o.number answer);
        }
        → IsTold out used o.token (used + n) last
    told w g f l =
        let a : answer ≡ (turn_of what s input at).answer = f ∙ rw (g.value, g.output_after) (front_answer (turn_of what s input at).answer _) in
        let line = line_is w (ap (λ (x : Outcome). x.number) g.value) a in
        let p = placed out (line_at s input at) used room refl refl in
        let m = rw line at l in
        let long : n ≡ used + length (line_at s input at) - used = m.value ∙ sym p.0 in
        record {
          token_value = ap (λ (x : Outcome). x.token) g.value ∙ rw w;
          used_value = omega arith;
          out_after = m.out_after ∙ sym p.1;
        }
