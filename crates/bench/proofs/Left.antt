-- The run: what is left to print, put after what is printed, is the whole.
use Rattle.std.specs.Prelude.{if◌then◌else◌}
use Prim.Native.Nat.{ℕ, zero, suc, ◌+◌, ◌-◌, ◌≤◌, ◌<◌}
use mathlib.Core.Path.{◌≡◌, refl, sym, ◌∙◌}
use mathlib.Core.Bool.{false}
use mathlib.Core.List.{List, [], ◌++◌, append-nil}
use native.Mathlib.Omega.{arith}
use borrow.Author.Tests.{lt-ltb, le-ltb}
use lib.ListN.{length, length-append}
use lib.Seq.{sets}
use Rattle.token.specs.declared.Token.{Token}
use Rattle.token.specs.Outcome.{fresh_of}
use Rattle.records.specs.declared.Record.{Record}
use Rattle.records.specs.declared.Record.TheVariants.{Image, Wake, Idle, Sleep, Block, Bad}
use Rattle.records.specs.Records.{record_at, length_of}
use Rattle.records.proofs.Put.{sets_append}
use Rattle.records.proofs.Within.{record_within}
use Rattle.bench.specs.Bench.{turn_at, after, line_at, is_bad, lines_from, lines}
use Rattle.bench.proofs.Line.{IsTold}

-- only a bad record takes no bytes
not_bad : (r : Record) → (r ≡ Bad → ⊥) → (is_bad r ≡ false) × (0 < length_of r)
not_bad Image h = (refl, omega arith)
not_bad Wake h = (refl, omega arith)
not_bad Idle h = (refl, omega arith)
not_bad Sleep h = (refl, omega arith)
not_bad (Block n) h = (refl, omega arith)
not_bad Bad h = absurd (h refl)

module _ (s : Token) (input : List ℕ) (at : ℕ) where
  -- the lines of at most n records, after that of the record at the offset
  abbrev behind : ℕ → List ℕ
  behind n = if is_bad (record_at input at) then [] else lines_from n (after (turn_at s input at)) input (at + length_of (record_at input at))

  at_record : (n : ℕ) → at < length input → length input - at ≤ n → lines_from n s input at ≡ line_at s input at ++ behind (n - 1)
  unfolding lines_from
  at_record zero h k = absurd (omega arith)
  at_record (suc n) h k =
      let e : suc n - 1 ≡ n = omega arith in
      rw (lt-ltb at (length input) h, e)

  at_end : (n : ℕ) → length input ≤ at → lines_from n s input at ≡ []
  unfolding lines_from
  at_end zero h = refl
  at_end (suc n) h = rw (le-ltb at (length input) h)

-- `out` holds `used` bytes of lines; with those of n records that are left, it is what was lent with all the lines put in front
pub record Left (input out₀ : List ℕ) (s : Token) (out : List ℕ) (used at : ℕ) : Type 0 where
  pub n : ℕ
  pub enough : length input - at ≤ n
  pub count : used + length (lines_from n s input at) ≡ length (lines input)
  pub stored : sets out used (lines_from n s input at) ≡ sets out₀ 0 (lines input)

pub at_first : (input out₀ : List ℕ) → Left input out₀ (fresh_of []).token out₀ 0 0
unfolding lines
at_first input out₀ = record { n = length input; enough = omega arith; count = omega arith; stored = refl }

module _ {input out₀ : List ℕ} {s : Token} {out : List ℕ} {used at : ℕ} (l : Left input out₀ s out used at) where
  -- nothing is left
  pub all : length input ≤ at → record { value : used ≡ length (lines input); out_after : out ≡ sets out₀ 0 (lines input) }
  all h =
      let e = at_end s input at l.n h in
      let c = rw e at l.count in
      record { value = omega arith; out_after = rw e at l.stored }

  -- the line of the record at the offset fits
  pub fits : at < length input → used + length (line_at s input at) ≤ length (lines input)
  fits h =
      let e = rw (at_record s input at l.n h l.enough, length-append) at l.count in
      omega arith

  module _ {what : Record} {next : Token} {end : ℕ} {last : List ℕ} (w : what ≡ record_at input at)
      (t : IsTold s input at out used next end last) where
    pub told_within : length_of what ≤ length input - at
    told_within = rw w (record_within input at)

    -- it is the last
    pub ended : at < length input → what ≡ Bad → record { value : end ≡ length (lines input); out_after : last ≡ sets out₀ 0 (lines input) }
    ended h z =
        let bad : record_at input at ≡ Bad = sym w ∙ z in
        let e : lines_from l.n s input at ≡ line_at s input at =
        rw (at_record s input at l.n h l.enough, bad) (append-nil (line_at s input at)) in
        record { value = t.used_value ∙ rw e at l.count; out_after = t.out_after ∙ rw e at l.stored }

    -- it is not the last
    pub goes_on : at < length input → (what ≡ Bad → ⊥) → Left input out₀ next last end (at + length_of what)
    goes_on h z =
        let rest = lines_from (l.n - 1) (after (turn_at s input at)) input (at + length_of (record_at input at)) in
        let more = not_bad (record_at input at) (λ (e : record_at input at ≡ Bad). z (w ∙ e)) in
        let e : lines_from l.n s input at ≡ line_at s input at ++ rest = rw (at_record s input at l.n h l.enough, more.0) in
        let c = rw (e, length-append) at l.count in
        let p = rw e at l.stored in
        rw (t.token_value, w, t.used_value, t.out_after)
        record {
          n = l.n - 1;
          enough = omega (arith, l.enough, more.1);
          count = omega arith;
          stored = sets_append (line_at s input at) rest out used ∙ p;
        }
