-- The input is too long, or its records are run.
use Prim.Native.Nat.{ℕ, ◌≤◌, ◌<◌}
use mathlib.Core.Path.{◌≡◌, refl, sym, ◌∙◌}
use mathlib.Core.List.{List}
use native.Mathlib.Omega.{arith}
use borrow.Author.Tests.{le-leb, lt-leb}
use lib.ListN.{length}
use lib.Seq.{sets}
use Rattle.records.specs.Records.{too_long, put_length, put_output}
use Rattle.records.proofs.Put.{placed}
use Rattle.bench.specs.Bench.{lines, printed}
use Rattle.bench.proofs.print.Goals as goal

printed-long : (input : List ℕ) → 65536 < length input → printed input ≡ too_long
unfolding printed
printed-long input h = rw (lt-leb (length input) 65536 h)

printed-lines : (input : List ℕ) → length input ≤ 65536 → printed input ≡ lines input
unfolding printed
printed-lines input h = rw (le-leb (length input) 65536 h)

put-long : (input out : List ℕ) {n : ℕ} {last : List ℕ} → 65536 < length input → length (printed input) ≤ length out
    → record { value : n ≡ put_length out 0 too_long; out_after : last ≡ put_output out 0 too_long }
    → record { value : n ≡ length (printed input); out_after : last ≡ sets out 0 (printed input) }
put-long input out h room g =
    let e = printed-long input h in
    let p = placed out (printed input) 0 (omega arith) refl refl in
    let g' = rw (← e) at g in
    let long = g'.value ∙ sym p.0 in
    record { value = omega arith; out_after = g'.out_after ∙ sym p.1 }

pub returns-then-input-gt-LIMIT : goal.returns-then-input-gt-LIMIT
returns-then-input-gt-LIMIT c =
    let x = c.args in
    put-long x.input.now x.out.now (omega arith) c.requires c.put_too_long.ensures

pub run-requires : goal.run-requires
run-requires c =
    let x = c.args in
    let e = printed-lines x.input.now (omega arith) in
    record { input_fits = omega arith; lines_fit = rw e at c.requires }

pub returns : goal.returns
returns c =
    let x = c.args in
    rw (printed-lines x.input.now (omega arith)) c.run.ensures
