-- The answer is the front part of the output, and the line is put where it fits.
use Prim.Native.Nat.{◌-◌, ◌≤◌}
use native.Mathlib.Omega.{arith}
use lib.ListN.{length}
use Rattle.records.proofs.Within.{put_within}
use Rattle.bench.proofs.Line.{told}
use Rattle.bench.proofs.Told.tell.Goals as goal

pub returns : goal.returns
returns c =
    let x = c.args in
    told x.self.token x.input.now x.at _ x.out.now x.self.used c.requires.line_fits c.requires.what_is
    c.step-next.ensures c.front-answer.ensures c.put_line-length.ensures

pub overflow_add-result : goal.overflow_add-result
overflow_add-result c =
    let x = c.args in
    let within : c.put_line-length.result ≤ length x.out.now - x.self.used = rw c.put_line-length.ensures.value (put_within _ _ _) in
    omega (arith, c.well_formed)
