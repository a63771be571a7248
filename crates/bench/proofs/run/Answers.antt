-- Each turn prints one record's line; what is left of the input gets less.
use Rattle.std.proofs.Common.{◌≡◌, arith, rules}
use Rattle.records.specs.declared.Record.TheVariants.{Bad}
use Rattle.bench.proofs.Left.{at_first, all, fits, told_within, ended, goes_on}
use Rattle.bench.proofs.run.Goals as goal

pub loop-at-init : goal.loop-at-init
loop-at-init c =
    let x = c.args in
    (omega arith, rw c.fresh.ensures (at_first x.input.now x.out.now))

pub tell-told-requires-clause-line_fits : goal.tell-told-requires-clause-line_fits
tell-told-requires-clause-line_fits c =
    let room = fits c.loop-at.invariant.1 (omega arith) in
    omega arith

pub returns-then-eq : goal.returns-then-eq
returns-then-eq c =
    let bad : c.record_at-what.result ≡ Bad = search rules in
    ended c.loop-at.invariant.1 c.record_at-what.ensures c.tell-told.ensures (omega arith) bad

pub loop-at-preserved : goal.loop-at-preserved
loop-at-preserved c =
    let inv = c.loop-at.invariant.1 in
    let w = c.record_at-what.ensures in
    let good : c.record_at-what.result ≡ Bad → ⊥ = search rules in
    let on = goes_on inv w c.tell-told.ensures (omega arith) good in
    (omega (arith, c.length_of-at.ensures, told_within inv w c.tell-told.ensures), rw c.length_of-at.ensures on)

pub returns : goal.returns
returns c = all c.loop-at.invariant.1 (omega arith)
