-- Each arm is the record's event.
use Rattle.rules.specs.Words.{zeros}
use Rattle.records.specs.declared.Record.TheVariants.{Wake, Idle, Sleep}
use Rattle.bench.proofs.Given.{image_given, event_given, block_given, bad_given}
use mathlib.Core.Path.{refl}
use Rattle.bench.proofs.step.Goals as goal

pub returns-in-Image : goal.returns-in-Image
returns-in-Image c =
    let x = c.args in
    image_given x.token x.input.now x.at x.output.now c.requires.output_length c.in-Image.is
    c.image_at.ensures c.fresh.ensures c.silent.ensures

pub returns-in-Wake : goal.returns-in-Wake
returns-in-Wake c =
    let x = c.args in
    event_given x.token x.input.now x.at x.output.now c.requires.output_length Wake (zeros 32) refl c.in-Wake.is c.wake.ensures

pub returns-in-Idle : goal.returns-in-Idle
returns-in-Idle c =
    let x = c.args in
    event_given x.token x.input.now x.at x.output.now c.requires.output_length Idle (zeros 32) refl c.in-Idle.is c.idle.ensures

pub returns-in-Sleep : goal.returns-in-Sleep
returns-in-Sleep c =
    let x = c.args in
    event_given x.token x.input.now x.at x.output.now c.requires.output_length Sleep (zeros 32) refl c.in-Sleep.is c.sleep.ensures

pub returns-in-Block : goal.returns-in-Block
returns-in-Block c =
    let x = c.args in
    block_given x.token x.input.now x.at x.output.now c.requires.output_length _ c.requires.what_is c.in-Block.is
    c.block_at.ensures c.random_at.ensures c.block.ensures

pub returns-in-Bad : goal.returns-in-Bad
returns-in-Bad c =
    let x = c.args in
    bad_given x.token x.input.now x.at x.output.now c.requires.output_length c.in-Bad.is c.silent-in-Bad.ensures
