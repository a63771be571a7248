-- `desk::chhutirok_frame` meets its contract: the length that was given tells whether the data fitted.
use Rattle.std.proofs.Common.{refl, sym, ◌∙◌}
use Rattle.blocks.proofs.Fits.{unfit, fit}
use Rattle.desk.specs.Desk.{frame_number}
use Rattle.desk.proofs.chhutirok_frame.Goals as goal

pub returns-then-n-eq0 : goal.returns-then-n-eq0
unfolding frame_number
returns-then-n-eq0 c =
    let put = c.put_block-n.ensures in
    rw (unfit c.args.input.now c.args.buffer.now (sym put.value ∙ c.if-n-eq0.true))
    (record { value = refl; buffer_after = put.out_after; length_after = put.value })

pub returns-else-n-eq0 : goal.returns-else-n-eq0
unfolding frame_number
returns-else-n-eq0 c =
    let put = c.put_block-n.ensures in
    rw (fit c.args.input.now c.args.buffer.now (λ e. c.if-n-eq0.false (put.value ∙ e)))
    (record { value = refl; buffer_after = put.out_after; length_after = put.value })
