-- `desk::on_state` meets its contract: what the run gives is the event's outcome at the state that the bytes are.
use mathlib.Core.Path.{refl, sym, ◌∙◌}
use Rattle.desk.specs.Desk.{number, state_after, output_of, answer_length}
use Rattle.desk.proofs.Laid.{state_made}
use Rattle.desk.proofs.on_state.Goals as goal

pub returns : goal.returns
unfolding number state_after output_of answer_length
returns g c =
    let whole = c.in-Some.ensures.cases in
    let inside = rw whole.same at (sym c.in_range.ensures ∙ c.if-not-in_range.false) in
    let gives = c.requires.1.1.0 _ _ _ _ _ c.run-o.ensures in
    let leaves = c.requires.1.1.1 _ _ _ _ _ c.run-o.ensures in
    rw (state_made c.args.state.now whole.long inside, c.save.ensures, c.number_of.ensures, leaves, gives, c.load.ensures, whole.same)
    (record { value = refl; state_after = refl; output_after = refl; length_after = refl })
