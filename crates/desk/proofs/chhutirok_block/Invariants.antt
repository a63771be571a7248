-- `desk::chhutirok_block`: the event that it runs on the state.
use Rattle.rules.specs.Events.{block}
use Rattle.desk.proofs.chhutirok_block.Given as goal

abbrev pub ghost-on_state : goal.ghost-on_state
ghost-on_state a = block a.run.0.now
