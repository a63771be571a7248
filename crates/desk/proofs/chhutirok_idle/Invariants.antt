-- `desk::chhutirok_idle`: the event that it runs on the state.
use Rattle.rules.specs.Events.{idle}
use Rattle.desk.proofs.chhutirok_idle.Given as goal

abbrev pub ghost-on_state : goal.ghost-on_state
ghost-on_state a = idle
