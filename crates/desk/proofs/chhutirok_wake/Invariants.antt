-- `desk::chhutirok_wake`: the event that it runs on the state.
use Rattle.rules.specs.Events.{wake}
use Rattle.desk.proofs.chhutirok_wake.Given as goal

abbrev pub ghost-on_state : goal.ghost-on_state
ghost-on_state a = wake
