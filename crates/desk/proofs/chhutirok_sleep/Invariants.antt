-- `desk::chhutirok_sleep`: the event that it runs on the state.
use Rattle.rules.specs.Events.{sleep}
use Rattle.desk.proofs.chhutirok_sleep.Given as goal

abbrev pub ghost-on_state : goal.ghost-on_state
ghost-on_state a = sleep
