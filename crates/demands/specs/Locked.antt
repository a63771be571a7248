-- Demand 3, its last sentence. "And over any calls a zone once locked stays locked." For all tokens, whatever the other zone says.
use Rattle.std.specs.Prelude.{◌≡◌, true, List}
use Rattle.rules.specs.State.{config_locked, values_locked}
use Rattle.token.specs.declared.Token.{Token}
use Rattle.demands.specs.Calls.{Call, after}

pub record StaysLocked (s : Token) (cs : List Call) : Type 0 where
  pub config : config_locked s.device.config ≡ true → config_locked (after s cs).device.config ≡ true
  pub values : values_locked s.device.config ≡ true → values_locked (after s cs).device.config ≡ true
