-- The stores of a row are one change of the zone.
use Rattle.rules.proofs.Stores.{config_zone, stored_sets}
use Rattle.stores.proofs.store_config_row.Goals as goal

pub returns : goal.returns
returns c = cc (c.lay.ensures, stored_sets config_zone c.args.row.now c.args.d c.args.at)
