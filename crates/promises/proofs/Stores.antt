-- The public functions of crate `stores`.
use Rattle.stores.proofs.store_config.Reads as store-config
use Rattle.stores.proofs.store_config_row.Reads as store-config-row
use Rattle.stores.proofs.store_otp_row.Reads as store-otp-row
use Rattle.stores.proofs.store_data_row.Reads as store-data-row
use Rattle.stores.proofs.store_slot.Reads as store-slot
use Rattle.promises.proofs.Fixed.{Fixed, fixed}

pub store_config_fixed : Fixed store-config.Pre store-config.Post
store_config_fixed = fixed

pub store_config_row_fixed : Fixed store-config-row.Pre store-config-row.Post
store_config_row_fixed = fixed

pub store_otp_row_fixed : Fixed store-otp-row.Pre store-otp-row.Post
store_otp_row_fixed = fixed

pub store_data_row_fixed : Fixed store-data-row.Pre store-data-row.Post
store_data_row_fixed = fixed

pub store_slot_fixed : Fixed store-slot.Pre store-slot.Post
store_slot_fixed = fixed
