-- The public functions of crate `address`.
use Rattle.address.proofs.size_of.Reads as type_size
use Rattle.address.proofs.word_of.Reads as word_of
use Rattle.address.proofs.slot_of.Reads as slot_of
use Rattle.address.proofs.address_fits.Reads as address-fits
use Rattle.address.proofs.position_of.Reads as position-of
use Rattle.address.proofs.encrypts.Reads as encrypts
use Rattle.address.proofs.encrypts_for.Reads as encrypts-for
use Rattle.promises.proofs.Fixed.{Fixed, fixed}

pub size_of_fixed : Fixed type_size.Pre type_size.Post
size_of_fixed = fixed

pub word_of_fixed : Fixed word_of.Pre word_of.Post
word_of_fixed = fixed

pub slot_of_fixed : Fixed slot_of.Pre slot_of.Post
slot_of_fixed = fixed

pub address_fits_fixed : Fixed address-fits.Pre address-fits.Post
address_fits_fixed = fixed

pub position_of_fixed : Fixed position-of.Pre position-of.Post
position_of_fixed = fixed

pub encrypts_fixed : Fixed encrypts.Pre encrypts.Post
encrypts_fixed = fixed

pub encrypts_for_fixed : Fixed encrypts-for.Pre encrypts-for.Post
encrypts_for_fixed = fixed
