-- The refusals: the checker computes each; what a wrong MAC leaves is then demand 1.
use mathlib.Core.Path.{◌≡◌, refl}
use mathlib.Core.Bool.{true}
use Rattle.rules.specs.Messages.{parent_message}
use Rattle.rules.specs.DeriveKey.{derive_key_mac}
use Rattle.rules.specs.Write.{locked_write_free, slot_write_free, write_mac}
use Rattle.demands.specs.Demand1.{wrong_mac, wrong_mac_in}
use Rattle.demands.specs.Refusals.{keyed, digested, derive_unproved, write_unproved, Stands, Refusals}
use Rattle.demands.proofs.Demand1.{by_cause}
use Rattle.demands.proofs.Witnesses.{opening, digesting}

-- the wrong MACs
derive_mac : wrong_mac_in keyed derive_unproved ≡ true
unfolding digesting wrong_mac derive_key_mac parent_message
derive_mac = refl

write_mac_fits : wrong_mac_in digested write_unproved ≡ true
unfolding digesting wrong_mac write_mac
write_mac_fits = refl

derive_stands : Stands keyed derive_unproved true true true
unfolding opening
derive_stands = record { runs = refl; shape = refl; free = refl; mac = derive_mac }

write_stands : Stands digested write_unproved true true true
unfolding opening locked_write_free slot_write_free
write_stands = record { runs = refl; shape = refl; free = refl; mac = write_mac_fits }

pub refusals : Refusals
unfolding opening wrong_mac
refusals = record {
  held = refl;
  short_output = record { number = refl; length = refl; token = refl; output = refl };
  wrong_random = record { number = refl; length = refl; token = refl; output = refl };
  shape = (
    record { runs = refl; shape = refl; free = refl; mac = refl },
    record { number = refl; length = refl; token = refl; output = refl; answer = refl },
  );
  conditions = (
    record { runs = refl; shape = refl; free = refl; mac = refl },
    record { number = refl; length = refl; token = refl; output = refl; answer = refl },
  );
  derive_key = (
    derive_stands,
    (by_cause keyed derive_unproved).digest derive_stands.runs derive_stands.shape derive_stands.free derive_mac,
  );
  write = (
    write_stands,
    (by_cause digested write_unproved).digest write_stands.runs write_stands.shape write_stands.free write_mac_fits,
  );
  damaged = (refl, record { number = refl; length = refl; token = refl; output = refl; answer = refl });
}
