-- `desk::save` meets its contract: five parts, one after the other, fill the 702 bytes.
use mathlib.Core.Path.{◌≡◌}
use lib.ListN.{length}
use Rattle.desk.specs.Desk.{saved}
use Rattle.desk.proofs.Laid.{laid}
use borrow.Author.Rules.{rules}
use Rattle.desk.proofs.save.Goals as goal

pub returns : goal.returns
unfolding saved
returns c =
    let s : length c.args.s.now ≡ 702 = search (rules, c.well_formed) in
    let d = c.args.t.device in
    let config : length d.config ≡ 88 = search (rules, c.well_formed) in
    let otp : length d.otp ≡ 64 = search (rules, c.well_formed) in
    let «data» : length d.«data» ≡ 512 = search (rules, c.well_formed) in
    let key : length d.tempKey.bytes ≡ 32 = search (rules, c.well_formed) in
    let six : length c.last_six.result ≡ 6 = search rules in
    let ends = laid c.args.s.now d.config d.otp d.«data» d.tempKey.bytes c.last_six.result s config otp «data» key six in
    rw (c.copy_from_slice.ensures.after, c.copy_from_slice-2.ensures.after, c.copy_from_slice-3.ensures.after)
    (rw (c.copy_from_slice-4.ensures.after, c.copy_from_slice-5.ensures.after, ← c.last_six.ensures) ends)
