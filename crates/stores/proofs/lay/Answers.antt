-- As many bytes are copied as fit, and that many there are.
use Prim.Native.Nat.{◌-◌, min}
use mathlib.Core.Path.{◌≡◌, ◌∙◌}
use native.Mathlib.Omega.{arith}
use lib.ListN.{length, length-take, length-drop}
use Rattle.rows.proofs.Row.{fitting_min}
use Rattle.rules.proofs.Stores.{laid}
use Rattle.stores.proofs.lay.Goals as goal

pub slice_bounds-copy_from_slice-end-2 : goal.slice_bounds-copy_from_slice-end-2
slice_bounds-copy_from_slice-end-2 c = simp length-take (omega (arith, fitting_min, c.room-n.ensures))

pub copy_from_slice-requires : goal.copy_from_slice-requires
copy_from_slice-requires c = simp (length-take, length-drop) (omega (arith, fitting_min, c.room-n.ensures))

pub returns : goal.returns
returns c =
    let a = c.args in
    let z = a.zone.now in
    let r = a.row.now in
    let n = c.room-n.result in
    let e : n ≡ min (length r) (length z - a.at) = c.room-n.ensures ∙ fitting_min (length z) a.at (length r) in
    laid z r c.copy_from_slice.new.self a.at c.min-from.result n _ c.min-from.ensures e (omega arith) c.copy_from_slice.ensures.after
