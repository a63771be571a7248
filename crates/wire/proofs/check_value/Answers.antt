-- `wire::check_value` meets its contract: the register takes in byte after byte, and is turned back at the end.
use mathlib.Core.Path.{◌≡◌}
use borrow.Author.Rules.{rules}
use Rattle.std.specs.Prelude.{fold}
use Rattle.wire.proofs.Reversed.{twice, by_library}
use Rattle.wire.proofs.Register.{enters, all_enter}
use Rattle.wire.proofs.check_value.Goals as goal

pub returns : goal.returns
returns c =
    let start = c.args.start in
    let s = c.args.s.now in
    let folded : c.fold.result ≡ fold enters c.reverse_bits.result s = search rules in
    cc (by_library start, by_library c.fold.result, all_enter c.reverse_bits.result s, twice start (search rules))
