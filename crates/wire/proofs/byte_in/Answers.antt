-- `wire::byte_in` meets its contract: it takes the eight steps of the byte's bits at once.
use borrow.Author.Rules.{rules}
use Rattle.wire.proofs.Register.{byte_enters}
use Rattle.wire.proofs.byte_in.Goals as goal

pub returns : goal.returns
returns c = rw c.from.ensures (byte_enters c.args.q c.args.x (search rules) (search rules))
