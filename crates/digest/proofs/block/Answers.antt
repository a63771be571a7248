-- The sixteen words are those of the block, place by place.
use Rattle.std.proofs.Common.{◌+◌, ◌*◌, get_or, sym, rules}
use Rattle.digest.specs.Sha256.{pad, words, block}
use Rattle.digest.proofs.FillLaws.{made}
use Rattle.digest.proofs.PaddingLaws.{block_long, block_at}
use Rattle.digest.proofs.block.Goals as goal

pub returns : goal.returns
returns c =
    let ws = words (pad c.args.m.now) in
    let i = c.args.i in
    made (λ j. get_or ws (16 * i + j) 0) (λ j y q e. search rules) (block ws i) c.from_fn.ensures.items
    (block_long c.args.m.now i c.requires) (λ j h. sym (block_at c.args.m.now i c.requires j h))
