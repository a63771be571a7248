-- Under the shape the row holds what was sent; the answer has 32 bytes, so that no zeros follow it.
use Rattle.std.proofs.Common.{◌≡◌, sym, ◌∙◌, length, arith, rules, append-nil}
use borrow.Author.Tests.{eq-eqb, ne_eqb}
use Rattle.rules.specs.Nonce.{nonce_input, nonce_random, nonce}
use Rattle.rows.proofs.Row.{row_all}
use Rattle.nonce.proofs.Sent.{nonce_32, nonce_20, front_sent}
use Rattle.nonce.proofs.nonce.Goals as goal

pub returns-then-f-eq3 : goal.returns-then-f-eq3
unfolding nonce_input nonce
returns-then-f-eq3 c =
    let a = c.args in
    let shape = sym c.nonce_shape.ensures ∙ c.if-not-nonce_shape.false in
    let sent = row_all a.input.now (nonce_32 a.f a.input.now shape c.if-f-eq3.true) in
    rw (shape, eq-eqb _ _ c.if-f-eq3.true, c.answered.ensures, c.taken_key.ensures, c.row_of-row.ensures, sent)

pub returns : goal.returns
unfolding nonce_random nonce
returns c =
    let a = c.args in
    let shape = sym c.nonce_shape.ensures ∙ c.if-not-nonce_shape.false in
    let sent = front_sent a.input.now 20 (nonce_20 a.f a.input.now shape c.if-f-eq3.false) (omega arith) in
    let l : length c.used_random-answer.result ≡ 32 = search rules in
    let digest = c.nonce_digest-digest.ensures in
    let answer = c.used_random-answer.ensures in
    rw (shape, ne_eqb _ _ c.if-f-eq3.false, c.taken_key-2.ensures, digest, ← answer, c.row_of-row.ensures, sent, l, append-nil)
