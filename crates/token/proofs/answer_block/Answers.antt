-- `token::answer_block` meets its contract: a whole block's answer, which fits, framed at the front of the output.
use mathlib.Core.Path.{◌≡◌, refl, sym, ◌∙◌}
use mathlib.Core.List.{List}
use Prim.Native.Nat.{ℕ}
use lib.Seq.{take-append_seam}
use borrow.Author.Tests.{le-ltb, eq-eqb}
use Rattle.wire.specs.Wire.{frame, counted}
use Rattle.wire.proofs.Laws.{put_fits, length_frame}
use Rattle.rules.specs.declared.Number.TheVariants.{Answered}
use Rattle.rules.specs.Events.{block_turn, plan_for, number_for, output_after}
use Rattle.rules.proofs.Answers.{few_for}
use Rattle.token.specs.Outcome.{outcome}
use Rattle.token.proofs.answer_block.Goals as goal

number_frame : (p : List ℕ) → number_for (frame p) ≡ Answered
unfolding frame counted
number_frame p = refl

pub returns : goal.returns
unfolding block_turn outcome output_after
returns c =
    let a = c.args in
    let answer = (plan_for a.token.device a.block.now a.random.now).answer in
    let few = few_for a.token.device a.block.now a.random.now c.requires.random_length in
    let put = put_fits a.output.now answer few c.requires.output_fits in
    let whole = sym c.is_whole.ensures ∙ c.if-not-is_whole.false in
    let output35 = le-ltb _ _ c.requires.output_fits in
    let random32 = eq-eqb _ _ c.requires.random_length in
    rw (c.answered-2.ensures, c.put.ensures.value, c.put.ensures.out_after, c.run_block-r.ensures, take-append_seam answer, put.0, put.1)
    (rw (c.requires.awake, whole, output35, random32, number_frame answer, length_frame answer)
    (record { value = refl; output_after = refl }))
