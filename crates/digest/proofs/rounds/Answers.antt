-- The loop's invariant: the rounds on what is left of both lists, from s on, give what all rounds give.
use Rattle.std.proofs.Common.{◌≡◌, length, ap, inl, inr, arith, rules, length-append}
use Rattle.digest.proofs.RoundLaws.{rounds_next, rounds_none}
use Rattle.digest.proofs.rounds.Goals as goal

pub loop-k-preserved : goal.loop-k-preserved
loop-k-preserved c =
    let turn = c.loop-k in
    let k-left = c.next.new.self.a.rest.now in
    let w-left = c.next.new.self.b.rest.now in
    let e = c.in-Some.ensures.steps in
    let k = simp length-append at (ap length e.0.1.0) in
    let w = simp length-append at (ap length e.1.1.0) in
    record {
      size = search rules;
      whole = omega arith;
      long = omega arith;
      left =
          rounds_next c.in-Some.k.now k-left c.in-Some.w.now w-left turn.s e.0.1.0 e.1.1.0
          (omega arith) c.eight_rounds-s.ensures turn.invariant.left;
    }

pub returns : goal.returns
returns c =
    let turn = c.loop-k in
    let k-left = turn.k-iterator.a.rest.now in
    let w-left = turn.k-iterator.b.rest.now in
    let none : length k-left ≡ 0 = elim c.in-None.ensures.steps [ inl p ↦ omega arith | inr p ↦ omega arith ] in
    rounds_none k-left w-left turn.s none turn.invariant.left
