-- The loop's invariant: the rounds on what is left of both lists, from s on, give what all rounds give.
use Rattle.std.proofs.Common.{◌≡◌, ◌%◌, length}
use Rattle.digest.specs.Sha256.{rounds}
use Rattle.digest.proofs.rounds.Given as goal

abbrev pub invariant-loop-k : goal.invariant-loop-k
invariant-loop-k l =
    let a = l.k-iterator.a in
    let b = l.k-iterator.b in
    record {
      size : (a.size ≡ 8) × (b.size ≡ 8);
      whole : length a.rest.now % 8 ≡ 0;
      long : length a.rest.now ≡ length b.rest.now;
      left : rounds a.rest.now b.rest.now l.s ≡ rounds l.k l.w l.initial.s;
    }
