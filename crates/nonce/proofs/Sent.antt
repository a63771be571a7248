-- What was sent, as the shape of Nonce leaves it: how long it is, and the row that the code hands on.
use Rattle.std.proofs.Common.{◌≡◌, ◌≤◌, ◌∙◌, ℕ, true, List, ◌++◌, length, take, arith}
use Rattle.std.proofs.Math.Seq.{take_all, take_at, take-take}
use Rattle.std.proofs.lemmas.Grind.{common_steps}
use Rattle.std.proofs.lemmas.Bool.Decides.{nat_tests}
use Rattle.rules.specs.declared.Fields.{Fields}
use Rattle.rules.specs.Words.{zeros}
use Rattle.rules.specs.Nonce.{nonce_shape}
use Rattle.rows.specs.Row.{row}

-- 32 bytes for Param1 3, else 20
pub nonce_32 : (f : Fields) (input : List ℕ) → nonce_shape f input ≡ true → f.param1 ≡ 3 → length input ≡ 32
unfolding nonce_shape
nonce_32 f input h e = grind (arith, common_steps, nat_tests)

pub nonce_20 : (f : Fields) (input : List ℕ) → nonce_shape f input ≡ true → (f.param1 ≡ 3 → ⊥) → length input ≡ 20
unfolding nonce_shape
nonce_20 f input h n = grind (arith, common_steps, nat_tests)

-- the first bytes of the row are what was sent
pub front_sent : (input : List ℕ) (n : ℕ) → length input ≡ n → n ≤ 32 → take n (row input 0 32) ≡ input
unfolding row
front_sent input n l h =
    let e : take 32 input ≡ input = take_all 32 input (omega arith) in
    take-take n 32 (take 32 input ++ zeros 32) h ∙ rw e (take_at input (zeros 32) n l)
