-- Every command in two devices equal beside a slot that is secret and never read, with both zones locked: it draws on the same slots; where
-- it does not draw on that slot it comes to the same; and a MAC that does comes to the same but for the 32 bytes of its digest.
use Prim.Native.Nat.{ℕ}
use mathlib.Core.Path.{◌≡◌, refl, sym, ap, subst, ◌∙◌}
use mathlib.Core.Bool.{Bool, true, false, false≢true}
use mathlib.Core.List.{List}
use lib.ListN.{length}
use Rattle.rules.specs.declared.Device.{Device}
use Rattle.rules.specs.declared.Fields.{Fields}
use Rattle.rules.specs.declared.Slot.{Slot}
use Rattle.rules.specs.Words.{◌⇒◌}
use Rattle.rules.specs.State.{both_locked, is_secret, encrypt_read}
use Rattle.rules.specs.Plan.{Plan, Rule, says, settle}
use Rattle.rules.specs.Commands.{Command, a_read, a_mac, a_write, a_gen_dig, a_nonce, a_lock, a_random, a_derive_key, an_update_extra, a_check_mac, a_dev_rev, unknown, plan_of}
use Rattle.rules.specs.Nonce.{nonce, random}
use Rattle.rules.specs.Mac.{mac, mac_free}
use Rattle.rules.specs.CheckMac.{check_mac, check_mac_free, check_mac_effect}
use Rattle.rules.specs.GenDig.{gen_dig, gen_dig_free}
use Rattle.rules.specs.DeriveKey.{derive_key, derive_key_free}
use Rattle.rules.specs.Read.{read, read_free, data_read_free}
use Rattle.rules.specs.Write.{write, write_free, unlocked_write_free, locked_write_free, slot_write_free, write_mac, otp_written, written, write_effect}
use Rattle.rules.specs.Upkeep.{update_extra, dev_rev}
use Rattle.rules.proofs.Answers.{length_mac}
use Rattle.rules.proofs.Settle.{settle_both, settle_draws}
use Rattle.demands.specs.Demand3.{holds, is_mac}
use Rattle.demands.proofs.Beside.{Beside, with_data}
use Rattle.demands.proofs.KeyPlans.{digest_same, mac_same, check_mac_same, gen_dig_same, derive_key_same, derive_draws}
use Rattle.demands.proofs.ReadPlans.{read_same, lock_same}

-- Write does not look at the data zone
write_same : (d : Device) (y : List ℕ) (f : Fields) (input : List ℕ) → write d f input ≡ write (with_data y d) f input
unfolding write write_free unlocked_write_free locked_write_free slot_write_free write_mac otp_written written write_effect
write_same d y f input = refl

-- what a command draws on does not turn on the data zone
pub draws_same : (d : Device) (y : List ℕ) → both_locked d.config ≡ true → (c : Command) (f : Fields) (input supplied : List ℕ)
    → (plan_of c d f input supplied).draws ≡ (plan_of c (with_data y d) f input supplied).draws
unfolding nonce random update_extra dev_rev mac mac_free check_mac check_mac_free check_mac_effect gen_dig gen_dig_free derive_key derive_key_free read read_free data_read_free
draws_same d y locked a_read f input supplied = settle_draws (read d f input) (read (with_data y d) f input) refl refl refl
draws_same d y locked a_mac f input supplied = settle_draws (mac d f input) (mac (with_data y d) f input) refl refl refl
draws_same d y locked a_write f input supplied = ap (λ (r : Rule). (settle r).draws) (write_same d y f input)
draws_same d y locked a_gen_dig f input supplied = settle_draws (gen_dig d f input) (gen_dig (with_data y d) f input) refl refl refl
draws_same d y locked a_nonce f input supplied = refl
draws_same d y locked a_lock f input supplied = ap (λ (p : Plan). p.draws) (lock_same d y f input locked)
draws_same d y locked a_random f input supplied = refl
draws_same d y locked a_derive_key f input supplied =
    settle_draws (derive_key d f input) (derive_key (with_data y d) f input) refl refl (derive_draws d f input ∙ sym (derive_draws (with_data y d) f input))
draws_same d y locked an_update_extra f input supplied = refl
draws_same d y locked a_check_mac f input supplied = settle_draws (check_mac d f input) (check_mac (with_data y d) f input) refl refl refl
draws_same d y locked a_dev_rev f input supplied = refl
draws_same d y locked unknown f input supplied = refl

-- two plans that are the same, answers too unless the slot is drawn on; where it is, each answer has the 32 bytes of a digest
pub record Like (k : Slot) (p q : Plan) : Type 0 where
  pub stores : p.stores ≡ q.stores
  pub tempKey : p.tempKey ≡ q.tempKey
  pub answer : holds k p.draws ≡ false → p.answer ≡ q.answer
  pub digests : holds k p.draws ≡ true → (length p.answer ≡ 32) × (length q.answer ≡ 32)

same_like : (k : Slot) (p q : Plan) → holds k p.draws ≡ false → p ≡ q → Like k p q
same_like k p q h e = record {
  stores = ap (λ (x : Plan). x.stores) e;
  tempKey = ap (λ (x : Plan). x.tempKey) e;
  answer = λ a. ap (λ (x : Plan). x.answer) e;
  digests = λ a. absurd (false≢true (sym h ∙ a));
}

mac_is_mac : (c : Command) → is_mac c ≡ true → a_mac ≡ c
unfolding is_mac
mac_is_mac a_mac h = refl
mac_is_mac a_read h = absurd (false≢true h)
mac_is_mac a_write h = absurd (false≢true h)
mac_is_mac a_gen_dig h = absurd (false≢true h)
mac_is_mac a_nonce h = absurd (false≢true h)
mac_is_mac a_lock h = absurd (false≢true h)
mac_is_mac a_random h = absurd (false≢true h)
mac_is_mac a_derive_key h = absurd (false≢true h)
mac_is_mac an_update_extra h = absurd (false≢true h)
mac_is_mac a_check_mac h = absurd (false≢true h)
mac_is_mac a_dev_rev h = absurd (false≢true h)
mac_is_mac unknown h = absurd (false≢true h)

module _ (k : Slot) (d : Device) (y : List ℕ) (w : Beside k d.«data» y)
    (locked : both_locked d.config ≡ true) (secret : is_secret d.config k ≡ true) (unread : encrypt_read d.config k ≡ false) where
  plan_same : (c : Command) (f : Fields) (input supplied : List ℕ) → holds k (plan_of c d f input supplied).draws ≡ false
      → plan_of c d f input supplied ≡ plan_of c (with_data y d) f input supplied
  unfolding nonce random update_extra dev_rev
  plan_same a_read f input supplied h = read_same k d y w f input secret unread
  plan_same a_mac f input supplied h = mac_same k d y w f input h
  plan_same a_write f input supplied h = ap settle (write_same d y f input)
  plan_same a_gen_dig f input supplied h = gen_dig_same k d y w f input h
  plan_same a_nonce f input supplied h = refl
  plan_same a_lock f input supplied h = lock_same d y f input locked
  plan_same a_random f input supplied h = refl
  plan_same a_derive_key f input supplied h = derive_key_same k d y w f input h
  plan_same an_update_extra f input supplied h = refl
  plan_same a_check_mac f input supplied h = check_mac_same k d y w f input h
  plan_same a_dev_rev f input supplied h = refl
  plan_same unknown f input supplied h = refl

  mac_like : (f : Fields) (input : List ℕ) → Like k (settle (mac d f input)) (settle (mac (with_data y d) f input))
  unfolding mac mac_free holds
  mac_like f input =
      settle_both (Like k) (λ s. same_like k (says s) (says s) refl refl) (mac d f input) (mac (with_data y d) f input) refl refl
      (λ a b. record {
        stores = refl;
        tempKey = refl;
        answer = λ h. digest_same k d y w f input h;
        digests = λ h. (length_mac d f input, length_mac (with_data y d) f input);
      })

  pub plan_like : (c : Command) (f : Fields) (input supplied : List ℕ) → (holds k (plan_of c d f input supplied).draws ⇒ is_mac c) ≡ true
      → Like k (plan_of c d f input supplied) (plan_of c (with_data y d) f input supplied)
  plan_like c f input supplied h = go (holds k (plan_of c d f input supplied).draws) refl h where
    go : (t : Bool) → holds k (plan_of c d f input supplied).draws ≡ t → (t ⇒ is_mac c) ≡ true
        → Like k (plan_of c d f input supplied) (plan_of c (with_data y d) f input supplied)
    go true e h =
        subst (λ (c : Command). Like k (plan_of c d f input supplied) (plan_of c (with_data y d) f input supplied)) (mac_is_mac c h) (mac_like f input)
    go false e h = same_like k (plan_of c d f input supplied) (plan_of c (with_data y d) f input supplied) e (plan_same c f input supplied e)
