-- How long the answers of a well-formed state are: a command answers with 1, 4 or 32 bytes, and a frame adds 3.
use Rattle.std.specs.Prelude.{if◌then◌else◌}
use Prim.Native.Nat.{ℕ, ◌+◌, ◌*◌, ◌≤◌}
use mathlib.Core.Path.{◌≡◌, refl, sym, ap, ◌∙◌}
use mathlib.Core.Bool.{Bool, true, false}
use mathlib.Core.Logic.{◌⊎◌, inl, inr}
use mathlib.Core.List.{List, [], ◌∷◌}
use native.Mathlib.Omega.{arith}
use borrow.Author.Tests.{eqb-true, eqb-false, ltb-false}
use lib.Bits.{bit_xor}
use lib.ListN.{length, take, drop}
use Rattle.wire.specs.Wire.{bit_in, bits_in, check_from, check_value, counted, frame, low_first_at, whole}
use Rattle.wire.proofs.Cases.{if_all, if_either}
use Rattle.wire.proofs.Laws.{length_frame}
use Rattle.rules.specs.declared.Device.{Device}
use Rattle.rules.specs.declared.Fields.{Fields}
use Rattle.rules.specs.declared.Number.TheVariants.{Answered}
use Rattle.rules.specs.declared.Slot.{Slot}
use Rattle.rules.specs.Words.{◌⇒◌, ◌is◌, bit, bytes, equal, xor_row}
use Rattle.rules.specs.State.{index, slot_bytes, number_of, is_awake, is_secret}
use Rattle.rules.specs.Plan.{Plan}
use Rattle.rules.specs.Nonce.{four_times, used_random, nonce_input, nonce_random, nonce, random_shape, random}
use Rattle.rules.specs.Mac.{mac}
use Rattle.rules.specs.CheckMac.{check_mac, check_mac_effect}
use Rattle.rules.specs.GenDig.{gen_dig}
use Rattle.rules.specs.DeriveKey.{derive_key, derived, derive_key_mac, asks_mac}
use Rattle.rules.specs.Address.{zone, size, data_slot, address_fits, position}
use Rattle.rules.specs.Read.{read, read_bytes}
use Rattle.rules.specs.Write.{write, write_effect, write_mac, encrypted}
use Rattle.rules.specs.Upkeep.{lock, update_extra, dev_rev_shape, dev_rev}
use Rattle.rules.specs.Commands.{Command, a_read, a_mac, a_write, a_gen_dig, a_nonce, a_lock, a_random, a_derive_key, an_update_extra, a_check_mac, a_dev_rev, unknown, rule_of, command_of}
use Rattle.rules.specs.Events.{Event, wake, idle, sleep, block, Turn, turn, wake_turn, idle_turn, sleep_turn, block_turn, plan_for, opcode_of, fields_of, input_of, number_for}
use Rattle.rules.proofs.Answers.{length_mac, length_used}
use Rattle.rules.proofs.Rows.{zip_length, length_part}
use Rattle.rules.proofs.Settle.{settle_all}
use Rattle.rules.proofs.Shapes.{read_fits}
use Rattle.address.proofs.Within.{config_within, otp_within, data_within}
use Rattle.token.specs.declared.Token.{Token}
use Rattle.token.specs.declared.Outcome.{Outcome}
use Rattle.token.specs.Outcome.{outcome, fresh_of}
use Rattle.demands.specs.Calls.{Call, turn_of, given}
use Rattle.demands.specs.WellFormed.{WellFormed, Occurring}
use Rattle.demands.proofs.Calling.{call_cases}

-- ---- rows

pub length_slot : (d : Device) (k : Slot) → length d.«data» ≡ 512 → length (slot_bytes d k) ≡ 32
unfolding slot_bytes
length_slot d k h = length_part d.«data» (32 * index k) 32 (omega arith)

-- a row made of two of 32 bytes
length_xor : (a b : List ℕ) → length a ≡ 32 → length b ≡ 32 → length (xor_row a b) ≡ 32
length_xor a b ha hb = zip_length bit_xor a b (ha ∙ sym hb) ∙ ha

-- ---- commands

-- 1, 4 or 32 bytes: a row, a plan's answer
abbrev Fits : List ℕ → Type 0
Fits l = (length l ≡ 1) ⊎ ((length l ≡ 4) ⊎ (length l ≡ 32))

abbrev Answers : Plan → Type 0
Answers p = Fits p.answer

sized : (t : Bool) (n : ℕ) → n ≡ (if t then 32 else 4) → (n ≡ 1) ⊎ ((n ≡ 4) ⊎ (n ≡ 32))
sized true n e = inr (inr e)
sized false n e = inr (inl e)

fits_part : (f : Fields) (l : List ℕ) → position f + size f ≤ length l → Fits (take (size f) (drop (position f) l))
fits_part f l h = sized (bit 7 f.param1) _ (length_part l (position f) (size f) h)

module _ (s : Token) (h : WellFormed s) where
  abbrev d : Device
  d = s.device

  fits_read : (f : Fields) → address_fits f ≡ true → Fits (read_bytes d f)
  unfolding read_bytes
  fits_read f a =
      if_all Fits (zone f is 0) _ _
      (λ z. fits_part f d.config (omega (arith, h.config, config_within f a (eqb-true (zone f) 0 z))))
      (λ z. if_all Fits (zone f is 1) _ _
      (λ o. fits_part f d.otp (omega (arith, h.otp, otp_within f a (eqb-true (zone f) 1 o))))
      (λ o. if_either Fits (is_secret d.config (data_slot f))
      (inr (inr (length_xor _ _ (length_slot d (data_slot f) h.data_zone) h.tempKey)))
      (fits_part f d.«data» (omega (arith, h.data_zone, data_within f a (eqb-false (zone f) 0 z) (eqb-false (zone f) 1 o))))))

  module _ (f : Fields) (input supplied : List ℕ) (right : length supplied ≡ 32) where
    fits_effect : (c : Command) → (rule_of c d f input supplied).shape ≡ true → Answers (rule_of c d f input supplied).effect
    unfolding read mac write write_effect gen_dig nonce nonce_input nonce_random lock random derive_key derived update_extra check_mac check_mac_effect
        dev_rev
    fits_effect a_read shape = fits_read f (read_fits f input shape)
    fits_effect a_mac shape = inr (inr (length_mac d f input))
    fits_effect a_write shape =
        if_either Answers (encrypted d.config f)
        (if_either Answers (equal (write_mac d f input) (bytes 32 63 input)) (inl refl) (inl refl))
        (inl refl)
    fits_effect a_gen_dig shape = inl refl
    fits_effect a_nonce shape = if_either Answers (f.param1 is 3) (inl refl) (inr (inr (length_used d.config supplied right)))
    fits_effect a_lock shape = inl refl
    fits_effect a_random shape = inr (inr (length_used d.config supplied right))
    fits_effect a_derive_key shape = if_either Answers (asks_mac d.config f ⇒ equal (derive_key_mac d f) input) (inl refl) (inl refl)
    fits_effect an_update_extra shape = inl refl
    fits_effect a_check_mac shape = inl refl
    fits_effect a_dev_rev shape = inr (inl (length_part d.config 4 4 (omega (arith, h.config))))
    fits_effect unknown shape = inl refl

  fits_plan : (b supplied : List ℕ) → length supplied ≡ 32 → Answers (plan_for d b supplied)
  unfolding plan_for
  fits_plan b supplied right =
      let c : Command = command_of (opcode_of b) in
      settle_all Answers (rule_of c d (fields_of b) (input_of b) supplied)
      (λ shape _. fits_effect (fields_of b) (input_of b) supplied right c shape)
      (inl refl) (inl refl)

-- ---- events

-- no answer, or the frame of 1, 4 or 32 bytes
abbrev Framed : ℕ → Type 0
Framed n = (n ≡ 0) ⊎ ((n ≡ 4) ⊎ ((n ≡ 7) ⊎ (n ≡ 35)))

abbrev Sent : Turn → Type 0
Sent t = Framed (length t.answer)

framed : (p : List ℕ) → Fits p → Framed (length (frame p))
framed p (inl e) = inr (inl (omega (arith, length_frame p)))
framed p (inr (inl e)) = inr (inr (inl (omega (arith, length_frame p))))
framed p (inr (inr e)) = inr (inr (inr (omega (arith, length_frame p))))

turn_framed : (s : Token) → WellFormed s → (e : Event) (supplied : List ℕ) → length supplied ≡ 32
    → Sent (turn s.device s.power e supplied)
unfolding wake_turn idle_turn sleep_turn block_turn
turn_framed s h wake supplied right = if_either Sent (is_awake s.power) (inl refl) (framed _ (inl refl))
turn_framed s h idle supplied right = inl refl
turn_framed s h sleep supplied right = inl refl
turn_framed s h (block b) supplied right =
    if_either Sent (is_awake s.power)
    (if_either Sent (whole b) (framed _ (fits_plan s h b supplied right)) (framed _ (inl refl)))
    (inl refl)

-- ---- calls

-- number 0 comes with an answer, and no other number does
answered_some : (a : List ℕ) → number_for a ≡ Answered → length a ≡ 0 → ⊥
answered_some [] e n = omega (arith, ap number_of e)
answered_some (b ∷ bs) e n = omega (arith, n)

others_none : (a : List ℕ) → (number_for a ≡ Answered → ⊥) → length a ≡ 0
others_none [] n = refl
others_none (b ∷ bs) n = absurd (n refl)

some : (n : ℕ) → Framed n → (n ≡ 0 → ⊥) → (n ≡ 4) ⊎ ((n ≡ 7) ⊎ (n ≡ 35))
some n (inl e) none = absurd (none e)
some n (inr l) none = l

within : (n : ℕ) → Framed n → n ≤ 35
within n (inl e) = omega arith
within n (inr (inl e)) = omega arith
within n (inr (inr (inl e))) = omega arith
within n (inr (inr (inr e))) = omega arith

pub call_lengths : (s : Token) (c : Call) → WellFormed s → (given s c).number ≡ Answered
    → ((given s c).length ≡ 4) ⊎ (((given s c).length ≡ 7) ⊎ ((given s c).length ≡ 35))
call_lengths s c h =
    call_cases (λ (o : Outcome) (_ : List ℕ). o.number ≡ Answered → (o.length ≡ 4) ⊎ ((o.length ≡ 7) ⊎ (o.length ≡ 35))) s c
    (λ e. absurd (omega (arith, ap number_of e)))
    (λ e. absurd (omega (arith, ap number_of e)))
    (λ _ right e. some _ (turn_framed s h c.event c.random (eqb-true _ 32 right)) (answered_some (turn_of s c).answer e))

pub call_others : (s : Token) (c : Call) → ((given s c).number ≡ Answered → ⊥) → (given s c).length ≡ 0
call_others s c =
    call_cases (λ (o : Outcome) (_ : List ℕ). (o.number ≡ Answered → ⊥) → o.length ≡ 0) s c (λ _. refl) (λ _. refl)
    (λ _ _. others_none (turn_of s c).answer)

pub call_fitting : (s : Token) (c : Call) → WellFormed s → (given s c).length ≤ length c.output
call_fitting s c h =
    call_cases (λ (o : Outcome) (_ : List ℕ). o.length ≤ length c.output) s c (omega arith) (omega arith)
    (λ wide right.
    omega (arith, ltb-false (length c.output) 35 wide, within _ (turn_framed s h c.event c.random (eqb-true _ 32 right))))

-- ---- each of the three occurs

pub occurring : Occurring
unfolding bit_in bits_in check_from check_value counted frame low_first_at whole four_times used_random random_shape random dev_rev_shape dev_rev
    command_of plan_for wake_turn block_turn outcome fresh_of
occurring = record { four = refl; seven = refl; thirty_five = refl }
