-- Loading and saving undo each other: a state's bytes are its token's, and a token with whole zones comes back from its bytes.
use Prim.Native.Nat.{ℕ, zero, suc, ◌+◌, ◌≤◌}
use mathlib.Core.Path.{◌≡◌, refl}
use mathlib.Core.Bool.{Bool, true, false, ◌&&◌}
use mathlib.Core.List.{List, [], ◌∷◌, ◌++◌, append_assoc}
use native.Mathlib.Omega.{arith}
use lib.ListN.{length, take, drop, length-append, drop_of_length-le, take-append-drop}
use lib.Seq.{take_at, drop_at, take-add, drop-cons, get_or-append-add}
use borrow.Author.Tests.{leb-true}
use Rattle.rules.proofs.Tests.{and_left, and_right}
use Rattle.rules.specs.declared.Power.{Power}
use Rattle.rules.specs.declared.Power.TheVariants.{Asleep, Idle, Awake}
use Rattle.rules.specs.Words.{◌is◌, ◌up_to◌, byte, bytes}
use Rattle.token.specs.declared.Token.{Token}
use Rattle.desk.specs.Desk.{in_range, is_state, flag, flag_byte, power, power_byte, temp_key_in, loaded, last_six, saved}
use Rattle.desk.proofs.Laid.{state_length}

-- ---- the bytes of a state are those of its token

flag_back : (b : ℕ) → b up_to 1 ≡ true → flag_byte (flag b) ≡ b
flag_back zero h = refl
flag_back (suc zero) h = refl
flag_back (suc (suc b)) h = absurd (omega (arith, leb-true (suc (suc b)) 1 h))

power_back : (b : ℕ) → b up_to 2 ≡ true → power_byte (power b) ≡ b
power_back zero h = refl
power_back (suc zero) h = refl
power_back (suc (suc zero)) h = refl
power_back (suc (suc (suc b))) h = absurd (omega (arith, leb-true (suc (suc (suc b))) 2 h))

-- of six tests that hold together, the last five
each : (a b c d e f : Bool) → (a && b && c && d && e && f) ≡ true → (b ≡ true) × ((c ≡ true) × ((d ≡ true) × ((e ≡ true) × (f ≡ true))))
each a b c d e f h =
    let h5 = and_left (a && b && c && d && e) f h in
    let h4 = and_left (a && b && c && d) e h5 in
    let h3 = and_left (a && b && c) d h4 in
    let h2 = and_left (a && b) c h3 in
    (and_right a b h2, (and_right (a && b) c h3, (and_right (a && b && c) d h4, (and_right (a && b && c && d) e h5, and_right (a && b && c && d && e) f h))))

six : (s : List ℕ) → length s ≡ 702
    → drop 696 s ≡ byte 696 s ∷ byte 697 s ∷ byte 698 s ∷ byte 699 s ∷ byte 700 s ∷ byte 701 s ∷ []
six s h =
    let b1 : drop 696 s ≡ byte 696 s ∷ drop 697 s = drop-cons s 696 0 (omega arith) in
    let b2 : drop 697 s ≡ byte 697 s ∷ drop 698 s = drop-cons s 697 0 (omega arith) in
    let b3 : drop 698 s ≡ byte 698 s ∷ drop 699 s = drop-cons s 698 0 (omega arith) in
    let b4 : drop 699 s ≡ byte 699 s ∷ drop 700 s = drop-cons s 699 0 (omega arith) in
    let b5 : drop 700 s ≡ byte 700 s ∷ drop 701 s = drop-cons s 700 0 (omega arith) in
    let b6 : drop 701 s ≡ byte 701 s ∷ drop 702 s = drop-cons s 701 0 (omega arith) in
    let g : length s ≤ 702 = omega arith in
    let b7 : drop 702 s ≡ [] = drop_of_length-le s g in
    cc

joined : (s : List ℕ) → bytes 0 87 s ++ bytes 88 151 s ++ bytes 152 663 s ++ bytes 664 695 s ++ drop 696 s ≡ s
joined s =
    let e1 : take 152 s ≡ take 88 s ++ take 64 (drop 88 s) = take-add 88 64 s in
    let e2 : take 664 s ≡ take 152 s ++ take 512 (drop 152 s) = take-add 152 512 s in
    let e3 : take 696 s ≡ take 664 s ++ take 32 (drop 664 s) = take-add 664 32 s in
    cc (take-append-drop 696 s)

pub saved_loaded : (s : List ℕ) → is_state s ≡ true → saved (loaded s) ≡ s
unfolding is_state in_range loaded temp_key_in last_six saved
saved_loaded s h =
    let r = each (byte 696 s up_to 15) (byte 697 s up_to 1) (byte 698 s up_to 1) (byte 699 s up_to 1) (byte 700 s up_to 1) (byte 701 s up_to 2) (and_right (length s is 702) (in_range s) h) in
    let f1 = flag_back (byte 697 s) r.0 in
    let f2 = flag_back (byte 698 s) r.1.0 in
    let f3 = flag_back (byte 699 s) r.1.1.0 in
    let f4 = flag_back (byte 700 s) r.1.1.1.0 in
    let p = power_back (byte 701 s) r.1.1.1.1 in
    rw (f1, f2, f3, f4, p, ← six s (state_length s h)) (joined s)

-- ---- a token comes back from its bytes

flag_there : (b : Bool) → flag (flag_byte b) ≡ b
flag_there true = refl
flag_there false = refl

power_there : (p : Power) → power (power_byte p) ≡ p
power_there Asleep = refl
power_there Idle = refl
power_there Awake = refl

part : (p q r : List ℕ) (n m : ℕ) → length p ≡ n → length q ≡ m → take m (drop n (p ++ q ++ r)) ≡ q
part p q r n m hp hq = rw (append_assoc p q r, drop_at p (q ++ r) n hp) (take_at q r m hq)

behind : (p q : List ℕ) (n i : ℕ) → length p ≡ n → byte (n + i) (p ++ q) ≡ byte i q
behind p q n i h = rw (← h) (get_or-append-add p q i 0)

pub loaded_saved : (t : Token) → length t.device.config ≡ 88 → length t.device.otp ≡ 64 → length t.device.«data» ≡ 512
    → length t.device.tempKey.bytes ≡ 32 → loaded (saved t) ≡ t
unfolding loaded temp_key_in last_six saved
loaded_saved t ha hb hd hk =
    let a = t.device.config in
    let b = t.device.otp in
    let d = t.device.«data» in
    let k = t.device.tempKey.bytes in
    let e = last_six t.device.tempKey t.power in
    let front : length (a ++ b ++ d ++ k) ≡ 696 = simp length-append (omega arith) in
    let x1 : a ++ b ++ d ++ k ++ e ≡ [] ++ a ++ (b ++ (d ++ (k ++ e))) = simp append_assoc in
    let x2 : a ++ b ++ d ++ k ++ e ≡ a ++ b ++ (d ++ (k ++ e)) = simp append_assoc in
    let x3 : a ++ b ++ d ++ k ++ e ≡ a ++ b ++ d ++ (k ++ e) = simp append_assoc in
    let c1 : bytes 0 87 (saved t) ≡ a = rw x1 (part [] a (b ++ (d ++ (k ++ e))) 0 88 refl ha) in
    let c2 : bytes 88 151 (saved t) ≡ b = rw x2 (part a b (d ++ (k ++ e)) 88 64 ha hb) in
    let c3 : bytes 152 663 (saved t) ≡ d = rw x3 (part (a ++ b) d (k ++ e) 152 512 (simp length-append (omega arith)) hd) in
    let c4 : bytes 664 695 (saved t) ≡ k = part (a ++ b ++ d) k e 664 32 (simp length-append (omega arith)) hk in
    let s0 : byte 696 (saved t) ≡ t.device.tempKey.slotID.0 = behind (a ++ b ++ d ++ k) e 696 0 front in
    let s1 : flag (byte 697 (saved t)) ≡ t.device.tempKey.sourceFlag = rw (behind (a ++ b ++ d ++ k) e 696 1 front) (flag_there _) in
    let s2 : flag (byte 698 (saved t)) ≡ t.device.tempKey.genData = rw (behind (a ++ b ++ d ++ k) e 696 2 front) (flag_there _) in
    let s3 : flag (byte 699 (saved t)) ≡ t.device.tempKey.checkFlag = rw (behind (a ++ b ++ d ++ k) e 696 3 front) (flag_there _) in
    let s4 : flag (byte 700 (saved t)) ≡ t.device.tempKey.valid = rw (behind (a ++ b ++ d ++ k) e 696 4 front) (flag_there _) in
    let s5 : power (byte 701 (saved t)) ≡ t.power = rw (behind (a ++ b ++ d ++ k) e 696 5 front) (power_there _) in
    rw (c1, c2, c3, c4, s0, s1, s2, s3, s4, s5)
