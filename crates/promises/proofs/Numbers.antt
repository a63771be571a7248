-- The document's number of a case, and the byte of a status, are those of no other case: a promise that names the number says no less than one
-- that names the case, so the two say the same.
use Prim.Native.Nat.{ℕ}
use mathlib.Core.Path.{◌≡◌, refl, sym, ap, ◌∙◌}
use Rattle.std.specs.Prelude.{if◌then◌else◌}
use Rattle.rules.specs.declared.Number.{Number}
use Rattle.rules.specs.declared.Number.TheVariants.{Answered, ShortOutput, WrongRandom, NoAnswer, WrongImage}
use Rattle.rules.specs.declared.Status.{Status}
use Rattle.rules.specs.declared.Status.TheVariants.{Done, Unequal, BadShape, Refused, Woken, Damaged}
use Rattle.rules.specs.Words.{◌is◌}
use Rattle.rules.specs.State.{number_of, status_byte}

-- what has a way back is one-to-one
one_to_one : {A : Type 0} (f : A → ℕ) (g : ℕ → A) → ((x : A) → g (f x) ≡ x) → (x y : A) → f x ≡ f y → x ≡ y
one_to_one f g back x y e = sym (back x) ∙ ap g e ∙ back y

abbrev case_of : ℕ → Number
case_of n = if n is 0 then Answered else (if n is 1 then ShortOutput else (if n is 2 then WrongRandom else (if n is 3 then NoAnswer else WrongImage)))

case_back : (n : Number) → case_of (number_of n) ≡ n
case_back Answered = refl
case_back ShortOutput = refl
case_back WrongRandom = refl
case_back NoAnswer = refl
case_back WrongImage = refl

pub number_one : (m n : Number) → number_of m ≡ number_of n → m ≡ n
number_one = one_to_one number_of case_of case_back

abbrev status_of : ℕ → Status
status_of b =
    if b is 0x00 then Done
    else (if b is 0x01 then Unequal
    else (if b is 0x03 then BadShape
    else (if b is 0x0F then Refused
    else (if b is 0x11 then Woken
    else Damaged))))

status_back : (s : Status) → status_of (status_byte s) ≡ s
status_back Done = refl
status_back Unequal = refl
status_back BadShape = refl
status_back Refused = refl
status_back Woken = refl
status_back Damaged = refl

pub status_one : (s t : Status) → status_byte s ≡ status_byte t → s ≡ t
status_one = one_to_one status_byte status_of status_back
