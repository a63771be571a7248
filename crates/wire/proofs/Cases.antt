-- Going by cases under `if`.
use Rattle.std.specs.Prelude.{if◌then◌else◌}
use mathlib.Core.Path.{◌≡◌, refl}
use mathlib.Core.Bool.{Bool, true, false}

-- what holds of both cases, each where its test passes or fails, holds of either
pub if_all : {A : Type 0} (P : A → Type 0) (t : Bool) (x y : A) → (t ≡ true → P x) → (t ≡ false → P y) → P (if t then x else y)
if_all P true x y p q = p refl
if_all P false x y p q = q refl

-- whatever the test says
pub if_either : {A : Type 0} (P : A → Type 0) (t : Bool) {x y : A} → P x → P y → P (if t then x else y)
if_either P t p q = if_all P t _ _ (λ _. p) (λ _. q)

-- how the cases of two choices by one test are related, so are the choices
pub if_both : {A B : Type 0} (R : A → B → Type 0) (t : Bool) {a b : A} {x y : B} → (t ≡ true → R a x) → (t ≡ false → R b y)
    → R (if t then a else b) (if t then x else y)
if_both R true p q = p refl
if_both R false p q = q refl

pub if_same : {A : Type 0} (t : Bool) {a b x y : A} → (t ≡ true → a ≡ x) → (t ≡ false → b ≡ y)
    → (if t then a else b) ≡ (if t then x else y)
if_same {A} t p q = if_both (λ (a x : A). a ≡ x) t p q
