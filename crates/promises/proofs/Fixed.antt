-- What is proved of the contract of every public function: it asks nothing of its caller, and it fixes the result and every lent byte.
use mathlib.Core.Path.{◌≡◌, sym, ◌∙◌}

module _ {K : Type 0} {A R L : K → Type 0} (Pre : (κs : K) → A κs → Type 0) (Post : (κs : K) → A κs → R κs → L κs → Type 0) where
  -- at all arguments what is required holds
  abbrev pub Total : Type 0
  Total = (κs : K) (a : A κs) → Pre κs a

  -- any two results that are allowed at the same arguments are equal
  pub record Fixed : Type 0 where
    pub total : Total
    pub one : (κs : K) (a : A κs) (x y : R κs) (l m : L κs) → Post κs a x l → Post κs a y m → x ≡ y

  -- the same of the result and of the lent bytes, which `lent` reads off the parameters at exit
  pub record FixedLent {B : Type 0} (lent : (κs : K) → L κs → B) : Type 0 where
    pub total : Total
    pub both : (κs : K) (a : A κs) (x y : R κs) (l m : L κs) → Post κs a x l → Post κs a y m → (x ≡ y) × (lent κs l ≡ lent κs m)

  -- the same of the result and of two things that are lent
  pub record FixedLentTwo {B C : Type 0} (first : (κs : K) → L κs → B) (second : (κs : K) → L κs → C) : Type 0 where
    pub total : Total
    pub all : (κs : K) (a : A κs) (x y : R κs) (l m : L κs) → Post κs a x l → Post κs a y m
        → (x ≡ y) × ((first κs l ≡ first κs m) × (second κs l ≡ second κs m))

  -- the same of the result and of three things that are lent
  pub record FixedLents {B C D : Type 0} (first : (κs : K) → L κs → B) (second : (κs : K) → L κs → C) (third : (κs : K) → L κs → D) : Type 0 where
    pub total : Total
    pub all : (κs : K) (a : A κs) (x y : R κs) (l m : L κs) → Post κs a x l → Post κs a y m
        → (x ≡ y) × ((first κs l ≡ first κs m) × ((second κs l ≡ second κs m) × (third κs l ≡ third κs m)))

  -- the same of what a returned reference holds, which `seen` reads off it
  pub record FixedSeen {B : Type 0} (seen : (κs : K) → R κs → B) : Type 0 where
    pub total : Total
    pub one : (κs : K) (a : A κs) (x y : R κs) (l m : L κs) → Post κs a x l → Post κs a y m → seen κs x ≡ seen κs y

-- what equals one thing is equal
pub one : {A : Type 0} {x y z : A} → x ≡ z → y ≡ z → x ≡ y
one p q = p ∙ sym q

-- a contract that asks nothing and says what the result and each lent thing equal fixes them
module _ {K : Type 0} {A R L : K → Type 0} where
  pub fixed : {f : (κs : K) → A κs → R κs} → Fixed {A = A} {L = L} (λ κs a. Unit {0}) (λ κs a x l. x ≡ f κs a)
  fixed = record { total = λ κs a. tt; one = λ κs a x y l m p q. one p q }

  pub fixed_seen : {B : Type 0} {seen : (κs : K) → R κs → B} {f : (κs : K) → A κs → B}
      → FixedSeen {A = A} {L = L} (λ κs a. Unit {0}) (λ κs a x l. seen κs x ≡ f κs a) seen
  fixed_seen = record { total = λ κs a. tt; one = λ κs a x y l m p q. one p q }

  pub fixed_lent : {B : Type 0} {lent : (κs : K) → L κs → B} {f : (κs : K) → A κs → R κs} {g : (κs : K) → A κs → B}
      → FixedLent {A = A} (λ κs a. Unit {0}) (λ κs a x l. (x ≡ f κs a) × (lent κs l ≡ g κs a)) lent
  fixed_lent = record { total = λ κs a. tt; both = λ κs a x y l m p q. (one p.0 q.0, one p.1 q.1) }

  pub fixed_lent_two : {B C : Type 0} {first : (κs : K) → L κs → B} {second : (κs : K) → L κs → C}
      {f : (κs : K) → A κs → R κs} {g : (κs : K) → A κs → B} {h : (κs : K) → A κs → C}
      → FixedLentTwo {A = A} (λ κs a. Unit {0}) (λ κs a x l. (x ≡ f κs a) × ((first κs l ≡ g κs a) × (second κs l ≡ h κs a))) first second
  fixed_lent_two = record { total = λ κs a. tt; all = λ κs a x y l m p q. (one p.0 q.0, (one p.1.0 q.1.0, one p.1.1 q.1.1)) }

  pub fixed_lents : {B C D : Type 0} {first : (κs : K) → L κs → B} {second : (κs : K) → L κs → C} {third : (κs : K) → L κs → D}
      {f : (κs : K) → A κs → R κs} {g : (κs : K) → A κs → B} {h : (κs : K) → A κs → C} {i : (κs : K) → A κs → D}
      → FixedLents {A = A} (λ κs a. Unit {0})
      (λ κs a x l. (x ≡ f κs a) × ((first κs l ≡ g κs a) × ((second κs l ≡ h κs a) × (third κs l ≡ i κs a)))) first second third
  fixed_lents = record { total = λ κs a. tt; all = λ κs a x y l m p q. (one p.0 q.0, (one p.1.0 q.1.0, (one p.1.1.0 q.1.1.0, one p.1.1.1 q.1.1.1))) }
