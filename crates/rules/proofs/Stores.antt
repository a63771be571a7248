-- Bytes stored one after the other, upwards in a zone: as one change of it, as a row laid over it; stores behind others.
use Prim.Native.Nat.{ℕ, zero, suc, ◌+◌, ◌-◌, min, ◌≤◌, ◌<◌}
use mathlib.Core.Path.{◌≡◌, refl, sym, ◌∙◌}
use mathlib.Core.Logic.{⊎_elim}
use mathlib.Core.List.{List, [], ◌∷◌, ◌++◌, append_assoc}
use native.Mathlib.Omega.{arith}
use native.Mathlib.Nat.{eq-or-lt_of_le}
use native.Mathlib.Numerals.{add-one}
use lib.ListN.{length, take, drop, set, length-set, length-take}
use borrow.Rule.Slice.PartMut.{put_mid}
use Rattle.std.proofs.lemmas.List.{drop-drop}
use lib.Seq.{set_out, sets, sets-eq}
use Rattle.rules.specs.declared.Device.{Device}
use Rattle.rules.specs.Plan.{Store, in_config, in_otp, in_data, store, store_all, upwards}

-- stores behind others are carried out on what the others leave
pub stored_behind : (d : Device) (xs ys : List Store) → store_all d (xs ++ ys) ≡ store_all (store_all d xs) ys
stored_behind d [] ys = refl
stored_behind d (x ∷ xs) ys = stored_behind (store d x) xs ys

-- a zone: its store, its bytes, a device with other bytes in it, and that a store sets one byte of it
pub record Zone : Type 0 where
  pub at : ℕ → ℕ → Store
  pub get : Device → List ℕ
  pub put : List ℕ → Device → Device
  pub stores : (d : Device) (p b : ℕ) → store d (at p b) ≡ put (set (get d) p b) d
  pub kept : (d : Device) → put (get d) d ≡ d
  pub got : (d : Device) (l : List ℕ) → get (put l d) ≡ l
  pub over : (d : Device) (l m : List ℕ) → put m (put l d) ≡ put m d

abbrev pub config_zone : Zone
config_zone = record {
  at = in_config;
  get = λ d. d.config;
  put = λ l d. record { config = l; otp = d.otp; «data» = d.«data»; tempKey = d.tempKey };
  stores = λ d p b. refl;
  kept = λ d. refl;
  got = λ d l. refl;
  over = λ d l m. refl;
}

abbrev pub otp_zone : Zone
otp_zone = record {
  at = in_otp;
  get = λ d. d.otp;
  put = λ l d. record { config = d.config; otp = l; «data» = d.«data»; tempKey = d.tempKey };
  stores = λ d p b. refl;
  kept = λ d. refl;
  got = λ d l. refl;
  over = λ d l m. refl;
}

abbrev pub data_zone : Zone
data_zone = record {
  at = in_data;
  get = λ d. d.«data»;
  put = λ l d. record { config = d.config; otp = d.otp; «data» = l; tempKey = d.tempKey };
  stores = λ d p b. refl;
  kept = λ d. refl;
  got = λ d l. refl;
  over = λ d l m. refl;
}

module _ (z : Zone) where
  -- the stores of a row are one change of the zone
  pub stored_sets : (l : List ℕ) (d : Device) (p : ℕ) → store_all d (upwards z.at p l) ≡ z.put (sets (z.get d) p l) d
  stored_sets [] d p = sym (z.kept d)
  stored_sets (b ∷ bs) d p =
      let l : List ℕ = set (z.get d) p b in
      let e : Device = z.put l d in
      cc (z.stores d p b, stored_sets bs e (p + 1), z.got d l, add-one p, z.over d l (sets l (p + 1) bs))

-- ---- laid over

-- from a zone's end on nothing is stored
past : (r l : List ℕ) (i : ℕ) → length l ≤ i → sets l i r ≡ l
past [] l i h = refl
past (b ∷ bs) l i h = rw (set_out l i b h) (past bs l (suc i) (omega arith))

-- the bytes that do not fit change nothing
fitting_sets : (r l : List ℕ) (i n : ℕ) → n ≡ min (length r) (length l - i) → sets l i (take n r) ≡ sets l i r
fitting_sets [] l i zero h = refl
fitting_sets [] l i (suc n) h = refl
fitting_sets (b ∷ bs) l i zero h = sym (past (b ∷ bs) l i (omega arith))
fitting_sets (b ∷ bs) l i (suc n) h = fitting_sets bs (set l i b) (suc i) n (rw length-set (omega arith))

-- as many bytes of a row as fit, copied over a part of a zone, are all its bytes stored upwards
pub laid : (l r y : List ℕ) (at m n k : ℕ) → m ≡ min at (length l) → n ≡ min (length r) (length l - at) → k ≡ n → y ≡ take n r
    → put_mid m k l y ≡ sets l at r
laid l r y at m n k em en ek ey =
    let t : List ℕ = take n r in
    let lt : length t ≡ n = simp length-take (omega arith) in
    let e : sets l m t ≡ take m l ++ t ++ drop (m + length t) l = sets-eq t l m (omega arith) in
    let p : put_mid m k l y ≡ sets l m t = rw (e, ey, ek, lt, drop-drop, append_assoc) in
    let le : m ≤ at = omega arith in
    let q : sets l m t ≡ sets l at t =
    ⊎_elim (λ (h : m ≡ at). rw h) (λ (h : m < at). let z : n ≡ 0 = omega arith in rw z) (eq-or-lt_of_le le) in
    p ∙ q ∙ fitting_sets r l at n en
