-- What a command comes to, as a plan: the slots that it draws on, its stores in order, the TempKey after it, its answer.
-- And the status order, once for all commands.
use Rattle.std.specs.Prelude.{ℕ, ◌+◌, ◌-◌, Bool, List, [], ◌∷◌, ◌++◌, length, set, if◌then◌else◌}
use Rattle.rules.specs.declared.Device.{Device}
use Rattle.rules.specs.declared.Reply.{Reply}
use Rattle.rules.specs.declared.Slot.{Slot}
use Rattle.rules.specs.declared.TempKey.{TempKey}
use Rattle.rules.specs.declared.Status.{Status}
use Rattle.rules.specs.declared.Status.TheVariants.{Done, BadShape, Refused}
use Rattle.rules.specs.Words.{zeros}
use Rattle.rules.specs.State.{emptied, status_byte}

-- one byte stored at a position of a zone
pub data Store : Type 0 where
  in_config : ℕ → ℕ → Store
  in_otp : ℕ → ℕ → Store
  in_data : ℕ → ℕ → Store

pub record Plan : Type 0 where
  pub draws : List Slot
  pub stores : List Store
  pub tempKey : TempKey
  pub answer : List ℕ

-- ---- a plan carried out

abbrev pub store : Device → Store → Device
store d (in_config at b) = record { config = set d.config at b; otp = d.otp; «data» = d.«data»; tempKey = d.tempKey }
store d (in_otp at b) = record { config = d.config; otp = set d.otp at b; «data» = d.«data»; tempKey = d.tempKey }
store d (in_data at b) = record { config = d.config; otp = d.otp; «data» = set d.«data» at b; tempKey = d.tempKey }

abbrev pub store_all : Device → List Store → Device
store_all d [] = d
store_all d (x ∷ xs) = store_all (store d x) xs

abbrev pub with_temp_key : TempKey → Device → Device
with_temp_key t d = record { config = d.config; otp = d.otp; «data» = d.«data»; tempKey = t }

-- the stores in order, then TempKey
abbrev pub apply : Plan → Device → Device
apply p d = with_temp_key p.tempKey (store_all d p.stores)

-- the device after a plan and its answer, filled up with zeros to 32 bytes
abbrev pub reply : Plan → Device → Reply
reply p d = record { device = apply p d; len = length p.answer; bytes = p.answer ++ zeros (32 - length p.answer) }

-- bytes stored one after the other, upwards from a position of a zone
abbrev pub upwards : (ℕ → ℕ → Store) → ℕ → List ℕ → List Store
upwards zone at [] = []
upwards zone at (b ∷ bs) = zone at b ∷ upwards zone (at + 1) bs

-- ---- plans that most commands come to: every accepted command empties TempKey, except Nonce, GenDig and a CheckMac that copies

-- a status and nothing else
abbrev pub says : Status → Plan
says s = record { draws = []; stores = []; tempKey = emptied; answer = status_byte s ∷ [] }

-- an answer and nothing else
abbrev pub gives : List ℕ → Plan
gives bs = record { draws = []; stores = []; tempKey = emptied; answer = bs }

-- stores, and status 00
abbrev pub puts : List Store → Plan
puts xs = record { draws = []; stores = xs; tempKey = emptied; answer = status_byte Done ∷ [] }

-- a command that has drawn on slots and is then refused
abbrev pub refused_after : List Slot → Plan
refused_after ks = record { draws = ks; stores = []; tempKey = emptied; answer = status_byte Refused ∷ [] }

-- ---- status order: 03 a field or data length outside the command's stated shape, 0F any remaining stated condition not met

-- a command's rule: its stated shape, its conditions that need no digest, and what it then comes to
pub record Rule : Type 0 where
  pub shape : Bool
  pub free : Bool
  pub effect : Plan

-- Statuses 03 and 0F empty TempKey and change nothing else.
abbrev pub settle : Rule → Plan
settle r = if r.shape then (if r.free then r.effect else says Refused) else says BadShape
