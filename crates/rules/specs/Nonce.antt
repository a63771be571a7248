-- Nonce and Random.
use Rattle.std.specs.Prelude.{ℕ, Bool, true, false, ◌&&◌, List, [], ◌∷◌, length, if◌then◌else◌}
use Rattle.digest.specs.Sha256.{sha256}
use Rattle.rules.specs.declared.Device.{Device}
use Rattle.rules.specs.declared.Fields.{Fields}
use Rattle.rules.specs.declared.Status.TheVariants.{Done}
use Rattle.rules.specs.Words.{◌is◌, ◌under◌}
use Rattle.rules.specs.State.{config_locked, status_byte, taken}
use Rattle.rules.specs.Plan.{Plan, Rule, gives}
use Rattle.rules.specs.Messages.{nonce_message}

-- With configuration unlocked both use FF FF 00 00 eight times instead.
unfoldable pub four_times : List ℕ → List ℕ
four_times rest = 0xFF ∷ 0xFF ∷ 0x00 ∷ 0x00 ∷ 0xFF ∷ 0xFF ∷ 0x00 ∷ 0x00 ∷ 0xFF ∷ 0xFF ∷ 0x00 ∷ 0x00 ∷ 0xFF ∷ 0xFF ∷ 0x00 ∷ 0x00 ∷ rest

unfoldable pub used_random : List ℕ → List ℕ → List ℕ
used_random config random = if config_locked config then random else four_times (four_times [])

-- Param1 0, 1 (20 bytes in) or 3 (32 in). Param2 is zero.
unfoldable pub nonce_shape : Fields → List ℕ → Bool
nonce_shape f input =
    (if f.param1 is 3 then length input is 32 else (f.param1 under 2 && length input is 20)) && f.param2 is 0

-- 0, 1: TempKey = SHA-256(random 32, input, 16, Param1, low Param2), SourceFlag 0, answer the random.
unfoldable pub nonce_random : List ℕ → Fields → List ℕ → Plan
nonce_random random f input =
    record { draws = []; stores = []; tempKey = taken (sha256 (nonce_message random input f)) false; answer = random }

-- 3: TempKey = input, SourceFlag 1, answer 00.
unfoldable pub nonce_input : List ℕ → Plan
nonce_input input = record { draws = []; stores = []; tempKey = taken input true; answer = status_byte Done ∷ [] }

unfoldable pub nonce : Device → Fields → List ℕ → List ℕ → Rule
nonce d f input random = record {
  shape = nonce_shape f input;
  free = true;
  effect = if f.param1 is 3 then nonce_input input else nonce_random (used_random d.config random) f input;
}

-- Random. Param1 0 or 1; answers the random.
unfoldable pub random_shape : Fields → List ℕ → Bool
random_shape f input = f.param1 under 2 && f.param2 is 0 && length input is 0

unfoldable pub random : Device → Fields → List ℕ → List ℕ → Rule
random d f input supplied = record { shape = random_shape f input; free = true; effect = gives (used_random d.config supplied) }
