-- What the token covers: the opcodes, and the rule of each command.
use Rattle.std.specs.Prelude.{ℕ, false, List, if◌then◌else◌}
use Rattle.rules.specs.declared.Device.{Device}
use Rattle.rules.specs.declared.Fields.{Fields}
use Rattle.rules.specs.declared.Status.TheVariants.{BadShape}
use Rattle.rules.specs.Words.{◌is◌}
use Rattle.rules.specs.Plan.{Plan, Rule, says, settle}
use Rattle.rules.specs.Nonce.{nonce, random}
use Rattle.rules.specs.Mac.{mac}
use Rattle.rules.specs.CheckMac.{check_mac}
use Rattle.rules.specs.GenDig.{gen_dig}
use Rattle.rules.specs.DeriveKey.{derive_key}
use Rattle.rules.specs.Read.{read}
use Rattle.rules.specs.Write.{write}
use Rattle.rules.specs.Upkeep.{lock, update_extra, dev_rev}

pub data Command : Type 0 where
  a_read a_mac a_write a_gen_dig a_nonce a_lock a_random a_derive_key an_update_extra a_check_mac a_dev_rev unknown : Command

-- Read 02, MAC 08, Write 12, GenDig 15, Nonce 16, Lock 17, Random 1B, DeriveKey 1C, UpdateExtra 20, CheckMac 28, DevRev 30.
unfoldable pub command_of : ℕ → Command
command_of opcode =
    if opcode is 0x02 then a_read
    else (if opcode is 0x08 then a_mac
    else (if opcode is 0x12 then a_write
    else (if opcode is 0x15 then a_gen_dig
    else (if opcode is 0x16 then a_nonce
    else (if opcode is 0x17 then a_lock
    else (if opcode is 0x1B then a_random
    else (if opcode is 0x1C then a_derive_key
    else (if opcode is 0x20 then an_update_extra
    else (if opcode is 0x28 then a_check_mac
    else (if opcode is 0x30 then a_dev_rev
    else unknown))))))))))

-- 03: unknown opcode; then a field or data length outside the command's stated shape.
abbrev pub rule_of : Command → Device → Fields → List ℕ → List ℕ → Rule
rule_of a_read d f input supplied = read d f input
rule_of a_mac d f input supplied = mac d f input
rule_of a_write d f input supplied = write d f input
rule_of a_gen_dig d f input supplied = gen_dig d f input
rule_of a_nonce d f input supplied = nonce d f input supplied
rule_of a_lock d f input supplied = lock d f input
rule_of a_random d f input supplied = random d f input supplied
rule_of a_derive_key d f input supplied = derive_key d f input
rule_of an_update_extra d f input supplied = update_extra d f input
rule_of a_check_mac d f input supplied = check_mac d f input
rule_of a_dev_rev d f input supplied = dev_rev d f input
rule_of unknown d f input supplied = record { shape = false; free = false; effect = says BadShape }

-- what a command comes to
abbrev pub plan_of : Command → Device → Fields → List ℕ → List ℕ → Plan
plan_of c d f input supplied = settle (rule_of c d f input supplied)
