-- The bytes of rules in a file.
use Rattle.std.specs.Prelude.{ℕ, ◌<◌, ◌≤◌, ◌^◌, List, ◌++◌, length, Ok}
use Rattle.std.specs.List.{All}
use Rattle.bds_value.specs.declared.TheConstants.{MAX_RULES, MAX_TEXT}
use Rattle.bds_value.specs.Reading.{◌>>=◌, Reader, bool_at, u32_at, text_at, texts_at, list_at}
use Rattle.bds_value.specs.Spelling.{bool_field, u32_field, text_field, texts_field, list_field}
use Rattle.bds_rules.specs.declared.rule.Rule.{Rule}
use Rattle.bds_value.specs.Fields.{AreFieldTexts}

abbrev pub rule_read : Reader Rule
rule_read i =
    texts_at i >>= λ outs.
    texts_at outs.1 >>= λ ins.
    u32_at ins.1 >>= λ cpus.
    bool_at cpus.1 >>= λ can_fail.
    u32_at can_fail.1 >>= λ retry.
    text_at retry.1 >>= λ name.
    text_at name.1 >>= λ command.
    Ok (record { outs = outs.0; ins = ins.0; cpus = cpus.0; can_fail = can_fail.0; retry = retry.0; name = name.0; command = command.0 }, command.1)

abbrev pub rules_at : Reader (List Rule)
rules_at = list_at MAX_RULES rule_read

abbrev pub names_field : Rule → List ℕ
names_field r = text_field r.name ++ text_field r.command

abbrev pub numbers_field : Rule → List ℕ
numbers_field r = u32_field r.cpus ++ (bool_field r.can_fail ++ (u32_field r.retry ++ names_field r))

abbrev pub files_field : Rule → List ℕ
files_field r = texts_field r.outs ++ texts_field r.ins

abbrev pub rule_field : Rule → List ℕ
rule_field r = files_field r ++ numbers_field r

abbrev pub rules_field : List Rule → List ℕ
rules_field = list_field rule_field

-- a rule that may be in a file
pub record IsFieldRule (r : Rule) : Type 0 where
  pub outs : AreFieldTexts r.outs
  pub ins : AreFieldTexts r.ins
  pub cpus : r.cpus < 2 ^ 32
  pub retry : r.retry < 2 ^ 32
  pub name : length r.name ≤ MAX_TEXT
  pub command : length r.command ≤ MAX_TEXT

pub record AreFieldRules (rules : List Rule) : Type 0 where
  pub count : length rules ≤ MAX_RULES
  pub each : All IsFieldRule rules
