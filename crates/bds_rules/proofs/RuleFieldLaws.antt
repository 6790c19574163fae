-- Rules are a field, both ways.
use Rattle.std.proofs.Common.{ℕ, ◌<◌, ◌≤◌, ◌^◌, Bool, List, ◌++◌, length, Ok, refl, sym, arith, append_assoc}
use Rattle.std.specs.Bool.{⊤}
use Rattle.std.specs.List.{All}
use Rattle.bds_value.specs.declared.TheConstants.{MAX_RULES, MAX_TEXT}
use Rattle.bds_value.specs.Fields.{AreFieldTexts, IsField}
use Rattle.bds_value.specs.Reading.{◌>>=◌, Reader, bool_at, u32_at, text_at, texts_at}
use Rattle.bds_value.specs.Spelling.{bool_field, u32_field, text_field, texts_field}
use Rattle.bds_value.proofs.ListFieldLaws.{list_is_field, texts_are_field}
use Rattle.bds_value.proofs.NumberLaws.{u32_is_field, bool_is_field, text_is_field}
use Rattle.bds_rules.specs.declared.rule.Rule.{Rule}
use Rattle.bds_rules.specs.RuleFields.{AreFieldRules, IsFieldRule, rule_field, rule_read, rules_at, rules_field}
use Rattle.bds_value.proofs.RestLaws.{rest_field, rest_last, rest_then, same_field}

abbrev LegalText : List ℕ → Type 0
LegalText t = length t ≤ MAX_TEXT

abbrev Fits : ℕ → Type 0
Fits n = n < 2 ^ 32

abbrev P1 : Type 0
P1 = (Unit {0}) × List (List ℕ)

abbrev P2 : Type 0
P2 = P1 × List (List ℕ)

abbrev P3 : Type 0
P3 = P2 × ℕ

abbrev P4 : Type 0
P4 = P3 × Bool

abbrev P5 : Type 0
P5 = P4 × ℕ

abbrev P6 : Type 0
P6 = P5 × List ℕ

abbrev built : P6 → List ℕ → Rule
built x command = record { outs = x.0.0.0.0.0.1; ins = x.0.0.0.0.1; cpus = x.0.0.0.1; can_fail = x.0.0.1; retry = x.0.1; name = x.1; command = command }

abbrev at6 : P6 → Reader Rule
at6 x i = text_at i >>= λ z. Ok (built x z.0, z.1)

abbrev at5 : P5 → Reader Rule
at5 x i = text_at i >>= λ z. at6 (x, z.0) z.1

abbrev at4 : P4 → Reader Rule
at4 x i = u32_at i >>= λ z. at5 (x, z.0) z.1

abbrev at3 : P3 → Reader Rule
at3 x i = bool_at i >>= λ z. at4 (x, z.0) z.1

abbrev at2 : P2 → Reader Rule
at2 x i = u32_at i >>= λ z. at3 (x, z.0) z.1

abbrev at1 : P1 → Reader Rule
at1 x i = texts_at i >>= λ z. at2 (x, z.0) z.1

abbrev L6 : Rule → Type 0
L6 r = LegalText r.command

abbrev L5 : Rule → Type 0
L5 r = LegalText r.name × L6 r

abbrev L4 : Rule → Type 0
L4 r = Fits r.retry × L5 r

abbrev L3 : Rule → Type 0
L3 r = ⊤ × L4 r

abbrev L2 : Rule → Type 0
L2 r = Fits r.cpus × L3 r

abbrev L1 : Rule → Type 0
L1 r = AreFieldTexts r.ins × L2 r

abbrev L0 : Rule → Type 0
L0 r = AreFieldTexts r.outs × L1 r

abbrev S5 : Rule → List ℕ
S5 r = text_field r.name ++ text_field r.command

abbrev S4 : Rule → List ℕ
S4 r = u32_field r.retry ++ S5 r

abbrev S3 : Rule → List ℕ
S3 r = bool_field r.can_fail ++ S4 r

abbrev S2 : Rule → List ℕ
S2 r = u32_field r.cpus ++ S3 r

abbrev S1 : Rule → List ℕ
S1 r = texts_field r.ins ++ S2 r

abbrev S0 : Rule → List ℕ
S0 r = texts_field r.outs ++ S1 r

straight_is_field : IsField rule_read S0 L0
straight_is_field =
    rest_field rule_read S0 L0
    (rest_then {X = Unit {0}} {Y = Rule} {Z = List (List ℕ)} (λ r. tt) (λ r. r.outs) texts_at texts_field AreFieldTexts at1 S1 L1 texts_are_field
    (rest_then {X = P1} {Y = Rule} {Z = List (List ℕ)} (λ r. (tt, r.outs)) (λ r. r.ins) texts_at texts_field AreFieldTexts at2 S2 L2 texts_are_field
    (rest_then {X = P2} {Y = Rule} {Z = ℕ} (λ r. ((tt, r.outs), r.ins)) (λ r. r.cpus) u32_at u32_field Fits at3 S3 L3 u32_is_field
    (rest_then {X = P3} {Y = Rule} {Z = Bool} (λ r. (((tt, r.outs), r.ins), r.cpus)) (λ r. r.can_fail) bool_at bool_field (λ b. ⊤) at4 S4 L4 bool_is_field
    (rest_then {X = P4} {Y = Rule} {Z = ℕ} (λ r. ((((tt, r.outs), r.ins), r.cpus), r.can_fail)) (λ r. r.retry) u32_at u32_field Fits at5 S5 L5 u32_is_field
    (rest_then {X = P5} {Y = Rule} {Z = List ℕ} (λ r. (((((tt, r.outs), r.ins), r.cpus), r.can_fail), r.retry)) (λ r. r.name) text_at text_field LegalText at6 (λ r. text_field r.command) L6 text_is_field
    (rest_last {X = P6} {Y = Rule} {Z = List ℕ} (λ r. ((((((tt, r.outs), r.ins), r.cpus), r.can_fail), r.retry), r.name)) (λ r. r.command) (λ x. text_at) text_field (λ x t. LegalText t) built (λ r. refl) (λ x t. refl) (λ x t. refl) (λ x. text_is_field))))))))

rule_is_field : IsField rule_read rule_field IsFieldRule
rule_is_field = same_field rule_read S0 rule_field L0 IsFieldRule (λ r. sym (append_assoc (texts_field r.outs) (texts_field r.ins) (S2 r)))
    (λ r h. record { outs = h.0; ins = h.1.0; cpus = h.1.1.0; retry = h.1.1.1.1.0; name = h.1.1.1.1.1.0; command = h.1.1.1.1.1.1 })
    (λ r h. (h.outs, (h.ins, (h.cpus, (tt, (h.retry, (h.name, h.command))))))) straight_is_field

pub rules_are_field : IsField rules_at rules_field AreFieldRules
rules_are_field = same_field rules_at rules_field rules_field (λ rs. (length rs ≤ MAX_RULES) × All IsFieldRule rs) AreFieldRules (λ rs. refl)
    (λ rs h. record { count = h.0; each = h.1 }) (λ rs h. (h.count, h.each)) (list_is_field rule_read rule_field IsFieldRule rule_is_field MAX_RULES (omega arith))
