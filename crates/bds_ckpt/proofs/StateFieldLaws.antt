-- The bytes of a state are read back, and what is read is spelled so.
use Rattle.std.proofs.Common.{◌≡◌, ℕ, ◌≤◌, List, [], ◌∷◌, ◌++◌, ◌==◌, Bool, true, false, length, Ok, Err, refl, sym, ap, subst, add-zero}
use Rattle.std.specs.Bool.{⊤}
use Rattle.std.proofs.lemmas.Bool.{eq-eqb, eqb-true}
use Rattle.bds_value.specs.declared.TheConstants.{MAX_TEXT}
use Rattle.bds_value.specs.declared.faults.FieldFault.TheVariants.{BadTag}
use Rattle.bds_value.specs.declared.value.Input.{Input}
use Rattle.bds_value.specs.Fields.{AreBytes, Back, IsField, Stretch}
use Rattle.bds_value.specs.Reading.{◌>>=◌, Read, Reader, byte_at, text_at}
use Rattle.bds_value.specs.Spelling.{text_field}
use Rattle.bds_value.proofs.FieldLaws.{back_then, bind_ok, byte_back, ok_parts, stretch-bytes, stretch-join, stretch-none}
use Rattle.bds_value.proofs.NumberLaws.{u8_is_field, text_is_field}
use Rattle.bds_value.proofs.RestLaws.{rest_field, rest_last, rest_then, same_field}
use Rattle.bds_code.specs.declared.unit.Unit.{Unit as CodeUnit}
use Rattle.bds_code.specs.UnitFields.{IsFieldUnit, UnitFits}
use Rattle.bds_code.specs.UnitReading.{unit_at}
use Rattle.bds_code.specs.UnitSpelling.{unit_field}
use Rattle.bds_code.proofs.UnitFieldLaws.{unit_is_field}
use Rattle.bds_code_frames.specs.declared.thread.Thread.{Thread}
use Rattle.bds_tasks.specs.declared.task.Task.{Task}
use Rattle.bds_tasks.specs.TaskFields.{AreFieldTasks, tasks_at, tasks_field}
use Rattle.bds_tasks.proofs.TaskFieldLaws.{tasks_are_field}
use Rattle.bds_rules.specs.declared.rule.Rule.{Rule}
use Rattle.bds_rules.specs.RuleFields.{AreFieldRules, rules_at, rules_field}
use Rattle.bds_rules.proofs.RuleFieldLaws.{rules_are_field}
use Rattle.bds_state.specs.Parts.{Parts}
use Rattle.bds_ckpt.specs.FileReading.{matched, byte_is, bytes_are, fields_at}
use Rattle.bds_ckpt.specs.Loading.{AreFieldParts}
use Rattle.bds_ckpt.specs.ThreadReading.{threads_at}
use Rattle.bds_state.specs.StateSpelling.{fields, threads_field}
use Rattle.bds_ckpt.proofs.ThreadFieldLaws.{AreFieldThreads, threads_are_field}

abbrev Nothing : Type 0
Nothing = Unit {0}

-- a given byte

equal_to_itself : (b : ℕ) → (b == b) ≡ true
equal_to_itself b = eq-eqb b b refl

given_back : (b : ℕ) → Back (byte_is b) (b ∷ []) tt
given_back b i rest e = rw (byte_back b i rest e, equal_to_itself b) refl

same_number : (a b : ℕ) → (a == b) ≡ true → a ≡ b
same_number a b e = eqb-true a b e

given_spelled : (b : ℕ) (i j : Input) → AreBytes i.bytes → byte_is b i ≡ Ok (tt, j) → Stretch i (b ∷ []) j
given_spelled b i j bytes e =
    let found = bind_ok (byte_at i) (λ (n : ℕ × Input). matched b i.at n.0 n.1) (tt, j) e in
    let here = u8_is_field.spelled i found.0.1 found.0.0 bytes found.1.0 in
    by_test found.0.0 found.0.1 here.stretch (found.0.0 == b) refl found.1.1
  where
    by_test : (n : ℕ) (k : Input) → Stretch i (n ∷ []) k → (t : Bool) → (n == b) ≡ t → matched b i.at n k ≡ Ok (tt, j) → Stretch i (b ∷ []) j
    by_test n k s true t g =
        let h : ◌≡◌ {A = Read Nothing} (Ok (tt, k)) (Ok (tt, j)) = rw t at g in
        let p = ok_parts tt tt k j h in
        subst (λ m. Stretch i (m ∷ []) j) (same_number n b t) (subst (λ c. Stretch i (n ∷ []) c) p.1 s)
    by_test n k s false t g =
        let h : ◌≡◌ {A = Read Nothing} (Err (BadTag i.at n)) (Ok (tt, j)) = rw t at g in absurd (cc)

-- given bytes, one behind the other

bytes_back : (bs : List ℕ) → Back (bytes_are bs) bs tt
bytes_back [] i rest e = ap (λ k. Ok (tt, k)) (ap (λ n. record { bytes = i.bytes; at = n }) (sym (add-zero i.at)))
bytes_back (b ∷ bs) i rest e = back_then (byte_is b) (λ x. bytes_are bs) (b ∷ []) bs tt tt (given_back b) (bytes_back bs) i rest e

bytes_spelled : (bs : List ℕ) (i j : Input) → AreBytes i.bytes → bytes_are bs i ≡ Ok (tt, j) → Stretch i bs j
bytes_spelled [] i j bytes e = let p = ok_parts tt tt i j e in subst (λ k. Stretch i [] k) p.1 (stretch-none i)
bytes_spelled (b ∷ bs) i j bytes e =
    let found = bind_ok (byte_is b i) (λ (x : Nothing × Input). bytes_are bs x.1) (tt, j) e in
    let here = given_spelled b i found.0.1 bytes found.1.0 in
    stretch-join i found.0.1 j (b ∷ []) bs here (bytes_spelled bs found.0.1 j (stretch-bytes i found.0.1 (b ∷ []) here bytes) found.1.1)

pub bytes_are_field : (bs : List ℕ) → IsField (bytes_are bs) (λ x. bs) (λ x. ⊤)
bytes_are_field bs = record { read_back = λ x h. bytes_back bs; spelled = λ i j x bytes e. record { legal = tt; stretch = bytes_spelled bs i j bytes e } }

-- the fields of a file, behind its version

abbrev LegalText : List ℕ → Type 0
LegalText t = length t ≤ MAX_TEXT

abbrev LegalUnit : CodeUnit → Type 0
LegalUnit u = IsFieldUnit u × UnitFits u

abbrev Pathed : Type 0
Pathed = Nothing × List ℕ

abbrev Coded : Type 0
Coded = Pathed × CodeUnit

abbrev Threaded : Type 0
Threaded = Coded × List Thread

abbrev Tasked : Type 0
Tasked = Threaded × List Task

abbrev built : Tasked → List Rule → Parts
built x rules = record { unit = x.0.0.1; threads = x.0.1; tasks = x.1; rules = rules; path = x.0.0.0.1 }

abbrev tasked_at : Tasked → Reader Parts
tasked_at x i = rules_at i >>= λ z. Ok (built x z.0, z.1)

abbrev threaded_at : Threaded → Reader Parts
threaded_at x i = tasks_at i >>= λ z. tasked_at (x, z.0) z.1

abbrev coded_at : Coded → Reader Parts
coded_at x i = threads_at i >>= λ z. threaded_at (x, z.0) z.1

abbrev pathed_at : Pathed → Reader Parts
pathed_at x i = unit_at i >>= λ z. coded_at (x, z.0) z.1

abbrev Legal4 : Parts → Type 0
Legal4 f = AreFieldTasks f.tasks × AreFieldRules f.rules

abbrev Legal3 : Parts → Type 0
Legal3 f = AreFieldThreads f.threads × Legal4 f

abbrev Legal2 : Parts → Type 0
Legal2 f = LegalUnit f.unit × Legal3 f

abbrev LegalParts : Parts → Type 0
LegalParts f = LegalText f.path × Legal2 f

abbrev rest4 : Parts → List ℕ
rest4 f = tasks_field f.tasks ++ rules_field f.rules

abbrev rest3 : Parts → List ℕ
rest3 f = threads_field f.threads ++ rest4 f

abbrev rest2 : Parts → List ℕ
rest2 f = unit_field f.unit ++ rest3 f

parts_are_field : IsField fields_at fields LegalParts
parts_are_field =
    rest_field fields_at fields LegalParts
    (rest_then {X = Nothing} {Y = Parts} {Z = List ℕ} (λ f. tt) (λ f. f.path) text_at text_field LegalText pathed_at rest2 Legal2 text_is_field
    (rest_then {X = Pathed} {Y = Parts} {Z = CodeUnit} (λ f. (tt, f.path)) (λ f. f.unit) unit_at unit_field LegalUnit coded_at rest3 Legal3 unit_is_field
    (rest_then {X = Coded} {Y = Parts} {Z = List Thread} (λ f. ((tt, f.path), f.unit)) (λ f. f.threads) threads_at threads_field AreFieldThreads threaded_at rest4 Legal4 threads_are_field
    (rest_then {X = Threaded} {Y = Parts} {Z = List Task} (λ f. (((tt, f.path), f.unit), f.threads)) (λ f. f.tasks) tasks_at tasks_field AreFieldTasks tasked_at (λ f. rules_field f.rules) (λ f. AreFieldRules f.rules) tasks_are_field
    (rest_last {X = Tasked} {Y = Parts} {Z = List Rule} (λ f. ((((tt, f.path), f.unit), f.threads), f.tasks)) (λ f. f.rules) (λ x. rules_at) rules_field (λ x z. AreFieldRules z)
    built (λ f. refl) (λ x z. refl) (λ x z. refl) (λ x. rules_are_field))))))

pub fields_are_field : IsField fields_at fields AreFieldParts
fields_are_field = same_field fields_at fields fields LegalParts AreFieldParts (λ s. refl) to from parts_are_field
  where
    to : (s : Parts) → LegalParts s → AreFieldParts s
    to s h = (
      record { unit = h.1.0.0; count = h.1.1.0.count; threads = h.1.1.0.each; tasks = h.1.1.1.0; rules = h.1.1.1.1; path = h.0 },
      record { unit = h.1.0.1; threads = h.1.1.0.fit; tasks = λ k d l. (h.1.1.1.0.each k d l).state },
    )

    from : (s : Parts) → AreFieldParts s → LegalParts s
    from s h = (h.0.path, ((h.0.unit, h.1.unit), (record { count = h.0.count; each = h.0.threads; fit = h.1.threads }, (h.0.tasks, h.0.rules))))
