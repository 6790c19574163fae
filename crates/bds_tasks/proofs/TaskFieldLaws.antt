-- Tasks are a field, both ways.
use Rattle.std.proofs.Common.{◌≡◌, ℕ, zero, suc, ◌+◌, ◌<◌, ◌≤◌, ◌^◌, Bool, List, [], ◌∷◌, ◌++◌, length, nat_lt, Option, None, Some, Ok, Err, refl, sym, ap, subst, ◌∙◌, arith, append_assoc, add-zero}
use Rattle.std.specs.Bool.{⊤}
use Rattle.std.specs.List.{All, slice_get}
use Rattle.std.proofs.lemmas.List.Elements.{All-from_recursion, recursion_from_All}
use Rattle.bds_value.specs.declared.TheConstants.{MAX_COUNT, MAX_TASKS, MAX_TEXT}
use Rattle.bds_value.specs.declared.faults.FieldFault.TheVariants.{BadTag}
use Rattle.bds_value.specs.declared.value.Input.{Input}
use Rattle.bds_value.specs.Fields.{AreFieldTexts, AreBytes, Back, IsField, ReadsBack, ReadsSpelled, Spelled, Stretch}
use Rattle.bds_value.specs.Reading.{◌>>=◌, Read, Reader, rest_of, byte_at, bool_at, u32_at, text_at, forward, texts_at}
use Rattle.bds_value.specs.Spelling.{u8_field, bool_field, u32_field, text_field, texts_field}
use Rattle.bds_value.proofs.FieldLaws.{bind_ok, byte_back, map_ok, ok_parts, rest-forward, forward-forward, stretch-bytes, stretch-join, stretch-none}
use Rattle.bds_value.proofs.ListFieldLaws.{list_is_field, texts_are_field}
use Rattle.bds_value.proofs.ListLaws.{rising_list_back, rising_list_spelled}
use Rattle.bds_value.proofs.NumberLaws.{u8_is_field, u32_is_field, bool_is_field, text_is_field}
use Rattle.bds_tasks.specs.declared.task.Task.{Task}
use Rattle.bds_tasks.specs.declared.task.TaskNew.{TaskNew}
use Rattle.bds_tasks.specs.declared.task.TaskState.{TaskState}
use Rattle.bds_tasks.specs.declared.task.TaskState.TheVariants.{Waits, Runs, Ended, Cancelled}
use Rattle.bds_tasks.specs.TaskFields.{bare, with_one, go_on, AreFieldNeeds, AreFieldTasks, IsFieldNew, IsFieldState, IsFieldTask, code_field, made_at, made_field, needs_at, needs_field, number_of, numbers_field, state_at, state_field, state_of, state_readers, tag, task_field, task_read, tasks_at, tasks_field}
use Rattle.bds_value.proofs.RestLaws.{rest_field, rest_last, rest_then, same_field}

abbrev LegalText : List ℕ → Type 0
LegalText t = length t ≤ MAX_TEXT

abbrev Fits : ℕ → Type 0
Fits n = n < 2 ^ 32

abbrev mP1 : Type 0
mP1 = (Unit {0}) × ℕ

abbrev mP2 : Type 0
mP2 = mP1 × List ℕ

abbrev mP3 : Type 0
mP3 = mP2 × List ℕ

abbrev mP4 : Type 0
mP4 = mP3 × List (List ℕ)

abbrev mP5 : Type 0
mP5 = mP4 × List (List ℕ)

abbrev mP6 : Type 0
mP6 = mP5 × ℕ

abbrev mP7 : Type 0
mP7 = mP6 × Bool

abbrev mbuilt : mP7 → ℕ → TaskNew
mbuilt x y = record { maker = x.0.0.0.0.0.0.1; command = x.0.0.0.0.0.1; name = x.0.0.0.0.1; outs = x.0.0.0.1; ins = x.0.0.1; cpus = x.0.1; can_fail = x.1; retry = y }

abbrev mat7 : mP7 → Reader TaskNew
mat7 x i = u32_at i >>= λ z. Ok (mbuilt x z.0, z.1)

abbrev mat6 : mP6 → Reader TaskNew
mat6 x i = bool_at i >>= λ z. mat7 (x, z.0) z.1

abbrev mat5 : mP5 → Reader TaskNew
mat5 x i = u32_at i >>= λ z. mat6 (x, z.0) z.1

abbrev mat4 : mP4 → Reader TaskNew
mat4 x i = texts_at i >>= λ z. mat5 (x, z.0) z.1

abbrev mat3 : mP3 → Reader TaskNew
mat3 x i = texts_at i >>= λ z. mat4 (x, z.0) z.1

abbrev mat2 : mP2 → Reader TaskNew
mat2 x i = text_at i >>= λ z. mat3 (x, z.0) z.1

abbrev mat1 : mP1 → Reader TaskNew
mat1 x i = text_at i >>= λ z. mat2 (x, z.0) z.1

abbrev mL7 : TaskNew → Type 0
mL7 t = Fits t.retry

abbrev mS7 : TaskNew → List ℕ
mS7 t = u32_field t.retry

abbrev mL6 : TaskNew → Type 0
mL6 t = ⊤ × mL7 t

abbrev mS6 : TaskNew → List ℕ
mS6 t = bool_field t.can_fail ++ mS7 t

abbrev mL5 : TaskNew → Type 0
mL5 t = Fits t.cpus × mL6 t

abbrev mS5 : TaskNew → List ℕ
mS5 t = u32_field t.cpus ++ mS6 t

abbrev mL4 : TaskNew → Type 0
mL4 t = AreFieldTexts t.ins × mL5 t

abbrev mS4 : TaskNew → List ℕ
mS4 t = texts_field t.ins ++ mS5 t

abbrev mL3 : TaskNew → Type 0
mL3 t = AreFieldTexts t.outs × mL4 t

abbrev mS3 : TaskNew → List ℕ
mS3 t = texts_field t.outs ++ mS4 t

abbrev mL2 : TaskNew → Type 0
mL2 t = LegalText t.name × mL3 t

abbrev mS2 : TaskNew → List ℕ
mS2 t = text_field t.name ++ mS3 t

abbrev mL1 : TaskNew → Type 0
mL1 t = LegalText t.command × mL2 t

abbrev mS1 : TaskNew → List ℕ
mS1 t = text_field t.command ++ mS2 t

abbrev mL0 : TaskNew → Type 0
mL0 t = Fits t.maker × mL1 t

abbrev mS0 : TaskNew → List ℕ
mS0 t = u32_field t.maker ++ mS1 t

mstraight : IsField made_at mS0 mL0
mstraight =
    rest_field made_at mS0 mL0
    (rest_then {X = Unit {0}} {Y = TaskNew} {Z = ℕ} (λ t. tt) (λ t. t.maker) u32_at u32_field Fits mat1 mS1 mL1 u32_is_field
    (rest_then {X = mP1} {Y = TaskNew} {Z = List ℕ} (λ t. (tt, t.maker)) (λ t. t.command) text_at text_field LegalText mat2 mS2 mL2 text_is_field
    (rest_then {X = mP2} {Y = TaskNew} {Z = List ℕ} (λ t. ((tt, t.maker), t.command)) (λ t. t.name) text_at text_field LegalText mat3 mS3 mL3 text_is_field
    (rest_then {X = mP3} {Y = TaskNew} {Z = List (List ℕ)} (λ t. (((tt, t.maker), t.command), t.name)) (λ t. t.outs) texts_at texts_field AreFieldTexts mat4 mS4 mL4 texts_are_field
    (rest_then {X = mP4} {Y = TaskNew} {Z = List (List ℕ)} (λ t. ((((tt, t.maker), t.command), t.name), t.outs)) (λ t. t.ins) texts_at texts_field AreFieldTexts mat5 mS5 mL5 texts_are_field
    (rest_then {X = mP5} {Y = TaskNew} {Z = ℕ} (λ t. (((((tt, t.maker), t.command), t.name), t.outs), t.ins)) (λ t. t.cpus) u32_at u32_field Fits mat6 mS6 mL6 u32_is_field
    (rest_then {X = mP6} {Y = TaskNew} {Z = Bool} (λ t. ((((((tt, t.maker), t.command), t.name), t.outs), t.ins), t.cpus)) (λ t. t.can_fail) bool_at bool_field (λ b. ⊤) mat7 mS7 mL7 bool_is_field
    (rest_last {X = mP7} {Y = TaskNew} {Z = ℕ} (λ t. (((((((tt, t.maker), t.command), t.name), t.outs), t.ins), t.cpus), t.can_fail)) (λ t. t.retry) (λ x. u32_at) u32_field (λ x y. Fits y) mbuilt (λ t. refl) (λ x y. refl) (λ x y. refl) (λ x. u32_is_field)))))))))

made_is_field : IsField made_at made_field IsFieldNew
made_is_field = same_field made_at mS0 made_field mL0 IsFieldNew joined
    (λ t h. record { maker = h.0; command = h.1.0; name = h.1.1.0; outs = h.1.1.1.0; ins = h.1.1.1.1.0; cpus = h.1.1.1.1.1.0; retry = h.1.1.1.1.1.1.1 })
    (λ t h. (h.maker, (h.command, (h.name, (h.outs, (h.ins, (h.cpus, (tt, h.retry)))))))) mstraight
  where
    joined : (t : TaskNew) → mS0 t ≡ made_field t
    joined t = regroup (u32_field t.maker) (text_field t.command) (text_field t.name) (texts_field t.outs) (texts_field t.ins) (numbers_field t)
      where
        regroup : (a b c d e f : List ℕ) → a ++ (b ++ (c ++ (d ++ (e ++ f)))) ≡ (a ++ (b ++ c)) ++ ((d ++ e) ++ f)
        regroup a b c d e f =
            sym (append_assoc a (b ++ c) ((d ++ e) ++ f) ∙ ap (λ x. a ++ x) (append_assoc b c ((d ++ e) ++ f)) ∙ ap (λ x. a ++ (b ++ (c ++ x))) (append_assoc d e f))

needs_are_field : IsField needs_at needs_field AreFieldNeeds
needs_are_field = record {
  read_back = λ ns h. rising_list_back {X = ℕ} nat_lt u32_at number_of (λ n. n) u32_field (λ n. []) MAX_COUNT (omega arith) ns h.count h.rises
      (recursion_from_All {X = ℕ} (λ n. ReadsBack u32_at u32_field n × Back (number_of n) [] n) ns (λ k d l. (u32_is_field.read_back _ (h.each k d l), nothing_back _)));
  spelled = λ i j ns bytes e.
      let s = rising_list_spelled {X = ℕ} nat_lt u32_at number_of (λ n. n) u32_field (λ n. []) (λ n. n < 2 ^ 32) (λ n. ⊤) u32_is_field.spelled nothing_spelled MAX_COUNT (omega arith) i j ns bytes e in
      record {
        legal = record { count = s.legal.0; rises = s.legal.1.0; each = λ k d l. (All-from_recursion {X = ℕ} (λ n. (n < 2 ^ 32) × ⊤) ns s.legal.1.1 k d l).0 };
        stretch = s.stretch;
      };
}
  where
    nothing_back : (n : ℕ) → Back (number_of n) [] n
    nothing_back n i rest e = ap (λ k. Ok (n, k)) (ap (λ m. record { bytes = i.bytes; at = m }) (sym (add-zero i.at)))

    nothing_spelled : (n : ℕ) (i j : Input) (x : ℕ) → AreBytes i.bytes → number_of n i ≡ Ok (x, j) → (x ≡ n) × (⊤ × Stretch i [] j)
    nothing_spelled n i j x bytes e = let p = ok_parts n x i j e in (sym p.0, (tt, subst (λ k. Stretch i [] k) p.1 (stretch-none i)))

-- states

abbrev RowSpelled : ℕ → Reader TaskState → Type 0
RowSpelled n r = (i j : Input) (x : TaskState) → AreBytes i.bytes → r i ≡ Ok (x, j) → (tag x ≡ n) × (IsFieldState x × Stretch i (code_field x) j)

plain : (n : ℕ) (x : TaskState) → tag x ≡ n → IsFieldState x → code_field x ≡ [] → RowSpelled n (bare x)
plain n x same legal none i j y bytes e =
    let p = ok_parts x y i j e in
    subst (λ z. (tag z ≡ n) × (IsFieldState z × Stretch i (code_field z) j)) p.0
    (same, (legal, subst (λ s. Stretch i s j) (sym none) (subst (λ k. Stretch i [] k) p.1 (stretch-none i))))

one_spelled : (n : ℕ) (f : ℕ → TaskState) (r : Reader ℕ) (spell : ℕ → List ℕ) (Legal : ℕ → Type 0) → ((x : ℕ) → tag (f x) ≡ n) → ((x : ℕ) → Legal x → IsFieldState (f x)) → ((x : ℕ) → code_field (f x) ≡ spell x)
    → IsField r spell Legal → RowSpelled n (with_one f r)
one_spelled n f r spell Legal same legal spelt field i j y bytes e =
    let found = map_ok f (r i) (y, j) e in
    let x = found.0.0 in
    let here = field.spelled i found.0.1 x bytes found.1.0 in
    let value : f x ≡ y = ap (λ (p : TaskState × Input). p.0) found.1.1 in
    let next : found.0.1 ≡ j = ap (λ (p : TaskState × Input). p.1) found.1.1 in
    subst (λ z. (tag z ≡ n) × (IsFieldState z × Stretch i (code_field z) j)) value
    (same x, (legal x here.legal, subst (λ s. Stretch i s j) (sym (spelt x)) (subst (λ k. Stretch i (spell x) k) next here.stretch)))

abbrev RowsSpelled : ℕ → List (Reader TaskState) → Type 0
RowsSpelled n [] = ⊤
RowsSpelled n (r ∷ rs) = RowSpelled n r × RowsSpelled (n + 1) rs

row_at : (rs : List (Reader TaskState)) (n t : ℕ) (r : Reader TaskState) → RowsSpelled n rs → slice_get rs t ≡ Some r → RowSpelled (n + t) r
row_at [] n t r h e = absurd (cc)
row_at (q ∷ rs) n zero r h e = let same : q ≡ r = cc in let z : n ≡ n + zero = omega arith in subst (λ m. RowSpelled m r) z (subst (RowSpelled n) same h.0)
row_at (q ∷ rs) n (suc t) r h e = let z : (n + 1) + t ≡ n + suc t = omega arith in subst (λ m. RowSpelled m r) z (row_at rs (n + 1) t r h.1 e)

rows_spelled : RowsSpelled 0 state_readers
rows_spelled = (
  plain 0 Waits refl tt refl,
  (
    plain 1 Runs refl tt refl,
    (
      one_spelled 2 Ended byte_at u8_field (λ x. x < 2 ^ 8) (λ x. refl) (λ x h. h) (λ x. refl) u8_is_field,
      (one_spelled 3 Cancelled u32_at u32_field (λ x. x < 2 ^ 32) (λ x. refl) (λ x h. h) (λ x. refl) u32_is_field, tt),
    ),
  ),
)

mapped : (f : ℕ → TaskState) (r : Reader ℕ) (spell : ℕ → List ℕ) (x : ℕ) → ReadsBack r spell x → Back (with_one f r) (spell x) (f x)
mapped f r spell x back i rest e = rw (back i rest e) refl

nothing : (x : TaskState) → Back (bare x) [] x
nothing x i rest e = ap (λ k. Ok (x, k)) (ap (λ n. record { bytes = i.bytes; at = n }) (sym (add-zero i.at)))

code_back : (at : ℕ) (x : TaskState) → IsFieldState x → Back (state_of at (tag x)) (code_field x) x
code_back at Waits h = nothing Waits
code_back at Runs h = nothing Runs
code_back at (Ended m) h = mapped Ended byte_at u8_field m (u8_is_field.read_back m h)
code_back at (Cancelled m) h = mapped Cancelled u32_at u32_field m (u32_is_field.read_back m h)

state_is_field : IsField state_at state_field IsFieldState
state_is_field = record { read_back = back; spelled = given }
  where
    back : (x : TaskState) → IsFieldState x → ReadsBack state_at state_field x
    back x h i rest e =
        let behind : rest_of (forward 1 i) ≡ code_field x ++ rest = rest-forward i (tag x ∷ []) (code_field x ++ rest) e in
        let size : 1 + length (code_field x) ≡ length (tag x ∷ code_field x) = omega arith in
        rw (byte_back (tag x) i (code_field x ++ rest) e, code_back i.at x h (forward 1 i) rest behind)
        (ap (λ k. Ok (x, k)) (forward-forward i 1 (length (code_field x)) ∙ ap (λ m. forward m i) size))

    at_row : (i k j : Input) (t : ℕ) (x : TaskState) (row : Option (Reader TaskState)) → slice_get state_readers t ≡ row → AreBytes k.bytes → Stretch i (t ∷ []) k → go_on row i.at t k ≡ Ok (x, j) → Spelled state_field IsFieldState i x j
    at_row i k j t x None is bytes s e = let g : ◌≡◌ {A = Read TaskState} (Err (BadTag i.at t)) (Ok (x, j)) = e in absurd (cc)
    at_row i k j t x (Some r) is bytes s e =
        let all : RowSpelled (0 + t) r = row_at state_readers 0 t r rows_spelled is in
        let here = all k j x bytes e in
        let same : t ≡ tag x = omega (arith, here.0) in
        record { legal = here.1.0; stretch = stretch-join i k j (tag x ∷ []) (code_field x) (subst (λ n. Stretch i (n ∷ []) k) same s) here.1.1 }

    given : ReadsSpelled state_at state_field IsFieldState
    given i j x bytes e =
        let found = bind_ok (byte_at i) (λ (b : ℕ × Input). state_of i.at b.0 b.1) (x, j) e in
        let here = u8_is_field.spelled i found.0.1 found.0.0 bytes found.1.0 in
        at_row i found.0.1 j found.0.0 x (slice_get state_readers found.0.0) refl (stretch-bytes i found.0.1 (found.0.0 ∷ []) here.stretch bytes) here.stretch found.1.1

abbrev tP1 : Type 0
tP1 = (Unit {0}) × TaskNew

abbrev tP2 : Type 0
tP2 = tP1 × ℕ

abbrev tP3 : Type 0
tP3 = tP2 × List ℕ

abbrev tbuilt : tP3 → TaskState → Task
tbuilt x y = record { made = x.0.0.1; needs = x.1; attempt = x.0.1; state = y }

abbrev tat3 : tP3 → Reader Task
tat3 x i = state_at i >>= λ z. Ok (tbuilt x z.0, z.1)

abbrev tat2 : tP2 → Reader Task
tat2 x i = needs_at i >>= λ z. tat3 (x, z.0) z.1

abbrev tat1 : tP1 → Reader Task
tat1 x i = u32_at i >>= λ z. tat2 (x, z.0) z.1

abbrev tL3 : Task → Type 0
tL3 t = IsFieldState t.state

abbrev tS3 : Task → List ℕ
tS3 t = state_field t.state

abbrev tL2 : Task → Type 0
tL2 t = AreFieldNeeds t.needs × tL3 t

abbrev tS2 : Task → List ℕ
tS2 t = needs_field t.needs ++ tS3 t

abbrev tL1 : Task → Type 0
tL1 t = Fits t.attempt × tL2 t

abbrev tS1 : Task → List ℕ
tS1 t = u32_field t.attempt ++ tS2 t

abbrev tL0 : Task → Type 0
tL0 t = IsFieldNew t.made × tL1 t

abbrev tS0 : Task → List ℕ
tS0 t = made_field t.made ++ tS1 t

tstraight : IsField task_read tS0 tL0
tstraight =
    rest_field task_read tS0 tL0
    (rest_then {X = Unit {0}} {Y = Task} {Z = TaskNew} (λ t. tt) (λ t. t.made) made_at made_field IsFieldNew tat1 tS1 tL1 made_is_field
    (rest_then {X = tP1} {Y = Task} {Z = ℕ} (λ t. (tt, t.made)) (λ t. t.attempt) u32_at u32_field Fits tat2 tS2 tL2 u32_is_field
    (rest_then {X = tP2} {Y = Task} {Z = List ℕ} (λ t. ((tt, t.made), t.attempt)) (λ t. t.needs) needs_at needs_field AreFieldNeeds tat3 tS3 tL3 needs_are_field
    (rest_last {X = tP3} {Y = Task} {Z = TaskState} (λ t. (((tt, t.made), t.attempt), t.needs)) (λ t. t.state) (λ x. state_at) state_field (λ x y. IsFieldState y) tbuilt (λ t. refl) (λ x y. refl) (λ x y. refl) (λ x. state_is_field)))))

task_is_field : IsField task_read task_field IsFieldTask
task_is_field = same_field task_read tS0 task_field tL0 IsFieldTask (λ t. refl)
    (λ t h. record { made = h.0; attempt = h.1.0; needs = h.1.1.0; state = h.1.1.1 })
    (λ t h. (h.made, (h.attempt, (h.needs, h.state)))) tstraight

pub tasks_are_field : IsField tasks_at tasks_field AreFieldTasks
tasks_are_field = same_field tasks_at tasks_field tasks_field (λ ts. (length ts ≤ MAX_TASKS) × All IsFieldTask ts) AreFieldTasks (λ ts. refl)
    (λ ts h. record { count = h.0; each = h.1 }) (λ ts h. (h.count, h.each)) (list_is_field task_read task_field IsFieldTask task_is_field MAX_TASKS (omega arith))
