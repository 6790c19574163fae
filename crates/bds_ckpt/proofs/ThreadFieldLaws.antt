-- Threads are fields, both ways.
use Rattle.std.proofs.Common.{◌≡◌, ℕ, zero, suc, ◌+◌, ◌<◌, ◌≤◌, ◌^◌, List, [], ◌∷◌, ◌++◌, length, Ok, refl, sym, ap, subst, ◌∙◌, arith, add-zero}
use Rattle.std.specs.List.{All}
use Rattle.bds_value.specs.declared.TheConstants.{MAX_COUNT, MAX_THREADS}
use Rattle.bds_value.specs.declared.ids.Id.{Id}
use Rattle.bds_value.specs.declared.ids.Id.TheVariants as id
use Rattle.bds_value.specs.declared.ids.Status.{Status}
use Rattle.bds_value.specs.declared.ids.Status.TheVariants.{Ready, Waiting, Ended}
use Rattle.bds_value.specs.declared.value.Input.{Input}
use Rattle.bds_value.specs.declared.value.Value.{Value}
use Rattle.bds_value.specs.Fields.{AreBytes, Back, IsField, IsFieldValue, ReadsBack, ReadsSpelled, Spelled, Stretch}
use Rattle.bds_value.specs.Reading.{◌>>=◌, Read, Reader, read_map, rest_of, forward, byte_at, u32_at, value_at}
use Rattle.bds_value.specs.Spelling.{u32_field, value_field, list_field}
use Rattle.bds_value.proofs.FieldLaws.{bind_ok, byte_back, map_ok, ok_parts, rest-forward, forward-forward, stretch-bytes, stretch-join}
use Rattle.bds_value.proofs.ListFieldLaws.{all_is_field, list_is_field}
use Rattle.bds_value.proofs.NumberLaws.{u8_is_field, u32_is_field}
use Rattle.bds_value.proofs.RestLaws.{rest_field, rest_last, rest_then, same_field}
use Rattle.bds_value.proofs.ValueFieldLaws.{value_is_field}
use Rattle.bds_code_frames.specs.declared.frame.Frame.{Frame}
use Rattle.bds_code_frames.specs.declared.thread.Thread.{Thread}
use Rattle.bds_state_threads.specs.Fields.{AreFieldValues, IsFieldStatus, IsFieldThread}
use Rattle.bds_state_threads.specs.Numbers.{IdFits, StatusFits, FrameFits, ThreadFits}
use Rattle.bds_ckpt.specs.ThreadReading.{values_at, id_of, id_at, ids_at, status_of, status_at, frame_at, frames_at, thread_at, threads_at}
use Rattle.bds_state.specs.StateSpelling.{values_field, id_field, status_field, frame_field, frames_field, thread_field, threads_field}

-- threads that may be in a file
pub record AreFieldThreads (threads : List Thread) : Type 0 where
  pub count : length threads ≤ MAX_THREADS
  pub each : All IsFieldThread threads
  pub fit : All ThreadFits threads

pub values_are_field : IsField values_at values_field AreFieldValues
values_are_field = same_field values_at values_field values_field (λ vs. (length vs ≤ MAX_COUNT) × All IsFieldValue vs) AreFieldValues (λ vs. refl)
    (λ vs h. record { count = h.0; each = h.1 }) (λ vs h. (h.count, h.each)) (all_is_field value_at value_field IsFieldValue value_is_field)

-- a tag with what stands behind it
tagged_back : {X : Type 0} (of : ℕ → ℕ → Reader X) (tag : ℕ) (text : List ℕ) (x : X) → ((at : ℕ) → Back (of at tag) text x) → Back (λ i. byte_at i >>= λ b. of i.at b.0 b.1) (tag ∷ text) x
tagged_back of tag text x back i rest e =
    let behind : rest_of (forward 1 i) ≡ text ++ rest = rest-forward i (tag ∷ []) (text ++ rest) e in
    let size : 1 + length text ≡ length (tag ∷ text) = omega arith in
    rw (byte_back tag i (text ++ rest) e, back i.at (forward 1 i) rest behind)
    (ap (λ k. Ok (x, k)) (forward-forward i 1 (length text) ∙ ap (λ m. forward m i) size))

nothing_back : {X : Type 0} (x : X) → Back {X = X} (λ i. Ok (x, i)) [] x
nothing_back x i rest e = ap (λ k. Ok (x, k)) (ap (λ n. record { bytes = i.bytes; at = n }) (sym (add-zero i.at)))

-- what was read behind a tag
tagged_spelled : {X : Type 0} (of : ℕ → ℕ → Reader X) (spell : X → List ℕ) (Legal : X → Type 0)
    → ((tag : ℕ) (i k j : Input) (x : X) → AreBytes k.bytes → Stretch i (tag ∷ []) k → of i.at tag k ≡ Ok (x, j) → Spelled spell Legal i x j)
    → ReadsSpelled (λ i. byte_at i >>= λ b. of i.at b.0 b.1) spell Legal
tagged_spelled {X = X} of spell Legal by i j x bytes e =
    let found = bind_ok (byte_at i) (λ (b : ℕ × Input). of i.at b.0 b.1) (x, j) e in
    let here = u8_is_field.spelled i found.0.1 found.0.0 bytes found.1.0 in
    by found.0.0 i found.0.1 j x (stretch-bytes i found.0.1 (found.0.0 ∷ []) here.stretch bytes) here.stretch found.1.1

-- what was read behind a tag as a part
part_spelled : {X Y : Type 0} (f : Y → X) (tag : ℕ) (r : Reader Y) (spell : Y → List ℕ) (LegalY : Y → Type 0) (whole : X → List ℕ) (Legal : X → Type 0)
    → ((y : Y) → whole (f y) ≡ tag ∷ spell y) → ((y : Y) → LegalY y → Legal (f y)) → IsField r spell LegalY
    → (i k j : Input) (x : X) → AreBytes k.bytes → Stretch i (tag ∷ []) k → read_map f (r k) ≡ Ok (x, j) → Spelled whole Legal i x j
part_spelled {X = X} f tag r spell LegalY whole Legal same legal field i k j x bytes s e =
    let found = map_ok f (r k) (x, j) e in
    let y = found.0.0 in
    let here = field.spelled k found.0.1 y bytes found.1.0 in
    let value : f y ≡ x = ap (λ (p : X × Input). p.0) found.1.1 in
    let next : found.0.1 ≡ j = ap (λ (p : X × Input). p.1) found.1.1 in
    subst (λ z. Spelled whole Legal i z j) value
    (record {
      legal = legal y here.legal;
      stretch = subst (λ t. Stretch i t j) (sym (same y)) (stretch-join i k j (tag ∷ []) (spell y) s (subst (λ c. Stretch k (spell y) c) next here.stretch));
    })

-- what was read as a tag alone
bare_spelled : {X : Type 0} (y : X) (tag : ℕ) (whole : X → List ℕ) (Legal : X → Type 0) → whole y ≡ tag ∷ [] → Legal y
    → (i k j : Input) (x : X) → Stretch i (tag ∷ []) k → ◌≡◌ {A = Read X} (Ok (y, k)) (Ok (x, j)) → Spelled whole Legal i x j
bare_spelled y tag whole Legal same legal i k j x s e =
    let p = ok_parts y x k j e in
    subst (λ z. Spelled whole Legal i z j) p.0 (record { legal = legal; stretch = subst (λ t. Stretch i t j) (sym same) (subst (λ c. Stretch i (tag ∷ []) c) p.1 s) })

mapped : {X Y : Type 0} (f : Y → X) (r : Reader Y) (text : List ℕ) (y : Y) → Back r text y → Back (λ i. read_map f (r i)) text (f y)
mapped f r text y back i rest e = rw (back i rest e) refl

id_is_field : IsField id_at id_field IdFits
id_is_field = record { read_back = back; spelled = tagged_spelled id_of id_field IdFits by_tag }
  where
    back : (x : Id) → IdFits x → ReadsBack id_at id_field x
    back (id.Task n) h = tagged_back id_of 0 (u32_field n) (id.Task n) (λ at. mapped id.Task u32_at (u32_field n) n (u32_is_field.read_back n h))
    back (id.Thread n) h = tagged_back id_of 1 (u32_field n) (id.Thread n) (λ at. mapped id.Thread u32_at (u32_field n) n (u32_is_field.read_back n h))

    by_tag : (tag : ℕ) (i k j : Input) (x : Id) → AreBytes k.bytes → Stretch i (tag ∷ []) k → id_of i.at tag k ≡ Ok (x, j) → Spelled id_field IdFits i x j
    by_tag zero i k j x bytes s e = part_spelled id.Task 0 u32_at u32_field (λ n. n < 2 ^ 32) id_field IdFits (λ n. refl) (λ n h. h) u32_is_field i k j x bytes s e
    by_tag (suc zero) i k j x bytes s e = part_spelled id.Thread 1 u32_at u32_field (λ n. n < 2 ^ 32) id_field IdFits (λ n. refl) (λ n h. h) u32_is_field i k j x bytes s e
    by_tag (suc (suc n)) i k j x bytes s e = absurd (cc)

abbrev LegalIds : List Id → Type 0
LegalIds ids = (length ids ≤ MAX_COUNT) × All IdFits ids

ids_are_field : IsField ids_at (list_field id_field) LegalIds
ids_are_field = all_is_field id_at id_field IdFits id_is_field

abbrev LegalStatus : Status → Type 0
LegalStatus s = IsFieldStatus s × StatusFits s

status_is_field : IsField status_at status_field LegalStatus
status_is_field = record { read_back = back; spelled = tagged_spelled status_of status_field LegalStatus by_tag }
  where
    back : (x : Status) → LegalStatus x → ReadsBack status_at status_field x
    back Ready h = tagged_back status_of 0 [] Ready (λ at. nothing_back Ready)
    back (Waiting ids) h = tagged_back status_of 1 (list_field id_field ids) (Waiting ids) (λ at. mapped Waiting ids_at (list_field id_field ids) ids (ids_are_field.read_back ids (h.0, h.1)))
    back Ended h = tagged_back status_of 2 [] Ended (λ at. nothing_back Ended)

    by_tag : (tag : ℕ) (i k j : Input) (x : Status) → AreBytes k.bytes → Stretch i (tag ∷ []) k → status_of i.at tag k ≡ Ok (x, j) → Spelled status_field LegalStatus i x j
    by_tag zero i k j x bytes s e = bare_spelled Ready 0 status_field LegalStatus refl (tt, tt) i k j x s e
    by_tag (suc zero) i k j x bytes s e = part_spelled Waiting 1 ids_at (list_field id_field) LegalIds status_field LegalStatus (λ ids. refl) (λ ids h. h) ids_are_field i k j x bytes s e
    by_tag (suc (suc zero)) i k j x bytes s e = bare_spelled Ended 2 status_field LegalStatus refl (tt, tt) i k j x s e
    by_tag (suc (suc (suc n))) i k j x bytes s e = absurd (cc)

abbrev Number : ℕ → Type 0
Number n = n < 2 ^ 32

abbrev LegalFrame : Frame → Type 0
LegalFrame f = Number f.function × (Number f.place × (AreFieldValues f.slots × AreFieldValues f.operands))

abbrev Called : Type 0
Called = (Unit {0}) × ℕ

abbrev Placed : Type 0
Placed = Called × ℕ

abbrev Held : Type 0
Held = Placed × List Value

abbrev frame_of : Held → List Value → Frame
frame_of x operands = record { function = x.0.0.1; place = x.0.1; slots = x.1; operands = operands }

abbrev held_at : Held → Reader Frame
held_at x i = values_at i >>= λ z. Ok (frame_of x z.0, z.1)

abbrev placed_at : Placed → Reader Frame
placed_at x i = values_at i >>= λ z. held_at (x, z.0) z.1

abbrev called_at : Called → Reader Frame
called_at x i = u32_at i >>= λ z. placed_at (x, z.0) z.1

frame_is_field : IsField frame_at frame_field LegalFrame
frame_is_field =
    rest_field frame_at frame_field LegalFrame
    (rest_then {X = Unit {0}} {Y = Frame} {Z = ℕ} (λ f. tt) (λ f. f.function) u32_at u32_field Number called_at
    (λ f. u32_field f.place ++ (values_field f.slots ++ values_field f.operands)) (λ f. Number f.place × (AreFieldValues f.slots × AreFieldValues f.operands)) u32_is_field
    (rest_then {X = Called} {Y = Frame} {Z = ℕ} (λ f. (tt, f.function)) (λ f. f.place) u32_at u32_field Number placed_at
    (λ f. values_field f.slots ++ values_field f.operands) (λ f. AreFieldValues f.slots × AreFieldValues f.operands) u32_is_field
    (rest_then {X = Placed} {Y = Frame} {Z = List Value} (λ f. ((tt, f.function), f.place)) (λ f. f.slots) values_at values_field AreFieldValues held_at
    (λ f. values_field f.operands) (λ f. AreFieldValues f.operands) values_are_field
    (rest_last {X = Held} {Y = Frame} {Z = List Value} (λ f. (((tt, f.function), f.place), f.slots)) (λ f. f.operands) (λ x. values_at) values_field (λ x z. AreFieldValues z)
    frame_of (λ f. refl) (λ x z. refl) (λ x z. refl) (λ x. values_are_field)))))

abbrev LegalFrames : List Frame → Type 0
LegalFrames fs = (length fs ≤ MAX_COUNT) × All LegalFrame fs

frames_are_field : IsField frames_at frames_field LegalFrames
frames_are_field = all_is_field frame_at frame_field LegalFrame frame_is_field

abbrev LegalThread : Thread → Type 0
LegalThread t = Number t.parent × (LegalStatus t.status × (AreFieldValues t.globals × LegalFrames t.frames))

abbrev Made : Type 0
Made = (Unit {0}) × ℕ

abbrev Going : Type 0
Going = Made × Status

abbrev Owning : Type 0
Owning = Going × List Value

abbrev thread_of : Owning → List Frame → Thread
thread_of x frames = record { parent = x.0.0.1; status = x.0.1; globals = x.1; frames = frames }

abbrev owning_at : Owning → Reader Thread
owning_at x i = frames_at i >>= λ z. Ok (thread_of x z.0, z.1)

abbrev going_at : Going → Reader Thread
going_at x i = values_at i >>= λ z. owning_at (x, z.0) z.1

abbrev made_at : Made → Reader Thread
made_at x i = status_at i >>= λ z. going_at (x, z.0) z.1

parts_are_field : IsField thread_at thread_field LegalThread
parts_are_field =
    rest_field thread_at thread_field LegalThread
    (rest_then {X = Unit {0}} {Y = Thread} {Z = ℕ} (λ t. tt) (λ t. t.parent) u32_at u32_field Number made_at
    (λ t. status_field t.status ++ (values_field t.globals ++ frames_field t.frames)) (λ t. LegalStatus t.status × (AreFieldValues t.globals × LegalFrames t.frames)) u32_is_field
    (rest_then {X = Made} {Y = Thread} {Z = Status} (λ t. (tt, t.parent)) (λ t. t.status) status_at status_field LegalStatus going_at
    (λ t. values_field t.globals ++ frames_field t.frames) (λ t. AreFieldValues t.globals × LegalFrames t.frames) status_is_field
    (rest_then {X = Going} {Y = Thread} {Z = List Value} (λ t. ((tt, t.parent), t.status)) (λ t. t.globals) values_at values_field AreFieldValues owning_at
    (λ t. frames_field t.frames) (λ t. LegalFrames t.frames) values_are_field
    (rest_last {X = Owning} {Y = Thread} {Z = List Frame} (λ t. (((tt, t.parent), t.status), t.globals)) (λ t. t.frames) (λ x. frames_at) frames_field (λ x z. LegalFrames z)
    thread_of (λ t. refl) (λ x z. refl) (λ x z. refl) (λ x. frames_are_field)))))

abbrev LegalWhole : Thread → Type 0
LegalWhole t = IsFieldThread t × ThreadFits t

fits_of : (f : Frame) → LegalFrame f → FrameFits f
fits_of f h = record {
  function = h.0;
  place = h.1.0;
  slots = λ k d l. (h.1.1.0.each k d l).3;
  operands = λ k d l. (h.1.1.1.each k d l).3;
  counted = record { slots = h.1.1.0.count; operands = h.1.1.1.count };
}

thread_is_field : IsField thread_at thread_field LegalWhole
thread_is_field = same_field thread_at thread_field thread_field LegalThread LegalWhole (λ t. refl) to from parts_are_field
  where
    to : (t : Thread) → LegalThread t → LegalWhole t
    to t h = (
      record {
        status = h.1.0.0;
        globals = h.1.1.0;
        count = h.1.1.1.0;
        frames = λ k d l. let f = h.1.1.1.1 k d l in record { slots = f.1.1.0; operands = f.1.1.1 };
      },
      record {
        parent = h.0;
        status = h.1.0.1;
        globals = λ k d l. (h.1.1.0.each k d l).3;
        frames = λ k d l. fits_of _ (h.1.1.1.1 k d l);
      },
    )

    from : (t : Thread) → LegalWhole t → LegalThread t
    from t h = (
      h.1.parent,
      (
        (h.0.status, h.1.status),
        (
          h.0.globals,
          (
            h.0.count,
            λ k d l. let f = h.0.frames k d l in let n = h.1.frames k d l in (n.function, (n.place, (f.slots, f.operands))),
          ),
        ),
      ),
    )

pub threads_are_field : IsField threads_at threads_field AreFieldThreads
threads_are_field = same_field threads_at threads_field threads_field (λ ts. (length ts ≤ MAX_THREADS) × All LegalWhole ts) AreFieldThreads (λ ts. refl)
    (λ ts h. record { count = h.0; each = λ k d l. (h.1 k d l).0; fit = λ k d l. (h.1 k d l).1 })
    (λ ts h. (h.count, λ k d l. (h.each k d l, h.fit k d l))) (list_is_field thread_at thread_field LegalWhole thread_is_field MAX_THREADS (omega arith))
