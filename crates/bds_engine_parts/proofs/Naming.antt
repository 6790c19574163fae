-- Which id a text is.
use Rattle.std.proofs.Common.{◌≡◌, ◌≢◌, ◌<◌, ◌≤◌, ◌^◌, ◌+◌, ℕ, zero, suc, Bool, true, false, List, [], ◌∷◌, ◌++◌, length, Option, Some, None, MatchOption, Result, Ok, Err, refl, sym, ap, ◌∙◌, subst, arith, append_assoc, append-nil}
use Rattle.std.specs.Prelude.{codes, decimal, map, slice_get, take, drop, if◌then◌else◌}
use Rattle.std.specs.List.{All}
use Rattle.std.specs.Str.{bytes_eq, IsUtf8}
use Rattle.std.specs.Str.Parse.{ParsesUnsigned}
use Rattle.std.proofs.lemmas.Bool.{false≢true}
use Rattle.std.proofs.lemmas.Fmt.{IsAscii-decimal, decimal_injective, parse-decimal}
use Rattle.std.proofs.Math.Seq.{drop-append_seam, drop-length, take-append_seam}
use Rattle.std.proofs.lemmas.List.{append_cancel_left, length-append, length_push, map-append, take-append-drop}
use Rattle.std.proofs.lemmas.List.Elements.{All-append, All-from_recursion, All-nil}
use Rattle.std.proofs.lemmas.Slice.Eq.{bytes_eq-Decides}
use Rattle.std.proofs.lemmas.Str.{IsUtf8-from_ascii}
use Rattle.bds_value.specs.declared.ids.Id.{Id}
use Rattle.bds_value.specs.declared.ids.Id.TheVariants as id
use Rattle.bds_value.specs.declared.faults.RunFault.TheVariants as run
use Rattle.bds_schedule.specs.Ids.{of_task, of_thread, task_id, thread_id, numbered, either, id_of, ids_of, is_empty, with_id}
use Rattle.bds_schedule.specs.Ids as names
use Rattle.bds_schedule.specs.Faults.{Outcome, and_then}
use Rattle.bds_state.specs.Valid.{IsThere}
use Rattle.bds_engine_parts.specs.Look.{AreNamed, IsNamed, IsPut, NumberBehind}
use Rattle.bds_engine_parts.specs.declared.ids.IdFault.TheVariants.{NoId}
use Rattle.bds_engine_parts.specs.Seen.{id_seen}

-- Numbers

ok_same : {E : Type 0} (m n : ℕ) (r : Result ℕ E) → r ≡ Ok m → r ≡ Ok n → m ≡ n
ok_same m n r e f = cc (e, f)

-- a text that isn't parsed is no number
pub unparsed : {E : Type 0} (text : List ℕ) (r : Result ℕ E) → ParsesUnsigned 32 10 text r → ((n : ℕ) → r ≢ Ok n) → (n : ℕ) → n < 2 ^ 32 → text ≢ decimal n
unparsed text r parses failed n h is = failed n (parse-decimal 32 n text r h (omega arith) is parses)

-- a text that isn't how its number is printed is no number
pub printed_otherwise : {E : Type 0} (text : List ℕ) (r : Result ℕ E) (m : ℕ) → ParsesUnsigned 32 10 text r → r ≡ Ok m → decimal m ≢ text → (n : ℕ) → n < 2 ^ 32 → text ≢ decimal n
printed_otherwise text r m parses read other n h is =
    let same : m ≡ n = ok_same m n r read (parse-decimal 32 n text r h (omega arith) is parses) in
    other (ap decimal same ∙ sym is)

-- no text
pub strange_number : (text : List ℕ) → (IsUtf8 text → ⊥) → (n : ℕ) → n < 2 ^ 32 → text ≢ decimal n
strange_number text strange n h is = strange (subst IsUtf8 (sym is) (IsUtf8-from_ascii (decimal n) (IsAscii-decimal n (omega arith))))

-- Words

abbrev second_of : List ℕ → ℕ
second_of (a ∷ b ∷ cs) = b
second_of _ = 0

never_both : (m n : ℕ) → task_id m ≢ thread_id n
never_both m n e = absurd (let q : 97 ≡ 104 = ap second_of e in omega (arith, q))

task_ids_differ : (m n : ℕ) → m < 2 ^ 32 → n < 2 ^ 32 → task_id m ≡ task_id n → m ≡ n
task_ids_differ m n h k e = decimal_injective m n (omega (arith, h)) (omega (arith, k)) (append_cancel_left (codes "task.") (decimal m) (decimal n) e)

thread_ids_differ : (m n : ℕ) → m < 2 ^ 32 → n < 2 ^ 32 → thread_id m ≡ thread_id n → m ≡ n
thread_ids_differ m n h k e = decimal_injective m n (omega (arith, h)) (omega (arith, k)) (append_cancel_left (codes "thread.") (decimal m) (decimal n) e)

module _ (f : ℕ → List ℕ) (text : List ℕ) where
  lost : (start more : ℕ) → ((n : ℕ) → start ≤ n → n < start + more → text ≢ f n) → numbered f text start more ≡ None
  lost start zero none = refl
  lost start (suc more) none = by (lost (start + 1) more (λ n l m. none n (omega (arith, l)) (omega (arith, m)))) (bytes_eq (f start) text) refl
    where
      by : numbered f text (start + 1) more ≡ None → (b : Bool) → bytes_eq (f start) text ≡ b → (if b then Some start else numbered f text (start + 1) more) ≡ None
      by rec true e = absurd (none start (omega arith) (omega arith) (sym ((bytes_eq-Decides (f start) text).0 e)))
      by rec false e = rec

  module _ (n : ℕ) (is : text ≡ f n) (small : n < 2 ^ 32) (differ : (a b : ℕ) → a < 2 ^ 32 → b < 2 ^ 32 → f a ≡ f b → a ≡ b) where
    found : (start more : ℕ) → start ≤ n → n < start + more → numbered f text start more ≡ Some n
    found start zero l m = absurd (let q : n < start + 0 = m in omega (arith, l, q))
    found start (suc more) l m = by (λ k. found (start + 1) more k (omega (arith, m))) (bytes_eq (f start) text) refl
      where
        beyond : (a b : ℕ) → a ≤ b → (a ≡ b → ⊥) → a + 1 ≤ b
        beyond a b l other = omega (arith, l, other)

        by : (start + 1 ≤ n → numbered f text (start + 1) more ≡ Some n) → (b : Bool) → bytes_eq (f start) text ≡ b → (if b then Some start else numbered f text (start + 1) more) ≡ Some n
        by rec true e = ap Some (differ start n (omega (arith, l, small)) small ((bytes_eq-Decides (f start) text).0 e ∙ is))
        by rec false e =
            let other : start ≡ n → ⊥ = λ q. false≢true (sym e ∙ (bytes_eq-Decides (f start) text).1 (ap f q ∙ sym is)) in
            rec (beyond start n l other)

module _ (tasks threads : ℕ) (text : List ℕ) (few_tasks : tasks < 2 ^ 32) (few_threads : threads < 2 ^ 32) where
  no_task : ((n : ℕ) → n < 2 ^ 32 → text ≢ task_id n) → numbered task_id text 1 tasks ≡ None
  no_task none = lost task_id text 1 tasks (λ n l m. none n (omega (arith, m, few_tasks)))

  no_thread : ((n : ℕ) → n < 2 ^ 32 → text ≢ thread_id n) → numbered thread_id text 0 threads ≡ None
  no_thread none = lost thread_id text 0 threads (λ n l m. none n (omega (arith, m, few_threads)))

  joined : (a b : Option ℕ) → numbered task_id text 1 tasks ≡ a → numbered thread_id text 0 threads ≡ b → id_of tasks threads text ≡ either a b text
  joined a b e f = ap (λ x. either x (numbered thread_id text 0 threads) text) e ∙ ap (λ x. either a x text) f

  pub task_named : (n : ℕ) → n < 2 ^ 32 → text ≡ task_id n → 1 ≤ n → n ≤ tasks → IsNamed tasks threads text (Some (id.Task n))
  task_named n h is o l = (
    joined (Some n) (numbered thread_id text 0 threads) (found task_id text n is h task_ids_differ 1 tasks o (omega (arith, l))) refl,
    (o, l),
  )

  pub task_unnamed : (n : ℕ) → n < 2 ^ 32 → text ≡ task_id n → (1 ≤ n → n ≤ tasks → ⊥) → IsNamed tasks threads text None
  task_unnamed n h is far =
      joined None None
      (lost task_id text 1 tasks (λ m l k e.
      let same : m ≡ n = task_ids_differ m n (omega (arith, k, few_tasks)) h (sym e ∙ is) in
      far (omega (arith, same, l)) (omega (arith, same, k))))
      (no_thread (λ m k e. never_both n m (sym is ∙ e)))

  pub thread_named : (n : ℕ) → n < 2 ^ 32 → text ≡ thread_id n → n < threads → IsNamed tasks threads text (Some (id.Thread n))
  thread_named n h is l = (
    joined None (Some n) (no_task (λ m k e. never_both m n (sym e ∙ is))) (found thread_id text n is h thread_ids_differ 0 threads (omega arith) (omega (arith, l))),
    l,
  )

  pub thread_unnamed : (n : ℕ) → n < 2 ^ 32 → text ≡ thread_id n → (n < threads → ⊥) → IsNamed tasks threads text None
  thread_unnamed n h is far =
      joined None None (no_task (λ m k e. never_both m n (sym e ∙ is)))
      (lost thread_id text 0 threads (λ m l k e.
      let same : m ≡ n = thread_ids_differ m n (omega (arith, k, few_threads)) h (sym e ∙ is) in
      far (omega (arith, same, k))))

  pub unnamed : ((n : ℕ) → n < 2 ^ 32 → text ≢ task_id n) → ((n : ℕ) → n < 2 ^ 32 → text ≢ thread_id n) → IsNamed tasks threads text None
  unnamed none none' = joined None None (no_task none) (no_thread none')

-- Lists of texts

module _ (tasks threads : ℕ) where
  pub skipped : (t : List ℕ) (ts : List (List ℕ)) → t ≡ [] → ids_of tasks threads (t ∷ ts) ≡ ids_of tasks threads ts
  skipped t ts e = ap (λ x. with_id (is_empty x) (id_of tasks threads x) (ids_of tasks threads ts)) e

  abbrev with_one : Outcome names.Id → Outcome (List names.Id) → Outcome (List names.Id)
  with_one i rest = and_then i (λ x. and_then rest (λ xs. Ok (x ∷ xs)))

  pub one_more : (c : ℕ) (cs : List ℕ) (ts : List (List ℕ)) → ids_of tasks threads ((c ∷ cs) ∷ ts) ≡ with_one (id_of tasks threads (c ∷ cs)) (ids_of tasks threads ts)
  one_more c cs ts = refl

-- The number behind words

same_front : (words text : List ℕ) → take (length words) (words ++ text) ≡ words
same_front words text = take-append_seam words text

pub behind_words : (words text : List ℕ) (n : ℕ) → bytes_eq (take (length words) text) words ≡ true → drop (length words) text ≡ decimal n → NumberBehind words text (Some n)
behind_words words text n e is =
    sym (take-append-drop (length words) text) ∙ ap (λ x. x ++ drop (length words) text) ((bytes_eq-Decides (take (length words) text) words).0 e) ∙ ap (λ x. words ++ x) is

pub no_number : (words text : List ℕ) → ((n : ℕ) → n < 2 ^ 32 → drop (length words) text ≢ decimal n) → NumberBehind words text None
no_number words text none n h is = none n h (ap (λ x. drop (length words) x) is ∙ drop-append_seam words (decimal n))

pub other_words : (words text : List ℕ) → bytes_eq (take (length words) text) words ≡ false → NumberBehind words text None
other_words words text e n h is =
    false≢true (sym e ∙ (bytes_eq-Decides (take (length words) text) words).1 (ap (λ x. take (length words) x) is ∙ same_front words (decimal n)))

pub too_short : (words text : List ℕ) → length text < length words → NumberBehind words text None
too_short words text l n h is =
    let long : length (words ++ decimal n) ≡ length words + length (decimal n) = length-append words (decimal n) in
    let same : length text ≡ length (words ++ decimal n) = ap (λ x. length x) is in
    absurd (omega (arith, l, long, same))

-- the number of a text is that of its bytes
pub same_number : (bytes text : List ℕ) (r : Option ℕ) → text ≡ bytes → MatchOption r ((n : ℕ) → n < 2 ^ 32 → text ≢ decimal n) (λ n. text ≡ decimal n) → MatchOption r ((n : ℕ) → n < 2 ^ 32 → bytes ≢ decimal n) (λ n. bytes ≡ decimal n)
same_number bytes text None same none = λ n h is. none n h (same ∙ is)
same_number bytes text (Some n) same is = sym same ∙ is

-- what is read behind the words
pub read_behind : (words text head rest : List ℕ) (r : Option ℕ) → head ≡ take (length words) text → rest ≡ drop (length words) text → bytes_eq head words ≡ true
    → MatchOption r ((n : ℕ) → n < 2 ^ 32 → rest ≢ decimal n) (λ n. rest ≡ decimal n) → NumberBehind words text r
read_behind words text head rest None h d e none = no_number words text (λ n l is. none n l (d ∙ is))
read_behind words text head rest (Some n) h d e is = behind_words words text n (subst (λ x. bytes_eq x words ≡ true) h e) (sym d ∙ is)

pub read_otherwise : (words text head : List ℕ) → head ≡ take (length words) text → bytes_eq head words ≡ false → NumberBehind words text None
read_otherwise words text head h e = other_words words text (subst (λ x. bytes_eq x words ≡ false) h e)

-- The list so far, and the texts that are left

drop_at : (i : ℕ) (xs : List (List ℕ)) (x : List ℕ) → slice_get xs i ≡ Some x → drop i xs ≡ x ∷ drop (i + 1) xs
drop_at i [] x e = absurd (cc e)
drop_at zero (y ∷ ys) x e = let q : y ≡ x = cc e in ap (λ z. z ∷ ys) q
drop_at (suc i) (y ∷ ys) x e = let q : suc i + 1 ≡ suc (i + 1) = omega arith in drop_at i ys x e ∙ ap (λ n. x ∷ drop n (y ∷ ys)) (sym q)

abbrev pub then_named : List names.Id → Outcome (List names.Id) → Outcome (List names.Id)
then_named before (Ok ids) = Ok (before ++ ids)
then_named before (Err f) = Err f

pub record IsOnWay (tasks threads : ℕ) (texts : List (List ℕ)) (i : ℕ) (ids : List Id) : Type 0 where
  pub all : ids_of tasks threads texts ≡ then_named (map id_seen ids) (ids_of tasks threads (drop i texts))
  pub there : All (IsThere tasks threads) ids
  pub few : length ids ≤ i

module _ (tasks threads : ℕ) (texts : List (List ℕ)) where
  pub begins : IsOnWay tasks threads texts 0 []
  begins = record { all = sym (none_before (ids_of tasks threads texts)); there = All-nil (IsThere tasks threads); few = omega arith }
    where
      none_before : (o : Outcome (List names.Id)) → then_named [] o ≡ o
      none_before (Ok ids) = refl
      none_before (Err f) = refl

  module _ (i : ℕ) (ids : List Id) (way : IsOnWay tasks threads texts i ids) (text : List ℕ) (here : slice_get texts i ≡ Some text) where
    split : drop i texts ≡ text ∷ drop (i + 1) texts
    split = drop_at i texts text here

    at_text : (t : List ℕ) → text ≡ t → ids_of tasks threads texts ≡ then_named (map id_seen ids) (with_id (is_empty t) (id_of tasks threads t) (ids_of tasks threads (drop (i + 1) texts)))
    at_text t e = way.all ∙ ap (λ x. then_named (map id_seen ids) (ids_of tasks threads x)) split ∙ ap (λ x. then_named (map id_seen ids) (with_id (is_empty x) (id_of tasks threads x) (ids_of tasks threads (drop (i + 1) texts)))) e

    pub skips : length text ≤ 0 → IsOnWay tasks threads texts (i + 1) ids
    skips none = record { all = at_text [] (no_items text none); there = way.there; few = let l : length ids ≤ i = way.few in omega (arith, l) }
      where
        no_items : (t : List ℕ) → length t ≤ 0 → t ≡ []
        no_items [] l = refl
        no_items (c ∷ cs) l = absurd (omega (arith, l))

    full : 0 < length text → is_empty text ≡ false
    full some = by text some
      where
        by : (t : List ℕ) → 0 < length t → is_empty t ≡ false
        by [] l = absurd (omega (arith, l))
        by (c ∷ cs) l = refl

    at_full : 0 < length text → (o : Outcome names.Id) → id_of tasks threads text ≡ o → ids_of tasks threads texts ≡ then_named (map id_seen ids) (and_then o (λ x. and_then (ids_of tasks threads (drop (i + 1) texts)) (λ xs. Ok (x ∷ xs))))
    at_full some o e =
        at_text text refl
        ∙ ap (λ b. then_named (map id_seen ids) (with_id b (id_of tasks threads text) (ids_of tasks threads (drop (i + 1) texts)))) (full some)
        ∙ ap (λ x. then_named (map id_seen ids) (with_id false x (ids_of tasks threads (drop (i + 1) texts)))) e

    one_behind : (x : Id) (o : Outcome (List names.Id)) → then_named (map id_seen ids) (and_then o (λ xs. Ok (id_seen x ∷ xs))) ≡ then_named (map id_seen (ids ++ x ∷ [])) o
    one_behind x (Err f) = refl
    one_behind x (Ok xs) = ap Ok (sym (ap (λ z. z ++ xs) (map-append id_seen ids (x ∷ [])) ∙ append_assoc (map id_seen ids) (id_seen x ∷ []) xs))

    pub names_one : 0 < length text → (x : Id) → IsNamed tasks threads text (Some x) → IsOnWay tasks threads texts (i + 1) (ids ++ x ∷ [])
    names_one some x h =
        let long : length (ids ++ x ∷ []) ≡ length ids + 1 = length_push ids x in
        record {
          all = at_full some (Ok (id_seen x)) h.0 ∙ one_behind x (ids_of tasks threads (drop (i + 1) texts));
          there = All-append (IsThere tasks threads) ids (x ∷ []) way.there (All-from_recursion (IsThere tasks threads) (x ∷ []) (h.1, tt));
          few = let l : length ids ≤ i = way.few in omega (arith, l, long);
        }

    pub names_none : 0 < length text → IsNamed tasks threads text None → AreNamed tasks threads texts (Err (NoId i))
    names_none some h = (text, here, at_full some (Err (run.NoId text)) h)

    -- the text is put, or not
    pub puts_on : (new : List Id) → IsPut tasks threads text ids new → IsOnWay tasks threads texts (i + 1) new
    puts_on _ (IsPut.empty none same) = subst (λ xs. IsOnWay tasks threads texts (i + 1) xs) (sym same) (skips none)
    puts_on _ (IsPut.put x some named same) = subst (λ xs. IsOnWay tasks threads texts (i + 1) xs) (sym same) (names_one some x named)

  pub names_all : (ids : List Id) → IsOnWay tasks threads texts (length texts) ids → AreNamed tasks threads texts (Ok ids)
  names_all ids way = (
    way.all ∙ ap (λ x. then_named (map id_seen ids) (ids_of tasks threads x)) (drop-length texts) ∙ ap Ok (append-nil (map id_seen ids)),
    way.there,
    way.few,
  )
