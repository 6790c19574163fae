-- What a thread made is there.
use Rattle.std.proofs.Common.{◌≡◌, ◌+◌, ◌<◌, ◌≤◌, ℕ, Bool, true, false, List, [], ◌∷◌, ◌++◌, length, map, nat_eq, arith}
use Rattle.std.proofs.lemmas.List.{length-append, length-map}
use Rattle.std.proofs.lemmas.List.Elements.{All-append, All-from_recursion}
use Rattle.std.specs.List.{AllByRecursion}
use Rattle.bds_value.specs.declared.TheConstants.{MAX_TASKS, MAX_THREADS}
use Rattle.bds_value.specs.declared.ids.Id.TheVariants as id
use Rattle.bds_code_frames.specs.declared.thread.Thread.{Thread}
use Rattle.bds_tasks.specs.declared.task.Task.{Task}
use Rattle.bds_tasks.specs.Tasks.{one_where, made_by as tasks_made_by, numbers_from as task_numbers}
use Rattle.bds_state.specs.MadeBy.{MayWait, made_by, threads_made_by}
use Rattle.bds_state.specs.Parts.{Parts}
use Rattle.bds_state.specs.Ready.{numbers_from}
use Rattle.bds_state.specs.Valid.{IsThere, IsValid}

one_more : (P : ℕ → Type 0) (b : Bool) (n : ℕ) (ns : List ℕ) → P n → AllByRecursion P ns
    → AllByRecursion P (one_where b n ++ ns)
one_more P true n ns p a = (p, a)
one_more P false n ns p a = a

one_longer : (b : Bool) (n most : ℕ) (ns : List ℕ) → length ns ≤ most → length (one_where b n ++ ns) ≤ most + 1
one_longer true n most ns l = omega (arith, l)
one_longer false n most ns l = omega (arith, l)

tasks_within : (n most : ℕ) (test : Task → Bool) (ts : List Task) → 1 ≤ n → n + length ts ≤ most + 1
    → AllByRecursion (λ m. (1 ≤ m) × (m ≤ most)) (task_numbers n test ts)
tasks_within n most test [] o l = tt
tasks_within n most test (t ∷ ts) o l =
    let long : length (t ∷ ts) ≡ length ts + 1 = omega arith in
    one_more (λ m. (1 ≤ m)
    × (m ≤ most)) (test t) n (task_numbers (n + 1) test ts) (o, omega (arith, l, long))
    (tasks_within (n + 1) most test ts (omega arith) (omega (arith, l, long)))

few_tasks : (n : ℕ) (test : Task → Bool) (ts : List Task) → length (task_numbers n test ts) ≤ length ts
few_tasks n test [] = omega arith
few_tasks n test (t ∷ ts) =
    let long : length (t ∷ ts) ≡ length ts + 1 = omega arith in
    let l = one_longer (test t) n (length ts) (task_numbers (n + 1) test ts) (few_tasks (n + 1) test ts) in
    omega (arith, l, long)

threads_within : (n most : ℕ) (test : Thread → Bool) (ts : List Thread) → n + length ts ≤ most
    → AllByRecursion (λ m. m < most) (numbers_from n test ts)
threads_within n most test [] l = tt
threads_within n most test (t ∷ ts) l =
    let long : length (t ∷ ts) ≡ length ts + 1 = omega arith in
    one_more (λ m. m < most) (test t) n (numbers_from (n + 1) test ts) (omega (arith, l, long))
    (threads_within (n + 1) most test ts (omega (arith, l, long)))

few_threads : (n : ℕ) (test : Thread → Bool) (ts : List Thread) → length (numbers_from n test ts) ≤ length ts
few_threads n test [] = omega arith
few_threads n test (t ∷ ts) =
    let long : length (t ∷ ts) ≡ length ts + 1 = omega arith in
    let l = one_longer (test t) n (length ts) (numbers_from (n + 1) test ts) (few_threads (n + 1) test ts) in
    omega (arith, l, long)

behind_within : (thread : ℕ) (ts : List Thread) → AllByRecursion (λ m. m < length ts) (threads_made_by thread ts)
behind_within thread [] = tt
behind_within thread (t ∷ ts) =
    threads_within 1 (length (t ∷ ts)) (λ (x : Thread). nat_eq x.parent thread) ts (omega arith)

few_behind : (thread : ℕ) (ts : List Thread) → length (threads_made_by thread ts) ≤ length ts
few_behind thread [] = omega arith
few_behind thread (t ∷ ts) = let l = few_threads 1 (λ (x : Thread). nat_eq x.parent thread) ts in omega (arith, l)

module _ (tasks threads : ℕ) where
  task_ids : (ns : List ℕ) → AllByRecursion (λ n. (1 ≤ n) × (n ≤ tasks)) ns
      → AllByRecursion (IsThere tasks threads) (map id.Task ns)
  task_ids [] a = tt
  task_ids (n ∷ ns) a = (a.0, task_ids ns a.1)

  thread_ids : (ns : List ℕ) → AllByRecursion (λ n. n < threads) ns
      → AllByRecursion (IsThere tasks threads) (map id.Thread ns)
  thread_ids [] a = tt
  thread_ids (n ∷ ns) a = (a.0, thread_ids ns a.1)

pub may_wait : (s : Parts) → IsValid s → (thread : ℕ) → MayWait thread s
may_wait s v thread =
    let test = λ (t : Task). nat_eq t.made.maker thread in
    let a = tasks_made_by thread s.tasks in
    let b = threads_made_by thread s.threads in
    let P = IsThere (length s.tasks) (length s.threads) in
    let long : length (made_by thread s) ≡ length (map id.Task a) + length (map id.Thread b) =
    length-append (map id.Task a) (map id.Thread b) in
    let long_a : length (map id.Task a) ≡ length a = length-map a id.Task in
    let long_b : length (map id.Thread b) ≡ length b = length-map b id.Thread in
    let few_a : length a ≤ length s.tasks = few_tasks 1 test s.tasks in
    let few_b : length b ≤ length s.threads = few_behind thread s.threads in
    let most_a : length s.tasks ≤ MAX_TASKS = v.tasks.count in
    let most_b : length s.threads ≤ MAX_THREADS = v.threads.count in
    record {
      few = omega (arith, long, long_a, long_b, few_a, few_b, most_a, most_b);
      there = All-append P (map id.Task a) (map id.Thread b)
          (All-from_recursion P (map id.Task a) (task_ids (length s.tasks) (length s.threads) a
          (tasks_within 1 (length s.tasks) test s.tasks (omega arith) (omega arith))))
          (All-from_recursion P (map id.Thread b) (thread_ids (length s.tasks) (length s.threads) b
          (behind_within thread s.threads)));
    }
