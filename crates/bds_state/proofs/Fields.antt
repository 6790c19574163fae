-- A valid state may be in a file.
use Rattle.std.proofs.Common.{◌+◌, ◌<◌, ◌≤◌, ◌^◌, ℕ, List, [], ◌∷◌, length, arith}
use Rattle.std.proofs.lemmas.List.Elements.{All-from_recursion}
use Rattle.std.proofs.lemmas.Option.{slice_get_within}
use Rattle.std.specs.List.{AllByRecursion}
use Rattle.bds_value.specs.declared.TheConstants.{MAX_CPUS, MAX_RETRY, MAX_TASKS, MAX_THREADS}
use Rattle.bds_rules.proofs.FitLaws.{field_rules}
use Rattle.bds_state_threads.specs.Fields.{IsFieldThread}
use Rattle.bds_state_threads.specs.Numbers.{ThreadFits}
use Rattle.bds_state_threads.proofs.Written.{all-at, thread-field}
use Rattle.bds_tasks.specs.declared.task.Task.{Task}
use Rattle.bds_tasks.specs.Sound.{EndedBadly, IsSound}
use Rattle.bds_tasks.specs.TaskFields.{IsFieldState, IsFieldTask, IsLimited}
use Rattle.bds_tasks.proofs.FitLaws.{limited_tasks}
use Rattle.bds_tasks.proofs.UnfitLaws.{sound_from}
use Rattle.bds_verify.proofs.FieldUnits.{field-unit}
use Rattle.bds_state.specs.Fits.{AreFields, NumbersFit}
use Rattle.bds_state.specs.Parts.{Parts}
use Rattle.bds_state.specs.Valid.{IsMade, IsValid}
use Rattle.bds_state.proofs.Places.{at_place}

few_bits : (i : ℕ) (ns : List ℕ) → i < 2 ^ 32 → AllByRecursion (λ n. (1 ≤ n) × (n ≤ i)) ns
    → AllByRecursion (λ n. n < 2 ^ 32) ns
few_bits i [] l a = tt
few_bits i (n ∷ ns) l a = let h : n ≤ i = a.0.1 in (omega (arith, h, l), few_bits i ns l a.1)

task_field : (P : ℕ → Type 0) (threads i : ℕ) (t : Task) → threads ≤ MAX_THREADS → i ≤ MAX_TASKS → IsSound P i t
    → IsMade threads t → IsFieldState t.state → IsLimited t → IsFieldTask t
task_field P threads i t few early s made state limited =
    let maker : t.made.maker < threads = made in
    let cpus : t.made.cpus ≤ MAX_CPUS = s.made.cpus in
    let retry : t.made.retry ≤ MAX_RETRY = s.made.retry in
    let attempt : t.attempt ≤ t.made.retry = s.attempt in
    record {
      made = record {
        maker = omega (arith, maker, few);
        command = s.made.command;
        name = s.made.name;
        outs = s.made.outs;
        ins = s.made.ins;
        cpus = omega (arith, cpus);
        retry = omega (arith, retry);
      };
      attempt = omega (arith, attempt, retry);
      needs = record {
        count = limited.needs;
        rises = s.rises;
        each = All-from_recursion (λ n. n < 2 ^ 32) t.needs (few_bits i t.needs (omega (arith, early)) s.needs);
      };
      state = state;
    }

pub valid_fields : (s : Parts) → IsValid s → NumbersFit s → AreFields s
valid_fields s v fits = record {
  unit = field-unit s.unit v.unit;
  count = v.threads.count;
  threads = all-at IsFieldThread s.threads (λ n t e.
      let h = v.threads.each n t e in
      thread-field s.unit v.unit t h.valid (at_place ThreadFits s.threads n t fits.threads e) h.counted.ids);
  tasks = record {
    count = v.tasks.count;
    each = all-at IsFieldTask s.tasks (λ n t e.
        let early : n < length s.tasks = slice_get_within s.tasks n t e in
        let few : length s.tasks ≤ MAX_TASKS = v.tasks.count in
        task_field (EndedBadly s.tasks) (length s.threads) (0 + n) t v.threads.count (omega (arith, early, few))
        (sound_from (EndedBadly s.tasks) 0 s.tasks n t v.tasks.sound e)
        (at_place (IsMade (length s.threads)) s.tasks n t v.makers e)
        (at_place (λ (x : Task). IsFieldState x.state) s.tasks n t fits.tasks e)
        (at_place IsLimited s.tasks n t (limited_tasks s.tasks v.tasks).each e));
  };
  rules = field_rules s.rules v.rules;
  path = v.path;
}
