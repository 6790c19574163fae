-- Tasks and rules that are added: what is said of the tables, and that the state stays valid.
use Rattle.std.proofs.Common.{◌≡◌, ℕ, ◌+◌, ◌<◌, ◌≤◌, List, [], ◌∷◌, ◌++◌, length, get_or, take, Some, Result, Ok, Err, sym, ap, ◌∙◌, subst, arith, length-append}
use Rattle.std.specs.Prelude.{unwrap_or}
use Rattle.std.proofs.lemmas.List.{length-take-le, take_more}
use Rattle.std.proofs.lemmas.List.Sums.{fold-append}
use Rattle.bds_value.specs.declared.TheConstants.{MAX_TASKS}
use Rattle.bds_code_frames.specs.declared.thread.Thread.{Thread}
use Rattle.bds_rules.specs.declared.rule.Rule.{Rule}
use Rattle.bds_rules.specs.declared.rule.RuleFault.{RuleFault}
use Rattle.bds_rules.specs.declared.rule.RuleFault.TheVariants as rule_fault
use Rattle.bds_rules.specs.Makers.{made_already}
use Rattle.bds_rules.specs.Makers as makers
use Rattle.bds_rules.specs.Own.{Declares}
use Rattle.bds_rules.specs.Own as rules
use Rattle.bds_tasks.specs.declared.task.AddFault.{AddFault}
use Rattle.bds_tasks.specs.declared.task.AddFault.TheVariants as add_fault
use Rattle.bds_tasks.specs.declared.task.Task.{Task}
use Rattle.bds_tasks.specs.declared.task.TaskNew.{TaskNew}
use Rattle.bds_tasks.specs.Sound.{Adds}
use Rattle.bds_tasks.specs.Sound as tasks
use Rattle.bds_tasks.specs.Tasks.{added}
use Rattle.bds_goal.specs.Needs.{no_rule, rule_at}
use Rattle.bds_schedule.specs.Ids.{task_id}
use Rattle.bds_schedule.specs.Turns.{ids_from, made_in, task_of_rule}
use Rattle.bds_state.specs.Parts.{Parts, with_rules, with_tasks}
use Rattle.bds_state.specs.Valid.{IsValid}
use Rattle.bds_state.specs.Held.{AreHeld}
use Rattle.bds_state.proofs.HeldLaws.{added_keeps, tasks_kept}
use Rattle.bds_state.proofs.Kept.{rule_declared, task_added}
use Rattle.bds_engine.specs.Given.{AddsRule, AddsTask, with_planned}

-- Validity

pub keeps_tasks : (s : Parts) → IsValid s → (new : TaskNew) (ts : List Task) (r : Result ℕ AddFault) → tasks.IsLegal new → new.maker < length s.threads → Adds new s.tasks ts r → IsValid (with_tasks ts s)
keeps_tasks s v new ts (Ok n) legal maker h = subst (λ x. IsValid (with_tasks x s)) (sym h.1) (task_added s v new h.0 legal maker)
keeps_tasks s v new ts (Err (add_fault.TooMany n)) legal maker h = subst (λ x. IsValid (with_tasks x s)) (sym h.2) v
keeps_tasks s v new ts (Err add_fault.NoMemory) legal maker h = subst (λ x. IsValid (with_tasks x s)) (sym h.1) v

pub keeps_held : (threads : List Thread) (tasks : List Task) (held : List ℕ) → AreHeld threads tasks held
    → (new : TaskNew) (ts : List Task) (r : Result ℕ AddFault) → Adds new tasks ts r → AreHeld threads ts held
keeps_held threads tasks held are new ts (Ok n) h =
    subst (λ x. AreHeld threads x held) (sym h.1)
    (tasks_kept threads tasks (added tasks new) held (added_keeps tasks new) are)
keeps_held threads tasks held are new ts (Err (add_fault.TooMany n)) h =
    subst (λ x. AreHeld threads x held) (sym h.2) are
keeps_held threads tasks held are new ts (Err add_fault.NoMemory) h =
    subst (λ x. AreHeld threads x held) (sym h.1) are

pub adds_task : (s : Parts) (new : TaskNew) (ts : List Task) (r : Result ℕ AddFault) → Adds new s.tasks ts r → AddsTask new s (with_tasks ts s) r
adds_task s new ts (Ok n) h = (h.0, ap (λ x. with_tasks x s) h.1, h.2)
adds_task s new ts (Err (add_fault.TooMany n)) h = (h.0, ap (λ x. with_tasks x s) h.2)
adds_task s new ts (Err add_fault.NoMemory) h = (h.0, ap (λ x. with_tasks x s) h.1)

pub keeps_rules : (s : Parts) → IsValid s → (rule : Rule) (rs : List Rule) (r : Result ℕ RuleFault) → rules.IsLegal rule → Declares rule s.rules rs r → IsValid (with_rules rs s)
keeps_rules s v rule rs (Ok n) legal h = subst (λ x. IsValid (with_rules x s)) (sym h.2) (rule_declared s v rule h.1 h.0 legal)
keeps_rules s v rule rs (Err (rule_fault.TwoRules file n)) legal h = subst (λ x. IsValid (with_rules x s)) (sym h.1) v
keeps_rules s v rule rs (Err (rule_fault.TooMany n)) legal h = subst (λ x. IsValid (with_rules x s)) (sym h.3) v
keeps_rules s v rule rs (Err rule_fault.NoMemory) legal h = subst (λ x. IsValid (with_rules x s)) (sym h.1) v

pub adds_rule : (s : Parts) (rule : Rule) (rs : List Rule) (r : Result ℕ RuleFault) → Declares rule s.rules rs r → AddsRule rule s (with_rules rs s) r
adds_rule s rule rs (Ok n) h = (h.0, h.1, ap (λ x. with_rules x s) h.2)
adds_rule s rule rs (Err (rule_fault.TwoRules file n)) h = (h.0, ap (λ x. with_rules x s) h.1)
adds_rule s rule rs (Err (rule_fault.TooMany n)) h = (h.0, h.1, ap (λ x. with_rules x s) h.3)
adds_rule s rule rs (Err rule_fault.NoMemory) h = ap (λ x. with_rules x s) h.1

-- What tasks are made of

pub legal_made : (k : ℕ) (new : TaskNew) → tasks.IsLegal new → tasks.IsLegal (made_in k new)
legal_made k new h = record { command = h.command; name = h.name; outs = h.outs; ins = h.ins; some_cpus = h.some_cpus; cpus = h.cpus; retry = h.retry }

pub legal_rule : (k : ℕ) (r : Rule) → rules.IsLegal r → tasks.IsLegal (task_of_rule k r)
legal_rule k r h = record { command = h.command; name = h.name; outs = h.outs; ins = h.ins; some_cpus = h.some_cpus; cpus = h.cpus; retry = h.retry }

pub rule_found : (rs : List Rule) (n : ℕ) (r : Rule) → makers.rule_at rs n ≡ Some r → rule_at rs n ≡ r
rule_found rs n r e = ap (λ o. unwrap_or o no_rule) e

-- Plans

pub planned_push : (k : ℕ) (rs : List Rule) (ts : List Task) (ns : List ℕ) (n : ℕ) → with_planned k rs ts (ns ++ n ∷ []) ≡ added (with_planned k rs ts ns) (task_of_rule k (rule_at rs n))
planned_push k rs ts ns n = fold-append (λ (xs : List Task) (i : ℕ). added xs (task_of_rule k (rule_at rs i))) ts ns (n ∷ [])

added_count : (ts : List Task) (new : TaskNew) → length (added ts new) ≡ length ts + 1
added_count ts new = length-append ts _

pub planned_count : (k : ℕ) (rs : List Rule) (ts : List Task) (ns : List ℕ) → length (with_planned k rs ts ns) ≡ length ts + length ns
planned_count k rs ts [] = omega arith
planned_count k rs ts (n ∷ ns) =
    let long : length (n ∷ ns) ≡ length ns + 1 = omega arith in
    let rest : length (with_planned k rs (added ts (task_of_rule k (rule_at rs n))) ns) ≡ length (added ts (task_of_rule k (rule_at rs n))) + length ns = planned_count k rs (added ts (task_of_rule k (rule_at rs n))) ns in
    let one : length (added ts (task_of_rule k (rule_at rs n))) ≡ length ts + 1 = added_count ts (task_of_rule k (rule_at rs n)) in
    rest ∙ omega (arith, long, one)

pub ids_push : (i : ℕ) (ns : List ℕ) (n : ℕ) → ids_from i (ns ++ n ∷ []) ≡ ids_from i ns ++ task_id (i + length ns) ∷ []
ids_push i [] n = let e : i ≡ i + 0 = omega arith in ap (λ x. task_id x ∷ []) e
ids_push i (m ∷ ns) n =
    let long : length (m ∷ ns) ≡ length ns + 1 = omega arith in
    let e : i + 1 + length ns ≡ i + length (m ∷ ns) = omega (arith, long) in
    ap (λ xs. task_id i ∷ xs) (ids_push (i + 1) ns n) ∙ ap (λ x. task_id i ∷ (ids_from (i + 1) ns ++ task_id x ∷ [])) e

-- a plan of which the first rules have become tasks
module _ (s now : Parts) (k i : ℕ) (ns : List ℕ) (e : now ≡ with_tasks (with_planned k s.rules s.tasks (take i ns)) s) (low : i < length ns) where
  count_now : length now.tasks ≡ length s.tasks + i
  count_now =
      ap (λ (x : Parts). length x.tasks) e ∙ planned_count k s.rules s.tasks (take i ns)
      ∙ ap (λ n. length s.tasks + n) (length-take-le i ns (omega (arith, low)))

  pub plan_room : length s.tasks + length ns ≤ MAX_TASKS → length now.tasks < MAX_TASKS
  plan_room room = let c = count_now in omega (arith, c, low, room)

  pub plan_step : (new : Parts) → new ≡ with_tasks (added now.tasks (task_of_rule k (rule_at now.rules (get_or ns i 0)))) now → new ≡ with_tasks (with_planned k s.rules s.tasks (take (i + 1) ns)) s
  plan_step new f =
      f
      ∙ ap (λ (x : Parts). with_tasks (added x.tasks (task_of_rule k (rule_at x.rules (get_or ns i 0)))) x) e
      ∙ ap (λ ts. with_tasks ts s) (sym (planned_push k s.rules s.tasks (take i ns) (get_or ns i 0)))
      ∙ ap (λ xs. with_tasks (with_planned k s.rules s.tasks xs) s) (sym (take_more ns i 0 low))

  pub ids_step : (ids : List (List ℕ)) (id : List ℕ) → ids ≡ ids_from (length s.tasks + 1) (take i ns) → id ≡ task_id (length now.tasks + 1) → ids ++ id ∷ [] ≡ ids_from (length s.tasks + 1) (take (i + 1) ns)
  ids_step ids id f h =
      let taken : length (take i ns) ≡ i = length-take-le i ns (omega (arith, low)) in
      let same : length now.tasks + 1 ≡ length s.tasks + 1 + length (take i ns) = let c = count_now in omega (arith, c, taken) in
      ap (λ xs. xs ++ id ∷ []) f
      ∙ ap (λ x. ids_from (length s.tasks + 1) (take i ns) ++ x ∷ []) (h ∙ ap task_id same)
      ∙ sym (ids_push (length s.tasks + 1) (take i ns) (get_or ns i 0))
      ∙ ap (ids_from (length s.tasks + 1)) (sym (take_more ns i 0 low))
