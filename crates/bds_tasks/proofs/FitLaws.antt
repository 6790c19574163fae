-- Tasks of a file that are fit are those of a table, and those of a table are within the limits of a file.
use Rattle.std.proofs.Common.{◌≡◌, ℕ, ◌+◌, ◌<◌, ◌≤◌, Bool, true, false, ◌&&◌, nat_le, nat_lt, List, [], ◌∷◌, ◌++◌, length, Option, Some, None, refl, sym, ap, ◌∙◌, subst, arith, if◌then◌else◌}
use Rattle.std.proofs.lemmas.Bool.{false≢true, le-leb, leb-true, ltb-true}
use Rattle.std.proofs.lemmas.List.Elements.{All-from_recursion, recursion_from_All}
use Rattle.std.specs.List.{AllByRecursion, list_all}
use Rattle.std.specs.Option.{is_some, unwrap_or}
use Rattle.bds_value.specs.Fields.{RisesFrom}
use Rattle.bds_value.specs.declared.TheConstants.{MAX_CPUS, MAX_RETRY, MAX_TASKS}
use Rattle.bds_tasks.specs.declared.task.Task.{Task}
use Rattle.bds_tasks.specs.declared.task.TaskState.{TaskState}
use Rattle.bds_tasks.specs.declared.task.TaskState.TheVariants.{Waits, Runs, Ended, Cancelled}
use Rattle.bds_tasks.specs.Sound.{AreSound, AreTasks, EndedBadly, IsBlamed, IsSound, TellsUnfit, first_unfit, is_between, is_blamed, is_fit, unfit_from}
use Rattle.bds_tasks.specs.TaskFields.{AreFieldTasks, AreLimited, IsFieldTask, IsLimited}
use Rattle.bds_tasks.specs.Tasks.{is_bad, passes}

left : (a b : Bool) → a && b ≡ true → a ≡ true
left true b e = refl
left false b e = e

right : (a b : Bool) → a && b ≡ true → b ≡ true
right true b e = e
right false b e = elim (false≢true e) [ ]

between : (i n : ℕ) → is_between i n ≡ true → (1 ≤ n) × (n ≤ i)
between i n e = (leb-true 1 n (left (nat_le 1 n) (nat_le n i) e), leb-true n i (right (nat_le 1 n) (nat_le n i) e))

all_between : (i : ℕ) (ns : List ℕ) → list_all (is_between i) ns ≡ true → AllByRecursion (λ n. (1 ≤ n) × (n ≤ i)) ns
all_between i [] e = tt
all_between i (n ∷ ns) e = (between i n (left (is_between i n) (list_all (is_between i) ns) e), all_between i ns (right (is_between i n) (list_all (is_between i) ns) e))

blamed : (ts : List Task) (i : ℕ) (s : TaskState) → is_blamed ts i s ≡ true → IsBlamed (EndedBadly ts) i s
blamed ts i Waits e = tt
blamed ts i Runs e = tt
blamed ts i (Ended code) e = tt
blamed ts i (Cancelled n) e =
    let w = between i n (left (is_between i n) (passes is_bad ts n) e) in
    (w.0, w.1, right (is_between i n) (passes is_bad ts n) e)

pub fit_sound : (ts : List Task) (i : ℕ) (t : Task) → IsFieldTask t → is_fit ts i t ≡ true → IsSound (EndedBadly ts) i t
fit_sound ts i t f e =
    let e1 = right (nat_le 1 t.made.cpus) _ e in
    let e2 = right (nat_le t.made.cpus MAX_CPUS) _ e1 in
    let e3 = right (nat_le t.made.retry MAX_RETRY) _ e2 in
    let e4 = right (nat_le t.attempt t.made.retry) _ e3 in
    record {
      made = record {
        command = f.made.command;
        name = f.made.name;
        outs = f.made.outs;
        ins = f.made.ins;
        some_cpus = leb-true 1 t.made.cpus (left (nat_le 1 t.made.cpus) _ e);
        cpus = leb-true t.made.cpus MAX_CPUS (left (nat_le t.made.cpus MAX_CPUS) _ e1);
        retry = leb-true t.made.retry MAX_RETRY (left (nat_le t.made.retry MAX_RETRY) _ e2);
      };
      attempt = leb-true t.attempt t.made.retry (left (nat_le t.attempt t.made.retry) _ e3);
      rises = f.needs.rises;
      needs = all_between i t.needs (left (list_all (is_between i) t.needs) (is_blamed ts i t.state) e4);
      blamed = blamed ts i t.state (right (list_all (is_between i) t.needs) (is_blamed ts i t.state) e4);
    }

Some≢None : (n : ℕ) → ◌≡◌ {A = Option ℕ} (Some n) None → ⊥
Some≢None n e = false≢true (sym (ap is_some e))

fit_then : (b : Bool) (o : Option ℕ) (n : ℕ) → (if b then o else Some n) ≡ None → (b ≡ true) × (o ≡ None)
fit_then true o n e = (refl, e)
fit_then false o n e = elim (Some≢None n e) [ ]

all_sound : (all : List Task) (i : ℕ) (ts : List Task) → AllByRecursion IsFieldTask ts → unfit_from all i ts ≡ None → AreSound (EndedBadly all) i ts
all_sound all i [] f e = tt
all_sound all i (t ∷ ts) f e =
    let h = fit_then (is_fit all i t) (unfit_from all (i + 1) ts) (i + 1) e in
    (fit_sound all i t f.0 h.0, all_sound all (i + 1) ts f.1 h.1)

pub fit_tasks : (ts : List Task) → AreFieldTasks ts → first_unfit ts ≡ None → AreTasks ts
fit_tasks ts f e = record { count = f.count; sound = all_sound ts 0 ts (recursion_from_All IsFieldTask ts f.each) e }

-- a sound task is fit

both : (a b : Bool) → a ≡ true → b ≡ true → a && b ≡ true
both true b e f = f
both false b e f = e

is_between-all : (i : ℕ) (ns : List ℕ) → AllByRecursion (λ n. (1 ≤ n) × (n ≤ i)) ns → list_all (is_between i) ns ≡ true
is_between-all i [] a = refl
is_between-all i (n ∷ ns) a =
    both (is_between i n) (list_all (is_between i) ns)
    (both (nat_le 1 n) (nat_le n i) (le-leb 1 n a.0.0) (le-leb n i a.0.1))
    (is_between-all i ns a.1)

is_blamed-all : (ts : List Task) (i : ℕ) (s : TaskState) → IsBlamed (EndedBadly ts) i s → is_blamed ts i s ≡ true
is_blamed-all ts i Waits b = refl
is_blamed-all ts i Runs b = refl
is_blamed-all ts i (Ended code) b = refl
is_blamed-all ts i (Cancelled n) b =
    both (is_between i n) (passes is_bad ts n) (both (nat_le 1 n) (nat_le n i) (le-leb 1 n b.0) (le-leb n i b.1)) b.2

sound_fit : (ts : List Task) (i : ℕ) (t : Task) → IsSound (EndedBadly ts) i t → is_fit ts i t ≡ true
sound_fit ts i t s =
    both (nat_le 1 t.made.cpus) _ (le-leb 1 t.made.cpus s.made.some_cpus)
    (both (nat_le t.made.cpus MAX_CPUS) _ (le-leb t.made.cpus MAX_CPUS s.made.cpus)
    (both (nat_le t.made.retry MAX_RETRY) _ (le-leb t.made.retry MAX_RETRY s.made.retry)
    (both (nat_le t.attempt t.made.retry) _ (le-leb t.attempt t.made.retry s.attempt)
    (both (list_all (is_between i) t.needs) (is_blamed ts i t.state) (is_between-all i t.needs s.needs) (is_blamed-all ts i t.state s.blamed)))))

-- of tasks behind i others, the first that isn't sound
record UnfitFrom (all : List Task) (i : ℕ) (ts : List Task) (n : ℕ) : Type 0 where
  before : List Task
  task : Task
  behind : List Task
  split : ts ≡ before ++ task ∷ behind
  number : n ≡ i + length before + 1
  sound : AreSound (EndedBadly all) i before
  unsound : IsSound (EndedBadly all) (i + length before) task → ⊥

Some-same : (m n : ℕ) → ◌≡◌ {A = Option ℕ} (Some m) (Some n) → m ≡ n
Some-same m n e = ap (λ o. unwrap_or o m) e

unfit_first : (all : List Task) (i : ℕ) (ts : List Task) (n : ℕ) → AllByRecursion IsFieldTask ts → unfit_from all i ts ≡ Some n → UnfitFrom all i ts n
unfit_first all i [] n a e = elim (Some≢None n (sym e)) [ ]
unfit_first all i (t ∷ ts) n a e = go (is_fit all i t) refl (λ d. unfit_first all (i + 1) ts n a.1 d) e
  where
    go : (b : Bool) → is_fit all i t ≡ b → (unfit_from all (i + 1) ts ≡ Some n → UnfitFrom all (i + 1) ts n) → (if b then unfit_from all (i + 1) ts else Some (i + 1)) ≡ Some n → UnfitFrom all i (t ∷ ts) n
    go true f more d =
        let r = more d in
        let place : i + length (t ∷ r.before) ≡ i + 1 + length r.before = omega arith in
        record {
          before = t ∷ r.before;
          task = r.task;
          behind = r.behind;
          split = ap (λ l. t ∷ l) r.split;
          number = omega (arith, r.number);
          sound = (fit_sound all i t a.0 f, r.sound);
          unsound = λ s. r.unsound (subst (λ j. IsSound (EndedBadly all) j r.task) place s);
        }
    go false f more d =
        let place : i + length {A = Task} [] ≡ i = omega arith in
        let told : i + 1 ≡ n = Some-same (i + 1) n d in
        record {
          before = [];
          task = t;
          behind = ts;
          split = refl;
          number = omega (arith, told);
          sound = tt;
          unsound = λ s. false≢true (sym f ∙ sound_fit all i t (subst (λ j. IsSound (EndedBadly all) j t) place s));
        }

pub unfit_told : (ts : List Task) → AreFieldTasks ts → TellsUnfit ts
unfit_told ts f = record {
  none = λ e. fit_tasks ts f e;
  first = λ n e.
      let r = unfit_first ts 0 ts n (recursion_from_All IsFieldTask ts f.each) e in
      let place : 0 + length r.before ≡ length r.before = omega arith in
      record {
        before = r.before;
        task = r.task;
        behind = r.behind;
        split = r.split;
        number = omega (arith, r.number);
        sound = r.sound;
        unsound = λ s. r.unsound (subst (λ j. IsSound (EndedBadly ts) j r.task) (sym place) s);
      };
}

rising_few : (i last : ℕ) (ns : List ℕ) → RisesFrom nat_lt (λ (n : ℕ). n) (Some last) ns → AllByRecursion (λ n. (1 ≤ n) × (n ≤ i)) ns → last ≤ i → last + length ns ≤ i
rising_few i last [] r a l = omega arith
rising_few i last (n ∷ ns) r a l =
    let h : last < n = ltb-true last n r.0 in
    let more : n + length ns ≤ i = rising_few i n ns r.1 a.1 a.0.1 in
    omega arith

few : (i : ℕ) (ns : List ℕ) → RisesFrom nat_lt (λ (n : ℕ). n) None ns → AllByRecursion (λ n. (1 ≤ n) × (n ≤ i)) ns → length ns ≤ i
few i [] r a = omega arith
few i (n ∷ ns) r a =
    let h : 1 ≤ n = a.0.0 in
    let more : n + length ns ≤ i = rising_few i n ns r.1 a.1 a.0.1 in
    omega arith

all_limited : (P : ℕ → Type 0) (i : ℕ) (ts : List Task) → i + length ts ≤ MAX_TASKS → AreSound P i ts → AllByRecursion IsLimited ts
all_limited P i [] l a = tt
all_limited P i (t ∷ ts) l a =
    let s = few i t.needs a.0.rises a.0.needs in (
      record { command = a.0.made.command; name = a.0.made.name; outs = a.0.made.outs; ins = a.0.made.ins; needs = omega arith },
      all_limited P (i + 1) ts (omega arith) a.1,
    )

pub limited_tasks : (ts : List Task) → AreTasks ts → AreLimited ts
limited_tasks ts a = record { count = a.count; each = All-from_recursion IsLimited ts (all_limited (EndedBadly ts) 0 ts (let h = a.count in omega arith) a.sound) }
