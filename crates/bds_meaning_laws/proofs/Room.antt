-- The running tasks take no more processors than there are, and none runs behind the end.
use Rattle.std.proofs.Common.{◌≡◌, ◌∙◌, ℕ, zero, suc, ◌+◌, ◌≤◌, Bool, true, false, ◌&&◌, List, [], ◌∷◌, ◌++◌, map, Some, sym, ap, refl, subst, arith, ◌⊎◌, inl, inr, if◌then◌else◌}
use Rattle.std.specs.Prelude.{slice_get, slice_set, sum_by, nat_le}
use Rattle.std.specs.List.{AllByRecursion, list_all}
use Rattle.std.proofs.lemmas.Bool.{and_parts, false≢true, leb-true}
use Rattle.std.proofs.lemmas.List.Sums.{sum_by-cons, sum_by-append}
use Rattle.bds_host.specs.declared.asks.Ask.{Ask}
use Rattle.bds_host.specs.declared.asks.Reply.{Reply}
use Rattle.bds_host.specs.declared.asks.Reply.TheVariants.{Done}
use Rattle.bds_host.specs.Host.{is_fault}
use Rattle.bds_tasks.specs.declared.task.Task.{Task}
use Rattle.bds_tasks.specs.declared.task.TaskState.{TaskState}
use Rattle.bds_tasks.specs.declared.task.TaskState.TheVariants.{Waits, Runs, Ended, Cancelled}
use Rattle.bds_tasks.specs.Ends.{ended, ended_task}
use Rattle.bds_tasks.specs.Starts.{in_use, may_start, started, startable, taken}
use Rattle.bds_tasks.specs.Tasks.{in_state, is_good, is_well, passes, revived_task, running, runs, waits, with_task}
use Rattle.bds_meaning.specs.History.{History, Lives}
use Rattle.bds_meaning.specs.Run.{Program, Conf}
use Rattle.bds_schedule.specs.Steps.{Goes, Asks}
use Rattle.bds_meaning_laws.specs.Histories.{InEachHistory, NoneRunsAtEnd, TasksHaveRoom}
use Rattle.bds_meaning_laws.proofs.Changes.{At, Each, Stays, each_ended, ended_idle, has_first, none_some, number_at, some_same, with_is}
use Rattle.bds_meaning_laws.proofs.Steps.{AreMore, Begins, EndsOne, Follows, IsLast, IsQuiet, Rests, keeps_source}

-- Where a history leads

module _ (program : Program) (opening : Conf) (none : opening.tasks ≡ []) where
  pub quiet : (c : Conf) (h : History) → Lives program opening h c → IsQuiet c
  quiet _ _ Lives.opens = λ last. ap running none
  quiet _ _ (Lives.goes h c d lives moves) = (keeps_source program c (Goes d) (quiet c h lives) moves).quiet
  quiet _ _ (Lives.asks h c ask next reply lives moves answered) = (keeps_source program c (Asks ask next) (quiet c h lives) moves reply answered.fitting).quiet
  quiet _ _ (Lives.restarts h c path image next cpus budget lives moves) = λ last. absurd last

pub none_runs : InEachHistory (λ h c. NoneRunsAtEnd c)
none_runs program first c h opens lives status is = quiet program first opens.tasks c h lives (subst IsLast (sym is) tt)

-- What tasks take

abbrev use_of : ℕ → Task → ℕ
use_of cpus t = if runs t.state then taken cpus t else 0

idle_use : (cpus : ℕ) (t : Task) → runs t.state ≡ false → use_of cpus t ≡ 0
idle_use cpus t idle = ap (λ b. if b then taken cpus t else 0) idle

pub waits_idle : (s : TaskState) → waits s ≡ true → runs s ≡ false
waits_idle Waits h = refl
waits_idle Runs h = absurd (false≢true h)
waits_idle (Ended code) h = refl
waits_idle (Cancelled n) h = refl

pub well_idle : (can_fail : Bool) (s : TaskState) → is_well can_fail s ≡ true → runs s ≡ false
well_idle can_fail Waits h = refl
well_idle can_fail Runs h = absurd (false≢true h)
well_idle can_fail (Ended code) h = refl
well_idle can_fail (Cancelled n) h = refl

set_use : (f : Task → ℕ) (ts : List Task) (i : ℕ) (t x : Task) → slice_get ts i ≡ Some t → sum_by f (slice_set ts i x) + f t ≡ sum_by f ts + f x
set_use f [] i t x is = absurd (none_some t is)
set_use f (y ∷ ys) zero t x is =
    let a = sum_by-cons f x ys in
    let b = sum_by-cons f y ys in
    let e : f y ≡ f t = ap f (some_same y t is) in omega arith
set_use f (y ∷ ys) (suc i) t x is =
    let a = sum_by-cons f y (slice_set ys i x) in
    let b = sum_by-cons f y ys in
    let more = set_use f ys i t x is in omega arith

idle_uses : (cpus : ℕ) (ts : List Task) → AllByRecursion (λ t. waits t.state ≡ true) ts → in_use cpus ts ≡ 0
idle_uses cpus [] are = refl
idle_uses cpus (t ∷ ts) are =
    let a = sum_by-cons (use_of cpus) t ts in
    let e : use_of cpus t ≡ 0 = idle_use cpus t (waits_idle t.state are.0) in
    let more : in_use cpus ts ≡ 0 = idle_uses cpus ts are.1 in omega arith

more_uses : (cpus : ℕ) (ts us : List Task) → AreMore ts us → in_use cpus us ≡ in_use cpus ts
more_uses cpus ts us m =
    let a = sum_by-append (use_of cpus) ts m.more in
    let e : in_use cpus m.more ≡ 0 = idle_uses cpus m.more m.each in
    let is : in_use cpus us ≡ in_use cpus (ts ++ m.more) = ap (in_use cpus) m.are in omega arith

revived_use : (cpus : ℕ) (t : Task) → use_of cpus (revived_task t) ≡ 0
revived_use cpus t = go (is_good t) refl
  where
    go : (b : Bool) → is_good t ≡ b → use_of cpus (if b then t else record { made = t.made; needs = t.needs; attempt = t.attempt; state = Waits }) ≡ 0
    go true good = idle_use cpus t (well_idle t.made.can_fail t.state good)
    go false bad = refl

revived_uses : (cpus : ℕ) (ts : List Task) → in_use cpus (map revived_task ts) ≡ 0
revived_uses cpus [] = refl
revived_uses cpus (t ∷ ts) =
    let a = sum_by-cons (use_of cpus) (revived_task t) (map revived_task ts) in
    let e = revived_use cpus t in
    let more = revived_uses cpus ts in omega arith

stays_use : (cpus n : ℕ) (t u : Task) → Stays n t u → use_of cpus u ≤ use_of cpus t
stays_use cpus n t u (inl is) = let e : use_of cpus u ≡ use_of cpus t = ap (use_of cpus) is in omega arith
stays_use cpus n t u (inr lost) = let e : use_of cpus u ≡ 0 = ap (use_of cpus) lost.1 in omega arith

stays_uses : (cpus n : ℕ) (ts us : List Task) → Each (Stays n) ts us → in_use cpus us ≤ in_use cpus ts
stays_uses cpus n [] [] are = omega arith
stays_uses cpus n [] (u ∷ us) are = absurd are
stays_uses cpus n (t ∷ ts) [] are = absurd are
stays_uses cpus n (t ∷ ts) (u ∷ us) are =
    let a = sum_by-cons (use_of cpus) t ts in
    let b = sum_by-cons (use_of cpus) u us in
    let e = stays_use cpus n t u are.0 in
    let more = stays_uses cpus n ts us are.1 in omega arith

ended_uses : (cpus n code : ℕ) (ts : List Task) → At 1 (λ t. runs t.state) ts n → in_use cpus (ended n code ts) ≤ in_use cpus ts
ended_uses cpus n code ts a =
    let number : n ≡ suc a.place = let e = a.number in omega arith in
    let x : Task = ended_task code a.task in
    let set : in_use cpus (with_task (ended_task code) n ts) ≡ in_use cpus (slice_set ts a.place x) =
    ap (λ m. in_use cpus (with_task (ended_task code) m ts)) number ∙ ap (in_use cpus) (with_is (ended_task code) ts a.place a.task a.there) in
    let is = set_use (use_of cpus) ts a.place a.task x a.there in
    let idle : use_of cpus x ≡ 0 = idle_use cpus x (ended_idle code a.task) in
    let less = stays_uses cpus n (with_task (ended_task code) n ts) (ended n code ts) (each_ended n code ts) in omega arith

started_uses : (cpus n : ℕ) (ts : List Task) → startable cpus ts ≡ Some n → in_use cpus (started n ts) ≤ cpus
started_uses cpus n ts next =
    let a = number_at 1 n (may_start cpus ts) ts (has_first _ n next) in
    let t : Task = a.task in
    let number : n ≡ suc a.place = let e = a.number in omega arith in
    let set : in_use cpus (started n ts) ≡ in_use cpus (slice_set ts a.place (in_state Runs t)) =
    ap (λ m. in_use cpus (started m ts)) number ∙ ap (in_use cpus) (with_is (in_state Runs) ts a.place t a.there) in
    let is = set_use (use_of cpus) ts a.place t (in_state Runs t) a.there in
    let idle : use_of cpus t ≡ 0 = idle_use cpus t (waits_idle t.state ((and_parts (waits t.state) _ a.passed).0)) in
    let may : (list_all (passes is_good ts) t.needs && nat_le (taken cpus t + in_use cpus ts) cpus) ≡ true = (and_parts (waits t.state) _ a.passed).1 in
    let room : taken cpus t + in_use cpus ts ≤ cpus = leb-true _ _ ((and_parts (list_all (passes is_good ts) t.needs) _ may).1) in
    let new : use_of cpus (in_state Runs t) ≡ taken cpus t = refl in omega arith

-- Where a history leads

abbrev HasRoom : ℕ → List Task → Type 0
HasRoom cpus ts = in_use cpus ts ≤ cpus

room_as : (c d : Conf) → d.cpus ≡ c.cpus → HasRoom c.cpus d.tasks → TasksHaveRoom d
room_as c d same room = subst (λ n. HasRoom n d.tasks) (sym same) room

room_behind : (c d : Conf) (a : Ask) (r : Reply) → Follows c a r d → TasksHaveRoom c → TasksHaveRoom d
room_behind c d a r f room = room_as c d f.cpus (go f.effect)
  where
    same : d.tasks ≡ c.tasks → HasRoom c.cpus d.tasks
    same is = subst (HasRoom c.cpus) (sym is) room

    go : Begins c a r d ⊎ (EndsOne c a r d ⊎ Rests c a r d) → HasRoom c.cpus d.tasks
    go (inl b) = begun b.behind
      where
        begun : ((is_fault r ≡ true) × (d.tasks ≡ c.tasks)) ⊎ ((is_fault r ≡ false) × (d.tasks ≡ started b.number c.tasks)) → HasRoom c.cpus d.tasks
        begun (inl is) = same is.1
        begun (inr is) = subst (HasRoom c.cpus) (sym is.1) (started_uses c.cpus b.number c.tasks b.next)
    go (inr (inl e)) =
        let less : in_use c.cpus (ended e.number e.code c.tasks) ≤ in_use c.cpus c.tasks = ended_uses c.cpus e.number e.code c.tasks (number_at 1 e.number _ c.tasks e.there) in
        subst (HasRoom c.cpus) (sym e.behind) (omega arith)
    go (inr (inr s)) = same s.behind

module _ (program : Program) (opening : Conf) (none : opening.tasks ≡ []) where
  room : (c : Conf) (h : History) → Lives program opening h c → TasksHaveRoom c
  room _ _ Lives.opens = let e : in_use opening.cpus opening.tasks ≡ 0 = ap (in_use opening.cpus) none in omega arith
  room _ _ (Lives.goes h c d lives moves) =
      let k = keeps_source program c (Goes d) (quiet program opening none c h lives) moves in
      let e = more_uses c.cpus c.tasks d.tasks k.tasks in
      let before : in_use c.cpus c.tasks ≤ c.cpus = room c h lives in
      room_as c d k.cpus (omega arith)
  room _ _ (Lives.asks h c ask next reply lives moves answered) =
      room_behind c (next reply) ask reply (keeps_source program c (Asks ask next) (quiet program opening none c h lives) moves reply answered.fitting) (room c h lives)
  room _ _ (Lives.restarts h c path image next cpus budget lives moves) = let e = revived_uses cpus (next Done).tasks in omega arith

pub tasks_have_room : InEachHistory (λ h c. TasksHaveRoom c)
tasks_have_room program first c h opens lives = room program first opens.tasks c h lives
