-- A history tells which tasks run, and how many processors there are.
use Rattle.std.proofs.Common.{◌≡◌, ◌∙◌, ℕ, zero, suc, ◌≤◌, Bool, true, false, not, ◌&&◌, ◌||◌, List, [], ◌∷◌, ◌++◌, map, Option, Some, sym, ap, refl, subst, arith, append_assoc, ◌⊎◌, inl, inr, if◌then◌else◌}
use Rattle.std.specs.Prelude.{slice_get, slice_set, nat_eq}
use Rattle.std.specs.List.{AllByRecursion}
use Rattle.std.specs.Option.{option_map, unwrap_or}
use Rattle.std.proofs.lemmas.Bool.{and_right, eq-eqb, eqb-true, false≢true}
use Rattle.bds_host.specs.declared.asks.Ask.{Ask}
use Rattle.bds_host.specs.declared.asks.Ask.TheVariants as ask
use Rattle.bds_host.specs.declared.asks.Reply.{Reply}
use Rattle.bds_host.specs.declared.asks.Reply.TheVariants as reply
use Rattle.bds_host.specs.Asks.{fits}
use Rattle.bds_host.specs.Host.{is_fault}
use Rattle.bds_tasks.specs.declared.task.Task.{Task}
use Rattle.bds_tasks.specs.declared.task.TaskState.TheVariants.{Waits, Runs}
use Rattle.bds_tasks.specs.Ends.{ended, ended_task}
use Rattle.bds_tasks.specs.Starts.{may_start, started}
use Rattle.bds_tasks.specs.Tasks.{in_state, is_good, passes, revived_task, running, runs, waits}
use Rattle.bds_meaning.specs.History.{Event, pair, restart, History, Lives}
use Rattle.bds_meaning.specs.Run.{Program, Conf}
use Rattle.bds_schedule.specs.Steps.{Goes, Asks}
use Rattle.bds_meaning_laws.specs.Events.{cpus_behind, cpus_in, is_end, is_start, is_started, runs_behind, runs_in}
use Rattle.bds_meaning_laws.specs.Histories.{HistoriesTell}
use Rattle.bds_meaning_laws.proofs.Changes.{At, Each, Stays, at_number, each_ended, ended_idle, has_first, number_at, other_place, set_here, with_is}
use Rattle.bds_meaning_laws.proofs.Room.{quiet, waits_idle, well_idle}
use Rattle.bds_meaning_laws.proofs.Steps.{Begins, EndsOne, Follows, Rests, keeps_source}
use Rattle.bds_meaning_laws.proofs.Told.{fold_end}

-- whether the task at a place runs
abbrev runs_at : List Task → ℕ → Bool
runs_at ts i = unwrap_or (option_map (λ (t : Task). runs t.state) (slice_get ts i)) false

abbrev Tells : List Task → History → Type 0
Tells ts h = (i : ℕ) → runs_at ts i ≡ runs_in (suc i) h

-- Lists

none_runs : (ts : List Task) (i : ℕ) → AllByRecursion (λ t. waits t.state ≡ true) ts → runs_at ts i ≡ false
none_runs [] i are = refl
none_runs (t ∷ ts) zero are = waits_idle t.state are.0
none_runs (t ∷ ts) (suc i) are = none_runs ts i are.1

more_runs : (ts us : List Task) (i : ℕ) → AllByRecursion (λ t. waits t.state ≡ true) us → runs_at (ts ++ us) i ≡ runs_at ts i
more_runs [] us i are = none_runs us i are
more_runs (t ∷ ts) us zero are = refl
more_runs (t ∷ ts) us (suc i) are = more_runs ts us i are

set_other : (ts : List Task) (i j : ℕ) (x : Task) → (j ≡ i → ⊥) → runs_at (slice_set ts i x) j ≡ runs_at ts j
set_other [] i j x differ = refl
set_other (t ∷ ts) zero zero x differ = absurd (differ refl)
set_other (t ∷ ts) zero (suc j) x differ = refl
set_other (t ∷ ts) (suc i) zero x differ = refl
set_other (t ∷ ts) (suc i) (suc j) x differ = set_other ts i j x (λ e. differ (ap (λ n. suc n) e))

set_runs : (ts : List Task) (i j : ℕ) (t x : Task) → slice_get ts i ≡ Some t → j ≡ i → runs_at (slice_set ts i x) j ≡ runs x.state
set_runs ts i j t x there same = ap (runs_at (slice_set ts i x)) same ∙ ap (λ (o : Option Task). unwrap_or (option_map (λ (t : Task). runs t.state) o) false) (set_here ts i x t there)

stays_runs : (n : ℕ) (ts us : List Task) (i : ℕ) → Each (Stays n) ts us → runs_at us i ≡ runs_at ts i
stays_runs n [] [] i are = refl
stays_runs n [] (u ∷ us) i are = absurd are
stays_runs n (t ∷ ts) [] i are = absurd are
stays_runs n (t ∷ ts) (u ∷ us) zero are = go are.0
  where
    go : Stays n t u → runs u.state ≡ runs t.state
    go (inl same) = ap (λ (x : Task). runs x.state) same
    go (inr lost) = ap (λ (x : Task). runs x.state) lost.1 ∙ sym (waits_idle t.state lost.0)
stays_runs n (t ∷ ts) (u ∷ us) (suc i) are = stays_runs n ts us i are.1

revived_runs : (ts : List Task) (i : ℕ) → runs_at (map revived_task ts) i ≡ false
revived_runs [] i = refl
revived_runs (t ∷ ts) zero = go (is_good t) refl
  where
    go : (b : Bool) → is_good t ≡ b → runs (if b then t else record { made = t.made; needs = t.needs; attempt = t.attempt; state = Waits }).state ≡ false
    go true good = well_idle t.made.can_fail t.state good
    go false bad = refl
revived_runs (t ∷ ts) (suc i) = revived_runs ts i

-- Events

tells_end : (n : ℕ) (h : History) (e : Event) → runs_in n (h ++ e ∷ []) ≡ runs_behind n (runs_in n h) e
tells_end n h e = fold_end (runs_behind n) false h e

stays_so : (starts ends before : Bool) → starts ≡ false → ends ≡ false → (starts || (before && not ends)) ≡ before
stays_so true ends before no_start no_end = absurd (false≢true (sym no_start))
stays_so false true before no_start no_end = absurd (false≢true (sym no_end))
stays_so false false true no_start no_end = refl
stays_so false false false no_start no_end = refl

fault_only : (r : Reply) → is_fault r ≡ true → is_started r ≡ false
fault_only (reply.Bytes text) is = refl
fault_only reply.Missing is = refl
fault_only (reply.Stamp there size time) is = refl
fault_only reply.Done is = refl
fault_only (reply.SysDone code out) is = refl
fault_only reply.Started is = absurd (false≢true is)
fault_only (reply.Run k) is = refl
fault_only (reply.Ended n code) is = refl
fault_only reply.Fault is = refl
fault_only reply.NoRoom is = refl

started_only : (n attempt : ℕ) (command : List ℕ) (r : Reply) → fits (ask.Start n attempt command) r ≡ true → is_fault r ≡ false → (r ≡ reply.NoRoom → ⊥) → is_started r ≡ true
started_only n attempt command (reply.Bytes text) fit no_fault room = absurd (false≢true fit)
started_only n attempt command reply.Missing fit no_fault room = absurd (false≢true fit)
started_only n attempt command (reply.Stamp there size time) fit no_fault room = absurd (false≢true fit)
started_only n attempt command reply.Done fit no_fault room = absurd (false≢true fit)
started_only n attempt command (reply.SysDone code out) fit no_fault room = absurd (false≢true fit)
started_only n attempt command reply.Started fit no_fault room = refl
started_only n attempt command (reply.Run k) fit no_fault room = absurd (false≢true fit)
started_only n attempt command (reply.Ended m code) fit no_fault room = absurd (false≢true fit)
started_only n attempt command reply.Fault fit no_fault room = absurd (false≢true (sym no_fault))
started_only n attempt command reply.NoRoom fit no_fault room = absurd (room refl)

place_is : (i j : ℕ) → (j ≡ i) ⊎ (j ≡ i → ⊥)
place_is i j = go (nat_eq j i) refl
  where
    go : (b : Bool) → nat_eq j i ≡ b → (j ≡ i) ⊎ (j ≡ i → ⊥)
    go true is = inl (eqb-true j i is)
    go false is = inr (λ same. false≢true (sym is ∙ eq-eqb j i same))

-- Steps

module _ (ts : List Task) (h : History) (i : ℕ) (t : Task) (there : slice_get ts i ≡ Some t) (told : Tells ts h) where
  tells_started : (attempt : ℕ) (command : List ℕ) (r : Reply) → is_started r ≡ true → ((n : ℕ) → is_end n r ≡ false) → Tells (slice_set ts i (in_state Runs t)) (h ++ pair (ask.Start (suc i) attempt command) r ∷ [])
  tells_started attempt command r answered none j = go (place_is i j) ∙ sym (tells_end (suc j) h _)
    where
      go : (j ≡ i) ⊎ (j ≡ i → ⊥) → runs_at (slice_set ts i (in_state Runs t)) j ≡ runs_behind (suc j) (runs_in (suc j) h) (pair (ask.Start (suc i) attempt command) r)
      go (inl same) =
          set_runs ts i j t (in_state Runs t) there same
          ∙ sym (ap (λ b. (b && is_started r) || (runs_in (suc j) h && not (is_end (suc j) r))) (eq-eqb (suc i) (suc j) (omega arith))
          ∙ ap (λ b. b || (runs_in (suc j) h && not (is_end (suc j) r))) answered)
      go (inr differ) =
          set_other ts i j (in_state Runs t) differ ∙ told j
          ∙ sym (stays_so (nat_eq (suc i) (suc j) && is_started r) (is_end (suc j) r) (runs_in (suc j) h) (ap (λ b. b && is_started r) (other_place i j differ)) (none (suc j)))

  tells_ended : (code : ℕ) (ready others : List ℕ) → Tells (ended (suc i) code ts) (h ++ pair (ask.Next ready others) (reply.Ended (suc i) code) ∷ [])
  tells_ended code ready others j =
      stays_runs (suc i) mid (ended (suc i) code ts) j (subst (λ l. Each (Stays (suc i)) l (ended (suc i) code ts)) (with_is (ended_task code) ts i t there) (each_ended (suc i) code ts))
      ∙ go (place_is i j) ∙ sym (tells_end (suc j) h _)
    where
      mid : List Task
      mid = slice_set ts i (ended_task code t)

      go : (j ≡ i) ⊎ (j ≡ i → ⊥) → runs_at (slice_set ts i (ended_task code t)) j ≡ (runs_in (suc j) h && not (nat_eq (suc i) (suc j)))
      go (inl same) =
          set_runs ts i j t (ended_task code t) there same ∙ ended_idle code t
          ∙ sym (ap (λ b. runs_in (suc j) h && not b) (eq-eqb (suc i) (suc j) (omega arith)) ∙ and_right (runs_in (suc j) h) false refl)
      go (inr differ) = set_other ts i j (ended_task code t) differ ∙ told j ∙ sym (stays_so false (nat_eq (suc i) (suc j)) (runs_in (suc j) h) refl (other_place i j differ))

tells_same : (ts us : List Task) (h : History) (a : Ask) (r : Reply) → us ≡ ts → ((n : ℕ) → (is_start n a && is_started r) ≡ false) → ((n : ℕ) → is_end n r ≡ false) → Tells ts h → Tells us (h ++ pair a r ∷ [])
tells_same ts us h a r same no_start no_end told i =
    ap (λ l. runs_at l i) same ∙ told i ∙ sym (stays_so (is_start (suc i) a && is_started r) (is_end (suc i) r) (runs_in (suc i) h) (no_start (suc i)) (no_end (suc i))) ∙ sym (tells_end (suc i) h (pair a r))

tells_pair : (c d : Conf) (h : History) (a : Ask) (r : Reply) → fits a r ≡ true → (r ≡ reply.NoRoom → ⊥) → Follows c a r d → Tells c.tasks h → Tells d.tasks (h ++ pair a r ∷ [])
tells_pair c d h a r fit room follows told = go follows.effect
  where
    begun : Begins c a r d → Tells d.tasks (h ++ pair a r ∷ [])
    begun b = by b.behind
      where
        at : At 1 (may_start c.cpus c.tasks) c.tasks b.number
        at = number_at 1 b.number (may_start c.cpus c.tasks) c.tasks (has_first _ b.number b.next)

        by : ((is_fault r ≡ true) × (d.tasks ≡ c.tasks)) ⊎ ((is_fault r ≡ false) × (d.tasks ≡ started b.number c.tasks)) → Tells d.tasks (h ++ pair a r ∷ [])
        by (inl is) = tells_same c.tasks d.tasks h a r is.1 (λ n. and_right (is_start n a) (is_started r) (fault_only r is.0)) b.none_ends told
        by (inr is) =
            let number : b.number ≡ suc at.place = let e = at.number in omega arith in
            let asked : a ≡ ask.Start (suc at.place) b.task.attempt b.task.made.command = b.asked ∙ ap (λ n. ask.Start n b.task.attempt b.task.made.command) number in
            let behind : d.tasks ≡ slice_set c.tasks at.place (in_state Runs at.task) = is.1 ∙ ap (λ n. started n c.tasks) number ∙ with_is (in_state Runs) c.tasks at.place at.task at.there in
            let answered = started_only (suc at.place) b.task.attempt b.task.made.command r (subst (λ x. fits x r ≡ true) asked fit) is.0 room in
            subst (λ x. Tells d.tasks (h ++ pair x r ∷ [])) (sym asked)
            (subst (λ us. Tells us (h ++ pair (ask.Start (suc at.place) b.task.attempt b.task.made.command) r ∷ [])) (sym behind)
            (tells_started c.tasks h at.place at.task at.there told b.task.attempt b.task.made.command r answered b.none_ends))

    ending : EndsOne c a r d → Tells d.tasks (h ++ pair a r ∷ [])
    ending e =
        let at = number_at 1 e.number (λ t. runs t.state) c.tasks e.there in
        let number : e.number ≡ suc at.place = let n = at.number in omega arith in
        let behind : d.tasks ≡ ended (suc at.place) e.code c.tasks = e.behind ∙ ap (λ n. ended n e.code c.tasks) number in
        let replied : r ≡ reply.Ended (suc at.place) e.code = e.replied ∙ ap (λ n. reply.Ended n e.code) number in
        subst (λ x. Tells d.tasks (h ++ pair x r ∷ [])) (sym e.asked)
        (subst (λ x. Tells d.tasks (h ++ pair (ask.Next e.waiting (running c.tasks)) x ∷ [])) (sym replied)
        (subst (λ us. Tells us (h ++ pair (ask.Next e.waiting (running c.tasks)) (reply.Ended (suc at.place) e.code) ∷ [])) (sym behind)
        (tells_ended c.tasks h at.place at.task at.there told e.code e.waiting (running c.tasks))))

    go : Begins c a r d ⊎ (EndsOne c a r d ⊎ Rests c a r d) → Tells d.tasks (h ++ pair a r ∷ [])
    go (inl b) = begun b
    go (inr (inl e)) = ending e
    go (inr (inr s)) = tells_same c.tasks d.tasks h a r s.behind (λ n. ap (λ b. b && is_started r) (s.none_starts n)) s.none_ends told

-- Where a history leads

record IsTellable (first : ℕ) (h : History) (c : Conf) : Type 0 where
  cpus : c.cpus ≡ cpus_in first h
  tasks : Tells c.tasks h

module _ (program : Program) (opening : Conf) (none : opening.tasks ≡ []) where
  tells : (c : Conf) (h : History) → Lives program opening h c → IsTellable opening.cpus h c
  tells _ _ Lives.opens = record { cpus = refl; tasks = λ i. ap (λ l. runs_at l i) none }
  tells _ _ (Lives.goes h c d lives moves) =
      let k = keeps_source program c (Goes d) (quiet program opening none c h lives) moves in
      let old = tells c h lives in
      record { cpus = k.cpus ∙ old.cpus; tasks = λ i. ap (λ l. runs_at l i) k.tasks.are ∙ more_runs c.tasks k.tasks.more i k.tasks.each ∙ old.tasks i }
  tells _ _ (Lives.asks h c a next r lives moves answered) =
      let k = keeps_source program c (Asks a next) (quiet program opening none c h lives) moves r answered.fitting in
      let old = tells c h lives in
      record { cpus = k.cpus ∙ old.cpus ∙ sym (fold_end cpus_behind opening.cpus h (pair a r)); tasks = tells_pair c (next r) h a r answered.fitting answered.told k old.tasks }
  tells _ _ (Lives.restarts h c path image next cpus budget lives moves) =
      let saved = ask.Save path image in
      let same : h ++ pair saved reply.Done ∷ restart cpus budget ∷ [] ≡ (h ++ pair saved reply.Done ∷ []) ++ restart cpus budget ∷ [] = sym (append_assoc h (pair saved reply.Done ∷ []) (restart cpus budget ∷ [])) in
      record {
        cpus = sym (ap (cpus_in opening.cpus) same ∙ fold_end cpus_behind opening.cpus (h ++ pair saved reply.Done ∷ []) (restart cpus budget));
        tasks = λ i. revived_runs (next reply.Done).tasks i ∙ sym (ap (runs_in (suc i)) same ∙ tells_end (suc i) (h ++ pair saved reply.Done ∷ []) (restart cpus budget));
      }

pub histories_tell : HistoriesTell
histories_tell program first c h opens lives = record { cpus = (tells program first opens.tasks c h lives).cpus; running = of_number }
  where
    of_number : (n : ℕ) → 1 ≤ n → passes (λ t. runs t.state) c.tasks n ≡ runs_in n h
    of_number zero low = absurd (omega arith)
    of_number (suc i) low = ap (λ (o : Option Task). unwrap_or (option_map (λ (t : Task). runs t.state) o) false) (at_number c.tasks i) ∙ (tells program first opens.tasks c h lives).tasks i
