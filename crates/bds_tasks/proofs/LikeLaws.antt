-- Tasks that need the same, of which the same have ended well and run, as those behind a bad end: but for keys, what is
-- kept stays.
use Rattle.std.proofs.Common.{◌≡◌, ◌<◌, ℕ, zero, suc, ◌+◌, ◌-◌, Bool, true, false, not, ◌&&◌, ◌||◌, List, [], ◌∷◌, ◌++◌}
use Rattle.std.proofs.Common.{length, map, Option, Some, None, refl, sym, ap, ◌∙◌, subst, nat_eq, append-nil, if◌then◌else◌}
use Rattle.std.proofs.lemmas.Bool.{false≢true}
use Rattle.std.proofs.lemmas.List.Sums.{sum_by-cons}
use Rattle.std.specs.List.{list_any, slice_get}
use Rattle.std.specs.Option.{option_map, unwrap_or}
use Rattle.bds_tasks.specs.declared.schedule.Schedule.{Schedule}
use Rattle.bds_tasks.specs.declared.task.Task.{Task}
use Rattle.bds_tasks.specs.declared.task.TaskState.{TaskState}
use Rattle.bds_tasks.specs.declared.task.TaskState.TheVariants.{Waits, Runs, Ended, Cancelled}
use Rattle.bds_tasks.specs.Ends.{cancelled_behind, cancelled_if, hit_where, is_hit, is_lost, judged}
use Rattle.bds_tasks.specs.Kept.{HasEnded, IsBehind, IsSchedule, busy, keys, needs_at, times, unmet_of}
use Rattle.bds_tasks.specs.Tasks.{is_bad, is_good, is_ill, is_well, numbers_from, one_where, passes, runs, waits}
use Rattle.bds_tasks.proofs.StartLaws.{asks}
use Rattle.bds_tasks.proofs.UnmetLaws.{Stay, unmet_stay, waits_bad}

pub record IsLike (t u : Task) : Type 0 where
  pub needs : u.needs ≡ t.needs
  pub good : is_good u ≡ is_good t
  pub going : runs u.state ≡ runs t.state
  pub cpus : u.made.cpus ≡ t.made.cpus

abbrev pub AreLike : List Task → List Task → Type 0
AreLike [] [] = Unit {0}
AreLike [] (u ∷ us) = ⊥
AreLike (t ∷ ts) [] = ⊥
AreLike (t ∷ ts) (u ∷ us) = IsLike t u × AreLike ts us

like_itself : (t : Task) → IsLike t t
like_itself t = record { needs = refl; good = refl; going = refl; cpus = refl }

all_themselves : (ts : List Task) → AreLike ts ts
all_themselves [] = tt
all_themselves (t ∷ ts) = (like_itself t, all_themselves ts)

like_then : (t u v : Task) → IsLike t u → IsLike u v → IsLike t v
like_then t u v a b = record {
  needs = b.needs ∙ a.needs;
  good = b.good ∙ a.good;
  going = b.going ∙ a.going;
  cpus = b.cpus ∙ a.cpus;
}

all_then : (ts us vs : List Task) → AreLike ts us → AreLike us vs → AreLike ts vs
all_then [] [] [] a b = tt
all_then [] [] (v ∷ vs) a b = b
all_then [] (u ∷ us) vs a b = elim a [ ]
all_then (t ∷ ts) [] vs a b = elim a [ ]
all_then (t ∷ ts) (u ∷ us) [] a b = b
all_then (t ∷ ts) (u ∷ us) (v ∷ vs) a b = (like_then t u v a.0 b.0, all_then ts us vs a.1 b.1)

one_in : (before : List Task) (t u : Task) (ts : List Task) → IsLike t u
    → AreLike (before ++ t ∷ ts) ((before ++ u ∷ []) ++ ts)
one_in [] t u ts a = (a, all_themselves ts)
one_in (b ∷ before) t u ts a = (like_itself b, one_in before t u ts a)

waits_not_runs : (s : TaskState) → waits s ≡ true → runs s ≡ false
waits_not_runs Waits e = refl
waits_not_runs Runs e = absurd (cc)
waits_not_runs (Ended n) e = absurd (cc)
waits_not_runs (Cancelled n) e = absurd (cc)

hit_like : (n : ℕ) (before : List Task) (t : Task) → IsLike t (hit_where (is_hit n before t) n t)
hit_like n before t = go (is_hit n before t) refl
  where
    left : (a b : Bool) → a && b ≡ true → a ≡ true
    left true b e = refl
    left false b e = e

    go : (b : Bool) → is_hit n before t ≡ b → IsLike t (hit_where b n t)
    go false e = like_itself t
    go true e =
        let w = left (waits t.state) (list_any (is_lost n before) t.needs) e in
        record {
          needs = refl;
          good = sym (waits_bad t.made.can_fail t.state w);
          going = sym (waits_not_runs t.state w);
          cpus = refl;
        }

behind_like : (n : ℕ) (before ts : List Task) → AreLike (before ++ ts) (cancelled_behind n before ts)
behind_like n before [] =
    subst (λ (xs : List Task). AreLike xs before) (sym (append-nil before)) (all_themselves before)
behind_like n before (t ∷ ts) =
    let u = hit_where (is_hit n before t) n t in
    all_then (before ++ t ∷ ts) ((before ++ u ∷ [])
    ++ ts) (cancelled_behind n (before
    ++ u ∷ []) ts) (one_in before t u ts (hit_like n before t)) (behind_like n (before ++ u ∷ []) ts)

like_good : (ts us : List Task) → AreLike ts us → (k : ℕ)
    → unwrap_or (option_map is_good (slice_get us k)) false ≡ unwrap_or (option_map is_good (slice_get ts k)) false
like_good [] [] a k = refl
like_good [] (u ∷ us) a k = elim a [ ]
like_good (t ∷ ts) [] a k = elim a [ ]
like_good (t ∷ ts) (u ∷ us) a zero = a.0.good
like_good (t ∷ ts) (u ∷ us) a (suc k) = like_good ts us a.1 k

like_long : (ts us : List Task) → AreLike ts us → length us ≡ length ts
like_long [] [] a = refl
like_long [] (u ∷ us) a = elim a [ ]
like_long (t ∷ ts) [] a = elim a [ ]
like_long (t ∷ ts) (u ∷ us) a = ap suc (like_long ts us a.1)

like_needs : (ts us : List Task) → AreLike ts us → (i : ℕ) → needs_at us i ≡ needs_at ts i
like_needs [] [] a i = refl
like_needs [] (u ∷ us) a i = elim a [ ]
like_needs (t ∷ ts) [] a i = elim a [ ]
like_needs (t ∷ ts) (u ∷ us) a zero = a.0.needs
like_needs (t ∷ ts) (u ∷ us) a (suc i) = like_needs ts us a.1 i

like_counts : (old new ts us : List Task) → Stay old new → AreLike ts us
    → map (λ (t : Task). unmet_of new t.needs) us ≡ map (λ (t : Task). unmet_of old t.needs) ts
like_counts old new [] [] s a = refl
like_counts old new [] (u ∷ us) s a = elim a [ ]
like_counts old new (t ∷ ts) [] s a = elim a [ ]
like_counts old new (t ∷ ts) (u ∷ us) s a =
    ap (λ k. k ∷ map (λ (x : Task). unmet_of new x.needs) us) (ap (unmet_of new) a.0.needs
    ∙ unmet_stay old new s t.needs)
    ∙ ap (λ ks. unmet_of old t.needs ∷ ks) (like_counts old new ts us s a.1)

like_running : (k : ℕ) (ts us : List Task) → AreLike ts us
    → numbers_from k (λ (t : Task). runs t.state) us ≡ numbers_from k (λ (t : Task). runs t.state) ts
like_running k [] [] a = refl
like_running k [] (u ∷ us) a = elim a [ ]
like_running k (t ∷ ts) [] a = elim a [ ]
like_running k (t ∷ ts) (u ∷ us) a =
    ap (λ b. one_where b k ++ numbers_from (k + 1) (λ (x : Task). runs x.state) us) a.0.going
    ∙ ap (λ ns. one_where (runs t.state) k ++ ns) (like_running (k + 1) ts us a.1)

like_busy : (ts us : List Task) → AreLike ts us → busy us ≡ busy ts
like_busy [] [] a = refl
like_busy [] (u ∷ us) a = elim a [ ]
like_busy (t ∷ ts) [] a = elim a [ ]
like_busy (t ∷ ts) (u ∷ us) a =
    sum_by-cons asks u us
    ∙ ap (λ n. n + busy us) (ap (λ b. if b then u.made.cpus else 0) a.0.going
    ∙ ap (λ n. if runs t.state then n else 0) a.0.cpus)
    ∙ ap (λ n. asks t + n) (like_busy ts us a.1) ∙ sym (sum_by-cons asks t ts)

-- behind a bad end what is kept is that of the tasks, once the keys are
pub cancelled_kept : (n : ℕ) (old new : List Task) (s : Schedule) (ks : List ℕ) → IsSchedule old s → s.some_lost ≡ true
    → new ≡ cancelled_behind n [] old → ks ≡ keys new
    → IsSchedule new (record {
      unmet = s.unmet;
      needed_by = s.needed_by;
      keys = ks;
      running = s.running;
      busy = s.busy;
      some_lost = s.some_lost;
    })
cancelled_kept n old new s ks k lost is e =
    let like : AreLike old new = subst (λ (xs : List Task). AreLike old xs) (sym is) (behind_like n [] old) in
    let stay : Stay old new = λ m. like_good old new like (m - 1) in
    record {
      counted = k.counted ∙ sym (like_counts old new old new stay like);
      users = record {
        long = k.users.long ∙ sym (like_long old new like);
        often = λ i j l. k.users.often i j (subst (λ x. j < x) (like_long old new like) l)
            ∙ ap (times (suc j)) (sym (like_needs old new like i));
        some = k.users.some;
      };
      keyed = e;
      going = k.going ∙ sym (like_running 1 old new like);
      summed = k.summed ∙ sym (like_busy old new like);
      lost = λ none. elim (false≢true (sym none ∙ lost)) [ ];
    }

pub has_ended : (n : ℕ) (now : List Task) (s : Schedule) → IsBehind n now s → HasEnded n now
has_ended n now s b = record { before = b.before; code = b.code; one = b.one; are = b.are; ran = b.ran; is = b.is }

-- a good end cancels none
pub well_judged : (n : ℕ) (ts : List Task) → passes is_good ts n ≡ true → judged n ts ≡ ts
well_judged n ts e = ap (λ b. cancelled_if b n ts) (go (slice_get ts (n - 1)) e)
  where
    turn : (c : Bool) → c ≡ true → not c ≡ false
    turn true e = refl
    turn false e = absurd (cc)

    by : (can : Bool) (s : TaskState) → is_well can s ≡ true → is_ill can s ≡ false
    by can Waits e = refl
    by can Runs e = refl
    by can (Ended code) e = turn (can || nat_eq code 0) e
    by can (Cancelled m) e = refl

    go : (o : Option Task) → unwrap_or (option_map is_good o) false ≡ true
        → unwrap_or (option_map is_bad o) false ≡ false
    go None e = refl
    go (Some t) e = by t.made.can_fail t.state e
