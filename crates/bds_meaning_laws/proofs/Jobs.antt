-- How far a job is, as a history of its program.
use Rattle.std.proofs.Common.{◌≡◌, ◌∙◌, ℕ, List, [], ◌∷◌, ◌++◌, Ok, Err, Result, append_assoc, append-nil, sym, ap, refl, subst}
use Rattle.std.proofs.lemmas.List.{map-append}
use Rattle.bds_host.specs.declared.asks.Ask.{Ask}
use Rattle.bds_host.specs.declared.asks.Ask.TheVariants.{Read}
use Rattle.bds_host.specs.declared.asks.Reply.{Reply}
use Rattle.bds_host.specs.declared.asks.Reply.TheVariants as reply
use Rattle.bds_host.specs.declared.faults.Fault.{Fault}
use Rattle.bds_host.specs.Host.{Answered, Log}
use Rattle.bds_tree.specs.StmtTree.{ScriptTree}
use Rattle.bds_meaning.specs.Begin.{Job, JobEnd, refused, Stage, Reading, Running, AtEnd, Steps, Begins, read_gives, or_faulting, opens, opens_if, reads_of}
use Rattle.bds_meaning.specs.Files.{Files}
use Rattle.bds_meaning.specs.History.{Lives, pair}
use Rattle.bds_meaning.specs.Refusals.{Preset, Accepted, accepted}
use Rattle.bds_meaning.specs.Run.{Program, Conf, Moves}
use Rattle.bds_schedule.specs.Steps.{Goes, Asks, Leads}
use Rattle.bds_meaning_laws.specs.Histories.{IsOpening}
use Rattle.bds_meaning_laws.specs.Jobs.{HistoriesKeepTheLaws, IsHistory, JobsAreHistories, JobsKeepTheLaws}
use Rattle.bds_meaning_laws.proofs.Goals.{goals_make_their_plan}
use Rattle.bds_meaning_laws.proofs.Histories.{good_ends_are_last, starts_behind_needs}
use Rattle.bds_meaning_laws.proofs.Room.{none_runs, tasks_have_room}
use Rattle.bds_meaning_laws.proofs.Running.{histories_tell}

module _ (job : Job) (words : ScriptTree → Result Preset Fault) (size : ScriptTree → Preset → ℕ) (before : Log) where
  -- these files were read, and nothing else was asked
  record HasRead (files : Files) (log : Log) : Type 0 where
    grown : log ≡ before ++ reads_of files
    begins : Begins job words size (reads_of files) (Reading files)

  abbrev IsSoFar : Stage → Log → Type 0
  IsSoFar (Reading files) log = HasRead files log
  IsSoFar (Running program c) log = IsHistory job words size program before log c
  IsSoFar _ log = Unit {0}

  far_told : (r : Reply) (log : Log) (end : JobEnd) → IsSoFar (or_faulting (AtEnd end) r) log
  far_told (reply.Bytes text) log end = tt
  far_told reply.Missing log end = tt
  far_told (reply.Stamp there size time) log end = tt
  far_told reply.Done log end = tt
  far_told (reply.SysDone code out) log end = tt
  far_told reply.Started log end = tt
  far_told (reply.Run k) log end = tt
  far_told (reply.Ended task code) log end = tt
  far_told reply.Fault log end = tt
  far_told reply.NoRoom log end = tt

  -- one more file is read
  read_more : (files : Files) (path text : List ℕ) (log after : Log) → HasRead files log → Steps job words size (Reading files) (Asks (Read path) (read_gives files path)) → Answered log after (Read path) (reply.Bytes text)
      → HasRead (files ++ (path, text) ∷ []) after
  read_more files path text log after has step answered =
      let more : reads_of (files ++ (path, text) ∷ []) ≡ reads_of files ++ (Read path, reply.Bytes text) ∷ [] = map-append (λ f. (Read f.0, reply.Bytes f.1)) files ((path, text) ∷ []) in
      record {
        grown = answered.grown ∙ ap (λ l. l ++ (Read path, reply.Bytes text) ∷ []) has.grown ∙ append_assoc before (reads_of files) _ ∙ ap (λ l. before ++ l) (sym more);
        begins = Leads.asks (Reading files) (reads_of files) _ (Read path) (read_gives files path) (reply.Bytes text) has.begins step (record { grown = more; fitting = refl; told = answered.told });
      }

  far_read : (files : Files) (path : List ℕ) (r : Reply) (log after : Log) → HasRead files log → Steps job words size (Reading files) (Asks (Read path) (read_gives files path)) → Answered log after (Read path) r
      → IsSoFar (read_gives files path r) after
  far_read files path (reply.Bytes text) log after has step answered = read_more files path text log after has step answered
  far_read files path reply.Missing log after has step answered = tt
  far_read files path (reply.Stamp there size time) log after has step answered = tt
  far_read files path reply.Done log after has step answered = tt
  far_read files path (reply.SysDone code out) log after has step answered = tt
  far_read files path reply.Started log after has step answered = tt
  far_read files path (reply.Run k) log after has step answered = tt
  far_read files path (reply.Ended task code) log after has step answered = tt
  far_read files path reply.Fault log after has step answered = tt
  far_read files path reply.NoRoom log after has step answered = tt

  -- the run opens, or the script is refused
  far_opened : (files : Files) (r : Result Accepted Fault) (log : Log) → HasRead files log → Steps job words size (Reading files) (Goes (opens_if job r)) → IsSoFar (opens_if job r) log
  far_opened files (Ok r) log has step = record {
    files = files;
    run = r;
    first = _;
    opening = refl;
    begins = Leads.goes (Reading files) (opens job r) (reads_of files) has.begins step;
    pairs = [];
    grown = has.grown ∙ ap (λ l. before ++ l) (sym (append-nil (reads_of files)));
    history = [];
    events = refl;
    lives = Lives.opens;
  }
  far_opened files (Err f) log has step = tt

  -- the run goes on by itself
  goes_on : (program : Program) (c d : Conf) (log : Log) → IsHistory job words size program before log c → Moves program c (Goes d) → IsHistory job words size program before log d
  goes_on program c d log is moves = record {
    files = is.files;
    run = is.run;
    first = is.first;
    opening = is.opening;
    begins = is.begins;
    pairs = is.pairs;
    grown = is.grown;
    history = is.history;
    events = is.events;
    lives = Lives.goes is.history c d is.lives moves;
  }

  -- it asks
  asks_more : (program : Program) (c : Conf) (ask : Ask) (next : Reply → Conf) (r : Reply) (log after : Log) → IsHistory job words size program before log c → Moves program c (Asks ask next) → Answered log after ask r
      → IsHistory job words size program before after (next r)
  asks_more program c ask next r log after is moves answered = record {
    files = is.files;
    run = is.run;
    first = is.first;
    opening = is.opening;
    begins = is.begins;
    pairs = is.pairs ++ (ask, r) ∷ [];
    grown = answered.grown ∙ ap (λ l. l ++ (ask, r) ∷ []) is.grown ∙ append_assoc before _ _ ∙ ap (λ l. before ++ l) (append_assoc (reads_of is.files) is.pairs _);
    history = is.history ++ pair ask r ∷ [];
    events = ap (λ h. h ++ pair ask r ∷ []) is.events ∙ sym (map-append (λ (p : Ask × Reply). pair p.0 p.1) is.pairs ((ask, r) ∷ []));
    lives = Lives.asks is.history c ask next r is.lives moves (record { grown = refl; fitting = answered.fitting; told = answered.told });
  }

  goes_far : (s t : Stage) (log : Log) → IsSoFar s log → Steps job words size s (Goes t) → IsSoFar t log
  goes_far _ _ log so (Steps.long_path files next is long) = tt
  goes_far _ _ log so (Steps.flawed files path text flaw f has told) = tt
  goes_far _ _ log so (Steps.whole files program beyond made same) = far_opened files (accepted job.path words size program beyond) log so (Steps.whole files program beyond made same)
  goes_far _ _ log so (Steps.run_goes program c d moves) = goes_on program c d log so moves
  goes_far _ _ log so (Steps.run_ends program c end moves) = tt

  asks_far : (s : Stage) (ask : Ask) (next : Reply → Stage) (r : Reply) (log after : Log) → IsSoFar s log → Steps job words size s (Asks ask next) → Answered log after ask r → IsSoFar (next r) after
  asks_far _ _ _ r log after so (Steps.reads files next is short) answered = far_read files next r log after so (Steps.reads files next is short) answered
  asks_far _ _ _ r log after so (Steps.run_asks program c ask next moves) answered = asks_more program c ask next r log after so moves answered
  asks_far _ _ _ r log after so (Steps.refuses f) answered = far_told r after refused
  asks_far _ _ _ r log after so Steps.faults answered = tt

  so_far : (s : Stage) (log : Log) → Leads (Steps job words size) (Reading []) before s log → IsSoFar s log
  so_far _ _ Leads.here = record { grown = sym (append-nil before); begins = Leads.here }
  so_far _ _ (Leads.goes s t log leads step) = goes_far s t log (so_far s log leads) step
  so_far _ _ (Leads.asks s log after ask next r leads step answered) = asks_far s ask next r log after (so_far s log leads) step answered

pub jobs_are_histories : JobsAreHistories
jobs_are_histories job words size program before after c leads = so_far job words size before (Running program c) after leads

-- the configuration with which a run opens
abbrev conf_in : Stage → Conf → Conf
conf_in (Running program c) other = c
conf_in _ other = other

opens_so : (job : Job) (run : Accepted) (program : Program) (first : Conf) → opens job run ≡ Running program first → IsOpening first
opens_so job run program first is = subst IsOpening (ap (λ s. conf_in s first) is) (record { at = refl; tasks = refl })

pub histories_keep_the_laws : HistoriesKeepTheLaws
histories_keep_the_laws program first c h opens lives = record {
  needs = starts_behind_needs program first c h opens lives;
  ends = good_ends_are_last program first c h opens lives;
  room = tasks_have_room program first c h opens lives;
  rest = none_runs program first c h opens lives;
  told = histories_tell program first c h opens lives;
  goals = goals_make_their_plan program first c h opens lives;
}

pub jobs_keep_the_laws : JobsKeepTheLaws
jobs_keep_the_laws job words size program before after c leads =
    let is = jobs_are_histories job words size program before after c leads in
    record { is = is; keeps = histories_keep_the_laws program is.first c is.history (opens_so job is.run program is.first is.opening) is.lives }
