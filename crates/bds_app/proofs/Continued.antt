-- What `resume` goes on from.
use Rattle.std.proofs.Common.{◌≡◌, ◌∙◌, inl, inr, ℕ, List, [], ◌∷◌, ◌++◌, Err, refl, sym, ap, subst, append_assoc}
use Rattle.std.proofs.Common.{append-nil}
use Rattle.std.proofs.lemmas.List.{append_cancel_left}
use Rattle.bds_host.specs.declared.asks.Ask.TheVariants.{Read, Save}
use Rattle.bds_host.specs.declared.asks.Reply.{Reply}
use Rattle.bds_host.specs.declared.asks.Reply.TheVariants as reply
use Rattle.bds_host.specs.declared.faults.Fault.{Fault as AFault}
use Rattle.bds_host.specs.Host.{Log, Answered}
use Rattle.bds_tree.specs.StmtTree.{ScriptTree}
use Rattle.bds_ckpt.specs.Loading.{Loadable}
use Rattle.bds_check_size.specs.ScriptSize.{Settings}
use Rattle.bds_check_typing.specs.Typed.{IsTypedWith}
use Rattle.bds_meaning.specs.History.{History, Lives, pair, restart}
use Rattle.bds_meaning.specs.Opening.{opening}
use Rattle.bds_schedule.specs.Revive.{revived}
use Rattle.bds_meaning.specs.Run.{Conf}
use Rattle.bds_code.specs.declared.unit.Unit.{Unit as CodeUnit}
use Rattle.bds_gen_stmt.specs.UnitCode.{unit_of}
use Rattle.bds_sim_terms.specs.Law.{program_with}
use Rattle.bds_sim_terms.specs.steps.Stands.{Source}
use Rattle.bds_state.specs.Parts.{Parts}
use Rattle.bds_sim_code.specs.CheckpointLaw.{IsCheckpoint, ScriptHistoriesGoOn}
use Rattle.bds_sim_code.specs.ScriptHere.{source_of}
use Rattle.bds_sim_code.specs.Checkpoints as checkpoints
use Rattle.bds_engine_parts.specs.declared.stop.RunStop.TheVariants as run_stop
use Rattle.bds_engine_parts.proofs.WholeRuns.{none_behind}
use Rattle.bds_app_run.proofs.Quiet.{none_saved, nothing_added}
use Rattle.bds_app_run.specs.Commands.{GoesOnTo, OpensFile}
use Rattle.bds_app_run.specs.Resume.{HoldsNone, HoldsState}
use Rattle.bds_app_run.specs.Saves.{Quiet}
use Rattle.bds_app_run.specs.declared.outcome.Outcome.{Outcome}
use Rattle.bds_app_run.specs.declared.outcome.Outcome.TheVariants.{NoMemory}
use Rattle.bds_app_run.specs.Jobs.{DoesAs, DoesJob}
use Rattle.bds_replay.specs.declared.log.Job.{Job}
use Rattle.bds_app.specs.Answers.{Answers, DoesCommand}
use Rattle.bds_app.specs.Histories.{FarmKeepsHistories, GoesOnFrom, GoesOnFromFile, GoesOnIfFile, HasGoneOn}
use Rattle.bds_app_run.proofs.FileLaws.{WasReplied, goes_grows, same_log, same_reply}
use Rattle.bds_app_run.proofs.Telling.{device_grows, says_grows}

-- no step was taken behind the restart
stops_there : (o : Source) (u : CodeUnit) (start : Conf) (h : History) (place bytes : List ℕ)
    → checkpoints.IsCheckpoint o u start h place bytes → (cpus budget : ℕ) (log after : Log) → after ≡ log
    → checkpoints.ContinuesFrom o u start h place bytes cpus budget log after (Err run_stop.NoMemory)
stops_there o u start h place bytes k cpus budget log after e = record {
  runs_on = record {
    has_run = record {
      pairs = [];
      at = revived (k.next reply.Done) cpus budget;
      lives = subst (λ es. Lives (program_with u.files o) start es (revived (k.next reply.Done) cpus budget))
          (sym (append-nil (h ++ pair (Save place bytes) reply.Done ∷ restart cpus budget ∷ [])))
          (Lives.restarts h k.at place bytes k.next cpus budget k.lives k.asks);
      grown = inl (e ∙ sym (append-nil log), tt);
    };
    saves = λ earlier more file bytes' answer is. absurd (none_saved log after
        (subst (λ x. Quiet log x) (sym e) (nothing_added log)) earlier more file bytes' answer is);
  };
}

module _ (before after : Log) (file bytes : List ℕ) (log rest : Log)
    (read : Answered before log (Read file) (reply.Bytes bytes)) (grown : after ≡ log ++ rest) where
  was_read : WasReplied before after file (reply.Bytes bytes) log
  was_read = record { read = read.grown; rest = rest; grown = grown }

  other_reply : (r : Reply) (log' : Log) → WasReplied before after file r log' → r ≡ reply.Bytes bytes
  other_reply r log' h = same_reply before after file file r (reply.Bytes bytes) log' log h was_read

  same_bytes : (s : Parts) (log' more : Log) (held : HoldsState file s before log') → after ≡ log' ++ more
      → held.bytes ≡ bytes
  same_bytes s log' more held g = let e =
      other_reply (reply.Bytes held.bytes) log' (record { read = held.read.grown; rest = more; grown = g }) in cc e

  -- the file isn't one without a state
  no_bad_file : (s : Parts) → Loadable bytes s → (f : AFault) (log' more : Log) → HoldsNone file before log' f
      → after ≡ log' ++ more → ⊥
  no_bad_file s loads _ log' more (HoldsNone.missing a) g =
      let e = other_reply reply.Missing log' (record { read = a.grown; rest = more; grown = g }) in cc e
  no_bad_file s loads _ log' more (HoldsNone.not_loadable bytes' a none) g =
      let e = other_reply (reply.Bytes bytes') log' (record { read = a.grown; rest = more; grown = g }) in
      let same : bytes' ≡ bytes = cc e in
      none s (subst (λ b. Loadable b s) (sym same) loads)

module _ (law : ScriptHistoriesGoOn) (before after : Log) where
  module _ (cpus' budget' : ℕ) (file bytes : List ℕ) (log rest : Log)
      (read : Answered before log (Read file) (reply.Bytes bytes)) (grown : after ≡ log ++ rest) where
    module _ (ss : Settings) (args : List (List ℕ)) (script : ScriptTree) (typed : IsTypedWith script ss args) where
      module _ (path : List ℕ) (cpus budget : ℕ) (h : History) (place : List ℕ)
          (k : IsCheckpoint ss args script path cpus budget h place bytes) where
        abbrev Gone : Outcome → Type 0
        Gone answer = HasGoneOn ss args script path cpus budget h place bytes cpus' budget' log after answer

        -- no memory for the state
        halted_there : after ≡ log → Gone NoMemory
        halted_there e = record {
          end = Err run_stop.NoMemory;
          is = refl;
          continues = stops_there (source_of script (unit_of ss args script)) (unit_of ss args script)
              (opening path cpus budget ss args script) h place bytes k cpus' budget' log after e;
        }

        went_on : (answer : Outcome) → OpensFile file (GoesOnTo cpus' budget') before after answer → Gone answer
        went_on answer (OpensFile.held s log' _ held goes) =
            let g = goes_grows cpus' budget' s log' after answer goes in
            let e = same_bytes before after file bytes log rest read grown s log' g.0 held g.1 in
            let here : log' ≡ log = same_log before after file file (reply.Bytes held.bytes) (reply.Bytes bytes) log'
            log (record {
              read = held.read.grown;
              rest = g.0;
              grown = g.1;
            }) (was_read before after file bytes log rest read grown) in
            let went = subst (λ l. GoesOnTo cpus' budget' s l after answer) here goes in
            record {
              end = went.0;
              is = went.1.1;
              continues = (law ss args script typed path cpus budget).loaded h place bytes k s
                  (subst (λ b. Loadable b s) e held.loadable) cpus' budget' log after went.0 went.1.0;
            }
        went_on answer (OpensFile.bad_file f log' _ none told) =
            let g = says_grows _ _ log' after answer told in
            absurd (no_bad_file before after file bytes log rest read grown k.state k.loads f log' g.0 none g.1)
        went_on answer (OpensFile.unread log' _ a told) =
            let g = device_grows log' after answer told in
            let e = other_reply before after file bytes log rest read grown reply.Fault log' (record {
              read = a.grown;
              rest = g.0;
              grown = g.1;
            }) in
            absurd (cc e)
        went_on _ (OpensFile.unloaded (inl (inl same))) =
            absurd (none_behind [] (Read file, reply.Bytes bytes) rest
            (append_cancel_left before [] ((Read file, reply.Bytes bytes) ∷ rest) (append-nil before ∙ sym same
            ∙ grown ∙ ap (λ x. x ++ rest) read.grown
            ∙ append_assoc before ((Read file, reply.Bytes bytes) ∷ []) rest)))
        went_on _ (OpensFile.unloaded (inl (inr more))) =
            let e = other_reply before after file bytes log rest read grown reply.NoRoom after (record {
              read = more;
              rest = [];
              grown = sym (append-nil after);
            }) in absurd (cc e)
        went_on _ (OpensFile.unloaded (inr found)) =
            halted_there (same_log before after file file (reply.Bytes found.0) (reply.Bytes bytes) after log
            (record {
              read = found.1.grown;
              rest = [];
              grown = sym (append-nil after);
            }) (was_read before after file bytes log rest read grown))

  pub file_goes_on : (cpus' budget' : ℕ) (file : List ℕ) (answer : Outcome)
      → OpensFile file (GoesOnTo cpus' budget') before after answer
      → GoesOnFromFile cpus' budget' file before after answer
  file_goes_on cpus' budget' file answer opens bytes log rest read grown ss args script typed path cpus budget history
      place k =
      went_on cpus' budget' file bytes log rest read grown ss args script typed path cpus budget history place k answer
      opens

  pub goes_on_from : (words : List (List ℕ)) (answer : Outcome) → Answers words before after answer
      → GoesOnFrom words before after answer
  goes_on_from words answer h cpus' budget' file w =
      file_goes_on cpus' budget' file answer (subst (λ x. DoesCommand x before after answer) w h)

-- a job that resumes a file
pub job_goes_on : ScriptHistoriesGoOn → (j : Job) (before after : Log) (answer : Outcome)
    → DoesJob j before after answer → GoesOnIfFile j before after answer
job_goes_on law j before after answer h is =
    file_goes_on law before after j.cpus j.ticks j.path answer (subst (λ b. DoesAs b j before after answer) is h)

-- over a farm
pub farm_keeps : ScriptHistoriesGoOn → (words : List (List ℕ)) (before after : Log) (answer : Outcome)
    → FarmKeepsHistories words before after answer
farm_keeps law words before after answer j submit poll asks h =
    (h.saves, job_goes_on law j [] h.log answer h.does)
