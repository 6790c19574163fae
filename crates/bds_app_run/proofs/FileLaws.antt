-- What is done with a file is determined by the log.
use Rattle.std.proofs.Common.{◌≡◌, ◌≢◌, ◌++◌, ◌∙◌, ◌⊎◌, inl, inr, ℕ, List, [], ◌∷◌, Result, Ok, Err, refl, sym, ap, subst, append_assoc}
use Rattle.std.proofs.lemmas.List.{append_cancel_left}
use Rattle.bds_host.specs.declared.asks.Ask.{Ask}
use Rattle.bds_host.specs.declared.asks.Ask.TheVariants.{Read, Err as Tells}
use Rattle.bds_host.specs.declared.asks.Reply.{Reply}
use Rattle.bds_host.specs.declared.asks.Reply.TheVariants as reply
use Rattle.bds_host.specs.declared.faults.Fault.{Fault as AFault}
use Rattle.bds_host.specs.declared.faults.Fault.TheVariants as fault
use Rattle.bds_host.specs.Host.{Log, faults}
use Rattle.bds_host.specs.Message.{message_of}
use Rattle.bds_schedule.specs.Stages.{End, Done, Spent, DeviceFault}
use Rattle.bds_state.specs.Parts.{Parts}
use Rattle.bds_ckpt.specs.Loading.{Loadable}
use Rattle.bds_engine_parts.specs.Run.{Causes, ComesTo, FaultIsTold}
use Rattle.bds_engine_parts.specs.declared.stop.RunStop.{RunStop}
use Rattle.bds_engine_parts.specs.declared.stop.RunStop.TheVariants as run_stop
use Rattle.bds_engine_parts.specs.Seen.{revived_state}
use Rattle.bds_engine_parts.proofs.WholeRuns.{runs_grow}
use Rattle.bds_app_run.specs.Commands.{GoesOnTo, OpensFile, run_outcome}
use Rattle.bds_app_run.specs.Resume.{HoldsState, HoldsNone, GoesOn}
use Rattle.bds_app_run.specs.declared.outcome.Outcome.{Outcome}
use Rattle.bds_app_run.specs.declared.outcome.Outcome.TheVariants.{Ended, BadFile, Device, NoMemory, Ticks}
use Rattle.bds_app_run.proofs.Telling.{Grows, Same, Settled, clean_faults, comes_settled, device_comes, device_grows, device_settled, says_comes, says_grows, settled_same}
use Rattle.bds_app_run.proofs.Trails.{none_clean, nothing_yet, state_clean}

-- the laws that are made use of

abbrev pub EndsHaveCauses : Type 0
EndsHaveCauses = (s : Parts) (cpus budget : ℕ) (before after : Log) → Causes s cpus budget before after

abbrev pub IsOneState : Type 0
IsOneState = (bytes : List ℕ) (a b : Parts) → Loadable bytes a → Loadable bytes b → a ≡ b

-- The read of a file

abbrev first : Log → Ask × Reply → Ask × Reply
first [] p = p
first (q ∷ log) p = q

module _ (before after : Log) where
  -- the log went on with the read of the file of a path, which was so replied, and is as long as this one behind it
  pub record WasReplied (path : List ℕ) (r : Reply) (log : Log) : Type 0 where
    pub read : log ≡ before ++ (Read path, r) ∷ []
    pub rest : Log
    pub grown : after ≡ log ++ rest

  from_before : (path : List ℕ) (r : Reply) (log : Log) (h : WasReplied path r log) → after ≡ before ++ (Read path, r) ∷ h.rest
  from_before path r log h = h.grown ∙ ap (λ l. l ++ h.rest) h.read ∙ append_assoc before ((Read path, r) ∷ []) h.rest

  same_pair : (path path' : List ℕ) (r r' : Reply) (log log' : Log) → WasReplied path r log → WasReplied path' r' log' → ◌≡◌ {A = Ask × Reply} (Read path, r) (Read path', r')
  same_pair path path' r r' log log' h h' =
      ap (λ l. first l (Read path, r)) (append_cancel_left before ((Read path, r) ∷ h.rest) ((Read path', r') ∷ h'.rest) (sym (from_before path r log h) ∙ from_before path' r' log' h'))

  pub same_log : (path path' : List ℕ) (r r' : Reply) (log log' : Log) → WasReplied path r log → WasReplied path' r' log' → log ≡ log'
  same_log path path' r r' log log' h h' = h.read ∙ ap (λ p. before ++ p ∷ []) (same_pair path path' r r' log log' h h') ∙ sym h'.read

  pub same_reply : (path path' : List ℕ) (r r' : Reply) (log log' : Log) → WasReplied path r log → WasReplied path' r' log' → r ≡ r'
  same_reply path path' r r' log log' h h' = ap (λ (p : Ask × Reply). p.1) (same_pair path path' r r' log log' h h')

  -- Held path s log: a state is there, and the log has grown since
  pub record Held (path : List ℕ) (s : Parts) (log : Log) : Type 0 where
    pub holds : HoldsState path s before log
    pub rest : Log
    pub grown : after ≡ log ++ rest

  held_reply : (path : List ℕ) (s : Parts) (log : Log) (h : Held path s log) → WasReplied path (reply.Bytes h.holds.bytes) log
  held_reply path s log h = record { read = h.holds.read.grown; rest = h.rest; grown = h.grown }

  -- a file holds a state, or none
  pub none_or_state : (path path' : List ℕ) (f : AFault) (s : Parts) (log log' rest : Log) → HoldsNone path before log f → after ≡ log ++ rest → Held path' s log' → ⊥
  none_or_state path path' _ s log log' rest (HoldsNone.missing a) g h =
      let e : reply.Missing ≡ reply.Bytes h.holds.bytes = same_reply path path' reply.Missing (reply.Bytes h.holds.bytes) log log' (record { read = a.grown; rest = rest; grown = g }) (held_reply path' s log' h) in
      cc e
  none_or_state path path' _ s log log' rest (HoldsNone.not_loadable bytes a none) g h =
      let e : reply.Bytes bytes ≡ reply.Bytes h.holds.bytes = same_reply path path' (reply.Bytes bytes) (reply.Bytes h.holds.bytes) log log' (record { read = a.grown; rest = rest; grown = g }) (held_reply path' s log' h) in
      let same : bytes ≡ h.holds.bytes = cc e in
      none s (subst (λ b. Loadable b s) (sym same) h.holds.loadable)

  -- and no two
  pub one_state : IsOneState → (path path' : List ℕ) (s s' : Parts) (log log' : Log) → Held path s log → Held path' s' log' → (s ≡ s') × (log ≡ log')
  one_state law path path' s s' log log' h h' =
      let a = held_reply path s log h in
      let b = held_reply path' s' log' h' in
      let e : reply.Bytes h.holds.bytes ≡ reply.Bytes h'.holds.bytes = same_reply path path' _ _ log log' a b in
      let same : h.holds.bytes ≡ h'.holds.bytes = cc e in
      (law h'.holds.bytes s s' (subst (λ b. Loadable b s) same h.holds.loadable) h'.holds.loadable, same_log path path' _ _ log log' a b)

-- Whatever is done with the state of a file

module _ (path : List ℕ) (Does : Parts → Log → Log → Outcome → Type 0) (before after : Log) where
  abbrev Opens : Outcome → Type 0
  Opens o = OpensFile path Does before after o

  -- where it holds a state, that is done
  pub opened_does : IsOneState → (s : Parts) (log rest : Log) → HoldsState path s before log → after ≡ log ++ rest → (o : Outcome) → ((s : Parts) (log : Log) (o : Outcome) → Does s log after o → Grows log after) → Opens o → (o ≡ NoMemory) ⊎ Does s log after o
  opened_does law s log rest holds g o grows (OpensFile.held s' log' _ holds' does) =
      let w = grows s' log' o does in
      let same = one_state before after law path path s' s log' log (record { holds = holds'; rest = w.0; grown = w.1 }) (record { holds = holds; rest = rest; grown = g }) in
      inr (subst (λ x. Does x log after o) same.0 (subst (λ l. Does s' l after o) same.1 does))
  opened_does law s log rest holds g o grows (OpensFile.bad_file f log' _ none told) =
      let w = says_grows (message_of f) BadFile log' after o told in
      absurd (none_or_state before after path path f s log' log w.0 none w.1 (record { holds = holds; rest = rest; grown = g }))
  opened_does law s log rest holds g o grows (OpensFile.unread log' _ a told) =
      let w = device_grows log' after o told in
      let e : reply.Fault ≡ reply.Bytes holds.bytes = same_reply before after path path reply.Fault (reply.Bytes holds.bytes) log' log (record { read = a.grown; rest = w.0; grown = w.1 }) (record { read = holds.read.grown; rest = rest; grown = g }) in
      absurd (cc e)
  opened_does law s log rest holds g _ grows (OpensFile.unloaded none) = inl refl

  -- a file that holds none is told
  pub opened_refuses : (f : AFault) (log rest : Log) → HoldsNone path before log f → after ≡ log ++ rest → (o : Outcome) → ((s : Parts) (log : Log) (o : Outcome) → Does s log after o → Grows log after) → Opens o → Settled BadFile before after o
  opened_refuses f log rest none g o grows (OpensFile.held s log' _ holds does) =
      let w = grows s log' o does in
      absurd (none_or_state before after path path f s log log' rest none g (record { holds = holds; rest = w.0; grown = w.1 }))
  opened_refuses f log rest none g o grows (OpensFile.bad_file f' log' _ none' told) = comes_settled (Tells (message_of f')) BadFile before log' after o (none_clean path f' before log' none') (says_comes before log' (none_clean path f' before log' none') (message_of f') BadFile after o told)
  opened_refuses f log rest none g o grows (OpensFile.unread log' _ a told) = device_settled BadFile before after o (device_comes before before (nothing_yet before) (Read path) log' after o a.grown told)
  opened_refuses f log rest none g _ grows (OpensFile.unloaded lacked) = inl refl

  -- two answers with one log
  pub opened_same : IsOneState → ((s : Parts) (log : Log) (o : Outcome) → Does s log after o → Grows log after) → ((s : Parts) (log : Log) (o other : Outcome) → HoldsState path s before log → Does s log after o → Does s log after other → Same o other)
      → (o other : Outcome) → Opens o → Opens other → Same o other
  opened_same law grows one o other (OpensFile.held s log _ holds does) b =
      let w = grows s log o does in
      by w.0 w.1 (opened_does law s log w.0 holds w.1 other grows b)
    where
      by : (rest : Log) → after ≡ log ++ rest → (other ≡ NoMemory) ⊎ Does s log after other → Same o other
      by rest g (inl lacked) = inr (inr lacked)
      by rest g (inr does') = one s log o other holds does does'
  opened_same law grows one o other (OpensFile.bad_file f log _ none told) b =
      let w = says_grows (message_of f) BadFile log after o told in
      settled_same BadFile before after o other (opened_refuses f log w.0 none w.1 o grows (OpensFile.bad_file f log o none told)) (opened_refuses f log w.0 none w.1 other grows b)
  opened_same law grows one o other (OpensFile.unread log _ a told) b = unread_same other b
    where
      settled : Settled BadFile before after o
      settled = device_settled BadFile before after o (device_comes before before (nothing_yet before) (Read path) log after o a.grown told)

      unread_same : (x : Outcome) → Opens x → Same o x
      unread_same x (OpensFile.held s log' _ holds does) =
          let w = grows s log' x does in
          let v = device_grows log after o told in
          let e : reply.Fault ≡ reply.Bytes holds.bytes = same_reply before after path path reply.Fault (reply.Bytes holds.bytes) log log' (record { read = a.grown; rest = v.0; grown = v.1 }) (record { read = holds.read.grown; rest = w.0; grown = w.1 }) in
          absurd (cc e)
      unread_same x (OpensFile.bad_file f log' _ none told') =
          let w = says_grows (message_of f) BadFile log' after x told' in
          settled_same BadFile before after o x settled (opened_refuses f log' w.0 none w.1 x grows (OpensFile.bad_file f log' x none told'))
      unread_same x (OpensFile.unread log' _ a' told') =
          settled_same BadFile before after o x settled (device_settled BadFile before after x (device_comes before before (nothing_yet before) (Read path) log' after x a'.grown told'))
      unread_same _ (OpensFile.unloaded lacked) = inr (inr refl)
  opened_same law grows one _ other (OpensFile.unloaded lacked) b = inr (inl refl)

-- What goes on from a state

module _ (cpus ticks : ℕ) where
  abbrev CameTo : Parts → Log → Log → End → Type 0
  CameTo s log after e = ComesTo (revived_state s) cpus ticks log after e

  module _ (s : Parts) (log after : Log) where
    pub done_comes : (status : ℕ) → GoesOn cpus ticks s log after (Ok status) → CameTo s log after (Done status)
    done_comes status h = h

    pub spent_comes : GoesOn cpus ticks s log after (Err run_stop.Ticks) → CameTo s log after Spent
    spent_comes h = h

    pub failed_comes : GoesOn cpus ticks s log after (Err run_stop.Device) → CameTo s log after DeviceFault
    failed_comes h = h

    pub goes_grows : (o : Outcome) → GoesOnTo cpus ticks s log after o → Grows log after
    goes_grows o h = let w = runs_grow (revived_state s) cpus ticks log after h.0 h.1.0 in (w.0, w.1)

    module _ (law : EndsHaveCauses) (path : List ℕ) (before : Log) (held : HoldsState path s before log) where
      pub came_clean : (e : End) → CameTo s log after e → e ≢ DeviceFault → faults after ≡ faults before
      came_clean e h other = (law (revived_state s) cpus ticks log after).clean e h other ∙ clean_faults before log (state_clean path s before log held)

      -- the read of the file stands before a fault that was told
      told_behind : FaultIsTold log after → FaultIsTold before after
      told_behind h =
          let tail : Log = h.pairs ++ (h.ask, reply.Fault) ∷ (Tells (message_of fault.Device), h.reply) ∷ [] in
          record {
            pairs = (Read path, reply.Bytes held.bytes) ∷ h.pairs;
            ask = h.ask;
            reply = h.reply;
            grown = h.grown ∙ ap (λ l. l ++ tail) held.read.grown ∙ append_assoc before ((Read path, reply.Bytes held.bytes) ∷ []) tail;
            clean = h.clean;
            room = h.room;
          }

      pub failed_told : GoesOn cpus ticks s log after (Err run_stop.Device) → FaultIsTold before after
      failed_told h = told_behind ((law (revived_state s) cpus ticks log after).told (failed_comes h))

    abbrev told_end : End → Outcome
    told_end (Done status) = Ended status
    told_end Spent = Ticks
    told_end DeviceFault = Device

    -- an end that was come to, or there was no memory
    came_if : (r : Result ℕ RunStop) → GoesOn cpus ticks s log after r → (run_outcome r ≡ NoMemory) ⊎ ((e : End) × (CameTo s log after e × (run_outcome r ≡ told_end e)))
    came_if (Ok status) h = inr (Done status, (h, refl))
    came_if (Err run_stop.Ticks) h = inr (Spent, (h, refl))
    came_if (Err run_stop.Device) h = inr (DeviceFault, (h, refl))
    came_if (Err run_stop.NoMemory) h = inl refl

    -- two answers with one log
    pub goes_same : EndsHaveCauses → (o other : Outcome) → GoesOnTo cpus ticks s log after o → GoesOnTo cpus ticks s log after other → Same o other
    goes_same law o other h h' = by (came_if h.0 h.1.0) (came_if h'.0 h'.1.0)
      where
        by : (run_outcome h.0 ≡ NoMemory) ⊎ ((e : End) × (CameTo s log after e × (run_outcome h.0 ≡ told_end e))) → (run_outcome h'.0 ≡ NoMemory) ⊎ ((e : End) × (CameTo s log after e × (run_outcome h'.0 ≡ told_end e))) → Same o other
        by (inl lacked) b = inr (inl (h.1.1 ∙ lacked))
        by (inr a) (inl lacked) = inr (inr (h'.1.1 ∙ lacked))
        by (inr a) (inr b) =
            let same = (law (revived_state s) cpus ticks log after).one a.0 b.0 a.1.0 b.1.0 in
            inl (h.1.1 ∙ a.1.1 ∙ ap (λ e. told_end e) same ∙ sym (h'.1.1 ∙ b.1.1))
