-- The stamps of files, asked for one after the other, as steps of a run.
use Rattle.std.proofs.Common.{◌≡◌, ℕ, ◌+◌, ◌<◌, List, [], ◌∷◌, ◌++◌, length, take, drop, get_or, Option, Some, None, Result, Ok, Err, inl, inr, slice_get, refl, sym, ap, ◌∙◌, subst, append_assoc, length-append}
use Rattle.std.specs.Prelude.{◌⊎◌}
use Rattle.std.proofs.lemmas.List.{append-nil, drop_more, take-append-drop, take_more}
use Rattle.std.proofs.Math.Seq.{take-length}
use Rattle.std.proofs.lemmas.Bool.{false≢true}
use Rattle.std.specs.Result.{IsErr}
use Rattle.bds_value.specs.declared.listed.NoMemory.{NoMemory}
use Rattle.bds_value.specs.declared.value.Stamp.{Stamp}
use Rattle.bds_host.specs.declared.asks.Ask.TheVariants as ask
use Rattle.bds_host.specs.declared.asks.Reply.TheVariants as reply
use Rattle.bds_host.specs.Host.{Log, Answered, FoundNoRoom}
use Rattle.bds_schedule.specs.Configuration.{IsOnWay}
use Rattle.bds_schedule.specs.Replies.{stamp_in}
use Rattle.bds_schedule.specs.Stages as stages
use Rattle.bds_schedule.specs.Steps.{Halts, Leads}
use Rattle.bds_sim.specs.MachineRun.{State}
use Rattle.bds_state.specs.Parts.{Parts}
use Rattle.bds_engine_parts.specs.Saving.{RunHalts}
use Rattle.bds_engine_stages.specs.declared.stage.Stage.TheVariants as stage
use Rattle.bds_engine_stages.specs.declared.stop.Halt.TheVariants as halt
use Rattle.bds_engine_stages.specs.Steps.{CallLeadsTo}
use Rattle.bds_engine_stages.proofs.Joining.{no_room, reaches_on}
use Rattle.bds_engine.specs.Stamping.{AreStamped, StampFails, StampHalts, Stamped, Told}
use Rattle.bds_engine.proofs.Outcomes.{Moves, faults_to, next, unfaulted}

get_middle : {X : Type 0} (xs : List X) (y : X) (ys : List X) → slice_get (xs ++ y ∷ ys) (length xs) ≡ Some y
get_middle [] y ys = refl
get_middle (x ∷ xs) y ys = get_middle xs y ys

pub same_count : (before after : Log) (files : List (List ℕ)) (stamps : List Stamp) → Stamped before files stamps after → length stamps ≡ length files
same_count before _ _ _ Stamped.none = refl
same_count before after _ _ (Stamped.more files stamps log _ file stamp s told) =
    length-append stamps (stamp ∷ []) ∙ ap (λ n. n + 1) (same_count before log files stamps s) ∙ sym (length-append files (file ∷ []))

module _ (s : Parts) (cpus budget used : ℕ) (d : List Stamp → State) (all : List (List ℕ)) where
  -- a step that asks for the next stamp, while there is a file
  abbrev pub AsksNext : Type 0
  AsksNext = (stamps : List Stamp) (file : List ℕ) → slice_get all (length stamps) ≡ Some file → next s cpus budget used (d stamps) ≡ stages.asking (d stamps) (ask.Stamp file) (λ r. d (stamps ++ stamp_in r ∷ []))

  module _ (asks : AsksNext) (from : State) (first : List (List ℕ)) (known : List Stamp) (same : length known ≡ length first) where
    next_there : (done rest : List (List ℕ)) (file : List ℕ) (stamps : List Stamp) → length stamps ≡ length done → all ≡ first ++ (done ++ file ∷ rest) → slice_get all (length (known ++ stamps)) ≡ Some file
    next_there done rest file stamps long e =
        let n : length (known ++ stamps) ≡ length (first ++ done) =
        length-append known stamps ∙ ap (λ x. x + length stamps) same ∙ ap (λ x. length first + x) long ∙ sym (length-append first done) in
        ap (λ xs. slice_get xs (length (known ++ stamps))) (e ∙ sym (append_assoc first done (file ∷ rest)))
        ∙ ap (λ i. slice_get ((first ++ done) ++ file ∷ rest) i) n ∙ get_middle (first ++ done) file rest

    -- behind those of the first of these files
    pub stamps_lead : (before log start : Log) (done rest : List (List ℕ)) (stamps : List Stamp) → all ≡ first ++ (done ++ rest) → Leads (Moves s cpus budget used) from start (d known) before → Stamped before done stamps log → Leads (Moves s cpus budget used) from start (d (known ++ stamps)) log
    stamps_lead before _ start _ rest _ e l Stamped.none = subst (λ x. Leads (Moves s cpus budget used) from start (d x) before) (sym (append-nil known)) l
    stamps_lead before after start _ rest _ e l (Stamped.more files stamps log _ file stamp st told) =
        let e' : all ≡ first ++ (files ++ file ∷ rest) = e ∙ ap (λ x. first ++ x) (append_assoc files (file ∷ []) rest) in
        let l' : Leads (Moves s cpus budget used) from start (d (known ++ stamps)) log = stamps_lead before log start files (file ∷ rest) stamps e' l st in
        let at : slice_get all (length (known ++ stamps)) ≡ Some file = next_there files rest file stamps (same_count before log files stamps st) e' in
        let go : Leads (Moves s cpus budget used) from start (stages.unless_fault (d (known ++ stamps)) told.reply (d ((known ++ stamps) ++ stamp_in told.reply ∷ []))) after =
        Leads.asks (d (known ++ stamps)) log after (ask.Stamp file) (λ r. stages.unless_fault (d (known ++ stamps)) r (d ((known ++ stamps) ++ stamp_in r ∷ []))) told.reply l' (asks (known ++ stamps) file at, tt) told.answered in
        let q : d ((known ++ stamps) ++ stamp_in told.reply ∷ []) ≡ d (known ++ (stamps ++ stamp ∷ [])) =
        ap d (append_assoc known stamps (stamp_in told.reply ∷ []) ∙ ap (λ x. known ++ (stamps ++ x ∷ [])) (sym told.is)) in
        subst (λ x. Leads (Moves s cpus budget used) from start x after) (unfaulted (d (known ++ stamps)) (d ((known ++ stamps) ++ stamp_in told.reply ∷ [])) told.reply told.fine ∙ q) go

    -- and where the next reply is a fault
    pub stamp_fails : (before after start : Log) (files rest : List (List ℕ)) (s' : Parts) → s'.unit ≡ s.unit → all ≡ first ++ (files ++ rest) → Leads (Moves s cpus budget used) from start (d known) before → StampFails files before after → CallLeadsTo s cpus budget from start after s' used (Ok stage.Faulted)
    stamp_fails before after start files rest s' unit e l x =
        let e' : all ≡ first ++ (x.done ++ x.file ∷ (x.rest ++ rest)) = e ∙ ap (λ y. first ++ (y ++ rest)) x.split ∙ ap (λ y. first ++ y) (append_assoc x.done (x.file ∷ x.rest) rest) in
        let l' : Leads (Moves s cpus budget used) from start (d (known ++ x.stamps)) x.log = stamps_lead before x.log start x.done (x.file ∷ (x.rest ++ rest)) x.stamps e' l x.stamped in
        let at : slice_get all (length (known ++ x.stamps)) ≡ Some x.file = next_there x.done (x.rest ++ rest) x.file x.stamps (same_count before x.log x.done x.stamps x.stamped) e' in
        reaches_on s cpus budget from (d (known ++ x.stamps)) start x.log after s' used (Ok stage.Faulted) l'
        (faults_to s cpus budget used (d (known ++ x.stamps)) x.log after (ask.Stamp x.file) (λ r. d ((known ++ x.stamps) ++ stamp_in r ∷ [])) s' (asks (known ++ x.stamps) x.file at) tt x.fault unit)

    -- and where there is no memory
    pub stamp_halts : (before after start : Log) (files rest : List (List ℕ)) (s' : Parts) → ((stamps : List Stamp) → IsOnWay (d stamps).mode) → all ≡ first ++ (files ++ rest) → Leads (Moves s cpus budget used) from start (d known) before → StampHalts files before after
        → CallLeadsTo s cpus budget from start after s' used (Err halt.NoMemory)
    stamp_halts before after start files rest s' way e l x =
        let e' : all ≡ first ++ (x.done ++ (x.rest ++ rest)) = e ∙ ap (λ y. first ++ (y ++ rest)) x.split ∙ ap (λ y. first ++ y) (append_assoc x.done x.rest rest) in
        let l' : Leads (Moves s cpus budget used) from start (d (known ++ x.stamps)) x.log = stamps_lead before x.log start x.done (x.rest ++ rest) x.stamps e' l x.stamped in
        reaches_on s cpus budget from (d (known ++ x.stamps)) start x.log after s' used (Err halt.NoMemory) l' (by e' x.halts)
      where
        by : all ≡ first ++ (x.done ++ (x.rest ++ rest)) → (after ≡ x.log) ⊎ ((file : List ℕ) × ((more : List (List ℕ)) × (x.rest ≡ file ∷ more) × FoundNoRoom x.log after (ask.Stamp file))) → RunHalts s.unit (d (known ++ x.stamps)) x.log after
        by e' (inl same) = Halts.halts_at (d (known ++ x.stamps)) (way (known ++ x.stamps)) (subst (λ z. Leads (Moves s cpus budget used) (d (known ++ x.stamps)) x.log (d (known ++ x.stamps)) z) (sym same) Leads.here)
        by e' (inr f) =
            let e'' : all ≡ first ++ (x.done ++ f.0 ∷ (f.1.0 ++ rest)) = e' ∙ ap (λ y. first ++ (x.done ++ (y ++ rest))) f.1.1 in
            let at : slice_get all (length (known ++ x.stamps)) ≡ Some f.0 = next_there x.done (f.1.0 ++ rest) f.0 x.stamps (same_count before x.log x.done x.stamps x.stamped) e'' in
            no_room s cpus budget (d (known ++ x.stamps)) (way (known ++ x.stamps)) x.log after (ask.Stamp f.0) (λ r. stages.unless_fault (d (known ++ x.stamps)) r (d ((known ++ x.stamps) ++ stamp_in r ∷ []))) (asks (known ++ x.stamps) f.0 at, tt) f.1.2

-- A loop over files

cut_at : (files : List (List ℕ)) (i : ℕ) (x : List ℕ) → i < length files → x ≡ get_or files i x → files ≡ take i files ++ x ∷ drop (i + 1) files
cut_at files i x low is =
    let more : drop i files ≡ get_or files i x ∷ drop (i + 1) files = drop_more files i x low in
    sym (take-append-drop i files) ∙ ap (λ ys. take i files ++ ys) (more ∙ ap (λ y. y ∷ drop (i + 1) files) (sym is))

take_one : (files : List (List ℕ)) (i : ℕ) (x : List ℕ) → i < length files → x ≡ get_or files i x → take i files ++ x ∷ [] ≡ take (i + 1) files
take_one files i x low is = ap (λ y. take i files ++ y ∷ []) is ∙ sym (take_more files i x low)

module _ (before : Log) (files : List (List ℕ)) (i : ℕ) (x : List ℕ) (low : i < length files) (is : x ≡ get_or files i x) where
  pub stamped_more : (log after : Log) (stamps : List Stamp) (stamp : Stamp) → Stamped before (take i files) stamps log → Told x log after stamp → Stamped before (take (i + 1) files) (stamps ++ stamp ∷ []) after
  stamped_more log after stamps stamp s told = subst (λ fs. Stamped before fs (stamps ++ stamp ∷ []) after) (take_one files i x low is) (Stamped.more (take i files) stamps log after x stamp s told)

  pub stamped_fails : (log after : Log) (stamps : List Stamp) → Stamped before (take i files) stamps log → Answered log after (ask.Stamp x) reply.Fault → StampFails files before after
  stamped_fails log after stamps s answered = record { done = take i files; file = x; rest = drop (i + 1) files; stamps = stamps; log = log; split = cut_at files i x low is; stamped = s; fault = answered }

  pub stamped_halts : (log after : Log) (stamps : List Stamp) → Stamped before (take i files) stamps log → FoundNoRoom log after (ask.Stamp x) → StampHalts files before after
  stamped_halts log after stamps s found = record { done = take i files; rest = x ∷ drop (i + 1) files; stamps = stamps; log = log; split = cut_at files i x low is; stamped = s; halts = inr (x, (drop (i + 1) files, refl, found)) }

  pub stamped_stops : (log after : Log) (stamps : List Stamp) (stamp : Stamp) → Stamped before (take i files) stamps log → Told x log after stamp → StampHalts files before after
  stamped_stops log after stamps stamp s told = record {
    done = take (i + 1) files;
    rest = drop (i + 1) files;
    stamps = stamps ++ stamp ∷ [];
    log = after;
    split = sym (take-append-drop (i + 1) files);
    stamped = stamped_more log after stamps stamp s told;
    halts = inl refl;
  }

pub stamped_all : (before log : Log) (files : List (List ℕ)) (stamps : List Stamp) → Stamped before (take (length files) files) stamps log → Stamped before files stamps log
stamped_all before log files stamps s = subst (λ fs. Stamped before fs stamps log) (take-length files) s

pub stops_stamps : (files : List (List ℕ)) (before after : Log) (r : Result (Option (List Stamp)) NoMemory) → IsErr r → StampHalts files before after → AreStamped files before after r
stops_stamps files before after (Ok x) is h = absurd (false≢true is)
stops_stamps files before after (Err e) is h = h

pub fails_stamps : (files : List (List ℕ)) (before after : Log) (o : Option (List Stamp)) → ((x : List Stamp) → o ≡ Some x → ⊥) → AreStamped files before after (Ok o) → StampFails files before after
fails_stamps files before after (Some x) not h = absurd (not x refl)
fails_stamps files before after None not h = h
