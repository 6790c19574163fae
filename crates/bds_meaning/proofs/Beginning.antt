-- While files are read, what was asked are their reads.
use Rattle.std.proofs.Common.{◌≡◌, ◌∙◌, ℕ, List, [], ◌∷◌, ◌++◌, Ok, Err, Result, sym, ap, refl, subst}
use Rattle.std.proofs.lemmas.List.{map-append}
use Rattle.bds_host.specs.declared.asks.Ask.{Ask}
use Rattle.bds_host.specs.declared.asks.Ask.TheVariants.{Read}
use Rattle.bds_host.specs.declared.asks.Reply.{Reply}
use Rattle.bds_host.specs.declared.asks.Reply.TheVariants as reply
use Rattle.bds_host.specs.declared.faults.Fault.{Fault}
use Rattle.bds_host.specs.Host.{Log}
use Rattle.bds_tree.specs.StmtTree.{ScriptTree}
use Rattle.bds_meaning.specs.Begin.{Job, JobEnd, refused, Stage, Reading, AtEnd, Steps, Begins, BeginsWithReads, read_gives, or_faulting, opens_if, reads_of}
use Rattle.bds_meaning.specs.Files.{Files}
use Rattle.bds_meaning.specs.Refusals.{Preset, Accepted, accepted}
use Rattle.bds_schedule.specs.Steps.{Goes, Asks, Leads}

abbrev HasRead : Stage → Log → Type 0
HasRead (Reading files) log = log ≡ reads_of files
HasRead _ log = Unit {0}

opened_has : (job : Job) (r : Result Accepted Fault) (log : Log) → HasRead (opens_if job r) log
opened_has job (Ok r) log = tt
opened_has job (Err f) log = tt

told_has : (r : Reply) (log : Log) (end : JobEnd) → HasRead (or_faulting (AtEnd end) r) log
told_has (reply.Bytes text) log end = tt
told_has reply.Missing log end = tt
told_has (reply.Stamp there size time) log end = tt
told_has reply.Done log end = tt
told_has (reply.SysDone code out) log end = tt
told_has reply.Started log end = tt
told_has (reply.Run k) log end = tt
told_has (reply.Ended task code) log end = tt
told_has reply.Fault log end = tt
told_has reply.NoRoom log end = tt

read_has : (files : Files) (path : List ℕ) (r : Reply) (log : Log) → log ≡ reads_of files → HasRead (read_gives files path r) (log ++ (Read path, r) ∷ [])
read_has files path (reply.Bytes text) log is = ap (λ l. l ++ (Read path, reply.Bytes text) ∷ []) is ∙ sym (map-append (λ f. (Read f.0, reply.Bytes f.1)) files ((path, text) ∷ []))
read_has files path reply.Missing log is = tt
read_has files path (reply.Stamp there size time) log is = tt
read_has files path reply.Done log is = tt
read_has files path (reply.SysDone code out) log is = tt
read_has files path reply.Started log is = tt
read_has files path (reply.Run k) log is = tt
read_has files path (reply.Ended task code) log is = tt
read_has files path reply.Fault log is = tt
read_has files path reply.NoRoom log is = tt

module _ (job : Job) (words : ScriptTree → Result Preset Fault) (size : ScriptTree → Preset → ℕ) where
  goes_has : (s t : Stage) (log : Log) → Steps job words size s (Goes t) → HasRead t log
  goes_has _ _ log (Steps.long_path files next is long) = tt
  goes_has _ _ log (Steps.flawed files path text flaw f has told) = tt
  goes_has _ _ log (Steps.whole files program beyond made same) = opened_has job (accepted job.path words size program beyond) log
  goes_has _ _ log (Steps.run_goes program c d moves) = tt
  goes_has _ _ log (Steps.run_ends program c end moves) = tt

  asks_has : (s : Stage) (ask : Ask) (next : Reply → Stage) (r : Reply) (log : Log) → Steps job words size s (Asks ask next) → HasRead s log → HasRead (next r) (log ++ (ask, r) ∷ [])
  asks_has _ _ _ r log (Steps.reads files next is short) has = read_has files next r log has
  asks_has _ _ _ r log (Steps.run_asks program c ask next moves) has = tt
  asks_has _ _ _ r log (Steps.refuses f) has = told_has r (log ++ _ ∷ []) refused
  asks_has _ _ _ r log Steps.faults has = tt

  has_read : (s : Stage) (log : Log) → Begins job words size log s → HasRead s log
  has_read _ _ Leads.here = refl
  has_read _ _ (Leads.goes s t log leads step) = goes_has s t log step
  has_read _ _ (Leads.asks s log after ask next r leads step answered) =
      subst (λ l. HasRead (next r) l) (sym answered.grown) (asks_has s ask next r log step (has_read s log leads))

pub begins_with_reads : BeginsWithReads
begins_with_reads job words size files pairs begins = has_read job words size (Reading files) pairs begins
