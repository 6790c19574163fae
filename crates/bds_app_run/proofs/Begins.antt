-- What loading asks is what a job asks while it reads.
use Rattle.std.proofs.Common.{◌≡◌, ◌≢◌, ◌∙◌, ℕ, List, [], ◌∷◌, ◌++◌, Option, Some, None, Result, Ok, Err, sym, ap, subst, refl}
use Rattle.std.specs.Prelude.{slice_get, unwrap_or}
use Rattle.bds_host.specs.Host.{Log}
use Rattle.bds_host.specs.declared.asks.Ask.TheVariants.{Read}
use Rattle.bds_host.specs.declared.asks.Reply.TheVariants as reply
use Rattle.bds_host.specs.declared.faults.Fault.{Fault}
use Rattle.bds_host.specs.declared.faults.Fault.TheVariants as fault
use Rattle.bds_tree.specs.declared.lexing.LexFault.{LexFault}
use Rattle.bds_tree.specs.declared.lexing.LexFault.TheVariants as lex
use Rattle.bds_tree.specs.ScriptTexts.{TextFlaw, HasFlaw, too_long, no_tokens, no_script}
use Rattle.bds_tree.specs.StmtTree.{ScriptTree}
use Rattle.bds_check_typing.specs.Walk.{Broken}
use Rattle.bds_check.specs.declared.checking.TypedScript.{TypedScript}
use Rattle.bds_check_typing.specs.Program.{first_broken, typed}
use Rattle.bds_meaning.specs.Begin.{Job, Stage, Reading, Refusing, Steps, opens_if, read_gives}
use Rattle.bds_meaning.specs.Files.{Files}
use Rattle.bds_meaning.specs.Refusals.{text_fault, lexer_fault, name_of, broken_fault, checked, Preset, accepted}
use Rattle.bds_schedule.specs.Steps.{Leads, Halts}
use Rattle.bds_front.specs.declared.front_fault.FrontFault.{FrontFault}
use Rattle.bds_front.specs.declared.front_fault.FrontFault.TheVariants as front
use Rattle.bds_front.specs.Loading.{Reads, Stops, Makes, Loads}
use Rattle.bds_app_run.specs.Begun.{Begun}

told-lexer : (p : List ℕ) (f : LexFault) → f ≢ lex.NoMemory → (g : Fault) × (lexer_fault p f ≡ Some g)
told-lexer p (lex.OpenText line) h = (fault.OpenText p line, refl)
told-lexer p (lex.OpenComment line) h = (fault.OpenComment p line, refl)
told-lexer p (lex.BadByte line byte) h = (fault.BadByte p line byte, refl)
told-lexer p (lex.BigNumber line) h = (fault.BigNumber p line, refl)
told-lexer p (lex.BadEscape line byte) h = (fault.BadEscape p line byte, refl)
told-lexer p lex.NoMemory h = absurd (h refl)

broken-told : (files : List (List ℕ)) (b : Broken) (p : List ℕ) → slice_get files b.at.file ≡ Some p → broken_fault files b ≡ fault.Broken p b.at.line (name_of b.rule)
broken-told files b p h = ap (λ (o : Option (List ℕ)). fault.Broken (unwrap_or o []) b.at.line (name_of b.rule)) h

module _ (job : Job) (words : ScriptTree → Result Preset Fault) (size : ScriptTree → Preset → ℕ) where
  refuse-broken : (program : ScriptTree) (beyond : List (List ℕ)) (b : Broken) → first_broken program ≡ Some b → opens_if job (accepted job.path words size program beyond) ≡ Refusing (broken_fault program.files b)
  refuse-broken program beyond b h = rw h refl

  refuse-deep : (program : ScriptTree) (p : List ℕ) (beyond : List (List ℕ)) → first_broken program ≡ None → opens_if job (accepted job.path words size program (p ∷ beyond)) ≡ Refusing (fault.IncludeTooDeep p)
  refuse-deep program p beyond h = rw h refl

  checks : (program : ScriptTree) → first_broken program ≡ None → checked program [] ≡ Ok (typed program)
  checks program h = rw h refl

  leads : (before : Log) (files : Files) (after : Log) → Reads job.path [] before files after → Leads (Steps job words size) (Reading []) before (Reading files) after
  leads before files after Reads.nothing = Leads.here
  leads before files after (Reads.one_more all log _ next text there is short answered) =
      Leads.asks (Reading all) log after (Read next) (read_gives all next) (reply.Bytes text) (leads before all log there) (Steps.reads all next is short) answered

  flawed : (before after : Log) (all : Files) (p text : List ℕ) (flaw : TextFlaw) (g : Fault) → Reads job.path [] before (all ++ (p, text) ∷ []) after → HasFlaw text flaw → text_fault p flaw ≡ Some g →
      Leads (Steps job words size) (Reading []) before (Refusing g) after
  flawed before after all p text flaw g there has is = Leads.goes (Reading (all ++ (p, text) ∷ [])) (Refusing g) after (leads before (all ++ (p, text) ∷ []) after there) (Steps.flawed all p text flaw g has is)

  stopped : (before after : Log) (f : FrontFault) → Stops job.path [] before after f → Begun job words size before after (Err f)
  stopped before after f (Stops.missing all log next there is short answered) =
      Begun.refused (front.Missing next) (fault.Missing next) refl
      (Leads.asks (Reading all) log after (Read next) (read_gives all next) reply.Missing (leads before all log there) (Steps.reads all next is short) answered)
  stopped before after f (Stops.device all log next there is short answered) =
      Begun.faulted (Leads.asks (Reading all) log after (Read next) (read_gives all next) reply.Fault (leads before all log there) (Steps.reads all next is short) answered)
  stopped before after f (Stops.long_path all next there is long) =
      Begun.refused (front.TooLong next) (fault.TooLong next) refl (Leads.goes (Reading all) (Refusing (fault.TooLong next)) after (leads before all after there) (Steps.long_path all next is long))
  stopped before after f (Stops.long_text all p text there flaw) = Begun.refused (front.TooLong p) (fault.TooLong p) refl (flawed before after all p text too_long (fault.TooLong p) there flaw refl)
  stopped before after f (Stops.unlexed all p text g there flaw some) =
      let t = told-lexer p g some in
      Begun.refused (front.Lex p g) t.0 t.1 (flawed before after all p text (no_tokens g) t.0 there flaw t.1)
  stopped before after f (Stops.unspelled all p text line there flaw) =
      Begun.refused (front.Parse p _) (fault.Syntax p line) refl (flawed before after all p text (no_script line) (fault.Syntax p line) there flaw refl)
  stopped before after f (Stops.no_memory all there) = Begun.halted (Halts.halts_at (Reading all) tt (leads before all after there))
  stopped before after f (Stops.no_room all log next there is short e) =
      Begun.halted (Halts.halts_asking (Reading all) log (Read next) (read_gives all next) (leads before all log there) (Steps.reads all next is short) e)

  whole : (before after : Log) (files : Files) (program : ScriptTree) (beyond : List (List ℕ)) (g : Fault) → Makes job.path before after files program beyond →
      opens_if job (accepted job.path words size program beyond) ≡ Refusing g → Leads (Steps job words size) (Reading []) before (Refusing g) after
  whole before after files program beyond g m e =
      subst (λ (s : Stage). Leads (Steps job words size) (Reading []) before s after) e
      (Leads.goes (Reading files) (opens_if job (accepted job.path words size program beyond)) after (leads before files after m.read) (Steps.whole files program beyond m.made m.paths))

  pub begun : (before after : Log) (r : Result TypedScript FrontFault) → Loads job.path before after r → Begun job words size before after r
  begun before after r (Loads.loaded files program t m accepted_here same settings args) =
      Begun.read files program t (leads before files after m.read) (Steps.whole files program [] m.made m.paths) (checks program accepted_here ∙ ap Ok (sym same))
  begun before after r (Loads.stopped f s) = stopped before after f s
  begun before after r (Loads.broken files program beyond b p m is at) =
      Begun.refused (front.Check p _) (fault.Broken p b.at.line (name_of b.rule)) refl
      (whole before after files program beyond (fault.Broken p b.at.line (name_of b.rule)) m (refuse-broken program beyond b is ∙ ap Refusing (broken-told program.files b p at)))
  begun before after r (Loads.too_deep files program p beyond m accepted_here) =
      Begun.refused (front.IncludeTooDeep p) (fault.IncludeTooDeep p) refl (whole before after files program (p ∷ beyond) (fault.IncludeTooDeep p) m (refuse-deep program p beyond accepted_here))
