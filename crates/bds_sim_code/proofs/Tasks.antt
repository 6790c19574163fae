-- The code of tasks and rules begins their terms: what isn't given is set, then come the options, and the command at the end.
use Rattle.std.proofs.Common.{◌≡◌, ℕ, ◌+◌, Bool, true, false, List, [], ◌∷◌, ◌++◌, Option, None, refl, sym, ◌∙◌, subst, inl, inr, arith, if◌then◌else◌}
use Rattle.std.specs.Prelude.{codes}
use Rattle.bds_value.specs.declared.value.At.{At}
use Rattle.bds_value.specs.declared.value.Op.TheVariants as vop
use Rattle.bds_value.specs.declared.value.Ty.{Ty}
use Rattle.bds_value.specs.declared.value.Ty.TheVariants as ty
use Rattle.bds_value.specs.declared.value.Value.TheVariants as value
use Rattle.bds_tree.specs.declared.stmt.Body.{Body}
use Rattle.bds_tree.specs.declared.stmt.Body.TheVariants as body
use Rattle.bds_tree.specs.declared.stmt.Command.{Command}
use Rattle.bds_tree.specs.StmtTree.{SettingTree}
use Rattle.bds_code.specs.declared.instr.Instr.TheVariants as instr
use Rattle.bds_code.specs.declared.unit.Unit.{Unit as CodeUnit}
use Rattle.bds_check_names.specs.declared.names.Names.{Names as Checked}
use Rattle.bds_check_rules.specs.StmtBreaks.{commands_of}
use Rattle.bds_check_size.specs.Parts.{parts_of}
use Rattle.bds_check_size.specs.StmtSize.{pieces_size, further_commands_size, commands_size, settings_size, has_condition, defaults_size, task_size}
use Rattle.bds_gen_expr.specs.ExprCode.{pieces_code}
use Rattle.bds_gen_expr.specs.Marks.{Mark, does, label, one as one_mark}
use Rattle.bds_gen_expr.specs.Scope.{types_in}
use Rattle.bds_gen_expr.specs.declared.scope.Scope.{Scope}
use Rattle.bds_gen_expr.proofs.Counts.{parts-count}
use Rattle.bds_gen_stmt.specs.TaskCode.{needed_slot, defaults_code, settings_code, further_commands, commands_code, make_code, task_behind, task_code}
use Rattle.bds_gen_stmt.proofs.ActCounts.{settings-count, commands-count, make-count}
use Rattle.bds_gen_stmt.proofs.WholeCounts.{defaults-count}
use Rattle.bds_meaning.specs.OpeningActs.{commands_joined, commands_term, body_term, making_term}
use Rattle.bds_meaning.specs.OpeningTexts.{plain, joined, text_term}
use Rattle.bds_meaning.specs.Term.{Operated, Term, Make, Making, as_task, as_rule}
use Rattle.bds_meaning.specs.Work.{Setting, Condition, unset}
use Rattle.bds_sim_terms.specs.steps.Stands.{Source, Names, Loop, AreAmong, made_of, making_code, making_count, Is, Comes, AreSpare, Wanted, Sets}
use Rattle.bds_sim_code.proofs.Blocks.{Part, Form, comes_here, comes_jump}
use Rattle.bds_sim_code.proofs.Exprs.{goes_from, at_place, computed_two, pushed, pieces_begin}
use Rattle.bds_sim_code.proofs.Agree.{Agrees}
use Rattle.bds_sim_code.proofs.Known.{known_after, defaults_of, all_known, among_after}
use Rattle.bds_sim_code.proofs.Marked.{Has, has_cut}
use Rattle.bds_sim_code.proofs.Options.{work_settings, first_slot, defaults_set, After, settings_after, options_begin}
use Rattle.bds_sim_code.specs.StmtHere.{SettingsHere, CommandsHere, BodyHere}

module _ (o : Source) (u : CodeUnit) (fn : ℕ) (held : List ℕ) (ns : Names) (names : Checked) (sc : Scope) (agrees : Agrees o u names sc ns) where
  abbrev P : Term → ℕ → ℕ → ℕ → Type 0
  P t pc exit kind = Part o u fn held ns t pc exit kind

  abbrev H : List Mark → ℕ → Type 0
  H ms pc = Has o u fn ms pc

  abbrev C : ℕ → ℕ → Type 0
  C pc to = Comes o u fn pc to

  abbrev T : List ℕ → Option Ty
  T = types_in sc

  goes : (a b to : ℕ) → a ≡ b → C a to → C b to
  goes a b to e c = goes_from o u fn held ns names sc agrees a b to e c

  -- Commands

  -- two texts as one
  concatenated : (a b : Term) (at : At) (from mid end : ℕ) → P a from mid 1 → P b mid end 1 → H (one_mark at instr.Concat) end → P (joined at a b) from (end + 1) 1
  concatenated a b at from mid end ha hb h = computed_two o u fn held ns names sc agrees None (Operated vop.Concat) instr.Concat at a b from mid end (end + 1) (refl, refl) ha hb h.0 (comes_here o u fn (end + 1))

  further_begin : (cs : List Command) (at : At) (a : Term) (from pc : ℕ) → P a from pc 1 → CommandsHere o u names sc cs → H (further_commands cs sc at) pc → P (commands_joined names at a cs) from (pc + further_commands_size T cs) 1
  further_begin [] at a from pc ha here h = at_place o u fn held ns names sc agrees a from pc (pc + 0) 1 (omega arith) ha
  further_begin (c ∷ cs) at a from pc ha here h =
      let n = pieces_size T c.text in
      let m = further_commands_size T cs in
      let line_end = pushed o u fn held ns names sc agrees None (instr.PushText (10 ∷ [])) (value.Text (10 ∷ [])) at pc (pc + 1) refl h.0 (comes_here o u fn (pc + 1)) in
      let first = concatenated a (plain (codes "\n")) at from pc (pc + 1) ha line_end (h.1.0, tt) in
      let start = pc + 1 + 1 in
      let r = has_cut o u fn (pieces_code sc c.at c.text) (does instr.Concat at ∷ further_commands cs sc at) start n (parts-count sc c.at (parts_of T c.text)) h.1.1 in
      let text = pieces_begin o u fn held ns names sc agrees c.text c.at start here.0 r.0 None (start + n) (comes_here o u fn (start + n)) in
      let both = concatenated (joined at a (plain (codes "\n"))) (text_term names c.at c.text) at from start (start + n) first text (r.1.0, tt) in
      let all = further_begin cs at (joined at (joined at a (plain (codes "\n"))) (text_term names c.at c.text)) from (start + n + 1) both here.1 r.1.1 in
      at_place o u fn held ns names sc agrees (commands_joined names at a (c ∷ cs)) from (start + n + 1 + m) (pc + (2 + n + 1 + m)) 1 (omega arith) all

  commands_begin : (cs : List Command) (at : At) (pc : ℕ) → BodyHere o u names sc cs → H (commands_code cs sc at) pc → P (commands_term names at cs) pc (pc + commands_size T cs) 1
  commands_begin [] at pc here h = absurd here
  commands_begin (c ∷ cs) at pc here h =
      let n = pieces_size T c.text in
      let m = further_commands_size T cs in
      let r = has_cut o u fn (pieces_code sc c.at c.text) (further_commands cs sc at) pc n (parts-count sc c.at (parts_of T c.text)) h in
      let text = pieces_begin o u fn held ns names sc agrees c.text c.at pc here.0 r.0 None (pc + n) (comes_here o u fn (pc + n)) in
      at_place o u fn held ns names sc agrees (commands_term names at (c ∷ cs)) pc (pc + n + m) (pc + (n + m)) 1 (omega arith) (further_begin cs at (text_term names c.at c.text) pc (pc + n) text here.1 r.1)

  body_begins : (b : Body) (at : At) (pc : ℕ) → BodyHere o u names sc (commands_of b) → H (commands_code (commands_of b) sc at) pc → P (body_term names at b) pc (pc + commands_size T (commands_of b)) 1
  body_begins (body.Sys c) at pc here h = commands_begin (c ∷ []) at pc here h
  body_begins (body.Block cs) at pc here h = commands_begin cs at pc here h

  module _ (first : ℕ) where
    -- a task or a rule is made of options that are in their slots
    made : (making : Making) (b : Body) (at : At) (tested : Bool) (ks : List Setting) (pc start exit : ℕ) → BodyHere o u names sc (commands_of b) → AreAmong made_of ks → Wanted o u making tested unset fn first ks pc start exit (making_count making)
        → H (make_code (making_code making) b at sc first) start → C (start + (6 + commands_size T (commands_of b) + 1)) exit → After o u fn first held ns names sc agrees exit (making_count making) tested (Make making at unset (body_term names at b)) ks pc
    made making b at tested ks pc start exit here all wanted h c =
        let n = commands_size T (commands_of b) in
        let command = start + 1 + 1 + 1 + 1 + 1 + 1 in
        let r = has_cut o u fn (commands_code (commands_of b) sc at) (one_mark at (making_code making)) command n (commands-count (commands_of b) sc at) h.1.1.1.1.1.1 in (
          start,
          command,
          command + n,
          all,
          wanted,
          (subst (λ i. Is o u fn start (instr.Load i)) (first_slot first) h.0.is, (h.1.0.is, (h.1.1.0.is, (h.1.1.1.0.is, (h.1.1.1.1.0.is, (h.1.1.1.1.1.0.is, refl)))))),
          body_begins b at command here r.0,
          r.1.0,
          goes (start + (6 + n + 1)) (command + n + 1) exit (omega arith) c,
          refl,
        )

    module _ (spare : AreSpare o u first ns held) (loop : Option Loop) where
      begun : (making : Making) (os : List SettingTree) (b : Body) (at : At) (tested : Bool) (ks : List Setting) (pc mid exit : ℕ) → Sets o u unset fn first pc ks mid
          → After o u fn first held ns names sc agrees exit (making_count making) tested (making_term names at making os b) ks mid → Form o u fn held ns loop (making_term names at making os b) pc exit (making_count making)
      begun making os b at tested ks pc mid exit sets h =
          options_begin o u fn first held ns names sc agrees (making_term names at making os b) loop exit (making_count making) tested ks pc mid spare
          (subst (λ w. Sets o u w fn first pc ks mid) (sym (work_settings names making os (Make making at unset (body_term names at b)))) sets) h

      pub rule_begins : (os : List SettingTree) (b : Body) (at : At) (s : List Ty) (pc to : ℕ) → SettingsHere o u names sc os → BodyHere o u names sc (commands_of b)
          → H (defaults_code os at first ++ (settings_code true os sc first (pc + defaults_size os) s ++ make_code instr.Declare b at sc first)) pc → C (pc + (defaults_size os + settings_size T true os + 6 + commands_size T (commands_of b) + 1)) to → Form o u fn held ns loop (making_term names at as_rule os b) pc to 0
      rule_begins os b at s pc to here asks h c =
          let d = defaults_size os in
          let n = settings_size T true os in
          let m = commands_size T (commands_of b) in
          let r = has_cut o u fn (defaults_code os at first) (settings_code true os sc first (pc + d) s ++ make_code instr.Declare b at sc first) pc d (defaults-count os at first) h in
          let r2 = has_cut o u fn (settings_code true os sc first (pc + d) s) (make_code instr.Declare b at sc first) (pc + d) n (settings-count true os sc first (pc + d) s) r.1 in
          let ks : List Setting = defaults_of os in
          begun as_rule os b at true ks pc (pc + d) to (defaults_set o u fn first os at pc r.0)
          (settings_after o u fn first held ns names sc agrees to 0 true os as_rule (Make as_rule at unset (body_term names at b)) s ks (pc + d) here (λ e. refl) r2.0
          (made as_rule b at true (known_after os ks) (pc + d + n) (pc + d + n) to asks (all_known os ks (λ k a. a)) refl r2.1 (goes (pc + (d + n + 6 + m + 1)) (pc + d + n + (6 + m + 1)) to (omega arith) c)))

      -- without a condition the task is needed
      plain_begins : (os : List SettingTree) (b : Body) (at : At) (s : List Ty) (pc to : ℕ) → has_condition os ≡ false → SettingsHere o u names sc os → BodyHere o u names sc (commands_of b)
          → H (defaults_code os at first ++ task_behind false os b at sc first (pc + defaults_size os) s) pc → C (pc + (defaults_size os + (settings_size T false os + 6 + commands_size T (commands_of b) + 1))) to → Form o u fn held ns loop (making_term names at as_task os b) pc to 1
      plain_begins os b at s pc to without here asks h c =
          let d = defaults_size os in
          let n = settings_size T false os in
          let m = commands_size T (commands_of b) in
          let r = has_cut o u fn (defaults_code os at first) (task_behind false os b at sc first (pc + d) s) pc d (defaults-count os at first) h in
          let r2 = has_cut o u fn (settings_code false os sc first (pc + d) s) (make_code instr.NewTask b at sc first) (pc + d) n (settings-count false os sc first (pc + d) s) r.1 in
          let ks : List Setting = defaults_of os in
          begun as_task os b at false ks pc (pc + d) to (defaults_set o u fn first os at pc r.0)
          (settings_after o u fn first held ns names sc agrees to 1 false os as_task (Make as_task at unset (body_term names at b)) s ks (pc + d) here (λ e. sym without ∙ e) r2.0
          (made as_task b at false (known_after os ks) (pc + d + n) (pc + d + n) to asks (all_known os ks (λ k a. a)) (refl, refl) r2.1 (goes (pc + (d + (n + 6 + m + 1))) (pc + d + n + (6 + m + 1)) to (omega arith) c)))

      -- with one, whether it is needed stands in a slot
      tested_begins : (os : List SettingTree) (b : Body) (at : At) (s : List Ty) (pc to : ℕ) → SettingsHere o u names sc os → BodyHere o u names sc (commands_of b)
          → H (defaults_code os at first ++ task_behind true os b at sc first (pc + defaults_size os) s) pc → C (pc + (defaults_size os + (2 + settings_size T false os + 2 + 6 + commands_size T (commands_of b) + 1 + 1 + 1))) to → Form o u fn held ns loop (making_term names at as_task os b) pc to 1
      tested_begins os b at s pc to here asks h c =
          let d = defaults_size os in
          let n = settings_size T false os in
          let m = commands_size T (commands_of b) in
          let set = pc + d in
          let from = set + 2 in
          let test = from + n in
          let start = test + 1 + 1 in
          let behind = set + 2 + n in
          let other = behind + 2 + 6 + m + 1 + 1 in
          let last : List Mark = does (instr.Jump (other + 1)) at ∷ label s ∷ does (instr.PushText []) at ∷ label (ty.Text ∷ s) ∷ [] in
          let tests : List Mark = does (instr.Load (needed_slot first)) at ∷ does (instr.JumpUnless other) at ∷ (make_code instr.NewTask b at sc first ++ last) in
          let r = has_cut o u fn (defaults_code os at first) (task_behind true os b at sc first set s) pc d (defaults-count os at first) h in
          let h2 : H (settings_code false os sc first from s ++ tests) from = subst (H (settings_code false os sc first from s ++ tests)) (let q : set + 1 + 1 ≡ set + 2 = omega arith in q) r.1.1.1 in
          let r2 = has_cut o u fn (settings_code false os sc first from s) tests from n (settings-count false os sc first from s) h2 in
          let r3 = has_cut o u fn (make_code instr.NewTask b at sc first) last start (6 + m + 1) (make-count instr.NewTask b at sc first) r2.1.1.1 in
          let ks : List Setting = Condition ∷ defaults_of os in
          let jump = start + (6 + m + 1) in
          let here_other : jump + 1 ≡ other = omega arith in
          let c2 : C (other + 1) to = goes (pc + (d + (2 + n + 2 + 6 + m + 1 + 1 + 1))) (other + 1) to (omega arith) c in
          let sets : Sets o u unset fn first pc ks from = (set, defaults_set o u fn first os at pc r.0, (instr.PushBool true, refl, (r.1.0.is, (r.1.1.0.is, (let q : set + 1 + 1 ≡ set + 2 = omega arith in q))))) in
          begun as_task os b at true ks pc from to sets
          (settings_after o u fn first held ns names sc agrees to 1 true os as_task (Make as_task at unset (body_term names at b)) s ks from here (λ e. refl) r2.0
          (made as_task b at true (known_after os ks) test start to asks (all_known os ks (λ k a. inr a))
          (other, other + 1, among_after os Condition ks (inl refl), (r2.1.0.is, (r2.1.1.0.is, refl)), (subst (λ k. Is o u fn k (instr.PushText [])) here_other r3.1.1.0.is, refl), c2, refl)
          r3.0 (comes_jump o u fn jump (other + 1) to r3.1.0.is c2)))

      pub task_begins : (os : List SettingTree) (b : Body) (at : At) (s : List Ty) (pc to : ℕ) → SettingsHere o u names sc os → BodyHere o u names sc (commands_of b) → H (task_code os b at sc first pc s) pc → C (pc + task_size T os b) to → Form o u fn held ns loop (making_term names at as_task os b) pc to 1
      task_begins os b at s pc to here asks h c = by (has_condition os) refl h c
        where
          by : (w : Bool) → has_condition os ≡ w → H (defaults_code os at first ++ task_behind w os b at sc first (pc + defaults_size os) s) pc
              → C (pc + (defaults_size os + (if w then 2 + settings_size T false os + 2 + 6 + commands_size T (commands_of b) + 1 + 1 + 1 else settings_size T false os + 6 + commands_size T (commands_of b) + 1))) to → Form o u fn held ns loop (making_term names at as_task os b) pc to 1
          by true e h c = tested_begins os b at s pc to here asks h c
          by false e h c = plain_begins os b at s pc to e here asks h c
