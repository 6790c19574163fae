-- What is asked of names and types for the code of a statement to stand for its term, form by form. It is what an accepted script has.
use Rattle.std.specs.Prelude.{◌≡◌, ℕ, ◌+◌, Bool, true, false, List, [], ◌∷◌, length, drop, Option, Some, None, IsSome, slice_get, ⊤}
use Rattle.bds_value.specs.declared.methods.Method.{Method}
use Rattle.bds_value.specs.declared.methods.Method.TheVariants as by
use Rattle.bds_value.specs.declared.value.Ty.{Ty}
use Rattle.bds_value.specs.Methods.{signature_of}
use Rattle.bds_tree.specs.StmtTree.{SmallFormTree, small_declare, small_infer, small_assign, small_update, small_step, small_call, SmallTree, SuffixTree, at_index, at_key, PlaceTree, StmtTree, StmtFormTree, LineTree, RightTree, ActFormTree, BlockTree, StmtTrees, stmt, inner_block, empty, line, when, while, for, each, declare, infer, assign, update, step, call_line, print, println, error, exit, break, continue, return, wait, checkpoint, act_line, right_expr, right_act, act, sys, task, dep, goal, par_call, par_block, ActTree, SettingFormTree, setting_named, setting_plain, SettingTree, block, no_stmts, more_stmts, no_stmt, a_stmt, no_right, a_right, switch, CaseTrees, CaseTree, no_cases, more_cases, a_case}
use Rattle.bds_tree.specs.declared.stmt.Command.{Command}
use Rattle.bds_tree.specs.Tree.{Tree, FormTree, Trees, node, name, item, key, method, dependency, type_of}
use Rattle.bds_code.specs.declared.unit.Function.{Function}
use Rattle.bds_code.specs.declared.unit.Unit.{Unit as CodeUnit}
use Rattle.bds_check_names.specs.declared.names.Names.{Names as Checked}
use Rattle.bds_check_names.specs.declared.names.Site.{Site}
use Rattle.bds_check_names.specs.declared.names.Variable.{Variable}
use Rattle.bds_check_names.specs.Scopes.{any_named, inner, apart, with_local}
use Rattle.bds_check_names.specs.Slots.{slots, small_slots, case_slots}
use Rattle.bds_check_rules.specs.Declarations.{declared_by, declared_by_small}
use Rattle.bds_check_rules.specs.StmtBreaks.{commands_of, stepped}
use Rattle.bds_check_rules.specs.Typing.{count}
use Rattle.bds_check_size.specs.Parts.{parts_of}
use Rattle.bds_check_size.specs.StmtSize.{maybe_settings}
use Rattle.bds_gen_expr.specs.Scope.{types_in, with_slot}
use Rattle.bds_gen_expr.specs.declared.scope.Scope.{Scope}
use Rattle.bds_gen_expr.specs.Numbers.{visible_locals}
use Rattle.bds_gen_stmt.specs.FunctionCode.{opening}
use Rattle.bds_machine_values.specs.Updates.{operand_counts}
use Rattle.bds_meaning.specs.OpeningStatements.{behind, behind_small}
use Rattle.bds_meaning.specs.Step.{function_in}
use Rattle.bds_sim_terms.specs.steps.Stands.{Source, IsMutation, results}
use Rattle.bds_sim_code.specs.Here.{IsOne, Here, AllHere, PartsKnown}

-- What stands behind a statement of a block: its scope and next slot

-- behind what declares this local in the next slot, or none
abbrev pub scope_with : Scope → ℕ → Option Variable → Scope
scope_with sc next None = sc
scope_with sc next (Some v) = with_slot sc v.name v.ty next

abbrev pub scope_behind : StmtTree → Scope → ℕ → Scope
scope_behind s sc next = scope_with sc next (declared_by s)

abbrev pub next_behind : StmtTree → ℕ → ℕ
next_behind (stmt at (line (declare t x r))) next = next + 1
next_behind (stmt at (line (infer x r))) next = next + 1
next_behind (stmt at (line l)) next = next
next_behind s next = next + slots s

-- the same for the first part of a `for`

abbrev pub small_scope : Option SmallTree → Scope → ℕ → Scope
small_scope s sc next = scope_with sc next (declared_by_small s)

-- a local that its block doesn't have yet
abbrev pub Opens : Checked → Site → List ℕ → Type 0
Opens names site x = (site.at_top ≡ false) × (any_named x (drop site.start names.locals) ≡ false)

-- a function whose result is of this type gives so many values; nothing is returned from a block of `par`
abbrev pub ReturnsHere : Option Ty → ℕ → Type 0
ReturnsHere None k = ⊥
ReturnsHere (Some t) k = results t ≡ k

-- whether `break` and `continue` may stand there
pub record Leaps : Type 0 where
  pub breaks : Bool
  pub continues : Bool

abbrev pub no_leaps : Leaps
no_leaps = record { breaks = false; continues = false }

abbrev pub in_loop : Leaps
in_loop = record { breaks = true; continues = true }

abbrev pub in_switch : Leaps → Leaps
in_switch leaps = record { breaks = true; continues = leaps.continues }

module _ (o : Source) (u : CodeUnit) where
  -- the function gives so many values
  abbrev pub Returning : ℕ → ℕ → Type 0
  Returning fn k = (f : Function) → slice_get u.functions fn ≡ Some f → results f.ret ≡ k

  -- the function is one from which this can be returned
  abbrev pub ReturnsTo : ℕ → Option Ty → Type 0
  ReturnsTo fn None = ⊤
  ReturnsTo fn (Some t) = Returning fn (results t)

  -- a function that is called in a thread of its own, of so many parameters
  pub record Spawnable (x : List ℕ) (n : ℕ) : Type 0 where
    pub f : Function
    pub there : slice_get u.functions (o.number x) ≡ Some f
    pub takes : length (function_in o.program x).parameters ≡ n

  module _ (names : Checked) (sc : Scope) where
    abbrev pub Value : Tree → Type 0
    Value e = IsOne (type_of e) × Here o u names sc e

    abbrev pub SuffixHere : SuffixTree → Type 0
    SuffixHere (at_index e) = Value e
    SuffixHere (at_key e) = Value e

    abbrev pub SuffixesHere : List SuffixTree → Type 0
    SuffixesHere [] = ⊤
    SuffixesHere (x ∷ xs) = SuffixHere x × SuffixesHere xs

    abbrev pub PlaceHere : PlaceTree → Type 0
    PlaceHere q = IsSome (types_in sc q.name) × SuffixesHere q.suffixes

    abbrev mutual
      -- the receiver of a change
      pub StepsHere : Tree → Type 0
      StepsHere (node at t f) = StepsHereForm f

      pub StepsHereForm : FormTree → Type 0
      StepsHereForm (name x) = IsSome (types_in sc x)
      StepsHereForm (item a i) = StepsHere a × Value i
      StepsHereForm (key a k) = StepsHere a × Value k
      StepsHereForm _ = ⊥

    abbrev pub MethodHere : Option Method → Tree → Tree → Trees → Type 0
    MethodHere (Some (by.Change m)) e a es = IsMutation m × (slice_get operand_counts m ≡ Some (count es)) × StepsHere a × AllHere o u names sc es
    MethodHere _ e a es = Here o u names sc e

    abbrev pub CallHere : Tree → Type 0
    CallHere (node place t (method a m es)) = MethodHere (signature_of (type_of a) m (count es)) (node place t (method a m es)) a es
    CallHere e = Here o u names sc e

    -- an option of a task or a rule; a dependency without a name has files on both sides
    abbrev pub SettingHere : SettingFormTree → Type 0
    SettingHere (setting_named x e) = Value e
    SettingHere (setting_plain (node at t (dependency a b))) = Value a × Value b
    SettingHere (setting_plain e) = Value e

    abbrev pub SettingsHere : List SettingTree → Type 0
    SettingsHere [] = ⊤
    SettingsHere (x ∷ xs) = SettingHere x.form × SettingsHere xs

    abbrev pub CommandsHere : List Command → Type 0
    CommandsHere [] = ⊤
    CommandsHere (c ∷ cs) = PartsKnown o u names sc (parts_of (types_in sc) c.text) × CommandsHere cs

    -- there is a command
    abbrev pub BodyHere : List Command → Type 0
    BodyHere [] = ⊥
    BodyHere (c ∷ cs) = CommandsHere (c ∷ cs)

    -- an act that gives a value
    abbrev pub ActHere : ActFormTree → Type 0
    ActHere (sys ps) = PartsKnown o u names sc (parts_of (types_in sc) ps)
    ActHere (goal e) = Value e
    ActHere (par_call f es) = Spawnable f (count es) × AllHere o u names sc es
    ActHere (par_block b) = ⊤
    ActHere (task os b) = SettingsHere (maybe_settings os) × BodyHere (commands_of b)
    ActHere _ = ⊥

    -- `dep` gives none
    abbrev pub LoneActHere : ActFormTree → Type 0
    LoneActHere (dep os b) = SettingsHere os × BodyHere (commands_of b)
    LoneActHere f = ActHere f

    abbrev pub RightHere : RightTree → Type 0
    RightHere (right_expr e) = Value e
    RightHere (right_act (act at f)) = ActHere f

    -- `loops` tells what is around the line
    abbrev pub LineHere : Site → Leaps → LineTree → Type 0
    LineHere site loops (declare t x no_right) = Opens names site x
    LineHere site loops (declare t x (a_right r)) = Opens names site x × RightHere r
    LineHere site loops (infer x r) = Opens names site x × RightHere r
    LineHere site loops (assign q r) = PlaceHere q × RightHere r
    LineHere site loops (update q op r) = PlaceHere q × RightHere r
    LineHere site loops (step x) = PlaceHere (stepped x)
    LineHere site loops (call_line e) = CallHere e
    LineHere site loops (print e) = Value e
    LineHere site loops (println None) = ⊤
    LineHere site loops (println (Some e)) = Value e
    LineHere site loops (error e) = Value e
    LineHere site loops (exit e) = Value e
    LineHere site loops break = loops.breaks ≡ true
    LineHere site loops continue = loops.continues ≡ true
    LineHere site loops (return no_right) = ReturnsHere site.returns 0
    LineHere site loops (return (a_right r)) = ReturnsHere site.returns 1 × RightHere r
    LineHere site loops (wait None) = ⊤
    LineHere site loops (wait (Some e)) = Value e
    LineHere site loops (checkpoint None) = ⊤
    LineHere site loops (checkpoint (Some e)) = Value e
    LineHere site loops (act_line (act at f)) = LoneActHere f

    abbrev pub SmallFormHere : Site → SmallFormTree → Type 0
    SmallFormHere site (small_declare t x None) = Opens names site x
    SmallFormHere site (small_declare t x (Some e)) = Opens names site x × Value e
    SmallFormHere site (small_infer x e) = Opens names site x × Value e
    SmallFormHere site (small_assign q e) = PlaceHere q × Value e
    SmallFormHere site (small_update q op e) = PlaceHere q × Value e
    SmallFormHere site (small_step x) = PlaceHere (stepped x)
    SmallFormHere site (small_call e) = CallHere e

    abbrev pub SmallHere : Site → Option SmallTree → Type 0
    SmallHere site None = ⊤
    SmallHere site (Some s) = SmallFormHere site s.form

    abbrev pub TestHere : Option Tree → Type 0
    TestHere None = ⊤
    TestHere (Some e) = Value e

  abbrev mutual
    -- a statement in this scope, where this is the next slot
    pub StmtHere : StmtTree → Checked → Site → Scope → ℕ → Leaps → Type 0
    StmtHere (stmt at f) names site sc next loops = FormHere f names site sc next loops

    pub FormHere : StmtFormTree → Checked → Site → Scope → ℕ → Leaps → Type 0
    FormHere (inner_block b) names site sc next loops = BlockHere b names (inner names site) sc next loops
    FormHere empty names site sc next loops = ⊤
    FormHere (line l) names site sc next loops = LineHere names sc site loops l × ParsHere l names sc
    FormHere (when c a no_stmt) names site sc next loops = Value names sc c × StmtHere a names (inner names site) sc next loops
    FormHere (when c a (a_stmt b)) names site sc next loops = Value names sc c × StmtHere a names (inner names site) sc next loops × StmtHere b names (inner names site) sc (next + slots a) loops
    FormHere (while c s) names site sc next loops = Value names sc c × StmtHere s names (inner names site) sc next in_loop
    FormHere (for first c last s) names site sc next loops =
        let within : Checked = behind_small names (inner names site) first in
        let own : Scope = small_scope first sc next in
        SmallHere names sc (inner names site) first × TestHere within own c × StmtHere s within (inner within site) own (next + small_slots first) in_loop × SmallHere within own (inner within site) last
    FormHere (each t x e s) names site sc next loops =
        Value names sc e × StmtHere s (with_local names x t) (inner (with_local names x t) site) (with_slot sc x t (next + 2)) (next + 2 + 1) in_loop
    FormHere (switch e cs) names site sc next loops = Value names sc e × CasesHere cs names site sc (next + 1) (in_switch loops)

    pub CasesHere : CaseTrees → Checked → Site → Scope → ℕ → Leaps → Type 0
    CasesHere no_cases names site sc next loops = ⊤
    CasesHere (more_cases c cs) names site sc next loops = CaseHere c names site sc next loops × CasesHere cs names site sc (next + case_slots c) loops

    pub CaseHere : CaseTree → Checked → Site → Scope → ℕ → Leaps → Type 0
    CaseHere (a_case at l ss) names site sc next loops = TestHere names sc l × StmtsHere ss names (inner names site) sc next loops

    -- the `par` blocks of a line
    pub ParsHere : LineTree → Checked → Scope → Type 0
    ParsHere (declare t x (a_right r)) names sc = RightParsHere r names sc
    ParsHere (infer x r) names sc = RightParsHere r names sc
    ParsHere (assign q r) names sc = RightParsHere r names sc
    ParsHere (update q op r) names sc = RightParsHere r names sc
    ParsHere (return (a_right r)) names sc = RightParsHere r names sc
    ParsHere (act_line a) names sc = ActParsHere a names sc
    ParsHere _ names sc = ⊤

    pub RightParsHere : RightTree → Checked → Scope → Type 0
    RightParsHere (right_expr e) names sc = ⊤
    RightParsHere (right_act a) names sc = ActParsHere a names sc

    pub ActParsHere : ActTree → Checked → Scope → Type 0
    ActParsHere (act at f) names sc = FormParsHere f names sc

    -- in the scope of its own function, in no loop, and nothing is returned from it
    pub FormParsHere : ActFormTree → Checked → Scope → Type 0
    FormParsHere (par_block b) names sc = BlockHere b names (apart names) (opening sc (visible_locals sc.locals)).scope (length (visible_locals sc.locals) + 8) no_leaps
    FormParsHere _ names sc = ⊤

    pub BlockHere : BlockTree → Checked → Site → Scope → ℕ → Leaps → Type 0
    BlockHere (block at ss) names site sc next loops = StmtsHere ss names site sc next loops

    pub StmtsHere : StmtTrees → Checked → Site → Scope → ℕ → Leaps → Type 0
    StmtsHere no_stmts names site sc next loops = ⊤
    StmtsHere (more_stmts s ss) names site sc next loops = StmtHere s names site sc next loops × StmtsHere ss (behind names site s) site (scope_behind s sc next) (next_behind s next) loops
