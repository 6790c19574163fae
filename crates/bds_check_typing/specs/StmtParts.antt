-- The walk through what statements are made of, the parts of each in the order of the text, and what closes a statement behind its parts.
use Rattle.std.specs.Prelude.{ℕ, ◌+◌, Bool, true, false, Option, Some, None, List, [], ◌∷◌, if◌then◌else◌}
use Rattle.bds_value.specs.declared.value.At.{At}
use Rattle.bds_value.specs.declared.value.Ty.{Ty}
use Rattle.bds_tree.specs.declared.stmt.Body.{Body}
use Rattle.bds_tree.specs.declared.stmt.Command.{Command}
use Rattle.bds_tree.specs.Tree.{Tree, Trees}
use Rattle.bds_tree.specs.StmtTree.{SuffixTree, at_index, at_key, PlaceTree, StepTree, step_after, step_before, SmallFormTree, SmallTree, small_declare, small_infer, small_assign, small_update, small_step, small_call, SettingFormTree, setting_named, setting_plain, SettingTree, StmtTree, StmtFormTree, ActTree, ActFormTree, BlockTree, stmt, step, return, act, task, dep, par_call, par_block, block}
use Rattle.bds_check_names.specs.declared.names.Names.{Names}
use Rattle.bds_check_names.specs.declared.names.Asked.{Asked}
use Rattle.bds_check_names.specs.declared.names.Asked.TheVariants.{Whole, Value, This}
use Rattle.bds_check_names.specs.declared.names.Site.{Site}
use Rattle.bds_check_names.specs.declared.names.Seen.{Seen}
use Rattle.bds_check_rules.specs.declared.rules.Rule.{Rule}
use Rattle.bds_check_rules.specs.declared.rules.Rule.TheVariants as rule
use Rattle.bds_check_names.specs.Types.{is_known}
use Rattle.bds_check_names.specs.Scopes.{function_named}
use Rattle.bds_check_rules.specs.Pieces.{sys_rule, when as broken_if}
use Rattle.bds_check_names.specs.Slots.{block_slots, visible, are_too_many}
use Rattle.bds_check_rules.specs.Declarations.{declared_by_form, declared_by_small_form, names_with}
use Rattle.bds_check_rules.specs.StmtBreaks.{place_breaks, place_ty, small_breaks, stmt_breaks, none_seen, seen_behind, setting_breaks, commands_of, act_breaks}
use Rattle.bds_check_typing.specs.Walk.{Broken, Judged, JudgedTrees, first, placed, judge, judge_arguments, parameters_of}

pub record JudgedMaybe : Type 0 where
  pub expr : Option Tree
  pub broken : Option Broken

pub record JudgedSuffix : Type 0 where
  pub suffix : SuffixTree
  pub broken : Option Broken

pub record JudgedSuffixes : Type 0 where
  pub suffixes : List SuffixTree
  pub broken : Option Broken

pub record JudgedPlace : Type 0 where
  pub place : PlaceTree
  pub broken : Option Broken

pub record JudgedStep : Type 0 where
  pub step : StepTree
  pub broken : Option Broken

pub record JudgedSmallForm : Type 0 where
  pub form : SmallFormTree
  pub broken : Option Broken

-- with the names in force behind it
pub record JudgedSmall : Type 0 where
  pub small : Option SmallTree
  pub broken : Option Broken
  pub names : Names

pub record JudgedSettingForm : Type 0 where
  pub form : SettingFormTree
  pub broken : Option Broken

pub record JudgedSetting : Type 0 where
  pub setting : SettingTree
  pub broken : Option Broken

pub record JudgedSettings : Type 0 where
  pub settings : List SettingTree
  pub broken : Option Broken

pub record JudgedActForm : Type 0 where
  pub form : ActFormTree
  pub broken : Option Broken

pub record JudgedAct : Type 0 where
  pub act : ActTree
  pub broken : Option Broken

pub record JudgedForm : Type 0 where
  pub form : StmtFormTree
  pub broken : Option Broken

pub record JudgedStmt : Type 0 where
  pub stmt : StmtTree
  pub broken : Option Broken
  pub names : Names

pub record JudgedBlock : Type 0 where
  pub block : BlockTree
  pub broken : Option Broken

-- Expressions in statements

abbrev pub some_expr : Judged → JudgedMaybe
some_expr j = record { expr = Some j.tree; broken = j.broken }

abbrev pub judge_maybe : Option Tree → Names → JudgedMaybe
judge_maybe None names = record { expr = None; broken = None }
judge_maybe (Some e) names = some_expr (judge e names Value)

abbrev pub suffix_with : (Tree → SuffixTree) → Judged → JudgedSuffix
suffix_with make j = record { suffix = make j.tree; broken = j.broken }

abbrev pub judge_suffix : SuffixTree → Names → JudgedSuffix
judge_suffix (at_index e) names = suffix_with at_index (judge e names Value)
judge_suffix (at_key e) names = suffix_with at_key (judge e names Value)

abbrev pub also_suffix : JudgedSuffix → JudgedSuffixes → JudgedSuffixes
also_suffix j js = record { suffixes = j.suffix ∷ js.suffixes; broken = first j.broken js.broken }

abbrev pub judge_suffixes : List SuffixTree → Names → JudgedSuffixes
judge_suffixes [] names = record { suffixes = []; broken = None }
judge_suffixes (s ∷ ss) names = also_suffix (judge_suffix s names) (judge_suffixes ss names)

abbrev pub close_place : At → List ℕ → Names → JudgedSuffixes → JudgedPlace
close_place at x names js =
    let p : PlaceTree = record { at = at; name = x; suffixes = js.suffixes } in
    record { place = p; broken = first js.broken (placed at (place_breaks names p)) }

-- a place behind its indexes and keys
abbrev pub judge_place : PlaceTree → Names → JudgedPlace
judge_place p names = close_place p.at p.name names (judge_suffixes p.suffixes names)

abbrev pub with_step : (PlaceTree → StepTree) → JudgedPlace → JudgedStep
with_step make j = record { step = make j.place; broken = j.broken }

abbrev pub judge_step : StepTree → Names → JudgedStep
judge_step (step_after p o) names = with_step (λ q. step_after q o) (judge_place p names)
judge_step (step_before o p) names = with_step (step_before o) (judge_place p names)

-- Heads of loops

abbrev pub small_with : (Tree → SmallFormTree) → Judged → JudgedSmallForm
small_with make j = record { form = make j.tree; broken = j.broken }

abbrev pub small_with_place : (PlaceTree → Tree → SmallFormTree) → JudgedPlace → Judged → JudgedSmallForm
small_with_place make p j = record { form = make p.place j.tree; broken = first p.broken j.broken }

abbrev pub small_with_step : JudgedStep → JudgedSmallForm
small_with_step j = record { form = small_step j.step; broken = j.broken }

abbrev pub judge_small_form : SmallFormTree → Names → JudgedSmallForm
judge_small_form (small_declare t x None) names = record { form = small_declare t x None; broken = None }
judge_small_form (small_declare t x (Some e)) names = small_with (λ d. small_declare t x (Some d)) (judge e names (This t))
judge_small_form (small_infer x e) names = small_with (small_infer x) (judge e names Value)
judge_small_form (small_assign p e) names = small_with_place small_assign (judge_place p names) (judge e names (This (place_ty names p)))
judge_small_form (small_update p o e) names = small_with_place (λ q. small_update q o) (judge_place p names) (judge e names Value)
judge_small_form (small_step s) names = small_with_step (judge_step s names)
judge_small_form (small_call e) names = small_with small_call (judge e names Whole)

abbrev pub close_small : At → Names → Site → JudgedSmallForm → JudgedSmall
close_small at names site j = record {
  small = Some (record { at = at; form = j.form });
  broken = first j.broken (placed at (small_breaks names site j.form));
  names = names_with names site (declared_by_small_form j.form);
}

abbrev pub judge_small : Option SmallTree → Names → Site → JudgedSmall
judge_small None names site = record { small = None; broken = None; names = names }
judge_small (Some s) names site = close_small s.at names site (judge_small_form s.form names)

-- Options and commands

abbrev pub setting_with : (Tree → SettingFormTree) → Judged → JudgedSettingForm
setting_with make j = record { form = make j.tree; broken = j.broken }

abbrev pub judge_setting_form : SettingFormTree → Names → JudgedSettingForm
judge_setting_form (setting_named x e) names = setting_with (setting_named x) (judge e names Value)
judge_setting_form (setting_plain e) names = setting_with setting_plain (judge e names Value)

abbrev pub close_setting : At → Bool → Seen → JudgedSettingForm → JudgedSetting
close_setting at of_dep seen j = record {
  setting = record { at = at; form = j.form };
  broken = first j.broken (placed at (setting_breaks of_dep seen j.form));
}

-- an option of a `dep`, or else of a task, behind those that were seen
abbrev pub judge_setting : SettingTree → Names → Bool → Seen → JudgedSetting
judge_setting s names of_dep seen = close_setting s.at of_dep seen (judge_setting_form s.form names)

abbrev pub also_setting : JudgedSetting → JudgedSettings → JudgedSettings
also_setting j js = record { settings = j.setting ∷ js.settings; broken = first j.broken js.broken }

abbrev pub judge_settings : List SettingTree → Names → Bool → Seen → JudgedSettings
judge_settings [] names of_dep seen = record { settings = []; broken = None }
judge_settings (s ∷ ss) names of_dep seen =
    also_setting (judge_setting s names of_dep seen) (judge_settings ss names of_dep (seen_behind seen s.form))

abbrev pub commands_broken : List Command → Names → Option Broken
commands_broken [] names = None
commands_broken (c ∷ cs) names = first (placed c.at (sys_rule names c.text)) (commands_broken cs names)

abbrev pub body_broken : Body → Names → Option Broken
body_broken b names = commands_broken (commands_of b) names

abbrev pub task_with : Body → JudgedSettings → Option Broken → JudgedActForm
task_with b js broken = record { form = task (Some js.settings) b; broken = first js.broken broken }

abbrev pub dep_with : Body → JudgedSettings → Option Broken → JudgedActForm
dep_with b js broken = record { form = dep js.settings b; broken = first js.broken broken }

abbrev pub judge_task : Option (List SettingTree) → Body → Names → JudgedActForm
judge_task None b names = record { form = task None b; broken = body_broken b names }
judge_task (Some os) b names = task_with b (judge_settings os names false none_seen) (body_broken b names)

abbrev pub judge_dep : List SettingTree → Body → Names → JudgedActForm
judge_dep os b names = dep_with b (judge_settings os names true none_seen) (body_broken b names)

abbrev pub par_with : List ℕ → JudgedTrees → JudgedActForm
par_with f js = record { form = par_call f js.trees; broken = js.broken }

abbrev pub judge_par_call : List ℕ → Trees → Names → JudgedActForm
judge_par_call f es names = par_with f (judge_arguments es names (parameters_of (function_named f names.functions)))

-- What closes a statement, an act and a `par` block behind its parts

-- the locals of the block of a `par` are those in force there and its own
abbrev pub par_rule : Names → BlockTree → Option Rule
par_rule names b = broken_if (are_too_many (visible names.locals + block_slots b)) rule.TooManyLocals None

abbrev pub block_at : BlockTree → At
block_at (block at ss) = at

abbrev pub par_block_with : Names → JudgedBlock → JudgedActForm
par_block_with names j = record { form = par_block j.block; broken = first j.broken (placed (block_at j.block) (par_rule names j.block)) }

abbrev pub close_act : At → Names → Asked → JudgedActForm → JudgedAct
close_act at names asked j = record { act = act at j.form; broken = first j.broken (placed at (act_breaks names asked j.form)) }

-- what is asked of the value of a `return`
abbrev pub returned : Option Ty → Asked
returned None = Value
returned (Some t) = (if is_known t then This t else Value)

abbrev pub close_stmt : At → Names → Site → JudgedForm → JudgedStmt
close_stmt at names site j = record {
  stmt = stmt at j.form;
  broken = first j.broken (placed at (stmt_breaks names site j.form));
  names = names_with names site (declared_by_form j.form);
}
