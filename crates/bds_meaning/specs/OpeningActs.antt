-- The terms of the options and commands of tasks and rules.
use Rattle.std.specs.Prelude.{ℕ, List, [], ◌∷◌, Option, Some, None, codes, if◌then◌else◌}
use Rattle.std.specs.Str.{bytes_eq}
use Rattle.bds_value.specs.declared.value.At.{At}
use Rattle.bds_tree.specs.declared.stmt.Body.{Body}
use Rattle.bds_tree.specs.declared.stmt.Body.TheVariants as body
use Rattle.bds_tree.specs.declared.stmt.Command.{Command}
use Rattle.bds_tree.specs.Tree.{Tree, node, dependency}
use Rattle.bds_tree.specs.StmtTree.{SettingFormTree, setting_named, setting_plain, SettingTree}
use Rattle.bds_check_names.specs.declared.names.Names.{Names}
use Rattle.bds_meaning.specs.OpeningExpressions.{term_of, files_term}
use Rattle.bds_meaning.specs.OpeningTexts.{plain, joined, text_term}
use Rattle.bds_meaning.specs.Term.{Term, Settle, Weigh, Make, Making, as_task, as_rule}
use Rattle.bds_meaning.specs.Work.{Setting, Outputs, Inputs, Processors, CanFail, Retries, TaskName, Condition, unset}

-- what an option of a name sets
abbrev pub setting_of : List ℕ → Setting
setting_of x =
    if bytes_eq x (codes "cpus") then Processors else
    (if bytes_eq x (codes "canFail") then CanFail else
    (if bytes_eq x (codes "retry") then Retries else TaskName))

-- in a task the files are compared, in a rule they aren't
abbrev pub weighed_in : Making → At → Term → Term
weighed_in as_task at rest = Weigh at rest
weighed_in as_rule at rest = rest

-- an option without a name: the dependency, or a condition
abbrev pub plain_setting : Names → At → Making → Tree → Term → Term
plain_setting names at making (node place t (dependency a b)) rest = Settle Outputs (files_term names at a) (Settle Inputs (files_term names at b) (weighed_in making at rest))
plain_setting names at making e rest = Settle Condition (term_of names e) rest

abbrev pub setting_term : Names → At → Making → SettingFormTree → Term → Term
setting_term names at making (setting_named x e) rest = Settle (setting_of x) (term_of names e) rest
setting_term names at making (setting_plain e) rest = plain_setting names at making e rest

-- options in the order of the text, and what comes behind them
abbrev pub settings_term : Names → Making → List SettingTree → Term → Term
settings_term names making [] rest = rest
settings_term names making (s ∷ ss) rest = setting_term names s.at making s.form (settings_term names making ss rest)

-- further commands: each is joined behind a line end
abbrev pub commands_joined : Names → At → Term → List Command → Term
commands_joined names at first [] = first
commands_joined names at first (c ∷ cs) = commands_joined names at (joined at (joined at first (plain (codes "\n"))) (text_term names c.at c.text)) cs

abbrev pub commands_term : Names → At → List Command → Term
commands_term names at [] = plain []
commands_term names at (c ∷ cs) = commands_joined names at (text_term names c.at c.text) cs

abbrev pub body_term : Names → At → Body → Term
body_term names at (body.Sys c) = text_term names c.at c.text
body_term names at (body.Block cs) = commands_term names at cs

-- a task or a rule
abbrev pub making_term : Names → At → Making → List SettingTree → Body → Term
making_term names at making settings b = settings_term names making settings (Make making at unset (body_term names at b))

abbrev pub some_settings : Option (List SettingTree) → List SettingTree
some_settings (Some ss) = ss
some_settings None = []
