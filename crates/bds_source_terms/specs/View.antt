-- The term of the meaning that a term is.
use Rattle.std.specs.Prelude.{List, [], ◌∷◌, map, Option}
use Rattle.bds_meaning.specs.OpeningStatements.{case_with}
use Rattle.bds_meaning.specs.OpeningTexts.{text_of_parts}
use Rattle.bds_meaning.specs.Term as meaning
use Rattle.bds_schedule.specs.Requests as requests
use Rattle.bds_meaning.specs.Variables as variables
use Rattle.bds_meaning.specs.Work as work
use Rattle.bds_source_terms.specs.declared.term.Scope.{Scope}
use Rattle.bds_source_terms.specs.declared.term.Scope.TheVariants as scope
use Rattle.bds_source_terms.specs.declared.term.Computation.{Computation}
use Rattle.bds_source_terms.specs.declared.term.Computation.TheVariants as computation
use Rattle.bds_source_terms.specs.declared.term.Question.{Question}
use Rattle.bds_source_terms.specs.declared.term.Question.TheVariants as question
use Rattle.bds_source_terms.specs.declared.term.Action.{Action}
use Rattle.bds_source_terms.specs.declared.term.Action.TheVariants as action
use Rattle.bds_source_terms.specs.declared.term.Change.{Change}
use Rattle.bds_source_terms.specs.declared.term.Change.TheVariants as change
use Rattle.bds_source_terms.specs.declared.term.Way.{Way}
use Rattle.bds_source_terms.specs.declared.term.Way.TheVariants as way
use Rattle.bds_source_terms.specs.declared.term.Making.{Making}
use Rattle.bds_source_terms.specs.declared.term.Making.TheVariants as making
use Rattle.bds_source_terms.specs.declared.term.Choice.{Choice}
use Rattle.bds_source_terms.specs.declared.term.Choice.TheVariants as choice
use Rattle.bds_source_terms.specs.declared.term.Work.{Work}
use Rattle.bds_source_terms.specs.declared.term.Term.{Term, fold-Term}
use Rattle.bds_source_terms.specs.declared.term.Term.TheOpen.{Term-F}
use Rattle.std.specs.Option.{option_map}

abbrev pub scope_of : Scope → variables.Scope
scope_of scope.Local = variables.local
scope_of scope.Global = variables.global

abbrev pub computation_of : Computation → meaning.Computation
computation_of (computation.Prefixed o) = meaning.Prefixed o
computation_of (computation.Operated o) = meaning.Operated o
computation_of computation.Shown = meaning.Shown
computation_of computation.Pieced = meaning.Pieced
computation_of computation.ItemTaken = meaning.ItemTaken
computation_of computation.KeyTaken = meaning.KeyTaken
computation_of (computation.MethodCalled m) = meaning.MethodCalled m
computation_of (computation.ListMade t) = meaning.ListMade t
computation_of (computation.MapMade t) = meaning.MapMade t

abbrev pub question_of : Question → requests.Question
question_of question.IsThere = requests.IsThere
question_of question.IsEmpty = requests.IsEmpty
question_of question.SizeOf = requests.SizeOf

abbrev pub action_of : Action → meaning.Action
action_of action.Printed = meaning.Printed
action_of action.FileRead = meaning.FileRead
action_of action.FileWritten = meaning.FileWritten
action_of action.FileRemoved = meaning.FileRemoved
action_of (action.FileStamped q) = meaning.FileStamped (question_of q)
action_of action.CommandRun = meaning.CommandRun
action_of action.Compared = meaning.Compared
action_of action.Achieved = meaning.Achieved
action_of action.IdsAwaited = meaning.IdsAwaited
action_of action.AllAwaited = meaning.AllAwaited
action_of action.Saved = meaning.Saved
action_of action.SavedHere = meaning.SavedHere

abbrev pub change_of : Change → meaning.Change
change_of change.Replaced = meaning.Replaced
change_of change.Increased = meaning.Increased
change_of (change.Reckoned o) = meaning.Reckoned o
change_of (change.Mutated m) = meaning.Mutated m

abbrev pub into_of : Way → meaning.Into
into_of way.ByIndex = meaning.by_index
into_of way.ByKey = meaning.by_key

abbrev pub making_of : Making → meaning.Making
making_of making.AsTask = meaning.as_task
making_of making.AsRule = meaning.as_rule

abbrev pub setting_of : Choice → work.Setting
setting_of choice.Outputs = work.Outputs
setting_of choice.Inputs = work.Inputs
setting_of choice.Processors = work.Processors
setting_of choice.CanFail = work.CanFail
setting_of choice.Retries = work.Retries
setting_of choice.TaskName = work.TaskName
setting_of choice.Condition = work.Condition

abbrev pub work_of : Work → work.Work
work_of w = record { outs = w.outs; ins = w.ins; cpus = w.cpus; can_fail = w.can_fail; retry = w.retry; name = w.name; needed = w.needed }

-- parts, and what is behind them
abbrev pub more_of : List meaning.Term → meaning.Term → meaning.Term
more_of [] rest = rest
more_of (t ∷ ts) rest = meaning.More t (more_of ts rest)

-- statements, and what is behind them
abbrev pub then_of : List meaning.Term → meaning.Term → meaning.Term
then_of [] rest = rest
then_of (t ∷ ts) rest = meaning.Then t (then_of ts rest)

-- options, the last first, and what is behind them
abbrev pub settled_of : List (Choice × meaning.Term) → meaning.Term → meaning.Term
settled_of [] rest = rest
settled_of (c ∷ cs) rest = settled_of cs (meaning.Settle (setting_of c.0) c.1 rest)

-- cases, each with its label and its statements
abbrev pub cases_of : List (Option meaning.Term × meaning.Term) → meaning.Term
cases_of [] = meaning.Nothing
cases_of (c ∷ cs) = case_with c.0 c.1 (cases_of cs)

abbrev pub term_step : Term-F meaning.Term → meaning.Term
term_step (Term-F.Reduced vs) = meaning.Reduced vs
term_step (Term-F.Constant v) = meaning.Constant v
term_step (Term-F.Variable s x) = meaning.Variable (scope_of s) x
term_step (Term-F.Compute c at t) = meaning.Compute (computation_of c) at t
term_step (Term-F.Joined at ts) = text_of_parts at ts
term_step (Term-F.Does a at t) = meaning.Does (action_of a) at t
term_step Term-F.Nothing = meaning.Nothing
term_step (Term-F.More ts rest) = more_of ts rest
term_step (Term-F.Choose c a b) = meaning.Choose c a b
term_step (Term-F.Call f at t) = meaning.Call f at t
term_step (Term-F.Frame locals t) = meaning.Frame locals t
term_step (Term-F.Then ts rest) = then_of ts rest
term_step (Term-F.Block t) = meaning.Block t
term_step (Term-F.Inside k t) = meaning.Inside k t
term_step (Term-F.Declare s x t) = meaning.Declare (scope_of s) x t
term_step (Term-F.Update at s x ways c t) = meaning.Update at (scope_of s) x (map into_of ways) (change_of c) t
term_step (Term-F.While c body last) = meaning.While c body last
term_step (Term-F.Each x items body) = meaning.Each x items body
term_step (Term-F.Items x k v body) = meaning.Items x k v body
term_step (Term-F.Turn k t next) = meaning.Turn k t next
term_step (Term-F.Switch t cs) = meaning.Switch t (cases_of cs)
term_step (Term-F.Tries v label t cs others) = meaning.Tries v label t (cases_of cs) (cases_of others)
term_step (Term-F.Within k t) = meaning.Within k t
term_step Term-F.Break = meaning.Break
term_step Term-F.Continue = meaning.Continue
term_step (Term-F.Return t) = meaning.Return t
term_step (Term-F.Error at t) = meaning.Error at t
term_step (Term-F.Exit t) = meaning.Exit t
term_step (Term-F.Settle cs rest) = settled_of cs rest
term_step (Term-F.Weigh at rest) = meaning.Weigh at rest
term_step (Term-F.Make m at w command) = meaning.Make (making_of m) at (work_of w) command
term_step (Term-F.SpawnCall f at t) = meaning.SpawnCall f at t
term_step (Term-F.SpawnBlock at t) = meaning.SpawnBlock at t

abbrev pub term_of : Term → meaning.Term
term_of = fold-Term meaning.Term term_step

-- a label, if there is one, with the statements of its case
abbrev pub branch_of : Option Term × Term → Option meaning.Term × meaning.Term
branch_of b = (option_map term_of b.0, term_of b.1)
