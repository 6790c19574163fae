-- The terms of changes of variables and of their parts.
use Rattle.std.specs.Prelude.{ℕ, List, [], ◌∷◌, map, pos, Option, Some}
use Rattle.bds_value.specs.declared.value.At.{At}
use Rattle.bds_value.specs.declared.value.Op.TheVariants as op
use Rattle.bds_value.specs.declared.value.Value.TheVariants as value
use Rattle.bds_value.specs.declared.methods.Method.{Method}
use Rattle.bds_value.specs.declared.methods.Method.TheVariants as method_kind
use Rattle.bds_value.specs.Methods.{signature_of}
use Rattle.bds_tree.specs.declared.stmt.StepOp.{StepOp}
use Rattle.bds_tree.specs.declared.stmt.StepOp.TheVariants.{Increment, Decrement}
use Rattle.bds_tree.specs.declared.stmt.UpdateOp.{UpdateOp}
use Rattle.bds_tree.specs.declared.stmt.UpdateOp.TheVariants as update_op
use Rattle.bds_tree.specs.Tree.{Tree, FormTree, node, name, item, key, method, type_of}
use Rattle.bds_tree.specs.StmtTree.{SuffixTree, at_index, at_key, PlaceTree, StepTree, step_after, step_before}
use Rattle.bds_check_names.specs.declared.names.Names.{Names}
use Rattle.bds_meaning.specs.OpeningExpressions.{term_of, terms_of, count}
use Rattle.bds_meaning.specs.OpeningTexts.{scope_of, one}
use Rattle.bds_meaning.specs.Term.{Term, Constant, More, Update, Change, Increased, Reckoned, Mutated, Into, by_index, by_key}

abbrev pub into_of : SuffixTree → Into
into_of (at_index e) = by_index
into_of (at_key e) = by_key

abbrev pub suffix_term : Names → SuffixTree → Term
suffix_term names (at_index e) = term_of names e
suffix_term names (at_key e) = term_of names e

-- the steps to a part, and what comes behind them
abbrev pub steps_then : Names → List SuffixTree → Term → Term
steps_then names [] behind = behind
steps_then names (s ∷ ss) behind = More (suffix_term names s) (steps_then names ss behind)

-- a change of a part, with its arguments
abbrev pub place_term : Names → At → PlaceTree → Change → Term → Term
place_term names at p change args = Update at (scope_of names p.name) p.name (map into_of p.suffixes) change (steps_then names p.suffixes args)

abbrev pub change_of : UpdateOp → Change
change_of update_op.Add = Increased
change_of update_op.Sub = Reckoned op.Sub
change_of update_op.Mul = Reckoned op.Mul
change_of update_op.Div = Reckoned op.Div
change_of update_op.Rem = Reckoned op.Rem

-- `++` and `--`
abbrev pub change_by_one : StepOp → Change
change_by_one Increment = Increased
change_by_one Decrement = Reckoned op.Sub

abbrev pub step_term : Names → At → StepTree → Term
step_term names at (step_after p o) = place_term names at p (change_by_one o) (one (Constant (value.Int (pos 1))))
step_term names at (step_before o p) = place_term names at p (change_by_one o) (one (Constant (value.Int (pos 1))))

-- A place that is written as an expression

abbrev mutual
  -- the variable
  pub root_of : Tree → List ℕ
  root_of (node at t form) = root_in form

  pub root_in : FormTree → List ℕ
  root_in (name x) = x
  root_in (item a i) = root_of a
  root_in (key a k) = root_of a
  root_in _ = []

abbrev mutual
  -- the steps to the part, before others
  pub intos_of : Tree → List Into → List Into
  intos_of (node at t form) behind = intos_in form behind

  pub intos_in : FormTree → List Into → List Into
  intos_in (item a i) behind = intos_of a (by_index ∷ behind)
  intos_in (key a k) behind = intos_of a (by_key ∷ behind)
  intos_in _ behind = behind

abbrev mutual
  -- the terms of the steps, before what comes behind them
  pub steps_of : Names → Tree → Term → Term
  steps_of names (node at t form) behind = steps_in names form behind

  pub steps_in : Names → FormTree → Term → Term
  steps_in names (item a i) behind = steps_of names a (More (term_of names i) behind)
  steps_in names (key a k) behind = steps_of names a (More (term_of names k) behind)
  steps_in names _ behind = behind

abbrev pub mutated : Names → At → Tree → ℕ → Term → Term
mutated names at place what args = Update at (scope_of names (root_of place)) (root_of place) (intos_of place []) (Mutated what) (steps_of names place args)

-- a method that changes its receiver, and else the expression
abbrev pub method_alone : Names → At → Option Method → Tree → Term → Term → Term
method_alone names at (Some (method_kind.Change what)) place args other = mutated names at place what args
method_alone names at _ place args other = other

abbrev pub call_in : Names → At → FormTree → Term → Term
call_in names at (method a m es) other = method_alone names at (signature_of (type_of a) m (count es)) a (terms_of names es) other
call_in names at _ other = other

-- a call that stands alone; a change has the place of its statement
abbrev pub call_term : Names → At → Tree → Term
call_term names at (node place t form) = call_in names at form (term_of names (node place t form))
