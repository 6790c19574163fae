-- The terms of expressions. Which operator, method and variable each is, is found here, by the types in the tree and the names in force.
use Rattle.std.specs.Prelude.{ℕ, ◌+◌, true, false, List, [], ◌∷◌, Option, Some, None, slice_get, if◌then◌else◌}
use Rattle.bds_value.specs.declared.method_numbers.TheConstants.{LINES}
use Rattle.bds_value.specs.declared.value.At.{At}
use Rattle.bds_value.specs.declared.value.Op.{Op}
use Rattle.bds_value.specs.declared.value.Op.TheVariants as op
use Rattle.bds_value.specs.declared.value.Ty.{Ty, out-Ty}
use Rattle.bds_value.specs.declared.value.Ty.TheVariants as ty
use Rattle.bds_value.specs.declared.value.Ty.TheOpen.{Ty-F}
use Rattle.bds_value.specs.declared.value.Value.TheVariants as value
use Rattle.bds_value.specs.declared.methods.Method.{Method}
use Rattle.bds_value.specs.declared.methods.Method.TheVariants as method_kind
use Rattle.bds_value.specs.Methods.{signature_of}
use Rattle.bds_value.specs.Types.{same_ty, list_item, map_item}
use Rattle.bds_tree.specs.declared.expr.BinaryOp.{BinaryOp}
use Rattle.bds_tree.specs.declared.expr.BinaryOp.TheVariants as sign
use Rattle.bds_tree.specs.Tree.{Tree, FormTree, Trees, TreePairs, node, number, text, truth, name, call, group, list, mapping, item, key, method, prefix, binary, choice, dependency, none, more, no_pairs, more_pairs, type_of}
use Rattle.bds_check_names.specs.declared.names.Names.{Names}
use Rattle.bds_check_names.specs.Types.{or_void}
use Rattle.bds_meaning.specs.OpeningTexts.{variable, one, two, joined, text_term}
use Rattle.bds_meaning.specs.Term.{Term, Constant, Compute, Does, Nothing, More, Choose, Call, Prefixed, Operated, Shown, ItemTaken, KeyTaken, MethodCalled, ListMade, MapMade, FileRead, FileWritten, FileRemoved, FileStamped, Compared}
use Rattle.bds_schedule.specs.Requests.{IsThere, IsEmpty, SizeOf}

-- the text of a value
abbrev pub shown : At → Term → Term
shown at a = Compute Shown at (one a)

abbrev pub operated : Op → At → Term → Term → Term
operated o at a b = Compute (Operated o) at (two a b)

-- two numbers are added, and else the texts of both are joined
abbrev pub other_sum : Ty-F Ty → Ty-F Ty → At → Term → Term → Term
other_sum Ty-F.Int Ty-F.Int at a b = operated op.Add at a b
other_sum _ _ at a b = joined at (shown at a) (shown at b)

-- a list takes an item or another list of its type
abbrev pub list_sum : Ty → Ty → Ty → At → Term → Term → Option Term
list_sum t left right at a b =
    if same_ty t right then Some (operated op.ListAdd at a b) else
    (if same_ty left right then Some (operated op.ListCat at a b) else None)

abbrev pub sum_on_list : Option Ty → Ty → Ty → At → Term → Term → Option Term
sum_on_list None left right at a b = None
sum_on_list (Some t) left right at a b = list_sum t left right at a b

abbrev pub or_else : Option Term → Term → Term
or_else (Some t) other = t
or_else None other = other

-- a sum, by the types of its operands; lists are tried first
abbrev pub sum_term : Ty → Ty → At → Term → Term → Term
sum_term left right at a b =
    or_else (sum_on_list (list_item left) left right at a b) (other_sum (out-Ty left) (out-Ty right) at a b)

-- `&&` and `||` take their right operand only where it decides
abbrev pub binary_term : BinaryOp → Ty → Ty → At → Term → Term → Term
binary_term sign.Or left right at a b = Choose a (Constant (value.Bool true)) b
binary_term sign.And left right at a b = Choose a b (Constant (value.Bool false))
binary_term sign.Equal left right at a b = operated op.Equal at a b
binary_term sign.NotEqual left right at a b = operated op.NotEqual at a b
binary_term sign.Less left right at a b = operated op.Less at a b
binary_term sign.AtMost left right at a b = operated op.LessEqual at a b
binary_term sign.Greater left right at a b = operated op.Greater at a b
binary_term sign.AtLeast left right at a b = operated op.GreaterEqual at a b
binary_term sign.Add left right at a b = sum_term left right at a b
binary_term sign.Sub left right at a b = operated op.Sub at a b
binary_term sign.Mul left right at a b = operated op.Mul at a b
binary_term sign.Div left right at a b = operated op.Div at a b
binary_term sign.Rem left right at a b = operated op.Rem at a b

-- a file is a list of one file, and a list of files is itself
abbrev pub files_at : Ty-F Ty → At → Term → Term
files_at Ty-F.Text at a = Compute (ListMade ty.Text) at (one a)
files_at _ at a = a

-- files, of an expression of a type
abbrev pub files_if : Ty → At → Term → Term
files_if t at a = files_at (out-Ty t) at a

-- the calls on files, in the order of their table; the operands are the receiver and the arguments
abbrev pub file_calls : At → Term → List Term
file_calls at a =
    Does FileRead at a
    ∷ Compute (MethodCalled LINES) at (one (Does FileRead at a))
    ∷ Does FileWritten at a
    ∷ Does FileRemoved at a
    ∷ Does (FileStamped IsThere) at a
    ∷ Does (FileStamped IsEmpty) at a
    ∷ Does (FileStamped SizeOf) at a
    ∷ []

-- a method by its row; a method that changes stands only as a statement
abbrev pub method_term : Option Method → At → Term → Term
method_term (Some (method_kind.Plain m)) at a = Compute (MethodCalled m) at a
method_term (Some (method_kind.File n)) at a = or_else (slice_get (file_calls at a) n) Nothing
method_term _ at a = Nothing

abbrev pub count : Trees → ℕ
count none = 0
count (more e es) = count es + 1

-- the term of an expression
abbrev mutual
  pub term_of : Names → Tree → Term
  term_of names (node at t form) = form_term names at t form

  pub form_term : Names → At → Ty → FormTree → Term
  form_term names at t (number n) = Constant (value.Int n)
  form_term names at t (text ps) = text_term names at ps
  form_term names at t (truth b) = Constant (value.Bool b)
  form_term names at t (name x) = variable names x
  form_term names at t (call f es) = Call f at (terms_of names es)
  form_term names at t (group e) = term_of names e
  form_term names at t (list es) = Compute (ListMade (or_void (list_item t))) at (terms_of names es)
  form_term names at t (mapping ps) = Compute (MapMade (or_void (map_item t))) at (pairs_terms names ps)
  form_term names at t (item a i) = Compute ItemTaken at (two (term_of names a) (term_of names i))
  form_term names at t (key a k) = Compute KeyTaken at (two (term_of names a) (term_of names k))
  form_term names at t (method a m es) = method_term (signature_of (type_of a) m (count es)) at (More (term_of names a) (terms_of names es))
  form_term names at t (prefix o a) = Compute (Prefixed o) at (one (term_of names a))
  form_term names at t (binary a o b) = binary_term o (type_of a) (type_of b) at (term_of names a) (term_of names b)
  form_term names at t (choice c a b) = Choose (term_of names c) (term_of names a) (term_of names b)
  form_term names at t (dependency a b) = Does Compared at (two (files_if (type_of a) at (term_of names a)) (files_if (type_of b) at (term_of names b)))

  -- operands, in their order
  pub terms_of : Names → Trees → Term
  terms_of names none = Nothing
  terms_of names (more e es) = More (term_of names e) (terms_of names es)

  -- keys and values by turns
  pub pairs_terms : Names → TreePairs → Term
  pairs_terms names no_pairs = Nothing
  pairs_terms names (more_pairs k v ps) = More (term_of names k) (More (term_of names v) (pairs_terms names ps))

-- files, of a file or a list of them, at the place that wants them
abbrev pub files_term : Names → At → Tree → Term
files_term names at e = files_if (type_of e) at (term_of names e)
