-- How many instructions the code of a typed expression has: a sum over its nodes. What the pieces of a text need depends on the variables in force.
use Rattle.std.specs.Prelude.{ℕ, zero, suc, ◌+◌, ◌&&◌, Option, Some, None, List, if◌then◌else◌}
use Rattle.bds_value.specs.declared.methods.Method.{Method}
use Rattle.bds_value.specs.declared.methods.Method.TheVariants as by
use Rattle.bds_value.specs.declared.value.Ty.{Ty}
use Rattle.bds_value.specs.declared.value.Ty.TheVariants as ty
use Rattle.bds_value.specs.Methods.{signature_of}
use Rattle.bds_value.specs.Types.{same_ty, list_item}
use Rattle.bds_tree.specs.declared.expr.BinaryOp.{BinaryOp}
use Rattle.bds_tree.specs.declared.expr.BinaryOp.TheVariants as op
use Rattle.bds_tree.specs.Tree.{Tree, FormTree, Trees, TreePairs, node, number, text, truth, name, call, group, list, mapping, item, key, method, prefix, binary, choice, dependency, none, more, no_pairs, more_pairs, type_of}
use Rattle.bds_check_rules.specs.Typing.{count}
use Rattle.bds_check_size.specs.declared.sums.Sum.{Sum}
use Rattle.bds_check_size.specs.declared.sums.Sum.TheVariants as sums
use Rattle.bds_check_size.specs.Parts.{parts_size, parts_of}

abbrev pub sum_by : Ty → Ty → Option Ty → Sum
sum_by a b None = (if same_ty a ty.Int && same_ty b ty.Int then sums.Numbers else sums.Texts)
sum_by a b (Some t) = (if same_ty t b then sums.ItemAdded else (if same_ty a b then sums.ListsJoined else sums.Texts))

-- what a sum is, by the types of its operands; lists are tried first
abbrev pub sum_of : Ty → Ty → Sum
sum_of a b = sum_by a b (list_item a)

abbrev pub sum_size : Sum → ℕ
sum_size sums.Texts = 3
sum_size _ = 1

-- besides its operands
abbrev pub binary_size : BinaryOp → Ty → Ty → ℕ
binary_size op.And a b = 3
binary_size op.Or a b = 3
binary_size op.Add a b = sum_size (sum_of a b)
binary_size _ a b = 1

-- the call on a file that gives its lines needs two
abbrev pub method_size : Option Method → ℕ
method_size (Some (by.File (suc zero))) = 2
method_size _ = 1

-- a file as a list of one
abbrev pub listing_size : Ty → ℕ
listing_size t = (if same_ty t ty.Text then 1 else 0)

module _ (types : List ℕ → Option Ty) where
  abbrev mutual
    pub expr_size : Tree → ℕ
    expr_size (node at t f) = form_size f

    pub form_size : FormTree → ℕ
    form_size (number v) = 1
    form_size (text ps) = parts_size (parts_of types ps)
    form_size (truth b) = 1
    form_size (name x) = 1
    form_size (call f es) = trees_size es + 1
    form_size (group e) = expr_size e
    form_size (list es) = trees_size es + 1
    form_size (mapping ps) = pairs_size ps + 1
    form_size (item a i) = expr_size a + expr_size i + 1
    form_size (key a k) = expr_size a + expr_size k + 1
    form_size (method a m es) = expr_size a + trees_size es + method_size (signature_of (type_of a) m (count es))
    form_size (prefix o a) = expr_size a + 1
    form_size (binary a o b) = expr_size a + expr_size b + binary_size o (type_of a) (type_of b)
    form_size (choice c a b) = expr_size c + 1 + expr_size a + 1 + expr_size b
    form_size (dependency a b) = expr_size a + listing_size (type_of a) + (expr_size b + listing_size (type_of b)) + 1

    pub trees_size : Trees → ℕ
    trees_size none = 0
    trees_size (more e es) = expr_size e + trees_size es

    pub pairs_size : TreePairs → ℕ
    pairs_size no_pairs = 0
    pairs_size (more_pairs k v ps) = expr_size k + expr_size v + pairs_size ps

  abbrev pub files_size : Tree → ℕ
  files_size e = expr_size e + listing_size (type_of e)
