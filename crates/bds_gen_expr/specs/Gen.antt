-- The code of an expression behind what a function has, in the order of the writing: a jump whose place isn't known yet leads to 0 until it is. Here the last operand stands at the end.
use Rattle.std.specs.Prelude.{ℕ, ◌+◌, true, false, List, [], ◌∷◌, ◌++◌, length, slice_set}
use Rattle.bds_value.specs.declared.value.At.{At}
use Rattle.bds_value.specs.declared.value.Ty.{Ty}
use Rattle.bds_value.specs.declared.value.Ty.TheVariants as ty
use Rattle.bds_value.specs.Methods.{signature_of}
use Rattle.bds_value.specs.Types.{list_item, map_item}
use Rattle.bds_tree.specs.declared.expr.BinaryOp.TheVariants as op
use Rattle.bds_tree.specs.Tree.{Tree, FormTree, Trees, TreePairs, node, number, text, truth, name, call, group, list, mapping, item, key, method, prefix, binary, choice, dependency, none, more, no_pairs, more_pairs, type_of}
use Rattle.bds_code.specs.declared.instr.Instr.{Instr}
use Rattle.bds_code.specs.declared.instr.Instr.TheVariants.{PushBool, PushInt, MakeList, MakeMap, Item, Key, Jump, JumpUnless, Call, OutOfDate}
use Rattle.bds_code.specs.declared.unit.Function.{Function}
use Rattle.bds_check_names.specs.Types.{or_void}
use Rattle.bds_check_rules.specs.Typing.{count as tree_count}
use Rattle.bds_check_size.specs.ExprSize.{sum_of}
use Rattle.bds_gen_expr.specs.Marks.{does, put, labelled, written}
use Rattle.bds_gen_expr.specs.declared.scope.Scope.{Scope}
use Rattle.bds_gen_expr.specs.Scope.{load, function_number}
use Rattle.bds_gen_expr.specs.ExprCode.{pieces_code, sum_between, sum_behind, left_ty, operator, sign_of, method_code, listing, pair_count}

-- one more instruction
abbrev pub act : Function → At → Instr → Function
act g at i = put g (does i at)

-- a label with these operands
abbrev pub mark : Function → List Ty → Function
mark g shape = record g { labels = labelled g.labels (length g.code) shape }

-- another instruction at a place
abbrev pub patched : Function → ℕ → Instr → Function
patched g place i = record g { code = slice_set g.code place i }

-- the second of two ways begins here: the test at a place leads to it, and the first way jumps over it
abbrev pub begin_other : Function → ℕ → At → List Ty → Function
begin_other g test at shape = patched (mark (act g at (Jump 0)) shape) test (JumpUnless (length g.code + 1))

-- the jump at a place leads here
abbrev pub end_at : Function → ℕ → List Ty → Function
end_at g jump shape = patched (mark g shape) jump (Jump (length g.code + 0))

abbrev mutual
  pub gen : Tree → Scope → List Ty → Function → Function
  gen (node at t f) sc shape g = gen_form f at t sc shape g

  pub gen_form : FormTree → At → Ty → Scope → List Ty → Function → Function
  gen_form (number v) at t sc shape g = act g at (PushInt v)
  gen_form (text ps) at t sc shape g = written g (pieces_code sc at ps)
  gen_form (truth b) at t sc shape g = act g at (PushBool b)
  gen_form (name x) at t sc shape g = act g at (load sc x)
  gen_form (call f es) at t sc shape g = act (gen_all es sc shape g) at (Call (function_number sc f))
  gen_form (group e) at t sc shape g = gen e sc shape g
  gen_form (list es) at t sc shape g = act (gen_all es sc shape g) at (MakeList (or_void (list_item t)) (tree_count es))
  gen_form (mapping ps) at t sc shape g = act (gen_pairs ps sc shape g) at (MakeMap (or_void (map_item t)) (pair_count ps))
  gen_form (item a i) at t sc shape g = act (gen i sc (shape ++ type_of a ∷ []) (gen a sc shape g)) at Item
  gen_form (key a k) at t sc shape g = act (gen k sc (shape ++ type_of a ∷ []) (gen a sc shape g)) at Key
  gen_form (method a m es) at t sc shape g = written (gen_all es sc (shape ++ type_of a ∷ []) (gen a sc shape g)) (method_code at (signature_of (type_of a) m (tree_count es)))
  gen_form (prefix o a) at t sc shape g = act (gen a sc shape g) at (sign_of o)
  gen_form (binary a op.And b) at t sc shape g =
      let before = gen a sc shape g in
      let right = gen b sc shape (act before at (JumpUnless 0)) in
      end_at (act (begin_other right (length before.code) at shape) at (PushBool false)) (length right.code) (shape ++ ty.Bool ∷ [])
  gen_form (binary a op.Or b) at t sc shape g =
      let before = gen a sc shape g in
      let yes = act (act before at (JumpUnless 0)) at (PushBool true) in
      end_at (gen b sc shape (begin_other yes (length before.code) at shape)) (length yes.code) (shape ++ ty.Bool ∷ [])
  gen_form (binary a op.Add b) at t sc shape g =
      let sum = sum_of (type_of a) (type_of b) in
      written (gen b sc (shape ++ left_ty sum (type_of a) ∷ []) (written (gen a sc shape g) (sum_between at sum))) (sum_behind at sum)
  gen_form (binary a o b) at t sc shape g = act (gen b sc (shape ++ type_of a ∷ []) (gen a sc shape g)) at (operator o)
  gen_form (choice c a b) at t sc shape g =
      let before = gen c sc shape g in
      let first = gen a sc shape (act before at (JumpUnless 0)) in
      end_at (gen b sc shape (begin_other first (length before.code) at shape)) (length first.code) (shape ++ t ∷ [])
  gen_form (dependency a b) at t sc shape g =
      act (written (gen b sc (shape ++ ty.List ty.Text ∷ []) (written (gen a sc shape g) (listing at (type_of a)))) (listing at (type_of b))) at OutOfDate

  pub gen_all : Trees → Scope → List Ty → Function → Function
  gen_all none sc shape g = g
  gen_all (more e es) sc shape g = gen_all es sc (shape ++ type_of e ∷ []) (gen e sc shape g)

  pub gen_pairs : TreePairs → Scope → List Ty → Function → Function
  gen_pairs no_pairs sc shape g = g
  gen_pairs (more_pairs k v ps) sc shape g =
      gen_pairs ps sc ((shape ++ ty.Text ∷ []) ++ type_of v ∷ []) (gen v sc (shape ++ ty.Text ∷ []) (gen k sc shape g))
