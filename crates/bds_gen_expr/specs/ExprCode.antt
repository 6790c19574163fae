-- The code of expressions: one equation for each form. It stands at a place, where these operands are below, the last first.
use Rattle.std.specs.Prelude.{ℕ, zero, suc, ◌+◌, true, false, Option, Some, None, List, [], ◌∷◌, ◌++◌, if◌then◌else◌}
use Rattle.bds_value.specs.declared.method_numbers.TheConstants.{LINES}
use Rattle.bds_value.specs.declared.methods.Method.{Method}
use Rattle.bds_value.specs.declared.methods.Method.TheVariants as by
use Rattle.bds_value.specs.declared.value.At.{At}
use Rattle.bds_value.specs.declared.value.Ty.{Ty}
use Rattle.bds_value.specs.declared.value.Ty.TheVariants as ty
use Rattle.bds_value.specs.Methods.{signature_of}
use Rattle.bds_tree.specs.declared.expr.BinaryOp.{BinaryOp}
use Rattle.bds_tree.specs.declared.expr.BinaryOp.TheVariants as op
use Rattle.bds_tree.specs.declared.expr.PrefixOp.{PrefixOp}
use Rattle.bds_tree.specs.declared.expr.PrefixOp.TheVariants as sign
use Rattle.bds_tree.specs.declared.token.Piece.{Piece}
use Rattle.bds_tree.specs.Tree.{Tree, FormTree, Trees, TreePairs, node, number, text, truth, name, call, group, list, mapping, item, key, method, prefix, binary, choice, dependency, none, more, no_pairs, more_pairs, type_of}
use Rattle.bds_code.specs.declared.instr.Instr.{Instr}
use Rattle.bds_code.specs.declared.instr.Instr.TheVariants.{PushBool, PushInt, PushText, Add, Sub, Mul, Div, Rem, Neg, Not, Show, Blank, Concat, ListAdd, ListCat, Equal, NotEqual, Less, LessEqual, Greater, GreaterEqual, MakeList, MakeMap, Item, Key, Jump, JumpUnless, Call, Method as CallMethod, FileRead, FileWrite, FileRemove, FileStamp, OutOfDate}
use Rattle.bds_value.specs.Types.{same_ty, list_item, map_item}
use Rattle.bds_check_names.specs.Types.{or_void}
use Rattle.bds_check_rules.specs.Typing.{count as tree_count}
use Rattle.bds_check_size.specs.declared.sums.Sum.{Sum}
use Rattle.bds_check_size.specs.declared.sums.Sum.TheVariants as sums
use Rattle.bds_check_size.specs.Parts.{Part, says, shows, shows_at, shows_at_name, shows_key, shows_key_name, parts_of}
use Rattle.bds_check_size.specs.ExprSize.{sum_of, listing_size, expr_size}
use Rattle.bds_gen_expr.specs.Marks.{Mark, does, label, one}
use Rattle.bds_gen_expr.specs.declared.scope.Scope.{Scope}
use Rattle.bds_gen_expr.specs.Scope.{types_in, load, function_number}

-- Texts

abbrev pub part_code : Scope → At → Part → List Mark
part_code sc at (says t) = one at (PushText t)
part_code sc at (shows x) = does (load sc x) at ∷ does Blank at ∷ []
part_code sc at (shows_at x n) = does (load sc x) at ∷ does (PushInt n) at ∷ does Item at ∷ does Blank at ∷ []
part_code sc at (shows_at_name x y) = does (load sc x) at ∷ does (load sc y) at ∷ does Item at ∷ does Blank at ∷ []
part_code sc at (shows_key x t) = does (load sc x) at ∷ does (PushText t) at ∷ does Key at ∷ does Blank at ∷ []
part_code sc at (shows_key_name x y) = does (load sc x) at ∷ does (load sc y) at ∷ does Key at ∷ does Blank at ∷ []

abbrev pub joined_code : Scope → At → List Part → List Mark
joined_code sc at [] = []
joined_code sc at (p ∷ ps) = part_code sc at p ++ (does Concat at ∷ joined_code sc at ps)

abbrev pub parts_code : Scope → At → List Part → List Mark
parts_code sc at [] = one at (PushText [])
parts_code sc at (p ∷ ps) = part_code sc at p ++ joined_code sc at ps

-- a text with variables in it
abbrev pub pieces_code : Scope → At → List Piece → List Mark
pieces_code sc at ps = parts_code sc at (parts_of (types_in sc) ps)

-- Operators and methods

-- between two operands, and behind them
abbrev pub sum_between : At → Sum → List Mark
sum_between at sums.Texts = one at Show
sum_between at _ = []

abbrev pub sum_behind : At → Sum → List Mark
sum_behind at sums.Numbers = one at Add
sum_behind at sums.ItemAdded = one at ListAdd
sum_behind at sums.ListsJoined = one at ListCat
sum_behind at sums.Texts = does Show at ∷ does Concat at ∷ []

abbrev pub operator : BinaryOp → Instr
operator op.Equal = Equal
operator op.NotEqual = NotEqual
operator op.Less = Less
operator op.AtMost = LessEqual
operator op.Greater = Greater
operator op.AtLeast = GreaterEqual
operator op.Sub = Sub
operator op.Mul = Mul
operator op.Div = Div
operator op.Rem = Rem
operator _ = Add

abbrev pub between_size : Sum → ℕ
between_size sums.Texts = 1
between_size _ = 0

-- the operand on the left, as it stands below the one on the right
abbrev pub left_ty : Sum → Ty → Ty
left_ty sums.Texts t = ty.Text
left_ty _ t = t

abbrev pub sign_of : PrefixOp → Instr
sign_of sign.Neg = Neg
sign_of sign.Not = Not

abbrev pub file_code : At → ℕ → List Mark
file_code at zero = one at FileRead
file_code at (suc zero) = does FileRead at ∷ does (CallMethod LINES) at ∷ []
file_code at (suc (suc zero)) = one at FileWrite
file_code at (suc (suc (suc zero))) = one at FileRemove
file_code at (suc (suc (suc (suc n)))) = one at (FileStamp n)

abbrev pub method_code : At → Option Method → List Mark
method_code at (Some (by.Plain n)) = one at (CallMethod n)
method_code at (Some (by.File n)) = file_code at n
method_code at (Some (by.Change n)) = one at (CallMethod n)
method_code at None = one at (CallMethod 0)

-- a file as a list of one
abbrev pub listing : At → Ty → List Mark
listing at t = if same_ty t ty.Text then one at (MakeList ty.Text 1) else []

-- Expressions

abbrev mutual
  pub expr_code : Tree → Scope → ℕ → List Ty → List Mark
  expr_code (node at t f) sc p s = form_code f at t sc p s

  pub form_code : FormTree → At → Ty → Scope → ℕ → List Ty → List Mark
  form_code (number v) at t sc p s = one at (PushInt v)
  form_code (text ps) at t sc p s = pieces_code sc at ps
  form_code (truth b) at t sc p s = one at (PushBool b)
  form_code (name x) at t sc p s = one at (load sc x)
  form_code (call f es) at t sc p s = trees_code es sc p s ++ one at (Call (function_number sc f))
  form_code (group e) at t sc p s = expr_code e sc p s
  form_code (list es) at t sc p s = trees_code es sc p s ++ one at (MakeList (or_void (list_item t)) (tree_count es))
  form_code (mapping ps) at t sc p s = pairs_code ps sc p s ++ one at (MakeMap (or_void (map_item t)) (pair_count ps))
  form_code (item a i) at t sc p s = expr_code a sc p s ++ (expr_code i sc (p + expr_size (types_in sc) a) (type_of a ∷ s) ++ one at Item)
  form_code (key a k) at t sc p s = expr_code a sc p s ++ (expr_code k sc (p + expr_size (types_in sc) a) (type_of a ∷ s) ++ one at Key)
  form_code (method a m es) at t sc p s =
      expr_code a sc p s ++ (trees_code es sc (p + expr_size (types_in sc) a) (type_of a ∷ s) ++ method_code at (signature_of (type_of a) m (tree_count es)))
  form_code (prefix o a) at t sc p s = expr_code a sc p s ++ one at (sign_of o)
  form_code (binary a op.And b) at t sc p s =
      let right = p + expr_size (types_in sc) a + 1 in
      let other = right + expr_size (types_in sc) b + 1 in
      expr_code a sc p s ++ (does (JumpUnless other) at ∷ (expr_code b sc right s ++ (does (Jump (other + 1)) at ∷ label s ∷ does (PushBool false) at ∷ label (ty.Bool ∷ s) ∷ [])))
  form_code (binary a op.Or b) at t sc p s =
      let right = p + expr_size (types_in sc) a + 3 in
      let end = right + expr_size (types_in sc) b in
      expr_code a sc p s ++ (does (JumpUnless right) at ∷ does (PushBool true) at ∷ does (Jump end) at ∷ label s ∷ (expr_code b sc right s ++ (label (ty.Bool ∷ s) ∷ [])))
  form_code (binary a op.Add b) at t sc p s =
      let sum = sum_of (type_of a) (type_of b) in
      let right = p + expr_size (types_in sc) a + between_size sum in
      expr_code a sc p s ++ (sum_between at sum ++ (expr_code b sc right (left_ty sum (type_of a) ∷ s) ++ sum_behind at sum))
  form_code (binary a o b) at t sc p s =
      expr_code a sc p s ++ (expr_code b sc (p + expr_size (types_in sc) a) (type_of a ∷ s) ++ one at (operator o))
  form_code (choice c a b) at t sc p s =
      let then_place = p + expr_size (types_in sc) c + 1 in
      let other = then_place + expr_size (types_in sc) a + 1 in
      let end = other + expr_size (types_in sc) b in
      expr_code c sc p s ++ (does (JumpUnless other) at ∷ (expr_code a sc then_place s ++ (does (Jump end) at ∷ label s ∷ (expr_code b sc other s ++ (label (t ∷ s) ∷ [])))))
  form_code (dependency a b) at t sc p s =
      let right = p + expr_size (types_in sc) a + listing_size (type_of a) in
      expr_code a sc p s ++ (listing at (type_of a) ++ (expr_code b sc right (ty.List ty.Text ∷ s) ++ (listing at (type_of b) ++ one at OutOfDate)))

  -- one behind the other
  pub trees_code : Trees → Scope → ℕ → List Ty → List Mark
  trees_code none sc p s = []
  trees_code (more e es) sc p s = expr_code e sc p s ++ trees_code es sc (p + expr_size (types_in sc) e) (type_of e ∷ s)

  pub pairs_code : TreePairs → Scope → ℕ → List Ty → List Mark
  pairs_code no_pairs sc p s = []
  pairs_code (more_pairs k v ps) sc p s =
      let value = p + expr_size (types_in sc) k in
      expr_code k sc p s ++ (expr_code v sc value (ty.Text ∷ s) ++ pairs_code ps sc (value + expr_size (types_in sc) v) (type_of v ∷ ty.Text ∷ s))

  pub pair_count : TreePairs → ℕ
  pair_count no_pairs = 0
  pair_count (more_pairs k v ps) = pair_count ps + 1

-- a file or a list of files as a list
abbrev pub files_code : Tree → At → Scope → ℕ → List Ty → List Mark
files_code e at sc p s = expr_code e sc p s ++ listing at (type_of e)
