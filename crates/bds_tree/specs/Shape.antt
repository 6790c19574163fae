-- Which expression may stand under which, and how deep they nest.
use Rattle.std.specs.Prelude.{◌≡◌, ℕ, ◌+◌, ◌<◌, ◌≤◌, max, ⊤}
use Rattle.bds_value.specs.declared.value.Ty.TheVariants as ty
use Rattle.bds_value.specs.declared.TheConstants.{MAX_NESTING}
use Rattle.bds_tree.specs.declared.expr.BinaryOp.{BinaryOp}
use Rattle.bds_tree.specs.declared.expr.BinaryOp.TheVariants as op
use Rattle.bds_tree.specs.Tree.{Tree, FormTree, Trees, TreePairs, node, number, text, truth, name, call, group, list, mapping, item, key, method, prefix, binary, choice, dependency, none, more, no_pairs, more_pairs, form_of}

-- How tightly a sign binds: 1 is `<-`, 2 is `? :`, then the operators between two expressions, 9 is a prefix, 10 a suffix.
abbrev pub level_of : BinaryOp → ℕ
level_of op.Or = 3
level_of op.And = 4
level_of op.Equal = 5
level_of op.NotEqual = 5
level_of op.Less = 6
level_of op.AtMost = 6
level_of op.Greater = 6
level_of op.AtLeast = 6
level_of op.Add = 7
level_of op.Sub = 7
level_of op.Mul = 8
level_of op.Div = 8
level_of op.Rem = 8

abbrev pub form_level : FormTree → ℕ
form_level (prefix o a) = 9
form_level (binary a o b) = level_of o
form_level (choice c a b) = 2
form_level (dependency a b) = 1
form_level _ = 10

-- how tightly the outermost form binds
abbrev pub level : Tree → ℕ
level e = form_level (form_of e)

abbrev pub form_follow : FormTree → ℕ
form_follow (prefix o a) = 8
form_follow (binary a o b) = level_of o
form_follow (choice c a b) = 1
form_follow (dependency a b) = 0
form_follow _ = 10

-- the tightest sign that may stand behind an expression without belonging into it
abbrev pub follow : Tree → ℕ
follow e = form_follow (form_of e)

-- Operators of one level bind to the left, `? :` to the right, and `<-` isn't chained.
-- Before checking all types are `Void` and all files 0.
abbrev mutual
  pub Shaped : Tree → Type 0
  Shaped (node at t f) = (at.file ≡ 0) × (t ≡ ty.Void) × IsShapedForm f

  pub IsShapedForm : FormTree → Type 0
  IsShapedForm (number v) = ⊤
  IsShapedForm (text ps) = ⊤
  IsShapedForm (truth b) = ⊤
  IsShapedForm (name n) = ⊤
  IsShapedForm (call n es) = AreShaped es
  IsShapedForm (group e) = Shaped e
  IsShapedForm (list es) = AreShaped es
  IsShapedForm (mapping ps) = ArePairsShaped ps
  IsShapedForm (item a i) = (10 ≤ follow a) × Shaped a × Shaped i
  IsShapedForm (key a k) = (10 ≤ follow a) × Shaped a × Shaped k
  IsShapedForm (method a n es) = (10 ≤ follow a) × Shaped a × AreShaped es
  IsShapedForm (prefix o a) = (9 ≤ level a) × Shaped a
  IsShapedForm (binary a o b) = (level_of o ≤ follow a) × (level_of o < level b) × Shaped a × Shaped b
  IsShapedForm (choice c a b) = (2 ≤ follow c) × (2 ≤ level a) × (2 ≤ level b) × Shaped c × Shaped a × Shaped b
  IsShapedForm (dependency a b) = (1 ≤ follow a) × (2 ≤ level b) × Shaped a × Shaped b

  pub AreShaped : Trees → Type 0
  AreShaped none = ⊤
  AreShaped (more e es) = Shaped e × AreShaped es

  pub ArePairsShaped : TreePairs → Type 0
  ArePairsShaped no_pairs = ⊤
  ArePairsShaped (more_pairs k v ps) = Shaped k × Shaped v × ArePairsShaped ps

-- how many expressions lie above the deepest one within
abbrev mutual
  pub height : Tree → ℕ
  height (node at t f) = form_height f

  pub form_height : FormTree → ℕ
  form_height (number v) = 0
  form_height (text ps) = 0
  form_height (truth b) = 0
  form_height (name n) = 0
  form_height (call n es) = heights es
  form_height (group e) = height e + 1
  form_height (list es) = heights es
  form_height (mapping ps) = pair_heights ps
  form_height (item a i) = max (height a + 1) (height i + 1)
  form_height (key a k) = max (height a + 1) (height k + 1)
  form_height (method a n es) = max (height a + 1) (heights es)
  form_height (prefix o a) = height a + 1
  form_height (binary a o b) = max (height a + 1) (height b + 1)
  form_height (choice c a b) = max (height c + 1) (max (height a + 1) (height b + 1))
  form_height (dependency a b) = max (height a + 1) (height b + 1)

  -- of the form that holds them
  pub heights : Trees → ℕ
  heights none = 0
  heights (more e es) = max (height e + 1) (heights es)

  pub pair_heights : TreePairs → ℕ
  pair_heights no_pairs = 0
  pair_heights (more_pairs k v ps) = max (max (height k + 1) (height v + 1)) (pair_heights ps)

-- an expression that may stand in a script, before checking
pub record Legal (t : Tree) : Type 0 where
  pub shaped : Shaped t
  pub nesting : height t ≤ MAX_NESTING
