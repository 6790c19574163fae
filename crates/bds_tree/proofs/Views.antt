-- The tree of each kind of expression.
use Rattle.std.proofs.Common.{◌≡◌, ℕ, ℤ, Bool, List, sym, ap, ◌∙◌}
use Rattle.bds_tree.specs.declared.token.Piece.{Piece}
use Rattle.bds_tree.specs.declared.expr.PrefixOp.{PrefixOp}
use Rattle.bds_tree.specs.declared.expr.BinaryOp.{BinaryOp}
use Rattle.bds_tree.specs.declared.expr.Expr.{Expr, Expr-F, fold-roll-Expr, roll-Expr}
use Rattle.bds_tree.specs.declared.expr.Form.{Form, fold-roll-Form}
use Rattle.bds_tree.specs.declared.expr.Form.TheVariants as form
use Rattle.bds_tree.specs.declared.expr.Form.TheOpen.{Form-F}
use Rattle.bds_tree.specs.Tree.{Tree, FormTree, node, number, text, truth, name, call, group, list, mapping, item, key, method, prefix, binary, choice, dependency}
use Rattle.bds_tree.specs.View.{expr_step, form_step, tree_of, form_tree_of, trees_of, pairs_of}

pub tree_of-roll : (e : Expr-F Form Expr) → tree_of (roll-Expr e) ≡ node e.at e.ty (form_tree_of e.form)
tree_of-roll e = fold-roll-Expr FormTree Tree form_step expr_step e

pub form_tree_of-Number : (v : ℤ) → form_tree_of (form.Number v) ≡ number v
form_tree_of-Number v = ap form_tree_of (sym (form.rolls-Number v)) ∙ fold-roll-Form FormTree Tree form_step expr_step (Form-F.Number v)

pub form_tree_of-Text : (ps : List Piece) → form_tree_of (form.Text ps) ≡ text ps
form_tree_of-Text ps = ap form_tree_of (sym (form.rolls-Text ps)) ∙ fold-roll-Form FormTree Tree form_step expr_step (Form-F.Text ps)

pub form_tree_of-Bool : (b : Bool) → form_tree_of (form.Bool b) ≡ truth b
form_tree_of-Bool b = ap form_tree_of (sym (form.rolls-Bool b)) ∙ fold-roll-Form FormTree Tree form_step expr_step (Form-F.Bool b)

pub form_tree_of-Name : (n : List ℕ) → form_tree_of (form.Name n) ≡ name n
form_tree_of-Name n = ap form_tree_of (sym (form.rolls-Name n)) ∙ fold-roll-Form FormTree Tree form_step expr_step (Form-F.Name n)

pub form_tree_of-Call : (n : List ℕ) (es : List Expr) → form_tree_of (form.Call n es) ≡ call n (trees_of es)
form_tree_of-Call n es = ap form_tree_of (sym (form.rolls-Call n es)) ∙ fold-roll-Form FormTree Tree form_step expr_step (Form-F.Call n es)

pub form_tree_of-Group : (e : Expr) → form_tree_of (form.Group e) ≡ group (tree_of e)
form_tree_of-Group e = ap form_tree_of (sym (form.rolls-Group e)) ∙ fold-roll-Form FormTree Tree form_step expr_step (Form-F.Group e)

pub form_tree_of-List : (es : List Expr) → form_tree_of (form.List es) ≡ list (trees_of es)
form_tree_of-List es = ap form_tree_of (sym (form.rolls-List es)) ∙ fold-roll-Form FormTree Tree form_step expr_step (Form-F.List es)

pub form_tree_of-Map : (ps : List (Expr × Expr)) → form_tree_of (form.Map ps) ≡ mapping (pairs_of ps)
form_tree_of-Map ps = ap form_tree_of (sym (form.rolls-Map ps)) ∙ fold-roll-Form FormTree Tree form_step expr_step (Form-F.Map ps)

pub form_tree_of-Item : (a i : Expr) → form_tree_of (form.Item a i) ≡ item (tree_of a) (tree_of i)
form_tree_of-Item a i = ap form_tree_of (sym (form.rolls-Item a i)) ∙ fold-roll-Form FormTree Tree form_step expr_step (Form-F.Item a i)

pub form_tree_of-Key : (a k : Expr) → form_tree_of (form.Key a k) ≡ key (tree_of a) (tree_of k)
form_tree_of-Key a k = ap form_tree_of (sym (form.rolls-Key a k)) ∙ fold-roll-Form FormTree Tree form_step expr_step (Form-F.Key a k)

pub form_tree_of-Method : (a : Expr) (n : List ℕ) (es : List Expr) → form_tree_of (form.Method a n es) ≡ method (tree_of a) n (trees_of es)
form_tree_of-Method a n es = ap form_tree_of (sym (form.rolls-Method a n es)) ∙ fold-roll-Form FormTree Tree form_step expr_step (Form-F.Method a n es)

pub form_tree_of-Prefix : (o : PrefixOp) (a : Expr) → form_tree_of (form.Prefix o a) ≡ prefix o (tree_of a)
form_tree_of-Prefix o a = ap form_tree_of (sym (form.rolls-Prefix o a)) ∙ fold-roll-Form FormTree Tree form_step expr_step (Form-F.Prefix o a)

pub form_tree_of-Binary : (a : Expr) (o : BinaryOp) (b : Expr) → form_tree_of (form.Binary a o b) ≡ binary (tree_of a) o (tree_of b)
form_tree_of-Binary a o b = ap form_tree_of (sym (form.rolls-Binary a o b)) ∙ fold-roll-Form FormTree Tree form_step expr_step (Form-F.Binary a o b)

pub form_tree_of-Choice : (c a b : Expr) → form_tree_of (form.Choice c a b) ≡ choice (tree_of c) (tree_of a) (tree_of b)
form_tree_of-Choice c a b = ap form_tree_of (sym (form.rolls-Choice c a b)) ∙ fold-roll-Form FormTree Tree form_step expr_step (Form-F.Choice c a b)

pub form_tree_of-Dependency : (a b : Expr) → form_tree_of (form.Dependency a b) ≡ dependency (tree_of a) (tree_of b)
form_tree_of-Dependency a b = ap form_tree_of (sym (form.rolls-Dependency a b)) ∙ fold-roll-Form FormTree Tree form_step expr_step (Form-F.Dependency a b)

pub ruleset view_rules = (tree_of-roll, form_tree_of-Number, form_tree_of-Text, form_tree_of-Bool, form_tree_of-Name, form_tree_of-Call, form_tree_of-Group, form_tree_of-List, form_tree_of-Map, form_tree_of-Item, form_tree_of-Key, form_tree_of-Method, form_tree_of-Prefix, form_tree_of-Binary, form_tree_of-Choice, form_tree_of-Dependency)
