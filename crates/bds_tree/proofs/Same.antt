-- Expressions of one tree are equal, and every tree is one of an expression.
use Rattle.std.proofs.Common.{◌≡◌, List, [], ◌∷◌, refl, sym, ap, ◌∙◌}
use Rattle.std.specs.List.{AllByRecursion}
use Rattle.bds_tree.specs.declared.expr.Expr.{Expr, roll-Expr}
use Rattle.bds_tree.specs.declared.expr.Form.{Form}
use Rattle.bds_tree.specs.declared.expr.Form.TheVariants as form
use Rattle.bds_tree.specs.Tree.{Tree, FormTree, Trees, TreePairs, node, number, text, truth, name, call, group, list, mapping, item, key, method, prefix, binary, choice, dependency, none, more, no_pairs, more_pairs}
use Rattle.bds_tree.specs.View.{tree_of, form_tree_of, trees_of, pairs_of}
use Rattle.bds_tree.proofs.Views.{tree_of-roll, form_tree_of-Number, form_tree_of-Text, form_tree_of-Bool, form_tree_of-Name, form_tree_of-Call, form_tree_of-Group, form_tree_of-List, form_tree_of-Map, form_tree_of-Item, form_tree_of-Key, form_tree_of-Method, form_tree_of-Prefix, form_tree_of-Binary, form_tree_of-Choice, form_tree_of-Dependency}
use Rattle.bds_tree.proofs.Induction.{AllPairs, expr_induction}

abbrev mutual
  pub expr_of : Tree → Expr
  expr_of (node at ty f) = roll-Expr (record { at = at; ty = ty; form = expr_form_of f })

  pub expr_form_of : FormTree → Form
  expr_form_of (number v) = form.Number v
  expr_form_of (text ps) = form.Text ps
  expr_form_of (truth b) = form.Bool b
  expr_form_of (name n) = form.Name n
  expr_form_of (call n es) = form.Call n (exprs_of es)
  expr_form_of (group e) = form.Group (expr_of e)
  expr_form_of (list es) = form.List (exprs_of es)
  expr_form_of (mapping ps) = form.Map (expr_pairs_of ps)
  expr_form_of (item a i) = form.Item (expr_of a) (expr_of i)
  expr_form_of (key a k) = form.Key (expr_of a) (expr_of k)
  expr_form_of (method a n es) = form.Method (expr_of a) n (exprs_of es)
  expr_form_of (prefix o a) = form.Prefix o (expr_of a)
  expr_form_of (binary a o b) = form.Binary (expr_of a) o (expr_of b)
  expr_form_of (choice c a b) = form.Choice (expr_of c) (expr_of a) (expr_of b)
  expr_form_of (dependency a b) = form.Dependency (expr_of a) (expr_of b)

  pub exprs_of : Trees → List Expr
  exprs_of none = []
  exprs_of (more e es) = expr_of e ∷ exprs_of es

  pub expr_pairs_of : TreePairs → List (Expr × Expr)
  expr_pairs_of no_pairs = []
  expr_pairs_of (more_pairs k v ps) = (expr_of k, expr_of v) ∷ expr_pairs_of ps

mutual
  -- every tree is the tree of an expression
  pub tree_of-expr_of : (t : Tree) → tree_of (expr_of t) ≡ t
  tree_of-expr_of (node at ty f) = tree_of-roll (record { at = at; ty = ty; form = expr_form_of f }) ∙ ap (node at ty) (form_tree_of-expr_form_of f)

  form_tree_of-expr_form_of : (f : FormTree) → form_tree_of (expr_form_of f) ≡ f
  form_tree_of-expr_form_of (number v) = form_tree_of-Number v
  form_tree_of-expr_form_of (text ps) = form_tree_of-Text ps
  form_tree_of-expr_form_of (truth b) = form_tree_of-Bool b
  form_tree_of-expr_form_of (name n) = form_tree_of-Name n
  form_tree_of-expr_form_of (call n es) = form_tree_of-Call n (exprs_of es) ∙ ap (λ h. call n h) (trees_of-exprs_of es)
  form_tree_of-expr_form_of (group e) = form_tree_of-Group (expr_of e) ∙ ap (λ h. group h) (tree_of-expr_of e)
  form_tree_of-expr_form_of (list es) = form_tree_of-List (exprs_of es) ∙ ap (λ h. list h) (trees_of-exprs_of es)
  form_tree_of-expr_form_of (mapping ps) = form_tree_of-Map (expr_pairs_of ps) ∙ ap (λ h. mapping h) (pairs_of-expr_pairs_of ps)
  form_tree_of-expr_form_of (item a i) = form_tree_of-Item (expr_of a) (expr_of i) ∙ ap (λ h. item h (tree_of (expr_of i))) (tree_of-expr_of a) ∙ ap (λ h. item a h) (tree_of-expr_of i)
  form_tree_of-expr_form_of (key a k) = form_tree_of-Key (expr_of a) (expr_of k) ∙ ap (λ h. key h (tree_of (expr_of k))) (tree_of-expr_of a) ∙ ap (λ h. key a h) (tree_of-expr_of k)
  form_tree_of-expr_form_of (method a n es) = form_tree_of-Method (expr_of a) n (exprs_of es) ∙ ap (λ h. method h n (trees_of (exprs_of es))) (tree_of-expr_of a) ∙ ap (λ h. method a n h) (trees_of-exprs_of es)
  form_tree_of-expr_form_of (prefix o a) = form_tree_of-Prefix o (expr_of a) ∙ ap (λ h. prefix o h) (tree_of-expr_of a)
  form_tree_of-expr_form_of (binary a o b) = form_tree_of-Binary (expr_of a) o (expr_of b) ∙ ap (λ h. binary h o (tree_of (expr_of b))) (tree_of-expr_of a) ∙ ap (λ h. binary a o h) (tree_of-expr_of b)
  form_tree_of-expr_form_of (choice c a b) = form_tree_of-Choice (expr_of c) (expr_of a) (expr_of b) ∙ ap (λ h. choice h (tree_of (expr_of a)) (tree_of (expr_of b))) (tree_of-expr_of c) ∙ ap (λ h. choice c h (tree_of (expr_of b))) (tree_of-expr_of a) ∙ ap (λ h. choice c a h) (tree_of-expr_of b)
  form_tree_of-expr_form_of (dependency a b) = form_tree_of-Dependency (expr_of a) (expr_of b) ∙ ap (λ h. dependency h (tree_of (expr_of b))) (tree_of-expr_of a) ∙ ap (λ h. dependency a h) (tree_of-expr_of b)

  trees_of-exprs_of : (ts : Trees) → trees_of (exprs_of ts) ≡ ts
  trees_of-exprs_of none = refl
  trees_of-exprs_of (more e es) = ap (λ x. more x (trees_of (exprs_of es))) (tree_of-expr_of e) ∙ ap (more e) (trees_of-exprs_of es)

  pairs_of-expr_pairs_of : (ps : TreePairs) → pairs_of (expr_pairs_of ps) ≡ ps
  pairs_of-expr_pairs_of no_pairs = refl
  pairs_of-expr_pairs_of (more_pairs k v ps) = ap (λ x. more_pairs x (tree_of (expr_of v)) (pairs_of (expr_pairs_of ps))) (tree_of-expr_of k)
      ∙ ap (λ x. more_pairs k x (pairs_of (expr_pairs_of ps))) (tree_of-expr_of v) ∙ ap (more_pairs k v) (pairs_of-expr_pairs_of ps)

abbrev FormBack : Form → Type 0
FormBack f = expr_form_of (form_tree_of f) ≡ f

abbrev Back : Expr → Type 0
Back e = expr_of (tree_of e) ≡ e

all_back : (es : List Expr) → AllByRecursion Back es → exprs_of (trees_of es) ≡ es
all_back [] h = refl
all_back (e ∷ es) h = ap (λ x. x ∷ exprs_of (trees_of es)) h.0 ∙ ap (λ r. e ∷ r) (all_back es h.1)

all_pairs_back : (ps : List (Expr × Expr)) → AllPairs Back ps → expr_pairs_of (pairs_of ps) ≡ ps
all_pairs_back [] h = refl
all_pairs_back (p ∷ ps) h = ap (λ x. (x, expr_of (tree_of p.1)) ∷ expr_pairs_of (pairs_of ps)) h.0.0 ∙ ap (λ x. (p.0, x) ∷ expr_pairs_of (pairs_of ps)) h.0.1 ∙ ap (λ r. p ∷ r) (all_pairs_back ps h.1)

pub expr_of-tree_of : (e : Expr) → expr_of (tree_of e) ≡ e
expr_of-tree_of = expr_induction FormBack Back (record {
  exprs = λ e h. ap expr_of (tree_of-roll e) ∙ ap (λ f. roll-Expr (record { at = e.at; ty = e.ty; form = f })) h;
  numbers = λ v. ap expr_form_of (form_tree_of-Number v);
  texts = λ ps. ap expr_form_of (form_tree_of-Text ps);
  truths = λ b. ap expr_form_of (form_tree_of-Bool b);
  names = λ n. ap expr_form_of (form_tree_of-Name n);
  calls = λ n es hes. ap expr_form_of (form_tree_of-Call n es) ∙ ap (λ z. form.Call n z) (all_back es hes);
  groups = λ e he. ap expr_form_of (form_tree_of-Group e) ∙ ap (λ z. form.Group z) he;
  lists = λ es hes. ap expr_form_of (form_tree_of-List es) ∙ ap (λ z. form.List z) (all_back es hes);
  maps = λ ps hps. ap expr_form_of (form_tree_of-Map ps) ∙ ap (λ z. form.Map z) (all_pairs_back ps hps);
  items = λ a i ha hi. ap expr_form_of (form_tree_of-Item a i) ∙ ap (λ z. form.Item z (expr_of (tree_of i))) ha ∙ ap (λ z. form.Item a z) hi;
  keys = λ a k ha hk. ap expr_form_of (form_tree_of-Key a k) ∙ ap (λ z. form.Key z (expr_of (tree_of k))) ha ∙ ap (λ z. form.Key a z) hk;
  methods = λ a n es ha hes. ap expr_form_of (form_tree_of-Method a n es) ∙ ap (λ z. form.Method z n (exprs_of (trees_of es))) ha ∙ ap (λ z. form.Method a n z) (all_back es hes);
  prefixes = λ o a ha. ap expr_form_of (form_tree_of-Prefix o a) ∙ ap (λ z. form.Prefix o z) ha;
  binaries = λ a o b ha hb. ap expr_form_of (form_tree_of-Binary a o b) ∙ ap (λ z. form.Binary z o (expr_of (tree_of b))) ha ∙ ap (λ z. form.Binary a o z) hb;
  choices = λ c a b hc ha hb. ap expr_form_of (form_tree_of-Choice c a b) ∙ ap (λ z. form.Choice z (expr_of (tree_of a)) (expr_of (tree_of b))) hc ∙ ap (λ z. form.Choice c z (expr_of (tree_of b))) ha ∙ ap (λ z. form.Choice c a z) hb;
  dependencies = λ a b ha hb. ap expr_form_of (form_tree_of-Dependency a b) ∙ ap (λ z. form.Dependency z (expr_of (tree_of b))) ha ∙ ap (λ z. form.Dependency a z) hb;
})

pub tree_of-injective : (a b : Expr) → tree_of a ≡ tree_of b → a ≡ b
tree_of-injective a b h = sym (expr_of-tree_of a) ∙ ap expr_of h ∙ expr_of-tree_of b
