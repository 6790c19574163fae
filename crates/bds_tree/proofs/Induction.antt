-- Induction over expressions, with a premise for each kind.
use Rattle.std.proofs.Common.{ℕ, ℤ, Bool, List, [], ◌∷◌, map, sym, subst}
use Rattle.std.specs.List.{AllByRecursion}
use Rattle.bds_tree.specs.declared.token.Piece.{Piece}
use Rattle.bds_tree.specs.declared.expr.PrefixOp.{PrefixOp}
use Rattle.bds_tree.specs.declared.expr.BinaryOp.{BinaryOp}
use Rattle.bds_tree.specs.declared.expr.Expr.{Expr, Expr-F, ind-Expr, roll-Expr, map-Expr}
use Rattle.bds_tree.specs.declared.expr.Form.{Form, Form-F, roll-Form, map-Form}
use Rattle.bds_tree.specs.declared.expr.Form.TheVariants as form

abbrev pub AllPairs : (Expr → Type 0) → List (Expr × Expr) → Type 0
AllPairs Q ps = AllByRecursion {X = Expr × Expr} (λ p. Q p.0 × Q p.1) ps

module _ (P : Form → Type 0) (Q : Expr → Type 0) where
  abbrev With : Type 0
  With = (e : Expr) × Q e

  abbrev FormWith : Type 0
  FormWith = (f : Form) × P f

  each : (es : List With) → AllByRecursion Q (map (λ e. e.0) es)
  each [] = tt
  each (e ∷ es) = (e.1, each es)

  each_pair : (ps : List (With × With)) → AllPairs Q (map (λ (p : With × With). (p.0.0, p.1.0)) ps)
  each_pair [] = tt
  each_pair (p ∷ ps) = ((p.0.1, p.1.1), each_pair ps)

  pub record Steps : Type 0 where
    pub exprs : (e : Expr-F Form Expr) → P e.form → Q (roll-Expr e)
    pub numbers : (v : ℤ) → P (form.Number v)
    pub texts : (ps : List Piece) → P (form.Text ps)
    pub truths : (b : Bool) → P (form.Bool b)
    pub names : (n : List ℕ) → P (form.Name n)
    pub calls : (n : List ℕ) (es : List Expr) → AllByRecursion Q es → P (form.Call n es)
    pub groups : (e : Expr) → Q e → P (form.Group e)
    pub lists : (es : List Expr) → AllByRecursion Q es → P (form.List es)
    pub maps : (ps : List (Expr × Expr)) → AllPairs Q ps → P (form.Map ps)
    pub items : (a i : Expr) → Q a → Q i → P (form.Item a i)
    pub keys : (a k : Expr) → Q a → Q k → P (form.Key a k)
    pub methods : (a : Expr) (n : List ℕ) (es : List Expr) → Q a → AllByRecursion Q es → P (form.Method a n es)
    pub prefixes : (o : PrefixOp) (a : Expr) → Q a → P (form.Prefix o a)
    pub binaries : (a : Expr) (o : BinaryOp) (b : Expr) → Q a → Q b → P (form.Binary a o b)
    pub choices : (c a b : Expr) → Q c → Q a → Q b → P (form.Choice c a b)
    pub dependencies : (a b : Expr) → Q a → Q b → P (form.Dependency a b)

  module _ (steps : Steps) where
    expr_layer : (y : Expr-F FormWith With) → Q (roll-Expr (map-Expr FormWith With Form Expr (λ f. f.0) (λ e. e.0) y))
    expr_layer y = steps.exprs (map-Expr FormWith With Form Expr (λ f. f.0) (λ e. e.0) y) y.form.1

    form_layer : (y : Form-F FormWith With) → P (roll-Form (map-Form FormWith With Form Expr (λ f. f.0) (λ e. e.0) y))
    form_layer (Form-F.Number v) = subst P (sym (form.rolls-Number v)) (steps.numbers v)
    form_layer (Form-F.Text ps) = subst P (sym (form.rolls-Text ps)) (steps.texts ps)
    form_layer (Form-F.Bool b) = subst P (sym (form.rolls-Bool b)) (steps.truths b)
    form_layer (Form-F.Name n) = subst P (sym (form.rolls-Name n)) (steps.names n)
    form_layer (Form-F.Call n es) = subst P (sym (form.rolls-Call n (map (λ e. e.0) es))) (steps.calls n (map (λ e. e.0) es) (each es))
    form_layer (Form-F.Group e) = subst P (sym (form.rolls-Group e.0)) (steps.groups e.0 e.1)
    form_layer (Form-F.List es) = subst P (sym (form.rolls-List (map (λ e. e.0) es))) (steps.lists (map (λ e. e.0) es) (each es))
    form_layer (Form-F.Map ps) = subst P (sym (form.rolls-Map (map (λ (p : With × With). (p.0.0, p.1.0)) ps))) (steps.maps (map (λ (p : With × With). (p.0.0, p.1.0)) ps) (each_pair ps))
    form_layer (Form-F.Item a i) = subst P (sym (form.rolls-Item a.0 i.0)) (steps.items a.0 i.0 a.1 i.1)
    form_layer (Form-F.Key a k) = subst P (sym (form.rolls-Key a.0 k.0)) (steps.keys a.0 k.0 a.1 k.1)
    form_layer (Form-F.Method a n es) = subst P (sym (form.rolls-Method a.0 n (map (λ e. e.0) es))) (steps.methods a.0 n (map (λ e. e.0) es) a.1 (each es))
    form_layer (Form-F.Prefix o a) = subst P (sym (form.rolls-Prefix o a.0)) (steps.prefixes o a.0 a.1)
    form_layer (Form-F.Binary a o b) = subst P (sym (form.rolls-Binary a.0 o b.0)) (steps.binaries a.0 o b.0 a.1 b.1)
    form_layer (Form-F.Choice c a b) = subst P (sym (form.rolls-Choice c.0 a.0 b.0)) (steps.choices c.0 a.0 b.0 c.1 a.1 b.1)
    form_layer (Form-F.Dependency a b) = subst P (sym (form.rolls-Dependency a.0 b.0)) (steps.dependencies a.0 b.0 a.1 b.1)

    pub expr_induction : (e : Expr) → Q e
    expr_induction = ind-Expr P Q (λ x y is. subst (λ z. P (roll-Form z)) is (form_layer y)) (λ x y is. subst (λ z. Q (roll-Expr z)) is (expr_layer y))
