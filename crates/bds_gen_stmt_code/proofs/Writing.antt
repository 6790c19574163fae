-- For the functions that write one thing behind the other.
use Rattle.std.proofs.Common.{◌≡◌, ◌<◌, ◌≤◌, ◌+◌, ℕ, zero, suc, Bool, true, false, List, [], ◌∷◌, ◌++◌, length, length-append, slice_set, get_or, drop, reverse, refl, sym, ◌∙◌, ap, arith, append_assoc, if◌then◌else◌}
use Rattle.std.proofs.lemmas.List.{drop_more}
use Rattle.bds_value.specs.declared.value.At.{At}
use Rattle.bds_value.specs.declared.value.Ty.{Ty}
use Rattle.bds_tree.specs.declared.expr.Expr.{Expr, fold_out-Expr}
use Rattle.bds_tree.specs.declared.stmt.Command.{Command}
use Rattle.bds_tree.specs.declared.expr.Form.TheVariants as form
use Rattle.bds_tree.specs.Tree.{Tree, FormTree, node, item, key, type_of}
use Rattle.bds_tree.proofs.Views.{form_tree_of-Item, form_tree_of-Key}
use Rattle.bds_tree.specs.View.{form_step, expr_step, tree_of, form_tree_of, trees_of}
use Rattle.bds_check_rules.specs.Typing.{count as tree_count}
use Rattle.bds_check_names.specs.Scopes.{any_named}
use Rattle.bds_code.specs.UpdateRows.{step_ty}
use Rattle.bds_code.specs.declared.instr.Instr.{Instr}
use Rattle.bds_code.specs.declared.instr.Instr.TheVariants.{Store, StoreGlobal, Concat, PushText}
use Rattle.bds_code.specs.declared.unit.Function.{Function}
use Rattle.bds_gen_expr.specs.declared.scope.Numbered.{Numbered}
use Rattle.bds_gen_expr.specs.declared.scope.Scope.{Scope}
use Rattle.bds_gen_expr.specs.ExprCode.{pieces_code}
use Rattle.bds_gen_expr.specs.Gen.{act, mark, patched}
use Rattle.bds_gen_expr.specs.Marks.{does, label, slot, put, written}
use Rattle.bds_gen_expr.specs.Numbers.{variables_of, visible_locals}
use Rattle.bds_gen_expr.specs.Scope.{with_one_global}
use Rattle.bds_gen_expr.proofs.GenLaws.{mark-is}
use Rattle.bds_gen_expr.proofs.Written.{written-append}
use Rattle.bds_gen_stmt.specs.PlaceCode.{steps_of}
use Rattle.bds_gen_stmt.specs.Spots.{declared_local}
use Rattle.bds_gen_stmt.specs.TaskCode.{further_commands, joining_code}
use Rattle.bds_gen_stmt_code.specs.Bodies.{slots_of, spot_of, with_variable, with_local}
use Rattle.bds_gen_stmt_code.specs.GenParts.{steps_above}
use Rattle.bds_gen_stmt_code.specs.GenTasks.{joined}
use Rattle.bds_gen_stmt_code.specs.declared.body.Body.{Body}

pub mark_is : (g : Function) (shape : List Ty) → mark g shape ≡ put g (label (reverse shape))
mark_is g shape = mark-is g shape

set-beyond : {X : Type 0} (xs : List X) (n : ℕ) (v : X) → length xs ≤ n → slice_set xs n v ≡ xs
set-beyond [] zero v h = refl
set-beyond [] (suc n) v h = refl
set-beyond (x ∷ xs) zero v h = absurd (omega (arith, h))
set-beyond (x ∷ xs) (suc n) v h = ap (λ l. x ∷ l) (set-beyond xs n v (omega (arith, h)))

pub patched_beyond : (f : Function) (n : ℕ) (i : Instr) → length f.code ≤ n → patched f n i ≡ f
patched_beyond f n i h = ap (λ c. record f { code = c }) (set-beyond f.code n i h)

-- Variables

pub local_variable : (b : Body) (at : At) (x : List ℕ) (t : Ty) → b.at_top ≡ false → with_local b at x t ≡ with_variable b at x t
local_variable b at x t e = by b.at_top (sym e)
  where
    by : (c : Bool) → false ≡ c → with_local b at x t ≡ record b {
      function = written b.function (if c then does (StoreGlobal (length b.scope.globals)) at ∷ [] else slot t ∷ does (Store (slots_of b.function)) at ∷ []);
      scope = (if c then record (spot_of b) { scope = with_one_global b.scope x t (length b.scope.globals) } else declared_local (spot_of b) x t).scope;
    }
    by true q = absurd (cc)
    by false q = refl

pub global_variable : (b : Body) (at : At) (x : List ℕ) (t : Ty) → b.at_top ≡ true
    → record b { function = act b.function at (StoreGlobal (length b.scope.globals)); scope = with_one_global b.scope x t (length b.scope.globals) } ≡ with_variable b at x t
global_variable b at x t e = by b.at_top (sym e)
  where
    by : (c : Bool) → true ≡ c → record b { function = act b.function at (StoreGlobal (length b.scope.globals)); scope = with_one_global b.scope x t (length b.scope.globals) } ≡ record b {
      function = written b.function (if c then does (StoreGlobal (length b.scope.globals)) at ∷ [] else slot t ∷ does (Store (slots_of b.function)) at ∷ []);
      scope = (if c then record (spot_of b) { scope = with_one_global b.scope x t (length b.scope.globals) } else declared_local (spot_of b) x t).scope;
    }
    by true q = refl
    by false q = absurd (cc)

-- Steps

pub above_end : (ks : List Bool) (k : Bool) (s : List Ty) → steps_above (ks ++ k ∷ []) s ≡ steps_above ks s ++ step_ty k ∷ []
above_end [] k s = refl
above_end (j ∷ ks) k s = above_end ks k (s ++ step_ty j ∷ [])

-- Views

pub type_is : (e : Expr) → type_of (tree_of e) ≡ e.ty
type_is e = ap type_of (fold_out-Expr FormTree Tree form_step expr_step e)

pub count_is : (es : List Expr) → tree_count (trees_of es) ≡ length es
count_is [] = refl
count_is (e ∷ es) = let r = count_is es in omega (arith, r)

-- Visible locals

from-item : {X : Type 0} (xs : List X) (i : ℕ) (x : X) → i < length xs → x ≡ get_or xs i x → drop i xs ≡ x ∷ drop (i + 1) xs
from-item xs i x h e = drop_more xs i x h ∙ ap (λ y. y ∷ drop (i + 1) xs) (sym e)

pub visible_hidden : (ls : List Numbered) (i : ℕ) (x : Numbered) → i < length ls → x ≡ get_or ls i x → any_named x.variable.name (variables_of (drop (i + 1) ls)) ≡ true → visible_locals (drop i ls) ≡ visible_locals (drop (i + 1) ls)
visible_hidden ls i x h e b = ap visible_locals (from-item ls i x h e) ∙ ap (λ c. if c then visible_locals (drop (i + 1) ls) else x ∷ visible_locals (drop (i + 1) ls)) b

pub visible_shown : (ls : List Numbered) (i : ℕ) (x : Numbered) → i < length ls → x ≡ get_or ls i x → any_named x.variable.name (variables_of (drop (i + 1) ls)) ≡ false → visible_locals (drop i ls) ≡ x ∷ visible_locals (drop (i + 1) ls)
visible_shown ls i x h e b = ap visible_locals (from-item ls i x h e) ∙ ap (λ c. if c then visible_locals (drop (i + 1) ls) else x ∷ visible_locals (drop (i + 1) ls)) b

-- Tasks

pub further_step : (c : Command) (cs : List Command) (sc : Scope) (at : At) (f : Function) → written (written f (further_commands (c ∷ []) sc at)) (further_commands cs sc at) ≡ written f (further_commands (c ∷ cs) sc at)
further_step c cs sc at f =
    sym (written-append (further_commands (c ∷ []) sc at) (further_commands cs sc at) f)
    ∙ ap (λ l. written f (does (PushText (10 ∷ [])) at ∷ does Concat at ∷ l)) (append_assoc (pieces_code sc c.at c.text) (does Concat at ∷ []) (further_commands cs sc at))

pub asked_join : (f f1 f2 f3 f4 : Function) (at : At) (a b c : Instr) (first : ℕ) (s : List Ty) → f1 ≡ act f at a → f2 ≡ act f1 at b → f3 ≡ act f2 at c → f4 ≡ joined at first s f3
    → f4 ≡ written f (does a at ∷ does b at ∷ does c at ∷ joining_code at first (length f.code + 3) (reverse s))
asked_join f f1 f2 f3 f4 at a b c first s e1 e2 e3 e4 =
    let whole : f3 ≡ act (act (act f at a) at b) at c = e3 ∙ ap (λ x. act x at c) (e2 ∙ ap (λ x. act x at b) e1) in
    let l1 = length-append f.code (a ∷ []) in
    let l2 = length-append (f.code ++ a ∷ []) (b ∷ []) in
    let l3 = length-append ((f.code ++ a ∷ []) ++ b ∷ []) (c ∷ []) in
    let there : length (act (act (act f at a) at b) at c).code ≡ length f.code + 3 = omega (arith, l1, l2, l3) in
    e4 ∙ ap (λ x. joined at first s x) whole ∙ ap (λ n. written (act (act (act f at a) at b) at c) (joining_code at first n (reverse s))) there

pub further_next : (cs : List Command) (i : ℕ) (x : Command) (sc : Scope) (at : At) (f g whole : Function) → i < length cs → x ≡ get_or cs i x → g ≡ written f (further_commands (x ∷ []) sc at)
    → written f (further_commands (drop i cs) sc at) ≡ whole → written g (further_commands (drop (i + 1) cs) sc at) ≡ whole
further_next cs i x sc at f g whole h is e inv =
    ap (λ k. written k (further_commands (drop (i + 1) cs) sc at)) e ∙ further_step x (drop (i + 1) cs) sc at f ∙ sym (ap (λ l. written f (further_commands l sc at)) (from-item cs i x h is)) ∙ inv

-- Receivers

tree-is : (e : Expr) (t : FormTree) → form_tree_of e.form ≡ t → tree_of e ≡ node e.at e.ty t
tree-is e t h = fold_out-Expr FormTree Tree form_step expr_step e ∙ ap (node e.at e.ty) h

pub item_steps : (e a i : Expr) → e.form ≡ form.Item a i → steps_of (tree_of e) ≡ steps_of (tree_of a) ++ false ∷ []
item_steps e a i is = ap steps_of (tree-is e (item (tree_of a) (tree_of i)) (ap form_tree_of is ∙ form_tree_of-Item a i))

pub key_steps : (e a i : Expr) → e.form ≡ form.Key a i → steps_of (tree_of e) ≡ steps_of (tree_of a) ++ true ∷ []
key_steps e a i is = ap steps_of (tree-is e (key (tree_of a) (tree_of i)) (ap form_tree_of is ∙ form_tree_of-Key a i))

pub receiver_shape : (e a b : Expr) (k : Bool) (s s1 s2 : List Ty) → steps_of (tree_of e) ≡ steps_of (tree_of a) ++ k ∷ [] → b ≡ a → s1 ≡ steps_above (steps_of (tree_of b)) s → s2 ≡ s1 ++ step_ty k ∷ [] → s2 ≡ steps_above (steps_of (tree_of e)) s
receiver_shape e a b k s s1 s2 h same e1 e2 =
    e2 ∙ ap (λ l. l ++ step_ty k ∷ []) (e1 ∙ ap (λ x. steps_above (steps_of (tree_of x)) s) same) ∙ sym (above_end (steps_of (tree_of a)) k s) ∙ ap (λ l. steps_above l s) (sym h)

pub receiver_kinds : (e a b : Expr) (k : Bool) (s s1 s2 : List Bool) → steps_of (tree_of e) ≡ steps_of (tree_of a) ++ k ∷ [] → b ≡ a → s1 ≡ s ++ steps_of (tree_of b) → s2 ≡ s1 ++ k ∷ [] → s2 ≡ s ++ steps_of (tree_of e)
receiver_kinds e a b k s s1 s2 h same e1 e2 =
    e2 ∙ ap (λ l. l ++ k ∷ []) (e1 ∙ ap (λ x. s ++ steps_of (tree_of x)) same) ∙ append_assoc s (steps_of (tree_of a)) (k ∷ []) ∙ ap (λ l. s ++ l) (sym h)
