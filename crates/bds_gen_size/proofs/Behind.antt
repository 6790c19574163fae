-- The names in force behind a statement, and that those before it stay.
use Rattle.std.proofs.Common.{◌≡◌, ◌+◌, ◌≤◌, ℕ, List, [], ◌∷◌, ◌++◌, Option, Some, None, Bool, true, false, length, take, map, subst, refl, sym, ap, ◌∙◌, arith, if◌then◌else◌}
use Rattle.bds_value.specs.declared.value.Ty.{Ty}
use Rattle.bds_tree.specs.StmtTree.{SmallTree, StmtTree}
use Rattle.bds_check_names.specs.declared.names.Variable.{Variable}
use Rattle.bds_check_names.specs.Scopes.{any_named, variable}
use Rattle.bds_check_names.specs.Slots.{visible as visible_count}
use Rattle.bds_check_rules.specs.Declarations.{declared_by, declared_by_small}
use Rattle.bds_check_size.specs.Known.{Known, with_known, known_with}
use Rattle.bds_check_size.specs.StmtSize.{known_behind, known_behind_small}
use Rattle.bds_check_size.specs.ParSize.{visible_variables, in_par}
use Rattle.bds_gen_expr.specs.declared.scope.Numbered.{Numbered}
use Rattle.bds_gen_expr.specs.declared.scope.Scope.{Scope}
use Rattle.bds_gen_expr.specs.Numbers.{variables_of, numbered, visible_locals}
use Rattle.bds_gen_expr.specs.Scope.{known}
use Rattle.bds_gen_size.specs.Behind.{with_name, scope_with, scope_behind, scope_behind_small}

pub variables-end : (ls : List Numbered) (l : Numbered) → variables_of (ls ++ l ∷ []) ≡ variables_of ls ++ l.variable ∷ []
variables-end [] l = refl
variables-end (k ∷ ls) l = ap (λ vs. k.variable ∷ vs) (variables-end ls l)

pub known_named : (sc : Scope) (x : List ℕ) (t : Ty) → known (with_name sc x t) ≡ with_known (known sc) x t
known_named sc x t = ap (with_locals (variables_of sc.globals)) (variables-end sc.locals (numbered x t 0))
  where
    with_locals : List Variable → List Variable → Known
    with_locals gs vs = record { locals = vs; globals = gs }

known_with_is : (v : Option Variable) (sc : Scope) → known (scope_with sc v) ≡ known_with (known sc) v
known_with_is None sc = refl
known_with_is (Some v) sc = known_named sc v.name v.ty

known_is : (s : StmtTree) (sc : Scope) → known (scope_behind s sc) ≡ known_behind s (known sc)
known_is s sc = known_with_is (declared_by s) sc

pub known_small : (s : Option SmallTree) (sc : Scope) → known (scope_behind_small s sc) ≡ known_behind_small s (known sc)
known_small s sc = known_with_is (declared_by_small s) sc

-- the front stays
pub take_front : {X : Type 0} (xs ys : List X) → take (length xs) (xs ++ ys) ≡ xs
take_front [] ys = refl
take_front (x ∷ xs) ys = ap (λ zs. x ∷ zs) (take_front xs ys)

-- behind further names these are still in front
pub record Keeps (before behind : Scope) : Type 0 where
  pub locals : take (length before.locals) behind.locals ≡ before.locals
  pub globals : behind.globals ≡ before.globals
  pub functions : behind.functions ≡ before.functions

pub seen-variables : (ls : List Numbered) → variables_of (visible_locals ls) ≡ visible_variables (variables_of ls)
seen-variables [] = refl
seen-variables (l ∷ ls) = by (any_named l.variable.name (variables_of ls)) (seen-variables ls)
  where
    by : (b : Bool) → variables_of (visible_locals ls) ≡ visible_variables (variables_of ls) → variables_of (if b then visible_locals ls else l ∷ visible_locals ls) ≡ (if b then visible_variables (variables_of ls) else l.variable ∷ visible_variables (variables_of ls))
    by true e = e
    by false e = ap (λ vs. l.variable ∷ vs) e

pub seen_count : (ls : List Numbered) → visible_count (variables_of ls) ≡ length (visible_locals ls)
seen_count [] = refl
seen_count (l ∷ ls) = by (any_named l.variable.name (variables_of ls)) (seen_count ls)
  where
    by : (b : Bool) → visible_count (variables_of ls) ≡ length (visible_locals ls) → (if b then visible_count (variables_of ls) else visible_count (variables_of ls) + 1) ≡ length (if b then visible_locals ls else l ∷ visible_locals ls)
    by true e = e
    by false e = omega (arith, e)

pub known_seen : (sc : Scope) → known (record sc { locals = visible_locals sc.locals }) ≡ in_par (known sc)
known_seen sc = ap (with_locals (variables_of sc.globals)) (seen-variables sc.locals)
  where
    with_locals : List Variable → List Variable → Known
    with_locals gs vs = record { locals = vs; globals = gs }

tail-of : List Numbered → List Numbered
tail-of [] = []
tail-of (x ∷ l) = l

head-same : (x a : Numbered) (l k : List Numbered) → x ∷ l ≡ a ∷ k → x ≡ a
head-same x a l k h = cc

cut : (xs ys zs : List Numbered) → take (length xs) ys ≡ xs → take (length xs) (ys ++ zs) ≡ xs
unfolding tail-of
cut [] ys zs e = refl
cut (x ∷ xs) [] zs e = absurd (cc)
cut (x ∷ xs) (y ∷ ys) zs e = ap (λ w. w ∷ take (length xs) (ys ++ zs)) (head-same y x (take (length xs) ys) xs e) ∙ ap (λ l. x ∷ l) (cut xs ys zs (ap tail-of e))

-- a statement behind others leaves those that were there in front
module _ (before : Scope) where
  named-on : (behind : Scope) (x : List ℕ) (t : Ty) → Keeps before behind → Keeps before (with_name behind x t)
  named-on sc x t h = record { locals = cut before.locals sc.locals (numbered x t 0 ∷ []) h.locals; globals = h.globals; functions = h.functions }

  pub variable-on : (v : Option Variable) (sc : Scope) → Keeps before sc → Keeps before (scope_with sc v)
  variable-on None sc h = h
  variable-on (Some v) sc h = named-on sc v.name v.ty h

  pub stmt-kept : (s : StmtTree) (sc sc1 sc2 : Scope) → sc1 ≡ sc → sc2 ≡ scope_behind s sc1 → Keeps before sc → Keeps before sc2
  stmt-kept s sc sc1 sc2 e1 e2 h = subst (Keeps before) (sym (e2 ∙ ap (scope_behind s) e1)) (variable-on (declared_by s) sc h)

pub stmt-known : (s : StmtTree) (sc sc1 sc2 : Scope) → sc1 ≡ sc → sc2 ≡ scope_behind s sc1 → known sc2 ≡ known_behind s (known sc)
stmt-known s sc sc1 sc2 e1 e2 = ap known (e2 ∙ ap (scope_behind s) e1) ∙ known_is s sc

-- what a part of a `for` declares is cut off again

pub small_cut : (o : Option SmallTree) (sc : Scope) → take (length sc.locals) (scope_behind_small o sc).locals ≡ sc.locals
small_cut o sc = (variable-on sc (declared_by_small o) sc (record { locals = whole sc.locals; globals = refl; functions = refl })).locals
  where
    whole : (ls : List Numbered) → take (length ls) ls ≡ ls
    whole [] = refl
    whole (l ∷ ls) = ap (λ ks. l ∷ ks) (whole ls)

others-stay : (v : Option Variable) (sc : Scope)
    → ((scope_with sc v).globals ≡ sc.globals) × ((scope_with sc v).functions ≡ sc.functions)
others-stay None sc = (refl, refl)
others-stay (Some v) sc = (refl, refl)

pub small_globals : (o : Option SmallTree) (sc : Scope) → (scope_behind_small o sc).globals ≡ sc.globals
small_globals s sc = (others-stay (declared_by_small s) sc).0

pub small_functions : (o : Option SmallTree) (sc : Scope) → (scope_behind_small o sc).functions ≡ sc.functions
small_functions s sc = (others-stay (declared_by_small s) sc).1

-- for functions that leave the names in force as they were
pub ruleset names_rules = (take_front, small_cut, small_globals, small_functions, known_small, known_named, known_seen, seen_count)
