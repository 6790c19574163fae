-- A loop that changes the items of a list in place, one after another, and the trees of such lists.
use Rattle.std.proofs.Common.{◌≡◌, ℕ, ◌+◌, ◌<◌, ◌≤◌, List, [], ◌∷◌, ◌++◌, Some, take, drop, map, length, get_or, set, slice_get, refl, ap, sym, ◌∙◌, arith}
use Rattle.std.proofs.lemmas.List.{get_or-drop, take_more_set, map_more, drop-set-lt, drop-drop, take_all, length-set, map-append}
use Rattle.std.proofs.lemmas.Option.{get_or_from_slice_get, slice_get_within}
use denote.Param.Weighed.{most, at_most}
use Rattle.bds_tree.specs.declared.expr.Expr.{Expr}
use Rattle.bds_tree.specs.declared.stmt.Case.{Case}
use Rattle.bds_tree.specs.declared.stmt.Stmt.{Stmt}
use Rattle.bds_tree.specs.Tree.{Tree, more, more_pairs, to_trees, to_pairs}
use Rattle.bds_tree.specs.StmtTree.{StmtTree, more_stmts, to_stmts, CaseTree, more_cases, to_cases}
use Rattle.bds_tree.specs.View.{tree_of, trees_of, pairs_of}
use Rattle.bds_tree.specs.StmtView.{stmt_of, stmts_of, case_of, cases_of}
use Rattle.bds_front_numbers.specs.InFile.{expr_in, exprs_in, pairs_in, stmt_in, stmts_in, case_in, cases_in}

module _ {X T : Type 0} (view wanted : X → T) where
  -- the first i items are as they are wanted, and those behind them as they were
  pub record Halfway (olds : List X) (i : ℕ) (news : List X) : Type 0 where
    pub as_long : length news ≡ length olds
    pub behind : map view (take i news) ≡ map wanted (take i olds)
    pub ahead : drop i news ≡ drop i olds

  pub halfway-none : (xs : List X) → Halfway xs 0 xs
  halfway-none xs = record { as_long = refl; behind = refl; ahead = refl }

  pub next_item : (olds news : List X) (i : ℕ) (x : X) → slice_get news i ≡ Some x → Halfway olds i news → get_or olds i x ≡ x
  next_item olds news i x e h =
      let here : i + 0 ≡ i = omega arith in
      ap (λ n. get_or olds n x) (sym here)
      ∙ sym (get_or-drop i olds 0 x)
      ∙ ap (λ xs. get_or xs 0 x) (sym h.ahead)
      ∙ get_or-drop i news 0 x
      ∙ ap (λ n. get_or news n x) here
      ∙ get_or_from_slice_get news i x x e

  pub next_within : (olds news : List X) (i : ℕ) (x : X) → slice_get news i ≡ Some x → Halfway olds i news → i < length olds
  next_within olds news i x e h = let l = slice_get_within news i x e in let s = h.as_long in omega arith

  pub halfway-more : (olds news : List X) (i : ℕ) (x y : X) → slice_get news i ≡ Some x → view y ≡ wanted x → Halfway olds i news → Halfway olds (i + 1) (set news i y)
  halfway-more olds news i x y e is h =
      let within = slice_get_within news i x e in
      record {
        as_long = length-set news i y ∙ h.as_long;
        behind = ap (map view) (take_more_set news i y within) ∙ map-append view (take i news) (y ∷ [])
            ∙ ap (λ ts. ts ++ view y ∷ []) h.behind
            ∙ ap (λ t. map wanted (take i olds) ++ t ∷ []) (is ∙ ap wanted (sym (next_item olds news i x e h)))
            ∙ sym (map_more wanted olds i x (next_within olds news i x e h));
        ahead = drop-set-lt (i + 1) news i y (omega arith) ∙ sym (drop-drop 1 i news) ∙ ap (drop 1) h.ahead ∙ drop-drop 1 i olds;
      }

  pub halfway-all : (olds news : List X) (i : ℕ) → length olds ≤ i → Halfway olds i news → map view news ≡ map wanted olds
  halfway-all olds news i end h =
      let same = h.as_long in
      ap (map view) (sym (take_all i news (omega arith))) ∙ h.behind ∙ ap (map wanted) (take_all i olds end)

  pub next_depth : (μ : X → ℕ) (olds news : List X) (i : ℕ) (x : X) → slice_get news i ≡ Some x → Halfway olds i news → μ x ≤ most μ olds
  next_depth μ olds news i x e h =
      let deep = at_most μ olds i x (next_within olds news i x e h) in
      rw (next_item olds news i x e h) at deep

-- where the items of a list are wanted by a change of their views
module _ {X T : Type 0} (view : X → T) (change : T → T) where
  abbrev pub changed : X → T
  changed x = change (view x)

  pub map_changed : (xs : List X) → map changed xs ≡ map change (map view xs)
  map_changed [] = refl
  map_changed (x ∷ xs) = ap (λ ts. change (view x) ∷ ts) (map_changed xs)

  -- when all are changed
  pub all_changed : (olds news : List X) (i : ℕ) → length olds ≤ i → Halfway view changed olds i news → map view news ≡ map change (map view olds)
  all_changed olds news i end h = halfway-all view changed olds news i end h ∙ map_changed olds

abbrev pub pair_of : Expr × Expr → Tree × Tree
pair_of p = (tree_of p.0, tree_of p.1)

module _ (file : ℕ) where
  abbrev pub wanted_expr : Expr → Tree
  wanted_expr e = expr_in file (tree_of e)

  abbrev pub wanted_pair : Expr × Expr → Tree × Tree
  wanted_pair p = (expr_in file (tree_of p.0), expr_in file (tree_of p.1))

  abbrev pub wanted_stmt : Stmt → StmtTree
  wanted_stmt s = stmt_in file (stmt_of s)

  abbrev pub wanted_case : Case → CaseTree
  wanted_case c = case_in file (case_of c)

  pub trees_wanted : (es : List Expr) → to_trees (map wanted_expr es) ≡ exprs_in file (trees_of es)
  trees_wanted [] = refl
  trees_wanted (e ∷ es) = ap (more (expr_in file (tree_of e))) (trees_wanted es)

  pub pairs_wanted : (ps : List (Expr × Expr)) → to_pairs (map wanted_pair ps) ≡ pairs_in file (pairs_of ps)
  pairs_wanted [] = refl
  pairs_wanted (p ∷ ps) = ap (more_pairs (expr_in file (tree_of p.0)) (expr_in file (tree_of p.1))) (pairs_wanted ps)

  pub stmts_wanted : (ss : List Stmt) → to_stmts (map wanted_stmt ss) ≡ stmts_in file (stmts_of ss)
  stmts_wanted [] = refl
  stmts_wanted (s ∷ ss) = ap (more_stmts (stmt_in file (stmt_of s))) (stmts_wanted ss)

  pub cases_wanted : (cs : List Case) → to_cases (map wanted_case cs) ≡ cases_in file (cases_of cs)
  cases_wanted [] = refl
  cases_wanted (c ∷ cs) = ap (more_cases (case_in file (case_of c))) (cases_wanted cs)
