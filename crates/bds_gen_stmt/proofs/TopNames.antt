-- The globals of the top level are in the order of their numbers, and those of its size.
use Rattle.std.proofs.Common.{◌≡◌, ◌+◌, ℕ, suc, List, [], ◌∷◌, ◌++◌, length, length-append, map, slice_get, Some, Bool, true, false, refl, sym, ◌∙◌, ap, subst, arith, append_assoc, if◌then◌else◌}
use Rattle.std.proofs.lemmas.List.{length-map}
use Rattle.bds_value.specs.declared.value.Ty.{Ty}
use Rattle.bds_tree.specs.StmtTree.{StmtTree, PartTree, stmt, line, declare, infer, a_function, an_include, a_statement}
use Rattle.bds_code.specs.declared.unit.Unit.{Unit as CodeUnit}
use Rattle.bds_check_names.specs.declared.names.Variable.{Variable}
use Rattle.bds_check_names.specs.Scopes.{variable}
use Rattle.bds_check_rules.specs.StmtBreaks.{right_type}
use Rattle.bds_check_size.specs.Known.{Known, with_global}
use Rattle.bds_check_size.specs.ScriptSize.{behind_top, behind_parts as known_behind_parts}
use Rattle.bds_gen_expr.specs.declared.scope.Numbered.{Numbered}
use Rattle.bds_gen_expr.specs.Numbers.{variables_of, numbered}
use Rattle.bds_gen_expr.specs.Scope.{known, with_one_global}
use Rattle.bds_gen_stmt.specs.Spots.{Spot, declared_local}
use Rattle.bds_gen_stmt.specs.StmtCode.{behind}
use Rattle.bds_gen_stmt.specs.UnitCode.{in_order, behind_parts}
use Rattle.bds_gen_stmt.proofs.Matched.{AreGlobals, variables-end}

pub variables-in-order : (vs : List Variable) (n : ℕ) → variables_of (in_order n vs) ≡ vs
variables-in-order [] n = refl
variables-in-order (v ∷ vs) n = ap (λ ws. v ∷ ws) (variables-in-order vs (suc n))

in-order-end : (vs : List Variable) (v : Variable) (n k : ℕ) → n + length vs ≡ k → in_order n (vs ++ v ∷ []) ≡ in_order n vs ++ record { variable = v; number = k } ∷ []
in-order-end [] v n k e = let same : n ≡ k = omega (arith, e) in ap (λ i. record { variable = v; number = i } ∷ []) same
in-order-end (w ∷ vs) v n k e = ap (λ ns. record { variable = w; number = n } ∷ ns) (in-order-end vs v (suc n) k (omega (arith, e)))

abbrev pub IsOrdered : List Numbered → Type 0
IsOrdered ns = ns ≡ in_order 0 (variables_of ns)

one-more : (ns : List Numbered) (x : List ℕ) (t : Ty) → IsOrdered ns → IsOrdered (ns ++ numbered x t (length ns) ∷ [])
one-more ns x t e =
    ap (λ ms. ms ++ numbered x t (length ns) ∷ []) e
    ∙ sym (in-order-end (variables_of ns) (variable x t) 0 (length ns) (let e = length-map ns (λ n. n.variable) in omega (arith, e)))
    ∙ ap (in_order 0) (sym (variables-end ns (numbered x t (length ns))))

-- what is kept at the top level
pub record IsTop (sp : Spot) : Type 0 where
  pub high : sp.at_top ≡ true
  pub ordered : IsOrdered sp.scope.globals

declared-top : (b : Bool) (sp : Spot) (x : List ℕ) (t : Ty) → b ≡ true → IsTop sp → IsTop (if b then record sp { scope = with_one_global sp.scope x t (length sp.scope.globals) } else declared_local sp x t)
declared-top true sp x t e h = record { high = h.high; ordered = one-more sp.scope.globals x t h.ordered }
declared-top false sp x t e h = absurd (cc)

pub behind-top : (s : StmtTree) (sp : Spot) → IsTop sp → IsTop (behind s sp)
behind-top (stmt at (line (declare t x r))) sp h = declared-top sp.at_top sp x t h.high h
behind-top (stmt at (line (infer x r))) sp h = declared-top sp.at_top sp x (right_type r) h.high h
behind-top (stmt at (line l)) sp h = record { high = h.high; ordered = h.ordered }
behind-top (stmt at f) sp h = record { high = h.high; ordered = h.ordered }

declared-known : (b : Bool) (sp : Spot) (x : List ℕ) (t : Ty) → b ≡ true → known (if b then record sp { scope = with_one_global sp.scope x t (length sp.scope.globals) } else declared_local sp x t).scope ≡ with_global (known sp.scope) x t
declared-known true sp x t e = ap (λ vs. with_variables vs) (variables-end sp.scope.globals (numbered x t (length sp.scope.globals)))
  where
    with_variables : List Variable → Known
    with_variables vs = record { locals = variables_of sp.scope.locals; globals = vs }
declared-known false sp x t e = absurd (cc)

pub behind-known-top : (s : StmtTree) (sp : Spot) → sp.at_top ≡ true → known (behind s sp).scope ≡ behind_top s (known sp.scope)
behind-known-top (stmt at (line (declare t x r))) sp e = declared-known sp.at_top sp x t e
behind-known-top (stmt at (line (infer x r))) sp e = declared-known sp.at_top sp x (right_type r) e
behind-known-top (stmt at (line l)) sp e = refl
behind-known-top (stmt at f) sp e = refl

pub parts-top : (ps : List PartTree) (sp : Spot) → IsTop sp → IsTop (behind_parts ps sp) × (known (behind_parts ps sp).scope ≡ known_behind_parts ps (known sp.scope))
parts-top [] sp h = (h, refl)
parts-top (a_statement s ∷ ps) sp h = let r = parts-top ps (behind s sp) (behind-top s sp h) in (r.0, r.1 ∙ ap (known_behind_parts ps) (behind-known-top s sp h.high))
parts-top (a_function f ∷ ps) sp h = parts-top ps sp h
parts-top (an_include i ∷ ps) sp h = parts-top ps sp h

-- globals with their types in the unit
pub globals-typed : (u : CodeUnit) (front vs : List Variable) (n : ℕ) → u.globals ≡ map (λ v. v.ty) (front ++ vs) → length front ≡ n → AreGlobals u (in_order n vs)
globals-typed u front [] n e l = tt
globals-typed u front (v ∷ vs) n e l =
    let long = length-append front (v ∷ []) in
    (ap (λ ts. slice_get ts n) e ∙ at front n l, globals-typed u (front ++ v ∷ []) vs (suc n) (e ∙ ap (map (λ v. v.ty)) (sym (append_assoc front (v ∷ []) vs))) (omega (arith, long, l)))
  where
    at : (front : List Variable) (n : ℕ) → length front ≡ n → slice_get (map (λ v. v.ty) (front ++ v ∷ vs)) n ≡ Some v.ty
    at front n l = subst (λ k. slice_get (map (λ v. v.ty) (front ++ v ∷ vs)) k ≡ Some v.ty) l (at_end front)
      where
        at_end : (front : List Variable) → slice_get (map (λ v. v.ty) (front ++ v ∷ vs)) (length front) ≡ Some v.ty
        at_end [] = refl
        at_end (w ∷ front) = at_end front
