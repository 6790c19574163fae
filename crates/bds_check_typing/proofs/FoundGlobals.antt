-- The globals that functions see are those that the top level declares, each with its type there or with none.
use Rattle.std.proofs.Common.{◌≡◌, ℕ, Bool, true, false, not, ◌||◌, List, [], ◌∷◌, ◌++◌, Option, Some, None, refl, ap, sym, subst, ◌∙◌, inl, inr, ◌⊎◌, if◌then◌else◌, rules}
use Rattle.std.specs.Str.{bytes_eq}
use Rattle.bds_value.specs.declared.value.At.{At}
use Rattle.bds_value.specs.declared.value.Ty.{Ty}
use Rattle.bds_value.specs.declared.value.Ty.TheVariants as ty
use Rattle.bds_tree.specs.Tree.{type_of}
use Rattle.bds_tree.specs.StmtTree.{StmtTree, LineTree, RightTree, ActTree, PartTree, stmt, line, each, declare, infer, right_expr, right_act, act, sys, task, dep, goal, par_call, par_block, a_function, an_include, a_statement}
use Rattle.bds_check_names.specs.declared.names.Names.{Names}
use Rattle.bds_check_names.specs.declared.names.Head.{Head}
use Rattle.bds_check_names.specs.declared.names.Variable.{Variable}
use Rattle.bds_check_names.specs.declared.names.Asked.{Asked}
use Rattle.bds_check_names.specs.declared.names.Asked.TheVariants.{Value}
use Rattle.bds_check_names.specs.Types.{is_known}
use Rattle.bds_check_names.specs.Scopes.{variable, first_type, is_missing, any_named, declare_in, top}
use Rattle.bds_check_rules.specs.Declarations.{declared_by_form, names_with}
use Rattle.bds_check_rules.specs.StmtBreaks.{act_type, right_type}
use Rattle.bds_check_typing.specs.Walk.{Broken, Judged, judge}
use Rattle.bds_check_typing.specs.StmtWalk.{judge_stmt, judge_right, judge_act, judge_stmt_form}
use Rattle.bds_check_typing.specs.Program.{names_of, finding_names, type_unless_broken, found_type, behind_stmt, globals_from, with_head, judge_parts}
use Rattle.bds_check_typing.specs.WellTypedScripts.{AreFoundAs, names_behind_parts}
use Rattle.bds_check_typing.proofs.WellTypedStmtLaws.{names-kept}
use Rattle.bds_check_typing.proofs.Agreeing.{Agree, judged}
use Rattle.bds_check_typing.proofs.Written.{void-unknown}

-- a type is that one, or none
abbrev IsOrVoid : Ty → Ty → Type 0
IsOrVoid t u = (t ≡ u) ⊎ (t ≡ ty.Void)

looked-at : (here : Bool) (t u : Ty) (o p : Option Ty) → IsOrVoid t u → (is_missing true o ≡ false → (o ≡ p) × (is_missing false p ≡ false)) →
    is_missing true (if here then Some t else o) ≡ false → ((if here then Some t else o) ≡ (if here then Some u else p)) × (is_missing false (if here then Some u else p) ≡ false)
looked-at true t u o p (inl e) h q = (ap Some e, refl)
looked-at true t u o p (inr e) h q = absurd (let missing : not (is_known t) ≡ true = ap not (ap is_known e ∙ void-unknown) in search (rules, sym missing ∙ q))
looked-at false t u o p e h q = h q

looked : (vs ws : List Variable) → AreFoundAs vs ws → (x : List ℕ) → is_missing true (first_type x vs) ≡ false → (first_type x vs ≡ first_type x ws) × (is_missing false (first_type x ws) ≡ false)
looked [] [] h x q = absurd (search (rules, q))
looked [] (w ∷ ws) h x q = absurd h
looked (v ∷ vs) [] h x q = absurd h
looked (v ∷ vs) (w ∷ ws) h x q =
    subst (λ (b : Bool). (first_type x (v ∷ vs) ≡ (if b then Some w.ty else first_type x ws)) × (is_missing false (if b then Some w.ty else first_type x ws) ≡ false)) (ap (bytes_eq x) h.0)
    (looked-at (bytes_eq x v.name) v.ty w.ty (first_type x vs) (first_type x ws) h.1 (looked vs ws h.2 x) q)

found-agree : (heads : List Head) (vs ws : List Variable) → AreFoundAs vs ws → Agree (finding_names heads vs) (names_of heads ws)
found-agree heads vs ws h x q = looked vs ws h x q

-- One more global

named-alike : (x : List ℕ) (vs ws : List Variable) → AreFoundAs vs ws → any_named x vs ≡ any_named x ws
named-alike x [] [] h = refl
named-alike x [] (w ∷ ws) h = absurd h
named-alike x (v ∷ vs) [] h = absurd h
named-alike x (v ∷ vs) (w ∷ ws) h = ap (λ (n : List ℕ). bytes_eq x n || any_named x vs) h.0 ∙ ap (λ (b : Bool). bytes_eq x w.name || b) (named-alike x vs ws h.2)

one-more : (x : List ℕ) (t u : Ty) (vs ws : List Variable) → IsOrVoid t u → AreFoundAs vs ws → AreFoundAs (vs ++ variable x t ∷ []) (ws ++ variable x u ∷ [])
one-more x t u [] [] e h = (refl, e, tt)
one-more x t u [] (w ∷ ws) e h = absurd h
one-more x t u (v ∷ vs) [] e h = absurd h
one-more x t u (v ∷ vs) (w ∷ ws) e h = (h.0, h.1, one-more x t u vs ws e h.2)

declared-choice : (there : Bool) (vs ws us rs : List Variable) → AreFoundAs vs ws → AreFoundAs us rs → AreFoundAs (if there then vs else us) (if there then ws else rs)
declared-choice true vs ws us rs h k = h
declared-choice false vs ws us rs h k = k

declared-alike : (x : List ℕ) (t u : Ty) (vs ws : List Variable) → IsOrVoid t u → AreFoundAs vs ws → AreFoundAs (declare_in 0 (variable x t) vs) (declare_in 0 (variable x u) ws)
declared-alike x t u vs ws e h =
    subst (λ (b : Bool). AreFoundAs (declare_in 0 (variable x t) vs) (if b then ws else ws ++ variable x u ∷ [])) (named-alike x vs ws h)
    (declared-choice (any_named x vs) vs ws (vs ++ variable x t ∷ []) (ws ++ variable x u ∷ []) h (one-more x t u vs ws e h))

-- The type of a global that is declared by its value

act-kept : (a : ActTree) (names : Names) (asked : Asked) → act_type (judge_act a names asked).act ≡ act_type a
act-kept (act at (sys ps)) names asked = refl
act-kept (act at (task None b)) names asked = refl
act-kept (act at (task (Some os) b)) names asked = refl
act-kept (act at (dep os b)) names asked = refl
act-kept (act at (goal e)) names asked = refl
act-kept (act at (par_call f es)) names asked = refl
act-kept (act at (par_block b)) names asked = refl

unless-broken : (r : RightTree) (t : Ty) (o : Option Broken) → (o ≡ None → right_type r ≡ t) → IsOrVoid (type_unless_broken r o) t
unless-broken r t None h = inl (h refl)
unless-broken r t (Some b) h = inr refl

found-type : (heads : List Head) (vs ws : List Variable) (r : RightTree) → AreFoundAs vs ws → IsOrVoid (found_type heads vs r) (right_type (judge_right r (names_of heads ws) Value).right)
found-type heads vs ws (right_expr e) h =
    unless-broken (right_expr (judge e (finding_names heads vs) Value).tree) (type_of (judge e (names_of heads ws) Value).tree) (judge e (finding_names heads vs) Value).broken
    (λ q. ap (λ (j : Judged). type_of j.tree) (judged heads vs ws [] [] true false (found-agree heads vs ws h) e Value q))
found-type heads vs ws (right_act a) h =
    unless-broken (right_act (judge_act a (finding_names heads vs) Value).act) (act_type (judge_act a (names_of heads ws) Value).act) (judge_act a (finding_names heads vs) Value).broken
    (λ q. act-kept a (finding_names heads vs) Value ∙ sym (act-kept a (names_of heads ws) Value))

-- Statements at the top level

line-found : (heads : List Head) (vs ws : List Variable) (at : At) (l : LineTree) → AreFoundAs vs ws → AreFoundAs (behind_stmt heads vs (stmt at (line l))) (judge_stmt (stmt at (line l)) (names_of heads ws) top).names.globals
line-found heads vs ws at (declare t x r) h = declared-alike x t t vs ws (inl refl) h
line-found heads vs ws at (infer x r) h = declared-alike x (found_type heads vs r) (right_type (judge_right r (names_of heads ws) Value).right) vs ws (found-type heads vs ws r h) h
line-found heads vs ws at _ h = h

stmt-found : (heads : List Head) (vs ws : List Variable) (s : StmtTree) → AreFoundAs vs ws → AreFoundAs (behind_stmt heads vs s) (judge_stmt s (names_of heads ws) top).names.globals
stmt-found heads vs ws (stmt at (line l)) h = line-found heads vs ws at l h
stmt-found heads vs ws (stmt at _) h = h

-- a statement at the top level changes the globals alone
globals-alone : (heads : List Head) (ws : List Variable) (v : Option Variable) → names_with (names_of heads ws) top v
    ≡ names_of heads (names_with (names_of heads ws) top v).globals
globals-alone heads ws None = refl
globals-alone heads ws (Some v) = refl

pub stmt-globals : (heads : List Head) (ws : List Variable) (s : StmtTree)
    → (judge_stmt s (names_of heads ws) top).names
    ≡ names_of heads (judge_stmt s (names_of heads ws) top).names.globals
stmt-globals heads ws (stmt at f) = globals-alone heads ws (declared_by_form (judge_stmt_form f (names_of heads ws) top).form)

pub parts-found : (heads : List Head) (vs ws : List Variable) (all : Names) (before : List Head) (ps : List PartTree) → AreFoundAs vs ws → AreFoundAs (globals_from heads vs ps) (names_behind_parts (judge_parts all before (names_of heads ws) ps).parts (names_of heads ws)).globals
parts-found heads vs ws all before [] h = h
parts-found heads vs ws all before (a_function f ∷ ps) h = parts-found heads vs ws all (with_head before (a_function f)) ps h
parts-found heads vs ws all before (an_include i ∷ ps) h = parts-found heads vs ws all before ps h
parts-found heads vs ws all before (a_statement s ∷ ps) h =
    let now : Names = names_of heads ws in
    let behind : Names = (judge_stmt s now top).names in
    let others : List PartTree = (judge_parts all before behind ps).parts in
    let same : behind ≡ names_of heads behind.globals = stmt-globals heads ws s in
    let rest : AreFoundAs (globals_from heads (behind_stmt heads vs s) ps) (names_behind_parts (judge_parts all before (names_of heads behind.globals) ps).parts (names_of heads behind.globals)).globals = parts-found heads (behind_stmt heads vs s) behind.globals all before ps (stmt-found heads vs ws s h) in
    subst (λ (n : Names). AreFoundAs (globals_from heads (behind_stmt heads vs s) ps) (names_behind_parts others n).globals) (names-kept s now top)
    (subst (λ (n : Names). AreFoundAs (globals_from heads (behind_stmt heads vs s) ps) (names_behind_parts (judge_parts all before n ps).parts n).globals) (sym same) rest)
