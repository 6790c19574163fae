-- The labels of a `switch`: what is written in order, with the jumps to the cases set behind, is what their marks write.
use Rattle.std.proofs.Common.{◌≡◌, ◌<◌, ◌≤◌, ◌+◌, ◌||◌, ℕ, Bool, true, false, Option, Some, None, List, [], ◌∷◌, ◌++◌, length, refl, sym, ◌∙◌, ap, arith, append_assoc, if◌then◌else◌}
use Rattle.bds_value.specs.declared.value.At.{At}
use Rattle.bds_value.specs.declared.value.Ty.{Ty}
use Rattle.bds_tree.specs.StmtTree.{StmtTrees, CaseTrees, CaseTree, no_cases, more_cases, a_case}
use Rattle.bds_tree.specs.Tree.{Tree, type_of}
use Rattle.bds_code.specs.declared.instr.Instr.TheVariants.{Load, Store, Equal, Jump, JumpUnless}
use Rattle.bds_code.specs.declared.unit.Function.{Function}
use Rattle.bds_check_rules.specs.StmtBreaks.{any_default}
use Rattle.bds_check_size.specs.ExprSize.{expr_size}
use Rattle.bds_check_size.specs.Known.{Known}
use Rattle.bds_check_size.specs.StmtSize.{labels_size, label_size, cases_size, case_size, stmts_size}
use Rattle.bds_gen_expr.specs.declared.scope.Scope.{Scope}
use Rattle.bds_gen_expr.specs.ExprCode.{expr_code}
use Rattle.bds_gen_expr.specs.Gen.{gen}
use Rattle.bds_gen_expr.specs.Marks.{Mark, does, label, count, slot_count, written}
use Rattle.bds_gen_expr.specs.Scope.{known, types_in}
use Rattle.bds_gen_expr.proofs.Counts.{expr-count, counts}
use Rattle.bds_gen_expr.proofs.GenLaws.{gen-is}
use Rattle.bds_gen_expr.proofs.Written.{written-append, length-written}
use Rattle.bds_gen_stmt.specs.Spots.{Spot}
use Rattle.bds_gen_stmt.specs.StmtCode.{default_place, labels_code, label_code}
use Rattle.bds_gen_stmt.proofs.StmtCounts.{expr-no-slots, no_slots}
use Rattle.bds_gen_stmt.proofs.WholeCounts.{labels-count, label-count}
use Rattle.bds_gen_stmt_code.specs.GenSwitches.{label_of, compared, gen_labels, label_jumps, open_jump}
use Rattle.bds_gen_stmt_code.proofs.SwitchJumps.{set_jump, set_jumps, AreBelow, patched-at}
use Rattle.bds_gen_stmt_code.proofs.Then.{then_is, gen-place}

-- The marks of the labels while each jump leads to 0

abbrev tests : Tree → At → Spot → ℕ → ℕ → List Mark
tests e at sp p to = does (Load sp.next) at ∷ does Equal at ∷ does (JumpUnless (p + (expr_size (types_in sp.scope) e + 4))) at ∷ does (Jump to) at ∷ label [] ∷ []

abbrev pub labels_open : CaseTrees → At → Spot → ℕ → List Mark
labels_open no_cases at sp p = []
labels_open (more_cases (a_case place None ss) cs) at sp p = labels_open cs at sp (p + 0)
labels_open (more_cases (a_case place (Some e) ss) cs) at sp p = (expr_code e sp.scope p [] ++ tests e at sp p 0) ++ labels_open cs at sp (p + (expr_size (types_in sp.scope) e + 4))

-- the places of the jumps
abbrev pub jumps_at : CaseTrees → Spot → ℕ → List ℕ
jumps_at no_cases sp p = []
jumps_at (more_cases (a_case place None ss) cs) sp p = 0 ∷ jumps_at cs sp (p + 0)
jumps_at (more_cases (a_case place (Some e) ss) cs) sp p = (p + expr_size (types_in sp.scope) e + 3) ∷ jumps_at cs sp (p + (expr_size (types_in sp.scope) e + 4))

one-label : (e : Tree) (at : At) (sp : Spot) (f : Function) (p : ℕ) → length f.code ≡ p → compared (gen e sp.scope [] f) at sp.next ≡ written f (expr_code e sp.scope p [] ++ tests e at sp p 0)
one-label e at sp f p h =
    let g : Function = gen e sp.scope [] f in
    let there = gen-place e sp.scope [] f p [] h refl in
    let next : length g.code + 4 ≡ p + (expr_size (types_in sp.scope) e + 4) = omega (arith, there) in
    then_is f g (compared g at sp.next) (expr_code e sp.scope p []) (tests e at sp p 0) (gen-is e sp.scope [] f p [] h refl) (ap (λ k. written g (does (Load sp.next) at ∷ does Equal at ∷ does (JumpUnless k) at ∷ does (Jump 0) at ∷ label [] ∷ [])) next)

label-place : (e : Tree) (at : At) (sp : Spot) (f : Function) (p : ℕ) → length f.code ≡ p → length (compared (gen e sp.scope [] f) at sp.next).code ≡ p + (expr_size (types_in sp.scope) e + 4)
label-place e at sp f p h =
    let g : Function = gen e sp.scope [] f in
    let there = gen-place e sp.scope [] f p [] h refl in
    let long = length-written (does (Load sp.next) at ∷ does Equal at ∷ does (JumpUnless (length g.code + 4)) at ∷ does (Jump 0) at ∷ label [] ∷ []) g in
    omega (arith, there, long)

pub labels-are : (cs : CaseTrees) (at : At) (sp : Spot) (f : Function) (p : ℕ) → length f.code ≡ p → gen_labels cs at sp.next sp.scope f ≡ written f (labels_open cs at sp p)
labels-are no_cases at sp f p h = refl
labels-are (more_cases (a_case place None ss) cs) at sp f p h = labels-are cs at sp f (p + 0) (omega (arith, h))
labels-are (more_cases (a_case place (Some e) ss) cs) at sp f p h =
    let size : ℕ = expr_size (types_in sp.scope) e in
    let g : Function = compared (gen e sp.scope [] f) at sp.next in
    then_is f g (gen_labels cs at sp.next sp.scope g) (expr_code e sp.scope p [] ++ tests e at sp p 0) (labels_open cs at sp (p + (size + 4))) (one-label e at sp f p h) (labels-are cs at sp g (p + (size + 4)) (label-place e at sp f p h))

pub jumps-are : (cs : CaseTrees) (at : At) (sp : Spot) (f : Function) (p : ℕ) → length f.code ≡ p → label_jumps cs at sp.next sp.scope f ≡ jumps_at cs sp p
jumps-are no_cases at sp f p h = refl
jumps-are (more_cases (a_case place None ss) cs) at sp f p h = ap (λ js. 0 ∷ js) (jumps-are cs at sp f (p + 0) (omega (arith, h)))
jumps-are (more_cases (a_case place (Some e) ss) cs) at sp f p h =
    let size : ℕ = expr_size (types_in sp.scope) e in
    let g : Function = compared (gen e sp.scope [] f) at sp.next in
    let there = gen-place e sp.scope [] f p [] h refl in
    let first : length (gen e sp.scope [] f).code + 3 ≡ p + size + 3 = omega (arith, there) in
    ap (λ n. n ∷ label_jumps cs at sp.next sp.scope g) first ∙ ap (λ js. (p + size + 3) ∷ js) (jumps-are cs at sp g (p + (size + 4)) (label-place e at sp f p h))

pub open-count : (cs : CaseTrees) (at : At) (sp : Spot) (p : ℕ) → count (labels_open cs at sp p) ≡ labels_size (types_in sp.scope) cs
open-count no_cases at sp p = refl
open-count (more_cases (a_case place None ss) cs) at sp p = let e = open-count cs at sp (p + 0) in omega (arith, e)
open-count (more_cases (a_case place (Some e) ss) cs) at sp p =
    let size : ℕ = expr_size (types_in sp.scope) e in
    let e1 = expr-count e sp.scope p [] in
    let c1 = counts (expr_code e sp.scope p []) (tests e at sp p 0) in
    let c2 = counts (expr_code e sp.scope p [] ++ tests e at sp p 0) (labels_open cs at sp (p + (size + 4))) in
    let e2 = open-count cs at sp (p + (size + 4)) in
    omega (arith, e1, e2, c1, c2)

pub open-slots : (cs : CaseTrees) (at : At) (sp : Spot) (p : ℕ) → slot_count (labels_open cs at sp p) ≡ 0
open-slots no_cases at sp p = refl
open-slots (more_cases (a_case place None ss) cs) at sp p = open-slots cs at sp (p + 0)
open-slots (more_cases (a_case place (Some e) ss) cs) at sp p =
    let size : ℕ = expr_size (types_in sp.scope) e in
    no_slots (expr_code e sp.scope p [] ++ tests e at sp p 0) (labels_open cs at sp (p + (size + 4))) (no_slots (expr_code e sp.scope p []) (tests e at sp p 0) (expr-no-slots e sp.scope p []) refl) (open-slots cs at sp (p + (size + 4)))

pub jumps-below : (cs : CaseTrees) (sp : Spot) (p m : ℕ) → p + labels_size (types_in sp.scope) cs < m → AreBelow cs (jumps_at cs sp p) m
jumps-below no_cases sp p m h = tt
jumps-below (more_cases (a_case place None ss) cs) sp p m h = (omega (arith, h), jumps-below cs sp (p + 0) m (omega (arith, h)))
jumps-below (more_cases (a_case place (Some e) ss) cs) sp p m h = (omega (arith, h), jumps-below cs sp (p + (expr_size (types_in sp.scope) e + 4)) m (omega (arith, h)))

-- With the jumps set

-- the jump of the first label
label-set : (e : Tree) (at : At) (sp : Spot) (p q : ℕ) (g : Function) (ns : List Mark) → length g.code ≡ p
    → set_jump (Some (p + expr_size (types_in sp.scope) e + 3)) q (written g ((expr_code e sp.scope p [] ++ tests e at sp p 0) ++ ns)) ≡ written g ((expr_code e sp.scope p [] ++ tests e at sp p q) ++ ns)
label-set e at sp p q g ns h =
    let size : ℕ = expr_size (types_in sp.scope) e in
    let code : List Mark = expr_code e sp.scope p [] in
    let before : List Mark = does (Load sp.next) at ∷ does Equal at ∷ does (JumpUnless (p + (size + 4))) at ∷ [] in
    let e1 = expr-count e sp.scope p [] in
    let c = counts code before in
    let place : length g.code + count (code ++ before) ≡ p + size + 3 = omega (arith, h, e1, c) in
    ap (λ ms. set_jump (Some (p + size + 3)) q (written g ms)) (parts code before 0) ∙ patched-at g (code ++ before) (label [] ∷ ns) at (Jump 0) (Jump q) (p + size + 3) place ∙ ap (written g) (sym (parts code before q))
  where
    parts : (code before : List Mark) (to : ℕ) → (code ++ (before ++ (does (Jump to) at ∷ label [] ∷ []))) ++ ns ≡ (code ++ before) ++ (does (Jump to) at ∷ (label [] ∷ ns))
    parts code before to =
        append_assoc code (before ++ (does (Jump to) at ∷ label [] ∷ [])) ns
        ∙ ap (λ ms. code ++ ms) (append_assoc before (does (Jump to) at ∷ label [] ∷ []) ns)
        ∙ sym (append_assoc code before (does (Jump to) at ∷ (label [] ∷ ns)))

abbrev AllSet : CaseTrees → At → Spot → ℕ → ℕ → Option ℕ → List Mark → List Mark → Type 0
AllSet cs at sp p q other ms ns =
    (g : Function) → length g.code ≡ p → set_jumps cs (jumps_at cs sp p) other (known sp.scope) q (written g (labels_open cs at sp p ++ ms)) ≡ written g (labels_code cs at sp.scope sp.next p q ++ ns)

-- one label more, whose jump is its own
one-more : (e : Tree) (ss : StmtTrees) (cs : CaseTrees) (at place : At) (sp : Spot) (p q : ℕ) (other : Option ℕ) (ms ns : List Mark) → AllSet cs at sp (p + (expr_size (types_in sp.scope) e + 4)) (q + stmts_size ss (known sp.scope)) other ms ns
    → AllSet (more_cases (a_case place (Some e) ss) cs) at sp p q other ms ns
one-more e ss cs at place sp p q other ms ns rest g h =
    let size : ℕ = expr_size (types_in sp.scope) e in
    let p2 : ℕ = p + (size + 4) in
    let q2 : ℕ = q + stmts_size ss (known sp.scope) in
    let own : List Mark = expr_code e sp.scope p [] ++ tests e at sp p q in
    let open_own : List Mark = expr_code e sp.scope p [] ++ tests e at sp p 0 in
    let g2 : Function = written g own in
    let long = length-written own g in
    let c = label-count (a_case place (Some e) ss) at sp p q in
    let there : length g2.code ≡ p2 = omega (arith, h, long, c) in
    let set : Function → Function = λ f. set_jumps cs (jumps_at cs sp p2) other (known sp.scope) q2 f in
    ap (λ l. set (set_jump (Some (p + size + 3)) q (written g l))) (append_assoc open_own (labels_open cs at sp p2) ms)
    ∙ ap set (label-set e at sp p q g (labels_open cs at sp p2 ++ ms) h ∙ written-append own (labels_open cs at sp p2 ++ ms) g)
    ∙ rest g2 there
    ∙ sym (written-append own (labels_code cs at sp.scope sp.next p2 q2 ++ ns) g)
    ∙ ap (written g) (sym (append_assoc own (labels_code cs at sp.scope sp.next p2 q2) ns))

pub labels-set : (cs : CaseTrees) (at : At) (sp : Spot) (p q : ℕ) (ms : List Mark) → AllSet cs at sp p q None ms ms
labels-set no_cases at sp p q ms g h = refl
labels-set (more_cases (a_case place None ss) cs) at sp p q ms g h = labels-set cs at sp (p + 0) (q + stmts_size ss (known sp.scope)) ms g (omega (arith, h))
labels-set (more_cases (a_case place (Some e) ss) cs) at sp p q ms g h =
    one-more e ss cs at place sp p q None ms ms (labels-set cs at sp (p + (expr_size (types_in sp.scope) e + 4)) (q + stmts_size ss (known sp.scope)) ms) g h

-- where the jump behind the labels leads: to the statements of `default`, or to where it led
abbrev default_or : CaseTrees → Known → ℕ → ℕ → ℕ
default_or no_cases k q to = to
default_or (more_cases (a_case place None ss) cs) k q to = q
default_or (more_cases (a_case place (Some e) ss) cs) k q to = default_or cs k (q + stmts_size ss k) to

pub other-set : (cs : CaseTrees) (at : At) (sp : Spot) (p q other to : ℕ) → p + labels_size (types_in sp.scope) cs ≡ other → AllSet cs at sp p q (Some other) (does (Jump to) at ∷ []) (does (Jump (default_or cs (known sp.scope) q to)) at ∷ [])
other-set no_cases at sp p q other to e g h = refl
other-set (more_cases (a_case place None ss) cs) at sp p q other to e g h =
    let c = open-count cs at sp (p + 0) in
    ap (set_jumps cs (jumps_at cs sp (p + 0)) None (known sp.scope) (q + stmts_size ss (known sp.scope))) (patched-at g (labels_open cs at sp (p + 0)) [] at (Jump to) (Jump q) other (omega (arith, c, e, h)))
    ∙ labels-set cs at sp (p + 0) (q + stmts_size ss (known sp.scope)) (does (Jump q) at ∷ []) g (omega (arith, h))
other-set (more_cases (a_case place (Some x) ss) cs) at sp p q other to e g h =
    let p2 : ℕ = p + (expr_size (types_in sp.scope) x + 4) in
    let q2 : ℕ = q + stmts_size ss (known sp.scope) in
    one-more x ss cs at place sp p q (Some other) (does (Jump to) at ∷ []) (does (Jump (default_or cs (known sp.scope) q2 to)) at ∷ []) (other-set cs at sp p2 q2 other to (omega (arith, e))) g h

-- where there is no `default`, it is set at the end

with-default : (cs : CaseTrees) (k : Known) (q to : ℕ) → any_default cs ≡ true → default_or cs k q to ≡ default_place cs k q
with-default no_cases k q to h = absurd (cc)
with-default (more_cases (a_case place None ss) cs) k q to h = refl
with-default (more_cases (a_case place (Some e) ss) cs) k q to h = with-default cs k (q + stmts_size ss k) to h

without-default : (cs : CaseTrees) (k : Known) (q to : ℕ) → any_default cs ≡ false → (default_or cs k q to ≡ to) × (default_place cs k q ≡ q + cases_size cs k)
without-default no_cases k q to h = (refl, omega arith)
without-default (more_cases (a_case place None ss) cs) k q to h = absurd (cc)
without-default (more_cases (a_case place (Some e) ss) cs) k q to h =
    let r = without-default cs k (q + stmts_size ss k) to h in
    (r.0, (let far = r.1 in omega (arith, far)))

pub all-set : (cs : CaseTrees) (at : At) (sp : Spot) (p q other end : ℕ) (g : Function) → length g.code ≡ p → p + labels_size (types_in sp.scope) cs ≡ other → q + cases_size cs (known sp.scope) ≡ end
    → set_jump (open_jump cs other) end (set_jumps cs (jumps_at cs sp p) (Some other) (known sp.scope) q (written g (labels_open cs at sp p ++ (does (Jump 0) at ∷ []))))
    ≡ written g (labels_code cs at sp.scope sp.next p q ++ (does (Jump (default_place cs (known sp.scope) q)) at ∷ []))
all-set cs at sp p q other end g h e z = ap (set_jump (open_jump cs other) end) (other-set cs at sp p q other 0 e g h) ∙ by (any_default cs) refl
  where
    by : (b : Bool) → any_default cs ≡ b → set_jump (if b then None else Some other) end (written g (labels_code cs at sp.scope sp.next p q ++ (does (Jump (default_or cs (known sp.scope) q 0)) at ∷ [])))
        ≡ written g (labels_code cs at sp.scope sp.next p q ++ (does (Jump (default_place cs (known sp.scope) q)) at ∷ []))
    by true d = ap (λ n. written g (labels_code cs at sp.scope sp.next p q ++ (does (Jump n) at ∷ []))) (with-default cs (known sp.scope) q 0 d)
    by false d =
        let r = without-default cs (known sp.scope) q 0 d in
        let c = labels-count cs at sp p q in
        let there : end ≡ default_place cs (known sp.scope) q = sym (r.1 ∙ z) in
        patched-at g (labels_code cs at sp.scope sp.next p q) [] at (Jump (default_or cs (known sp.scope) q 0)) (Jump end) other (omega (arith, c, h, e))
        ∙ ap (λ n. written g (labels_code cs at sp.scope sp.next p q ++ (does (Jump n) at ∷ []))) there
