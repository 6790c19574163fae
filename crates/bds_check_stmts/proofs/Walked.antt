-- The loops over statements and over cases: what their turns come to.
use Rattle.std.proofs.Common.{◌≡◌, ℕ, ◌+◌, ◌<◌, ◌≤◌, List, [], ◌∷◌, Option, Some, None, map, length, set, slice_get}
use Rattle.std.proofs.Common.{refl, subst, ap, sym, ◌∙◌, arith}
use denote.Param.Weighed.{most}
use Rattle.bds_tree.specs.declared.stmt.Case.{Case}
use Rattle.bds_tree.specs.declared.stmt.Stmt.{Stmt}
use Rattle.bds_tree.specs.StmtTree.{StmtTree, CaseTree, more_stmts, more_cases, to_stmts, to_cases}
use Rattle.bds_tree.specs.StmtView.{stmt_of, stmts_of, case_of, cases_of}
use Rattle.bds_check_names.specs.declared.names.Names.{Names}
use Rattle.bds_check_names.specs.declared.names.Site.{Site}
use Rattle.bds_check_typing.specs.StmtWalk.{JudgedStmts, JudgedCases, also_stmt, also_case, judge_stmt, judge_stmts}
use Rattle.bds_check_typing.specs.StmtWalk.{judge_case, judge_cases}
use Rattle.bds_check_typing.specs.Walk.{Broken}
use Rattle.bds_check_walk.proofs.Turns.{Walking, walking-none, walking-more, whole-depth, all_wanted, any_faulty}
use Rattle.bds_check_walk.proofs.Turns.{all_left, whole-walked, whole-broken, map_set-same}
use Rattle.bds_check_stmts.specs.InPlace.{bare_stmt, bare_stmts, bare_case, bare_cases}

-- Statements

module _ (site : Site) where
  abbrev pub stmt_wanted : Names → Stmt → StmtTree
  stmt_wanted names s = (judge_stmt (stmt_of s) names site).stmt

  abbrev pub stmt_faulty : Names → Stmt → Option Broken
  stmt_faulty names s = (judge_stmt (stmt_of s) names site).broken

  abbrev pub names_then : Names → Stmt → Names
  names_then names s = (judge_stmt (stmt_of s) names site).names

abbrev pub StmtsWalking : Site → List Stmt → Names → ℕ → List Stmt → Names → Type 0
StmtsWalking site olds begun i news now = Walking stmt_of bare_stmt (stmt_wanted site) (stmt_faulty site)
    (names_then site) olds 0 (length olds) begun i news now

stmts-as : (site : Site) (names : Names) (ss : List Stmt) →
    judge_stmts (stmts_of ss) names site
    ≡ record {
      stmts = to_stmts (all_wanted stmt_of bare_stmt (stmt_wanted site) (stmt_faulty site) (names_then site)
          names ss);
      broken = any_faulty stmt_of bare_stmt (stmt_wanted site) (stmt_faulty site) (names_then site) names ss;
      names = all_left stmt_of bare_stmt (stmt_wanted site) (stmt_faulty site) (names_then site) names ss;
    }
stmts-as site names [] = refl
stmts-as site names (s ∷ ss) =
    ap (also_stmt (judge_stmt (stmt_of s) names site)) (stmts-as site (names_then site names s) ss)

pub stmts-none : (site : Site) (olds : List Stmt) (names : Names) → StmtsWalking site olds names 0 olds names
stmts-none site olds names = walking-none stmt_of bare_stmt (stmt_wanted site) (stmt_faulty site) (names_then site) olds
    0 (length olds) names (omega arith)

pub stmts-more : (site : Site) (olds : List Stmt) (begun : Names) (i : ℕ) (news : List Stmt) (now left : Names)
    (x y : Stmt) → i < length olds → slice_get news i ≡ Some x →
    (judge_stmt (stmt_of x) now site).broken ≡ None → stmt_of y ≡ (judge_stmt (stmt_of x) now site).stmt
    → left ≡ (judge_stmt (stmt_of x) now site).names → bare_stmt (stmt_of y) ≡ bare_stmt (stmt_of x) →
    StmtsWalking site olds begun i news now → StmtsWalking site olds begun (i + 1) (set news i y) left
stmts-more site olds begun i news now left x y below e none is behind same h =
    subst (λ (n : Names). StmtsWalking site olds begun (i + 1) (set news i y) n) (sym behind)
    (walking-more stmt_of bare_stmt (stmt_wanted site) (stmt_faulty site) (names_then site) olds 0 (length olds) begun i
    news now x y (omega arith) below e none is same h)

pub stmts-depth : (site : Site) (μ : Stmt
    → ℕ) (olds : List Stmt) (begun : Names) (i : ℕ) (news : List Stmt) (now : Names) (x : Stmt) → i < length olds
    → slice_get news i ≡ Some x → StmtsWalking site olds begun i news now → μ x ≤ most μ olds
stmts-depth site μ olds begun i news now x below e h = whole-depth stmt_of bare_stmt (stmt_wanted site)
    (stmt_faulty site) (names_then site) olds begun i news now μ x below e h

pub stmts-done : (site : Site) (olds : List Stmt) (begun : Names) (i : ℕ) (news : List Stmt) (now : Names)
    → i ≡ length olds → StmtsWalking site olds begun i news now →
    ((judge_stmts (stmts_of olds) begun site).broken ≡ None)
    × ((stmts_of news ≡ (judge_stmts (stmts_of olds) begun site).stmts)
    × (now ≡ (judge_stmts (stmts_of olds) begun site).names))
stmts-done site olds begun i news now end h =
    let e = stmts-as site begun olds in
    let w = whole-walked stmt_of bare_stmt (stmt_wanted site) (stmt_faulty site) (names_then site) olds begun i news now
    end h in (
      ap (λ (j : JudgedStmts). j.broken) e
          ∙ w.0,
      (
        ap to_stmts w.1 ∙ sym (ap (λ (j : JudgedStmts). j.stmts) e),
        w.2
            ∙ sym (ap (λ (j : JudgedStmts). j.names) e),
      ),
    )

pub stmts-broken : (site : Site) (olds : List Stmt) (begun : Names) (i : ℕ) (news : List Stmt) (now : Names) (x : Stmt)
    → i < length olds → slice_get news i ≡ Some x → StmtsWalking site olds begun i news now →
    (b : Broken) → (judge_stmt (stmt_of x) now site).broken ≡ Some b
    → (judge_stmts (stmts_of olds) begun site).broken ≡ Some b
stmts-broken site olds begun i news now x below e h b broken =
    ap (λ (j : JudgedStmts). j.broken) (stmts-as site begun olds)
    ∙ whole-broken stmt_of bare_stmt (stmt_wanted site) (stmt_faulty site) (names_then site) olds begun i news now x
    below e h b broken

bare-stmts-as : (ss : List Stmt) → bare_stmts (stmts_of ss) ≡ to_stmts (map (λ s. bare_stmt (stmt_of s)) ss)
bare-stmts-as [] = refl
bare-stmts-as (s ∷ ss) = ap (more_stmts (bare_stmt (stmt_of s))) (bare-stmts-as ss)

pub stmts-kept : (ss ts : List Stmt) → map (λ s. bare_stmt (stmt_of s)) ss ≡ map (λ s. bare_stmt (stmt_of s)) ts
    → bare_stmts (stmts_of ss) ≡ bare_stmts (stmts_of ts)
stmts-kept ss ts same = bare-stmts-as ss ∙ ap to_stmts same ∙ sym (bare-stmts-as ts)

pub stmts-set : (ss : List Stmt) (n : ℕ) (x y : Stmt) → slice_get ss n ≡ Some x
    → bare_stmt (stmt_of y) ≡ bare_stmt (stmt_of x) → bare_stmts (stmts_of (set ss n y)) ≡ bare_stmts (stmts_of ss)
stmts-set ss n x y e same = stmts-kept (set ss n y) ss (map_set-same (λ z. bare_stmt (stmt_of z)) ss n x y e same)

-- Cases

module _ (site : Site) where
  abbrev pub case_wanted : Names → Case → CaseTree
  case_wanted names c = (judge_case (case_of c) names site).tree

  abbrev pub case_faulty : Names → Case → Option Broken
  case_faulty names c = (judge_case (case_of c) names site).broken

abbrev pub same_names : {X : Type 0} → Names → X → Names
same_names names x = names

abbrev pub CasesWalking : Names → Site → List Case → ℕ → List Case → Type 0
CasesWalking names site olds i news =
    Walking case_of bare_case (case_wanted site) (case_faulty site) same_names olds 0 (length olds) names i news names

cases-as : (names : Names) (site : Site) (cs : List Case) →
    judge_cases (cases_of cs) names site ≡ record {
      cases = to_cases
          (all_wanted case_of bare_case (case_wanted site) (case_faulty site) same_names names cs);
      broken =
          any_faulty case_of bare_case (case_wanted site) (case_faulty site) same_names names cs;
    }
cases-as names site [] = refl
cases-as names site (c ∷ cs) = ap (also_case (judge_case (case_of c) names site)) (cases-as names site cs)

pub cases-none : (names : Names) (site : Site) (olds : List Case) → CasesWalking names site olds 0 olds
cases-none names site olds = walking-none case_of bare_case (case_wanted site) (case_faulty site) same_names olds 0
    (length olds) names (omega arith)

pub cases-more : (names now : Names) (site : Site) (olds : List Case) (i : ℕ) (news : List Case) (x y : Case)
    → now ≡ names → i < length olds → slice_get news i ≡ Some x →
    ((judge_case (case_of x) now site).broken ≡ None) × (case_of y ≡ (judge_case (case_of x) now site).tree)
    → bare_case (case_of y) ≡ bare_case (case_of x) → CasesWalking names site olds i news
    → CasesWalking names site olds (i + 1) (set news i y)
cases-more names now site olds i news x y here below e right same h =
    let r : ((judge_case (case_of x) names site).broken ≡ None)
    × (case_of y ≡ (judge_case (case_of x) names site).tree) = subst
    (λ (n : Names). ((judge_case (case_of x) n site).broken ≡ None)
    × (case_of y ≡ (judge_case (case_of x) n site).tree)) here right in
    walking-more case_of bare_case (case_wanted site) (case_faulty site) same_names olds 0 (length olds) names i news
    names x y (omega arith) below e r.0 r.1 same h

pub cases-depth : (names : Names) (site : Site) (μ : Case → ℕ) (olds : List Case) (i : ℕ) (news : List Case) (x : Case)
    → i < length olds → slice_get news i ≡ Some x → CasesWalking names site olds i news → μ x ≤ most μ olds
cases-depth names site μ olds i news x below e h =
    whole-depth case_of bare_case (case_wanted site) (case_faulty site) same_names olds names i news names μ x below e h

pub cases-done : (names : Names) (site : Site) (olds : List Case) (i : ℕ) (news : List Case) → i ≡ length olds
    → CasesWalking names site olds i news →
    ((judge_cases (cases_of olds) names site).broken ≡ None)
    × (cases_of news ≡ (judge_cases (cases_of olds) names site).cases)
cases-done names site olds i news end h =
    let e = cases-as names site olds in
    let w = whole-walked case_of bare_case (case_wanted site) (case_faulty site) same_names olds names i news names end
    h in
    (ap (λ (j : JudgedCases). j.broken) e ∙ w.0, ap to_cases w.1 ∙ sym (ap (λ (j : JudgedCases). j.cases) e))

pub cases-broken : (names now : Names) (site : Site) (olds : List Case) (i : ℕ) (news : List Case) (x : Case)
    → now ≡ names → i < length olds → slice_get news i ≡ Some x → CasesWalking names site olds i news →
    (b : Broken) → (judge_case (case_of x) now site).broken ≡ Some b
    → (judge_cases (cases_of olds) names site).broken ≡ Some b
cases-broken names now site olds i news x here below e h b broken =
    ap (λ (j : JudgedCases). j.broken) (cases-as names site olds)
    ∙ whole-broken case_of bare_case (case_wanted site) (case_faulty site) same_names olds names i news names x below e
    h b (ap (λ (n : Names). (judge_case (case_of x) n site).broken) (sym here) ∙ broken)

bare-cases-as : (cs : List Case) → bare_cases (cases_of cs) ≡ to_cases (map (λ c. bare_case (case_of c)) cs)
bare-cases-as [] = refl
bare-cases-as (c ∷ cs) = ap (more_cases (bare_case (case_of c))) (bare-cases-as cs)

pub cases-kept : (cs ds : List Case) → map (λ c. bare_case (case_of c)) cs ≡ map (λ c. bare_case (case_of c)) ds
    → bare_cases (cases_of cs) ≡ bare_cases (cases_of ds)
cases-kept cs ds same = bare-cases-as cs ∙ ap to_cases same ∙ sym (bare-cases-as ds)

pub cases-set : (cs : List Case) (n : ℕ) (x y : Case) → slice_get cs n ≡ Some x
    → bare_case (case_of y) ≡ bare_case (case_of x) → bare_cases (cases_of (set cs n y)) ≡ bare_cases (cases_of cs)
cases-set cs n x y e same = cases-kept (set cs n y) cs (map_set-same (λ z. bare_case (case_of z)) cs n x y e same)
