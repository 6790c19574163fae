-- What is left of a script without the statements that declare nothing, and with a statement behind it.
use Rattle.std.proofs.Common.{arith, ◌≡◌, ◌∙◌, ℕ, ◌+◌, ◌≤◌, max, Bool, true, false, List, [], ◌∷◌, ◌++◌}
use Rattle.std.proofs.Common.{if◌then◌else◌, refl, ap}
use Rattle.std.proofs.Common.{sym, subst, Option, Some, None}
use Rattle.std.specs.List.{AllByRecursion, filter}
use Rattle.std.proofs.Math.Nat.{max-le, le-max_left, le-max_right}
use Rattle.bds_tree.specs.StmtTree.{StmtTree, LineTree, PartTree, stmt, line, declare, infer, a_function, an_include}
use Rattle.bds_tree.specs.StmtTree.{a_statement}
use Rattle.bds_tree.specs.StmtShape.{part_height, parts_height, stmt_height}
use Rattle.bds_check_names.specs.declared.names.Names.{Names}
use Rattle.bds_check_names.specs.declared.names.Head.{Head}
use Rattle.bds_check_names.specs.declared.names.Site.{Site}
use Rattle.bds_check_names.specs.declared.names.Variable.{Variable}
use Rattle.bds_check_names.specs.Scopes.{top, with_globals}
use Rattle.bds_check_names.specs.Slots.{parts_slots, parts_globals, top_globals, top_slots, line_slots}
use Rattle.bds_check_rules.specs.Declarations.{declared_by, declared_by_line, names_with}
use Rattle.bds_check_typing.specs.Program.{heads_of, head_of, with_head}
use Rattle.bds_check_typing.specs.WellTypedStmts.{names_behind, IsWellTypedStmt}
use Rattle.bds_check_typing.specs.WellTypedScripts.{names_behind_parts, AreWellTypedParts}
use Rattle.bds_check_tests.specs.Tests.{is_declaring_line, is_declaration, is_kept}

-- with a statement behind them
abbrev pub kept_with : List PartTree → StmtTree → List PartTree
kept_with ps c = filter is_kept ps ++ a_statement c ∷ []

-- a statement is kept or left out
choose : (P : List PartTree → Type 0) (s : StmtTree) (ps : List PartTree) (c : StmtTree)
    → (is_declaration s ≡ true → P (a_statement s ∷ kept_with ps c)) → (is_declaration s ≡ false → P (kept_with ps c))
    → P (kept_with (a_statement s ∷ ps) c)
choose P s ps c kept left =
    by_test (is_declaration s) kept left
  where
    by_test : (b : Bool) → (b ≡ true → P (a_statement s ∷ kept_with ps c)) → (b ≡ false → P (kept_with ps c))
        → P ((if b then a_statement s ∷ filter is_kept ps else filter is_kept ps) ++ a_statement c ∷ [])
    by_test true kept left = kept refl
    by_test false kept left = left refl

-- A statement that declares nothing leaves the names as they are

line_declares_none : (l : LineTree) (names : Names) (site : Site) → is_declaring_line l ≡ false
    → names_with names site (declared_by_line l) ≡ names
line_declares_none (declare t x r) names site h = absurd (cc h)
line_declares_none (infer x r) names site h = absurd (cc h)
line_declares_none _ names site h = refl

pub declares_none : (s : StmtTree) (names : Names) (site : Site) → is_declaration s ≡ false
    → names_behind s names site ≡ names
declares_none (stmt at (line l)) names site h = line_declares_none l names site h
declares_none (stmt at _) names site h = refl

line_makes_none : (l : LineTree) → is_declaring_line l ≡ false → line_slots l ≡ 0
line_makes_none (declare t x r) h = absurd (cc h)
line_makes_none (infer x r) h = absurd (cc h)
line_makes_none _ h = refl

makes_none : (s : StmtTree) → is_declaration s ≡ false → top_globals s ≡ 0
makes_none (stmt at (line l)) h = line_makes_none l h
makes_none (stmt at _) h = refl

-- The functions are the same, and so are the variables of the top level

pub heads_kept : (ps : List PartTree) (c : StmtTree) → heads_of (kept_with ps c) ≡ heads_of ps
heads_kept [] c = refl
heads_kept (a_function f ∷ ps) c = ap (λ (hs : List Head). head_of f ∷ hs) (heads_kept ps c)
heads_kept (an_include i ∷ ps) c = heads_kept ps c
heads_kept (a_statement s ∷ ps) c =
    choose (λ qs. heads_of qs ≡ heads_of ps) s ps c (λ _. heads_kept ps c) (λ _. heads_kept ps c)

pub names_kept : (ps : List PartTree) (c : StmtTree) (names : Names) → ((ns : Names) → names_behind c ns top ≡ ns)
    → names_behind_parts (kept_with ps c) names ≡ names_behind_parts ps names
names_kept [] c names none = none names
names_kept (a_function f ∷ ps) c names none = names_kept ps c names none
names_kept (an_include i ∷ ps) c names none = names_kept ps c names none
names_kept (a_statement s ∷ ps) c names none =
    choose (λ qs. names_behind_parts qs names ≡ names_behind_parts ps (names_behind s names top)) s ps c
    (λ _. names_kept ps c (names_behind s names top) none)
    (λ h. names_kept ps c names none ∙ ap (names_behind_parts ps) (sym (declares_none s names top h)))

-- behind each part all but the variables is as it was before
globals_with : (v : Option Variable) (names : Names)
    → names_with names top v ≡ with_globals names (names_with names top v).globals
globals_with None names = refl
globals_with (Some v) names = refl

pub globals_alone : (ps : List PartTree) (names : Names)
    → names_behind_parts ps names ≡ with_globals names (names_behind_parts ps names).globals
globals_alone [] names = refl
globals_alone (a_function f ∷ ps) names = globals_alone ps names
globals_alone (an_include i ∷ ps) names = globals_alone ps names
globals_alone (a_statement s ∷ ps) names =
    globals_alone ps (names_behind s names top)
    ∙ ap (λ (ns : Names). with_globals ns (names_behind_parts ps (names_behind s names top)).globals)
    (globals_with (declared_by s) names)

pub functions_kept : (ps : List PartTree) (names : Names) → (names_behind_parts ps names).functions ≡ names.functions
functions_kept ps names = ap (λ (ns : Names). ns.functions) (globals_alone ps names)

-- each part stands under the names that it had
pub typed_kept : (ps : List PartTree) (c : StmtTree) (all : Names) (before : List Head) (names : Names)
    → AreWellTypedParts ps all before names → IsWellTypedStmt c (names_behind_parts ps names) top
    → AreWellTypedParts (kept_with ps c) all before names
typed_kept [] c all before names w h = (h, tt)
typed_kept (a_function f ∷ ps) c all before names w h =
    (w.0, typed_kept ps c all (with_head before (a_function f)) names w.1 h)
typed_kept (an_include i ∷ ps) c all before names w h = typed_kept ps c all before names w.1 h
typed_kept (a_statement s ∷ ps) c all before names w h =
    choose (λ qs. AreWellTypedParts qs all before names) s ps c
    (λ _. (w.0, typed_kept ps c all before (names_behind s names top) w.1 h))
    (λ e. subst (λ (ns : Names). AreWellTypedParts (kept_with ps c) all before ns) (declares_none s names top e)
    (typed_kept ps c all before (names_behind s names top) w.1 h))

-- what holds of each part
pub all_kept : (P : PartTree → Type 0) (ps : List PartTree) (c : StmtTree) → AllByRecursion P ps → P (a_statement c)
    → AllByRecursion P (kept_with ps c)
all_kept P [] c all h = (h, tt)
all_kept P (a_function f ∷ ps) c all h = (all.0, all_kept P ps c all.1 h)
all_kept P (an_include i ∷ ps) c all h = all_kept P ps c all.1 h
all_kept P (a_statement s ∷ ps) c all h =
    choose (AllByRecursion P) s ps c (λ _. (all.0, all_kept P ps c all.1 h)) (λ _. all_kept P ps c all.1 h)

-- Limits

pub slots_kept : (ps : List PartTree) (c : StmtTree) → top_slots c ≡ 0 → parts_slots (kept_with ps c) ≤ parts_slots ps
slots_kept [] c h = omega (arith, h)
slots_kept (a_function f ∷ ps) c h = slots_kept ps c h
slots_kept (an_include i ∷ ps) c h = slots_kept ps c h
slots_kept (a_statement s ∷ ps) c h =
    let rest : parts_slots (kept_with ps c) ≤ parts_slots ps = slots_kept ps c h in
    choose (λ qs. parts_slots qs ≤ top_slots s + parts_slots ps) s ps c (λ _. omega (arith, rest))
    (λ _. omega (arith, rest))

pub globals_kept : (ps : List PartTree) (c : StmtTree) → top_globals c ≡ 0
    → parts_globals (kept_with ps c) ≡ parts_globals ps
globals_kept [] c h = omega (arith, h)
globals_kept (a_function f ∷ ps) c h = globals_kept ps c h
globals_kept (an_include i ∷ ps) c h = globals_kept ps c h
globals_kept (a_statement s ∷ ps) c h =
    choose (λ qs. parts_globals qs ≡ top_globals s + parts_globals ps) s ps c
    (λ _. ap (λ n. top_globals s + n) (globals_kept ps c h))
    (λ e. globals_kept ps c h ∙ none_more (top_globals s) (parts_globals ps) (makes_none s e))
  where
    none_more : (a b : ℕ) → a ≡ 0 → b ≡ a + b
    none_more a b e = omega (arith, e)

below_left : (a b most : ℕ) → max a b ≤ most → a ≤ most
below_left a b most h = omega (arith, le-max_left a b, h)

below_right : (a b most : ℕ) → max a b ≤ most → b ≤ most
below_right a b most h = omega (arith, le-max_right a b, h)

pub height_kept : (ps : List PartTree) (c : StmtTree) (most : ℕ) → parts_height ps ≤ most → stmt_height c ≤ most
    → parts_height (kept_with ps c) ≤ most
height_kept [] c most h low = max-le low (omega arith)
height_kept (a_function f ∷ ps) c most h low =
    max-le (below_left (part_height (a_function f)) (parts_height ps) most h)
    (height_kept ps c most (below_right (part_height (a_function f)) (parts_height ps) most h) low)
height_kept (an_include i ∷ ps) c most h low =
    height_kept ps c most (below_right (part_height (an_include i)) (parts_height ps) most h) low
height_kept (a_statement s ∷ ps) c most h low =
    let rest : parts_height (kept_with ps c) ≤ most =
    height_kept ps c most (below_right (stmt_height s) (parts_height ps) most h) low in
    choose (λ qs. parts_height qs ≤ most) s ps c
    (λ _. max-le (below_left (stmt_height s) (parts_height ps) most h) rest) (λ _. rest)
