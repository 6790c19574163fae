-- The parts of a legal script whose texts are short are those of a program of one file.
use Rattle.std.proofs.Common.{◌≡◌, ℕ, ◌+◌, ◌<◌, ◌≤◌, Bool, true, false, ◌||◌, List, [], ◌∷◌, ◌++◌, Option, Some, None, sym, subst, arith}
use Rattle.std.specs.List.{AllByRecursion}
use Rattle.bds_value.specs.declared.value.At.{At}
use Rattle.bds_value.specs.declared.value.Ty.{Ty}
use Rattle.bds_value.specs.Fields.{is_solid, nesting}
use Rattle.bds_value.specs.declared.TheConstants.{MAX_NESTING}
use Rattle.bds_tree.specs.declared.token.Word.{Word}
use Rattle.bds_tree.specs.declared.token.Word.TheVariants as w
use Rattle.bds_tree.specs.declared.token.Piece.{Piece}
use Rattle.bds_tree.specs.declared.stmt.Body.{Body}
use Rattle.bds_tree.specs.declared.stmt.Body.TheVariants as body
use Rattle.bds_tree.specs.declared.stmt.Command.{Command}
use Rattle.bds_tree.specs.declared.stmt.Parameter.{Parameter}
use Rattle.bds_tree.specs.Tree.{Tree, FormTree, Trees, TreePairs, node, number, text, truth, name, call, group, list, mapping, item, key, method, prefix, binary, choice, dependency, none, more, no_pairs, more_pairs}
use Rattle.bds_tree.specs.Shape.{Shaped, IsShapedForm, AreShaped, ArePairsShaped}
use Rattle.bds_tree.specs.Spelling.{Mark, any, begins, spell, spell_form, spell_all, spell_tail, spell_pairs, spell_pair_tail}
use Rattle.bds_tree.specs.StmtTree.{SuffixTree, at_index, at_key, PlaceTree, StepTree, step_after, step_before, SmallFormTree, small_declare, small_infer, small_assign, small_update, small_step, small_call, SmallTree, SettingFormTree, setting_named, setting_plain, SettingTree, StmtTree, StmtFormTree, LineTree, RightTree, ActTree, ActFormTree, BlockTree, StmtTrees, MaybeStmt, MaybeRight, PartTree, FunctionTree, ScriptTree, stmt, inner_block, empty, line, when, while, for, each, declare, infer, assign, update, step, call_line, print, println, error, exit, break, continue, return, wait, checkpoint, act_line, right_expr, right_act, act, sys, task, dep, goal, par_call, par_block, block, no_stmts, more_stmts, no_stmt, a_stmt, no_right, a_right, a_function, a_statement, CaseTrees, CaseTree, switch, no_cases, more_cases, a_case}
use Rattle.bds_tree.specs.StmtShape.{InFirst, IsMaybeShaped, IsSuffixShaped, IsPlaceShaped, IsStepShaped, IsSmallFormShaped, IsSmallShaped, IsSettingFormShaped, IsSettingShaped, AreSettingsShaped, AreMaybeSettingsShaped, IsCommandShaped, IsBodyShaped, IsStmtShaped, IsStmtFormShaped, IsElseShaped, IsLineShaped, IsRightShaped, IsMaybeRightShaped, IsActShaped, IsActFormShaped, IsBlockShaped, AreStmtsShaped, IsParameterShaped, IsPartShaped, over_type, over_small_form, over_small, stmt_height, over_stmt_form, over_else, over_line, over_right, over_maybe_right, over_act, over_act_form, block_height, over_stmts, parameters_height, part_height, AreCasesShaped, IsCaseShaped, over_cases, over_case}
use Rattle.bds_tree.specs.StmtSpelling.{spell_type, spell_name, spell_maybe, spell_suffixes, spell_place, spell_step_op, spell_step, spell_update_op, spell_start, spell_small_form, spell_small, spell_setting_form, spell_setting, spell_more_settings, spell_settings, spell_maybe_settings, spell_command, spell_commands, spell_body, has_else, spell_stmt, spell_stmt_form, spell_else, spell_line, spell_right, spell_maybe_right, spell_start_right, spell_act, spell_act_form, spell_block, spell_stmts, spell_parameter, spell_more_parameters, spell_parameters, spell_part, spell_parts, spell_label, spell_cases, spell_case}
use Rattle.bds_check_typing.specs.Texts.{IsShort, AreShortPieces, IsShortMark, HasShortTexts}
use Rattle.bds_check_typing.specs.Proper.{IsWrittenType, IsProperParameter, IsInFile, IsProperExpr, IsProperForm, AreProperExprs, AreProperPairs, IsProperMaybe, IsProperSuffix, IsProperPlace, IsProperStep, IsProperSmallForm, IsProperSmall, IsProperSettingForm, IsProperSetting, AreProperMaybeSettings, IsProperStmt, IsProperStmtForm, IsProperElse, IsProperLine, IsProperRight, IsProperMaybeRight, IsProperAct, IsProperActForm, IsProperBody, IsProperBlock, AreProperStmts, IsProperPart, AreProperCases, IsProperCase}

-- Short texts in what is spelled

pub record Short (ms : List Mark) : Type 0 where
  pub all : AllByRecursion IsShortMark ms

all-front : (xs ys : List Mark) → AllByRecursion IsShortMark (xs ++ ys) → AllByRecursion IsShortMark xs
all-front [] ys h = tt
all-front (x ∷ xs) ys h = (h.0, all-front xs ys h.1)

all-back : (xs ys : List Mark) → AllByRecursion IsShortMark (xs ++ ys) → AllByRecursion IsShortMark ys
all-back [] ys h = h
all-back (x ∷ xs) ys h = all-back xs ys h.1

all-first : (x : Mark) (xs : List Mark) → AllByRecursion IsShortMark (x ∷ xs) → IsShortMark x
all-first x xs h = h.0

all-rest : (x : Mark) (xs : List Mark) → AllByRecursion IsShortMark (x ∷ xs) → AllByRecursion IsShortMark xs
all-rest x xs h = h.1

all-begun : (l : ℕ) (ms : List Mark) → AllByRecursion IsShortMark (begins l ms) → AllByRecursion IsShortMark ms
all-begun l [] h = tt
all-begun l (m ∷ ms) h = (h.0, h.1)

front : (xs ys : List Mark) → Short (xs ++ ys) → Short xs
front xs ys s = record { all = all-front xs ys s.all }

back : (xs ys : List Mark) → Short (xs ++ ys) → Short ys
back xs ys s = record { all = all-back xs ys s.all }

rest : {x : Mark} {xs : List Mark} → Short (x ∷ xs) → Short xs
rest {x = x} {xs = xs} s = record { all = all-rest x xs s.all }

begun : (l : ℕ) (ms : List Mark) → Short (begins l ms) → Short ms
begun l ms s = record { all = all-begun l ms s.all }

name-short : {n : List ℕ} {xs : List Mark} → Short (any (w.Name n) ∷ xs) → IsShort n
name-short {n = n} {xs = xs} s = all-first (any (w.Name n)) xs s.all

text-short : {ps : List Piece} {xs : List Mark} → Short (any (w.Text ps) ∷ xs) → AreShortPieces ps
text-short {ps = ps} {xs = xs} s = all-first (any (w.Text ps)) xs s.all

sys-short : {ps : List Piece} {xs : List Mark} → Short (any (w.Sys ps) ∷ xs) → AreShortPieces ps
sys-short {ps = ps} {xs = xs} s = all-first (any (w.Sys ps)) xs s.all

-- Depths

below : (a n : ℕ) → a + 1 ≤ n → a ≤ n
below a n h = omega arith

written : (t : Ty) → is_solid t ≡ true → over_type t ≤ MAX_NESTING → IsWrittenType t
written t h d = (h, below (nesting t) MAX_NESTING d)

in-first : (at : At) → InFirst at → IsInFile 1 at
in-first at e = subst (λ (k : ℕ). k < 1) (sym e) (omega arith)

-- Expressions

mutual
  expr-proper : (e : Tree) → Shaped e → Short (spell e) → IsProperExpr 1 e
  expr-proper (node at t f) h s = (in-first at h.0, form-proper f h.2 (begun at.line (spell_form f) s))

  form-proper : (f : FormTree) → IsShapedForm f → Short (spell_form f) → IsProperForm 1 f
  form-proper (number v) h s = tt
  form-proper (text ps) h s = text-short s
  form-proper (truth b) h s = tt
  form-proper (name x) h s = name-short s
  form-proper (call f es) h s = (name-short s, all-proper es w.CloseRound h (rest (rest s)))
  form-proper (group e) h s = expr-proper e h (front _ _ (rest s))
  form-proper (list es) h s = all-proper es w.CloseSquare h (rest s)
  form-proper (mapping ps) h s = pairs-proper ps h (rest s)
  form-proper (item a i) h s = (expr-proper a h.1 (front _ _ s), expr-proper i h.2 (front _ _ (rest (back (spell a) _ s))))
  form-proper (key a k) h s = (expr-proper a h.1 (front _ _ s), expr-proper k h.2 (front _ _ (rest (back (spell a) _ s))))
  form-proper (method a m es) h s =
      let behind : Short (any w.Dot ∷ any (w.Name m) ∷ any w.OpenRound ∷ spell_all w.CloseRound es) = back (spell a) _ s in
      (name-short (rest behind), expr-proper a h.1 (front _ _ s), all-proper es w.CloseRound h.2 (rest (rest (rest behind))))
  form-proper (prefix o a) h s = expr-proper a h.1 (rest s)
  form-proper (binary a o b) h s = (expr-proper a h.2 (front _ _ s), expr-proper b h.3 (rest (back (spell a) _ s)))
  form-proper (choice c a b) h s =
      let behind : Short (any w.Question ∷ (spell a ++ (any w.Colon ∷ spell b))) = back (spell c) _ s in
      (expr-proper c h.3 (front _ _ s), expr-proper a h.4 (front _ _ (rest behind)), expr-proper b h.5 (rest (back (spell a) _ (rest behind))))
  form-proper (dependency a b) h s = (expr-proper a h.2 (front _ _ s), expr-proper b h.3 (rest (back (spell a) _ s)))

  all-proper : (es : Trees) (close : Word) → AreShaped es → Short (spell_all close es) → AreProperExprs 1 es
  all-proper none close h s = tt
  all-proper (more e es) close h s = (expr-proper e h.0 (front _ _ s), tail-proper es close h.1 (back (spell e) _ s))

  tail-proper : (es : Trees) (close : Word) → AreShaped es → Short (spell_tail close es) → AreProperExprs 1 es
  tail-proper none close h s = tt
  tail-proper (more e es) close h s = (expr-proper e h.0 (front _ _ (rest s)), tail-proper es close h.1 (back (spell e) _ (rest s)))

  pairs-proper : (ps : TreePairs) → ArePairsShaped ps → Short (spell_pairs ps) → AreProperPairs 1 ps
  pairs-proper no_pairs h s = tt
  pairs-proper (more_pairs k v ps) h s =
      let value : Short (spell v ++ spell_pair_tail ps) = rest (back (spell k) _ s) in
      (expr-proper k h.0 (front _ _ s), expr-proper v h.1 (front _ _ value), pair-tail-proper ps h.2 (back (spell v) _ value))

  pair-tail-proper : (ps : TreePairs) → ArePairsShaped ps → Short (spell_pair_tail ps) → AreProperPairs 1 ps
  pair-tail-proper no_pairs h s = tt
  pair-tail-proper (more_pairs k v ps) h s =
      let value : Short (spell v ++ spell_pair_tail ps) = rest (back (spell k) _ (rest s)) in
      (expr-proper k h.0 (front _ _ (rest s)), expr-proper v h.1 (front _ _ value), pair-tail-proper ps h.2 (back (spell v) _ value))

-- Expressions in statements

maybe-proper : (e : Option Tree) → IsMaybeShaped e → Short (spell_maybe e) → IsProperMaybe 1 e
maybe-proper None h s = tt
maybe-proper (Some e) h s = expr-proper e h s

label-proper : (l : Option Tree) → IsMaybeShaped l → Short (spell_label l) → IsProperMaybe 1 l
label-proper None h s = tt
label-proper (Some e) h s = expr-proper e h (rest s)

start-proper : (e : Option Tree) → IsMaybeShaped e → Short (spell_start e) → IsProperMaybe 1 e
start-proper None h s = tt
start-proper (Some e) h s = expr-proper e h (rest s)

suffixes-proper : (ss : List SuffixTree) → AllByRecursion IsSuffixShaped ss → Short (spell_suffixes ss) → AllByRecursion (IsProperSuffix 1) ss
suffixes-proper [] h s = tt
suffixes-proper (at_index e ∷ ss) h s = (expr-proper e h.0 (front _ _ (rest s)), suffixes-proper ss h.1 (rest (back (spell e) _ (rest s))))
suffixes-proper (at_key e ∷ ss) h s = (expr-proper e h.0 (front _ _ (rest s)), suffixes-proper ss h.1 (rest (back (spell e) _ (rest s))))

place-proper : (p : PlaceTree) → IsPlaceShaped p → Short (spell_place p) → IsProperPlace 1 p
place-proper p h s =
    let inside : Short (any (w.Name p.name) ∷ spell_suffixes p.suffixes) = begun p.at.line (spell_name p.name ++ spell_suffixes p.suffixes) s in
    (in-first p.at h.0, name-short inside, suffixes-proper p.suffixes h.1 (rest inside))

step-proper : (p : StepTree) → IsStepShaped p → Short (spell_step p) → IsProperStep 1 p
step-proper (step_after p o) h s = place-proper p h (front (spell_place p) _ s)
step-proper (step_before o p) h s = place-proper p h (back (spell_step_op o) _ s)

-- Heads of loops

small-form-proper : (f : SmallFormTree) → IsSmallFormShaped f → Short (spell_small_form f) → over_small_form f ≤ MAX_NESTING → IsProperSmallForm 1 f
small-form-proper (small_declare t x e) h s d =
    let behind : Short (any (w.Name x) ∷ spell_start e) = back (spell_type t) _ s in
    (written t h.0 (omega arith), name-short behind, start-proper e h.1 (rest behind))
small-form-proper (small_infer x e) h s d = (name-short s, expr-proper e h (rest (rest s)))
small-form-proper (small_assign p e) h s d = (place-proper p h.0 (front (spell_place p) _ s), expr-proper e h.1 (rest (back (spell_place p) (any w.Assign ∷ spell e) s)))
small-form-proper (small_update p o e) h s d =
    (place-proper p h.0 (front (spell_place p) _ s), expr-proper e h.1 (back (spell_update_op o) (spell e) (back (spell_place p) (spell_update_op o ++ spell e) s)))
small-form-proper (small_step p) h s d = step-proper p h s
small-form-proper (small_call e) h s d = (h.0, expr-proper e h.1 s)

small-proper : (r : Option SmallTree) → IsSmallShaped r → Short (spell_small r) → over_small r ≤ MAX_NESTING → IsProperSmall 1 r
small-proper None h s d = tt
small-proper (Some r) h s d = (in-first r.at h.0, small-form-proper r.form h.1 (begun r.at.line (spell_small_form r.form) s) d)

-- Options and commands

setting-form-proper : (f : SettingFormTree) → IsSettingFormShaped f → Short (spell_setting_form f) → IsProperSettingForm 1 f
setting-form-proper (setting_named x e) h s = (name-short s, expr-proper e h (rest (rest s)))
setting-form-proper (setting_plain e) h s = expr-proper e h s

setting-proper : (r : SettingTree) → IsSettingShaped r → Short (spell_setting r) → IsProperSetting 1 r
setting-proper r h s = (in-first r.at h.0, setting-form-proper r.form h.1 (begun r.at.line (spell_setting_form r.form) s))

more-settings-proper : (ss : List SettingTree) → AreSettingsShaped ss → Short (spell_more_settings ss) → AllByRecursion (IsProperSetting 1) ss
more-settings-proper [] h s = tt
more-settings-proper (r ∷ rs) h s = (setting-proper r h.0 (front (spell_setting r) (spell_more_settings rs) (rest s)), more-settings-proper rs h.1 (back (spell_setting r) (spell_more_settings rs) (rest s)))

settings-proper : (ss : List SettingTree) → AreSettingsShaped ss → Short (spell_settings ss) → AllByRecursion (IsProperSetting 1) ss
settings-proper [] h s = tt
settings-proper (r ∷ rs) h s = (setting-proper r h.0 (front (spell_setting r) (spell_more_settings rs) (rest s)), more-settings-proper rs h.1 (back (spell_setting r) (spell_more_settings rs) (rest s)))

maybe-settings-proper : (os : Option (List SettingTree)) → AreMaybeSettingsShaped os → Short (spell_maybe_settings os) → AreProperMaybeSettings 1 os
maybe-settings-proper None h s = tt
maybe-settings-proper (Some ss) h s = settings-proper ss h s

command-short : (c : Command) → Short (spell_command c) → AreShortPieces c.text
command-short c s = sys-short (begun c.at.line (any (w.Sys c.text) ∷ []) s)

commands-proper : (cs : List Command) → AllByRecursion IsCommandShaped cs → Short (spell_commands cs) → AllByRecursion (λ c. IsInFile 1 c.at × AreShortPieces c.text) cs
commands-proper [] h s = tt
commands-proper (c ∷ cs) h s = (
  (in-first c.at h.0, command-short c (front (spell_command c) (any w.Semicolon ∷ spell_commands cs) s)),
  commands-proper cs h.1 (rest (back (spell_command c) (any w.Semicolon ∷ spell_commands cs) s)),
)

body-proper : (b : Body) → IsBodyShaped b → Short (spell_body b) → IsProperBody 1 b
body-proper (body.Sys c) h s = ((in-first c.at h, command-short c s), tt)
body-proper (body.Block cs) h s = commands-proper cs h (rest s)

-- Statements

mutual
  stmt-proper : (r : StmtTree) (before_else : Bool) → IsStmtShaped r → Short (spell_stmt r before_else) → stmt_height r ≤ MAX_NESTING → IsProperStmt 1 r
  stmt-proper (stmt at f) before_else h s d = (in-first at h.0, stmt-form-proper f before_else h.1 (begun at.line (spell_stmt_form f before_else) s) d)

  stmt-form-proper : (f : StmtFormTree) (before_else : Bool) → IsStmtFormShaped f → Short (spell_stmt_form f before_else) → over_stmt_form f ≤ MAX_NESTING → IsProperStmtForm 1 f
  stmt-form-proper (inner_block b) before_else h s d = block-proper b h s (below (block_height b) MAX_NESTING d)
  stmt-form-proper empty before_else h s d = tt
  stmt-form-proper (line l) before_else h s d = line-proper l h (front (spell_line l) _ s) d
  stmt-form-proper (when c then_part else_part) before_else h s d =
      let next : Bool = has_else else_part || before_else in
      let parts : List Mark = spell_stmt then_part next ++ spell_else else_part before_else in
      let inside : Short (spell c ++ (any w.CloseRound ∷ parts)) = rest (rest s) in
      let behind : Short parts = rest (back (spell c) (any w.CloseRound ∷ parts) inside) in
      let here : stmt_height then_part ≤ MAX_NESTING = omega arith in
      let other : over_else else_part ≤ MAX_NESTING = omega arith in (
        expr-proper c h.0 (front (spell c) (any w.CloseRound ∷ parts) inside),
        stmt-proper then_part next h.1 (front (spell_stmt then_part next) (spell_else else_part before_else) behind) here,
        else-proper else_part then_part before_else h.2 (back (spell_stmt then_part next) (spell_else else_part before_else) behind) other,
      )
  stmt-form-proper (while c r) before_else h s d =
      let behind : List Mark = any w.CloseRound ∷ spell_stmt r before_else in
      let here : stmt_height r ≤ MAX_NESTING = omega arith in
      (expr-proper c h.0 (front (spell c) behind (rest (rest s))), stmt-proper r before_else h.1 (rest (back (spell c) behind (rest (rest s)))) here)
  stmt-form-proper (for first c next r) before_else h s d =
      let body_marks : List Mark = any w.CloseRound ∷ spell_stmt r before_else in
      let step_marks : List Mark = any w.Semicolon ∷ (spell_small next ++ body_marks) in
      let test_marks : List Mark = any w.Semicolon ∷ (spell_maybe c ++ step_marks) in
      let head : Short (spell_small first ++ test_marks) = rest (rest s) in
      let condition : Short (spell_maybe c ++ step_marks) = rest (back (spell_small first) test_marks head) in
      let last : Short (spell_small next ++ body_marks) = rest (back (spell_maybe c) step_marks condition) in
      let a : over_small first ≤ MAX_NESTING = omega arith in
      let b : over_small next ≤ MAX_NESTING = omega arith in
      let here : stmt_height r ≤ MAX_NESTING = omega arith in (
        small-proper first h.0 (front (spell_small first) test_marks head) a,
        maybe-proper c h.1 (front (spell_maybe c) step_marks condition),
        small-proper next h.2 (front (spell_small next) body_marks last) b,
        stmt-proper r before_else h.3 (rest (back (spell_small next) body_marks last)) here,
      )
  stmt-form-proper (each t x e r) before_else h s d =
      let body_marks : List Mark = any w.CloseRound ∷ spell_stmt r before_else in
      let named : Short (any (w.Name x) ∷ any w.Colon ∷ (spell e ++ body_marks)) = back (spell_type t) _ (rest (rest s)) in
      let listed : Short (spell e ++ body_marks) = rest (rest named) in
      let deep : over_type t ≤ MAX_NESTING = omega arith in
      let here : stmt_height r ≤ MAX_NESTING = omega arith in
      (written t h.0 deep, name-short named, expr-proper e h.1 (front (spell e) body_marks listed), stmt-proper r before_else h.2 (rest (back (spell e) body_marks listed)) here)
  stmt-form-proper (switch e cs) before_else h s d =
      let behind : List Mark = any w.CloseRound ∷ any w.OpenBlock ∷ spell_cases cs in
      let inside : Short (spell e ++ behind) = rest (rest s) in
      let here : over_cases cs ≤ MAX_NESTING = omega arith in
      (expr-proper e h.0 (front (spell e) behind inside), cases-proper cs h.1 (rest (rest (back (spell e) behind inside))) here)

  cases-proper : (cs : CaseTrees) → AreCasesShaped cs → Short (spell_cases cs) → over_cases cs ≤ MAX_NESTING → AreProperCases 1 cs
  cases-proper no_cases h s d = tt
  cases-proper (more_cases c cs) h s d =
      let here : over_case c ≤ MAX_NESTING = omega arith in
      let others : over_cases cs ≤ MAX_NESTING = omega arith in
      (case-proper c h.0 (front (spell_case c) (spell_cases cs) s) here, cases-proper cs h.1 (back (spell_case c) (spell_cases cs) s) others)

  case-proper : (c : CaseTree) → IsCaseShaped c → Short (spell_case c) → over_case c ≤ MAX_NESTING → IsProperCase 1 c
  case-proper (a_case at l ss) h s d =
      let behind : List Mark = any w.CaseColon ∷ spell_stmts ss in
      let inside : Short (spell_label l ++ behind) = begun at.line (spell_label l ++ behind) s in
      let here : over_stmts ss ≤ MAX_NESTING = omega arith in
      (in-first at h.0, label-proper l h.1 (front (spell_label l) behind inside), stmts-proper ss h.2 (rest (back (spell_label l) behind inside)) here)

  else-proper : (r : MaybeStmt) (then_part : StmtTree) (before_else : Bool) → IsElseShaped r then_part → Short (spell_else r before_else) → over_else r ≤ MAX_NESTING → IsProperElse 1 r
  else-proper no_stmt then_part before_else h s d = tt
  else-proper (a_stmt r) then_part before_else h s d = stmt-proper r before_else h.2 (rest s) (below (stmt_height r) MAX_NESTING d)

  line-proper : (l : LineTree) → IsLineShaped l → Short (spell_line l) → over_line l ≤ MAX_NESTING → IsProperLine 1 l
  line-proper (declare t x r) h s d =
      let named : Short (any (w.Name x) ∷ spell_start_right r) = back (spell_type t) _ s in
      let deep : over_type t ≤ MAX_NESTING = omega arith in
      let here : over_maybe_right r ≤ MAX_NESTING = omega arith in
      (written t h.0 deep, name-short named, start-right-proper r h.1 (rest named) here)
  line-proper (infer x r) h s d = (name-short s, right-proper r h (rest (rest s)) d)
  line-proper (assign p r) h s d =
      let here : over_right r ≤ MAX_NESTING = omega arith in
      (place-proper p h.0 (front (spell_place p) _ s), right-proper r h.1 (rest (back (spell_place p) (any w.Assign ∷ spell_right r) s)) here)
  line-proper (update p o r) h s d =
      let here : over_right r ≤ MAX_NESTING = omega arith in
      (place-proper p h.0 (front (spell_place p) _ s), right-proper r h.1 (back (spell_update_op o) (spell_right r) (back (spell_place p) (spell_update_op o ++ spell_right r) s)) here)
  line-proper (step p) h s d = step-proper p h s
  line-proper (call_line e) h s d = (h.0, expr-proper e h.1 s)
  line-proper (print e) h s d = expr-proper e h (rest s)
  line-proper (println e) h s d = maybe-proper e h (rest s)
  line-proper (error e) h s d = expr-proper e h (rest s)
  line-proper (exit e) h s d = expr-proper e h (rest s)
  line-proper break h s d = tt
  line-proper continue h s d = tt
  line-proper (return r) h s d = maybe-right-proper r h (rest s) d
  line-proper (wait e) h s d = maybe-proper e h (rest s)
  line-proper (checkpoint e) h s d = maybe-proper e h (rest s)
  line-proper (act_line a) h s d = act-proper a h s d

  right-proper : (r : RightTree) → IsRightShaped r → Short (spell_right r) → over_right r ≤ MAX_NESTING → IsProperRight 1 r
  right-proper (right_expr e) h s d = expr-proper e h s
  right-proper (right_act a) h s d = act-proper a h s d

  maybe-right-proper : (r : MaybeRight) → IsMaybeRightShaped r → Short (spell_maybe_right r) → over_maybe_right r ≤ MAX_NESTING → IsProperMaybeRight 1 r
  maybe-right-proper no_right h s d = tt
  maybe-right-proper (a_right r) h s d = right-proper r h s d

  start-right-proper : (r : MaybeRight) → IsMaybeRightShaped r → Short (spell_start_right r) → over_maybe_right r ≤ MAX_NESTING → IsProperMaybeRight 1 r
  start-right-proper no_right h s d = tt
  start-right-proper (a_right r) h s d = right-proper r h (rest s) d

  act-proper : (a : ActTree) → IsActShaped a → Short (spell_act a) → over_act a ≤ MAX_NESTING → IsProperAct 1 a
  act-proper (act at f) h s d = (in-first at h.0, act-form-proper f h.1 (begun at.line (spell_act_form f) s) d)

  act-form-proper : (f : ActFormTree) → IsActFormShaped f → Short (spell_act_form f) → over_act_form f ≤ MAX_NESTING → IsProperActForm 1 f
  act-form-proper (sys ps) h s d = sys-short s
  act-form-proper (task os b) h s d = (maybe-settings-proper os h.0 (front (spell_maybe_settings os) _ (rest s)), body-proper b h.1 (back (spell_maybe_settings os) _ (rest s)))
  act-form-proper (dep os b) h s d = (settings-proper os h.0 (front (spell_settings os) (spell_body b) (rest s)), body-proper b h.1 (back (spell_settings os) (spell_body b) (rest s)))
  act-form-proper (goal e) h s d = expr-proper e h (rest s)
  act-form-proper (par_call f es) h s d = (name-short (rest s), all-proper es w.CloseRound h (rest (rest (rest s))))
  act-form-proper (par_block b) h s d = block-proper b h (rest s) (below (block_height b) MAX_NESTING d)

  block-proper : (b : BlockTree) → IsBlockShaped b → Short (spell_block b) → block_height b ≤ MAX_NESTING → IsProperBlock 1 b
  block-proper (block at ss) h s d =
      let inside : Short (any w.OpenBlock ∷ (spell_stmts ss ++ (any w.CloseBlock ∷ []))) = begun at.line (any w.OpenBlock ∷ (spell_stmts ss ++ (any w.CloseBlock ∷ []))) s in
      (in-first at h.0, stmts-proper ss h.1 (front (spell_stmts ss) (any w.CloseBlock ∷ []) (rest inside)) d)

  stmts-proper : (ss : StmtTrees) → AreStmtsShaped ss → Short (spell_stmts ss) → over_stmts ss ≤ MAX_NESTING → AreProperStmts 1 ss
  stmts-proper no_stmts h s d = tt
  stmts-proper (more_stmts r rs) h s d =
      let here : stmt_height r ≤ MAX_NESTING = omega arith in
      let others : over_stmts rs ≤ MAX_NESTING = omega arith in
      (stmt-proper r false h.0 (front (spell_stmt r false) (spell_stmts rs) s) here, stmts-proper rs h.1 (back (spell_stmt r false) (spell_stmts rs) s) others)

-- Parts

parameter-proper : (p : Parameter) → IsParameterShaped p → Short (spell_parameter p) → nesting p.ty ≤ MAX_NESTING → IsProperParameter p
parameter-proper p h s d = ((h, d), name-short (back (spell_type p.ty) (any (w.Name p.name) ∷ []) s))

more-parameters-proper : (ps : List Parameter) → AllByRecursion IsParameterShaped ps → Short (spell_more_parameters ps) → parameters_height ps ≤ MAX_NESTING → AllByRecursion IsProperParameter ps
more-parameters-proper [] h s d = tt
more-parameters-proper (p ∷ ps) h s d =
    let here : nesting p.ty ≤ MAX_NESTING = omega arith in
    let others : parameters_height ps ≤ MAX_NESTING = omega arith in (
      parameter-proper p h.0 (front (spell_parameter p) (spell_more_parameters ps) (rest s)) here,
      more-parameters-proper ps h.1 (back (spell_parameter p) (spell_more_parameters ps) (rest s)) others,
    )

parameters-proper : (ps : List Parameter) → AllByRecursion IsParameterShaped ps → Short (spell_parameters ps) → parameters_height ps ≤ MAX_NESTING → AllByRecursion IsProperParameter ps
parameters-proper [] h s d = tt
parameters-proper (p ∷ ps) h s d =
    let here : nesting p.ty ≤ MAX_NESTING = omega arith in
    let others : parameters_height ps ≤ MAX_NESTING = omega arith in (
      parameter-proper p h.0 (front (spell_parameter p) (spell_more_parameters ps) s) here,
      more-parameters-proper ps h.1 (back (spell_parameter p) (spell_more_parameters ps) s) others,
    )

-- of a part that is no include
pub function-proper : (f : FunctionTree) → IsPartShaped (a_function f) → Short (spell_part (a_function f)) → part_height (a_function f) ≤ MAX_NESTING → IsProperPart 1 (a_function f)
function-proper f h s d =
    let inside : List Mark = spell_parameters f.parameters ++ spell_block f.body in
    let all : Short (spell_type f.result ++ (any (w.Name f.name) ∷ any w.OpenRound ∷ inside)) = begun f.at.line (spell_type f.result ++ (any (w.Name f.name) ∷ any w.OpenRound ∷ inside)) s in
    let named : Short (any (w.Name f.name) ∷ any w.OpenRound ∷ inside) = back (spell_type f.result) (any (w.Name f.name) ∷ any w.OpenRound ∷ inside) all in
    let result : nesting f.result ≤ MAX_NESTING = omega arith in
    let parameters : parameters_height f.parameters ≤ MAX_NESTING = omega arith in
    let deep : block_height f.body ≤ MAX_NESTING = omega arith in (
      in-first f.at h.0,
      (h.1, result),
      name-short named,
      parameters-proper f.parameters h.2 (front (spell_parameters f.parameters) (spell_block f.body) (rest (rest named))) parameters,
      block-proper f.body h.3 (back (spell_parameters f.parameters) (spell_block f.body) (rest (rest named))) deep,
    )

pub statement-proper : (r : StmtTree) → IsPartShaped (a_statement r) → Short (spell_part (a_statement r)) → part_height (a_statement r) ≤ MAX_NESTING → IsProperPart 1 (a_statement r)
statement-proper r h s d = stmt-proper r false h s d

pub part-short : (p : PartTree) (ps : List PartTree) → Short (spell_parts (p ∷ ps)) → Short (spell_part p)
part-short p ps s = front (spell_part p) (spell_parts ps) s

pub parts-short : (p : PartTree) (ps : List PartTree) → Short (spell_parts (p ∷ ps)) → Short (spell_parts ps)
parts-short p ps s = back (spell_part p) (spell_parts ps) s

pub short-parts : (s : ScriptTree) → HasShortTexts s → Short (spell_parts s.parts)
short-parts s h = begun s.at.line (spell_parts s.parts) (record { all = h })
