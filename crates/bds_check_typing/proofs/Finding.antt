-- Where the names in force have types, what breaks no rule is judged alike while types of globals are found.
use Rattle.std.proofs.Common.{◌≡◌, ℕ, Bool, true, false, not, ◌&&◌, ◌||◌, List, [], ◌∷◌, Option, Some, None, refl, ap, ap₂, sym, ◌∙◌, if◌then◌else◌}
use Rattle.std.specs.List.{list_any}
use Rattle.bds_value.specs.declared.value.Ty.{Ty}
use Rattle.bds_tree.specs.declared.token.Piece.{Piece}
use Rattle.bds_tree.specs.declared.token.Piece.TheVariants as piece
use Rattle.bds_tree.specs.declared.token.Index.TheVariants as index
use Rattle.bds_tree.specs.declared.token.KeyName.TheVariants as key_name
use Rattle.bds_tree.specs.declared.stmt.Command.{Command}
use Rattle.bds_tree.specs.Tree.{Tree, Trees}
use Rattle.bds_tree.specs.StmtTree.{SuffixTree, at_index, at_key, PlaceTree, StepTree, step_after, step_before, SmallFormTree, small_declare, small_infer, small_assign, small_update, small_step, small_call, SmallTree, SettingFormTree, setting_named, setting_plain, SettingTree, StmtFormTree, LineTree, ActFormTree, line, while, sys, task, dep, goal, par_call, par_block}
use Rattle.bds_check_names.specs.declared.names.Names.{Names}
use Rattle.bds_check_names.specs.declared.names.Variable.{Variable}
use Rattle.bds_check_names.specs.declared.names.Asked.{Asked}
use Rattle.bds_check_names.specs.declared.names.Asked.TheVariants.{Whole, Value, This}
use Rattle.bds_check_names.specs.declared.names.Site.{Site}
use Rattle.bds_check_names.specs.declared.names.Seen.{Seen}
use Rattle.bds_check_rules.specs.declared.rules.Rule.{Rule}
use Rattle.bds_check_rules.specs.declared.rules.Rule.TheVariants as rule
use Rattle.bds_check_names.specs.Types.{is_known}
use Rattle.bds_check_names.specs.Scopes.{variable, found, type_named, is_missing, is_untyped, declare_in, with_locals, with_globals, declare as declared}
use Rattle.bds_check_rules.specs.Declarations.{declared_by_small_form, names_with}
use Rattle.bds_check_rules.specs.Pieces.{when as broken_if, any_name, is_wrong_piece, is_list_named, is_map_named, sys_rule}
use Rattle.bds_check_rules.specs.StmtBreaks.{place_ty, is_wrong_suffix, any_bad_suffix, place_breaks, small_breaks, stmt_breaks, setting_breaks, seen_behind, act_breaks}
use Rattle.bds_check_typing.specs.Walk.{Broken, first, placed, judge, judge_arguments}
use Rattle.bds_check_typing.specs.StmtParts.{JudgedSuffixes, JudgedSmallForm, JudgedSmall, JudgedSettingForm, some_expr, judge_maybe, suffix_with, judge_suffix, also_suffix, judge_suffixes, close_place, judge_place, with_step, judge_step, small_with, small_with_place, small_with_step, judge_small_form, close_small, judge_small, setting_with, judge_setting_form, close_setting, judge_setting, also_setting, judge_settings, commands_broken}
use Rattle.bds_check_typing.specs.Known.{AreNamesWritten}
use Rattle.bds_check_typing.proofs.WellTypedLaws.{first-left, first-right}
use Rattle.bds_check_typing.proofs.Agreeing.{Agree, judged, judged-arguments}
use Rattle.bds_check_typing.proofs.Written.{written-known}
use Rattle.bds_check_typing.proofs.ValueTypes.{IsTypeWritten, found-written}

-- the same names, while types are found
abbrev pub finding : Names → Names
finding names = record { functions = names.functions; globals = names.globals; locals = names.locals; finding = true }

-- Names

still-there : (b : Bool) (o : Option Ty) → IsTypeWritten o → is_missing b o ≡ false → is_missing true o ≡ false
still-there b None h q = q
still-there b (Some t) h q = ap not (written-known t h)

finding-agrees : (names : Names) → AreNamesWritten names → Agree names (finding names)
finding-agrees names n x q = (refl, still-there names.finding (found x names) (found-written x names n) q)

and-false : (b : Bool) → (b && false) ≡ false
and-false true = refl
and-false false = refl

typed-missing : (b : Bool) (o : Option Ty) → IsTypeWritten o → is_missing true o ≡ is_missing b o
typed-missing b None h = refl
typed-missing b (Some t) h = let known : not (is_known t) ≡ false = ap not (written-known t h) in known ∙ sym (ap (λ (c : Bool). b && c) known ∙ and-false b)

typed-untyped : (b : Bool) (o : Option Ty) → IsTypeWritten o → is_untyped true o ≡ is_untyped b o
typed-untyped b None h = refl
typed-untyped b (Some t) h = let known : not (is_known t) ≡ false = ap not (written-known t h) in known ∙ sym (ap (λ (c : Bool). b && c) known ∙ and-false b)

module _ (names : Names) (n : AreNamesWritten names) where
  -- Expressions

  pub expr-alike : (e : Tree) (asked : Asked) → (judge e names asked).broken ≡ None → judge e (finding names) asked ≡ judge e names asked
  expr-alike e asked q = sym (judged names.functions names.globals names.globals names.locals names.locals names.finding true (finding-agrees names n) e asked q)

  pub arguments-alike : (es : Trees) (ts : List Ty) → (judge_arguments es names ts).broken ≡ None → judge_arguments es (finding names) ts ≡ judge_arguments es names ts
  arguments-alike es ts q = sym (judged-arguments names.functions names.globals names.globals names.locals names.locals names.finding true (finding-agrees names n) es ts q)

  pub maybe-alike : (e : Option Tree) → (judge_maybe e names).broken ≡ None → judge_maybe e (finding names) ≡ judge_maybe e names
  maybe-alike None q = refl
  maybe-alike (Some e) q = ap some_expr (expr-alike e Value q)

  suffix-alike : (s : SuffixTree) → (judge_suffix s names).broken ≡ None → judge_suffix s (finding names) ≡ judge_suffix s names
  suffix-alike (at_index e) q = ap (suffix_with at_index) (expr-alike e Value q)
  suffix-alike (at_key e) q = ap (suffix_with at_key) (expr-alike e Value q)

  suffixes-alike : (ss : List SuffixTree) → (judge_suffixes ss names).broken ≡ None → judge_suffixes ss (finding names) ≡ judge_suffixes ss names
  suffixes-alike [] q = refl
  suffixes-alike (s ∷ ss) q =
      ap₂ also_suffix
      (suffix-alike s (first-left (judge_suffix s names).broken (judge_suffixes ss names).broken q)) (suffixes-alike ss (first-right (judge_suffix s names).broken (judge_suffixes ss names).broken q))

  place-rule-alike : (p : PlaceTree) → place_breaks (finding names) p ≡ place_breaks names p
  place-rule-alike p =
      ap (λ (b : Bool). broken_if b rule.UnknownName (broken_if (list_any is_wrong_suffix p.suffixes) rule.WrongType (broken_if (any_bad_suffix (type_named p.name names) p.suffixes) rule.BadItem None)))
      (typed-missing names.finding (found p.name names) (found-written p.name names n))

  pub place-alike : (p : PlaceTree) → (judge_place p names).broken ≡ None → judge_place p (finding names) ≡ judge_place p names
  place-alike p q =
      let js : JudgedSuffixes = judge_suffixes p.suffixes names in
      let typed : PlaceTree = (judge_place p names).place in
      ap (close_place p.at p.name (finding names)) (suffixes-alike p.suffixes (first-left js.broken (placed p.at (place_breaks names typed)) q))
      ∙ ap (λ (r : Option Rule). record { place = typed; broken = first js.broken (placed p.at r) }) (place-rule-alike typed)

  pub step-alike : (s : StepTree) → (judge_step s names).broken ≡ None → judge_step s (finding names) ≡ judge_step s names
  step-alike (step_after p o) q = ap (with_step (λ r. step_after r o)) (place-alike p q)
  step-alike (step_before o p) q = ap (with_step (step_before o)) (place-alike p q)

  -- Heads of loops

  small-form-alike : (f : SmallFormTree) → (judge_small_form f names).broken ≡ None → judge_small_form f (finding names) ≡ judge_small_form f names
  small-form-alike (small_declare t x None) q = refl
  small-form-alike (small_declare t x (Some e)) q = ap (small_with (λ d. small_declare t x (Some d))) (expr-alike e (This t) q)
  small-form-alike (small_infer x e) q = ap (small_with (small_infer x)) (expr-alike e Value q)
  small-form-alike (small_assign p e) q =
      let asked : Asked = This (place_ty names p) in
      ap₂ (small_with_place small_assign)
      (place-alike p (first-left (judge_place p names).broken (judge e names asked).broken q)) (expr-alike e asked (first-right (judge_place p names).broken (judge e names asked).broken q))
  small-form-alike (small_update p o e) q =
      ap₂ (small_with_place (λ r. small_update r o))
      (place-alike p (first-left (judge_place p names).broken (judge e names Value).broken q)) (expr-alike e Value (first-right (judge_place p names).broken (judge e names Value).broken q))
  small-form-alike (small_step s) q = ap small_with_step (step-alike s q)
  small-form-alike (small_call e) q = ap (small_with small_call) (expr-alike e Whole q)

  small-rule-alike : (f : SmallFormTree) (site : Site) → small_breaks (finding names) site f ≡ small_breaks names site f
  small-rule-alike (small_declare t x None) site = refl
  small-rule-alike (small_declare t x (Some e)) site = refl
  small-rule-alike (small_infer x e) site = refl
  small-rule-alike (small_assign p e) site = refl
  small-rule-alike (small_update p o e) site = refl
  small-rule-alike (small_step s) site = refl
  small-rule-alike (small_call e) site = refl

  declared-choice : (b : Bool) (globals locals : List Variable) → (if b then with_globals (finding names) globals else with_locals (finding names) locals) ≡ finding (if b then with_globals names globals else with_locals names locals)
  declared-choice true globals locals = refl
  declared-choice false globals locals = refl

  declared-alike : (site : Site) (x : List ℕ) (t : Ty) → declared (finding names) site x t ≡ finding (declared names site x t)
  declared-alike site x t = declared-choice site.at_top (declare_in 0 (variable x t) names.globals) (declare_in site.start (variable x t) names.locals)

  pub names-alike : (v : Option Variable) (site : Site) → names_with (finding names) site v
      ≡ finding (names_with names site v)
  names-alike None site = refl
  names-alike (Some v) site = declared-alike site v.name v.ty

  abbrev pub finding_small : JudgedSmall → JudgedSmall
  finding_small j = record { small = j.small; broken = j.broken; names = finding j.names }

  pub small-alike : (s : Option SmallTree) (site : Site) → (judge_small s names site).broken ≡ None → judge_small s (finding names) site ≡ finding_small (judge_small s names site)
  small-alike None site q = refl
  small-alike (Some s) site q =
      let j : JudgedSmallForm = judge_small_form s.form names in
      ap (close_small s.at (finding names) site) (small-form-alike s.form (first-left j.broken (placed s.at (small_breaks names site j.form)) q))
      ∙ ap (λ (r : Option Rule). record { small = Some (record { at = s.at; form = j.form }); broken = first j.broken (placed s.at r); names = names_with (finding names) site (declared_by_small_form j.form) }) (small-rule-alike j.form site)
      ∙ ap (λ (m : Names). record { small = Some (record { at = s.at; form = j.form }); broken = first j.broken (placed s.at (small_breaks names site j.form)); names = m }) (names-alike (declared_by_small_form j.form) site)

  -- Options and commands

  setting-form-alike : (f : SettingFormTree) → (judge_setting_form f names).broken ≡ None → judge_setting_form f (finding names) ≡ judge_setting_form f names
  setting-form-alike (setting_named x e) q = ap (setting_with (setting_named x)) (expr-alike e Value q)
  setting-form-alike (setting_plain e) q = ap (setting_with setting_plain) (expr-alike e Value q)

  pub settings-alike : (ss : List SettingTree) (of_dep : Bool) (seen : Seen) → (judge_settings ss names of_dep seen).broken ≡ None → judge_settings ss (finding names) of_dep seen ≡ judge_settings ss names of_dep seen
  settings-alike [] of_dep seen q = refl
  settings-alike (s ∷ ss) of_dep seen q =
      let behind : Seen = seen_behind seen s.form in
      let j : JudgedSettingForm = judge_setting_form s.form names in
      let here : Option Broken = (judge_setting s names of_dep seen).broken in
      let others : Option Broken = (judge_settings ss names of_dep behind).broken in
      ap₂ also_setting
      (ap (close_setting s.at of_dep seen) (setting-form-alike s.form (first-left j.broken (placed s.at (setting_breaks of_dep seen j.form)) (first-left here others q))))
      (settings-alike ss of_dep behind (first-right here others q))

  untyped-alike : (x : List ℕ) → is_untyped true (found x names) ≡ is_untyped names.finding (found x names)
  untyped-alike x = typed-untyped names.finding (found x names) (found-written x names n)

  piece-alike : (p : Piece) → any_name (is_untyped true) (finding names) p ≡ any_name (is_untyped names.finding) names p
  piece-alike (piece.Plain t) = refl
  piece-alike (piece.Name x) = untyped-alike x
  piece-alike (piece.Item x (index.Number k)) = untyped-alike x
  piece-alike (piece.Item x (index.Name y)) = ap₂ (λ b c. b || (is_list_named x names && c)) (untyped-alike x) (untyped-alike y)
  piece-alike (piece.Key x (key_name.Text t)) = untyped-alike x
  piece-alike (piece.Key x (key_name.Name y)) = ap₂ (λ b c. b || (is_map_named x names && c)) (untyped-alike x) (untyped-alike y)

  pieces-alike : (ps : List Piece) → list_any (any_name (is_untyped true) (finding names)) ps ≡ list_any (any_name (is_untyped names.finding) names) ps
  pieces-alike [] = refl
  pieces-alike (p ∷ ps) = ap₂ (λ b c. b || c) (piece-alike p) (pieces-alike ps)

  wrong-piece-alike : (p : Piece) → is_wrong_piece (finding names) p ≡ is_wrong_piece names p
  wrong-piece-alike (piece.Plain t) = refl
  wrong-piece-alike (piece.Name x) = refl
  wrong-piece-alike (piece.Item x (index.Number k)) = refl
  wrong-piece-alike (piece.Item x (index.Name y)) = refl
  wrong-piece-alike (piece.Key x (key_name.Text t)) = refl
  wrong-piece-alike (piece.Key x (key_name.Name y)) = refl

  wrong-pieces-alike : (ps : List Piece) → list_any (is_wrong_piece (finding names)) ps ≡ list_any (is_wrong_piece names) ps
  wrong-pieces-alike [] = refl
  wrong-pieces-alike (p ∷ ps) = ap₂ (λ b c. b || c) (wrong-piece-alike p) (wrong-pieces-alike ps)

  sys-rule-alike : (ps : List Piece) → sys_rule (finding names) ps ≡ sys_rule names ps
  sys-rule-alike ps =
      ap₂ (λ b c. broken_if b rule.UnknownName (broken_if c rule.WrongType None)) (pieces-alike ps) (wrong-pieces-alike ps)

  pub commands-alike : (cs : List Command) → commands_broken cs (finding names) ≡ commands_broken cs names
  commands-alike [] = refl
  commands-alike (c ∷ cs) = ap₂ (λ r b. first (placed c.at r) b) (sys-rule-alike c.text) (commands-alike cs)

  -- Rules of acts and statements

  pub act-rule-alike : (f : ActFormTree) (asked : Asked) → act_breaks (finding names) asked f ≡ act_breaks names asked f
  act-rule-alike (sys ps) asked = sys-rule-alike ps
  act-rule-alike (task os b) asked = refl
  act-rule-alike (dep os b) asked = refl
  act-rule-alike (goal e) asked = refl
  act-rule-alike (par_call f es) asked = refl
  act-rule-alike (par_block b) asked = refl

  line-rule-alike : (l : LineTree) (site : Site) → stmt_breaks (finding names) site (line l) ≡ stmt_breaks names site (line l)
  line-rule-alike _ site = refl

  pub stmt-rule-alike : (f : StmtFormTree) (site : Site) → stmt_breaks (finding names) site f ≡ stmt_breaks names site f
  stmt-rule-alike (line l) site = line-rule-alike l site
  stmt-rule-alike _ site = refl
