-- The code of the top level is of whole marks, and has a slot for each local of it.
use Rattle.std.proofs.Common.{◌≡◌, ◌+◌, ℕ, suc, List, [], ◌∷◌, length, Option, Some, None, true, refl, sym, ap, subst, arith}
use Rattle.std.specs.List.{AllByRecursion}
use Rattle.bds_value.specs.declared.value.At.{At}
use Rattle.bds_value.specs.declared.value.Ty.{Ty}
use Rattle.bds_value.specs.declared.value.Ty.TheVariants as ty
use Rattle.bds_value.specs.declared.value.Value.{Value, out-Value}
use Rattle.bds_value.specs.declared.value.Value.TheOpen.{Value-F}
use Rattle.bds_tree.specs.StmtTree.{StmtTree, LineTree, PartTree, stmt, line, for, each, declare, infer, a_function, an_include, a_statement}
use Rattle.bds_code.specs.declared.instr.Instr.TheVariants.{MakeList, StoreGlobal}
use Rattle.bds_verify.specs.Whole.{is_value_ty, is_item_ty}
use Rattle.bds_check_names.specs.declared.names.Names.{Names}
use Rattle.bds_check_names.specs.declared.names.Head.{Head}
use Rattle.bds_check_names.specs.Scopes.{top}
use Rattle.bds_check_names.specs.Slots.{top_slots, parts_slots}
use Rattle.bds_check_rules.specs.StmtBreaks.{right_type}
use Rattle.bds_check_typing.specs.Program.{with_head}
use Rattle.bds_check_typing.specs.WellTypedScripts.{AreWellTypedParts}
use Rattle.bds_check_typing.specs.GivenValues.{IsTextAt, IsGivenAt, IsGivenFor, IsPartSet, FitGlobals}
use Rattle.bds_check_typing.specs.Texts.{AreShortTexts}
use Rattle.bds_check_typing.specs.Known.{IsStmtWritten, IsLineWritten}
use Rattle.bds_check_typing.specs.Proper.{IsInFile, IsProperStmt, IsProperLine, IsProperPart}
use Rattle.bds_check_typing.specs.WellTypedStmts.{IsWellTypedStmt, IsWellTypedLine, names_behind}
use Rattle.bds_check_size.specs.ScriptSize.{Settings, set_for, declared_type, top_size}
use Rattle.bds_gen_expr.specs.Marks.{Mark, does, count, slot_count, one}
use Rattle.bds_gen_expr.specs.Scope.{known}
use Rattle.bds_gen_expr.proofs.Counts.{counts}
use Rattle.bds_gen_stmt.specs.Spots.{Spot, store_new}
use Rattle.bds_gen_stmt.specs.StmtCode.{behind, behind_line, pars}
use Rattle.bds_gen_stmt.specs.UnitCode.{push_at, items_code, value_code_at, value_code, line_or_value_code, top_stmt_code, top_code, texts_code, args_code}
use Rattle.bds_gen_stmt.proofs.StmtCounts.{slot_counts, new_slots, declared-next}
use Rattle.bds_gen_stmt.proofs.ParSizes.{texts-count, top-count}
use Rattle.bds_gen_stmt.proofs.TopNames.{IsTop, behind-top}
use Rattle.bds_gen_stmt.proofs.TopFlow.{ArePartsWritten, next-top}
use Rattle.bds_gen_stmt.proofs.Wholes.{IsWholeInstr, AreWhole, whole-then, bool-value, int-value, text-value, texts-value, text-item}
use Rattle.bds_gen_stmt.proofs.StmtWhole.{store-whole, line-whole, stmt-whole}

-- Slots

behind-line-next : (l : LineTree) (sp : Spot) → sp.at_top ≡ true → (behind_line l sp).next ≡ sp.next
behind-line-next (declare t x r) sp e = let a = declared-next sp.at_top sp x t in let b : new_slots sp.at_top ≡ 0 = ap new_slots e in omega (arith, a, b)
behind-line-next (infer x r) sp e = let a = declared-next sp.at_top sp x (right_type r) in let b : new_slots sp.at_top ≡ 0 = ap new_slots e in omega (arith, a, b)
behind-line-next _ sp e = refl

behind-next : (s : StmtTree) (sp : Spot) → sp.at_top ≡ true → (behind s sp).next ≡ sp.next + top_slots s
behind-next (stmt at (line l)) sp e = let a = behind-line-next l sp e in omega (arith, a)
behind-next (stmt at _) sp e = refl

pub top-slots : (ss : Settings) (ps : List PartTree) (sp : Spot) (n p : ℕ) → IsTop sp → slot_count (top_code ss ps sp n p) ≡ parts_slots ps
top-slots ss [] sp n p h = refl
top-slots ss (a_statement s ∷ ps) sp n p h =
    let ms : List Mark = top_stmt_code ss s sp n p in
    let rest : List Mark = top_code ss ps (behind s sp) (n + pars s) (p + top_size ss s (known sp.scope)) in
    let a = slot_counts ms rest in
    let b = next-top ss s sp n p in
    let c = behind-next s sp h.high in
    let d : slot_count rest ≡ parts_slots ps = top-slots ss ps (behind s sp) (n + pars s) (p + top_size ss s (known sp.scope)) (behind-top s sp h) in
    omega (arith, a, b, c, d)
top-slots ss (a_function f ∷ ps) sp n p h = top-slots ss ps sp n p h
top-slots ss (an_include i ∷ ps) sp n p h = top-slots ss ps sp n p h

-- Values that words give

pub given-value : (w : Value-F Value) (t : Ty) → IsGivenAt w t → is_value_ty t ≡ true
given-value (Value-F.Bool b) t h = subst (λ t. is_value_ty t ≡ true) (sym h) bool-value
given-value (Value-F.Int n) t h = subst (λ t. is_value_ty t ≡ true) (sym h) int-value
given-value (Value-F.Text x) t h = subst (λ t. is_value_ty t ≡ true) (sym h.0) text-value
given-value (Value-F.List u vs) t h = subst (λ t. is_value_ty t ≡ true) (sym h.0) texts-value
given-value (Value-F.Map u ps) t h = absurd h

pub args-count : (at : At) (args : List (List ℕ)) → count (args_code at args) ≡ length args + 2
args-count at args =
    let a = counts (texts_code at args) (does (MakeList ty.Text (length args)) at ∷ does (StoreGlobal 0) at ∷ []) in
    let b = texts-count at args in
    omega (arith, a, b)

module _ (files : ℕ) where
  abbrev W : List Mark → ℕ → Type 0
  W = AreWhole files

  text-whole : (w : Value-F Value) (p : ℕ) → IsTextAt w → IsWholeInstr (push_at w) p
  text-whole (Value-F.Text x) p h = h
  text-whole (Value-F.Bool b) p h = absurd h
  text-whole (Value-F.Int n) p h = absurd h
  text-whole (Value-F.List u vs) p h = absurd h
  text-whole (Value-F.Map u ps) p h = absurd h

  items-whole : (at : At) (vs : List Value) (p : ℕ) → IsInFile files at → AllByRecursion (λ v. IsTextAt (out-Value v)) vs → W (items_code at vs) p
  items-whole at [] p i h = tt
  items-whole at (v ∷ vs) p i h = (text-whole (out-Value v) p h.0, i, items-whole at vs (suc p) i h.1)

  given-whole : (at : At) (w : Value-F Value) (t : Ty) (p : ℕ) → IsInFile files at → IsGivenAt w t → W (value_code_at at w) p
  given-whole at (Value-F.Bool b) t p i h = (tt, i, tt)
  given-whole at (Value-F.Int n) t p i h = (tt, i, tt)
  given-whole at (Value-F.Text x) t p i h = (h.1, i, tt)
  given-whole at (Value-F.List u vs) t p i h =
      whole-then files (items_code at vs) (one at (MakeList u (length vs))) p (p + count (items_code at vs)) refl (items-whole at vs p i h.2) (subst (λ t. is_item_ty t ≡ true) (sym h.1) text-item, i, tt)
  given-whole at (Value-F.Map u ps) t p i h = absurd h

  line-or-value-whole : (o : Option Value) (l : LineTree) (at : At) (names : Names) (sp : Spot) (n p : ℕ) → IsGivenFor o (declared_type l) → IsInFile files at → IsProperLine files l → IsWellTypedLine l names top → IsLineWritten l → W (line_or_value_code o l at sp n p) p
  line-or-value-whole None l at names sp n p g i pr w k = line-whole files l names top at sp n p i pr w k
  line-or-value-whole (Some v) l at names sp n p g i pr w k =
      let q : ℕ = p + count (value_code at v) in
      whole-then files (value_code at v) (store_new sp at (declared_type l)) p q refl (given-whole at (out-Value v) (declared_type l) p i g) (store-whole files sp at (declared_type l) q i (given-value (out-Value v) (declared_type l) g))

  top-stmt-whole : (ss : Settings) (s : StmtTree) (names : Names) (sp : Spot) (n p : ℕ) → IsPartSet ss (a_statement s) → IsProperStmt files s → IsWellTypedStmt s names top → IsStmtWritten s → W (top_stmt_code ss s sp n p) p
  top-stmt-whole ss (stmt at (line l)) names sp n p g pr w k = line-or-value-whole (set_for ss l) l at names sp n p g pr.0 pr.1 w.0 k
  top-stmt-whole ss (stmt at f) names sp n p g pr w k = stmt-whole files (stmt at f) names top sp n p pr w k

  pub top-whole : (ss : Settings) (ps : List PartTree) (sp : Spot) (names all : Names) (before : List Head) (n p : ℕ) → FitGlobals ss ps → AllByRecursion (IsProperPart files) ps → AreWellTypedParts ps all before names → ArePartsWritten ps → W (top_code ss ps sp n p) p
  top-whole ss [] sp names all before n p g pr w k = tt
  top-whole ss (a_statement s ∷ ps) sp names all before n p g pr w k =
      let q : ℕ = p + top_size ss s (known sp.scope) in
      whole-then files (top_stmt_code ss s sp n p) (top_code ss ps (behind s sp) (n + pars s) q) p q (ap (λ m. p + m) (top-count ss s sp n p)) (top-stmt-whole ss s names sp n p g.0 pr.0 w.0 k.0)
      (top-whole ss ps (behind s sp) (names_behind s names top) all (with_head before (a_statement s)) (n + pars s) q g.1 pr.1 w.1 k.1)
  top-whole ss (a_function f ∷ ps) sp names all before n p g pr w k = top-whole ss ps sp names all (with_head before (a_function f)) n p g.1 pr.1 w.1 k
  top-whole ss (an_include i ∷ ps) sp names all before n p g pr w k = absurd (pr.0)

  texts-whole : (at : At) (ts : List (List ℕ)) (p : ℕ) → IsInFile files at → AreShortTexts ts → W (texts_code at ts) p
  texts-whole at [] p i h = tt
  texts-whole at (t ∷ ts) p i h = (h.0, i, texts-whole at ts (suc p) i h.1)

  pub args-whole : (at : At) (args : List (List ℕ)) (p : ℕ) → IsInFile files at → AreShortTexts args → W (args_code at args) p
  args-whole at args p i h =
      whole-then files (texts_code at args) (does (MakeList ty.Text (length args)) at ∷ does (StoreGlobal 0) at ∷ []) p (p + count (texts_code at args)) refl (texts-whole at args p i h) (text-item, i, (tt, i, tt))
