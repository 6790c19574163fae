-- The code of the top level is verified.
use Rattle.bds_gen_stmt.proofs.Pars.{ParsThere, StandAt, stand-append, many}
use Rattle.bds_gen_stmt.proofs.Loops.{quiet, behind-loop}
use Rattle.bds_gen_flow.proofs.ExprParts.{again, all-taken, solid-again}
use Rattle.std.proofs.Common.{◌≡◌, ◌+◌, ℕ, suc, Option, List, [], ◌∷◌, ◌++◌, length, slice_get, Some, None, Ok, Bool, true, false, not, refl, sym, ◌∙◌, ap, subst, arith, append_assoc, append-nil, if◌then◌else◌, rules, replicate}
use Rattle.std.specs.Prelude.{⊤}
use Rattle.bds_value.specs.declared.value.At.{At}
use Rattle.bds_value.specs.declared.value.Ty.{Ty}
use Rattle.bds_value.specs.declared.value.Ty.TheVariants as ty
use Rattle.bds_tree.specs.StmtTree.{StmtTree, LineTree, PartTree, stmt, line, when, declare, infer, a_function, an_include, a_statement}
use Rattle.bds_code.specs.declared.instr.Instr.TheVariants.{MakeList, StoreGlobal, PushDefault, Return, PushText}
use Rattle.bds_code.specs.declared.unit.Function.{Function}
use Rattle.bds_code.specs.declared.unit.Unit.{Unit as CodeUnit}
use Rattle.bds_value.specs.Results.{◌>>=◌}
use Rattle.bds_code.specs.Operands.{there, taken, giving}
use Rattle.bds_code.specs.Row.{row}
use Rattle.bds_verify.specs.Verified.{IsVerified}
use Rattle.bds_verify.specs.Whole.{is_whole}
use Rattle.bds_check_names.specs.declared.names.Names.{Names}
use Rattle.bds_check_names.specs.declared.names.Head.{Head}
use Rattle.bds_check_names.specs.Scopes.{top}
use Rattle.bds_check_rules.specs.StmtBreaks.{right_type}
use Rattle.bds_check_names.specs.Types.{is_known, known_at}
use Rattle.bds_tree.specs.StmtTree.{no_stmt, a_stmt}
use Rattle.bds_check_size.specs.StmtSize.{stmt_size}
use Rattle.bds_check_size.specs.ScriptSize.{Settings, set_for, declared_type, made_at, line_or_value_size, top_size}
use Rattle.bds_check_typing.specs.Program.{with_head}
use Rattle.bds_check_typing.specs.WellTypedStmts.{names_behind}
use Rattle.bds_check_typing.specs.WellTypedScripts.{AreWellTypedParts, names_behind_parts}
use Rattle.bds_check_typing.specs.Known.{IsStmtWritten}
use Rattle.bds_gen_expr.specs.Marks.{Mark, does, slot_count, one, written}
use Rattle.bds_gen_expr.specs.declared.scope.Numbered.{Numbered}
use Rattle.bds_gen_expr.specs.Numbers.{numbered}
use Rattle.bds_gen_expr.specs.Scope.{known, with_one_global}
use Rattle.bds_gen_stmt.specs.Spots.{Spot, inner, declared_local, declared, store_new}
use Rattle.bds_gen_stmt.specs.StmtCode.{behind, stmt_code, pars}
use Rattle.bds_gen_stmt.specs.FunctionCode.{fresh, eight, ending, par_functions}
use Rattle.bds_gen_stmt.specs.UnitCode.{behind_parts, push_at, items_code, value_code_at, value_code, line_or_value_code, top_stmt_code, top_code, top_functions, args_code, texts_code}
use Rattle.bds_check_typing.specs.GivenValues.{IsTextAt, IsGivenAt, IsGivenFor, IsPartSet, FitGlobals}
use Rattle.bds_gen_flow.specs.Flow.{Goes, Runs}
use Rattle.bds_gen_flow.proofs.Flow.{runs_then, runs_to, runs_none, runs_one, runs_does, goes_append, has_append}
use Rattle.bds_gen_flow.proofs.RowEffects.{list-solid, taken-is, given-is, text-solid}
use Rattle.bds_gen_flow.proofs.Sealed.{sealed_anyhow}
use Rattle.bds_gen_expr.proofs.Written.{ret-is}
use Rattle.bds_gen_stmt.proofs.StmtCounts.{no_slots, stored-slots, declared-next}
use Rattle.bds_check_typing.specs.Proper.{IsProperStmt, IsProperPart}
use Rattle.bds_gen_stmt.proofs.WholeSlots.{form-stmt-slots, line-slots}
use Rattle.bds_gen_stmt.proofs.Matched.{TaskSlots, Slots, slots_append, AreGlobals, Matches, declare-matches, slots-matches}
use Rattle.bds_gen_stmt.proofs.LineFlow.{store-run, returned-none}
use Rattle.bds_gen_stmt.proofs.StmtFlow.{NewIn, stmt-run}
use Rattle.bds_gen_stmt.proofs.FunctionFlow.{own-slots, task-slots}
use Rattle.std.specs.List.{AllByRecursion}
use Rattle.bds_value.specs.declared.value.Value.{Value, out-Value}
use Rattle.bds_value.specs.declared.value.Value.TheOpen.{Value-F}
use Rattle.bds_value.specs.Types.{is_void}
use Rattle.bds_value.specs.Fields.{is_solid}
use Rattle.bds_code.specs.declared.instr.Instr.{Instr}
use Rattle.bds_code.specs.declared.instr.Instr.TheVariants.{PushBool, PushInt}
use Rattle.bds_verify.specs.Verified.{goes_on, target}
use Rattle.bds_tree.specs.StmtTree.{RightTree, right_expr, right_act, act, no_right, a_right}
use Rattle.bds_check_names.specs.Scopes.{is_declared, declare as declare_names}
use Rattle.bds_check_names.specs.Slots.{slots}
use Rattle.bds_check_rules.specs.Declarations.{declared_by_line, names_with}
use Rattle.bds_check_rules.specs.declared.rules.Rule.{Rule}
use Rattle.bds_check_rules.specs.declared.rules.Rule.TheVariants as rule
use Rattle.bds_check_rules.specs.StmtBreaks.{line_breaks, given_rule, twice_rule}
use Rattle.bds_check_typing.specs.WellTypedStmts.{IsWellTypedStmt}
use Rattle.bds_check_typing.specs.Known.{IsLineWritten, IsRightWritten}
use Rattle.bds_gen_flow.proofs.RowEffects.{int-solid, bool-solid}
use Rattle.bds_gen_flow.proofs.ExprParts.{written-type, when-none}
use Rattle.bds_gen_stmt.specs.StmtCode.{behind_line}
use Rattle.bds_gen_stmt.proofs.StmtCounts.{slot_counts}

abbrev pub ArePartsWritten : List PartTree → Type 0
ArePartsWritten [] = ⊤
ArePartsWritten (a_statement s ∷ ps) = IsStmtWritten s × ArePartsWritten ps
ArePartsWritten (_ ∷ ps) = ArePartsWritten ps

-- the functions of `par` blocks at the top level
abbrev pub TopParsThere : CodeUnit → List PartTree → Spot → ℕ → Type 0
TopParsThere u ps sp n = StandAt u (top_functions ps (quiet sp) n) n

pub top-there : (u : CodeUnit) (s : StmtTree) (ps : List PartTree) (sp : Spot) (n : ℕ) → TopParsThere u (a_statement s ∷ ps) sp n
    → ParsThere u s sp n × TopParsThere u ps (behind s sp) (n + pars s)
top-there u s ps sp n h =
    let r = stand-append u (par_functions s (quiet sp) n) (top_functions ps (behind s (quiet sp)) (n + pars s)) n (n + pars s)
    (ap (λ k. n + k) (many s (quiet sp) n)) h in
    (r.0, subst (λ x. StandAt u (top_functions ps x (n + pars s)) (n + pars s)) (behind-loop s sp None) r.1)

-- The globals only grow

declared-globals : (b : Bool) (sp : Spot) (x : List ℕ) (t : Ty) → (further : List Numbered) × ((if b then record sp { scope = with_one_global sp.scope x t (length sp.scope.globals) } else declared_local sp x t).scope.globals ≡ sp.scope.globals ++ further)
declared-globals true sp x t = (numbered x t (length sp.scope.globals) ∷ [], refl)
declared-globals false sp x t = ([], sym (append-nil sp.scope.globals))

behind-globals : (s : StmtTree) (sp : Spot) → (further : List Numbered) × ((behind s sp).scope.globals ≡ sp.scope.globals ++ further)
behind-globals (stmt at (line (declare t x r))) sp = declared-globals sp.at_top sp x t
behind-globals (stmt at (line (infer x r))) sp = declared-globals sp.at_top sp x (right_type r)
behind-globals (stmt at (line l)) sp = ([], sym (append-nil sp.scope.globals))
behind-globals (stmt at f) sp = ([], sym (append-nil sp.scope.globals))

pub parts-globals : (ps : List PartTree) (sp : Spot) → (further : List Numbered) × ((behind_parts ps sp).scope.globals ≡ sp.scope.globals ++ further)
parts-globals [] sp = ([], sym (append-nil sp.scope.globals))
parts-globals (a_statement s ∷ ps) sp =
    let a = behind-globals s sp in
    let b = parts-globals ps (behind s sp) in
    (a.0 ++ b.0, b.1 ∙ ap (λ x. x ++ b.0) a.1 ∙ append_assoc sp.scope.globals a.0 b.0)
parts-globals (a_function f ∷ ps) sp = parts-globals ps sp
parts-globals (an_include i ∷ ps) sp = parts-globals ps sp

pub front-globals : (u : CodeUnit) (vs ws : List Numbered) → AreGlobals u (vs ++ ws) → AreGlobals u vs
front-globals u [] ws h = tt
front-globals u (v ∷ vs) ws h = (h.0, front-globals u vs ws h.1)

last-global : (u : CodeUnit) (vs : List Numbered) (v : Numbered) → AreGlobals u (vs ++ v ∷ []) → slice_get u.globals v.number ≡ Some v.variable.ty
last-global u [] v h = h.0
last-global u (x ∷ vs) v h = last-global u vs v h.1

declared-there : (u : CodeUnit) (b : Bool) (sp : Spot) (x : List ℕ) (t : Ty) → AreGlobals u (if b then record sp { scope = with_one_global sp.scope x t (length sp.scope.globals) } else declared_local sp x t).scope.globals → b ≡ true → slice_get u.globals (length sp.scope.globals) ≡ Some t
declared-there u true sp x t h e = last-global u sp.scope.globals (numbered x t (length sp.scope.globals)) h
declared-there u false sp x t h e = absurd (cc)

-- Values that words give

items-slots : (at : At) (vs : List Value) → slot_count (items_code at vs) ≡ 0
items-slots at [] = refl
items-slots at (v ∷ vs) = items-slots at vs

value-slots : (at : At) (w : Value-F Value) → slot_count (value_code_at at w) ≡ 0
value-slots at (Value-F.List t vs) = no_slots (items_code at vs) (one at (MakeList t (length vs))) (items-slots at vs) refl
value-slots at (Value-F.Bool b) = refl
value-slots at (Value-F.Int n) = refl
value-slots at (Value-F.Text t) = refl
value-slots at (Value-F.Map t ps) = refl

-- Slots at the top

-- a value that is set takes the slot of its line, which is none at the top
set-next : (at : At) (w : Value-F Value) (sp : Spot) (x : List ℕ) (t : Ty) → sp.next + slot_count (value_code_at at w ++ store_new sp at t) ≡ (declared sp x t).next
set-next at w sp x t =
    let a = slot_counts (value_code_at at w) (store_new sp at t) in
    let b = value-slots at w in
    let c = stored-slots sp.at_top (length sp.scope.globals) sp.next at t in
    let d = declared-next sp.at_top sp x t in
    omega (arith, a, b, c, d)

line-next : (o : Option Value) (ss : Settings) (l : LineTree) (at : At) (sp : Spot) (n p : ℕ) → set_for ss l ≡ o → sp.next + slot_count (line_or_value_code o l at sp n p) ≡ (behind (stmt at (line l)) sp).next
line-next None ss l at sp n p e = sym (line-slots l at sp n p)
line-next (Some v) ss (declare t x r) at sp n p e = set-next at (out-Value v) sp x t
line-next (Some v) ss (infer x r) at sp n p e = set-next at (out-Value v) sp x (right_type r)
line-next (Some v) ss _ at sp n p e = absurd (search (rules, e))

pub next-top : (ss : Settings) (s : StmtTree) (sp : Spot) (n p : ℕ) → sp.next + slot_count (top_stmt_code ss s sp n p) ≡ (behind s sp).next
next-top ss (stmt at (line l)) sp n p = line-next (set_for ss l) ss l at sp n p refl
next-top ss (stmt at (when c a no_stmt)) sp n p = ap (λ k. sp.next + k) (form-stmt-slots (when c a no_stmt) at (inner sp) n p refl)
next-top ss (stmt at (when c a (a_stmt b))) sp n p = ap (λ k. sp.next + k) (form-stmt-slots (when c a (a_stmt b)) at (inner sp) n p refl)
next-top ss (stmt at f) sp n p = ap (λ k. sp.next + k) (form-stmt-slots f at (inner sp) n p refl)

pub is-new : (names : Names) (x : List ℕ) (others : Option Rule) → twice_rule names top x others ≡ None → is_declared names top x ≡ false
is-new names x others q = (when-none (is_declared names top x) rule.TwiceDeclared others q).0

right-solid : (r : RightTree) → IsRightWritten r → is_solid (right_type r) ≡ true
right-solid (right_expr e) k = written-type e k
right-solid (right_act (act at f)) k = k.0

module _ (u : CodeUnit) (F : Function) where
  -- the names behind a line at the top, where a declaration makes a global
  declared-top : (names : Names) (sp : Spot) (x : List ℕ) (t : Ty) → Matches u F names top sp → sp.at_top ≡ true → is_declared names top x ≡ false → slice_get u.globals (length sp.scope.globals) ≡ Some t → is_solid t ≡ true
      → Matches u F (declare_names names top x t) top (declared sp x t)
  declared-top names sp x t m high d g w = declare-matches u F sp.at_top true names top sp x t m refl refl high d (λ e. g) (λ e. absurd (cc)) w

  line-behind : (l : LineTree) (names : Names) (sp : Spot) (m : Matches u F names top sp) → sp.at_top ≡ true → AreGlobals u (behind_line l sp).scope.globals → line_breaks names top l ≡ None → IsLineWritten l → Matches u F (names_with names top (declared_by_line l)) top (behind_line l sp)
  line-behind (declare t x no_right) names sp m high g b k = declared-top names sp x t m high (is-new names x None b) (declared-there u sp.at_top sp x t g high) k.0
  line-behind (declare t x (a_right r)) names sp m high g b k = declared-top names sp x t m high (is-new names x (given_rule t (Some (right_type r))) b) (declared-there u sp.at_top sp x t g high) k.0
  line-behind (infer x r) names sp m high g b k = declared-top names sp x (right_type r) m high (is-new names x None b) (declared-there u sp.at_top sp x (right_type r) g high) (right-solid r k)
  line-behind _ names sp m high g b k = m

  pub top-behind : (s : StmtTree) (names : Names) (sp : Spot) (m : Matches u F names top sp) → sp.at_top ≡ true → AreGlobals u (behind s sp).scope.globals → IsWellTypedStmt s names top → IsStmtWritten s → Matches u F (names_behind s names top) top (behind s sp)
  top-behind (stmt at (line l)) names sp m high g w k = line-behind l names sp m high g w.1 k
  top-behind (stmt at f) names sp m high g w k = slots-matches u F names top sp (slots (stmt at f)) m

  -- the names behind all parts
  pub parts-behind : (ps : List PartTree) (sp : Spot) (names all : Names) (before : List Head) → Matches u F names top sp → AreGlobals u (behind_parts ps sp).scope.globals
      → AreWellTypedParts ps all before names → ArePartsWritten ps → Matches u F (names_behind_parts ps names) top (behind_parts ps sp)
  parts-behind [] sp names all before m g w k = m
  parts-behind (a_function f ∷ ps) sp names all before m g w k = parts-behind ps sp names all (with_head before (a_function f)) m g w.1 k
  parts-behind (an_include i ∷ ps) sp names all before m g w k = parts-behind ps sp names all (with_head before (an_include i)) m g w.1 k
  parts-behind (a_statement x ∷ ps) sp names all before m g w k =
      let grown = parts-globals ps (behind x sp) in
      let g1 : AreGlobals u (behind x sp).scope.globals = front-globals u (behind x sp).scope.globals grown.0 (subst (AreGlobals u) grown.1 g) in
      parts-behind ps (behind x sp) (names_behind x names top) all (with_head before (a_statement x)) (top-behind x names sp m m.top g1 w.0 k.0) g w.1 k.1

module _ (u : CodeUnit) (F : Function) (Labels : ℕ → List Ty → Type 0) (Ticks : ℕ → Type 0) where
  abbrev Runs_top : List Mark → ℕ → ℕ → Type 0
  Runs_top ms p q = Runs u F Labels Ticks ms p q [] []

  text-push : (w : Value-F Value) (at : At) (ms : List Mark) (p q : ℕ) (s t : List Ty) → IsTextAt w → Runs u F Labels Ticks ms (p + 1) q (ty.Text ∷ s) t → Runs u F Labels Ticks (does (push_at w) at ∷ ms) p q s t
  text-push (Value-F.Text x) at ms p q s t h r = runs_does u F Labels Ticks (PushText x) at ms p q s (ty.Text ∷ s) t refl refl (given-is ty.Text s text-solid) r
  text-push (Value-F.Bool b) at ms p q s t h r = absurd h
  text-push (Value-F.Int n) at ms p q s t h r = absurd h
  text-push (Value-F.List x vs) at ms p q s t h r = absurd h
  text-push (Value-F.Map x ps) at ms p q s t h r = absurd h

  more-texts : (n : ℕ) (s : List Ty) → replicate n ty.Text ++ (ty.Text ∷ s) ≡ replicate (suc n) ty.Text ++ s
  more-texts n s = again n ty.Text s ∙ (let e : n + 1 ≡ suc n = omega arith in ap (λ k. replicate k ty.Text ++ s) e)

  items-run : (at : At) (vs : List Value) (p : ℕ) (s : List Ty) → AllByRecursion (λ v. IsTextAt (out-Value v)) vs → Runs u F Labels Ticks (items_code at vs) p (p + length vs) s (replicate (length vs) ty.Text ++ s)
  items-run at [] p s h = runs_to u F Labels Ticks [] p p (p + 0) s s (omega arith) (runs_none u F Labels Ticks p s)
  items-run at (v ∷ vs) p s h =
      let n : ℕ = length vs in
      text-push (out-Value v) at (items_code at vs) p (p + suc n) s (replicate (suc n) ty.Text ++ s) h.0
      (subst (λ x. Runs u F Labels Ticks (items_code at vs) (p + 1) (p + suc n) (ty.Text ∷ s) x) (more-texts n s)
      (runs_to u F Labels Ticks (items_code at vs) (p + 1) (p + 1 + n) (p + suc n) (ty.Text ∷ s) (replicate n ty.Text ++ (ty.Text ∷ s)) (omega arith) (items-run at vs (p + 1) (ty.Text ∷ s) h.1)))

  make-texts : (n : ℕ) → row u F (MakeList ty.Text n) (replicate n ty.Text ++ []) ≡ Ok (ty.List ty.Text ∷ [])
  make-texts n = ap (λ r. r >>= giving (ty.List ty.Text)) (all-taken (replicate n ty.Text) [] (solid-again n ty.Text text-solid)) ∙ given-is (ty.List ty.Text) [] (list-solid ty.Text)

  pushed : (i : Instr) (at : At) (p : ℕ) (t w : Ty) → t ≡ w → target i ≡ None → goes_on i ≡ true → row u F i [] ≡ Ok (w ∷ []) → Runs u F Labels Ticks (one at i) p (p + 1) [] (t ∷ [])
  pushed i at p t w e j g r = subst (λ x. Runs u F Labels Ticks (one at i) p (p + 1) [] (x ∷ [])) (sym e) (runs_one u F Labels Ticks i at p (p + 1) [] (w ∷ []) refl j g r)

  -- a value that words give
  value-run : (at : At) (w : Value-F Value) (t : Ty) (p : ℕ) → IsGivenAt w t → Runs u F Labels Ticks (value_code_at at w) p (p + made_at w) [] (t ∷ [])
  value-run at (Value-F.Bool b) t p h = pushed (PushBool b) at p t ty.Bool h refl refl (given-is ty.Bool [] bool-solid)
  value-run at (Value-F.Int n) t p h = pushed (PushInt n) at p t ty.Int h refl refl (given-is ty.Int [] int-solid)
  value-run at (Value-F.Text x) t p h = pushed (PushText x) at p t ty.Text h.0 refl refl (given-is ty.Text [] text-solid)
  value-run at (Value-F.List y vs) t p h =
      let n : ℕ = length vs in
      let make : row u F (MakeList y n) (replicate n ty.Text ++ []) ≡ Ok (t ∷ []) = ap (λ z. row u F (MakeList z n) (replicate n ty.Text ++ [])) h.1 ∙ make-texts n ∙ ap (λ z. Ok (z ∷ [])) (sym h.0) in
      runs_then u F Labels Ticks (items_code at vs) (one at (MakeList y n)) p (p + n) (p + (n + 1)) [] (replicate n ty.Text ++ []) (t ∷ []) (items-run at vs p [] h.2)
      (runs_one u F Labels Ticks (MakeList y n) at (p + n) (p + (n + 1)) (replicate n ty.Text ++ []) (t ∷ []) (omega arith) refl refl make)
  value-run at (Value-F.Map y ps) t p h = absurd h

  given-solid : (w : Value-F Value) (t : Ty) → IsGivenAt w t → is_void t ≡ false
  given-solid (Value-F.Bool b) t h = ap is_void h ∙ bool-solid
  given-solid (Value-F.Int n) t h = ap is_void h ∙ int-solid
  given-solid (Value-F.Text x) t h = ap is_void h.0 ∙ text-solid
  given-solid (Value-F.List y vs) t h = ap is_void h.0 ∙ list-solid ty.Text
  given-solid (Value-F.Map y ps) t h = absurd h

  set-run : (v : Value) (t : Ty) (at : At) (sp : Spot) (p : ℕ) → IsGivenAt (out-Value v) t → sp.at_top ≡ true → slice_get u.globals (length sp.scope.globals) ≡ Some t → Runs_top (value_code at v ++ store_new sp at t) p (p + (made_at (out-Value v) + 1))
  set-run v t at sp p h high g =
      let n : ℕ = made_at (out-Value v) in
      runs_then u F Labels Ticks (value_code at v) (store_new sp at t) p (p + n) (p + (n + 1)) [] (t ∷ []) [] (value-run at (out-Value v) t p h)
      (store-run u F Labels Ticks sp.at_top (length sp.scope.globals) sp.next at t (p + n) (p + (n + 1)) (omega arith) (given-solid (out-Value v) t h) (λ e. g) (λ e. absurd (cc)))

  new-line : (l : LineTree) (at : At) (names : Names) (sp : Spot) (m : Matches u F names top sp) → AreGlobals u (behind (stmt at (line l)) sp).scope.globals → NewIn u F Labels Ticks names top sp m (stmt at (line l))
  new-line (declare t x r) at names sp m h = declared-there u sp.at_top sp x t h
  new-line (infer x r) at names sp m h = declared-there u sp.at_top sp x (right_type r) h
  new-line _ at names sp m h = tt

  new-stmt : (s : StmtTree) (names : Names) (sp : Spot) (m : Matches u F names top sp) → AreGlobals u (behind s sp).scope.globals → NewIn u F Labels Ticks names top sp m s
  new-stmt (stmt at (line l)) names sp m h = new-line l at names sp m h
  new-stmt (stmt at _) names sp m h = tt

  whole-run : (s : StmtTree) (names : Names) (sp : Spot) (n p : ℕ) (m : Matches u F names top sp) → IsProperStmt (length u.files) s → Slots F (stmt_code s sp n p) sp.next → AreGlobals u (behind s sp).scope.globals → IsWellTypedStmt s names top → IsStmtWritten s → ParsThere u s sp n
      → Runs_top (stmt_code s sp n p) p (p + stmt_size s (known sp.scope))
  whole-run s names sp n p m h s1 g w k ps = stmt-run u F Labels Ticks s sp names top n p m h s1 (new-stmt s names sp m g) w k ps (record { breaks = λ i. absurd (cc); loop = λ i. absurd (cc) })

  line-run-top : (o : Option Value) (ss : Settings) (l : LineTree) (at : At) (names : Names) (sp : Spot) (n p : ℕ) (m : Matches u F names top sp) → set_for ss l ≡ o → IsGivenFor o (declared_type l) → IsProperStmt (length u.files) (stmt at (line l)) → Slots F (line_or_value_code o l at sp n p) sp.next
      → AreGlobals u (behind (stmt at (line l)) sp).scope.globals → IsWellTypedStmt (stmt at (line l)) names top → IsStmtWritten (stmt at (line l)) → ParsThere u (stmt at (line l)) sp n
      → Runs_top (line_or_value_code o l at sp n p) p (p + line_or_value_size o l (known sp.scope))
  line-run-top None ss l at names sp n p m e f h s1 g w k ps = whole-run (stmt at (line l)) names sp n p m h s1 g w k ps
  line-run-top (Some v) ss (declare t x r) at names sp n p m e f h s1 g w k ps = set-run v t at sp p f m.top (declared-there u sp.at_top sp x t g m.top)
  line-run-top (Some v) ss (infer x r) at names sp n p m e f h s1 g w k ps = set-run v (right_type r) at sp p f m.top (declared-there u sp.at_top sp x (right_type r) g m.top)
  line-run-top (Some v) ss _ at names sp n p m e f h s1 g w k ps = absurd (search (rules, e))

  top-run : (ss : Settings) (s : StmtTree) (names : Names) (sp : Spot) (n p : ℕ) (m : Matches u F names top sp) → IsPartSet ss (a_statement s) → IsProperStmt (length u.files) s → Slots F (top_stmt_code ss s sp n p) sp.next → AreGlobals u (behind s sp).scope.globals → IsWellTypedStmt s names top → IsStmtWritten s → ParsThere u s sp n
      → Runs_top (top_stmt_code ss s sp n p) p (p + top_size ss s (known sp.scope))
  top-run ss (stmt at (line l)) names sp n p m f h s1 g w k ps = line-run-top (set_for ss l) ss l at names sp n p m refl f h s1 g w k ps
  top-run ss (stmt at f) names sp n p m g h s1 a w k ps = whole-run (stmt at f) names sp n p m h s1 a w k ps

  pub parts-run : (ss : Settings) (ps : List PartTree) (sp : Spot) (names all : Names) (before : List Head) (n p : ℕ) → Matches u F names top sp → FitGlobals ss ps → AllByRecursion (IsProperPart (length u.files)) ps → Slots F (top_code ss ps sp n p) sp.next → AreGlobals u (behind_parts ps sp).scope.globals
      → AreWellTypedParts ps all before names → ArePartsWritten ps → TopParsThere u ps sp n → (q : ℕ) × Runs_top (top_code ss ps sp n p) p q
  parts-run ss [] sp names all before n p m f h s g w k tp = (p, runs_none u F Labels Ticks p [])
  parts-run ss (a_function x ∷ ps) sp names all before n p m f h s g w k tp = parts-run ss ps sp names all (with_head before (a_function x)) n p m f.1 h.1 s g w.1 k tp
  parts-run ss (an_include i ∷ ps) sp names all before n p m f h s g w k tp = parts-run ss ps sp names all (with_head before (an_include i)) n p m f.1 h.1 s g w.1 k tp
  parts-run ss (a_statement x ∷ ps) sp names all before n p m f h s g w k tp =
      let q : ℕ = p + top_size ss x (known sp.scope) in
      let sp2 : Spot = behind x sp in
      let grown = parts-globals ps sp2 in
      let g1 : AreGlobals u sp2.scope.globals = front-globals u sp2.scope.globals grown.0 (subst (AreGlobals u) grown.1 g) in
      let s1 = slots_append F (top_stmt_code ss x sp n p) (top_code ss ps sp2 (n + pars x) q) sp.next sp2.next (next-top ss x sp n p) s in
      let stand = top-there u x ps sp n tp in
      let first = top-run ss x names sp n p m f.0 h.0 s1.0 g1 w.0 k.0 stand.0 in
      let rest = parts-run ss ps sp2 (names_behind x names top) all (with_head before (a_statement x)) (n + pars x) q (top-behind u F x names sp m m.top g1 w.0 k.0) f.1 h.1 s1.1 g w.1 k.1 stand.1 in
      (rest.0, runs_then u F Labels Ticks (top_stmt_code ss x sp n p) (top_code ss ps sp2 (n + pars x) q) p q rest.0 [] [] [] first rest.1)

  texts-run : (at : At) (ts : List (List ℕ)) (p : ℕ) (s : List Ty) → Runs u F Labels Ticks (texts_code at ts) p (p + length ts) s (replicate (length ts) ty.Text ++ s)
  texts-run at [] p s = runs_to u F Labels Ticks [] p p (p + 0) s s (omega arith) (runs_none u F Labels Ticks p s)
  texts-run at (t ∷ ts) p s =
      let n : ℕ = length ts in
      let order : replicate n ty.Text ++ (ty.Text ∷ s) ≡ replicate (suc n) ty.Text ++ s = more-texts n s in
      let rest : Runs u F Labels Ticks (texts_code at ts) (p + 1) (p + suc n) (ty.Text ∷ s) (replicate (suc n) ty.Text ++ s) =
      subst (λ x. Runs u F Labels Ticks (texts_code at ts) (p + 1) (p + suc n) (ty.Text ∷ s) x) order
      (runs_to u F Labels Ticks (texts_code at ts) (p + 1) (p + 1 + n) (p + suc n) (ty.Text ∷ s) (replicate n ty.Text ++ (ty.Text ∷ s)) (omega arith) (texts-run at ts (p + 1) (ty.Text ∷ s))) in
      runs_does u F Labels Ticks (PushText t) at (texts_code at ts) p (p + suc n) s (ty.Text ∷ s) (replicate (suc n) ty.Text ++ s) refl refl (given-is ty.Text s text-solid) rest

  -- `args` gets its list
  args-run : (at : At) (args : List (List ℕ)) → slice_get u.globals 0 ≡ Some (ty.List ty.Text) → Runs_top (args_code at args) 0 (length args + 2)
  args-run at args g =
      let n : ℕ = length args in
      let lt : Ty = ty.List ty.Text in
      let many : List Ty = replicate n ty.Text in
      let make : row u F (MakeList ty.Text n) (many ++ []) ≡ Ok (lt ∷ []) = make-texts n in
      let store : row u F (StoreGlobal 0) (lt ∷ []) ≡ Ok [] = ap (λ o. there o 0 >>= λ w. taken w (lt ∷ [])) g ∙ taken-is lt [] (list-solid ty.Text) in
      let last : List Mark = does (MakeList ty.Text n) at ∷ does (StoreGlobal 0) at ∷ [] in
      runs_then u F Labels Ticks (texts_code at args) last 0 (0 + n) (n + 2) [] (many ++ []) [] (texts-run at args 0 [])
      (runs_does u F Labels Ticks (MakeList ty.Text n) at (one at (StoreGlobal 0)) (0 + n) (n + 2) (many ++ []) (lt ∷ []) [] refl refl make
      (runs_one u F Labels Ticks (StoreGlobal 0) at (0 + n + 1) (n + 2) (lt ∷ []) [] (omega arith) refl refl store))

texts-slots : (at : At) (ts : List (List ℕ)) → slot_count (texts_code at ts) ≡ 0
texts-slots at [] = refl
texts-slots at (t ∷ ts) = texts-slots at ts

pub args-slots : (at : At) (args : List (List ℕ)) → slot_count (args_code at args) ≡ 0
args-slots at args = no_slots (texts_code at args) (does (MakeList ty.Text (length args)) at ∷ does (StoreGlobal 0) at ∷ []) (texts-slots at args) refl

-- The function of the top level

module _ (u : CodeUnit) (ss : Settings) (args : List (List ℕ)) (at : At) (ps : List PartTree) (sp : Spot) (n : ℕ) where
  abbrev body : List Mark
  body = args_code at args ++ (top_code ss ps sp n (length args + 2) ++ ending ty.Void at)

  abbrev F : Function
  F = written (fresh [] [] ty.Void) (eight ++ body)

  void-unknown : is_known ty.Void ≡ false
  void-unknown = ap known_at ty.outs-Void

  pub slots_there : Slots F (top_code ss ps sp n (length args + 2)) 8
  slots_there =
      let all : Slots F (eight ++ body) 0 = own-slots F (eight ++ body) (fresh [] [] ty.Void) 0 refl refl in
      let behind_eight : Slots F body 8 = all.1.1.1.1.1.1.1.1 in
      let none = args-slots at args in
      let behind_args = (slots_append F (args_code at args) (top_code ss ps sp n (length args + 2) ++ ending ty.Void at) 8 8 (omega (arith, none)) behind_eight).1 in
      (slots_append F (top_code ss ps sp n (length args + 2)) (ending ty.Void at) 8 (8 + slot_count (top_code ss ps sp n (length args + 2))) refl behind_args).0

  pub tasks_there : TaskSlots F 0
  tasks_there = task-slots F body 0 (own-slots F (eight ++ body) (fresh [] [] ty.Void) 0 refl refl)

  ending-goes : (Labels : ℕ → List Ty → Type 0) (Ticks : ℕ → Type 0) (b : Bool) (p : ℕ) → is_known ty.Void ≡ b → Goes u F Labels Ticks (if not b then one at Return else does (PushDefault ty.Void) at ∷ does Return at ∷ []) p (Some []) None
  ending-goes Labels Ticks false p e = ([], [], refl, record { effect = returned-none u F Labels Ticks ty.Void (ret-is (eight ++ body) (fresh [] [] ty.Void)) e; jump = λ to k. absurd (cc) }, refl)
  ending-goes Labels Ticks true p e = absurd (search (rules, sym void-unknown ∙ e))

  pub top-verified : (names all : Names) → Matches u F names top sp → sp.next ≡ 8 → slice_get u.globals 0 ≡ Some (ty.List ty.Text) → FitGlobals ss ps → AllByRecursion (IsProperPart (length u.files)) ps → AreGlobals u (behind_parts ps sp).scope.globals → AreWellTypedParts ps all [] names → ArePartsWritten ps → TopParsThere u ps sp n
      → is_whole u F ≡ true → IsVerified u F
  top-verified names all m eight_first args_there f h g w k tp whole = record {
    whole = whole;
    shapes = sealed_anyhow u F (eight ++ body) (fresh [] [] ty.Void) refl refl refl
        (λ L T has.
        let first = args-run u F L T at args args_there in
        let parts = parts-run u F L T ss ps sp names all [] n (length args + 2) m f h (subst (Slots F (top_code ss ps sp n (length args + 2))) (sym eight_first) slots_there) g w k tp in
        let rest : List Mark = top_code ss ps sp n (length args + 2) ++ ending ty.Void at in
        let split = has_append u F L T (args_code at args) rest 0 (length args + 2) first.place has in
        let split2 = has_append u F L T (top_code ss ps sp n (length args + 2)) (ending ty.Void at) (length args + 2) parts.0 parts.1.place split.1 in
        let behind_goes : Goes u F L T rest (length args + 2) (Some []) None =
        goes_append u F L T (top_code ss ps sp n (length args + 2)) (ending ty.Void at) (length args + 2) parts.0 (Some []) (Some []) None parts.1.place (parts.1.goes split2.0) (ending-goes L T (is_known ty.Void) parts.0 refl) in
        goes_append u F L T (args_code at args) rest 0 (length args + 2) (Some []) (Some []) None first.place (first.goes split.0) behind_goes);
  }
