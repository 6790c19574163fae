-- The code of a well-typed statement leaves the list of operands empty.
use Rattle.bds_gen_stmt.proofs.Pars.{ParsThere, CasesParsThere, BlockParsThere, StmtsParsThere, both-there, case-there, stmt-there, stmts-there, head-there}
use Rattle.bds_gen_stmt.proofs.Loops.{quiet}
use Rattle.std.proofs.Common.{◌≡◌, ◌≤◌, ◌+◌, ℕ, suc, List, [], ◌∷◌, ◌++◌, Some, None, Ok, Option, Bool, true, false, not, ◌&&◌, ◌||◌, refl, sym, ◌∙◌, ap, subst, arith, if◌then◌else◌, append_assoc, rules}
use Rattle.std.specs.Prelude.{⊤, length, pos}
use Rattle.bds_value.specs.declared.change_numbers.TheConstants.{ADD}
use Rattle.bds_value.specs.declared.method_numbers.TheConstants.{LIST_SIZE}
use Rattle.bds_value.specs.declared.value.At.{At}
use Rattle.bds_value.specs.declared.value.Ty.{Ty}
use Rattle.bds_value.specs.declared.value.Ty.TheVariants as ty
use Rattle.bds_tree.specs.Tree.{Tree, list, type_of}
use Rattle.bds_tree.specs.StmtTree.{StmtTree, LineTree, BlockTree, StmtTrees, stmt, inner_block, empty, line, when, while, for, each, declare, infer, block, no_stmts, more_stmts, no_stmt, a_stmt, switch, CaseTrees, no_cases, more_cases, a_case}
use Rattle.bds_code.specs.declared.instr.Instr.TheVariants.{Load, Store, Equal, Update, Jump, JumpUnless, Tick, PushInt, Less, Item, Method as CallMethod}
use Rattle.bds_code.specs.declared.unit.Function.{Function}
use Rattle.bds_code.specs.declared.unit.Unit.{Unit as CodeUnit}
use Rattle.bds_value.specs.Types.{is_void}
use Rattle.bds_value.specs.Types.{is_plain, is_ordered, is_ordered_at}
use Rattle.bds_tree.specs.declared.stmt.StepOp.TheVariants as step_op
use Rattle.bds_code.specs.Row.{row, slot_ty}
use Rattle.bds_code.specs.UpdateRows.{added}
use Rattle.bds_check_names.specs.declared.names.Names.{Names}
use Rattle.bds_check_names.specs.declared.names.Site.{Site}
use Rattle.bds_check_names.specs.declared.names.Asked.TheVariants.{Value}
use Rattle.bds_check_rules.specs.declared.rules.Rule.TheVariants as rule
use Rattle.bds_check_names.specs.Types.{differ, lacks, is_known}
use Rattle.bds_value.specs.Types.{list_item, list_item_at}
use Rattle.bds_check_names.specs.Scopes.{inner as inner_site, in_loop as loop_site, in_switch as switch_site, with_local}
use Rattle.bds_check_names.specs.Slots.{slots, stmts_slots}
use Rattle.bds_check_rules.specs.StmtBreaks.{right_type, wrong_rule, any_wrong_case, are_two_defaults}
use Rattle.bds_check_rules.specs.Pieces.{when as broken_when}
use Rattle.bds_check_size.specs.Known.{look, Known, with_known}
use Rattle.bds_check_size.specs.ExprSize.{expr_size}
use Rattle.bds_check_size.specs.StmtSize.{stmt_size, block_size, stmts_size, labels_size, cases_size, case_size, known_behind, known_behind_small, maybe_small_size, condition_size}
use Rattle.bds_check_typing.specs.WellTyped.{IsWellTyped}
use Rattle.bds_check_typing.specs.WellTypedStmts.{AreWellTypedCases, IsWellTypedStmt, IsWellTypedBlock, AreWellTypedStmts, names_behind}
use Rattle.bds_check_typing.specs.WellTypedParts.{names_behind_small}
use Rattle.bds_check_typing.specs.Known.{IsStmtWritten, IsBlockWritten, AreStmtsWritten, AreCasesWritten, IsValueWritten}
use Rattle.bds_check_typing.proofs.Written.{written-known, list-written}
use Rattle.bds_gen_expr.specs.Marks.{Mark, does, label, slot, count, slot_count, one}
use Rattle.bds_gen_expr.specs.Scope.{known, in_slot, with_one_global}
use Rattle.bds_gen_expr.specs.ExprCode.{expr_code}
use Rattle.bds_gen_stmt.specs.Spots.{Spot, again_of, inner, in_loop, in_switch, behind_slots, declared_local}
use Rattle.bds_gen_stmt.specs.StmtCode.{behind, pars, stmts_pars, default_place, labels_code, label_code, cases_code, stmt_code, block_code, stmts_code, condition_code}
use Rattle.bds_gen_stmt.specs.PlaceCode.{small_code, behind_small}
use Rattle.bds_gen_flow.specs.Flow.{Meets, Goes, HasMarks, Runs}
use Rattle.bds_gen_flow.proofs.Flow.{goes_append, has_append, runs_then, runs_to, runs_none, runs_one, runs_does}
use Rattle.bds_gen_flow.proofs.Branches.{forward, unless-row, jump-row, runs_choice, runs_if, runs_loop, runs_behind_label}
use Rattle.bds_gen_flow.proofs.ExprParts.{when-none, or-none, known-type}
use Rattle.bds_gen_flow.proofs.MethodFlow.{list-size}
use Rattle.bds_gen_flow.proofs.ExprFlow.{expr_runs}
use Rattle.bds_gen_flow.proofs.RowEffects.{not_void, int-solid, given-is, same-unless, bool-known, list-solid, take_item-is, compare-is}
use Rattle.bds_gen_expr.proofs.Counts.{expr-count, counts}
use Rattle.bds_gen_stmt.proofs.StmtCounts.{expr-no-slots, behind-known, behind-low}
use Rattle.bds_check_typing.specs.Proper.{IsProperStmt, AreProperCases, IsProperBlock, AreProperStmts}
use Rattle.bds_gen_stmt.proofs.WholeSlots.{labels-slots, case-slots, line-slots, stmt-slots, small-slots, small-low, small-next, condition-slots}
use Rattle.bds_gen_stmt.proofs.WholeCounts.{whole-stmts-count, labels-count, cases-count, whole-stmt-count, small-count, known-small, known-local, condition-count}
use Rattle.bds_gen_stmt.proofs.PlaceFlow.{as-run, step-is, update-is, load-slot, store-slot}
use Rattle.bds_gen_stmt.proofs.Matched.{switch-matches, Slots, slots_append, Matches, fits-of, inner-matches, block-matches, loop-matches, slots-matches, site-matches, local-matches}
use Rattle.bds_gen_stmt.proofs.LineFlow.{LoopAt, NewGlobal, with_slot-runs, head-behind, head-run, test-run, line-behind, line-run}

module _ (u : CodeUnit) (F : Function) (Labels : ℕ → List Ty → Type 0) (Ticks : ℕ → Type 0) where
  abbrev Runs_stmt : List Mark → ℕ → ℕ → Type 0
  Runs_stmt ms p q = Runs u F Labels Ticks ms p q [] []

  abbrev Near : Site → Spot → ℕ → Type 0
  Near = LoopAt u F Labels Ticks

  -- the same loop, for a statement that ends earlier or as early
  nearer : (site site2 : Site) (sp sp2 : Spot) (q r : ℕ) → site2.may_break ≡ site.may_break → site2.in_loop ≡ site.in_loop → sp2.loop ≡ sp.loop → r ≤ q → Near site sp q → Near site2 sp2 r
  nearer site site2 sp sp2 q r eb e el le a = record {
    breaks = λ i. let b = a.breaks (sym eb ∙ i) in (b.0, el ∙ b.1, b.2, (let far = b.3 in omega (arith, far, le)));
    loop = λ i. let b = a.loop (sym e ∙ i) in (b.0, el ∙ b.1, b.2, λ k lt low. b.3 k (omega (arith, lt, le)) low);
  }

  abbrev pub NewIn : (names : Names) (site : Site) (sp : Spot) → Matches u F names site sp → StmtTree → Type 0
  NewIn names site sp m (stmt at (line l)) = NewGlobal u F Labels Ticks names site sp m l
  NewIn names site sp m _ = ⊤

  new-low : (l : LineTree) (names : Names) (site : Site) (sp : Spot) (m : Matches u F names site sp) → sp.at_top ≡ false → NewGlobal u F Labels Ticks names site sp m l
  new-low (declare t x r) names site sp m low = λ e. absurd (cc)
  new-low (infer x r) names site sp m low = λ e. absurd (cc)
  new-low _ names site sp m low = tt

  none-new : (s : StmtTree) (names : Names) (site : Site) (sp : Spot) (m : Matches u F names site sp) → sp.at_top ≡ false → NewIn names site sp m s
  none-new (stmt at (line l)) names site sp m low = new-low l names site sp m low
  none-new (stmt at _) names site sp m low = tt

  -- the names and slots behind a statement
  pub stmt-behind : (s : StmtTree) (sp : Spot) (names : Names) (site : Site) (n p : ℕ) (m : Matches u F names site sp) → Slots F (stmt_code s sp n p) sp.next → NewIn names site sp m s → IsWellTypedStmt s names site → IsStmtWritten s
      → Matches u F (names_behind s names site) site (behind s sp)
  stmt-behind (stmt at (line l)) sp names site n p m s g w k = line-behind u F Labels Ticks names site sp m l at n p s g w.1 k
  stmt-behind (stmt at f) sp names site n p m s g w k = slots-matches u F names site sp (slots (stmt at f)) m

  -- where the slots of the next statement begin
  pub next-is : (s : StmtTree) (sp : Spot) (n p : ℕ) → sp.at_top ≡ false → sp.next + slot_count (stmt_code s sp n p) ≡ (behind s sp).next
  next-is (stmt at (line l)) sp n p low = sym (line-slots l at sp n p)
  next-is (stmt at f) sp n p low = ap (λ k. sp.next + k) (stmt-slots (stmt at f) sp n p low)

  declared-loop : (b : Bool) (sp : Spot) (x : List ℕ) (t : Ty) → (if b then record sp { scope = with_one_global sp.scope x t (length sp.scope.globals) } else declared_local sp x t).loop ≡ sp.loop
  declared-loop true sp x t = refl
  declared-loop false sp x t = refl

  same-loop : (s : StmtTree) (sp : Spot) → (behind s sp).loop ≡ sp.loop
  same-loop (stmt at (line (declare t x r))) sp = declared-loop sp.at_top sp x t
  same-loop (stmt at (line (infer x r))) sp = declared-loop sp.at_top sp x (right_type r)
  same-loop (stmt at (line l)) sp = refl
  same-loop (stmt at f) sp = refl

  condition-run : (names : Names) (site : Site) (sp : Spot) (m : Matches u F names site sp) (c : Tree) (p : ℕ) → IsWellTyped c names Value → IsValueWritten c → wrong_rule ty.Bool (type_of c) ≡ None
      → Runs u F Labels Ticks (expr_code c sp.scope p []) p (p + expr_size (look (known sp.scope)) c) [] (ty.Bool ∷ [])
  condition-run names site sp m c p w k q =
      let same : ty.Bool ≡ type_of c = same-unless ty.Bool (type_of c) bool-known (known-type c k) (when-none (differ ty.Bool (type_of c)) rule.WrongType None q).0 in
      subst (λ t. Runs u F Labels Ticks (expr_code c sp.scope p []) p (p + expr_size (look (known sp.scope)) c) [] (t ∷ [])) (sym same) (expr_runs u F Labels Ticks sp.scope names (fits-of u F names site sp m) c Value p [] refl w k)

  -- the labels of the cases and of the end, where their code stands at a place
  abbrev CaseLabels : CaseTrees → Known → ℕ → Type 0
  CaseLabels no_cases k p = Labels p []
  CaseLabels (more_cases c cs) k p = Labels p [] × CaseLabels cs k (p + case_size c k)

  case-labels : (cs : CaseTrees) (sp : Spot) (n p : ℕ) → sp.at_top ≡ false → HasMarks u F Labels Ticks (cases_code cs sp n p ++ (label [] ∷ [])) p → CaseLabels cs (known sp.scope) p
  case-labels no_cases sp n p low h = h.0
  case-labels (more_cases (a_case place l ss) cs) sp n p low h =
      let next : ℕ = p + stmts_size ss (known sp.scope) in
      let ms : List Mark = stmts_code ss sp n p in
      let rest : List Mark = cases_code cs (behind_slots sp (stmts_slots ss)) (n + stmts_pars ss) next in
      let hs = has_append u F Labels Ticks ms (rest ++ (label [] ∷ [])) p next (ap (λ z. p + z) (whole-stmts-count ss sp n p low)) (subst (λ l. HasMarks u F Labels Ticks l p) (append_assoc ms rest (label [] ∷ [])) h.1) in
      (h.0, case-labels cs (behind_slots sp (stmts_slots ss)) (n + stmts_pars ss) next low hs.1)

  default-label : (cs : CaseTrees) (k : Known) (p : ℕ) → CaseLabels cs k p → Labels (default_place cs k p) []
  default-label no_cases k p h = h
  default-label (more_cases (a_case place None ss) cs) k p h = h.0
  default-label (more_cases (a_case place (Some e) ss) cs) k p h = default-label cs k (p + stmts_size ss k) h.1

  default-far : (cs : CaseTrees) (k : Known) (p : ℕ) → p ≤ default_place cs k p
  default-far no_cases k p = omega arith
  default-far (more_cases (a_case place None ss) cs) k p = omega arith
  default-far (more_cases (a_case place (Some e) ss) cs) k p = let more = default-far cs k (p + stmts_size ss k) in omega (arith, more)

  labels-end : (cs : CaseTrees) (k : Known) (p : ℕ) → CaseLabels cs k p → Labels (p + cases_size cs k) []
  labels-end no_cases k p h = let same : p ≡ p + 0 = omega arith in subst (λ z. Labels z []) same h
  labels-end (more_cases c cs) k p h = let same : p + case_size c k + cases_size cs k ≡ p + (case_size c k + cases_size cs k) = omega arith in subst (λ z. Labels z []) same (labels-end cs k (p + case_size c k) h.1)

  -- behind a comparison: to the case, or to the next label
  jumps-run : (at : At) (p next case : ℕ) → p + 1 + 1 ≡ next → next ≤ case → Labels case [] → Runs u F Labels Ticks (does (JumpUnless next) at ∷ does (Jump case) at ∷ label [] ∷ []) p next (ty.Bool ∷ []) []
  jumps-run at p next case e le lc = record {
    place = omega (arith, e);
    goes = λ h.
        let same : suc (suc p) ≡ next = omega (arith, e) in (
          ty.Bool ∷ [],
          [],
          refl,
          forward u F Labels Ticks (JumpUnless next) p next (ty.Bool ∷ []) [] (unless-row u F Labels Ticks next []) refl (subst (λ z. Labels z []) same h.1.1.0) (omega (arith, e)),
          ([], [], refl, forward u F Labels Ticks (Jump case) (suc p) case [] [] (jump-row u F Labels Ticks case []) refl lc (omega (arith, e, le)), (tt, refl)),
        );
  }

  not-lacking : (k h : Bool) → k ≡ true → (k && not h) ≡ false → h ≡ true
  not-lacking k true p q = refl
  not-lacking true false p q = absurd (search (rules, q))
  not-lacking false false p q = absurd (search (rules, p))

  -- the tests of labels
  labels-run : (cs : CaseTrees) (at : At) (sp : Spot) (names : Names) (site : Site) (m : Matches u F names site sp) (t : Ty) (p case : ℕ) → slot_ty F sp.next ≡ Some t → is_void t ≡ false → is_plain t ≡ true → is_known t ≡ true → any_wrong_case t cs ≡ false
      → AreWellTypedCases cs names site → AreCasesWritten cs → CaseLabels cs (known sp.scope) case → p + labels_size (look (known sp.scope)) cs ≤ case → Runs_stmt (labels_code cs at sp.scope sp.next p case) p (p + labels_size (look (known sp.scope)) cs)
  labels-run no_cases at sp names site m t p case s v plain kt wrong w k cl le = runs_to u F Labels Ticks [] p p (p + 0) [] [] (omega arith) (runs_none u F Labels Ticks p [])
  labels-run (more_cases (a_case place None ss) cs) at sp names site m t p case s v plain kt wrong w k cl le =
      let same : p + 0 ≡ p = omega arith in
      let n : ℕ = labels_size (look (known sp.scope)) cs in
      let rest = labels-run cs at sp names site m t (p + 0) (case + stmts_size ss (known sp.scope)) s v plain kt wrong w.1 k.1 cl.1 (omega (arith, le)) in
      runs_to u F Labels Ticks (labels_code cs at sp.scope sp.next (p + 0) (case + stmts_size ss (known sp.scope))) p (p + 0 + n) (p + (0 + n)) [] [] (omega arith) (subst (λ z. Runs_stmt (labels_code cs at sp.scope sp.next (p + 0) (case + stmts_size ss (known sp.scope))) z (p + 0 + n)) same rest)
  labels-run (more_cases (a_case place (Some e) ss) cs) at sp names site m t p case s v plain kt wrong w k cl le =
      let size : ℕ = expr_size (look (known sp.scope)) e in
      let q : ℕ = p + size in
      let next : ℕ = p + (size + 4) in
      let n : ℕ = labels_size (look (known sp.scope)) cs in
      let behind : ℕ = case + stmts_size ss (known sp.scope) in
      let both = or-none (differ t (type_of e)) (any_wrong_case t cs) wrong in
      let same : t ≡ type_of e = same-unless t (type_of e) kt (known-type e k.0.0) both.0 in
      let jumps : List Mark = does (JumpUnless next) at ∷ does (Jump case) at ∷ label [] ∷ [] in
      let tests : List Mark = does (Load sp.next) at ∷ does Equal at ∷ jumps in
      let compared : Runs u F Labels Ticks tests q next (t ∷ []) [] =
      load-slot u F Labels Ticks names site sp m sp.next t at (does Equal at ∷ jumps) q next (t ∷ []) [] s v
      (runs_does u F Labels Ticks Equal at jumps (q + 1) next (t ∷ t ∷ []) (ty.Bool ∷ []) [] refl refl (compare-is is_plain t [] v plain) (jumps-run at (q + 1 + 1) next case (omega arith) (omega (arith, le)) cl.0)) in
      let first : Runs_stmt (label_code (a_case place (Some e) ss) at sp.scope sp.next p case) p next =
      runs_then u F Labels Ticks (expr_code e sp.scope p []) tests p q next [] (t ∷ []) [] (as-run u F Labels Ticks names site sp m e t p [] same w.0.0 k.0.0) compared in
      let rest = labels-run cs at sp names site m t next behind s v plain kt both.1 w.1 k.1 cl.1 (omega (arith, le)) in
      runs_then u F Labels Ticks (label_code (a_case place (Some e) ss) at sp.scope sp.next p case) (labels_code cs at sp.scope sp.next next behind) p next (p + (size + 4 + n)) [] [] [] first (runs_to u F Labels Ticks (labels_code cs at sp.scope sp.next next behind) next (next + n) (p + (size + 4 + n)) [] [] (omega arith) rest)

  mutual
    pub stmt-run : (s : StmtTree) (sp : Spot) (names : Names) (site : Site) (n p : ℕ) (m : Matches u F names site sp) → IsProperStmt (length u.files) s → Slots F (stmt_code s sp n p) sp.next → NewIn names site sp m s → IsWellTypedStmt s names site → IsStmtWritten s → ParsThere u s sp n
        → Near site sp (p + stmt_size s (known sp.scope)) → Runs_stmt (stmt_code s sp n p) p (p + stmt_size s (known sp.scope))
    stmt-run (stmt at (line l)) sp names site n p m h s g w k ps lp = line-run u F Labels Ticks names site sp m l at n p h.1 s g w.0 w.1 k ps lp
    stmt-run (stmt at (inner_block b)) sp names site n p m h s g w k ps lp =
        block-run b (inner sp) names (inner_site names site) n p (block-matches u F names site sp m) refl h.1 s w.0 k ps (nearer site (inner_site names site) sp (inner sp) (p + block_size b (known sp.scope)) (p + block_size b (known sp.scope)) refl refl refl (omega arith) lp)
    stmt-run (stmt at empty) sp names site n p m h s g w k ps lp = runs_to u F Labels Ticks [] p p (p + 0) [] [] (omega arith) (runs_none u F Labels Ticks p [])
    stmt-run (stmt at (when c a no_stmt)) sp names site n p m h s g w k ps lp =
        let q : ℕ = p + expr_size (look (known sp.scope)) c in
        let right : ℕ = q + 1 in
        let end : ℕ = right + stmt_size a (known sp.scope) in
        let test = condition-run names site sp m c p w.0.0 k.0 w.1 in
        let none : slot_count (expr_code c sp.scope p []) ≡ 0 = expr-no-slots c sp.scope p [] in
        let s1 = slots_append F (expr_code c sp.scope p []) (does (JumpUnless end) at ∷ (stmt_code a (inner sp) n right ++ (label [] ∷ []))) sp.next sp.next (omega (arith, none)) s in
        let s2 = slots_append F (stmt_code a (inner sp) n right) (label [] ∷ []) sp.next (sp.next + slot_count (stmt_code a (inner sp) n right)) refl s1.1 in
        let place : end ≡ p + (expr_size (look (known sp.scope)) c + 1 + stmt_size a (known sp.scope)) = omega arith in
        let within : Runs_stmt (stmt_code a (inner sp) n right) right end =
        stmt-run a (inner sp) names (inner_site names site) n right (block-matches u F names site sp m) h.1.1 s2.0 (none-new a names (inner_site names site) (inner sp) (block-matches u F names site sp m) refl) w.0.1 k.1 ps
        (nearer site (inner_site names site) sp (inner sp) (p + (expr_size (look (known sp.scope)) c + 1 + stmt_size a (known sp.scope))) end refl refl refl (omega (arith, place)) lp) in
        runs_to u F Labels Ticks (stmt_code (stmt at (when c a no_stmt)) sp n p) p end (p + (expr_size (look (known sp.scope)) c + 1 + stmt_size a (known sp.scope))) [] [] place
        (runs_if u F Labels Ticks at (expr_code c sp.scope p []) (stmt_code a (inner sp) n right) p q right end [] (omega arith) test within)
    stmt-run (stmt at (when c a (a_stmt b))) sp names site n p m h s g w k ps lp =
        let q : ℕ = p + expr_size (look (known sp.scope)) c in
        let right : ℕ = q + 1 in
        let r : ℕ = right + stmt_size a (known sp.scope) in
        let other : ℕ = r + 1 in
        let end : ℕ = other + stmt_size b (known sp.scope) in
        let sp2 : Spot = behind_slots (inner sp) (slots a) in
        let ca : List Mark = stmt_code a (inner sp) n right in
        let cb : List Mark = stmt_code b sp2 (n + pars a) other in
        let test = condition-run names site sp m c p w.0.0 k.0 w.1 in
        let none : slot_count (expr_code c sp.scope p []) ≡ 0 = expr-no-slots c sp.scope p [] in
        let some_slots : slot_count ca ≡ slots a = stmt-slots a (inner sp) n right refl in
        let s1 = slots_append F (expr_code c sp.scope p []) (does (JumpUnless other) at ∷ (ca ++ (does (Jump end) at ∷ label [] ∷ (cb ++ (label [] ∷ []))))) sp.next sp.next (omega (arith, none)) s in
        let s2 = slots_append F ca (does (Jump end) at ∷ label [] ∷ (cb ++ (label [] ∷ []))) sp.next (sp.next + slots a) (ap (λ k. sp.next + k) some_slots) s1.1 in
        let s3 = slots_append F cb (label [] ∷ []) (sp.next + slots a) (sp.next + slots a + slot_count cb) refl s2.1 in
        let total : ℕ = p + (expr_size (look (known sp.scope)) c + 1 + stmt_size a (known sp.scope) + 1 + stmt_size b (known sp.scope)) in
        let place : end ≡ total = omega arith in
        let first : Runs_stmt ca right r =
        stmt-run a (inner sp) names (inner_site names site) n right (block-matches u F names site sp m) h.1.1 s2.0 (none-new a names (inner_site names site) (inner sp) (block-matches u F names site sp m) refl) w.0.1 k.1 (both-there u a b (quiet sp) n ps).0
        (nearer site (inner_site names site) sp (inner sp) total r refl refl refl (omega (arith, place)) lp) in
        let second : Runs_stmt cb other end =
        stmt-run b sp2 names (inner_site names site) (n + pars a) other (inner-matches u F names site sp (slots a) m) h.1.2 s3.0 (none-new b names (inner_site names site) sp2 (inner-matches u F names site sp (slots a) m) refl) w.0.2 k.2 (both-there u a b (quiet sp) n ps).1
        (nearer site (inner_site names site) sp sp2 total end refl refl refl (omega (arith, place)) lp) in
        runs_to u F Labels Ticks (stmt_code (stmt at (when c a (a_stmt b))) sp n p) p end total [] [] place
        (runs_choice u F Labels Ticks at (expr_code c sp.scope p []) ca cb p q right r other end [] [] (omega arith) (omega arith) test first second)
    stmt-run (stmt at (while c b)) sp names site n p m h s g w k ps lp =
        let q : ℕ = suc p + expr_size (look (known sp.scope)) c in
        let right : ℕ = p + 1 + expr_size (look (known sp.scope)) c + 1 in
        let r : ℕ = right + stmt_size b (known sp.scope) in
        let end : ℕ = r + 1 in
        let sp2 : Spot = in_loop sp p end in
        let test_code : List Mark = expr_code c sp.scope (p + 1) [] in
        let body : List Mark = stmt_code b sp2 n right in
        let top_is : p + 1 ≡ suc p = omega arith in
        let test : Runs u F Labels Ticks test_code (suc p) q [] (ty.Bool ∷ []) =
        subst (λ k. Runs u F Labels Ticks test_code k (k + expr_size (look (known sp.scope)) c) [] (ty.Bool ∷ [])) top_is (condition-run names site sp m c (p + 1) w.0.0 k.0 w.1) in
        let none : slot_count test_code ≡ 0 = expr-no-slots c sp.scope (p + 1) [] in
        let s1 = slots_append F test_code (does (JumpUnless end) at ∷ (body ++ (does (Jump p) at ∷ label [] ∷ []))) sp.next sp.next (omega (arith, none)) s in
        let s2 = slots_append F body (does (Jump p) at ∷ label [] ∷ []) sp.next (sp.next + slot_count body) refl s1.1 in
        let test_size : count test_code ≡ expr_size (look (known sp.scope)) c = expr-count c sp.scope (p + 1) [] in
        let body_size : count body ≡ stmt_size b (known sp.scope) = whole-stmt-count b sp2 n right in
        let whole_size = whole-stmt-count (stmt at (while c b)) sp n p in
        let total : ℕ = p + (1 + expr_size (look (known sp.scope)) c + 1 + stmt_size b (known sp.scope) + 1) in
        let place : end ≡ total = omega arith in
        runs_to u F Labels Ticks (stmt_code (stmt at (while c b)) sp n p) p end total [] [] place
        (runs_loop u F Labels Ticks at test_code body p q right end [] r (omega arith) (omega arith) test
        (λ top ticks out. stmt-run b sp2 names (loop_site names site) n right (loop-matches u F names site sp p end m) h.1.1 s2.0 (none-new b names (loop_site names site) sp2 (loop-matches u F names site sp p end m) refl) w.0.1 k.1 ps
        (record { breaks = λ i. (record { again = p; end = end }, refl, out, omega arith); loop = λ i. (record { again = p; end = end }, refl, top, λ k lt le. ticks) }))
        (omega (arith, whole_size, place)) (omega (arith, test_size)) (omega (arith, body_size)))
    stmt-run (stmt at (for first c next b)) sp names site n p m h s g w k ps lp =
        let k0 : Known = known sp.scope in
        let k1 : Known = known_behind_small first k0 in
        let head : Spot = behind_small first (inner sp) in
        let top : ℕ = p + maybe_small_size (look k0) first in
        let q : ℕ = suc top + condition_size (look k1) c in
        let right : ℕ = top + 1 + condition_size (look k1) c + 1 in
        let again : ℕ = right + stmt_size b k1 in
        let r : ℕ = again + maybe_small_size (look k1) next in
        let end : ℕ = r + 1 in
        let total : ℕ = p + (maybe_small_size (look k0) first + 1 + condition_size (look k1) c + 1 + stmt_size b k1 + maybe_small_size (look k1) next + 1) in
        let sp3 : Spot = in_loop head again end in
        let sp4 : Spot = behind_slots head (slots b) in
        let same : known head.scope ≡ k1 = known-small first (inner sp) in
        let low : head.at_top ≡ false = small-low first (inner sp) in
        let m1 : List Mark = small_code first (inner sp) p in
        let m2 : List Mark = condition_code c at head.scope (top + 1) in
        let m3 : List Mark = stmt_code b sp3 n right in
        let m4 : List Mark = small_code next sp4 again in
        let r4 : List Mark = does (Jump top) at ∷ label [] ∷ [] in
        let r3 : List Mark = label [] ∷ (m4 ++ r4) in
        let r2 : List Mark = does (JumpUnless end) at ∷ (m3 ++ r3) in
        let r1 : List Mark = label [] ∷ does Tick at ∷ (m2 ++ r2) in
        let body : List Mark = m3 ++ (label [] ∷ m4) in
        let names1 : Names = names_behind_small first names (inner_site names site) in
        let e1 = small-slots first (inner sp) p refl in
        let e2 = small-next first (inner sp) in
        let s1 = slots_append F m1 r1 sp.next head.next (omega (arith, e1, e2)) s in
        let e3 = condition-slots c at head.scope (top + 1) in
        let s2 = slots_append F m2 r2 head.next head.next (omega (arith, e3)) s1.1 in
        let e4 = stmt-slots b sp3 n right refl in
        let s3 = slots_append F m3 r3 head.next (head.next + slots b) (omega (arith, e4)) s2.1 in
        let s4 = slots_append F m4 r4 (head.next + slots b) (head.next + slots b + slot_count m4) refl s3.1 in
        let match0 = block-matches u F names site sp m in
        let match1 : Matches u F names1 (inner_site names site) head = head-behind u F Labels Ticks names (inner_site names site) (inner sp) match0 first p refl s1.0 w.0.0 k.0 in
        let match3 : Matches u F names1 (loop_site names1 site) sp3 = loop-matches u F names1 (inner_site names site) head again end match1 in
        let match4 : Matches u F names1 (inner_site names1 site) sp4 = site-matches u F names1 (inner_site names site) (inner_site names1 site) sp4 (slots-matches u F names1 (inner_site names site) head (slots b) match1) low refl in
        let run1 : Runs_stmt m1 p top = head-run u F Labels Ticks names (inner_site names site) (inner sp) match0 first p refl h.1.0 s1.0 w.0.0 k.0 in
        let t2 = test-run u F Labels Ticks names1 (inner_site names site) head match1 c at (top + 1) w.0.1 k.1 w.1 in
        let top_is : top + 1 ≡ suc top = omega arith in
        let c2 : condition_size (look (known head.scope)) c ≡ condition_size (look k1) c = ap (λ x. condition_size (look x) c) same in
        let run2 : Runs u F Labels Ticks m2 (suc top) q [] (ty.Bool ∷ []) =
        runs_to u F Labels Ticks m2 (suc top) (suc top + condition_size (look (known head.scope)) c) q [] (ty.Bool ∷ []) (omega (arith, c2))
        (subst (λ z. Runs u F Labels Ticks m2 z (z + condition_size (look (known head.scope)) c) [] (ty.Bool ∷ [])) top_is t2) in
        let c3 : stmt_size b (known head.scope) ≡ stmt_size b k1 = ap (stmt_size b) same in
        let c4 : maybe_small_size (look (known head.scope)) next ≡ maybe_small_size (look k1) next = ap (λ x. maybe_small_size (look x) next) same in
        let n2 : count m2 ≡ condition_size (look k1) c = condition-count c at head.scope (top + 1) ∙ c2 in
        let n3 : count m3 ≡ stmt_size b k1 = whole-stmt-count b sp3 n right ∙ c3 in
        let n4 : count m4 ≡ maybe_small_size (look k1) next = small-count next sp4 again ∙ c4 in
        let nb = counts m3 (label [] ∷ m4) in
        let run4 : Runs_stmt m4 again r =
        runs_to u F Labels Ticks m4 again (again + maybe_small_size (look (known head.scope)) next) r [] [] (omega (arith, c4)) (head-run u F Labels Ticks names1 (inner_site names1 site) sp4 match4 next again low h.1.2 s4.0 w.0.2 k.2) in
        let run3 : Labels top [] → Ticks top → Labels end [] → Labels again [] → Runs_stmt m3 right again =
        (λ lt tt_top out la.
        runs_to u F Labels Ticks m3 right (right + stmt_size b (known head.scope)) again [] [] (omega (arith, c3))
        (stmt-run b sp3 names1 (loop_site names1 site) n right match3 h.1.3 s3.0 (none-new b names1 (loop_site names1 site) sp3 match3 refl) w.0.3 k.3 (head-there u first b sp n ps)
        (record { breaks = λ i. (record { again = again; end = end }, refl, out, omega (arith, c3)); loop = λ i. (record { again = again; end = end }, refl, la, λ z lt le. absurd (omega (arith, lt, le, c3))) }))) in
        let cl = counts m2 (does (JumpUnless end) at ∷ (body ++ r4)) in
        let cb = counts body r4 in
        let looped_run : Runs_stmt (label [] ∷ does Tick at ∷ (m2 ++ (does (JumpUnless end) at ∷ (body ++ r4)))) top end =
        runs_loop u F Labels Ticks at m2 body top q right end [] r (omega arith) (omega arith) run2
        (λ lt tk out. runs_behind_label u F Labels Ticks m3 m4 right again r [] (omega (arith, n3)) (run3 lt tk out) run4)
        (omega (arith, cl, cb, nb, n2, n3, n4)) (omega (arith, n2)) (omega (arith, nb, n3, n4)) in
        let order : label [] ∷ does Tick at ∷ (m2 ++ (does (JumpUnless end) at ∷ (body ++ r4))) ≡ r1 =
        ap (λ ms. label [] ∷ does Tick at ∷ (m2 ++ (does (JumpUnless end) at ∷ ms))) (append_assoc m3 (label [] ∷ m4) r4) in
        runs_to u F Labels Ticks (m1 ++ r1) p end total [] [] (omega arith)
        (runs_then u F Labels Ticks m1 r1 p top end [] [] [] run1 (subst (λ ms. Runs_stmt ms top end) order looped_run))
    stmt-run (stmt at (each t x e b)) sp names site n p m h s g w k ps lp =
        let k0 : Known = known sp.scope in
        let list_slot : ℕ = sp.next in
        let count_slot : ℕ = sp.next + 1 in
        let lt : Ty = ty.List t in
        let own : Spot = declared_local (behind_slots (inner sp) 2) x t in
        let first : ℕ = p + expr_size (look k0) e in
        let top : ℕ = first + 3 in
        let q : ℕ = suc top + 4 in
        let right : ℕ = top + 10 in
        let start : ℕ = top + 6 in
        let again : ℕ = right + stmt_size b (known own.scope) in
        let r : ℕ = again + 2 in
        let end : ℕ = again + 3 in
        let total : ℕ = p + (expr_size (look k0) e + 13 + stmt_size b (with_known k0 x t) + 3) in
        let sp3 : Spot = in_loop own again end in
        let names1 : Names = with_local names x t in
        let m3 : List Mark = stmt_code b sp3 n right in
        let last : List Mark = label [] ∷ does (PushInt (pos 1)) at ∷ does (Update false count_slot [] ADD) at ∷ [] in
        let r4 : List Mark = does (Jump top) at ∷ label [] ∷ [] in
        let test : List Mark = does (Load count_slot) at ∷ does (Load list_slot) at ∷ does (CallMethod LIST_SIZE) at ∷ does Less at ∷ [] in
        let bring : List Mark = does (Load list_slot) at ∷ does (Load count_slot) at ∷ does Item at ∷ slot t ∷ does (Store (sp.next + 2)) at ∷ [] in
        let body : List Mark = bring ++ (m3 ++ last) in
        let loop1 : List Mark = label [] ∷ does Tick at ∷ (test ++ (does (JumpUnless end) at ∷ (body ++ r4))) in
        let loop2 : List Mark = label [] ∷ does Tick at ∷ (test ++ (does (JumpUnless end) at ∷ (bring ++ (m3 ++ (last ++ r4))))) in
        let rest : List Mark = slot lt ∷ does (Store list_slot) at ∷ does (PushInt (pos 0)) at ∷ slot ty.Int ∷ does (Store count_slot) at ∷ loop2 in
        let ew = expr-no-slots e sp.scope p [] in
        let s1 = slots_append F (expr_code e sp.scope p []) rest sp.next sp.next (omega (arith, ew)) s in
        let i1 : suc sp.next ≡ sp.next + 1 = omega arith in
        let i2 : suc (suc sp.next) ≡ sp.next + 2 = omega arith in
        let i3 : suc (suc (suc sp.next)) ≡ sp.next + 2 + 1 = omega arith in
        let in_list : slot_ty F list_slot ≡ Some lt = s1.1.0 in
        let in_count : slot_ty F count_slot ≡ Some ty.Int = subst (λ i. slot_ty F i ≡ Some ty.Int) i1 s1.1.1.0 in
        let in_item : slot_ty F (sp.next + 2) ≡ Some t = subst (λ i. slot_ty F i ≡ Some t) i2 s1.1.1.1.0 in
        let s3 : Slots F (m3 ++ (last ++ r4)) (sp.next + 2 + 1) = subst (Slots F (m3 ++ (last ++ r4))) i3 s1.1.1.1.1 in
        let s4 = slots_append F m3 (last ++ r4) (sp.next + 2 + 1) (sp.next + 2 + 1 + slot_count m3) refl s3 in
        let v : is_void t ≡ false = not_void t (written-known t k.0) in
        let lv : is_void lt ≡ false = list-solid t in
        let item_there : list_item lt ≡ Some t = ap list_item_at (ty.outs-List t) in
        let same : lt ≡ type_of e = same-unless lt (type_of e) (written-known lt (list-written t k.0)) (known-type e k.1) (when-none (differ lt (type_of e)) rule.WrongType None w.1).0 in
        let match1 = local-matches u F names (inner_site names site) (behind_slots (inner sp) 2) x t (inner-matches u F names site sp 2 m) in_item k.0 in
        let match3 : Matches u F names1 (loop_site names1 site) sp3 = loop-matches u F names1 (inner_site names site) own again end match1 in
        let n3 : count m3 ≡ stmt_size b (known own.scope) = whole-stmt-count b sp3 n right in
        let known_is : stmt_size b (known own.scope) ≡ stmt_size b (with_known k0 x t) = ap (stmt_size b) (known-local (behind_slots (inner sp) 2) x t) in
        let size_row : row u F (CallMethod LIST_SIZE) (lt ∷ ty.Int ∷ []) ≡ Ok (ty.Int ∷ ty.Int ∷ []) =
        list-size t (ty.Int ∷ []) v in
        let run2 : Runs u F Labels Ticks test (suc top) q [] (ty.Bool ∷ []) =
        load-slot u F Labels Ticks names site sp m count_slot ty.Int at (does (Load list_slot) at ∷ does (CallMethod LIST_SIZE) at ∷ does Less at ∷ []) (suc top) q [] (ty.Bool ∷ []) in_count int-solid
        (load-slot u F Labels Ticks names site sp m list_slot lt at (does (CallMethod LIST_SIZE) at ∷ does Less at ∷ []) (suc top + 1) q (ty.Int ∷ []) (ty.Bool ∷ []) in_list lv
        (runs_does u F Labels Ticks (CallMethod LIST_SIZE) at (one at Less) (suc top + 1 + 1) q (lt ∷ ty.Int ∷ []) (ty.Int ∷ ty.Int ∷ []) (ty.Bool ∷ []) refl refl size_row
        (runs_one u F Labels Ticks Less at (suc top + 1 + 1 + 1) q (ty.Int ∷ ty.Int ∷ []) (ty.Bool ∷ []) (omega arith) refl refl (compare-is is_ordered ty.Int [] int-solid (ap is_ordered_at ty.outs-Int))))) in
        let run4 : Runs_stmt (does (PushInt (pos 1)) at ∷ does (Update false count_slot [] ADD) at ∷ []) again r =
        runs_does u F Labels Ticks (PushInt (pos 1)) at (one at (Update false count_slot [] ADD)) again r [] (ty.Int ∷ []) [] refl refl (given-is ty.Int [] int-solid)
        (runs_one u F Labels Ticks (Update false count_slot [] ADD) at (again + 1) r (ty.Int ∷ []) [] (omega arith) refl refl
        (update-is u F (in_slot count_slot) ty.Int ty.Int [] 1 added (ty.Int ∷ []) [] in_count refl refl (step-is step_op.Increment ty.Int [] refl))) in
        let run3 : Labels top [] → Ticks top → Labels end [] → Labels again [] → Runs_stmt m3 right again =
        (λ l0 tk out la.
        stmt-run b sp3 names1 (loop_site names1 site) n right match3 h.1.3 s4.0 (none-new b names1 (loop_site names1 site) sp3 match3 refl) w.0.1 k.2 ps
        (record { breaks = λ i. (record { again = again; end = end }, refl, out, omega arith); loop = λ i. (record { again = again; end = end }, refl, la, λ z lt le. absurd (omega (arith, lt, le))) })) in
        let bring_run : (ms : List Mark) → Runs_stmt ms right r → Runs_stmt (bring ++ ms) start r =
        (λ ms run.
        let place : start + 1 + 1 + 1 + 1 ≡ right = omega arith in
        load-slot u F Labels Ticks names site sp m list_slot lt at (does (Load count_slot) at ∷ does Item at ∷ slot t ∷ does (Store (sp.next + 2)) at ∷ ms) start r [] [] in_list lv
        (load-slot u F Labels Ticks names site sp m count_slot ty.Int at (does Item at ∷ slot t ∷ does (Store (sp.next + 2)) at ∷ ms) (start + 1) r (lt ∷ []) [] in_count int-solid
        (runs_does u F Labels Ticks Item at (slot t ∷ does (Store (sp.next + 2)) at ∷ ms) (start + 1 + 1) r (ty.Int ∷ lt ∷ []) (t ∷ []) [] refl refl (take_item-is lt t [] lv v item_there)
        (with_slot-runs u F Labels Ticks t (does (Store (sp.next + 2)) at ∷ ms) (start + 1 + 1 + 1) r (t ∷ []) []
        (store-slot u F Labels Ticks names site sp m (sp.next + 2) t at ms (start + 1 + 1 + 1) r [] [] in_item v (subst (λ z. Runs_stmt ms z r) (sym place) run)))))) in
        let nb = counts m3 last in
        let cb = counts m3 (last ++ r4) in
        let order3 : (m3 ++ last) ++ r4 ≡ m3 ++ (last ++ r4) = append_assoc m3 last r4 in
        let nl : count loop1 ≡ count loop2 = ap (λ ms. count (label [] ∷ does Tick at ∷ (test ++ (does (JumpUnless end) at ∷ (bring ++ ms))))) order3 in
        let looped_run : Runs_stmt loop1 top end =
        runs_loop u F Labels Ticks at test body top q start end [] r (omega arith) (omega arith) run2
        (λ l0 tk out. bring_run (m3 ++ last) (runs_behind_label u F Labels Ticks m3 (does (PushInt (pos 1)) at ∷ does (Update false count_slot [] ADD) at ∷ []) right again r [] (omega (arith, n3)) (run3 l0 tk out) run4))
        (omega (arith, nl, cb, n3)) (omega arith) (omega (arith, nb, n3)) in
        let order : loop1 ≡ loop2 = ap (λ ms. label [] ∷ does Tick at ∷ (test ++ (does (JumpUnless end) at ∷ (bring ++ ms)))) order3 in
        let loop_run : Runs_stmt loop2 top end = subst (λ ms. Runs_stmt ms top end) order looped_run in
        let place : first + 1 + 1 + 1 ≡ top = omega arith in
        let rest_run : Runs u F Labels Ticks rest first end (lt ∷ []) [] =
        with_slot-runs u F Labels Ticks lt (does (Store list_slot) at ∷ does (PushInt (pos 0)) at ∷ slot ty.Int ∷ does (Store count_slot) at ∷ loop2) first end (lt ∷ []) []
        (store-slot u F Labels Ticks names site sp m list_slot lt at (does (PushInt (pos 0)) at ∷ slot ty.Int ∷ does (Store count_slot) at ∷ loop2) first end [] [] in_list lv
        (runs_does u F Labels Ticks (PushInt (pos 0)) at (slot ty.Int ∷ does (Store count_slot) at ∷ loop2) (first + 1) end [] (ty.Int ∷ []) [] refl refl (given-is ty.Int [] int-solid)
        (with_slot-runs u F Labels Ticks ty.Int (does (Store count_slot) at ∷ loop2) (first + 1 + 1) end (ty.Int ∷ []) []
        (store-slot u F Labels Ticks names site sp m count_slot ty.Int at loop2 (first + 1 + 1) end [] [] in_count int-solid (subst (λ z. Runs_stmt loop2 z end) (sym place) loop_run))))) in
        runs_to u F Labels Ticks (expr_code e sp.scope p [] ++ rest) p end total [] [] (omega (arith, known_is))
        (runs_then u F Labels Ticks (expr_code e sp.scope p []) rest p first end [] (lt ∷ []) [] (as-run u F Labels Ticks names site sp m e lt p [] same w.0.0 k.1) rest_run)
    stmt-run (stmt at (switch e cs)) sp names site n p m h s g w k ps lp =
        let k0 : Known = known sp.scope in
        let t : Ty = type_of e in
        let q : ℕ = p + expr_size (look k0) e in
        let tests : ℕ = q + 1 in
        let r : ℕ = tests + labels_size (look k0) cs in
        let cases : ℕ = r + 1 in
        let end : ℕ = cases + cases_size cs k0 in
        let total : ℕ = p + (expr_size (look k0) e + 2 + labels_size (look k0) cs + cases_size cs k0) in
        let other : ℕ = default_place cs k0 cases in
        let sb : Spot = in_switch sp end in
        let ml : List Mark = labels_code cs at sp.scope sp.next tests cases in
        let mc : List Mark = cases_code cs sb n cases in
        let rest : List Mark = does (Jump other) at ∷ (mc ++ (label [] ∷ [])) in
        let ew = expr-no-slots e sp.scope p [] in
        let s1 = slots_append F (expr_code e sp.scope p []) (slot t ∷ does (Store sp.next) at ∷ (ml ++ rest)) sp.next sp.next (omega (arith, ew)) s in
        let lw = labels-slots cs at sp tests cases in
        let s2 = slots_append F ml rest (suc sp.next) (sp.next + 1) (omega (arith, lw)) s1.1.1 in
        let s3 = slots_append F mc (label [] ∷ []) (sp.next + 1) (sp.next + 1 + slot_count mc) refl s2.1 in
        let v : is_void t ≡ false = not_void t (known-type e k.0) in
        let rules_kept = (when-none (lacks t (is_plain t) || any_wrong_case t cs) rule.WrongType (broken_when (are_two_defaults cs) rule.TwoDefaults None) w.1).0 in
        let both = or-none (lacks t (is_plain t)) (any_wrong_case t cs) rules_kept in
        let plain : is_plain t ≡ true = not-lacking (is_known t) (is_plain t) (known-type e k.0) both.0 in
        let place : end ≡ total = omega arith in
        let ml_size : count ml ≡ labels_size (look k0) cs = labels-count cs at sp tests cases in
        let ml_place : tests + count ml ≡ r = ap (λ z. tests + z) ml_size in
        let mc_size : count mc ≡ cases_size cs k0 = cases-count cs sb n cases refl in
        let far : cases ≤ other = default-far cs k0 cases in
        let behind_store : Runs_stmt (ml ++ rest) (q + 1) end = record {
          place = let c1 = counts ml rest in let c2 = counts mc (label [] ∷ []) in omega (arith, c1, c2, ml_size, mc_size);
          goes = λ has.
              let hs = has_append u F Labels Ticks ml rest tests r ml_place has in
              let next_is : suc r ≡ cases = omega arith in
              let at_cases : HasMarks u F Labels Ticks (mc ++ (label [] ∷ [])) cases = subst (HasMarks u F Labels Ticks (mc ++ (label [] ∷ []))) next_is hs.1.1 in
              let cl = case-labels cs sb n cases refl at_cases in
              let near : Near (switch_site names site) sb end = record {
                breaks = λ i. (record { again = again_of sp.loop; end = end }, refl, labels-end cs k0 cases cl, omega arith);
                loop = λ i.
                    let b = lp.loop i in
                    let same : again_of sp.loop ≡ b.0.again = ap again_of b.1 in
                    (record { again = again_of sp.loop; end = end }, refl, subst (λ z. Labels z []) (sym same) b.2, λ z lt low. subst Ticks (sym same) (b.3 z (omega (arith, lt, place)) (omega (arith, low, same))));
              } in
              let go_cases = cases-goes cs sb names site n cases None (switch-matches u F names site sp end m) refl h.1.1 s3.0 w.0.1 k.1 ps near tt at_cases in
              goes_append u F Labels Ticks ml rest tests r (Some []) (Some []) (Some []) ml_place ((labels-run cs at sp names site m t tests cases s1.1.0 v plain (known-type e k.0) both.1 w.0.1 k.1 cl (omega arith)).goes hs.0)
              ([], [], refl, forward u F Labels Ticks (Jump other) r other [] [] (jump-row u F Labels Ticks other []) refl (default-label cs k0 cases cl) (omega (arith, far)), subst (λ z. Goes u F Labels Ticks (mc ++ (label [] ∷ [])) z None (Some [])) (sym next_is) go_cases);
        } in
        runs_to u F Labels Ticks (stmt_code (stmt at (switch e cs)) sp n p) p end total [] [] place
        (runs_then u F Labels Ticks (expr_code e sp.scope p []) (slot t ∷ does (Store sp.next) at ∷ (ml ++ rest)) p q end [] (t ∷ []) [] (as-run u F Labels Ticks names site sp m e t p [] refl w.0.0 k.0)
        (with_slot-runs u F Labels Ticks t (does (Store sp.next) at ∷ (ml ++ rest)) q end (t ∷ []) [] (store-slot u F Labels Ticks names site sp m sp.next t at (ml ++ rest) q end [] [] s1.1.0 v behind_store)))

    -- the statements of cases, whether or not the code before them goes on
    cases-goes : (cs : CaseTrees) (sp : Spot) (names : Names) (site : Site) (n p : ℕ) (come : Option (List Ty)) → Matches u F names (switch_site names site) sp → sp.at_top ≡ false → AreProperCases (length u.files) cs → Slots F (cases_code cs sp n p) sp.next → AreWellTypedCases cs names site → AreCasesWritten cs → CasesParsThere u cs sp n
        → Near (switch_site names site) sp (p + cases_size cs (known sp.scope)) → Meets come [] → HasMarks u F Labels Ticks (cases_code cs sp n p ++ (label [] ∷ [])) p → Goes u F Labels Ticks (cases_code cs sp n p ++ (label [] ∷ [])) p come (Some [])
    cases-goes no_cases sp names site n p come m low h s w k ps lp meets has = (meets, refl)
    cases-goes (more_cases (a_case place l ss) cs) sp names site n p come m low h s w k ps lp meets has =
        let size : ℕ = stmts_size ss (known sp.scope) in
        let next : ℕ = p + size in
        let sb : Spot = behind_slots sp (stmts_slots ss) in
        let ms : List Mark = stmts_code ss sp n p in
        let rest : List Mark = cases_code cs sb (n + stmts_pars ss) next in
        let order : (ms ++ rest) ++ (label [] ∷ []) ≡ ms ++ (rest ++ (label [] ∷ [])) = append_assoc ms rest (label [] ∷ []) in
        let e1 = case-slots (a_case place l ss) sp n p low in
        let s1 = slots_append F ms rest sp.next (sp.next + stmts_slots ss) (ap (λ z. sp.next + z) e1) s in
        let ends : p + count ms ≡ next = ap (λ z. p + z) (whole-stmts-count ss sp n p low) in
        let hs = has_append u F Labels Ticks ms (rest ++ (label [] ∷ [])) p next ends (subst (λ l. HasMarks u F Labels Ticks l p) order has.1) in
        let run = stmts-run ss sp names (switch_site names site) n p m low h.0.2 s1.0 w.0.1 k.0.1 (case-there u (a_case place l ss) cs (quiet sp) n ps).0 (nearer (switch_site names site) (switch_site names site) sp sp (p + (size + cases_size cs (known sp.scope))) next refl refl refl (omega arith) lp) in
        let behind = cases-goes cs sb names site (n + stmts_pars ss) next (Some []) (slots-matches u F names (switch_site names site) sp (stmts_slots ss) m) low h.1 s1.1 w.1 k.1 (case-there u (a_case place l ss) cs (quiet sp) n ps).1
        (nearer (switch_site names site) (switch_site names site) sp sb (p + (size + cases_size cs (known sp.scope))) (next + cases_size cs (known sp.scope)) refl refl refl (omega arith) lp) refl hs.1 in
        (meets, subst (λ l. Goes u F Labels Ticks l p (Some []) (Some [])) (sym order) (goes_append u F Labels Ticks ms (rest ++ (label [] ∷ [])) p next (Some []) (Some []) (Some []) ends (run.goes hs.0) behind))

    pub block-run : (b : BlockTree) (sp : Spot) (names : Names) (site : Site) (n p : ℕ) → Matches u F names site sp → sp.at_top ≡ false → IsProperBlock (length u.files) b → Slots F (block_code b sp n p) sp.next → IsWellTypedBlock b names site → IsBlockWritten b → BlockParsThere u b sp n
        → Near site sp (p + block_size b (known sp.scope)) → Runs_stmt (block_code b sp n p) p (p + block_size b (known sp.scope))
    block-run (block at ss) sp names site n p m low h s w k ps lp = stmts-run ss sp names site n p m low h.1 s w k ps lp

    stmts-run : (ss : StmtTrees) (sp : Spot) (names : Names) (site : Site) (n p : ℕ) → Matches u F names site sp → sp.at_top ≡ false → AreProperStmts (length u.files) ss → Slots F (stmts_code ss sp n p) sp.next → AreWellTypedStmts ss names site → AreStmtsWritten ss → StmtsParsThere u ss sp n
        → Near site sp (p + stmts_size ss (known sp.scope)) → Runs_stmt (stmts_code ss sp n p) p (p + stmts_size ss (known sp.scope))
    stmts-run no_stmts sp names site n p m low h s w k ps lp = runs_to u F Labels Ticks [] p p (p + 0) [] [] (omega arith) (runs_none u F Labels Ticks p [])
    stmts-run (more_stmts x xs) sp names site n p m low h s w k ps lp =
        let q : ℕ = p + stmt_size x (known sp.scope) in
        let sp2 : Spot = behind x sp in
        let total : ℕ = p + (stmt_size x (known sp.scope) + stmts_size xs (known_behind x (known sp.scope))) in
        let s1 = slots_append F (stmt_code x sp n p) (stmts_code xs sp2 (n + pars x) q) sp.next sp2.next (next-is x sp n p low) s in
        let new : NewIn names site sp m x = none-new x names site sp m low in
        let m2 : Matches u F (names_behind x names site) site sp2 = stmt-behind x sp names site n p m s1.0 new w.0 k.0 in
        let first : Runs_stmt (stmt_code x sp n p) p q = stmt-run x sp names site n p m h.0 s1.0 new w.0 k.0 (stmt-there u x xs (quiet sp) n ps).0 (nearer site site sp sp total q refl refl refl (omega arith) lp) in
        let known_is = behind-known x sp low in
        let place : q + stmts_size xs (known sp2.scope) ≡ total = ap (λ y. q + stmts_size xs y) known_is ∙ (let e : q + stmts_size xs (known_behind x (known sp.scope)) ≡ total = omega arith in e) in
        let rest : Runs_stmt (stmts_code xs sp2 (n + pars x) q) q (q + stmts_size xs (known sp2.scope)) =
        stmts-run xs sp2 (names_behind x names site) site (n + pars x) q m2 (behind-low x sp low) h.1 s1.1 w.1 k.1 (stmts-there u x xs sp n ps) (nearer site site sp sp2 total (q + stmts_size xs (known sp2.scope)) refl refl (same-loop x sp) (omega (arith, place)) lp) in
        runs_then u F Labels Ticks (stmt_code x sp n p) (stmts_code xs sp2 (n + pars x) q) p q total [] [] [] first
        (runs_to u F Labels Ticks (stmts_code xs sp2 (n + pars x) q) q (q + stmts_size xs (known sp2.scope)) total [] [] place rest)
