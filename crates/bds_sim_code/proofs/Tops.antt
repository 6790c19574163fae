-- The code of the statements of the top level begins their terms.
use Rattle.std.proofs.Common.{◌≡◌, ◌≤◌, ℕ, ◌+◌, Bool, true, false, List, [], ◌∷◌, ◌++◌, length, Option, Some, None, refl, sym, ap, ◌∙◌, subst, arith, append_assoc, if◌then◌else◌}
use Rattle.std.specs.Prelude.{⊤}
use Rattle.std.specs.Str.{bytes_eq}
use Rattle.bds_value.specs.declared.TheConstants.{MAX_ITEMS}
use Rattle.bds_value.specs.declared.change_numbers.TheConstants.{ASSIGN}
use Rattle.bds_value.specs.declared.value.At.{At}
use Rattle.bds_value.specs.declared.value.Ty.{Ty}
use Rattle.bds_value.specs.declared.value.Value.{Value}
use Rattle.bds_value.specs.Value.{default_of}
use Rattle.bds_tree.specs.StmtTree.{StmtTree, LineTree, RightTree, ActFormTree, PartTree, stmt, line, when, declare, infer, assign, update, println, return, wait, checkpoint, act_line, right_expr, right_act, act, sys, task, dep, goal, par_call, par_block, no_stmt, a_stmt, no_right, a_right, a_function, an_include, a_statement}
use Rattle.bds_code.specs.declared.instr.Instr.TheVariants as instr
use Rattle.bds_code.specs.declared.unit.Unit.{Unit as CodeUnit}
use Rattle.bds_check_names.specs.declared.names.Names.{Names as Checked}
use Rattle.bds_check_names.specs.declared.names.Variable.{Variable}
use Rattle.bds_check_names.specs.Scopes.{variable, any_named, top, inner as inner_site}
use Rattle.bds_check_rules.specs.StmtBreaks.{right_type}
use Rattle.bds_check_size.specs.ScriptSize.{Settings, declared_type, later, set_value, items_in, value_size, line_or_value_size, top_size}
use Rattle.bds_check_size.specs.StmtSize.{suffixes_size, line_size, right_size}
use Rattle.bds_gen_expr.specs.Marks.{Mark, does, label, slot, count, one as one_mark}
use Rattle.bds_gen_expr.specs.declared.scope.Numbered.{Numbered as Variables}
use Rattle.bds_gen_expr.specs.Scope.{known, types_in}
use Rattle.bds_gen_expr.proofs.Counts.{counts}
use Rattle.bds_check_typing.specs.GivenValues.{IsGivenFor, IsPartSet, FitGlobals, AreShortLists}
use Rattle.bds_gen_stmt.specs.PlaceCode.{suffixes_code, steps_below, changes_place, kinds_of, change_number}
use Rattle.bds_gen_stmt.specs.Spots.{Spot, inner, store_new}
use Rattle.bds_gen_stmt.specs.StmtCode.{behind as spot_behind, pars, line_code, right_code, act_form_code, dropped_act_code}
use Rattle.bds_gen_stmt.specs.UnitCode.{line_or_value_code, top_stmt_code, top_code}
use Rattle.bds_gen_stmt.proofs.ParSizes.{top-count}
use Rattle.bds_gen_stmt.proofs.Pars.{ParsThere, RightParsThere, right-inside, line-inside}
use Rattle.bds_gen_stmt.proofs.TopFlow.{TopParsThere, top-there}
use Rattle.bds_gen_stmt.proofs.WholeCounts.{right-count}
use Rattle.bds_meaning.specs.Opening.{behind_parts, parts_term}
use Rattle.bds_meaning.specs.OpeningStatements.{behind, unless_set, stmt_term, stmt_form_term, line_term, right_term}
use Rattle.bds_meaning.specs.Term.{Term, Constant, Declare}
use Rattle.bds_meaning.specs.Variables.{Bindings, global}
use Rattle.bds_sim_terms.specs.steps.Stands.{Source, position_of, Is, Comes}
use Rattle.bds_sim_code.specs.ScriptHere.{TopStmtHere, TopsHere}
use Rattle.bds_sim_code.specs.StmtHere.{RightHere, RightParsHere, no_leaps}
use Rattle.bds_sim_code.proofs.Agree.{names_in}
use Rattle.bds_sim_code.proofs.Blocks.{Part, comes_here, constant_begins, nothing_begins}
use Rattle.bds_sim_code.proofs.Given.{given_is, given_begins}
use Rattle.bds_sim_code.proofs.Lines.{line_begins, right_begins}
use Rattle.bds_sim_code.proofs.Marked.{Has, has_both}
use Rattle.bds_sim_code.proofs.StmtBlocks.{Done, Run, done_run, then_begins, global_begins}
use Rattle.bds_sim_code.proofs.Stmts.{form_begins, line_begun, right_begun}
use Rattle.bds_sim_code.proofs.TopNames.{AtTop, in_order_length, names_append, position_end, top_behind, top_around, grows_parts}

-- The code of what stands on the right is the same in a block

act_inside : (f : ActFormTree) (at : At) (sp : Spot) (n p : ℕ) (s : List Ty) → act_form_code f at sp n p s ≡ act_form_code f at (inner sp) n p s
act_inside (sys ps) at sp n p s = refl
act_inside (task os b) at sp n p s = refl
act_inside (dep os b) at sp n p s = refl
act_inside (goal e) at sp n p s = refl
act_inside (par_call f es) at sp n p s = refl
act_inside (par_block b) at sp n p s = refl

right_inside : (r : RightTree) (sp : Spot) (n p : ℕ) (s : List Ty) → right_code r sp n p s ≡ right_code r (inner sp) n p s
right_inside (right_expr e) sp n p s = refl
right_inside (right_act (act at f)) sp n p s = act_inside f at sp n p s

abbrev IsPlain : LineTree → Type 0
IsPlain (declare t x r) = ⊥
IsPlain (infer x r) = ⊥
IsPlain _ = ⊤

line_inside : (l : LineTree) (at : At) (sp : Spot) (n p : ℕ) → IsPlain l → line_code l at sp n p ≡ line_code l at (inner sp) n p
line_inside (declare t x r) at sp n p plain = absurd plain
line_inside (infer x r) at sp n p plain = absurd plain
line_inside (assign q r) at sp n p plain =
    ap (λ (ms : List Mark). suffixes_code q.suffixes sp.scope p [] ++ (ms ++ changes_place sp.scope at q.name (kinds_of q) ASSIGN)) (right_inside r sp n (p + suffixes_size (types_in sp.scope) q.suffixes) (steps_below (kinds_of q) []))
line_inside (update q op r) at sp n p plain =
    ap (λ (ms : List Mark). suffixes_code q.suffixes sp.scope p [] ++ (ms ++ changes_place sp.scope at q.name (kinds_of q) (change_number op))) (right_inside r sp n (p + suffixes_size (types_in sp.scope) q.suffixes) (steps_below (kinds_of q) []))
line_inside (return no_right) at sp n p plain = refl
line_inside (return (a_right r)) at sp n p plain = ap (λ (ms : List Mark). ms ++ (does instr.Return at ∷ label [] ∷ [])) (right_inside r sp n p [])
line_inside (act_line (act place f)) at sp n p plain = ap (λ (ms : List Mark). ms ++ dropped_act_code (act place f) at) (act_inside f place sp n p [])
line_inside (println None) at sp n p plain = refl
line_inside (println (Some e)) at sp n p plain = refl
line_inside (wait None) at sp n p plain = refl
line_inside (wait (Some e)) at sp n p plain = refl
line_inside (checkpoint None) at sp n p plain = refl
line_inside (checkpoint (Some e)) at sp n p plain = refl
line_inside l at sp n p plain = refl

term_inside : (settings : Bindings) (names : Checked) (l : LineTree) (at : At) → IsPlain l → line_term settings names (inner_site names top) at l ≡ line_term settings names top at l
term_inside settings names (declare t x r) at plain = absurd plain
term_inside settings names (infer x r) at plain = absurd plain
term_inside settings names l at plain = refl

-- A value that is set

abbrev IsShortList : Option Value → Type 0
IsShortList None = ⊤
IsShortList (Some v) = items_in v ≤ MAX_ITEMS

short_later : (p q : Option Value) → IsShortList p → IsShortList q → IsShortList (later p q)
short_later None q h k = k
short_later (Some v) q h k = h

short_if : (b : Bool) (v : Value) → items_in v ≤ MAX_ITEMS → IsShortList (if b then Some v else None)
short_if true v h = h
short_if false v h = tt

short_value : (ss : Settings) (x : List ℕ) → AreShortLists ss → IsShortList (set_value ss x)
short_value [] x h = tt
short_value (s ∷ ss) x h = short_later (set_value ss x) (if bytes_eq s.0 x then Some s.1 else None) (short_value ss x h.1) (short_if (bytes_eq s.0 x) s.1 h.0)

-- a new name stands behind those of before
new_numbers : (globals : List (List ℕ)) (gs : List Variable) (v : Variable) (more : List (List ℕ)) (there : Bool) → there ≡ false → globals ≡ names_in (if there then gs else gs ++ v ∷ []) ++ more → globals ≡ names_in gs ++ v.name ∷ more
new_numbers globals gs v more true e f = absurd (cc)
new_numbers globals gs v more false e f = f ∙ ap (λ (l : List (List ℕ)). l ++ more) (names_append gs (v ∷ [])) ∙ append_assoc (names_in gs) (v.name ∷ []) more

module _ (o : Source) (u : CodeUnit) (settings : Settings) where
  abbrev H : List Mark → ℕ → Type 0
  H ms pc = Has o u 0 ms pc

  abbrev C : ℕ → ℕ → Type 0
  C pc to = Comes o u 0 pc to

  abbrev P : Term → ℕ → ℕ → Type 0
  P t pc exit = Part o u 0 [] [] t pc exit 1

  abbrev D : Term → ℕ → ℕ → Type 0
  D t pc to = Done o u 0 [] None [] t pc [] to

  stored_global : (b : Bool) (at : At) (t : Ty) (g i pc n : ℕ) → b ≡ true → g ≡ n → H (if b then one_mark at (instr.StoreGlobal g) else slot t ∷ does (instr.Store i) at ∷ []) pc → Is o u 0 pc (instr.StoreGlobal n)
  stored_global true at t g i pc n e f h = subst (λ k. Is o u 0 pc (instr.StoreGlobal k)) f h.0.is
  stored_global false at t g i pc n e f h = absurd (cc)

  -- a declaration whose right side is this code of this term, unless a value is set
  declares : (g : Option Value) (l : LineTree) (x : List ℕ) (t : Ty) (right : Term) (rc : List Mark) (k : ℕ) (at : At) (sp : Spot) (n pc to : ℕ) → line_code l at sp n pc ≡ rc ++ store_new sp at t → line_size l (known sp.scope) ≡ k + 1 → sp.at_top ≡ true
      → length sp.scope.globals ≡ position_of o.globals x → IsGivenFor g (declared_type l) → IsShortList g → (H rc pc → P right pc (pc + k)) → count rc ≡ k → H (line_or_value_code g l at sp n pc) pc → C (pc + line_or_value_size g l (known sp.scope)) to
      → Run o u 0 [] None [] (Declare global x (unless_set g right)) pc [] to
  declares None l x t right rc k at sp n pc to code size high position given few begins many h c =
      let r = has_both o u 0 rc (store_new sp at t) pc (subst (λ ms. H ms pc) code h) in
      let e : pc + line_size l (known sp.scope) ≡ pc + k + 1 = omega (arith, size) in
      global_begins o u 0 [] None [] x right pc (pc + k) to (begins r.0) (stored_global sp.at_top at t (length sp.scope.globals) sp.next (pc + k) (position_of o.globals x) high position (subst (λ j. H (store_new sp at t) (pc + j)) many r.1)) (subst (λ j. C j to) e c)
  declares (Some v) l x t right rc k at sp n pc to code size high position given few begins many h c =
      let m : ℕ = value_size v in
      let r = given_is o u 0 v (declared_type l) at (store_new sp at (declared_type l)) pc given few h in
      let e : pc + (m + 1) ≡ pc + m + 1 = omega arith in
      global_begins o u 0 [] None [] x (Constant v) pc (pc + m) to (given_begins o u 0 [] [] v pc (pc + m) (pc + m) r.0 (comes_here o u 0 (pc + m)))
      (stored_global sp.at_top at (declared_type l) (length sp.scope.globals) sp.next (pc + m) (position_of o.globals x) high position r.1) (subst (λ j. C j to) e c)

  -- the number of a new global
  new_position : (names : Checked) (sp : Spot) (x : List ℕ) (t : Ty) (more : List (List ℕ)) → AtTop o u names sp → any_named x names.globals ≡ false → o.globals ≡ names_in (if any_named x names.globals then names.globals else names.globals ++ variable x t ∷ []) ++ more
      → length sp.scope.globals ≡ position_of o.globals x
  new_position names sp x t more here new numbers =
      ap (λ (g : List Variables). length g) here.ordered ∙ in_order_length names.globals 0 ∙ sym (position_end x names.globals more new)
      ∙ ap (λ (l : List (List ℕ)). position_of l x) (sym (new_numbers o.globals names.globals (variable x t) more (any_named x names.globals) new numbers))

  -- what stands on the right of a declaration, as in a block
  right_part : (r : RightTree) (names : Checked) (sp : Spot) (more : List (List ℕ)) (n pc : ℕ) → AtTop o u names sp → o.globals ≡ names_in names.globals ++ more → RightHere o u names sp.scope r → RightParsHere o u r names sp.scope → RightParsThere u r sp n → H (right_code r sp n pc []) pc → P (right_term settings names r) pc (pc + right_size r (known sp.scope))
  right_part r names sp more n pc here numbers asks pars owned h =
      let around = top_around o u names sp more here numbers in
      right_begins o u 0 [] None settings names (inner sp) no_leaps [] around r n [] pc asks (right_begun o u settings r [] None names (inner sp) no_leaps [] n around pars (right-inside u r sp n owned)) (subst (λ ms. H ms pc) (right_inside r sp n pc []) h)

  pub top_begins : (s : StmtTree) (names : Checked) (sp : Spot) (more : List (List ℕ)) (n pc to : ℕ) → AtTop o u names sp → o.globals ≡ names_in (behind names top s).globals ++ more → TopStmtHere o u s names sp → ParsThere u s sp n → IsPartSet settings (a_statement s) → AreShortLists settings → H (top_stmt_code settings s sp n pc) pc
      → C (pc + top_size settings s (known sp.scope)) to → D (stmt_term settings names top s) pc to
  top_begins (stmt at (line (declare t x no_right))) names sp more n pc to here numbers asks owned fits short h c =
      let l = declare t x no_right in
      done_run o u 0 [] None [] [] (Declare global x (unless_set (set_value settings x) (Constant (default_of t)))) pc to (declares (set_value settings x) l x t (Constant (default_of t)) (one_mark at (instr.PushDefault t)) 1 at sp n pc to refl (omega arith) here.high (new_position names sp x t more here asks numbers) fits (short_value settings x short)
      (λ g. constant_begins o u 0 [] [] None (instr.PushDefault t) (default_of t) at pc (pc + 1) refl g.0 (comes_here o u 0 (pc + 1))) refl h c)
  top_begins (stmt at (line (declare t x (a_right r)))) names sp more n pc to here numbers asks owned fits short h c =
      let l = declare t x (a_right r) in
      let front = new_numbers o.globals names.globals (variable x t) more (any_named x names.globals) asks.0 numbers in
      done_run o u 0 [] None [] [] (Declare global x (unless_set (set_value settings x) (right_term settings names r))) pc to (declares (set_value settings x) l x t (right_term settings names r) (right_code r sp n pc []) (right_size r (known sp.scope)) at sp n pc to refl refl here.high (new_position names sp x t more here asks.0 numbers) fits (short_value settings x short)
      (λ g. right_part r names sp (x ∷ more) n pc here front asks.1 asks.2 owned g) (right-count r sp n pc []) h c)
  top_begins (stmt at (line (infer x r))) names sp more n pc to here numbers asks owned fits short h c =
      let l = infer x r in
      let t = right_type r in
      let front = new_numbers o.globals names.globals (variable x t) more (any_named x names.globals) asks.0 numbers in
      done_run o u 0 [] None [] [] (Declare global x (unless_set (set_value settings x) (right_term settings names r))) pc to (declares (set_value settings x) l x t (right_term settings names r) (right_code r sp n pc []) (right_size r (known sp.scope)) at sp n pc to refl refl here.high (new_position names sp x t more here asks.0 numbers) fits (short_value settings x short)
      (λ g. right_part r names sp (x ∷ more) n pc here front asks.1 asks.2 owned g) (right-count r sp n pc []) h c)
  top_begins (stmt at (line l)) names sp more n pc to here numbers asks owned fits short h c =
      subst (λ t. D t pc to) (term_inside settings names l at tt)
      (line_begins o u 0 [] None settings names (inner sp) no_leaps [] (top_around o u names sp more here numbers) l (inner_site names top) at n pc to asks.0 tt (line_begun o u settings l [] None names (inner sp) no_leaps [] n (top_around o u names sp more here numbers) asks.1 (line-inside u l sp n owned)) (subst (λ ms. H ms pc) (line_inside l at sp n pc tt) h) c)
  top_begins (stmt at (when e a no_stmt)) names sp more n pc to here numbers asks owned fits short h c =
      done_run o u 0 [] None [] [] (stmt_form_term settings names top at (when e a no_stmt)) pc to (form_begins o u settings (when e a no_stmt) at 0 [] None names (inner sp) top no_leaps [] n pc to tt (top_around o u names sp more here numbers) asks tt owned h c)
  top_begins (stmt at (when e a (a_stmt b))) names sp more n pc to here numbers asks owned fits short h c =
      done_run o u 0 [] None [] [] (stmt_form_term settings names top at (when e a (a_stmt b))) pc to (form_begins o u settings (when e a (a_stmt b)) at 0 [] None names (inner sp) top no_leaps [] n pc to tt (top_around o u names sp more here numbers) asks tt owned h c)
  top_begins (stmt at f) names sp more n pc to here numbers asks owned fits short h c =
      done_run o u 0 [] None [] [] (stmt_form_term settings names top at f) pc to (form_begins o u settings f at 0 [] None names (inner sp) top no_leaps [] n pc to tt (top_around o u names sp more here numbers) asks tt owned h c)

  pub parts_begin : (ps : List PartTree) (names : Checked) (sp : Spot) (n pc to : ℕ) → AtTop o u names sp → o.globals ≡ names_in (behind_parts names ps).globals → TopsHere o u ps names sp → TopParsThere u ps sp n → FitGlobals settings ps → AreShortLists settings → H (top_code settings ps sp n pc) pc
      → C (pc + count (top_code settings ps sp n pc)) to → Run o u 0 [] None [] (parts_term settings names ps) pc [] to
  parts_begin [] names sp n pc to here numbers asks owned fits short h c = nothing_begins o u 0 [] [] None pc to (let e : pc + 0 ≡ pc = omega arith in subst (λ j. C j to) e c)
  parts_begin (a_statement s ∷ ps) names sp n pc to here numbers asks owned fits short h c =
      let m = top_size settings s (known sp.scope) in
      let names2 = behind names top s in
      let first_code = top_stmt_code settings s sp n pc in
      let rest_code = top_code settings ps (spot_behind s sp) (n + pars s) (pc + m) in
      let st = top-there u s ps sp n owned in
      let many = top-count settings s sp n pc in
      let both = counts first_code rest_code in
      let r = has_both o u 0 first_code rest_code pc h in
      let grows = grows_parts ps names2 in
      let front = numbers ∙ ap names_in grows.is ∙ names_append names2.globals grows.more in
      let first = top_begins s names sp (names_in grows.more) n pc (pc + m) here front asks.0 st.0 fits.0 short r.0 (comes_here o u 0 (pc + m)) in
      let e : pc + count (first_code ++ rest_code) ≡ pc + m + count rest_code = omega (arith, many, both) in
      let rest = parts_begin ps names2 (spot_behind s sp) (n + pars s) (pc + m) to (top_behind o u s names sp asks.0 here) numbers asks.1 st.1 fits.1 short (subst (λ j. H rest_code (pc + j)) many r.1) (subst (λ j. C j to) e c) in
      then_begins o u 0 [] None [] [] [] (stmt_term settings names top s) (parts_term settings names2 ps) pc (pc + m) to first rest
  parts_begin (a_function f ∷ ps) names sp n pc to here numbers asks owned fits short h c = parts_begin ps names sp n pc to here numbers asks owned fits.1 short h c
  parts_begin (an_include i ∷ ps) names sp n pc to here numbers asks owned fits short h c = parts_begin ps names sp n pc to here numbers asks owned fits.1 short h c
