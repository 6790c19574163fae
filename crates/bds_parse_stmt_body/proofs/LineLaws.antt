-- Acts, right sides and lines that are read are legal and spelled so.
use Rattle.std.proofs.Common.{◌≡◌, ◌≢◌, ℕ, ◌+◌, ◌≤◌, true, false, List, [], ◌∷◌, Option, Some, None, refl, sym, ap, ◌∙◌, subst, arith, ⊎_elim}
use Rattle.bds_value.specs.Options.{◌>>=◌}
use Rattle.bds_tree.specs.declared.token.Word.{Word}
use Rattle.bds_tree.specs.declared.token.Word.TheVariants as w
use Rattle.bds_tree.specs.declared.token.Token.{Token}
use Rattle.bds_tree.specs.Spelling.{Mark, sign}
use Rattle.bds_tree.specs.StmtTree.{LineTree, RightTree, ActTree, BlockTree, declare, infer, assign, update, print, println, error, exit, return, wait, checkpoint, act_line, right_expr, right_act, act, task as task_form, dep, goal, par_call, par_block, to_maybe_right}
use Rattle.bds_tree.specs.StmtShape.{IsLineShaped, IsRightShaped, IsMaybeRightShaped, IsActShaped, IsBlockShaped, over_line, over_right, over_maybe_right, over_act, block_height}
use Rattle.bds_tree.specs.StmtSpelling.{spell_type, spell_name, spell_place, spell_update_op, spell_line, spell_right, spell_maybe_right, spell_start_right, spell_act, spell_block}
use Rattle.bds_parse_expr.specs.Reading.{behind, name_at, members, is_close_round, expression}
use Rattle.bds_parse_expr.proofs.Sound.{bind_ok, some_same, sign_at, chosen, close_round_is, found_all}
use Rattle.bds_parse_stmt_parts.specs.declared.words.Sign.TheVariants as s
use Rattle.bds_parse_stmt_parts.specs.declared.words.LineKind.{LineKind}
use Rattle.bds_parse_stmt_parts.specs.declared.words.LineKind.TheVariants as kind
use Rattle.bds_parse_stmt_parts.specs.Words.{is_sign, sign_ahead, nothing_ahead, line_kind}
use Rattle.bds_parse_stmt_parts.specs.Heads.{HeadTree, declares, infers, assigns, updates, steps, calls}
use Rattle.bds_parse_stmt_parts.specs.Reading.{here, settings, body, task, BlockSub, par_by, act_by_word, act_by, act_ahead, right_by, maybe_right, start_right, line_by_head, line_by_kind, line_by}
use Rattle.bds_parse_stmt_parts.proofs.Fronting.{Spelled, join, cut, nothing, one, begun, first_starts, of_all}
use Rattle.bds_parse_stmt_parts.proofs.SignLaws.{sign_name, behind_sound, expr_sound}
use Rattle.bds_parse_stmt_parts.proofs.HeadLaws.{IsHead, head_sound}
use Rattle.bds_parse_stmt_parts.proofs.SmallLaws.{maybe_sound}
use Rattle.bds_parse_stmt_parts.proofs.ActLaws.{settings_sound, body_sound}

pub record IsBlock (most : ℕ) (b : BlockTree) (ts rest : List Token) : Type 0 where
  pub shaped : IsBlockShaped b
  pub spelled : Spelled (spell_block b) ts rest
  pub low : block_height b + 1 ≤ most

pub record IsAct (most : ℕ) (a : ActTree) (ts rest : List Token) : Type 0 where
  pub shaped : IsActShaped a
  pub spelled : Spelled (spell_act a) ts rest
  pub low : over_act a ≤ most

pub record IsRight (most : ℕ) (r : RightTree) (ts rest : List Token) : Type 0 where
  pub shaped : IsRightShaped r
  pub spelled : Spelled (spell_right r) ts rest
  pub low : over_right r ≤ most

pub record IsLine (most : ℕ) (l : LineTree) (ts rest : List Token) : Type 0 where
  pub shaped : IsLineShaped l
  pub spelled : Spelled (spell_line l) ts rest
  pub low : over_line l ≤ most

abbrev keyword : LineKind → Word
keyword kind.Print = w.Print
keyword kind.Println = w.Println
keyword kind.Error = w.Error
keyword kind.Exit = w.Exit
keyword kind.Break = w.Break
keyword kind.Continue = w.Continue
keyword kind.Return = w.Return
keyword kind.Wait = w.Wait
keyword kind.Checkpoint = w.Checkpoint
keyword kind.Act = w.Par
keyword kind.Head = w.Semicolon

keyword_is : (word : Word) → line_kind word ≢ kind.Act → line_kind word ≢ kind.Head → word ≡ keyword (line_kind word)
keyword_is w.Print a h = refl
keyword_is w.Println a h = refl
keyword_is w.Error a h = refl
keyword_is w.Exit a h = refl
keyword_is w.Break a h = refl
keyword_is w.Continue a h = refl
keyword_is w.Return a h = refl
keyword_is w.Wait a h = refl
keyword_is w.Checkpoint a h = refl
keyword_is (w.Sys ps) a h = absurd (a refl)
keyword_is w.Task a h = absurd (a refl)
keyword_is w.Dep a h = absurd (a refl)
keyword_is w.Goal a h = absurd (a refl)
keyword_is w.Par a h = absurd (a refl)
keyword_is _ a h = absurd (h refl)

word_kind : (word : Word) (k : LineKind) → line_kind word ≡ k → k ≢ kind.Act → k ≢ kind.Head → word ≡ keyword k
word_kind word k e a h = keyword_is word (λ n. a (sym e ∙ n)) (λ n. h (sym e ∙ n)) ∙ ap keyword e

module _ (most : ℕ) (block : BlockSub) (block_sound : (ts : List Token) (x : BlockTree × List Token) → block ts ≡ Some x → IsBlock most x.0 ts x.1) where
  task_sound : (t : Token) (ts : List Token) (x : ActTree × List Token) → t.word ≡ w.Task → task most t.line ts ≡ Some x → IsAct most x.0 (t ∷ ts) x.1
  task_sound t ts x is e =
      let word = one (sign_at w.Task t ts is) in
      ⊎_elim
      (λ (p : (sign_ahead s.OpenRound ts ≡ true) × ((settings most ts >>= λ os. body os.1 >>= λ b. Some (act (here t.line) (task_form (Some os.0) b.0), b.1)) ≡ Some x)).
      let os = bind_ok _ _ _ p.1 in
      let b = bind_ok _ _ _ os.2 in
      let f = settings_sound most ts os.0 os.1 in
      let g = body_sound os.0.1 b.0 b.1 in
      let same : (act (here t.line) (task_form (Some os.0.0) b.0.0), b.0.1) ≡ x = some_same _ _ b.2 in
      subst (λ (y : ActTree × List Token). IsAct most y.0 (t ∷ ts) y.1) same
      (record { shaped = (refl, (f.shaped, g.shaped)); spelled = begun t.line (first_starts t ts) (join word (join f.spelled g.spelled)); low = f.low }))
      (λ (p : (sign_ahead s.OpenRound ts ≡ false) × ((body ts >>= λ b. Some (act (here t.line) (task_form None b.0), b.1)) ≡ Some x)).
      let b = bind_ok _ _ _ p.1 in
      let g = body_sound ts b.0 b.1 in
      let same : (act (here t.line) (task_form None b.0.0), b.0.1) ≡ x = some_same _ _ b.2 in
      subst (λ (y : ActTree × List Token). IsAct most y.0 (t ∷ ts) y.1) same
      (record { shaped = (refl, (tt, g.shaped)); spelled = begun t.line (first_starts t ts) (join word (join (nothing ts) g.spelled)); low = omega arith }))
      (chosen _ _ _ _ e)

  par_sound : (t : Token) (ts : List Token) (x : ActTree × List Token) → t.word ≡ w.Par → par_by most block t.line ts ≡ Some x → IsAct most x.0 (t ∷ ts) x.1
  par_sound t ts x is e =
      let word = one (sign_at w.Par t ts is) in
      ⊎_elim
      (λ (p : (sign_ahead s.OpenBlock ts ≡ true) × ((block ts >>= λ b. Some (act (here t.line) (par_block b.0), b.1)) ≡ Some x)).
      let b = bind_ok _ _ _ p.1 in
      let f = block_sound ts b.0 b.1 in
      let same : (act (here t.line) (par_block b.0.0), b.0.1) ≡ x = some_same _ _ b.2 in
      subst (λ (y : ActTree × List Token). IsAct most y.0 (t ∷ ts) y.1) same
      (record { shaped = (refl, f.shaped); spelled = begun t.line (first_starts t ts) (join word f.spelled); low = f.low }))
      (λ (p : (sign_ahead s.OpenBlock ts ≡ false) × ((name_at ts >>= λ n. behind (is_sign s.OpenRound) n.1 >>= λ a. members is_close_round (expression most) a >>= λ es. Some (act (here t.line) (par_call n.0 es.0), es.1)) ≡ Some x)).
      let n = bind_ok _ _ _ p.1 in
      let a = bind_ok _ _ _ n.2 in
      let es = bind_ok _ _ _ a.2 in
      let f = found_all most w.CloseRound is_close_round close_round_is a.0 es.0.0 es.0.1 es.1 in
      let same : (act (here t.line) (par_call n.0.0 es.0.0), es.0.1) ≡ x = some_same _ _ es.2 in
      subst (λ (y : ActTree × List Token). IsAct most y.0 (t ∷ ts) y.1) same
      (record {
        shaped = (refl, f.0);
        spelled = begun t.line (first_starts t ts) (join word (join (one (sign_name ts n.0 n.1)) (join (one (behind_sound s.OpenRound n.0.1 a.0 a.1)) (of_all es.0.0 w.CloseRound f.1))));
        low = f.2;
      }))
      (chosen _ _ _ _ e)

  act_word_sound : (word : Word) (t : Token) (ts : List Token) (x : ActTree × List Token) → t.word ≡ word → act_by_word most block t.line word ts ≡ Some x → IsAct most x.0 (t ∷ ts) x.1
  act_word_sound (w.Sys ps) t ts x is e =
      subst (λ (y : ActTree × List Token). IsAct most y.0 (t ∷ ts) y.1) (some_same _ _ e)
      (record { shaped = (refl, tt); spelled = begun t.line (first_starts t ts) (one (sign_at (w.Sys ps) t ts is)); low = omega arith })
  act_word_sound w.Task t ts x is e = task_sound t ts x is e
  act_word_sound w.Dep t ts x is e =
      let os = bind_ok _ _ _ e in
      let b = bind_ok _ _ _ os.2 in
      let f = settings_sound most ts os.0 os.1 in
      let g = body_sound os.0.1 b.0 b.1 in
      let same : (act (here t.line) (dep os.0.0 b.0.0), b.0.1) ≡ x = some_same _ _ b.2 in
      subst (λ (y : ActTree × List Token). IsAct most y.0 (t ∷ ts) y.1) same
      (record { shaped = (refl, (f.shaped, g.shaped)); spelled = begun t.line (first_starts t ts) (join (one (sign_at w.Dep t ts is)) (join f.spelled g.spelled)); low = f.low })
  act_word_sound w.Goal t ts x is e =
      let r = bind_ok _ _ _ e in
      let f = expr_sound most ts r.0 r.1 in
      let same : (act (here t.line) (goal r.0.0), r.0.1) ≡ x = some_same _ _ r.2 in
      subst (λ (y : ActTree × List Token). IsAct most y.0 (t ∷ ts) y.1) same
      (record { shaped = (refl, f.shaped); spelled = begun t.line (first_starts t ts) (join (one (sign_at w.Goal t ts is)) f.spelled); low = f.low })
  act_word_sound w.Par t ts x is e = par_sound t ts x is e
  act_word_sound _ t ts x is e = cc

  act_sound : (ts : List Token) (x : ActTree × List Token) → act_by most block ts ≡ Some x → IsAct most x.0 ts x.1
  act_sound [] x e = cc
  act_sound (t ∷ ts) x e = act_word_sound t.word t ts x refl e

  right_sound : (ts : List Token) (x : RightTree × List Token) → right_by most block ts ≡ Some x → IsRight most x.0 ts x.1
  right_sound ts x e =
      ⊎_elim
      (λ (p : (act_ahead ts ≡ true) × ((act_by most block ts >>= λ a. Some (right_act a.0, a.1)) ≡ Some x)).
      let r = bind_ok _ _ _ p.1 in
      let f = act_sound ts r.0 r.1 in
      let same : (right_act r.0.0, r.0.1) ≡ x = some_same _ _ r.2 in
      subst (λ (y : RightTree × List Token). IsRight most y.0 ts y.1) same (record { shaped = f.shaped; spelled = f.spelled; low = f.low }))
      (λ (p : (act_ahead ts ≡ false) × ((expression most 1 ts >>= λ e. Some (right_expr e.0, e.1)) ≡ Some x)).
      let r = bind_ok _ _ _ p.1 in
      let f = expr_sound most ts r.0 r.1 in
      let same : (right_expr r.0.0, r.0.1) ≡ x = some_same _ _ r.2 in
      subst (λ (y : RightTree × List Token). IsRight most y.0 ts y.1) same (record { shaped = f.shaped; spelled = f.spelled; low = f.low }))
      (chosen _ _ _ _ e)

  record IsMaybeRight (spell : List Mark) (r : Option RightTree) (ts rest : List Token) : Type 0 where
    shaped : IsMaybeRightShaped (to_maybe_right r)
    spelled : Spelled spell ts rest
    low : over_maybe_right (to_maybe_right r) ≤ most

  maybe_right_sound : (ts : List Token) (x : Option RightTree × List Token) → maybe_right (right_by most block) ts ≡ Some x → IsMaybeRight (spell_maybe_right (to_maybe_right x.0)) x.0 ts x.1
  maybe_right_sound ts x e =
      ⊎_elim
      (λ (p : (nothing_ahead ts ≡ true) × (Some (None, ts) ≡ Some x)).
      subst (λ (y : Option RightTree × List Token). IsMaybeRight (spell_maybe_right (to_maybe_right y.0)) y.0 ts y.1) (some_same _ _ p.1) (record { shaped = tt; spelled = nothing ts; low = omega arith }))
      (λ (p : (nothing_ahead ts ≡ false) × ((right_by most block ts >>= λ r. Some (Some r.0, r.1)) ≡ Some x)).
      let r = bind_ok _ _ _ p.1 in
      let f = right_sound ts r.0 r.1 in
      let same : (Some r.0.0, r.0.1) ≡ x = some_same _ _ r.2 in
      subst (λ (y : Option RightTree × List Token). IsMaybeRight (spell_maybe_right (to_maybe_right y.0)) y.0 ts y.1) same (record { shaped = f.shaped; spelled = f.spelled; low = f.low }))
      (chosen _ _ _ _ e)

  start_right_sound : (ts : List Token) (x : Option RightTree × List Token) → start_right (right_by most block) ts ≡ Some x → IsMaybeRight (spell_start_right (to_maybe_right x.0)) x.0 ts x.1
  start_right_sound ts x e =
      ⊎_elim
      (λ (p : (sign_ahead s.Assign ts ≡ true) × ((behind (is_sign s.Assign) ts >>= λ a. right_by most block a >>= λ r. Some (Some r.0, r.1)) ≡ Some x)).
      let a = bind_ok _ _ _ p.1 in
      let r = bind_ok _ _ _ a.2 in
      let f = right_sound a.0 r.0 r.1 in
      let same : (Some r.0.0, r.0.1) ≡ x = some_same _ _ r.2 in
      subst (λ (y : Option RightTree × List Token). IsMaybeRight (spell_start_right (to_maybe_right y.0)) y.0 ts y.1) same
      (record { shaped = f.shaped; spelled = join (one (behind_sound s.Assign ts a.0 a.1)) f.spelled; low = f.low }))
      (λ (p : (sign_ahead s.Assign ts ≡ false) × (Some (None, ts) ≡ Some x)).
      subst (λ (y : Option RightTree × List Token). IsMaybeRight (spell_start_right (to_maybe_right y.0)) y.0 ts y.1) (some_same _ _ p.1) (record { shaped = tt; spelled = nothing ts; low = omega arith }))
      (chosen _ _ _ _ e)

  line_head_sound : (h : HeadTree) (ts mid : List Token) (x : LineTree × List Token) → IsHead most h ts mid → line_by_head (right_by most block) h mid ≡ Some x → IsLine most x.0 ts x.1
  line_head_sound (declares t n) ts mid x h e =
      let r = bind_ok _ _ _ e in
      let f = start_right_sound mid r.0 r.1 in
      let c = cut (spell_type t) (spell_name n) h.spelled in
      let same : (declare t n (to_maybe_right r.0.0), r.0.1) ≡ x = some_same _ _ r.2 in
      subst (λ (y : LineTree × List Token). IsLine most y.0 ts y.1) same (record { shaped = (h.shaped, f.shaped); spelled = join c.front (join c.back f.spelled); low = omega (arith, h.low, f.low) })
  line_head_sound (infers n) ts mid x h e =
      let r = bind_ok _ _ _ e in
      let f = right_sound mid r.0 r.1 in
      let c = cut (spell_name n) (sign w.Declare) h.spelled in
      let same : (infer n r.0.0, r.0.1) ≡ x = some_same _ _ r.2 in
      subst (λ (y : LineTree × List Token). IsLine most y.0 ts y.1) same (record { shaped = f.shaped; spelled = join c.front (join c.back f.spelled); low = f.low })
  line_head_sound (assigns p) ts mid x h e =
      let r = bind_ok _ _ _ e in
      let f = right_sound mid r.0 r.1 in
      let c = cut (spell_place p) (sign w.Assign) h.spelled in
      let same : (assign p r.0.0, r.0.1) ≡ x = some_same _ _ r.2 in
      subst (λ (y : LineTree × List Token). IsLine most y.0 ts y.1) same (record { shaped = (h.shaped, f.shaped); spelled = join c.front (join c.back f.spelled); low = omega (arith, h.low, f.low) })
  line_head_sound (updates p o) ts mid x h e =
      let r = bind_ok _ _ _ e in
      let f = right_sound mid r.0 r.1 in
      let c = cut (spell_place p) (spell_update_op o) h.spelled in
      let same : (update p o r.0.0, r.0.1) ≡ x = some_same _ _ r.2 in
      subst (λ (y : LineTree × List Token). IsLine most y.0 ts y.1) same (record { shaped = (h.shaped, f.shaped); spelled = join c.front (join c.back f.spelled); low = omega (arith, h.low, f.low) })
  line_head_sound (steps y) ts mid x h e =
      subst (λ (y : LineTree × List Token). IsLine most y.0 ts y.1) (some_same _ _ e) (record { shaped = h.shaped; spelled = h.spelled; low = h.low })
  line_head_sound (calls y) ts mid x h e =
      subst (λ (y : LineTree × List Token). IsLine most y.0 ts y.1) (some_same _ _ e) (record { shaped = h.shaped; spelled = h.spelled; low = h.low })

  line_kind_sound : (k : LineKind) (t : Token) (ts : List Token) (x : LineTree × List Token) → line_kind t.word ≡ k → line_by_kind most block k (t ∷ ts) ts ≡ Some x → IsLine most x.0 (t ∷ ts) x.1
  line_kind_sound kind.Print t ts x k e =
      let word = one (sign_at w.Print t ts (word_kind t.word kind.Print k (λ n. cc) (λ n. cc))) in
      let r = bind_ok _ _ _ e in
      let f = expr_sound most ts r.0 r.1 in
      let same : (print r.0.0, r.0.1) ≡ x = some_same _ _ r.2 in
      subst (λ (y : LineTree × List Token). IsLine most y.0 (t ∷ ts) y.1) same (record { shaped = f.shaped; spelled = join word f.spelled; low = f.low })
  line_kind_sound kind.Println t ts x k e =
      let word = one (sign_at w.Println t ts (word_kind t.word kind.Println k (λ n. cc) (λ n. cc))) in
      let r = bind_ok _ _ _ e in
      let f = maybe_sound most ts r.0 r.1 in
      let same : (println r.0.0, r.0.1) ≡ x = some_same _ _ r.2 in
      subst (λ (y : LineTree × List Token). IsLine most y.0 (t ∷ ts) y.1) same (record { shaped = f.shaped; spelled = join word f.spelled; low = f.low })
  line_kind_sound kind.Error t ts x k e =
      let word = one (sign_at w.Error t ts (word_kind t.word kind.Error k (λ n. cc) (λ n. cc))) in
      let r = bind_ok _ _ _ e in
      let f = expr_sound most ts r.0 r.1 in
      let same : (error r.0.0, r.0.1) ≡ x = some_same _ _ r.2 in
      subst (λ (y : LineTree × List Token). IsLine most y.0 (t ∷ ts) y.1) same (record { shaped = f.shaped; spelled = join word f.spelled; low = f.low })
  line_kind_sound kind.Exit t ts x k e =
      let word = one (sign_at w.Exit t ts (word_kind t.word kind.Exit k (λ n. cc) (λ n. cc))) in
      let r = bind_ok _ _ _ e in
      let f = expr_sound most ts r.0 r.1 in
      let same : (exit r.0.0, r.0.1) ≡ x = some_same _ _ r.2 in
      subst (λ (y : LineTree × List Token). IsLine most y.0 (t ∷ ts) y.1) same (record { shaped = f.shaped; spelled = join word f.spelled; low = f.low })
  line_kind_sound kind.Break t ts x k e =
      let word = one (sign_at w.Break t ts (word_kind t.word kind.Break k (λ n. cc) (λ n. cc))) in
      subst (λ (y : LineTree × List Token). IsLine most y.0 (t ∷ ts) y.1) (some_same _ _ e) (record { shaped = tt; spelled = word; low = omega arith })
  line_kind_sound kind.Continue t ts x k e =
      let word = one (sign_at w.Continue t ts (word_kind t.word kind.Continue k (λ n. cc) (λ n. cc))) in
      subst (λ (y : LineTree × List Token). IsLine most y.0 (t ∷ ts) y.1) (some_same _ _ e) (record { shaped = tt; spelled = word; low = omega arith })
  line_kind_sound kind.Return t ts x k e =
      let word = one (sign_at w.Return t ts (word_kind t.word kind.Return k (λ n. cc) (λ n. cc))) in
      let r = bind_ok _ _ _ e in
      let f = maybe_right_sound ts r.0 r.1 in
      let same : (return (to_maybe_right r.0.0), r.0.1) ≡ x = some_same _ _ r.2 in
      subst (λ (y : LineTree × List Token). IsLine most y.0 (t ∷ ts) y.1) same (record { shaped = f.shaped; spelled = join word f.spelled; low = f.low })
  line_kind_sound kind.Wait t ts x k e =
      let word = one (sign_at w.Wait t ts (word_kind t.word kind.Wait k (λ n. cc) (λ n. cc))) in
      let r = bind_ok _ _ _ e in
      let f = maybe_sound most ts r.0 r.1 in
      let same : (wait r.0.0, r.0.1) ≡ x = some_same _ _ r.2 in
      subst (λ (y : LineTree × List Token). IsLine most y.0 (t ∷ ts) y.1) same (record { shaped = f.shaped; spelled = join word f.spelled; low = f.low })
  line_kind_sound kind.Checkpoint t ts x k e =
      let word = one (sign_at w.Checkpoint t ts (word_kind t.word kind.Checkpoint k (λ n. cc) (λ n. cc))) in
      let r = bind_ok _ _ _ e in
      let f = maybe_sound most ts r.0 r.1 in
      let same : (checkpoint r.0.0, r.0.1) ≡ x = some_same _ _ r.2 in
      subst (λ (y : LineTree × List Token). IsLine most y.0 (t ∷ ts) y.1) same (record { shaped = f.shaped; spelled = join word f.spelled; low = f.low })
  line_kind_sound kind.Act t ts x k e =
      let r = bind_ok _ _ _ e in
      let f = act_sound (t ∷ ts) r.0 r.1 in
      let same : (act_line r.0.0, r.0.1) ≡ x = some_same _ _ r.2 in
      subst (λ (y : LineTree × List Token). IsLine most y.0 (t ∷ ts) y.1) same (record { shaped = f.shaped; spelled = f.spelled; low = f.low })
  line_kind_sound kind.Head t ts x k e =
      let h = bind_ok _ _ _ e in
      line_head_sound h.0.0 (t ∷ ts) h.0.1 x (head_sound most (t ∷ ts) h.0 h.1) h.2

  pub line_sound : (ts : List Token) (x : LineTree × List Token) → line_by most block ts ≡ Some x → IsLine most x.0 ts x.1
  line_sound [] x e = cc
  line_sound (t ∷ ts) x e = line_kind_sound (line_kind t.word) t ts x refl e
