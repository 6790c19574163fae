-- Expressions and parts of the head of a `for` are read, both ways.
use Rattle.std.proofs.Common.{◌≡◌, ℕ, ◌+◌, ◌≤◌, true, false, List, [], ◌∷◌, ◌++◌, Option, Some, None, refl, sym, ap, ◌∙◌, subst, arith, ◌⊎◌, ⊎_elim}
use Rattle.bds_value.specs.Options.{◌>>=◌}
use Rattle.bds_tree.specs.declared.token.Word.{Word}
use Rattle.bds_tree.specs.declared.token.Word.TheVariants as w
use Rattle.bds_tree.specs.declared.token.Token.{Token}
use Rattle.bds_tree.specs.Tree.{Tree}
use Rattle.bds_tree.specs.Spelling.{any, sign, spell}
use Rattle.bds_tree.specs.StmtTree.{PlaceTree, StepTree, step_after, step_before, SmallFormTree, small_declare, small_infer, small_assign, small_update, small_step, small_call, SmallTree}
use Rattle.bds_tree.specs.StmtShape.{IsMaybeShaped, IsSmallFormShaped, IsSmallShaped, over_maybe, over_small_form, over_small}
use Rattle.bds_tree.specs.StmtSpelling.{spell_type, spell_name, spell_maybe, spell_place, spell_step_op, spell_step, spell_update_op, spell_start, spell_small_form, spell_small}
use Rattle.bds_parse_expr.specs.Spells.{Starts}
use Rattle.bds_parse_expr.specs.Reading.{behind, expression, line_ahead}
use Rattle.bds_parse_expr.proofs.Fronts.{Nonempty, spelled as expr_spelled}
use Rattle.bds_parse_expr.proofs.Steps.{bind_some, if_true, if_false}
use Rattle.bds_parse_expr.proofs.Sound.{bind_ok, some_same, chosen}
use Rattle.bds_parse_stmt_parts.specs.declared.words.Sign.TheVariants as s
use Rattle.bds_parse_stmt_parts.specs.Words.{is_sign, sign_ahead, nothing_ahead, is_stop}
use Rattle.bds_parse_stmt_parts.specs.Heads.{HeadTree, declares, infers, assigns, updates, steps, calls}
use Rattle.bds_parse_stmt_parts.specs.Reading.{here, head, maybe_expr, start_expr, small_by_head, small, maybe_small}
use Rattle.bds_parse_stmt_parts.proofs.Fronting.{Spelled, join, cut, nothing, nothing_is, one, one_is, begun, unbegun, longer, behind_any, begun_nonempty, first_is}
use Rattle.bds_parse_stmt_parts.proofs.SignLaws.{behind_sound, behind_finds, ahead_is, not_true, stop_ahead, expr_there, expr_sound, expr_finds, step_word, step_spelled}
use Rattle.bds_parse_stmt_parts.proofs.HeadLaws.{IsHead, head_sound, head_finds, no_head}

pub record IsMaybe (most : ℕ) (e : Option Tree) (ts rest : List Token) : Type 0 where
  pub shaped : IsMaybeShaped e
  pub spelled : Spelled (spell_maybe e) ts rest
  pub low : over_maybe e ≤ most

pub maybe_sound : (most : ℕ) (ts : List Token) (x : Option Tree × List Token) → maybe_expr most ts ≡ Some x → IsMaybe most x.0 ts x.1
maybe_sound most ts x e =
    ⊎_elim
    (λ (p : (nothing_ahead ts ≡ true) × (Some (None, ts) ≡ Some x)). subst (λ (y : Option Tree × List Token). IsMaybe most y.0 ts y.1) (some_same _ _ p.1) (record { shaped = tt; spelled = nothing ts; low = omega arith }))
    (λ (p : (nothing_ahead ts ≡ false) × ((expression most 1 ts >>= λ e. Some (Some e.0, e.1)) ≡ Some x)).
    let r = bind_ok _ _ _ p.1 in
    let f = expr_sound most ts r.0 r.1 in
    let same : (Some r.0.0, r.0.1) ≡ x = some_same _ _ r.2 in
    subst (λ (y : Option Tree × List Token). IsMaybe most y.0 ts y.1) same (record { shaped = f.shaped; spelled = f.spelled; low = f.low }))
    (chosen _ _ _ _ e)

pub maybe_finds : (e : Option Tree) (most : ℕ) (ts rest : List Token) → IsMaybeShaped e → Spelled (spell_maybe e) ts rest → over_maybe e ≤ most → nothing_ahead rest ≡ true → maybe_expr most ts ≡ Some (e, rest)
maybe_finds None most ts rest sh sp hi end =
    subst (λ u. maybe_expr most u ≡ Some (None, rest)) (sym (nothing_is sp)) (if_true _ _ _ _ end refl)
maybe_finds (Some e) most ts rest sh sp hi end =
    if_false _ _ _ _ (expr_there e ts rest sp) (bind_some _ (e, rest) _ _ (expr_finds e most ts rest sh sp hi (stop_ahead rest end)) refl)

record IsStart (most : ℕ) (e : Option Tree) (ts rest : List Token) : Type 0 where
  shaped : IsMaybeShaped e
  spelled : Spelled (spell_start e) ts rest
  low : over_maybe e ≤ most

start_sound : (most : ℕ) (ts : List Token) (x : Option Tree × List Token) → start_expr most ts ≡ Some x → IsStart most x.0 ts x.1
start_sound most ts x e =
    ⊎_elim
    (λ (p : (sign_ahead s.Assign ts ≡ true) × ((behind (is_sign s.Assign) ts >>= λ a. expression most 1 a >>= λ e. Some (Some e.0, e.1)) ≡ Some x)).
    let a = bind_ok _ _ _ p.1 in
    let r = bind_ok _ _ _ a.2 in
    let f = expr_sound most a.0 r.0 r.1 in
    let same : (Some r.0.0, r.0.1) ≡ x = some_same _ _ r.2 in
    subst (λ (y : Option Tree × List Token). IsStart most y.0 ts y.1) same (record { shaped = f.shaped; spelled = join (one (behind_sound s.Assign ts a.0 a.1)) f.spelled; low = f.low }))
    (λ (p : (sign_ahead s.Assign ts ≡ false) × (Some (None, ts) ≡ Some x)). subst (λ (y : Option Tree × List Token). IsStart most y.0 ts y.1) (some_same _ _ p.1) (record { shaped = tt; spelled = nothing ts; low = omega arith }))
    (chosen _ _ _ _ e)

pub stop_no_assign : (ts : List Token) → nothing_ahead ts ≡ true → sign_ahead s.Assign ts ≡ false
stop_no_assign [] e = refl
stop_no_assign (t ∷ ts) e = by_word t.word e
  where
    by_word : (u : Word) → is_stop u ≡ true → is_sign s.Assign u ≡ false
    by_word w.Assign e = cc
    by_word _ e = refl

start_finds : (e : Option Tree) (most : ℕ) (ts rest : List Token) → IsMaybeShaped e → Spelled (spell_start e) ts rest → over_maybe e ≤ most → nothing_ahead rest ≡ true → start_expr most ts ≡ Some (e, rest)
start_finds None most ts rest sh sp hi end =
    subst (λ u. start_expr most u ≡ Some (None, rest)) (sym (nothing_is sp)) (if_false _ _ _ _ (stop_no_assign rest end) refl)
start_finds (Some e) most ts rest sh sp hi end =
    let c = cut (sign w.Assign) (spell e) sp in
    let f = one_is w.Assign c.front in
    if_true _ _ _ _ (ahead_is s.Assign true w.Assign ts c.mid f refl)
    (bind_some _ c.mid _ _ (behind_finds s.Assign ts c.mid f) (bind_some _ (e, rest) _ _ (expr_finds e most c.mid rest sh c.back hi (stop_ahead rest end)) refl))

record IsForm (most : ℕ) (f : SmallFormTree) (ts rest : List Token) : Type 0 where
  shaped : IsSmallFormShaped f
  spelled : Spelled (spell_small_form f) ts rest
  low : over_small_form f ≤ most

form_sound : (most : ℕ) (h : HeadTree) (ts mid : List Token) (x : SmallFormTree × List Token) → IsHead most h ts mid → small_by_head most h mid ≡ Some x → IsForm most x.0 ts x.1
form_sound most (declares t n) ts mid x h e =
    let r = bind_ok _ _ _ e in
    let f = start_sound most mid r.0 r.1 in
    let c = cut (spell_type t) (spell_name n) h.spelled in
    let same : (small_declare t n r.0.0, r.0.1) ≡ x = some_same _ _ r.2 in
    subst (λ (y : SmallFormTree × List Token). IsForm most y.0 ts y.1) same (record { shaped = (h.shaped, f.shaped); spelled = join c.front (join c.back f.spelled); low = omega (arith, h.low, f.low) })
form_sound most (infers n) ts mid x h e =
    let r = bind_ok _ _ _ e in
    let f = expr_sound most mid r.0 r.1 in
    let c = cut (spell_name n) (sign w.Declare) h.spelled in
    let same : (small_infer n r.0.0, r.0.1) ≡ x = some_same _ _ r.2 in
    subst (λ (y : SmallFormTree × List Token). IsForm most y.0 ts y.1) same (record { shaped = f.shaped; spelled = join c.front (join c.back f.spelled); low = f.low })
form_sound most (assigns p) ts mid x h e =
    let r = bind_ok _ _ _ e in
    let f = expr_sound most mid r.0 r.1 in
    let c = cut (spell_place p) (sign w.Assign) h.spelled in
    let same : (small_assign p r.0.0, r.0.1) ≡ x = some_same _ _ r.2 in
    subst (λ (y : SmallFormTree × List Token). IsForm most y.0 ts y.1) same (record { shaped = (h.shaped, f.shaped); spelled = join c.front (join c.back f.spelled); low = omega (arith, h.low, f.low) })
form_sound most (updates p o) ts mid x h e =
    let r = bind_ok _ _ _ e in
    let f = expr_sound most mid r.0 r.1 in
    let c = cut (spell_place p) (spell_update_op o) h.spelled in
    let same : (small_update p o r.0.0, r.0.1) ≡ x = some_same _ _ r.2 in
    subst (λ (y : SmallFormTree × List Token). IsForm most y.0 ts y.1) same (record { shaped = (h.shaped, f.shaped); spelled = join c.front (join c.back f.spelled); low = omega (arith, h.low, f.low) })
form_sound most (steps y) ts mid x h e =
    subst (λ (y : SmallFormTree × List Token). IsForm most y.0 ts y.1) (some_same _ _ e) (record { shaped = h.shaped; spelled = h.spelled; low = h.low })
form_sound most (calls y) ts mid x h e =
    subst (λ (y : SmallFormTree × List Token). IsForm most y.0 ts y.1) (some_same _ _ e) (record { shaped = h.shaped; spelled = h.spelled; low = h.low })

pub place_nonempty : (p : PlaceTree) → Nonempty (spell_place p)
place_nonempty p = begun_nonempty p.at.line _ (any (w.Name p.name), _, refl)

pub step_nonempty : (x : StepTree) → Nonempty (spell_step x)
step_nonempty (step_after p o) = longer (spell_place p) (spell_step_op o) (place_nonempty p)
step_nonempty (step_before o p) = longer (spell_step_op o) (spell_place p) (any (step_word o), [], step_spelled o)

pub head_starts : (most : ℕ) (ts : List Token) (x : HeadTree × List Token) → head most ts ≡ Some x → Starts (line_ahead ts) ts
head_starts most [] x e = cc
head_starts most (t ∷ ts) x e = (t, ts, refl, refl)

record IsPart (most : ℕ) (x : SmallTree) (ts rest : List Token) : Type 0 where
  shaped : IsSmallShaped (Some x)
  spelled : Spelled (spell_small (Some x)) ts rest
  low : over_small (Some x) ≤ most

small_sound : (most : ℕ) (ts : List Token) (x : SmallTree × List Token) → small most ts ≡ Some x → IsPart most x.0 ts x.1
small_sound most ts x e =
    let h = bind_ok _ _ _ e in
    let f = bind_ok _ _ _ h.2 in
    let r = form_sound most h.0.0 ts h.0.1 f.0 (head_sound most ts h.0 h.1) f.1 in
    let same : (record { at = here (line_ahead ts); form = f.0.0 }, f.0.1) ≡ x = some_same _ _ f.2 in
    subst (λ (y : SmallTree × List Token). IsPart most y.0 ts y.1) same
    (record { shaped = (refl, r.shaped); spelled = begun (line_ahead ts) (head_starts most ts h.0 h.1) r.spelled; low = r.low })

pub record IsSmall (most : ℕ) (x : Option SmallTree) (ts rest : List Token) : Type 0 where
  pub shaped : IsSmallShaped x
  pub spelled : Spelled (spell_small x) ts rest
  pub low : over_small x ≤ most

pub maybe_small_sound : (most : ℕ) (ts : List Token) (x : Option SmallTree × List Token) → maybe_small most ts ≡ Some x → IsSmall most x.0 ts x.1
maybe_small_sound most ts x e =
    ⊎_elim
    (λ (p : (nothing_ahead ts ≡ true) × (Some (None, ts) ≡ Some x)). subst (λ (y : Option SmallTree × List Token). IsSmall most y.0 ts y.1) (some_same _ _ p.1) (record { shaped = tt; spelled = nothing ts; low = omega arith }))
    (λ (p : (nothing_ahead ts ≡ false) × ((small most ts >>= λ x. Some (Some x.0, x.1)) ≡ Some x)).
    let r = bind_ok _ _ _ p.1 in
    let f = small_sound most ts r.0 r.1 in
    let same : (Some r.0.0, r.0.1) ≡ x = some_same _ _ r.2 in
    subst (λ (y : Option SmallTree × List Token). IsSmall most y.0 ts y.1) same (record { shaped = f.shaped; spelled = f.spelled; low = f.low }))
    (chosen _ _ _ _ e)

record Reads (most : ℕ) (f : SmallFormTree) (ts rest : List Token) : Type 0 where
  by : HeadTree
  mid : List Token
  head_read : head most ts ≡ Some (by, mid)
  form_read : small_by_head most by mid ≡ Some (f, rest)

form_finds : (f : SmallFormTree) (most : ℕ) (ts rest : List Token) → IsSmallFormShaped f → Spelled (spell_small_form f) ts rest → over_small_form f ≤ most → nothing_ahead rest ≡ true → Reads most f ts rest
form_finds (small_declare t n e) most ts rest sh sp hi end =
    let c = cut (spell_type t) (spell_name n ++ spell_start e) sp in
    let d = cut (spell_name n) (spell_start e) c.back in
    record {
      by = declares t n;
      mid = d.mid;
      head_read = head_finds (declares t n) most ts d.mid sh.0 (join c.front d.front) (omega arith) tt;
      form_read = bind_some _ (e, rest) _ _ (start_finds e most d.mid rest sh.1 d.back (omega arith) end) refl;
    }
form_finds (small_infer n e) most ts rest sh sp hi end =
    let c = cut (spell_name n) (sign w.Declare ++ spell e) sp in
    let d = cut (sign w.Declare) (spell e) c.back in
    record {
      by = infers n;
      mid = d.mid;
      head_read = head_finds (infers n) most ts d.mid tt (join c.front d.front) (omega arith) tt;
      form_read = bind_some _ (e, rest) _ _ (expr_finds e most d.mid rest sh d.back (omega arith) (stop_ahead rest end)) refl;
    }
form_finds (small_assign p e) most ts rest sh sp hi end =
    let c = cut (spell_place p) (sign w.Assign ++ spell e) sp in
    let d = cut (sign w.Assign) (spell e) c.back in
    record {
      by = assigns p;
      mid = d.mid;
      head_read = head_finds (assigns p) most ts d.mid sh.0 (join c.front d.front) (omega arith) tt;
      form_read = bind_some _ (e, rest) _ _ (expr_finds e most d.mid rest sh.1 d.back (omega arith) (stop_ahead rest end)) refl;
    }
form_finds (small_update p o e) most ts rest sh sp hi end =
    let c = cut (spell_place p) (spell_update_op o ++ spell e) sp in
    let d = cut (spell_update_op o) (spell e) c.back in
    record {
      by = updates p o;
      mid = d.mid;
      head_read = head_finds (updates p o) most ts d.mid sh.0 (join c.front d.front) (omega arith) tt;
      form_read = bind_some _ (e, rest) _ _ (expr_finds e most d.mid rest sh.1 d.back (omega arith) (stop_ahead rest end)) refl;
    }
form_finds (small_step x) most ts rest sh sp hi end =
    record { by = steps x; mid = rest; head_read = head_finds (steps x) most ts rest sh sp hi end; form_read = refl }
form_finds (small_call e) most ts rest sh sp hi end =
    record { by = calls e; mid = rest; head_read = head_finds (calls e) most ts rest sh sp hi end; form_read = refl }

form_spelled : (f : SmallFormTree) → Nonempty (spell_small_form f)
form_spelled (small_declare t n e) = behind_any (spell_type t) (spell_name n ++ spell_start e) (any (w.Name n), spell_start e, refl)
form_spelled (small_infer n e) = (any (w.Name n), sign w.Declare ++ spell e, refl)
form_spelled (small_assign p e) = longer (spell_place p) (sign w.Assign ++ spell e) (place_nonempty p)
form_spelled (small_update p o e) = longer (spell_place p) (spell_update_op o ++ spell e) (place_nonempty p)
form_spelled (small_step x) = step_nonempty x
form_spelled (small_call e) = expr_spelled e

small_is : (x : SmallTree) (l : ℕ) → x.at.file ≡ 0 → l ≡ x.at.line → record { at = here l; form = x.form } ≡ x
small_is x l f g = ap (λ k. record { at = record { file = 0; line = k }; form = x.form }) g ∙ ap (λ k. record { at = record { file = k; line = x.at.line }; form = x.form }) (sym f)

small_finds : (x : SmallTree) (most : ℕ) (ts rest : List Token) → IsSmallShaped (Some x) → Spelled (spell_small (Some x)) ts rest → over_small (Some x) ≤ most → nothing_ahead rest ≡ true → small most ts ≡ Some (x, rest)
small_finds x most ts rest sh sp hi end =
    let u = unbegun x.at.line (spell_small_form x.form) (form_spelled x.form) sp in
    let r = form_finds x.form most ts rest sh.1 u.1 hi end in
    bind_some _ (r.by, r.mid) _ _ r.head_read (bind_some _ (x.form, rest) _ _ r.form_read (ap (λ y. Some (y, rest)) (small_is x (line_ahead ts) sh.0 (first_is x.at.line ts u.0))))

small_there : (most : ℕ) (ts : List Token) (x : SmallTree × List Token) → small most ts ≡ Some x → nothing_ahead ts ≡ false
small_there most ts x e = let h = bind_ok _ _ _ e in not_true _ (λ yes. no_head most ts h.0 yes h.1)

pub maybe_small_finds : (x : Option SmallTree) (most : ℕ) (ts rest : List Token) → IsSmallShaped x → Spelled (spell_small x) ts rest → over_small x ≤ most → nothing_ahead rest ≡ true → maybe_small most ts ≡ Some (x, rest)
maybe_small_finds None most ts rest sh sp hi end =
    subst (λ u. maybe_small most u ≡ Some (None, rest)) (sym (nothing_is sp)) (if_true _ _ _ _ end refl)
maybe_small_finds (Some x) most ts rest sh sp hi end =
    let read = small_finds x most ts rest sh sp hi end in
    if_false _ _ _ _ (small_there most ts (x, rest) read) (bind_some _ (x, rest) _ _ read refl)
