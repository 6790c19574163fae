-- Options and bodies are read, both ways.
use Rattle.std.proofs.Common.{◌≡◌, ◌≢◌, ℕ, ◌+◌, ◌<◌, ◌≤◌, true, false, List, [], ◌∷◌, ◌++◌, length, Option, Some, None, refl, sym, ap, ◌∙◌, subst, arith, true≢false, ◌⊎◌, ⊎_elim}
use Rattle.std.specs.List.{AllByRecursion}
use Rattle.bds_value.specs.Options.{◌>>=◌}
use Rattle.bds_tree.specs.declared.token.Word.{Word}
use Rattle.bds_tree.specs.declared.token.Word.TheVariants as w
use Rattle.bds_tree.specs.declared.token.Token.{Token}
use Rattle.bds_tree.specs.declared.stmt.Body.{Body}
use Rattle.bds_tree.specs.declared.stmt.Body.TheVariants as body_form
use Rattle.bds_tree.specs.declared.stmt.Command.{Command}
use Rattle.bds_tree.specs.Tree.{Tree}
use Rattle.bds_tree.specs.Shape.{Shaped}
use Rattle.bds_tree.specs.Spelling.{any, sign, spell}
use Rattle.bds_tree.specs.StmtTree.{SettingFormTree, setting_named, setting_plain, SettingTree}
use Rattle.bds_tree.specs.StmtShape.{IsSettingFormShaped, IsSettingShaped, AreSettingsShaped, IsCommandShaped, IsBodyShaped, over_setting_form, over_settings}
use Rattle.bds_tree.specs.StmtSpelling.{spell_name, spell_setting_form, spell_setting, spell_more_settings, spell_settings, spell_command, spell_commands, spell_body}
use Rattle.bds_parse_expr.specs.Spells.{token, Sign, Starts}
use Rattle.bds_parse_expr.specs.declared.words.Next.TheVariants.{Stops as stops}
use Rattle.bds_parse_expr.specs.Reading.{ahead, next_of, behind, first_of, begins_none, line_ahead}
use Rattle.bds_parse_expr.proofs.Fronts.{Nonempty, spelled as expr_spelled}
use Rattle.bds_parse_expr.proofs.Steps.{bind_some, sign_ahead as ahead_of_sign, if_true, if_false, begins as expr_begins}
use Rattle.bds_parse_expr.proofs.Sound.{bind_ok, some_same, sign_at, chosen}
use Rattle.bds_parse_stmt_parts.specs.declared.words.Sign.TheVariants as s
use Rattle.bds_parse_stmt_parts.specs.Words.{is_sign, sign_ahead}
use Rattle.bds_parse_stmt_parts.specs.Reading.{here, many_onto, setting_second, setting_first, setting_name, setting_by, setting, next_setting, settings, command_by, command, next_command, body}
use Rattle.bds_parse_stmt_parts.proofs.Fronting.{Spelled, join, cut, one, one_is, begun, unbegun, begun_nonempty, starts_first, spelled_shorter, first_is, expr_of}
use Rattle.bds_parse_stmt_parts.proofs.Many.{Chain, Takes, onto_sound, onto_finds}
use Rattle.bds_parse_stmt_parts.proofs.SignLaws.{behind_sound, behind_finds, ahead_is, not_true, none_of, expr_sound, expr_finds}
use Rattle.bds_parse_stmt_parts.proofs.PlaceLaws.{one_reading, bare, bare_spelled}

pub record IsSetting (most : ℕ) (x : SettingTree) (ts rest : List Token) : Type 0 where
  pub shaped : IsSettingShaped x
  pub spelled : Spelled (spell_setting x) ts rest
  pub low : over_setting_form x.form ≤ most

name_sound : (ts : List Token) (x : List ℕ × List Token) → setting_name ts ≡ Some x → (mid : List Token) × Sign (w.Name x.0) ts mid × Sign w.Declare mid x.1
name_sound [] x e = cc
name_sound (t ∷ []) x e = cc
name_sound (t ∷ u ∷ ts) x e = by_first t.word refl e
  where
    by_second : (n : List ℕ) (v : Word) → u.word ≡ v → t.word ≡ w.Name n → setting_second n v ts ≡ Some x → (mid : List Token) × Sign (w.Name x.0) (t ∷ u ∷ ts) mid × Sign w.Declare mid x.1
    by_second n w.Declare is name e =
        subst (λ (y : List ℕ × List Token). (mid : List Token) × Sign (w.Name y.0) (t ∷ u ∷ ts) mid × Sign w.Declare mid y.1) (some_same _ _ e)
        (u ∷ ts, sign_at (w.Name n) t (u ∷ ts) name, sign_at w.Declare u ts is)
    by_second n _ is name e = cc

    by_first : (v : Word) → t.word ≡ v → setting_first v u.word ts ≡ Some x → (mid : List Token) × Sign (w.Name x.0) (t ∷ u ∷ ts) mid × Sign w.Declare mid x.1
    by_first (w.Name n) is e = by_second n u.word refl is e
    by_first _ is e = cc

name_finds : (n : List ℕ) (ts mid rest : List Token) → Sign (w.Name n) ts mid → Sign w.Declare mid rest → setting_name ts ≡ Some (n, rest)
name_finds n ts mid rest f g = ap setting_name (f.1 ∙ ap (λ u. token f.0 (w.Name n) ∷ u) g.1)

setting_sound : (most : ℕ) (ts : List Token) (x : SettingTree × List Token) → setting most ts ≡ Some x → IsSetting most x.0 ts x.1
setting_sound most ts x e = go (setting_name ts) refl e
  where
    go : (o : Option (List ℕ × List Token)) → setting_name ts ≡ o → setting_by most ts o ≡ Some x → IsSetting most x.0 ts x.1
    go None f g =
        let r = bind_ok _ _ _ g in
        let v = expr_sound most ts r.0 r.1 in
        let same : (record { at = here (line_ahead ts); form = setting_plain r.0.0 }, r.0.1) ≡ x = some_same _ _ r.2 in
        subst (λ (y : SettingTree × List Token). IsSetting most y.0 ts y.1) same
        (record { shaped = (refl, v.shaped); spelled = begun (line_ahead ts) (starts_first (spell r.0.0) ts r.0.1 (expr_spelled r.0.0) v.spelled) v.spelled; low = v.low })
    go (Some n) f g =
        let r = bind_ok _ _ _ g in
        let v = expr_sound most n.1 r.0 r.1 in
        let at = name_sound ts n f in
        let front : Spelled (spell_name n.0) ts at.0 = one at.1 in
        let same : (record { at = here (line_ahead ts); form = setting_named n.0 r.0.0 }, r.0.1) ≡ x = some_same _ _ r.2 in
        subst (λ (y : SettingTree × List Token). IsSetting most y.0 ts y.1) same
        (record { shaped = (refl, v.shaped); spelled = begun (line_ahead ts) (starts_first (spell_name n.0) ts at.0 (any (w.Name n.0), [], refl) front) (join front (join (one at.2) v.spelled)); low = v.low })

abbrev IsNext : ℕ → SettingTree → List Token → List Token → Type 0
IsNext most x ts rest = (mid : List Token) × Sign w.Comma ts mid × IsSetting most x mid rest

next_sound : (most : ℕ) (ts : List Token) (x : SettingTree × List Token) → next_setting most ts ≡ Some (Some x) → IsNext most x.0 ts x.1
next_sound most ts x e =
    ⊎_elim
    (λ (p : (sign_ahead s.Comma ts ≡ true) × ((behind (is_sign s.Comma) ts >>= λ a. setting most a >>= λ x. Some (Some x)) ≡ Some (Some x))).
    let a = bind_ok _ _ _ p.1 in
    let r = bind_ok _ _ _ a.2 in
    let f = setting_sound most a.0 r.0 r.1 in
    let same : r.0 ≡ x = some_same _ _ (some_same _ _ r.2) in
    subst (λ (y : SettingTree × List Token). IsNext most y.0 ts y.1) same (a.0, behind_sound s.Comma ts a.0 a.1, f))
    (λ (p : (sign_ahead s.Comma ts ≡ false) × (Some None ≡ Some (Some x))). let q = some_same _ _ p.1 in cc)
    (chosen _ _ _ _ e)

record AreMore (most : ℕ) (ss : List SettingTree) (ts rest : List Token) : Type 0 where
  shaped : AreSettingsShaped ss
  spelled : Spelled (spell_more_settings ss) ts rest
  low : over_settings ss ≤ most

more_sound : (most : ℕ) (ss : List SettingTree) (ts mid rest : List Token) → Chain (IsNext most) ss ts mid → Sign w.CloseRound mid rest → AreMore most ss ts rest
more_sound most [] ts mid rest c close = record { shaped = tt; spelled = subst (λ u. Spelled (sign w.CloseRound) u rest) (sym c) (one close); low = omega arith }
more_sound most (x ∷ ss) ts mid rest c close =
    let r = more_sound most ss c.0 mid rest c.2 close in
    record { shaped = (c.1.2.shaped, r.shaped); spelled = join (one c.1.1) (join c.1.2.spelled r.spelled); low = omega (arith, c.1.2.low, r.low) }

pub record AreSettings (most : ℕ) (ss : List SettingTree) (ts rest : List Token) : Type 0 where
  pub shaped : AreSettingsShaped ss
  pub spelled : Spelled (spell_settings ss) ts rest
  pub low : over_settings ss ≤ most

pub settings_sound : (most : ℕ) (ts : List Token) (x : List SettingTree × List Token) → settings most ts ≡ Some x → AreSettings most x.0 ts x.1
settings_sound most ts x e =
    let a = bind_ok _ _ _ e in
    let opened = behind_sound s.OpenRound ts a.0 a.1 in
    ⊎_elim
    (λ (p : (sign_ahead s.CloseRound a.0 ≡ true) × ((behind (is_sign s.CloseRound) a.0 >>= λ rest. Some ([], rest)) ≡ Some x)).
    let b = bind_ok _ _ _ p.1 in
    let same : ([], b.0) ≡ x = some_same _ _ b.2 in
    subst (λ (y : List SettingTree × List Token). AreSettings most y.0 ts y.1) same
    (record { shaped = tt; spelled = join (one opened) (one (behind_sound s.CloseRound a.0 b.0 b.1)); low = omega arith }))
    (λ (p : (sign_ahead s.CloseRound a.0 ≡ false) × ((setting most a.0 >>= λ x. many_onto (next_setting most) (x.0 ∷ []) x.1 >>= λ xs. behind (is_sign s.CloseRound) xs.1 >>= λ rest. Some (xs.0, rest)) ≡ Some x)).
    let first = bind_ok _ _ _ p.1 in
    let later = bind_ok _ _ _ first.2 in
    let closing = bind_ok _ _ _ later.2 in
    let f = setting_sound most a.0 first.0 first.1 in
    let m = onto_sound (next_setting most) (IsNext most) (next_sound most) (first.0.0 ∷ []) first.0.1 later.0 later.1 in
    let r = more_sound most m.0 first.0.1 later.0.1 closing.0 m.2.chain (behind_sound s.CloseRound later.0.1 closing.0 closing.1) in
    let same : (later.0.0, closing.0) ≡ x = some_same _ _ closing.2 in
    subst (λ (y : List SettingTree × List Token). AreSettings most y.0 ts y.1) same
    (subst (λ us. AreSettings most us ts closing.0) (sym m.1)
    (record { shaped = (f.shaped, r.shaped); spelled = join (one opened) (join f.spelled r.spelled); low = omega (arith, f.low, r.low) })))
    (chosen _ _ _ _ a.2)

-- the other way

-- the word that ends an option
record Ends (rest : List Token) : Type 0 where
  word : Word
  after : List Token
  there : Sign word rest after
  weak : next_of word ≡ stops
  apart : word ≢ w.Declare

first_word : List Token → Word
first_word [] = w.Semicolon
first_word (t ∷ ts) = t.word

plain_name : (e : Tree) (ts rest : List Token) → Shaped e → Spelled (spell e) ts rest → Ends rest → setting_name ts ≡ None
unfolding first_word
plain_name e ts rest sh sp end = none_of _ (λ n f. against n (name_sound ts n f))
  where
    against : (n : List ℕ × List Token) → ((mid : List Token) × Sign (w.Name n.0) ts mid × Sign w.Declare mid n.1) → ⊥
    against n f =
        let ahead_mid : ahead f.0 ≡ 0 = ahead_of_sign w.Declare stops f.0 n.1 refl f.2 in
        let ahead_rest : ahead rest ≡ 0 = ahead_of_sign end.word stops rest end.after end.weak end.there in
        let same = (one_reading (bare n.0 f.1.0) e ts f.0 rest (refl, tt) (bare_spelled n.0 ts f.0 f.1) ahead_mid sh sp ahead_rest).1 in
        end.apart (sym (ap first_word end.there.1) ∙ sym (ap first_word same) ∙ ap first_word f.2.1)

setting_is : (x : SettingTree) (l : ℕ) (f : SettingFormTree) → x.at.file ≡ 0 → l ≡ x.at.line → f ≡ x.form → record { at = here l; form = f } ≡ x
setting_is x l f g h k = ap (λ u. record { at = here l; form = u }) k ∙ ap (λ u. record { at = record { file = 0; line = u }; form = x.form }) h ∙ ap (λ u. record { at = record { file = u; line = x.at.line }; form = x.form }) (sym g)

setting_form_finds : (f : SettingFormTree) (most : ℕ) (ts rest : List Token) → IsSettingFormShaped f → Spelled (spell_setting_form f) ts rest → over_setting_form f ≤ most → Ends rest → setting most ts ≡ Some (record { at = here (line_ahead ts); form = f }, rest)
setting_form_finds (setting_named n e) most ts rest sh sp hi end =
    let c = cut (spell_name n) (sign w.Declare ++ spell e) sp in
    let d = cut (sign w.Declare) (spell e) c.back in
    let at = name_finds n ts c.mid d.mid (one_is (w.Name n) c.front) (one_is w.Declare d.front) in
    ap (setting_by most ts) at ∙ bind_some _ (e, rest) _ _ (expr_finds e most d.mid rest sh d.back hi (ahead_of_sign end.word stops rest end.after end.weak end.there)) refl
setting_form_finds (setting_plain e) most ts rest sh sp hi end =
    ap (setting_by most ts) (plain_name e ts rest sh sp end) ∙ bind_some _ (e, rest) _ _ (expr_finds e most ts rest sh sp hi (ahead_of_sign end.word stops rest end.after end.weak end.there)) refl

setting_form_spelled : (f : SettingFormTree) → Nonempty (spell_setting_form f)
setting_form_spelled (setting_named n e) = (any (w.Name n), sign w.Declare ++ spell e, refl)
setting_form_spelled (setting_plain e) = expr_spelled e

setting_finds : (x : SettingTree) (most : ℕ) (ts rest : List Token) → IsSettingShaped x → Spelled (spell_setting x) ts rest → over_setting_form x.form ≤ most → Ends rest → setting most ts ≡ Some (x, rest)
setting_finds x most ts rest sh sp hi end =
    let u = unbegun x.at.line (spell_setting_form x.form) (setting_form_spelled x.form) sp in
    setting_form_finds x.form most ts rest sh.1 u.1 hi end ∙ ap (λ y. Some (y, rest)) (setting_is x (line_ahead ts) x.form sh.0 (first_is x.at.line ts u.0) refl)

setting_shorter : (x : SettingTree) (ts rest : List Token) → Spelled (spell_setting x) ts rest → length rest < length ts
setting_shorter x ts rest sp = spelled_shorter (spell_setting x) ts rest (begun_nonempty x.at.line (spell_setting_form x.form) (setting_form_spelled x.form)) sp

more_ends : (ss : List SettingTree) (ts rest : List Token) → Spelled (spell_more_settings ss) ts rest → Ends ts
more_ends [] ts rest sp = record { word = w.CloseRound; after = rest; there = one_is w.CloseRound sp; weak = refl; apart = λ e. cc }
more_ends (x ∷ ss) ts rest sp =
    let c = cut (sign w.Comma) (spell_setting x ++ spell_more_settings ss) sp in
    record { word = w.Comma; after = c.mid; there = one_is w.Comma c.front; weak = refl; apart = λ e. cc }

more_finds : (most : ℕ) (ss : List SettingTree) (ts rest : List Token) → AreSettingsShaped ss → Spelled (spell_more_settings ss) ts rest → over_settings ss ≤ most → (mid : List Token) × Chain (Takes (next_setting most)) ss ts mid × Sign w.CloseRound mid rest
more_finds most [] ts rest sh sp hi = (ts, refl, one_is w.CloseRound sp)
more_finds most (x ∷ ss) ts rest sh sp hi =
    let c = cut (sign w.Comma) (spell_setting x ++ spell_more_settings ss) sp in
    let d = cut (spell_setting x) (spell_more_settings ss) c.back in
    let comma = one_is w.Comma c.front in
    let r = more_finds most ss d.mid rest sh.1 d.back (omega arith) in
    let read = setting_finds x most c.mid d.mid sh.0 d.front (omega arith) (more_ends ss d.mid rest d.back) in
    let taken : next_setting most ts ≡ Some (Some (x, d.mid)) =
    if_true _ _ _ _ (ahead_is s.Comma true w.Comma ts c.mid comma refl) (bind_some _ c.mid _ _ (behind_finds s.Comma ts c.mid comma) (bind_some _ (x, d.mid) _ _ read refl)) in
    (r.0, (d.mid, (taken, omega (arith, ap length comma.1, setting_shorter x c.mid d.mid d.front)), r.1), r.2)

ends_settings : (most : ℕ) (ts rest : List Token) → Sign w.CloseRound ts rest → next_setting most ts ≡ Some None
ends_settings most ts rest f = if_false _ _ _ _ (ahead_is s.Comma false w.CloseRound ts rest f refl) refl

setting_open : (most : ℕ) (ts : List Token) (x : SettingTree × List Token) → setting most ts ≡ Some x → sign_ahead s.CloseRound ts ≡ false
setting_open most ts x e = not_true _ (λ yes. closed ts x e yes)
  where
    closed : (us : List Token) (y : SettingTree × List Token) → setting most us ≡ Some y → sign_ahead s.CloseRound us ≡ true → ⊥
    closed us y f shut =
        let r = setting_sound most us y f in
        against y.0.form us y.1 (unbegun y.0.at.line (spell_setting_form y.0.form) (setting_form_spelled y.0.form) r.spelled).1 shut
      where
        no_close : (u : Word) → first_of u ≢ begins_none → is_sign s.CloseRound u ≡ false
        no_close w.CloseRound h = absurd (h refl)
        no_close _ h = refl

        against : (g : SettingFormTree) (vs rest : List Token) → Spelled (spell_setting_form g) vs rest → sign_ahead s.CloseRound vs ≡ true → ⊥
        against (setting_named n v) vs rest sp shut =
            let c = cut (spell_name n) (sign w.Declare ++ spell v) sp in
            true≢false (sym shut ∙ ahead_is s.CloseRound false (w.Name n) vs c.mid (one_is (w.Name n) c.front) refl)
        against (setting_plain v) vs rest sp shut =
            let b = expr_begins v vs rest (expr_of v sp) in
            true≢false (sym shut ∙ ap (sign_ahead s.CloseRound) b.2 ∙ no_close b.0.word b.3)

pub settings_finds : (ss : List SettingTree) (most : ℕ) (ts rest : List Token) → AreSettingsShaped ss → Spelled (spell_settings ss) ts rest → over_settings ss ≤ most → settings most ts ≡ Some (ss, rest)
settings_finds [] most ts rest sh sp hi =
    let c = cut (sign w.OpenRound) (sign w.CloseRound) sp in
    let close = one_is w.CloseRound c.back in
    bind_some _ c.mid _ _ (behind_finds s.OpenRound ts c.mid (one_is w.OpenRound c.front))
    (if_true _ _ _ _ (ahead_is s.CloseRound true w.CloseRound c.mid rest close refl) (bind_some _ rest _ _ (behind_finds s.CloseRound c.mid rest close) refl))
settings_finds (x ∷ ss) most ts rest sh sp hi =
    let c = cut (sign w.OpenRound) (spell_setting x ++ spell_more_settings ss) sp in
    let d = cut (spell_setting x) (spell_more_settings ss) c.back in
    let read = setting_finds x most c.mid d.mid sh.0 d.front (omega arith) (more_ends ss d.mid rest d.back) in
    let m = more_finds most ss d.mid rest sh.1 d.back (omega arith) in
    bind_some _ c.mid _ _ (behind_finds s.OpenRound ts c.mid (one_is w.OpenRound c.front))
    (if_false _ _ _ _ (setting_open most c.mid (x, d.mid) read)
    (bind_some _ (x, d.mid) _ _ read
    (bind_some _ (x ∷ ss, m.0) _ _ (onto_finds (next_setting most) (x ∷ []) ss d.mid m.0 m.1 (ends_settings most m.0 rest m.2))
    (bind_some _ rest _ _ (behind_finds s.CloseRound m.0 rest m.2) refl))))

-- bodies

pub record IsCommand (c : Command) (ts rest : List Token) : Type 0 where
  pub shaped : IsCommandShaped c
  pub spelled : Spelled (spell_command c) ts rest

command_sound : (ts : List Token) (x : Command × List Token) → command ts ≡ Some x → IsCommand x.0 ts x.1
command_sound [] x e = cc
command_sound (t ∷ ts) x e = by_word t.word refl e
  where
    by_word : (u : Word) → t.word ≡ u → command_by t.line u ts ≡ Some x → IsCommand x.0 (t ∷ ts) x.1
    by_word (w.Sys ps) is e =
        subst (λ (y : Command × List Token). IsCommand y.0 (t ∷ ts) y.1) (some_same _ _ e)
        (record { shaped = refl; spelled = begun t.line (t, ts, refl, refl) (one (sign_at (w.Sys ps) t ts is)) })
    by_word _ is e = cc

command_sign : (c : Command) (ts rest : List Token) → Spelled (spell_command c) ts rest → Starts c.at.line ts × Sign (w.Sys c.text) ts rest
command_sign c ts rest sp =
    let u = unbegun c.at.line (sign (w.Sys c.text)) (any (w.Sys c.text), [], refl) sp in
    (u.0, one_is (w.Sys c.text) u.1)

command_is : (c : Command) (l : ℕ) → c.at.file ≡ 0 → l ≡ c.at.line → record { at = here l; text = c.text } ≡ c
command_is c l g h = ap (λ u. record { at = record { file = 0; line = u }; text = c.text }) h ∙ ap (λ u. record { at = record { file = u; line = c.at.line }; text = c.text }) (sym g)

command_finds : (c : Command) (ts rest : List Token) → IsCommandShaped c → Spelled (spell_command c) ts rest → command ts ≡ Some (c, rest)
command_finds c ts rest sh sp =
    let f = command_sign c ts rest sp in
    let line : f.1.0 ≡ c.at.line = sym (ap line_ahead f.1.1) ∙ first_is c.at.line ts f.0 in
    ap command f.1.1 ∙ ap (λ y. Some (y, rest)) (command_is c f.1.0 sh line)

abbrev IsNextCommand : Command → List Token → List Token → Type 0
IsNextCommand c ts rest = (mid : List Token) × IsCommand c ts mid × Sign w.Semicolon mid rest

next_command_sound : (ts : List Token) (x : Command × List Token) → next_command ts ≡ Some (Some x) → IsNextCommand x.0 ts x.1
next_command_sound ts x e =
    ⊎_elim
    (λ (p : (sign_ahead s.CloseBlock ts ≡ true) × (Some None ≡ Some (Some x))). let q = some_same _ _ p.1 in cc)
    (λ (p : (sign_ahead s.CloseBlock ts ≡ false) × ((command ts >>= λ c. behind (is_sign s.Semicolon) c.1 >>= λ rest. Some (Some (c.0, rest))) ≡ Some (Some x))).
    let c = bind_ok _ _ _ p.1 in
    let b = bind_ok _ _ _ c.2 in
    let same : (c.0.0, b.0) ≡ x = some_same _ _ (some_same _ _ b.2) in
    subst (λ (y : Command × List Token). IsNextCommand y.0 ts y.1) same (c.0.1, command_sound ts c.0 c.1, behind_sound s.Semicolon c.0.1 b.0 b.1))
    (chosen _ _ _ _ e)

record AreCommands (cs : List Command) (ts rest : List Token) : Type 0 where
  shaped : AllByRecursion IsCommandShaped cs
  spelled : Spelled (spell_commands cs) ts rest

commands_sound : (cs : List Command) (ts mid rest : List Token) → Chain IsNextCommand cs ts mid → Sign w.CloseBlock mid rest → AreCommands cs ts rest
commands_sound [] ts mid rest c close = record { shaped = tt; spelled = subst (λ u. Spelled (sign w.CloseBlock) u rest) (sym c) (one close) }
commands_sound (x ∷ cs) ts mid rest c close =
    let r = commands_sound cs c.0 mid rest c.2 close in
    record { shaped = (c.1.1.shaped, r.shaped); spelled = join c.1.1.spelled (join (one c.1.2) r.spelled) }

pub record IsBody (b : Body) (ts rest : List Token) : Type 0 where
  pub shaped : IsBodyShaped b
  pub spelled : Spelled (spell_body b) ts rest

pub body_sound : (ts : List Token) (x : Body × List Token) → body ts ≡ Some x → IsBody x.0 ts x.1
body_sound ts x e =
    ⊎_elim
    (λ (p : (sign_ahead s.OpenBlock ts ≡ true) × ((behind (is_sign s.OpenBlock) ts >>= λ a. many_onto next_command [] a >>= λ cs. behind (is_sign s.CloseBlock) cs.1 >>= λ rest. Some (body_form.Block cs.0, rest)) ≡ Some x)).
    let a = bind_ok _ _ _ p.1 in
    let cs = bind_ok _ _ _ a.2 in
    let b = bind_ok _ _ _ cs.2 in
    let m = onto_sound next_command IsNextCommand next_command_sound [] a.0 cs.0 cs.1 in
    let r = commands_sound m.0 a.0 cs.0.1 b.0 m.2.chain (behind_sound s.CloseBlock cs.0.1 b.0 b.1) in
    let same : (body_form.Block cs.0.0, b.0) ≡ x = some_same _ _ b.2 in
    subst (λ (y : Body × List Token). IsBody y.0 ts y.1) same
    (subst (λ us. IsBody (body_form.Block us) ts b.0) (sym m.1) (record { shaped = r.shaped; spelled = join (one (behind_sound s.OpenBlock ts a.0 a.1)) r.spelled })))
    (λ (p : (sign_ahead s.OpenBlock ts ≡ false) × ((command ts >>= λ c. Some (body_form.Sys c.0, c.1)) ≡ Some x)).
    let c = bind_ok _ _ _ p.1 in
    let r = command_sound ts c.0 c.1 in
    let same : (body_form.Sys c.0.0, c.0.1) ≡ x = some_same _ _ c.2 in
    subst (λ (y : Body × List Token). IsBody y.0 ts y.1) same (record { shaped = r.shaped; spelled = r.spelled }))
    (chosen _ _ _ _ e)

commands_find : (cs : List Command) (ts rest : List Token) → AllByRecursion IsCommandShaped cs → Spelled (spell_commands cs) ts rest → (mid : List Token) × Chain (Takes next_command) cs ts mid × Sign w.CloseBlock mid rest
commands_find [] ts rest sh sp = (ts, refl, one_is w.CloseBlock sp)
commands_find (x ∷ cs) ts rest sh sp =
    let c = cut (spell_command x) (sign w.Semicolon ++ spell_commands cs) sp in
    let d = cut (sign w.Semicolon) (spell_commands cs) c.back in
    let f = command_sign x ts c.mid c.front in
    let end = one_is w.Semicolon d.front in
    let r = commands_find cs d.mid rest sh.1 d.back in
    let taken : next_command ts ≡ Some (Some (x, d.mid)) =
    if_false _ _ _ _ (ahead_is s.CloseBlock false (w.Sys x.text) ts c.mid f.1 refl) (bind_some _ (x, c.mid) _ _ (command_finds x ts c.mid sh.0 c.front) (bind_some _ d.mid _ _ (behind_finds s.Semicolon c.mid d.mid end) refl)) in
    (r.0, (d.mid, (taken, omega (arith, ap length f.1.1, ap length end.1)), r.1), r.2)

pub body_finds : (b : Body) (ts rest : List Token) → IsBodyShaped b → Spelled (spell_body b) ts rest → body ts ≡ Some (b, rest)
body_finds (body_form.Sys c) ts rest sh sp =
    let f = command_sign c ts rest sp in
    if_false _ _ _ _ (ahead_is s.OpenBlock false (w.Sys c.text) ts rest f.1 refl) (bind_some _ (c, rest) _ _ (command_finds c ts rest sh sp) refl)
body_finds (body_form.Block cs) ts rest sh sp =
    let c = cut (sign w.OpenBlock) (spell_commands cs) sp in
    let opened = one_is w.OpenBlock c.front in
    let m = commands_find cs c.mid rest sh c.back in
    if_true _ _ _ _ (ahead_is s.OpenBlock true w.OpenBlock ts c.mid opened refl)
    (bind_some _ c.mid _ _ (behind_finds s.OpenBlock ts c.mid opened)
    (bind_some _ (cs, m.0) _ _ (onto_finds next_command [] cs c.mid m.0 m.1 (if_true _ _ _ _ (ahead_is s.CloseBlock true w.CloseBlock m.0 rest m.2 refl) refl))
    (bind_some _ rest _ _ (behind_finds s.CloseBlock m.0 rest m.2) refl)))
