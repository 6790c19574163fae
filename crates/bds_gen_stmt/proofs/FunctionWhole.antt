-- The functions of blocks are whole, where their code isn't too long.
use Rattle.std.proofs.Common.{◌≡◌, ◌≤◌, ◌<◌, ◌+◌, ◌&&◌, ◌||◌, ℕ, List, [], ◌∷◌, ◌++◌, length, length-append, Bool, true, false, not, refl, sym, ◌∙◌, ap, arith, rules, nat_eq, nat_lt, if◌then◌else◌}
use Rattle.std.specs.Prelude.{nat_le}
use Rattle.std.specs.List.{AllByRecursion, list_all}
use Rattle.std.proofs.lemmas.Grind.{common_steps}
use Rattle.bds_value.specs.declared.TheConstants.{MAX_COUNT, MAX_TEXT, MAX_CODE, MAX_SLOTS}
use Rattle.bds_value.specs.declared.value.At.{At}
use Rattle.bds_value.specs.declared.value.Ty.{Ty}
use Rattle.bds_value.specs.Fields.{is_solid}
use Rattle.bds_value.specs.Types.{is_void}
use Rattle.bds_tree.specs.StmtTree.{BlockTree, block}
use Rattle.bds_code.specs.declared.instr.Instr.TheVariants.{PushDefault, Return}
use Rattle.bds_code.specs.declared.unit.Function.{Function}
use Rattle.bds_code.specs.declared.unit.Unit.{Unit as CodeUnit}
use Rattle.bds_verify.specs.Whole.{is_value_ty, are_value_tys, is_text, is_whole_instr, rises, is_label, are_labels, is_code, are_lines, is_heading, is_whole}
use Rattle.bds_check_names.specs.declared.names.Names.{Names}
use Rattle.bds_check_names.specs.declared.names.Site.{Site}
use Rattle.bds_check_names.specs.Slots.{block_slots, are_too_many}
use Rattle.bds_check_names.specs.Types.{is_known}
use Rattle.bds_check_typing.specs.WellTypedStmts.{IsWellTypedBlock}
use Rattle.bds_check_typing.specs.Known.{IsBlockWritten}
use Rattle.bds_check_typing.specs.Proper.{IsInFile, IsProperBlock, IsWrittenResult}
use Rattle.bds_gen_expr.specs.Marks.{Mark, does, label, slot, count, slot_count, one, put, written}
use Rattle.bds_gen_expr.specs.declared.scope.Numbered.{Numbered}
use Rattle.bds_gen_expr.specs.declared.scope.Scope.{Scope}
use Rattle.bds_gen_expr.proofs.Written.{ret-is, params-is, length-written}
use Rattle.bds_gen_stmt.specs.FunctionCode.{fresh, eight, ending, opening, types_of, at_of_block, function_of}
use Rattle.bds_gen_stmt.specs.StmtCode.{block_code}
use Rattle.bds_gen_stmt.proofs.StmtCounts.{slot_counts}
use Rattle.bds_gen_stmt.proofs.WholeSlots.{block-slots}
use Rattle.bds_gen_stmt.proofs.Wholes.{AreValueTys, AreWhole, whole-then, within, both-true, written-value, bool-value, int-value, text-value, texts-value}
use Rattle.bds_gen_stmt.proofs.Written.{all-true, value-tys, lt-true, AreBefore, many-labels, Partly, EndsDoing, written-partly, written-before}
use Rattle.bds_gen_stmt.proofs.StmtWhole.{block-whole}

name-is : (ms : List Mark) (f : Function) → (written f ms).name ≡ f.name
name-is [] f = refl
name-is (does i at ∷ ms) f = name-is ms (put f (does i at))
name-is (label s ∷ ms) f = name-is ms (put f (label s))
name-is (slot t ∷ ms) f = name-is ms (put f (slot t))

locals-many : (ms : List Mark) (f : Function) → length (written f ms).locals ≡ length f.locals + slot_count ms
locals-many [] f = omega arith
locals-many (does i at ∷ ms) f = locals-many ms (put f (does i at))
locals-many (label s ∷ ms) f = locals-many ms (put f (label s))
locals-many (slot t ∷ ms) f = let a = length-append f.locals (t ∷ []) in let b : length (written f (slot t ∷ ms)).locals ≡ length (f.locals ++ t ∷ []) + slot_count ms = locals-many ms (put f (slot t)) in omega (arith, a, b)

both-alike : (n m : ℕ) → n ≡ m → nat_eq n m ≡ true
both-alike n m h = grind (arith, common_steps)

true-or : (a b : Bool) → a ≡ true → (a || b) ≡ true
true-or true b h = refl
true-or false b h = absurd (search (rules, h))

or-true : (a b : Bool) → b ≡ true → (a || b) ≡ true
or-true true b h = refl
or-true false b h = h

-- a result, or none
pub result-value : (t : Ty) → IsWrittenResult t → (is_void t || is_value_ty t) ≡ true
result-value t h = by (is_void t) refl
  where
    by : (b : Bool) → is_void t ≡ b → (is_void t || is_value_ty t) ≡ true
    by true e = true-or (is_void t) (is_value_ty t) e
    by false e = or-true (is_void t) (is_value_ty t) (written-value t (ap (λ b. b || is_solid t) (sym e) ∙ h.0) h.1)

labels-all : (n : ℕ) (ls : List (ℕ × List Ty)) → AreBefore n ls → AllByRecursion (λ l. are_value_tys l.1 ≡ true) ls → AllByRecursion (λ l. is_label n l ≡ true) ls
labels-all n [] h k = tt
labels-all n (l ∷ ls) h k = (both-true (nat_lt l.0 n) (are_value_tys l.1) (lt-true l.0 n h.0) k.0, labels-all n ls h.1 k.1)

module _ (u : CodeUnit) where
  abbrev files : ℕ
  files = length u.files

  some-code : (ms : List Mark) → EndsDoing files ms → 0 < count ms
  some-code [] d = absurd d
  some-code (does i at ∷ ms) d = omega arith
  some-code (label s ∷ []) d = absurd d
  some-code (slot t ∷ []) d = absurd d
  some-code (label s ∷ (k ∷ ms)) d = some-code (k ∷ ms) d
  some-code (slot t ∷ (k ∷ ms)) d = some-code (k ∷ ms) d

  pub ends-after : (ms : List Mark) (k : Mark) (ns : List Mark) → EndsDoing files (k ∷ ns) → EndsDoing files (ms ++ k ∷ ns)
  ends-after [] k ns d = d
  ends-after (does i at ∷ []) k ns d = d
  ends-after (label s ∷ []) k ns d = d
  ends-after (slot t ∷ []) k ns d = d
  ends-after (does i at ∷ (m ∷ ms)) k ns d = ends-after (m ∷ ms) k ns d
  ends-after (label s ∷ (m ∷ ms)) k ns d = ends-after (m ∷ ms) k ns d
  ends-after (slot t ∷ (m ∷ ms)) k ns d = ends-after (m ∷ ms) k ns d

  pub ends-any : (ms ns : List Mark) → EndsDoing files ns → EndsDoing files (ms ++ ns)
  ends-any ms [] d = absurd d
  ends-any ms (k ∷ ns) d = ends-after ms k ns d

  pub ending-ends : (ret : Ty) (at : At) → EndsDoing files (ending ret at)
  ending-ends ret at = by (not (is_known ret))
    where
      by : (b : Bool) → EndsDoing files (if b then one at Return else does (PushDefault ret) at ∷ does Return at ∷ [])
      by true = tt
      by false = tt

  module _ (x : List ℕ) (params : List Ty) (ret : Ty) (ms : List Mark) where
    abbrev F : Function
    F = written (fresh x params ret) ms

    begun : Partly files (fresh x params ret)
    begun = record { code = tt; lines = tt; alike = refl; rising = refl; up_to = tt; types = tt; locals = tt }

    pub marks-whole : length x ≤ MAX_TEXT → AreValueTys params → length params ≤ MAX_COUNT → (is_void ret || is_value_ty ret) ≡ true → AreWhole files ms 0 → EndsDoing files ms → slot_count ms ≤ MAX_COUNT → length F.code ≤ MAX_CODE → is_whole u F ≡ true
    marks-whole short values few result whole ends slots size =
        let many : length F.code ≡ 0 + count ms = length-written ms (fresh x params ret) in
        let at_least = some-code ms ends in
        let within_size : 0 + count ms ≤ MAX_CODE = omega (arith, many, size) in
        let p : Partly files F = written-partly files ms (fresh x params ret) 0 refl begun whole within_size in
        let before : AreBefore (length F.code) F.labels = written-before files ms (fresh x params ret) 0 refl begun whole within_size ends in
        let labels_few = many-labels F.labels (length F.code) p.rising before in
        let locals_many : length F.locals ≡ 0 + slot_count ms = locals-many ms (fresh x params ret) in
        let name_short : is_text F.name ≡ true = ap is_text (name-is ms (fresh x params ret)) ∙ within (length x) MAX_TEXT short in
        let params_are : are_value_tys F.params ≡ true = ap are_value_tys (params-is ms (fresh x params ret)) ∙ value-tys params values few in
        let locals_are : are_value_tys F.locals ≡ true = value-tys F.locals p.locals (omega (arith, locals_many, slots)) in
        let ret_is : (is_void F.ret || is_value_ty F.ret) ≡ true = ap (λ t. is_void t || is_value_ty t) (ret-is ms (fresh x params ret)) ∙ result in
        let heading : is_heading F ≡ true =
        both-true (is_text F.name) (are_value_tys F.params && (are_value_tys F.locals && (is_void F.ret || is_value_ty F.ret))) name_short
        (both-true (are_value_tys F.params) (are_value_tys F.locals && (is_void F.ret || is_value_ty F.ret)) params_are (both-true (are_value_tys F.locals) (is_void F.ret || is_value_ty F.ret) locals_are ret_is)) in
        let code_is : is_code F.code ≡ true =
        both-true (nat_lt 0 (length F.code)) (nat_le (length F.code) MAX_CODE && list_all is_whole_instr F.code) (lt-true 0 (length F.code) (omega (arith, many, at_least)))
        (both-true (nat_le (length F.code) MAX_CODE) (list_all is_whole_instr F.code) (within (length F.code) MAX_CODE size) (all-true is_whole_instr F.code p.code)) in
        let labels_are : are_labels (length F.code) F.labels ≡ true =
        both-true (nat_le (length F.labels) MAX_COUNT) (rises F.labels && list_all (is_label (length F.code)) F.labels) (within (length F.labels) MAX_COUNT (omega (arith, labels_few, size)))
        (both-true (rises F.labels) (list_all (is_label (length F.code)) F.labels) p.rising (all-true (is_label (length F.code)) F.labels (labels-all (length F.code) F.labels before p.types))) in
        let lines_are : are_lines files (length F.code) F.lines ≡ true =
        both-true (nat_eq (length F.lines) (length F.code)) (list_all (λ a. nat_lt a.file files) F.lines) (both-alike (length F.lines) (length F.code) p.alike) (all-true (λ a. nat_lt a.file files) F.lines p.lines) in
        both-true (is_heading F) (is_code F.code && (are_labels (length F.code) F.labels && are_lines files (length F.code) F.lines)) heading
        (both-true (is_code F.code) (are_labels (length F.code) F.labels && are_lines files (length F.code) F.lines) code_is (both-true (are_labels (length F.code) F.labels) (are_lines files (length F.code) F.lines) labels_are lines_are))

  abbrev pub IsWholeIfSmall : Function → Type 0
  IsWholeIfSmall f = length f.code ≤ MAX_CODE → is_whole u f ≡ true

  pub ending-whole : (ret : Ty) (at : At) (p : ℕ) → IsInFile files at → (is_known ret ≡ true → is_value_ty ret ≡ true) → AreWhole files (ending ret at) p
  ending-whole ret at p i h = by (is_known ret) refl
    where
      by : (b : Bool) → is_known ret ≡ b → AreWhole files (if not b then one at Return else does (PushDefault ret) at ∷ does Return at ∷ []) p
      by true e = (h e, i, (tt, i, tt))
      by false e = (tt, i, tt)

  -- the slots that tasks need, and what stands behind them
  pub eight-whole : (ms : List Mark) → AreWhole files ms 0 → AreWhole files (eight ++ ms) 0
  eight-whole ms h = (texts-value, (texts-value, (int-value, (bool-value, (int-value, (text-value, (bool-value, (text-value, h))))))))

  pub eight-slots : (ms : List Mark) → slot_count (eight ++ ms) ≡ 8 + slot_count ms
  eight-slots ms = omega arith

  pub ending-slots : (ret : Ty) (at : At) → slot_count (ending ret at) ≡ 0
  ending-slots ret at = by (not (is_known ret))
    where
      by : (b : Bool) → slot_count (if b then one at Return else does (PushDefault ret) at ∷ does Return at ∷ []) ≡ 0
      by true = refl
      by false = refl

  pub room : (n : ℕ) → are_too_many n ≡ false → n + 8 ≤ MAX_SLOTS
  room n h = not-less MAX_SLOTS (n + 8) h
    where
      not-less : (a b : ℕ) → nat_lt a b ≡ false → b ≤ a
      not-less a b h = grind (arith, common_steps)

  in-block : (b : BlockTree) → IsProperBlock files b → IsInFile files (at_of_block b)
  in-block (block at ss) h = h.0

  pub function-whole : (x : List ℕ) (ls : List Numbered) (ret : Ty) (sc : Scope) (b : BlockTree) (n : ℕ) (names : Names) (site : Site) → length x ≤ MAX_TEXT → AreValueTys (types_of ls) → length (types_of ls) ≤ MAX_COUNT → (is_void ret || is_value_ty ret) ≡ true
      → (is_known ret ≡ true → is_value_ty ret ≡ true) → are_too_many (length ls + block_slots b) ≡ false → IsProperBlock files b → IsWellTypedBlock b names site → IsBlockWritten b → IsWholeIfSmall (function_of x ls ret sc b n)
  function-whole x ls ret sc b n names site short values few result known_value rule pr w k size =
      let body : List Mark = block_code b (opening sc ls) n 0 in
      let last : List Mark = ending ret (at_of_block b) in
      let ms : List Mark = eight ++ (body ++ last) in
      let whole : AreWhole files ms 0 = eight-whole (body ++ last) (whole-then files body last 0 (count body) (omega arith) (block-whole files b names site (opening sc ls) n 0 pr w k) (ending-whole ret (at_of_block b) (count body) (in-block b pr) known_value)) in
      let ends : EndsDoing files ms = ends-any eight (body ++ last) (ends-any body last (ending-ends ret (at_of_block b))) in
      let s1 = eight-slots (body ++ last) in
      let s2 = slot_counts body last in
      let s3 = block-slots b (opening sc ls) n 0 refl in
      let s4 = ending-slots ret (at_of_block b) in
      let most = room (length ls + block_slots b) rule in
      marks-whole x (types_of ls) ret ms short values few result whole ends (omega (arith, s1, s2, s3, s4, most)) size
