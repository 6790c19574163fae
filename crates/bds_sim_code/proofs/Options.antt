-- The code of the options of a task or a rule begins their terms, each over those that are in their slots.
use Rattle.std.proofs.Common.{◌≡◌, ℕ, ◌+◌, pos, Bool, true, false, ◌||◌, List, [], ◌∷◌, ◌++◌, append-nil, Option, refl, sym, ap, ◌∙◌, subst, inl, inr, arith, if◌then◌else◌}
use Rattle.std.specs.Prelude.{codes}
use Rattle.std.specs.Str.{bytes_eq}
use Rattle.bds_value.specs.declared.value.At.{At}
use Rattle.bds_value.specs.declared.value.Ty.{Ty}
use Rattle.bds_value.specs.declared.value.Ty.TheVariants as ty
use Rattle.bds_value.specs.Value.{default_of, default_at}
use Rattle.bds_tree.specs.StmtTree.{SettingFormTree, setting_named, setting_plain, SettingTree}
use Rattle.bds_tree.specs.Tree.{Tree, node, dependency, type_of}
use Rattle.bds_code.specs.declared.instr.Instr.{Instr}
use Rattle.bds_code.specs.declared.instr.Instr.TheVariants as instr
use Rattle.bds_code.specs.declared.unit.Unit.{Unit as CodeUnit}
use Rattle.bds_check_names.specs.declared.names.Names.{Names as Checked}
use Rattle.bds_check_rules.specs.StmtBreaks.{any_dependency}
use Rattle.bds_check_size.specs.ExprSize.{expr_size, files_size}
use Rattle.bds_check_size.specs.StmtSize.{setting_size, settings_size, is_condition, has_option, has_condition, unless_size, defaults_size}
use Rattle.bds_gen_expr.specs.ExprCode.{expr_code, files_code, listing}
use Rattle.bds_gen_expr.specs.Marks.{Mark, does, one as one_mark}
use Rattle.bds_gen_expr.specs.Scope.{types_in}
use Rattle.bds_gen_expr.specs.declared.scope.Scope.{Scope}
use Rattle.bds_gen_expr.proofs.Counts.{expr-count}
use Rattle.bds_gen_stmt.specs.TaskCode.{option_slot as slot_named, outs_slot, ins_slot, set_unless, defaults_code, joining_code, asks_date, setting_code, settings_code}
use Rattle.bds_gen_stmt.proofs.ActCounts.{files-count, setting-count, unless-count}
use Rattle.bds_meaning.specs.OpeningActs.{weighed_in, setting_term, settings_term}
use Rattle.bds_meaning.specs.OpeningExpressions.{term_of, files_term}
use Rattle.bds_meaning.specs.Term.{Term, Settle, Weigh, Make, Making, as_task, as_rule, work_in}
use Rattle.bds_schedule.specs.Values.{of_texts}
use Rattle.bds_meaning.specs.Work.{Setting, Outputs, Inputs, Processors, CanFail, Retries, TaskName, Condition, unset}
use Rattle.bds_sim_terms.specs.steps.Stands.{Source, Names, Loop, IsPush, option_slot, noted_in, slots_of, IsTested, Is, Comes, AreSpare, Joins, Notes, Sets, Options}
use Rattle.bds_sim_code.proofs.Blocks.{Part, Form, comes_here, comes_jump}
use Rattle.bds_sim_code.proofs.Exprs.{files_begin}
use Rattle.bds_sim_code.proofs.Agree.{Agrees}
use Rattle.bds_sim_code.proofs.Known.{known_form, known_after, unset_behind, defaults_of}
use Rattle.bds_sim_code.proofs.Marked.{Has, has_cut}
use Rattle.bds_sim_code.proofs.Places.{cut, value_begins}
use Rattle.bds_sim_code.specs.StmtHere.{Value, SettingHere, SettingsHere}

-- a rule isn't asked whether its files are out of date
abbrev pub is_rule : Making → Bool
is_rule as_task = false
is_rule as_rule = true

-- options and what is behind them start with no value

work_setting : (names : Checked) (at : At) (making : Making) (f : SettingFormTree) (rest : Term) → work_in (setting_term names at making f rest) ≡ work_in rest
work_setting names at making (setting_named x e) rest = refl
work_setting names at as_task (setting_plain (node place t (dependency a b))) rest = refl
work_setting names at as_rule (setting_plain (node place t (dependency a b))) rest = refl
work_setting names at making (setting_plain (node place t f)) rest = refl

pub work_settings : (names : Checked) (making : Making) (os : List SettingTree) (rest : Term) → work_in (settings_term names making os rest) ≡ work_in rest
work_settings names making [] rest = refl
work_settings names making (s ∷ ss) rest = work_setting names s.at making s.form (settings_term names making ss rest) ∙ work_settings names making ss rest

-- the slot of an option by its name, and what it takes

slot_is : (first : ℕ) (a b c : Bool) → (if a then first + 2 else (if b then first + 3 else (if c then first + 4 else first + 5)))
    ≡ option_slot first (if a then Processors else (if b then CanFail else (if c then Retries else TaskName)))
slot_is first true b c = refl
slot_is first false true c = refl
slot_is first false false true = refl
slot_is first false false false = refl

pub first_slot : (first : ℕ) → first ≡ first + 0
first_slot first = omega arith

no_texts : of_texts [] ≡ default_of (ty.List ty.Text)
no_texts = sym (ap default_at (ty.outs-List ty.Text))

six : (pc a b c d e f : ℕ) → pc + a + b + c + d + e + f ≡ pc + (a + b + c + d + e + f)
six pc a b c d e f = omega arith

either_first : (a b : Bool) → a ≡ true → (a || b) ≡ true
either_first true b e = refl
either_first false b e = absurd (cc)

either_second : (a b : Bool) → b ≡ true → (a || b) ≡ true
either_second true b e = refl
either_second false b e = e

module _ (o : Source) (u : CodeUnit) (fn : ℕ) (first : ℕ) where
  abbrev H : List Mark → ℕ → Type 0
  H ms pc = Has o u fn ms pc

  abbrev C : ℕ → ℕ → Type 0
  C pc to = Comes o u fn pc to

  pub joins_at : (at : At) (s : List Ty) (pc to : ℕ) → H (joining_code at first pc s) pc → pc + 4 ≡ to → Joins o u fn first pc to
  joins_at at s pc to h e = record {
    no = pc + 2;
    back = pc + 4;
    test = h.0.is;
    over = subst (λ k. C (pc + 1) k) e (comes_jump o u fn (pc + 1) (pc + 4) (pc + 4) h.1.0.is (comes_here o u fn (pc + 4)));
    off = (
      subst (λ k. Is o u fn k (instr.PushBool false)) (let q : pc + 1 + 1 ≡ pc + 2 = omega arith in q) h.1.1.0.is,
      (subst (λ k. Is o u fn k (instr.Store (first + 6))) (let q : pc + 1 + 1 + 1 ≡ pc + 2 + 1 = omega arith in q) h.1.1.1.0.is, (let q : pc + 2 + 1 + 1 ≡ pc + 4 = omega arith in q)),
    );
    on = subst (λ k. C (pc + 4) k) e (comes_here o u fn (pc + 4));
  }

  notes_named : (a b c : Bool) (mid : ℕ) → Is o u fn mid (instr.Store (if a then first + 2 else (if b then first + 3 else (if c then first + 4 else first + 5))))
      → Notes o u (if a then Processors else (if b then CanFail else (if c then Retries else TaskName))) fn first mid (mid + 1)
  notes_named true b c mid is = (is, refl)
  notes_named false true c mid is = (is, refl)
  notes_named false false true mid is = (is, refl)
  notes_named false false false mid is = (is, refl)

  tested_named : (a b c tested : Bool) → IsTested (if a then Processors else (if b then CanFail else (if c then Retries else TaskName))) tested
  tested_named true b c tested = tt
  tested_named false true c tested = tt
  tested_named false false true tested = tt
  tested_named false false false tested = tt

  -- defaults

  set_one : (there : Bool) (at : At) (push : Instr) (k : Setting) (i : ℕ) (ks : List Setting) (from mid : ℕ) → i ≡ option_slot first k → IsPush push (noted_in unset k) → Sets o u unset fn first from ks mid → H (set_unless there at push i) mid
      → Sets o u unset fn first from (unset_behind there k ks) (mid + unless_size there)
  set_one true at push k i ks from mid e is_push sets h = subst (Sets o u unset fn first from ks) (let q : mid ≡ mid + 0 = omega arith in q) sets
  set_one false at push k i ks from mid e is_push sets h =
      (mid, sets, (push, is_push, (h.0.is, (subst (λ j. Is o u fn (mid + 1) (instr.Store j)) e h.1.0.is, (let q : mid + 1 + 1 ≡ mid + 2 = omega arith in q)))))

  module _ (os : List SettingTree) (at : At) where
    abbrev hd : Bool
    hd = any_dependency os

    abbrev hc : Bool
    hc = has_option (codes "cpus") os

    abbrev hf : Bool
    hf = has_option (codes "canFail") os

    abbrev hr : Bool
    hr = has_option (codes "retry") os

    abbrev hn : Bool
    hn = has_option (codes "taskName") os

    abbrev texts : Instr
    texts = instr.PushDefault (ty.List ty.Text)

    split_at : (there : Bool) (push : Instr) (i : ℕ) (ys : List Mark) (pc : ℕ) → H (set_unless there at push i ++ ys) pc → H (set_unless there at push i) pc × H ys (pc + unless_size there)
    split_at there push i ys pc h = has_cut o u fn (set_unless there at push i) ys pc (unless_size there) (unless-count there at push i) h

    -- what an option is that isn't there
    pub defaults_set : (pc : ℕ) → H (defaults_code os at first) pc → Sets o u unset fn first pc (defaults_of os) (pc + defaults_size os)
    defaults_set pc h =
        let m1 = pc + unless_size hd in
        let m2 = m1 + unless_size hd in
        let m3 = m2 + unless_size hc in
        let m4 = m3 + unless_size hf in
        let m5 = m4 + unless_size hr in
        let r1 = split_at hd texts (outs_slot first) _ pc h in
        let r2 = split_at hd texts (ins_slot first) _ m1 r1.1 in
        let r3 = split_at hc (instr.PushInt (pos 1)) (first + 2) _ m2 r2.1 in
        let r4 = split_at hf (instr.PushBool false) (first + 3) _ m3 r3.1 in
        let r5 = split_at hr (instr.PushInt (pos 0)) (first + 4) _ m4 r4.1 in
        let s1 = set_one hd at texts Outputs (outs_slot first) [] pc pc (first_slot first) no_texts refl r1.0 in
        let s2 = set_one hd at texts Inputs (ins_slot first) _ pc m1 refl no_texts s1 r2.0 in
        let s3 = set_one hc at (instr.PushInt (pos 1)) Processors (first + 2) _ pc m2 refl refl s2 r3.0 in
        let s4 = set_one hf at (instr.PushBool false) CanFail (first + 3) _ pc m3 refl refl s3 r4.0 in
        let s5 = set_one hr at (instr.PushInt (pos 0)) Retries (first + 4) _ pc m4 refl refl s4 r5.0 in
        let s6 = set_one hn at (instr.PushText []) TaskName (first + 5) _ pc m5 refl refl s5 r5.1 in
        subst (Sets o u unset fn first pc (defaults_of os)) (six pc (unless_size hd) (unless_size hd) (unless_size hc) (unless_size hf) (unless_size hr) (unless_size hn)) s6

  module _ (held : List ℕ) (ns : Names) (names : Checked) (sc : Scope) (agrees : Agrees o u names sc ns) where
    abbrev T : List ℕ → Option Ty
    T = types_in sc

    -- files, over slots that are held
    files_at : (e : Tree) (over : List ℕ) (at : At) (s : List Ty) (pc : ℕ) → Value o u names sc e → H (files_code e at sc pc s) pc → Part o u fn over ns (files_term names at e) pc (pc + files_size T e) 1
    files_at e over at s pc v h =
        let n = expr_size T e in
        let r = cut o u fn over ns names sc agrees (expr_code e sc pc s) (listing at (type_of e)) pc n (expr-count e sc pc s) h in
        files_begin o u fn over ns names sc agrees (type_of e) at (term_of names e) pc (pc + n) (pc + files_size T e) (value_begins o u fn over ns names sc agrees e s pc v r.0) r.1 (omega arith)

    module _ (exit kind : ℕ) (tested : Bool) where
      -- a term of options begins at a place, where these are in their slots
      abbrev pub After : Term → List Setting → ℕ → Type 0
      After t ks pc = Options o u t fn held ns exit kind first tested ks pc

      after_at : (t : Term) (ks : List Setting) (a b : ℕ) → a ≡ b → After t ks a → After t ks b
      after_at t ks a b e h = subst (After t ks) e h

      weighed : (making : Making) (at : At) (rest : Term) (s : List Ty) (ks : List Setting) (pc : ℕ) → tested ≡ true → H (asks_date (is_rule making) at first pc s) pc → After rest (Inputs ∷ Outputs ∷ ks) (pc + (if is_rule making then 0 else 7)) → After (weighed_in making at rest) (Inputs ∷ Outputs ∷ ks) pc
      weighed as_rule at rest s ks pc e h r = after_at rest (Inputs ∷ Outputs ∷ ks) (pc + 0) pc (omega arith) r
      weighed as_task at rest s ks pc e h r =
          let asks = pc + 1 + 1 in
          let to = pc + 7 in
          let joining : H (joining_code at first (pc + 3) s) (pc + 3) = subst (H (joining_code at first (pc + 3) s)) (let q : pc + 1 + 1 + 1 ≡ pc + 3 = omega arith in q) h.1.1.1 in (
            asks,
            to,
            (inr (inl refl), (inl refl, tt)),
            e,
            (subst (λ i. Is o u fn pc (instr.Load i)) (first_slot first) h.0.is, (h.1.0.is, refl)),
            h.1.1.0,
            subst (λ k. Joins o u fn first k to) (let q : pc + 3 ≡ asks + 1 = omega arith in q) (joins_at at s (pc + 3) to joining (omega arith)),
            r,
          )

      condition_after : (e : Tree) (at : At) (rest : Term) (s : List Ty) (ks : List Setting) (pc : ℕ) → Value o u names sc e → tested ≡ true → H (expr_code e sc pc s ++ joining_code at first (pc + expr_size T e) s) pc → After rest ks (pc + (expr_size T e + 4))
          → After (Settle Condition (term_of names e) rest) ks pc
      condition_after e at rest s ks pc v tests h r =
          let n = expr_size T e in
          let over : List ℕ = slots_of first ks ++ held in
          let q = cut o u fn over ns names sc agrees (expr_code e sc pc s) (joining_code at first (pc + n) s) pc n (expr-count e sc pc s) h in
          (pc + n, pc + (n + 4), value_begins o u fn over ns names sc agrees e s pc v q.0, joins_at at s (pc + n) (pc + (n + 4)) q.1 (omega arith), tests, r)

      files_after : (making : Making) (a b : Tree) (at : At) (rest : Term) (s : List Ty) (ks : List Setting) (pc : ℕ) → Value o u names sc a → Value o u names sc b → tested ≡ true
          → H (files_code a at sc pc s ++ (does (instr.Store (outs_slot first)) at ∷ (files_code b at sc (pc + files_size T a + 1) s ++ (does (instr.Store (ins_slot first)) at ∷ asks_date (is_rule making) at first (pc + files_size T a + 1 + files_size T b + 1) s)))) pc
          → After rest (Inputs ∷ Outputs ∷ ks) (pc + (files_size T a + 1 + (files_size T b + 1) + (if is_rule making then 0 else 7))) → After (Settle Outputs (files_term names at a) (Settle Inputs (files_term names at b) (weighed_in making at rest))) ks pc
      files_after making a b at rest s ks pc va vb tests h r =
          let na = files_size T a in
          let nb = files_size T b in
          let right = pc + na + 1 in
          let end = right + nb + 1 in
          let more : ℕ = if is_rule making then 0 else 7 in
          let over : List ℕ = slots_of first ks ++ held in
          let over_b : List ℕ = slots_of first (Outputs ∷ ks) ++ held in
          let q = cut o u fn over ns names sc agrees (files_code a at sc pc s) (does (instr.Store (outs_slot first)) at ∷ (files_code b at sc right s ++ (does (instr.Store (ins_slot first)) at ∷ asks_date (is_rule making) at first end s))) pc na (files-count a at sc pc s) h in
          let q2 = cut o u fn over ns names sc agrees (files_code b at sc right s) (does (instr.Store (ins_slot first)) at ∷ asks_date (is_rule making) at first end s) right nb (files-count b at sc right s) q.1.1 in (
            pc + na,
            right,
            files_at a over at s pc va q.0,
            (subst (λ i. Is o u fn (pc + na) (instr.Store i)) (first_slot first) q.1.0.is, refl),
            tt,
            (
              right + nb,
              end,
              files_at b over_b at s right vb q2.0,
              (q2.1.0.is, refl),
              tt,
              weighed making at rest s ks end tests q2.1.1 (after_at rest (Inputs ∷ Outputs ∷ ks) (pc + (na + 1 + (nb + 1) + more)) (end + more) (omega arith) r),
            ),
          )

      form_after : (f : SettingFormTree) (making : Making) (at : At) (rest : Term) (s : List Ty) (ks : List Setting) (pc : ℕ) → SettingHere o u names sc f → (is_condition f ≡ true → tested ≡ true) → H (setting_code (is_rule making) f at sc first pc s) pc
          → After rest (known_form f ks) (pc + setting_size T (is_rule making) f) → After (setting_term names at making f rest) ks pc
      form_after (setting_named x e) making at rest s ks pc here tests h r =
          let n = expr_size T e in
          let over : List ℕ = slots_of first ks ++ held in
          let q = cut o u fn over ns names sc agrees (expr_code e sc pc s) (one_mark at (instr.Store (slot_named x first))) pc n (expr-count e sc pc s) h in (
            pc + n,
            pc + n + 1,
            value_begins o u fn over ns names sc agrees e s pc here q.0,
            notes_named (bytes_eq x (codes "cpus")) (bytes_eq x (codes "canFail")) (bytes_eq x (codes "retry")) (pc + n) q.1.0.is,
            tested_named (bytes_eq x (codes "cpus")) (bytes_eq x (codes "canFail")) (bytes_eq x (codes "retry")) tested,
            after_at rest (known_form (setting_named x e) ks) (pc + (n + 1)) (pc + n + 1) (omega arith) r,
          )
      form_after (setting_plain (node place t (dependency a b))) making at rest s ks pc here tests h r = files_after making a b at rest s ks pc here.0 here.1 (tests refl) h r
      form_after (setting_plain (node place t f)) making at rest s ks pc here tests h r = condition_after (node place t f) at rest s ks pc here (tests refl) h r

      -- options behind one another, and what is behind them all
      pub settings_after : (os : List SettingTree) (making : Making) (rest : Term) (s : List Ty) (ks : List Setting) (pc : ℕ) → SettingsHere o u names sc os → (has_condition os ≡ true → tested ≡ true) → H (settings_code (is_rule making) os sc first pc s) pc
          → After rest (known_after os ks) (pc + settings_size T (is_rule making) os) → After (settings_term names making os rest) ks pc
      settings_after [] making rest s ks pc here tests h r = after_at rest ks (pc + 0) pc (omega arith) r
      settings_after (x ∷ xs) making rest s ks pc here tests h r =
          let n = setting_size T (is_rule making) x.form in
          let m = settings_size T (is_rule making) xs in
          let over : List ℕ = slots_of first ks ++ held in
          let q = cut o u fn over ns names sc agrees (setting_code (is_rule making) x.form x.at sc first pc s) (settings_code (is_rule making) xs sc first (pc + n) s) pc n (setting-count (is_rule making) x.form x.at sc first pc s) h in
          form_after x.form making x.at (settings_term names making xs rest) s ks pc here.0 (λ e. tests (either_first (is_condition x.form) (has_condition xs) e)) q.0
          (settings_after xs making rest s (known_form x.form ks) (pc + n) here.1 (λ e. tests (either_second (is_condition x.form) (has_condition xs) e)) q.1
          (after_at rest (known_after (x ∷ xs) ks) (pc + (n + m)) (pc + n + m) (omega arith) r))

    -- options begin where those that aren't there are set
    pub options_begin : (t : Term) (loop : Option Loop) (exit kind : ℕ) (tested : Bool) (ks : List Setting) (pc mid : ℕ) → AreSpare o u first ns held → Sets o u (work_in t) fn first pc ks mid → After exit kind tested t ks mid → Form o u fn held ns loop t pc exit kind
    options_begin (Settle k a rest) loop exit kind tested ks pc mid spare sets h = record {
      at = λ vs slots base kept below named fits. (first, (tested, (ks, spare, inr (mid, h, inl (pc, (ks, [], sym (append-nil ks), sets, record { named = named; slots = slots; holds = fits; is = refl }))))));
    }
    options_begin (Weigh line rest) loop exit kind tested ks pc mid spare sets h = record {
      at = λ vs slots base kept below named fits. (first, (tested, (ks, spare, (mid, h, inl (pc, (ks, [], sym (append-nil ks), sets, record { named = named; slots = slots; holds = fits; is = refl }))))));
    }
    options_begin (Make making line w command) loop exit kind tested ks pc mid spare sets h = record {
      at = λ vs slots base kept below named fits. inr (first, (tested, (ks, spare, (mid, h, inl (pc, (ks, [], sym (append-nil ks), sets, record { named = named; slots = slots; holds = fits; is = refl }))))));
    }
    options_begin _ loop exit kind tested ks pc mid spare sets h = absurd h
