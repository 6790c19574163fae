-- What a thread of a `par` block gets: the local of each name that no inner one hides, in a slot of its own. Names mean the same there.
use Rattle.std.proofs.Common.{◌≡◌, ℕ, suc, ◌+◌, Bool, true, false, ◌||◌, List, [], ◌∷◌, ◌++◌, map, length, length-append, Option, Some, None, IsSome, slice_get, refl, sym, ap, ◌∙◌, subst, arith, append_assoc, if◌then◌else◌}
use Rattle.std.specs.Prelude.{⊤}
use Rattle.std.specs.Str.{bytes_eq}
use Rattle.std.proofs.Math.Dec.{eqb}
use Rattle.std.proofs.lemmas.Bool.{eqb-true, eq-eqb}
use Rattle.std.proofs.lemmas.Option.{slice_get_within}
use Rattle.std.proofs.lemmas.Slice.Eq.{bytes_eq-Decides}
use Rattle.bds_code.specs.declared.instr.Instr.{Instr}
use Rattle.bds_code.specs.declared.instr.Instr.TheVariants as instr
use Rattle.bds_code.specs.declared.unit.Unit.{Unit as CodeUnit}
use Rattle.bds_check_names.specs.declared.names.Names.{Names as Checked}
use Rattle.bds_check_names.specs.Scopes.{last_type, first_type, either, any_named}
use Rattle.bds_gen_expr.specs.Numbers.{variables_of, last_number, first_number, visible_locals}
use Rattle.bds_gen_expr.specs.Scope.{types_in, load, load_at, slot_or_global}
use Rattle.bds_gen_expr.specs.declared.scope.Numbered.{Numbered as Variables}
use Rattle.bds_gen_expr.specs.declared.scope.Scope.{Scope}
use Rattle.bds_gen_stmt.specs.FunctionCode.{renumbered, opening}
use Rattle.bds_gen_stmt.proofs.Visible.{renumbered-variables, last-visible}
use Rattle.bds_meaning.specs.OpeningTexts.{scope_of}
use Rattle.bds_meaning.specs.Variables.{Scope as Reach, local, global}
use Rattle.bds_sim_terms.specs.steps.Stands.{Source, Names, IsNumber, slot_of, load_code, PassedTo, Passed}
use Rattle.bds_sim_code.specs.StmtHere.{no_leaps}
use Rattle.bds_sim_code.proofs.Around.{Under, AllUnder, Around, all_under_more, spare_above}
use Rattle.bds_sim_code.proofs.Agree.{Agrees, Numbered}

-- Numbers of visible locals

last_any : (x : List ℕ) (ls : List Variables) (o p : Option ℕ) → any_named x (variables_of ls) ≡ true → last_number x ls o ≡ last_number x ls p
last_any x [] o p h = absurd (cc)
last_any x (l ∷ ls) o p h = by (bytes_eq x l.variable.name) (λ q. last_any x ls o p q) h
  where
    by : (b : Bool) → (any_named x (variables_of ls) ≡ true → last_number x ls o ≡ last_number x ls p) → (b || any_named x (variables_of ls)) ≡ true → last_number x ls (if b then Some l.number else o) ≡ last_number x ls (if b then Some l.number else p)
    by true rest e = refl
    by false rest e = rest e

-- of a name the last is visible
last_visible : (x : List ℕ) (ls : List Variables) (o : Option ℕ) → last_number x (visible_locals ls) o ≡ last_number x ls o
last_visible x [] o = refl
last_visible x (l ∷ ls) o = by_hidden (any_named l.variable.name (variables_of ls)) refl (last_visible x ls)
  where
    hidden : (b : Bool) → bytes_eq x l.variable.name ≡ b → any_named l.variable.name (variables_of ls) ≡ true → last_number x ls o ≡ last_number x ls (if b then Some l.number else o)
    hidden false e h = refl
    hidden true e h =
        let same : x ≡ l.variable.name = (bytes_eq-Decides x l.variable.name).0 e in
        last_any x ls o (Some l.number) (ap (λ y. any_named y (variables_of ls)) same ∙ h)

    by_hidden : (b : Bool) → any_named l.variable.name (variables_of ls) ≡ b → ((p : Option ℕ) → last_number x (visible_locals ls) p ≡ last_number x ls p)
        → last_number x (if b then visible_locals ls else l ∷ visible_locals ls) o ≡ last_number x ls (if bytes_eq x l.variable.name then Some l.number else o)
    by_hidden true h rest = rest o ∙ hidden (bytes_eq x l.variable.name) refl h
    by_hidden false h rest = rest (if bytes_eq x l.variable.name then Some l.number else o)

abbrev pub numbers_of : List Variables → List ℕ
numbers_of ls = map (λ l. l.number) ls

-- a slot of before, and the slot in the thread that it is put into
abbrev Pair : List ℕ → Option ℕ → Option ℕ → Type 0
Pair is None None = ⊤
Pair is (Some j) (Some k) = slice_get is k ≡ Some j
Pair is _ _ = ⊥

abbrev Ahead : List ℕ → ℕ → List ℕ → Type 0
Ahead is n [] = ⊤
Ahead is n (i ∷ more) = (slice_get is n ≡ Some i) × Ahead is (suc n) more

seam : (xs : List ℕ) (x : ℕ) (ys : List ℕ) → slice_get (xs ++ x ∷ ys) (length xs) ≡ Some x
seam [] x ys = refl
seam (y ∷ xs) x ys = seam xs x ys

ahead : (xs ys : List ℕ) (n : ℕ) → length xs ≡ n → Ahead (xs ++ ys) n ys
ahead xs [] n e = tt
ahead xs (y ∷ ys) n e =
    let many = length-append xs (y ∷ []) in (
      ap (λ k. slice_get (xs ++ y ∷ ys) k) (sym e) ∙ seam xs y ys,
      subst (λ is. Ahead is (suc n) ys) (append_assoc xs (y ∷ []) ys) (ahead (xs ++ y ∷ []) ys (suc n) (omega (arith, many, e))),
    )

pair_found : (x : List ℕ) (ls : List Variables) (n : ℕ) (is : List ℕ) (f g : Option ℕ) → Pair is f g → Ahead is n (numbers_of ls) → Pair is (last_number x ls f) (last_number x (renumbered ls n) g)
pair_found x [] n is f g p a = p
pair_found x (l ∷ ls) n is f g p a = pair_found x ls (suc n) is (if bytes_eq x l.variable.name then Some l.number else f) (if bytes_eq x l.variable.name then Some n else g) (by (bytes_eq x l.variable.name)) a.1
  where
    by : (b : Bool) → Pair is (if b then Some l.number else f) (if b then Some n else g)
    by true = a.0
    by false = p

-- the slot of a name in the thread: where the one that it had is put, if that is the name's visible one
abbrev put_at : ℕ → ℕ → Option ℕ → Option ℕ
put_at i j k = if eqb j i then k else None

abbrev put : Option ℕ → Option ℕ → Option ℕ → Option ℕ
put None j k = None
put (Some i) None k = None
put (Some i) (Some j) k = put_at i j k

put_passed : (is : List ℕ) (from f g : Option ℕ) → Pair is f g → PassedTo is from (put from f g)
put_passed is None f g p = tt
put_passed is (Some i) None g p = tt
put_passed is (Some i) (Some j) None p = absurd p
put_passed is (Some i) (Some j) (Some k) p = by (eqb j i) refl
  where
    by : (b : Bool) → eqb j i ≡ b → PassedTo is (Some i) (if b then Some k else None)
    by true e = (i, refl, p ∙ ap Some (eqb-true j i e))
    by false e = tt

put_under : (is : List ℕ) (from f g : Option ℕ) → Pair is f g → Under (length is) (put from f g)
put_under is None f g p = tt
put_under is (Some i) None g p = tt
put_under is (Some i) (Some j) None p = absurd p
put_under is (Some i) (Some j) (Some k) p = by (eqb j i)
  where
    by : (b : Bool) → Under (length is) (if b then Some k else None)
    by true = slice_get_within is k j p
    by false = tt

module _ (ls : List Variables) where
  abbrev vs : List Variables
  vs = visible_locals ls

  abbrev pub slots_passed : List ℕ
  slots_passed = numbers_of vs

  abbrev was : List ℕ → Option ℕ
  was x = last_number x vs None

  abbrev now : List ℕ → Option ℕ
  now x = last_number x (renumbered vs 0) None

  paired : (x : List ℕ) → Pair slots_passed (was x) (now x)
  paired x = pair_found x vs 0 slots_passed None None tt (ahead [] slots_passed 0 refl)

  abbrev pub names_passed : Names → Names
  names_passed [] = []
  names_passed (p ∷ ns) = (p.0, put p.1 (was p.0) (now p.0)) ∷ names_passed ns

  pub are_passed : (ns : Names) → Passed ns slots_passed (names_passed ns)
  are_passed [] = tt
  are_passed (p ∷ ns) = (refl, put_passed slots_passed p.1 (was p.0) (now p.0) (paired p.0), are_passed ns)

  few_passed : (ns : Names) → AllUnder (length slots_passed) (names_passed ns)
  few_passed [] = tt
  few_passed (p ∷ ns) = (put_under slots_passed p.1 (was p.0) (now p.0) (paired p.0), few_passed ns)

  slot_passed : (ns : Names) (x : List ℕ) → slot_of (names_passed ns) x ≡ put (slot_of ns x) (was x) (now x)
  slot_passed [] x = refl
  slot_passed (p ∷ ns) x = by (bytes_eq p.0 x) refl (slot_passed ns x)
    where
      by : (b : Bool) → bytes_eq p.0 x ≡ b → slot_of (names_passed ns) x ≡ put (slot_of ns x) (was x) (now x)
          → (if b then put p.1 (was p.0) (now p.0) else slot_of (names_passed ns) x) ≡ put (if b then p.1 else slot_of ns x) (was x) (now x)
      by true e rest = ap (λ y. put p.1 (was y) (now y)) ((bytes_eq-Decides p.0 x).0 e)
      by false e rest = rest

-- which variable an instruction loads

abbrev loads_slot : Instr → Option ℕ
loads_slot (instr.Load n) = Some n
loads_slot _ = None

module _ (o : Source) (u : CodeUnit) (names : Checked) (sc : Scope) (ns : Names) (agrees : Agrees o u names sc ns) where
  abbrev sc2 : Scope
  sc2 = (opening sc (visible_locals sc.locals)).scope

  abbrev ns2 : Names
  ns2 = names_passed sc.locals ns

  same_types : (x : List ℕ) → types_in sc2 x ≡ types_in sc x
  same_types x =
      ap (λ l. either l (first_type x (variables_of sc.globals)))
      (ap (λ vs. last_type x vs None) (renumbered-variables (visible_locals sc.locals) 0) ∙ last-visible x sc.locals None)

  -- a local in a slot
  local_passed : (x : List ℕ) (i n : ℕ) (s : Reach) → scope_of names x ≡ s → last_number x sc.locals None ≡ Some i → load sc x ≡ load_code s n → IsNumber o s ns x n → (k : Option ℕ) → now sc.locals x ≡ k → Numbered o u names sc2 ns2 x
  local_passed x i n global e f l is k g = absurd (
      let bad : Some i ≡ None = ap (λ (q : Option ℕ). loads_slot (load_at (slot_or_global q (first_number x sc.globals)))) (sym f) ∙ ap loads_slot l in
      cc
      )
  local_passed x i n local e f l is None g = absurd (
      subst (λ q. Pair (slots_passed sc.locals) q None) (last_visible x sc.locals None ∙ f) (subst (Pair (slots_passed sc.locals) (was sc.locals x)) g (paired sc.locals x))
      )
  local_passed x i n local e f l is (Some k) g =
      let at : Some i ≡ Some n = ap (λ (q : Option ℕ). loads_slot (load_at (slot_or_global q (first_number x sc.globals)))) (sym f) ∙ ap loads_slot l in
      let stood : slot_of ns x ≡ Some i = is ∙ sym at in
      let there : was sc.locals x ≡ Some i = last_visible x sc.locals None ∙ f in
      let found_at : slot_of ns2 x ≡ put (Some i) (Some i) (Some k) = slot_passed sc.locals ns x ∙ ap (λ q. put q (was sc.locals x) (now sc.locals x)) stood ∙ ap (λ q. put (Some i) q (now sc.locals x)) there ∙ ap (put (Some i) (Some i)) g in
      let same : put (Some i) (Some i) (Some k) ≡ Some k = ap (λ (b : Bool). if b then Some k else None) (eq-eqb i i refl) in
      record {
        number = k;
        is = subst (λ r. IsNumber o r ns2 x k) (sym e) (found_at ∙ same);
        code = ap (λ q. load_at (slot_or_global q (first_number x sc.globals))) g ∙ sym (ap (λ r. load_code r k) e);
      }

  -- a global
  global_passed : (x : List ℕ) (n : ℕ) (s : Reach) → scope_of names x ≡ s → last_number x sc.locals None ≡ None → load sc x ≡ load_code s n → IsNumber o s ns x n → (k : Option ℕ) → now sc.locals x ≡ k → Numbered o u names sc2 ns2 x
  global_passed x n local e f l is k g = absurd (
      let bad : None ≡ Some n = ap (λ (q : Option ℕ). loads_slot (load_at (slot_or_global q (first_number x sc.globals)))) (sym f) ∙ ap loads_slot l in
      cc
      )
  global_passed x n global e f l is (Some k) g = absurd (
      subst (λ q. Pair (slots_passed sc.locals) q (Some k)) (last_visible x sc.locals None ∙ f) (subst (Pair (slots_passed sc.locals) (was sc.locals x)) g (paired sc.locals x))
      )
  global_passed x n global e f l is None g = record {
    number = n;
    is = subst (λ r. IsNumber o r ns2 x n) (sym e) is;
    code = ap (λ q. load_at (slot_or_global q (first_number x sc.globals))) (g ∙ sym f) ∙ l ∙ sym (ap (λ r. load_code r n) e);
  }

  numbered_passed : (x : List ℕ) → IsSome (types_in sc2 x) → Numbered o u names sc2 ns2 x
  numbered_passed x known =
      let m = agrees.variables x (subst (λ t. IsSome t) (same_types x) known) in
      by (last_number x sc.locals None) refl m.number m.is m.code
    where
      by : (q : Option ℕ) → last_number x sc.locals None ≡ q → (n : ℕ) → IsNumber o (scope_of names x) ns x n → load sc x ≡ load_code (scope_of names x) n → Numbered o u names sc2 ns2 x
      by (Some i) f n is l = local_passed x i n (scope_of names x) refl f l is (now sc.locals x) refl
      by None f n is l = global_passed x n (scope_of names x) refl f l is (now sc.locals x) refl

  pub agrees_passed : Agrees o u names sc2 ns2
  agrees_passed = record {
    types = λ x. same_types x ∙ agrees.types x;
    variables = numbered_passed;
    functions = λ x f there. agrees.functions x f there;
  }

  -- where the code of the block begins
  pub around_passed : Around o u [] None names (opening sc (visible_locals sc.locals)) no_leaps ns2
  around_passed =
      let many : length (slots_passed sc.locals) ≡ length (visible_locals sc.locals) = Rattle.std.proofs.lemmas.List.length-map (visible_locals sc.locals) (λ (l : Variables). l.number) in
      let under : AllUnder (length (visible_locals sc.locals)) ns2 = subst (λ n. AllUnder n ns2) many (few_passed sc.locals ns) in
      record {
        agrees = agrees_passed;
        low = refl;
        under = all_under_more (length (visible_locals sc.locals)) (length (visible_locals sc.locals) + 8) ns2 under (omega arith);
        held_under = tt;
        around = record { breaks = tt; continues = tt };
        spare = spare_above o u (length (visible_locals sc.locals)) ns2 under;
        room = omega arith;
      }
