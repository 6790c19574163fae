-- Generator, checker and relation mean the same variables and functions by a name.
use Rattle.std.proofs.Common.{◌≡◌, ℕ, suc, ◌+◌, Bool, true, false, List, [], ◌∷◌, ◌++◌, map, Option, Some, None, IsSome, slice_get, refl, sym, ap, ◌∙◌, subst, arith, if◌then◌else◌}
use Rattle.std.specs.Option.{is_some, unwrap_or}
use Rattle.std.specs.Str.{bytes_eq}
use Rattle.std.proofs.lemmas.Slice.Eq.{bytes_eq-Decides}
use Rattle.bds_value.specs.declared.value.Ty.{Ty}
use Rattle.bds_code.specs.declared.instr.Instr.TheVariants as instr
use Rattle.bds_code.specs.declared.unit.Function.{Function}
use Rattle.bds_code.specs.declared.unit.Unit.{Unit as CodeUnit}
use Rattle.bds_check_names.specs.declared.names.Names.{Names as Checked}
use Rattle.bds_check_names.specs.declared.names.Variable.{Variable}
use Rattle.bds_check_names.specs.Scopes.{last_type, first_type, either, found}
use Rattle.bds_gen_expr.specs.declared.scope.Numbered.{Numbered as Variables}
use Rattle.bds_gen_expr.specs.declared.scope.Scope.{Scope}
use Rattle.bds_gen_expr.specs.Numbers.{variables_of, last_number, first_number}
use Rattle.bds_gen_expr.specs.Scope.{types_in, slot_or_global, load_at, load, function_number}
use Rattle.bds_gen_stmt.specs.UnitCode.{in_order}
use Rattle.bds_meaning.specs.OpeningTexts.{scope_of}
use Rattle.bds_meaning.specs.Variables.{Scope as Reach, local, global}
use Rattle.bds_sim_terms.specs.steps.Stands.{Source, Names, IsNumber, slot_of, position_of, load_code}

module _ (o : Source) (u : CodeUnit) (names : Checked) (scope : Scope) where
  -- the number of a variable is that of its slot or global
  pub record Numbered (slots : Names) (x : List ℕ) : Type 0 where
    pub number : ℕ
    pub is : IsNumber o (scope_of names x) slots x number
    pub code : load scope x ≡ load_code (scope_of names x) number

  -- the names in force are the same to the checker, the generator and the relation; of functions those that the unit has
  pub record Agrees (slots : Names) : Type 0 where
    pub types : (x : List ℕ) → types_in scope x ≡ found x names
    pub variables : (x : List ℕ) → IsSome (types_in scope x) → Numbered slots x
    pub functions : (x : List ℕ) (f : Function) → slice_get u.functions (o.number x) ≡ Some f → function_number scope x ≡ o.number x

-- Names compared the other way round

pub either_way : (x y : List ℕ) (b : Bool) → bytes_eq y x ≡ b → bytes_eq x y ≡ b
either_way x y true e = (bytes_eq-Decides x y).1 (sym ((bytes_eq-Decides y x).0 e))
either_way x y false e = go (bytes_eq x y) refl
  where
    go : (c : Bool) → bytes_eq x y ≡ c → bytes_eq x y ≡ false
    go true f = absurd (let g = (bytes_eq-Decides y x).1 (sym ((bytes_eq-Decides x y).0 f)) in cc)
    go false f = f

pub turned : (x y : List ℕ) → bytes_eq x y ≡ bytes_eq y x
turned x y = either_way x y (bytes_eq y x) refl

-- Globals by their places in the order

pub in_order_variables : (gs : List Variable) (n : ℕ) → variables_of (in_order n gs) ≡ gs
in_order_variables [] n = refl
in_order_variables (g ∷ gs) n = ap (λ ws. g ∷ ws) (in_order_variables gs (suc n))

abbrev pub names_in : List Variable → List (List ℕ)
names_in gs = map (λ (v : Variable). v.name) gs

one_first : (t : Ty) (p : Option Ty) (q : Option ℕ) (n k : ℕ) (b : Bool) → IsSome (if b then Some t else p) → (IsSome p → unwrap_or q 0 ≡ suc n + k) → unwrap_or (if b then Some n else q) 0 ≡ n + (if b then 0 else k + 1)
one_first t p q n k true h more = let e : n ≡ n + 0 = omega arith in e
one_first t p q n k false h more = let r = more h in let e : suc n + k ≡ n + (k + 1) = omega arith in r ∙ e

pub first_position : (x : List ℕ) (gs : List Variable) (more : List (List ℕ)) (n : ℕ) → IsSome (first_type x gs) → unwrap_or (first_number x (in_order n gs)) 0 ≡ n + position_of (names_in gs ++ more) x
first_position x [] more n h = absurd (cc)
first_position x (g ∷ gs) more n h =
    let k : ℕ = position_of (names_in gs ++ more) x in
    one_first g.ty (first_type x gs) (first_number x (in_order (suc n) gs)) n k (bytes_eq x g.name) h (λ r. first_position x gs more (suc n) r)
    ∙ ap (λ (b : Bool). n + (if b then 0 else k + 1)) (turned x g.name)

-- Locals by the last of their name

both_some : (b : Bool) (t : Ty) (k : ℕ) (p : Option Ty) (q : Option ℕ) → is_some p ≡ is_some q → is_some (if b then Some t else p) ≡ is_some (if b then Some k else q)
both_some true t k p q e = refl
both_some false t k p q e = e

same_found : (x : List ℕ) (ls : List Variables) (p : Option Ty) (q : Option ℕ) → is_some p ≡ is_some q → is_some (last_type x (variables_of ls) p) ≡ is_some (last_number x ls q)
same_found x [] p q e = e
same_found x (l ∷ ls) p q e =
    same_found x ls (if bytes_eq x l.variable.name then Some l.variable.ty else p) (if bytes_eq x l.variable.name then Some l.number else q) (both_some (bytes_eq x l.variable.name) l.variable.ty l.number p q e)

outer_some : (p q : Option Ty) → is_some p ≡ false → IsSome (either p q) → IsSome q
outer_some None q e h = h
outer_some (Some t) q e h = absurd (cc)

-- where the scope's locals are the checker's and stand in these slots, and its globals are the checker's in their order, of which there may be more
module _ (o : Source) (u : CodeUnit) (names : Checked) (sc : Scope) (ns : Names) (more : List (List ℕ)) (locals : variables_of sc.locals ≡ names.locals) (slots : (x : List ℕ) → last_number x sc.locals None ≡ slot_of ns x)
    (globals : sc.globals ≡ in_order 0 names.globals) (numbers : o.globals ≡ names_in names.globals ++ more) (functions : (x : List ℕ) (f : Function) → slice_get u.functions (o.number x) ≡ Some f → function_number sc x ≡ o.number x) where
  same_types : (x : List ℕ) → types_in sc x ≡ found x names
  same_types x =
      ap (λ (l : List Variable). either (last_type x l None) (first_type x (variables_of sc.globals))) locals
      ∙ ap (λ (g : List Variable). either (last_type x names.locals None) (first_type x g)) (ap variables_of globals ∙ in_order_variables names.globals 0)

  local_some : (x : List ℕ) → is_some (last_type x names.locals None) ≡ is_some (last_number x sc.locals None)
  local_some x = ap (λ (l : List Variable). is_some (last_type x l None)) (sym locals) ∙ same_found x sc.locals None None refl

  reach : (x : List ℕ) (q : Option ℕ) → last_number x sc.locals None ≡ q → scope_of names x ≡ (if is_some q then local else global)
  reach x q e = ap (λ (b : Bool). if b then local else global) (local_some x ∙ ap (λ (p : Option ℕ). is_some p) e)

  in_globals : (x : List ℕ) → last_number x sc.locals None ≡ None → IsSome (types_in sc x) → IsSome (first_type x names.globals)
  in_globals x e known = outer_some (last_type x names.locals None) (first_type x names.globals) (local_some x ∙ ap (λ (p : Option ℕ). is_some p) e) (subst (λ p. IsSome p) (same_types x) known)

  global_number : (x : List ℕ) → IsSome (first_type x names.globals) → unwrap_or (first_number x sc.globals) 0 ≡ position_of o.globals x
  global_number x h =
      let p : ℕ = position_of (names_in names.globals ++ more) x in
      let e : 0 + p ≡ p = omega arith in
      ap (λ (g : List Variables). unwrap_or (first_number x g) 0) globals ∙ first_position x names.globals more 0 h ∙ e ∙ ap (λ (l : List (List ℕ)). position_of l x) (sym numbers)

  number_of : (x : List ℕ) (q : Option ℕ) → last_number x sc.locals None ≡ q → IsSome (types_in sc x) → Numbered o u names sc ns x
  number_of x (Some i) e known =
      let s : scope_of names x ≡ local = reach x (Some i) e in
      record {
        number = i;
        is = subst (λ (r : Reach). IsNumber o r ns x i) (sym s) (sym (slots x) ∙ e);
        code = ap (λ (q : Option ℕ). load_at (slot_or_global q (first_number x sc.globals))) e ∙ sym (ap (λ (r : Reach). load_code r i) s);
      }
  number_of x None e known =
      let s : scope_of names x ≡ global = reach x None e in
      let n : ℕ = position_of o.globals x in
      record {
        number = n;
        is = subst (λ (r : Reach). IsNumber o r ns x n) (sym s) refl;
        code = ap (λ (q : Option ℕ). load_at (slot_or_global q (first_number x sc.globals))) e ∙ ap instr.LoadGlobal (global_number x (in_globals x e known)) ∙ sym (ap (λ (r : Reach). load_code r n) s);
      }

  pub agrees_from : Agrees o u names sc ns
  agrees_from = record { types = same_types; variables = λ x known. number_of x (last_number x sc.locals None) refl known; functions = functions }
