-- Behind a declaration the names in force still agree: the new local is in the next slot and hides those of its name.
use Rattle.std.proofs.Common.{◌≡◌, ℕ, ◌+◌, Bool, true, false, List, [], ◌∷◌, ◌++◌, drop, Option, Some, None, IsSome, refl, sym, ap, ◌∙◌, subst, arith, append_assoc, if◌then◌else◌}
use Rattle.std.specs.Option.{is_some}
use Rattle.std.specs.Str.{bytes_eq}
use Rattle.bds_value.specs.declared.value.Ty.{Ty}
use Rattle.bds_code.specs.declared.unit.Unit.{Unit as CodeUnit}
use Rattle.bds_check_names.specs.declared.names.Names.{Names as Checked}
use Rattle.bds_check_names.specs.declared.names.Site.{Site}
use Rattle.bds_check_names.specs.declared.names.Variable.{Variable}
use Rattle.bds_check_names.specs.Scopes.{variable, last_type, first_type, either, found, any_named, declare_in, with_local, with_locals, with_globals, declare as with_variable}
use Rattle.bds_gen_expr.specs.declared.scope.Numbered.{Numbered as Variables}
use Rattle.bds_gen_expr.specs.declared.scope.Scope.{Scope}
use Rattle.bds_gen_expr.specs.Numbers.{numbered, variables_of, last_number, first_number}
use Rattle.bds_gen_expr.specs.Scope.{types_in, slot_or_global, load_at, load, with_slot}
use Rattle.bds_gen_stmt.specs.Spots.{Loop as Written, Spot, inner, behind_slots, declared_local}
use Rattle.bds_gen_stmt.proofs.StmtCounts.{map-end}
use Rattle.bds_meaning.specs.OpeningTexts.{scope_of}
use Rattle.bds_meaning.specs.Variables.{Scope as Reach, local, global}
use Rattle.bds_sim_terms.specs.steps.Stands.{Source, Names, Target, Loop, out_of, again_of, IsNumber, slot_of, load_code}
use Rattle.bds_sim_code.proofs.Around.{Around, IsAround, Reaches, WhereTrue, all_under_more, held_under_more, spare_local}
use Rattle.bds_sim_code.proofs.Agree.{either_way, Agrees, Numbered}
use Rattle.bds_sim_code.specs.StmtHere.{Leaps, Opens}

last_type_end : (y : List ℕ) (vs : List Variable) (v : Variable) (before : Option Ty) → last_type y (vs ++ v ∷ []) before ≡ (if bytes_eq y v.name then Some v.ty else last_type y vs before)
last_type_end y [] v before = refl
last_type_end y (w ∷ vs) v before = last_type_end y vs v (if bytes_eq y w.name then Some w.ty else before)

last_number_end : (y : List ℕ) (vs : List Variables) (v : Variables) (before : Option ℕ) → last_number y (vs ++ v ∷ []) before ≡ (if bytes_eq y v.variable.name then Some v.number else last_number y vs before)
last_number_end y [] v before = refl
last_number_end y (w ∷ vs) v before = last_number_end y vs v (if bytes_eq y w.variable.name then Some w.number else before)

same_either : (b : Bool) (t : Ty) (p q g h : Option Ty) → either p g ≡ either q h → either (if b then Some t else p) g ≡ either (if b then Some t else q) h
same_either true t p q g h e = refl
same_either false t p q g h e = e

module _ (o : Source) (u : CodeUnit) (names : Checked) (sc : Scope) (ns : Names) (agrees : Agrees o u names sc ns) (x : List ℕ) (t : Ty) (i : ℕ) where
  abbrev sc2 : Scope
  sc2 = with_slot sc x t i

  abbrev names2 : Checked
  names2 = with_local names x t

  abbrev ns2 : Names
  ns2 = (x, Some i) ∷ ns

  look_is : (y : List ℕ) → types_in sc2 y ≡ either (if bytes_eq y x then Some t else last_type y (variables_of sc.locals) None) (first_type y (variables_of sc.globals))
  look_is y = ap (λ l. either l (first_type y (variables_of sc.globals))) (ap (λ vs. last_type y vs None) (map-end sc.locals (numbered x t i)) ∙ last_type_end y (variables_of sc.locals) (variable x t) None)

  found_is : (y : List ℕ) → found y names2 ≡ either (if bytes_eq y x then Some t else last_type y names.locals None) (first_type y names.globals)
  found_is y = ap (λ l. either l (first_type y names.globals)) (last_type_end y names.locals (variable x t) None)

  scope_is : (y : List ℕ) → scope_of names2 y ≡ (if is_some (if bytes_eq y x then Some t else last_type y names.locals None) then local else global)
  scope_is y = ap (λ (l : Option Ty). if is_some l then local else global) (last_type_end y names.locals (variable x t) None)

  load_is : (y : List ℕ) → load sc2 y ≡ load_at (slot_or_global (if bytes_eq y x then Some i else last_number y sc.locals None) (first_number y sc.globals))
  load_is y = ap (λ l. load_at (slot_or_global l (first_number y sc.globals))) (last_number_end y sc.locals (numbered x t i) None)

  shifted : (s : Reach) (y : List ℕ) (n : ℕ) → bytes_eq x y ≡ false → IsNumber o s ns y n → IsNumber o s ns2 y n
  shifted local y n e h = ap (λ (b : Bool). if b then Some i else slot_of ns y) e ∙ h
  shifted global y n e h = h

  new_number : (y : List ℕ) → bytes_eq y x ≡ true → bytes_eq x y ≡ true → Numbered o u names2 sc2 ns2 y
  new_number y e f =
      let s = scope_is y ∙ ap (λ (b : Bool). if is_some (if b then Some t else last_type y names.locals None) then local else global) e in
      record {
        number = i;
        is = subst (λ r. IsNumber o r ns2 y i) (sym s) (ap (λ (b : Bool). if b then Some i else slot_of ns y) f);
        code = load_is y ∙ ap (λ (b : Bool). load_at (slot_or_global (if b then Some i else last_number y sc.locals None) (first_number y sc.globals))) e ∙ sym (ap (λ r. load_code r i) s);
      }

  old_number : (y : List ℕ) → bytes_eq y x ≡ false → bytes_eq x y ≡ false → IsSome (types_in sc2 y) → Numbered o u names2 sc2 ns2 y
  old_number y e f known =
      let s = scope_is y ∙ ap (λ (b : Bool). if is_some (if b then Some t else last_type y names.locals None) then local else global) e in
      let k = look_is y ∙ ap (λ (b : Bool). either (if b then Some t else last_type y (variables_of sc.locals) None) (first_type y (variables_of sc.globals))) e in
      let m = agrees.variables y (subst (λ w. IsSome w) k known) in
      record {
        number = m.number;
        is = subst (λ r. IsNumber o r ns2 y m.number) (sym s) (shifted (scope_of names y) y m.number f m.is);
        code = load_is y ∙ ap (λ (b : Bool). load_at (slot_or_global (if b then Some i else last_number y sc.locals None) (first_number y sc.globals))) e ∙ m.code ∙ sym (ap (λ r. load_code r m.number) s);
      }

  by_name : (y : List ℕ) (b : Bool) → bytes_eq y x ≡ b → IsSome (types_in sc2 y) → Numbered o u names2 sc2 ns2 y
  by_name y true e known = new_number y e (either_way x y true e)
  by_name y false e known = old_number y e (either_way x y false e) known

  pub agrees_local : Agrees o u names2 sc2 ns2
  agrees_local = record {
    types = λ y. look_is y ∙ same_either (bytes_eq y x) t (last_type y (variables_of sc.locals) None) (last_type y names.locals None) (first_type y (variables_of sc.globals)) (first_type y names.globals) (agrees.types y) ∙ sym (found_is y);
    variables = λ y known. by_name y (bytes_eq y x) refl known;
    functions = λ y f there. agrees.functions y f there;
  }

-- the checker's names behind a declaration in a block

with_new : (top : Bool) (there : Bool) (names : Checked) (start : ℕ) (v : Variable) → top ≡ false → any_named v.name (drop start names.locals) ≡ there → there ≡ false
    → (if top then with_globals names (declare_in 0 v names.globals) else with_locals names (declare_in start v names.locals)) ≡ with_locals names (names.locals ++ v ∷ [])
with_new true there names start v e f g = absurd (cc)
with_new false there names start v e f g = ap (λ (b : Bool). with_locals names (if b then names.locals else names.locals ++ v ∷ [])) (f ∙ g)

reaches_more : (w : Option Written) (place : Written → ℕ) (to : Option Target) (added ns : Names) → Reaches w place to ns → Reaches w place to (added ++ ns)
reaches_more (Some w) place (Some to) added ns h = (h.0, (added ++ h.1.0, ap (λ k. added ++ k) h.1.1 ∙ sym (append_assoc added h.1.0 to.names)))
reaches_more (Some w) place None added ns h = absurd h
reaches_more None place to added ns h = absurd h

where_more : (b : Bool) (w : Option Written) (place : Written → ℕ) (to : Option Target) (added ns : Names) → WhereTrue b (Reaches w place to ns) → WhereTrue b (Reaches w place to (added ++ ns))
where_more true w place to added ns h = reaches_more w place to added ns h
where_more false w place to added ns h = tt

around_more : (loops : Leaps) (w : Option Written) (l : Option Loop) (added ns : Names) → IsAround loops w l ns → IsAround loops w l (added ++ ns)
around_more loops w l added ns h = record {
  breaks = where_more loops.breaks w (λ k. k.end) (out_of l) added ns h.breaks;
  continues = where_more loops.continues w (λ k. k.again) (again_of l) added ns h.continues;
}

module _ (o : Source) (u : CodeUnit) (held : List ℕ) (loop : Option Loop) (names : Checked) (sp : Spot) (loops : Leaps) (ns : Names) (here : Around o u held loop names sp loops ns) where
  -- further on
  pub around_slots : (n : ℕ) → Around o u held loop names (behind_slots sp n) loops ns
  around_slots n = record {
    agrees = here.agrees;
    low = here.low;
    under = all_under_more sp.next (sp.next + n) ns here.under (omega arith);
    held_under = held_under_more sp.next (sp.next + n) held here.held_under (omega arith);
    around = here.around;
    spare = here.spare;
    room = let room = here.room in omega (arith, room);
  }

  pub around_inner : Around o u held loop names (inner sp) loops ns
  around_inner = record { agrees = here.agrees; low = refl; under = here.under; held_under = here.held_under; around = here.around; spare = here.spare; room = here.room }

  pub around_local : (x : List ℕ) (t : Ty) → Around o u held loop (with_local names x t) (declared_local sp x t) loops ((x, Some sp.next) ∷ ns)
  around_local x t = record {
    agrees = agrees_local o u names sp.scope ns here.agrees x t sp.next;
    low = here.low;
    under = (omega arith, all_under_more sp.next (sp.next + 1) ns here.under (omega arith));
    held_under = held_under_more sp.next (sp.next + 1) held here.held_under (omega arith);
    around = around_more loops sp.loop loop ((x, Some sp.next) ∷ []) ns here.around;
    spare = spare_local o u sp.first x sp.next ns held here.room here.spare;
    room = let room = here.room in omega (arith, room);
  }

  pub around_declared : (site : Site) (x : List ℕ) (t : Ty) → Opens names site x → Around o u held loop (with_variable names site x t) (declared_local sp x t) loops ((x, Some sp.next) ∷ ns)
  around_declared site x t opens = subst (λ k. Around o u held loop k (declared_local sp x t) loops ((x, Some sp.next) ∷ ns)) (sym (with_new site.at_top false names site.start (variable x t) opens.0 opens.1 refl)) (around_local x t)
