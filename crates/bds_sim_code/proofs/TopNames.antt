-- What is in force before a statement of the top level: globals alone, in the order of their numbers.
use Rattle.std.proofs.Common.{◌≡◌, ◌≤◌, ℕ, suc, ◌+◌, Bool, true, false, List, [], ◌∷◌, ◌++◌, length, Some, None, slice_get, refl, sym, ap, ◌∙◌, arith, append_assoc, append-nil, if◌then◌else◌}
use Rattle.std.specs.Str.{bytes_eq}
use Rattle.std.proofs.lemmas.Slice.Eq.{bytes_eq-Decides}
use Rattle.bds_value.specs.declared.value.Ty.{Ty}
use Rattle.bds_tree.specs.StmtTree.{StmtTree, PartTree, stmt, line, declare, infer, no_right, a_right, a_function, an_include, a_statement}
use Rattle.bds_code.specs.declared.unit.Function.{Function}
use Rattle.bds_code.specs.declared.unit.Unit.{Unit as CodeUnit}
use Rattle.bds_check_names.specs.declared.names.Names.{Names as Checked}
use Rattle.bds_check_names.specs.declared.names.Variable.{Variable}
use Rattle.bds_check_names.specs.Scopes.{variable, any_named, with_globals, top}
use Rattle.bds_check_rules.specs.StmtBreaks.{right_type}
use Rattle.bds_check_size.specs.Known.{Known, with_global}
use Rattle.bds_check_size.specs.ScriptSize.{behind_parts as known_behind_parts}
use Rattle.bds_gen_expr.specs.declared.scope.Numbered.{Numbered as Variables}
use Rattle.bds_gen_expr.specs.Numbers.{variables_of, numbered, last_number}
use Rattle.bds_gen_expr.specs.Scope.{function_number, with_one_global}
use Rattle.bds_gen_stmt.specs.Spots.{Spot, inner, declared_local}
use Rattle.bds_gen_stmt.specs.StmtCode.{behind as spot_behind}
use Rattle.bds_gen_stmt.specs.UnitCode.{in_order}
use Rattle.bds_meaning.specs.Opening.{behind_parts}
use Rattle.bds_meaning.specs.OpeningStatements.{behind}
use Rattle.bds_sim_terms.specs.steps.Stands.{Source, position_of}
use Rattle.bds_sim_code.specs.ScriptHere.{TopStmtHere, TopsHere}
use Rattle.bds_sim_code.proofs.Agree.{turned, names_in, agrees_from}
use Rattle.bds_sim_code.proofs.Around.{Around, spare_above}
use Rattle.bds_sim_code.proofs.Parameters.{both_false}
use Rattle.bds_sim_code.specs.StmtHere.{no_leaps}

pub record AtTop (o : Source) (u : CodeUnit) (names : Checked) (sp : Spot) : Type 0 where
  pub high : sp.at_top ≡ true
  pub slots : sp.scope.locals ≡ []
  pub bare : names.locals ≡ []
  pub ordered : sp.scope.globals ≡ in_order 0 names.globals
  pub calls : (x : List ℕ) (f : Function) → slice_get u.functions (o.number x) ≡ Some f → function_number sp.scope x ≡ o.number x
  -- the slots of options are in front of the next slot
  pub room : sp.first + 8 ≤ sp.next

-- Globals in their order

in_order_end : (gs : List Variable) (v : Variable) (n k : ℕ) → n + length gs ≡ k → in_order n (gs ++ v ∷ []) ≡ in_order n gs ++ record { variable = v; number = k } ∷ []
in_order_end [] v n k e = let same : n ≡ k = omega (arith, e) in ap (λ (i : ℕ). record { variable = v; number = i } ∷ []) same
in_order_end (g ∷ gs) v n k e = ap (λ (ns : List Variables). record { variable = g; number = n } ∷ ns) (in_order_end gs v (suc n) k (let f : n + suc (length gs) ≡ k = e in omega (arith, f)))

pub in_order_length : (gs : List Variable) (n : ℕ) → length (in_order n gs) ≡ length gs
in_order_length [] n = refl
in_order_length (g ∷ gs) n = ap suc (in_order_length gs (suc n))

pub names_append : (gs hs : List Variable) → names_in (gs ++ hs) ≡ names_in gs ++ names_in hs
names_append [] hs = refl
names_append (g ∷ gs) hs = ap (λ (xs : List (List ℕ)). g.name ∷ xs) (names_append gs hs)

same_name : (x : List ℕ) → bytes_eq x x ≡ true
same_name x = (bytes_eq-Decides x x).1 refl

-- a new global comes behind all others
pub position_end : (x : List ℕ) (gs : List Variable) (more : List (List ℕ)) → any_named x gs ≡ false → position_of (names_in gs ++ x ∷ more) x ≡ length gs
position_end x [] more h = ap (λ (b : Bool). if b then 0 else position_of more x + 1) (same_name x)
position_end x (g ∷ gs) more h =
    let r = both_false (bytes_eq x g.name) (any_named x gs) h in
    let k : ℕ = position_of (names_in gs ++ x ∷ more) x in
    let e = position_end x gs more r.1 in
    let f : k + 1 ≡ suc (length gs) = omega (arith, e) in
    ap (λ (b : Bool). if b then 0 else k + 1) (turned g.name x ∙ r.0) ∙ f

-- Behind a statement

grown : (top there : Bool) (o : Source) (u : CodeUnit) (names : Checked) (sp : Spot) (x : List ℕ) (t : Ty) → top ≡ true → there ≡ false → AtTop o u names sp
    → AtTop o u (with_globals names (if there then names.globals else names.globals ++ variable x t ∷ [])) (if top then record sp { scope = with_one_global sp.scope x t (length sp.scope.globals) } else declared_local sp x t)
grown false there o u names sp x t e f here = absurd (cc)
grown true true o u names sp x t e f here = absurd (cc)
grown true false o u names sp x t e f here = record {
  high = here.high;
  slots = here.slots;
  bare = here.bare;
  ordered = ap (λ (g : List Variables). g ++ numbered x t (length g) ∷ []) here.ordered
      ∙ ap (λ (n : ℕ). in_order 0 names.globals ++ numbered x t n ∷ []) (in_order_length names.globals 0)
      ∙ sym (in_order_end names.globals (variable x t) 0 (length names.globals) (omega arith));
  calls = here.calls;
  room = here.room;
}

module _ (o : Source) (u : CodeUnit) where
  pub top_behind : (s : StmtTree) (names : Checked) (sp : Spot) → TopStmtHere o u s names sp → AtTop o u names sp → AtTop o u (behind names top s) (spot_behind s sp)
  top_behind (stmt at (line (declare t x no_right))) names sp asks here = grown sp.at_top (any_named x names.globals) o u names sp x t here.high asks here
  top_behind (stmt at (line (declare t x (a_right r)))) names sp asks here = grown sp.at_top (any_named x names.globals) o u names sp x t here.high asks.0 here
  top_behind (stmt at (line (infer x r))) names sp asks here = grown sp.at_top (any_named x names.globals) o u names sp x (right_type r) here.high asks.0 here
  top_behind (stmt at (line l)) names sp asks here = record { high = here.high; slots = here.slots; bare = here.bare; ordered = here.ordered; calls = here.calls; room = here.room }
  top_behind (stmt at f) names sp asks here = record { high = here.high; slots = here.slots; bare = here.bare; ordered = here.ordered; calls = here.calls; room = let room = here.room in omega (arith, room) }

  -- where these globals come first, the names in force agree
  pub top_around : (names : Checked) (sp : Spot) (more : List (List ℕ)) → AtTop o u names sp → o.globals ≡ names_in names.globals ++ more → Around o u [] None names (inner sp) no_leaps []
  top_around names sp more here numbers = record {
    agrees = agrees_from o u names sp.scope [] more (ap variables_of here.slots ∙ sym here.bare) (λ x. ap (λ (l : List Variables). last_number x l None) here.slots) here.ordered numbers here.calls;
    low = refl;
    under = tt;
    held_under = tt;
    around = record { breaks = tt; continues = tt };
    spare = spare_above o u sp.first [] tt;
    room = here.room;
  }

-- Globals are added at the end

pub record Grows (before after : Checked) : Type 0 where
  pub more : List Variable
  pub is : after.globals ≡ before.globals ++ more

grows_none : (names : Checked) → Grows names names
grows_none names = record { more = []; is = sym (append-nil names.globals) }

grows_one : (names : Checked) (v : Variable) (there : Bool) → Grows names (with_globals names (if there then names.globals else names.globals ++ v ∷ []))
grows_one names v true = record { more = []; is = sym (append-nil names.globals) }
grows_one names v false = record { more = v ∷ []; is = refl }

grows_stmt : (s : StmtTree) (names : Checked) → Grows names (behind names top s)
grows_stmt (stmt at (line (declare t x r))) names = grows_one names (variable x t) (any_named x names.globals)
grows_stmt (stmt at (line (infer x r))) names = grows_one names (variable x (right_type r)) (any_named x names.globals)
grows_stmt (stmt at (line l)) names = grows_none names
grows_stmt (stmt at f) names = grows_none names

grows_on : (a b c : Checked) → Grows a b → Grows b c → Grows a c
grows_on a b c f g = record { more = f.more ++ g.more; is = g.is ∙ ap (λ (l : List Variable). l ++ g.more) f.is ∙ append_assoc a.globals f.more g.more }

pub grows_parts : (ps : List PartTree) (names : Checked) → Grows names (behind_parts names ps)
grows_parts [] names = grows_none names
grows_parts (a_statement s ∷ ps) names = grows_on names (behind names top s) (behind_parts (behind names top s) ps) (grows_stmt s names) (grows_parts ps (behind names top s))
grows_parts (a_function f ∷ ps) names = grows_parts ps names
grows_parts (an_include i ∷ ps) names = grows_parts ps names

-- The generator's globals are the checker's

added_to : (gs hs : List Variable) (v : Variable) (there : Bool) → there ≡ false → gs ≡ hs → gs ++ v ∷ [] ≡ (if there then hs else hs ++ v ∷ [])
added_to gs hs v true e f = absurd (cc)
added_to gs hs v false e f = ap (λ (l : List Variable). l ++ v ∷ []) f

pub same_globals : (o : Source) (u : CodeUnit) (ps : List PartTree) (names : Checked) (k : Known) (sp : Spot) → TopsHere o u ps names sp → k.globals ≡ names.globals → (known_behind_parts ps k).globals ≡ (behind_parts names ps).globals
same_globals o u [] names k sp asks e = e
same_globals o u (a_statement (stmt at (line (declare t x no_right))) ∷ ps) names k sp asks e =
    let s = stmt at (line (declare t x no_right)) in
    same_globals o u ps (behind names top s) (with_global k x t) (spot_behind s sp) asks.1 (added_to k.globals names.globals (variable x t) (any_named x names.globals) asks.0 e)
same_globals o u (a_statement (stmt at (line (declare t x (a_right r)))) ∷ ps) names k sp asks e =
    let s = stmt at (line (declare t x (a_right r))) in
    same_globals o u ps (behind names top s) (with_global k x t) (spot_behind s sp) asks.1 (added_to k.globals names.globals (variable x t) (any_named x names.globals) asks.0.0 e)
same_globals o u (a_statement (stmt at (line (infer x r))) ∷ ps) names k sp asks e =
    let s = stmt at (line (infer x r)) in
    same_globals o u ps (behind names top s) (with_global k x (right_type r)) (spot_behind s sp) asks.1 (added_to k.globals names.globals (variable x (right_type r)) (any_named x names.globals) asks.0.0 e)
same_globals o u (a_statement (stmt at (line l)) ∷ ps) names k sp asks e = same_globals o u ps names k (spot_behind (stmt at (line l)) sp) asks.1 e
same_globals o u (a_statement (stmt at f) ∷ ps) names k sp asks e = same_globals o u ps names k (spot_behind (stmt at f) sp) asks.1 e
same_globals o u (a_function f ∷ ps) names k sp asks e = same_globals o u ps names k sp asks e
same_globals o u (an_include i ∷ ps) names k sp asks e = same_globals o u ps names k sp asks e
