-- Statements of the top level behind each other.
use Rattle.std.proofs.Common.{◌≡◌, ◌+◌, ◌<◌, ℕ, Bool, true, false, List, [], ◌∷◌, ◌++◌, length, length-append, get_or, drop, map, subst, if◌then◌else◌, refl, sym, ap, ◌∙◌, arith, append_assoc}
use Rattle.std.proofs.lemmas.List.{append-nil, drop_more}
use Rattle.bds_value.specs.declared.value.Ty.{Ty}
use Rattle.bds_code.specs.declared.unit.Function.{Function}
use Rattle.bds_tree.specs.declared.stmt.Part.{Part}
use Rattle.bds_tree.specs.StmtView.{part_of}
use Rattle.bds_tree.specs.StmtTree.{StmtTree, PartTree, stmt, line, declare, infer, a_function, an_include, a_statement}
use Rattle.bds_check_rules.specs.StmtBreaks.{right_type}
use Rattle.bds_check_size.specs.ScriptSize.{Settings, top_size}
use Rattle.bds_gen_expr.specs.Marks.{written}
use Rattle.bds_gen_expr.specs.Scope.{known, with_one_global}
use Rattle.bds_gen_expr.proofs.Written.{written-append, length-written}
use Rattle.bds_gen_stmt.specs.FunctionCode.{par_functions}
use Rattle.bds_gen_stmt.specs.Spots.{Spot, declared_local}
use Rattle.bds_gen_stmt.specs.StmtCode.{behind as spot_behind, pars}
use Rattle.bds_gen_stmt.specs.UnitCode.{top_stmt_code, top_code, top_functions, behind_parts}
use Rattle.bds_gen_stmt.proofs.Pars.{many}
use Rattle.bds_gen_stmt.proofs.ParSizes.{top-count}
use Rattle.bds_gen_stmt_code.specs.Bodies.{spot_of, next_number, place_in}
use Rattle.bds_gen_stmt_code.specs.declared.body.Unfinished.{Unfinished}
use Rattle.bds_gen_unit.specs.Tops.{PartWritten, TopWritten, TopsWritten}

pub from-item : {X : Type 0} (xs : List X) (i : ℕ) (x : X) → i < length xs → x ≡ get_or xs i x → drop i xs ≡ x ∷ drop (i + 1) xs
from-item xs i x h e = drop_more xs i x h ∙ ap (λ y. y ∷ drop (i + 1) xs) (sym e)

global-high : (b : Bool) (sp : Spot) (x : List ℕ) (t : Ty) → sp.at_top ≡ b → (if b then record sp { scope = with_one_global sp.scope x t (length sp.scope.globals) } else declared_local sp x t).at_top ≡ b
global-high true sp x t e = e
global-high false sp x t e = e

module _ (ss : Settings) where
  pub no-tops : (a : Unfinished) → TopsWritten ss [] a a
  no-tops a = record { function = refl; spot = refl; finished = sym (append-nil a.finished); first = refl }

  next-place : (s : StmtTree) (a b : Unfinished) → TopWritten ss s a b → place_in b ≡ place_in a + top_size ss s (known (spot_of a.body).scope)
  next-place s a b w =
      let code = top_stmt_code ss s (spot_of a.body) (next_number a) (place_in a) in
      ap (λ (f : Function). length f.code) w.function ∙ length-written code a.body.function ∙ ap (λ n. place_in a + n) (top-count ss s (spot_of a.body) (next_number a) (place_in a))

  more-functions : (s : StmtTree) (a b : Unfinished) → TopWritten ss s a b → next_number b ≡ next_number a + pars s
  more-functions s a b w =
      let long = length-append a.finished (par_functions s (spot_of a.body) (next_number a)) in
      let so_many = many s (spot_of a.body) (next_number a) in
      let e : length b.finished ≡ length (a.finished ++ par_functions s (spot_of a.body) (next_number a)) = ap length w.finished in
      let f = w.first in
      omega (arith, long, so_many, e, f)

  pub one-top : (s : StmtTree) (ps : List PartTree) (a b u : Unfinished) → TopWritten ss s a b → TopsWritten ss ps b u → TopsWritten ss (a_statement s ∷ ps) a u
  one-top s ps a b u w r =
      let code = top_stmt_code ss s (spot_of a.body) (next_number a) (place_in a) in
      let n = more-functions s a b w in
      let p = next-place s a b w in
      record {
        function = r.function
            ∙ ap (λ f. written f (top_code ss ps (spot_of b.body) (next_number b) (place_in b))) w.function
            ∙ ap (λ sp. written (written a.body.function code) (top_code ss ps sp (next_number b) (place_in b))) w.spot
            ∙ ap (λ n. written (written a.body.function code) (top_code ss ps (spot_behind s (spot_of a.body)) n (place_in b))) n
            ∙ ap (λ p. written (written a.body.function code) (top_code ss ps (spot_behind s (spot_of a.body)) (next_number a + pars s) p)) p
            ∙ sym (written-append code (top_code ss ps (spot_behind s (spot_of a.body)) (next_number a + pars s) (place_in a + top_size ss s (known (spot_of a.body).scope))) a.body.function);
        spot = r.spot ∙ ap (behind_parts ps) w.spot;
        finished = r.finished
            ∙ ap (λ fs. fs ++ top_functions ps (spot_of b.body) (next_number b)) w.finished
            ∙ ap (λ sp. (a.finished ++ par_functions s (spot_of a.body) (next_number a)) ++ top_functions ps sp (next_number b)) w.spot
            ∙ ap (λ n. (a.finished ++ par_functions s (spot_of a.body) (next_number a)) ++ top_functions ps (spot_behind s (spot_of a.body)) n) n
            ∙ append_assoc a.finished (par_functions s (spot_of a.body) (next_number a)) (top_functions ps (spot_behind s (spot_of a.body)) (next_number a + pars s));
        first = r.first ∙ w.first;
      }

  -- what stands further on is written behind a part
  pub tops-on : (p : PartTree) (ps : List PartTree) (a b u : Unfinished) → PartWritten ss p a b → TopsWritten ss ps b u → TopsWritten ss (p ∷ ps) a u
  tops-on (a_statement s) ps a b u w r = one-top s ps a b u w r
  tops-on (a_function f) ps a b u w r = let k = subst (λ x. TopsWritten ss ps x u) w r in record { function = k.function; spot = k.spot; finished = k.finished; first = k.first }
  tops-on (an_include i) ps a b u w r = let k = subst (λ x. TopsWritten ss ps x u) w r in record { function = k.function; spot = k.spot; finished = k.finished; first = k.first }

  high-behind : (s : StmtTree) (sp : Spot) → (spot_behind s sp).at_top ≡ sp.at_top
  high-behind (stmt at (line (declare t x r))) sp = global-high sp.at_top sp x t refl
  high-behind (stmt at (line (infer x r))) sp = global-high sp.at_top sp x (right_type r) refl
  high-behind (stmt at (line _)) sp = refl
  high-behind (stmt at _) sp = refl

  pub part-high : (p : PartTree) (a b : Unfinished) → PartWritten ss p a b → a.body.at_top ≡ true → b.body.at_top ≡ true
  part-high (a_statement s) a b w h = ap (λ (sp : Spot). sp.at_top) w.spot ∙ high-behind s (spot_of a.body) ∙ h
  part-high (a_function f) a b w h = ap (λ (x : Unfinished). x.body.at_top) w ∙ h
  part-high (an_include i) a b w h = ap (λ (x : Unfinished). x.body.at_top) w ∙ h

  pub tops-next : (xs : List Part) (i : ℕ) (x : Part) (a b u : Unfinished) → i < length xs → x ≡ get_or xs i x → PartWritten ss (part_of x) a b → TopsWritten ss (map part_of (drop (i + 1) xs)) b u → TopsWritten ss (map part_of (drop i xs)) a u
  tops-next xs i x a b u h is w r = subst (λ l. TopsWritten ss (map part_of l) a u) (sym (from-item xs i x h is)) (tops-on (part_of x) (map part_of (drop (i + 1) xs)) a b u w r)
