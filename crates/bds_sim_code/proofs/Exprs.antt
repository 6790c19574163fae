-- Where the generated code of an expression stands, its term begins: one case for each form.
use Rattle.std.proofs.Common.{◌≡◌, ℕ, zero, suc, ◌+◌, Bool, true, false, List, [], ◌∷◌, map, Option, Some, None, IsSome, refl, sym, ap, subst, arith, if◌then◌else◌}
use Rattle.bds_value.specs.declared.methods.Method.{Method}
use Rattle.bds_value.specs.declared.methods.Method.TheVariants as by
use Rattle.bds_value.specs.declared.value.At.{At}
use Rattle.bds_value.specs.declared.value.Op.{Op}
use Rattle.bds_value.specs.declared.value.Op.TheVariants as vop
use Rattle.bds_value.specs.declared.value.Ty.{Ty}
use Rattle.bds_value.specs.declared.value.Ty.TheVariants as ty
use Rattle.bds_value.specs.declared.value.Value.TheVariants as value
use Rattle.bds_value.specs.Types.{same_ty}
use Rattle.bds_tree.specs.declared.expr.BinaryOp.{BinaryOp}
use Rattle.bds_tree.specs.declared.token.Piece.{Piece}
use Rattle.bds_code.specs.declared.instr.Instr.{Instr}
use Rattle.bds_code.specs.declared.instr.Instr.TheVariants as instr
use Rattle.bds_code.specs.declared.unit.Unit.{Unit as CodeUnit}
use Rattle.bds_check_names.specs.declared.names.Names.{Names as Checked}
use Rattle.bds_check_names.specs.Scopes.{found}
use Rattle.bds_check_size.specs.Parts.{Part as TextPart, says, shows, shows_at, shows_at_name, shows_key, shows_key_name, parts_of, part_size, joined_size, parts_size}
use Rattle.bds_check_size.specs.declared.sums.Sum.{Sum}
use Rattle.bds_check_size.specs.declared.sums.Sum.TheVariants as sums
use Rattle.bds_check_size.specs.ExprSize.{listing_size}
use Rattle.bds_gen_expr.specs.Marks.{Mark, does, one as one_mark, count as marks}
use Rattle.bds_gen_expr.specs.Scope.{types_in, load}
use Rattle.bds_gen_expr.specs.declared.scope.Scope.{Scope}
use Rattle.bds_gen_expr.specs.ExprCode.{part_code, joined_code, parts_code, pieces_code, sum_between, sum_behind, operator, between_size, file_code, method_code, listing}
use Rattle.bds_meaning.specs.OpeningExpressions.{shown, operated, files_if, method_term}
use Rattle.bds_meaning.specs.OpeningTexts.{scope_of, variable, one, two, plain, joined, joined_all, text_of_parts, part_term, text_term}
use Rattle.bds_meaning.specs.Term.{Computation, Operated, Shown, Pieced, ItemTaken, KeyTaken, MethodCalled, ListMade, FileRead, FileWritten, FileRemoved, FileStamped, Term, Constant, Compute, Does, Nothing, More}
use Rattle.bds_schedule.specs.Requests.{IsThere, IsEmpty, SizeOf}
use Rattle.bds_sim_terms.specs.steps.Stands.{Source, Names, Loop, IsPush, IsCode, operator_code, Lined, Comes}
use Rattle.bds_sim_code.proofs.Blocks.{Part, Form, comes_here, constant_begins, variable_begins, nothing_begins, more_begins, compute_begins, does_begins}
use Rattle.bds_sim_code.proofs.Agree.{Agrees}
use Rattle.bds_sim_code.specs.Here.{PartKnown, PartsKnown, FileGives, MethodGives}
use Rattle.bds_sim_code.proofs.Marked.{Has, has_both}
use Rattle.bds_sim_code.proofs.Sums.{term_by, files_by, files_is}

module _ (o : Source) (u : CodeUnit) (fn : ℕ) (held : List ℕ) (slots : Names) (names : Checked) (sc : Scope) (agrees : Agrees o u names sc slots) where
  abbrev P : Term → ℕ → ℕ → ℕ → Type 0
  P t pc exit kind = Part o u fn held slots t pc exit kind

  abbrev F : Option Loop → Term → ℕ → ℕ → ℕ → Type 0
  F loop t pc exit kind = Form o u fn held slots loop t pc exit kind

  abbrev H : List Mark → ℕ → Type 0
  H ms pc = Has o u fn ms pc

  abbrev C : ℕ → ℕ → Type 0
  C pc to = Comes o u fn pc to

  abbrev T : List ℕ → Option Ty
  T = types_in sc

  -- places

  pub at_place : (t : Term) (pc a b kind : ℕ) → a ≡ b → P t pc a kind → P t pc b kind
  at_place t pc a b kind e h = subst (λ n. P t pc n kind) e h

  pub goes_from : (a b to : ℕ) → a ≡ b → C a to → C b to
  goes_from a b to e c = subst (λ n. C n to) e c

  pub has_at : (ms : List Mark) (a b : ℕ) → a ≡ b → H ms a → H ms b
  has_at ms a b e h = subst (H ms) e h

  pub as_kind : (loop : Option Loop) (t : Term) (pc exit k : ℕ) → k ≡ 1 → F loop t pc exit 1 → F loop t pc exit k
  as_kind loop t pc exit k e h = subst (F loop t pc exit) (sym e) h

  -- operands

  pub one_part : (a : Term) (pc end : ℕ) → P a pc end 1 → P (one a) pc end 1
  one_part a pc end h = more_begins o u fn held slots None a Nothing pc end end end 1 0 1 h (nothing_begins o u fn held slots None end end (comes_here o u fn end)) (comes_here o u fn end) refl

  pub two_parts : (a b : Term) (pc mid end : ℕ) → P a pc mid 1 → P b mid end 1 → P (two a b) pc end 2
  two_parts a b pc mid end ha hb = more_begins o u fn held slots None a (one b) pc mid end end 1 1 2 ha (one_part b mid end hb) (comes_here o u fn end) refl

  pub computed_one : (loop : Option Loop) (comp : Computation) (i : Instr) (at : At) (a : Term) (pc mid exit : ℕ) → IsCode comp 1 i → P a pc mid 1 → Lined o u fn mid i at → C (mid + 1) exit → F loop (Compute comp at (one a)) pc exit 1
  computed_one loop comp i at a pc mid exit code h is comes = compute_begins o u fn held slots loop comp 1 i (one a) at pc mid exit code (one_part a pc mid h) is comes

  pub computed_two : (loop : Option Loop) (comp : Computation) (i : Instr) (at : At) (a b : Term) (pc mid end exit : ℕ) → IsCode comp 2 i → P a pc mid 1 → P b mid end 1 → Lined o u fn end i at → C (end + 1) exit → F loop (Compute comp at (two a b)) pc exit 1
  computed_two loop comp i at a b pc mid end exit code ha hb is comes = compute_begins o u fn held slots loop comp 2 i (two a b) at pc end exit code (two_parts a b pc mid end ha hb) is comes

  -- constants and variables

  pub pushed : (loop : Option Loop) (i : Instr) (v : Rattle.bds_value.specs.declared.value.Value.Value) (at : At) (pc exit : ℕ) → IsPush i v → Lined o u fn pc i at → C (pc + 1) exit → F loop (Constant v) pc exit 1
  pushed loop i v at pc exit push is comes = constant_begins o u fn held slots loop i v at pc exit push is comes

  pub loaded : (loop : Option Loop) (x : List ℕ) (at : At) (pc exit : ℕ) → IsSome (T x) → Lined o u fn pc (load sc x) at → C (pc + 1) exit → F loop (variable names x) pc exit 1
  loaded loop x at pc exit known is comes =
      let n = agrees.variables x known in
      variable_begins o u fn held slots loop (scope_of names x) x n.number at pc exit n.is (subst (λ i. Lined o u fn pc i at) n.code is) comes

  -- texts

  part_begins : (loop : Option Loop) (p : TextPart) (at : At) (pc exit : ℕ) → PartKnown o u names sc p → H (part_code sc at p) pc → C (pc + part_size p) exit → F loop (part_term names at p) pc exit 1
  part_begins loop (says t) at pc exit k h c = pushed loop (instr.PushText t) (value.Text t) at pc exit refl h.0 c
  part_begins loop (shows x) at pc exit k h c =
      computed_one loop Pieced instr.Blank at (variable names x) pc (pc + 1) exit (refl, refl) (loaded None x at pc (pc + 1) k h.0 (comes_here o u fn (pc + 1))) h.1.0 (goes_from (pc + 2) (pc + 1 + 1) exit (omega arith) c)
  part_begins loop (shows_at x n) at pc exit k h c =
      computed_one loop Pieced instr.Blank at (Compute ItemTaken at (two (variable names x) (Constant (value.Int n)))) pc (pc + 1 + 1 + 1) exit (refl, refl)
      (computed_two None ItemTaken instr.Item at (variable names x) (Constant (value.Int n)) pc (pc + 1) (pc + 1 + 1) (pc + 1 + 1 + 1) (refl, refl) (loaded None x at pc (pc + 1) k h.0 (comes_here o u fn (pc + 1)))
      (pushed None (instr.PushInt n) (value.Int n) at (pc + 1) (pc + 1 + 1) refl h.1.0 (comes_here o u fn (pc + 1 + 1))) h.1.1.0 (comes_here o u fn (pc + 1 + 1 + 1))) h.1.1.1.0 (goes_from (pc + 4) (pc + 1 + 1 + 1 + 1) exit (omega arith) c)
  part_begins loop (shows_at_name x y) at pc exit k h c =
      computed_one loop Pieced instr.Blank at (Compute ItemTaken at (two (variable names x) (variable names y))) pc (pc + 1 + 1 + 1) exit (refl, refl)
      (computed_two None ItemTaken instr.Item at (variable names x) (variable names y) pc (pc + 1) (pc + 1 + 1) (pc + 1 + 1 + 1) (refl, refl) (loaded None x at pc (pc + 1) k.0 h.0 (comes_here o u fn (pc + 1)))
      (loaded None y at (pc + 1) (pc + 1 + 1) k.1 h.1.0 (comes_here o u fn (pc + 1 + 1))) h.1.1.0 (comes_here o u fn (pc + 1 + 1 + 1))) h.1.1.1.0 (goes_from (pc + 4) (pc + 1 + 1 + 1 + 1) exit (omega arith) c)
  part_begins loop (shows_key x t) at pc exit k h c =
      computed_one loop Pieced instr.Blank at (Compute KeyTaken at (two (variable names x) (plain t))) pc (pc + 1 + 1 + 1) exit (refl, refl)
      (computed_two None KeyTaken instr.Key at (variable names x) (plain t) pc (pc + 1) (pc + 1 + 1) (pc + 1 + 1 + 1) (refl, refl) (loaded None x at pc (pc + 1) k h.0 (comes_here o u fn (pc + 1)))
      (pushed None (instr.PushText t) (value.Text t) at (pc + 1) (pc + 1 + 1) refl h.1.0 (comes_here o u fn (pc + 1 + 1))) h.1.1.0 (comes_here o u fn (pc + 1 + 1 + 1))) h.1.1.1.0 (goes_from (pc + 4) (pc + 1 + 1 + 1 + 1) exit (omega arith) c)
  part_begins loop (shows_key_name x y) at pc exit k h c =
      computed_one loop Pieced instr.Blank at (Compute KeyTaken at (two (variable names x) (variable names y))) pc (pc + 1 + 1 + 1) exit (refl, refl)
      (computed_two None KeyTaken instr.Key at (variable names x) (variable names y) pc (pc + 1) (pc + 1 + 1) (pc + 1 + 1 + 1) (refl, refl) (loaded None x at pc (pc + 1) k.0 h.0 (comes_here o u fn (pc + 1)))
      (loaded None y at (pc + 1) (pc + 1 + 1) k.1 h.1.0 (comes_here o u fn (pc + 1 + 1))) h.1.1.0 (comes_here o u fn (pc + 1 + 1 + 1))) h.1.1.1.0 (goes_from (pc + 4) (pc + 1 + 1 + 1 + 1) exit (omega arith) c)

  part_count : (p : TextPart) (at : At) → marks (part_code sc at p) ≡ part_size p
  part_count (says t) at = refl
  part_count (shows x) at = refl
  part_count (shows_at x n) at = refl
  part_count (shows_at_name x y) at = refl
  part_count (shows_key x t) at = refl
  part_count (shows_key_name x y) at = refl

  -- wherever it is done
  abbrev pub Ends : Term → ℕ → ℕ → Type 0
  Ends t pc end = (loop : Option Loop) (exit : ℕ) → C end exit → F loop t pc exit 1

  joined_begins : (ps : List TextPart) (at : At) (a : Term) (from pc : ℕ) → Ends a from pc → PartsKnown o u names sc ps → H (joined_code sc at ps) pc → Ends (joined_all at a (map (part_term names at) ps)) from (pc + joined_size ps)
  joined_begins [] at a from pc ha k h loop exit c = ha loop exit (goes_from (pc + 0) pc exit (omega arith) c)
  joined_begins (p ∷ ps) at a from pc ha k h loop exit c =
      let r = has_both o u fn (part_code sc at p) (does instr.Concat at ∷ joined_code sc at ps) pc h in
      let mid = pc + part_size p in
      let concat = has_at (does instr.Concat at ∷ joined_code sc at ps) (pc + marks (part_code sc at p)) mid (ap (λ n. pc + n) (part_count p at)) r.1 in
      joined_begins ps at (joined at a (part_term names at p)) from (mid + 1)
      (λ loop' exit' c'. computed_two loop' (Operated vop.Concat) instr.Concat at a (part_term names at p) from pc mid exit' (refl, refl) (ha None pc (comes_here o u fn pc)) (part_begins None p at pc mid k.0 r.0 (comes_here o u fn mid)) concat.0 c')
      k.1 concat.1 loop exit (goes_from (pc + joined_size (p ∷ ps)) (mid + 1 + joined_size ps) exit (omega arith) c)

  parts_begin : (ps : List TextPart) (at : At) (pc : ℕ) → PartsKnown o u names sc ps → H (parts_code sc at ps) pc → Ends (text_of_parts at (map (part_term names at) ps)) pc (pc + parts_size ps)
  parts_begin [] at pc k h loop exit c = pushed loop (instr.PushText []) (value.Text []) at pc exit refl h.0 c
  parts_begin (p ∷ ps) at pc k h loop exit c =
      let r = has_both o u fn (part_code sc at p) (joined_code sc at ps) pc h in
      joined_begins ps at (part_term names at p) pc (pc + part_size p) (λ loop' exit' c'. part_begins loop' p at pc exit' k.0 r.0 c') k.1
      (has_at (joined_code sc at ps) (pc + marks (part_code sc at p)) (pc + part_size p) (ap (λ n. pc + n) (part_count p at)) r.1) loop exit (goes_from (pc + parts_size (p ∷ ps)) (pc + part_size p + joined_size ps) exit (omega arith) c)

  -- the types of variables are the checker's
  same_types : ◌≡◌ {A = List ℕ → Option Ty} T (λ x. found x names)
  same_types = λ i. λ x. agrees.types x i

  pub pieces_begin : (ps : List Piece) (at : At) (pc : ℕ) → PartsKnown o u names sc (parts_of T ps) → H (pieces_code sc at ps) pc → Ends (text_term names at ps) pc (pc + parts_size (parts_of T ps))
  pieces_begin ps at pc k h = subst (λ (f : List ℕ → Option Ty). Ends (text_of_parts at (map (part_term names at) (parts_of f ps))) pc (pc + parts_size (parts_of T ps))) same_types (parts_begin (parts_of T ps) at pc k h)

  -- Operators and methods

  operator_is : (s : BinaryOp) (w : Op) → operator s ≡ operator_code w → IsCode (Operated w) 2 (operator s)
  operator_is s w e = (refl, e)

  pub operated_begins : (loop : Option Loop) (s : BinaryOp) (w : Op) (at : At) (a b : Term) (pc mid end exit : ℕ) → operator s ≡ operator_code w → P a pc mid 1 → P b mid end 1 → Lined o u fn end (operator s) at → C (end + 1) exit → F loop (operated w at a b) pc exit 1
  operated_begins loop s w at a b pc mid end exit e ha hb is c = computed_two loop (Operated w) (operator s) at a b pc mid end exit (operator_is s w e) ha hb is c

  -- a sum of these operands, whose code stands between and behind them
  pub summed : (sum : Sum) (loop : Option Loop) (at : At) (a b : Term) (from pc mid end exit : ℕ) → P a from pc 1 → H (sum_between at sum) pc → mid ≡ pc + between_size sum → P b mid end 1 → H (sum_behind at sum) end → C (end + marks (sum_behind at sum)) exit
      → F loop (term_by sum at a b) from exit 1
  summed sums.Numbers loop at a b from pc mid end exit ha h1 e hb h2 c = computed_two loop (Operated vop.Add) instr.Add at a b from mid end exit (refl, refl) (at_place a from pc mid 1 (omega (arith, e)) ha) hb h2.0 c
  summed sums.ItemAdded loop at a b from pc mid end exit ha h1 e hb h2 c = computed_two loop (Operated vop.ListAdd) instr.ListAdd at a b from mid end exit (refl, refl) (at_place a from pc mid 1 (omega (arith, e)) ha) hb h2.0 c
  summed sums.ListsJoined loop at a b from pc mid end exit ha h1 e hb h2 c = computed_two loop (Operated vop.ListCat) instr.ListCat at a b from mid end exit (refl, refl) (at_place a from pc mid 1 (omega (arith, e)) ha) hb h2.0 c
  summed sums.Texts loop at a b from pc mid end exit ha h1 e hb h2 c =
      computed_two loop (Operated vop.Concat) instr.Concat at (shown at a) (shown at b) from mid (end + 1) exit (refl, refl)
      (computed_one None Shown instr.Show at a from pc mid (refl, refl) ha h1.0 (goes_from mid (pc + 1) mid (omega (arith, e)) (comes_here o u fn mid)))
      (computed_one None Shown instr.Show at b mid end (end + 1) (refl, refl) hb h2.0 (comes_here o u fn (end + 1))) h2.1.0 (goes_from (end + 2) (end + 1 + 1) exit (omega arith) c)

  -- a file, or files, as a list
  listed : (x : Bool) (at : At) (a : Term) (from pc end : ℕ) → P a from pc 1 → H (if x then one_mark at (instr.MakeList ty.Text 1) else []) pc → end ≡ pc + (if x then 1 else 0) → P (files_by x at a) from end 1
  listed true at a from pc end ha h e = computed_one None (ListMade ty.Text) (instr.MakeList ty.Text 1) at a from pc end refl ha h.0 (goes_from end (pc + 1) end (omega (arith, e)) (comes_here o u fn end))
  listed false at a from pc end ha h e = at_place a from pc end 1 (omega (arith, e)) ha

  pub files_begin : (t : Ty) (at : At) (a : Term) (from pc end : ℕ) → P a from pc 1 → H (listing at t) pc → end ≡ pc + listing_size t → P (files_if t at a) from end 1
  files_begin t at a from pc end ha h e = subst (λ x. P x from end 1) (sym (files_is t at a)) (listed (same_ty t ty.Text) at a from pc end ha h e)

  -- a receiver with its arguments
  pub with_arguments : (a es : Term) (n from pc end : ℕ) → P a from pc 1 → P es pc end n → P (More a es) from end (n + 1)
  with_arguments a es n from pc end ha hes = more_begins o u fn held slots None a es from pc end end 1 n (n + 1) ha hes (comes_here o u fn end) refl

  file_begins : (q n k : ℕ) (loop : Option Loop) (at : At) (a : Term) (from pc exit : ℕ) → FileGives o u names sc q n k → P a from pc (n + 1) → H (file_code at q) pc → C (pc + marks (file_code at q)) exit
      → F loop (method_term (Some (by.File q)) at a) from exit k
  file_begins zero n k loop at a from pc exit g ha h c =
      subst (F loop (Does FileRead at a) from exit) (sym g.1) (does_begins o u fn held slots loop FileRead a at from pc exit (subst (P a from pc) (let e : n + 1 ≡ 1 = omega (arith, g.0) in e) ha) h.0 c)
  file_begins (suc zero) n k loop at a from pc exit g ha h c =
      subst (F loop (Compute (MethodCalled 29) at (one (Does FileRead at a))) from exit) (sym g.1)
      (computed_one loop (MethodCalled 29) (instr.Method 29) at (Does FileRead at a) from (pc + 1) exit (0, refl, refl, refl)
      (does_begins o u fn held slots None FileRead a at from pc (pc + 1) (subst (P a from pc) (let e : n + 1 ≡ 1 = omega (arith, g.0) in e) ha) h.0 (comes_here o u fn (pc + 1))) h.1.0 (goes_from (pc + 2) (pc + 1 + 1) exit (omega arith) c))
  file_begins (suc (suc zero)) n k loop at a from pc exit g ha h c =
      subst (F loop (Does FileWritten at a) from exit) (sym g.1) (does_begins o u fn held slots loop FileWritten a at from pc exit (subst (P a from pc) (let e : n + 1 ≡ 2 = omega (arith, g.0) in e) ha) h.0 c)
  file_begins (suc (suc (suc zero))) n k loop at a from pc exit g ha h c =
      subst (F loop (Does FileRemoved at a) from exit) (sym g.1) (does_begins o u fn held slots loop FileRemoved a at from pc exit (subst (P a from pc) (let e : n + 1 ≡ 1 = omega (arith, g.0) in e) ha) h.0 c)
  file_begins (suc (suc (suc (suc zero)))) n k loop at a from pc exit g ha h c =
      subst (F loop (Does (FileStamped IsThere) at a) from exit) (sym g.1) (does_begins o u fn held slots loop (FileStamped IsThere) a at from pc exit (subst (P a from pc) (let e : n + 1 ≡ 1 = omega (arith, g.0) in e) ha) h.0 c)
  file_begins (suc (suc (suc (suc (suc zero))))) n k loop at a from pc exit g ha h c =
      subst (F loop (Does (FileStamped IsEmpty) at a) from exit) (sym g.1) (does_begins o u fn held slots loop (FileStamped IsEmpty) a at from pc exit (subst (P a from pc) (let e : n + 1 ≡ 1 = omega (arith, g.0) in e) ha) h.0 c)
  file_begins (suc (suc (suc (suc (suc (suc zero)))))) n k loop at a from pc exit g ha h c =
      subst (F loop (Does (FileStamped SizeOf) at a) from exit) (sym g.1) (does_begins o u fn held slots loop (FileStamped SizeOf) a at from pc exit (subst (P a from pc) (let e : n + 1 ≡ 1 = omega (arith, g.0) in e) ha) h.0 c)
  file_begins (suc (suc (suc (suc (suc (suc (suc q))))))) n k loop at a from pc exit g ha h c = absurd g

  pub method_begins : (m : Option Method) (n k : ℕ) (loop : Option Loop) (at : At) (a : Term) (from pc exit : ℕ) → MethodGives o u names sc m n k → P a from pc (n + 1) → H (method_code at m) pc → C (pc + marks (method_code at m)) exit → F loop (method_term m at a) from exit k
  method_begins (Some (by.Plain m)) n k loop at a from pc exit g ha h c =
      subst (F loop (Compute (MethodCalled m) at a) from exit) (sym g.1) (compute_begins o u fn held slots loop (MethodCalled m) (n + 1) (instr.Method m) a at from pc exit (n, g.0, refl, refl) ha h.0 c)
  method_begins (Some (by.File q)) n k loop at a from pc exit g ha h c = file_begins q n k loop at a from pc exit g ha h c
  method_begins (Some (by.Change q)) n k loop at a from pc exit g ha h c = absurd g
  method_begins None n k loop at a from pc exit g ha h c = absurd g
