-- What is in force behind a block, and behind what it stands in.
use Rattle.std.proofs.Common.{◌≡◌, ◌+◌, ℕ, Bool, true, false, Option, Some, None, List, [], ◌∷◌, ◌++◌, length, take, refl, sym, ◌∙◌, ap, ap₂, arith, append_assoc, append-nil, if◌then◌else◌}
use Rattle.bds_value.specs.declared.value.Ty.{Ty}
use Rattle.bds_code.specs.declared.unit.Function.{Function}
use Rattle.bds_tree.specs.StmtTree.{StmtTree, LineTree, StmtTrees, BlockTree, stmt, line, declare, infer, block, no_stmts, more_stmts, SmallTree, SmallFormTree, small_declare, small_infer, small_assign, small_update, small_step, small_call}
use Rattle.bds_check_names.specs.declared.names.Variable.{Variable}
use Rattle.bds_check_names.specs.Slots.{line_slots, small_form_slots, small_slots, slots, stmts_slots, block_slots}
use Rattle.bds_check_rules.specs.Declarations.{declared_by_small}
use Rattle.bds_check_rules.specs.StmtBreaks.{right_type}
use Rattle.bds_gen_expr.specs.Marks.{Mark}
use Rattle.bds_gen_expr.specs.Numbers.{numbered}
use Rattle.bds_gen_expr.specs.Scope.{with_one_global}
use Rattle.bds_gen_expr.specs.declared.scope.Numbered.{Numbered}
use Rattle.bds_tree.specs.Tree.{type_of}
use Rattle.bds_gen_stmt.specs.PlaceCode.{behind_small_form, behind_small}
use Rattle.bds_gen_stmt.specs.Spots.{Loop, Spot, inner, behind_slots, declared_local, local_with}
use Rattle.bds_gen_stmt.specs.StmtCode.{behind, behind_line}
use Rattle.bds_gen_stmt.proofs.Loops.{at_loop}
use Rattle.bds_gen_stmt.proofs.StmtCounts.{behind-low}
use Rattle.bds_gen_stmt_code.specs.Bodies.{spot_of, entered, left}
use Rattle.bds_gen_stmt_code.specs.declared.body.Unfinished.{Unfinished}
use Rattle.bds_gen_stmt_code.proofs.Then.{take-front}
use Rattle.bds_gen_stmt_code.proofs.Went.{Went}

-- More locals and slots

abbrev pub further_spot : Spot → List Numbered → ℕ → Spot
further_spot sp ls k = record sp { scope = record sp.scope { locals = sp.scope.locals ++ ls }; next = sp.next + k }

pub record Further (sp behind : Spot) (k : ℕ) : Type 0 where
  pub more : List Numbered
  pub is : behind ≡ further_spot sp more k

abbrev spot-at : Spot → List Numbered → ℕ → Spot
spot-at sp ls n = record sp { scope = record sp.scope { locals = ls }; next = n }

pub further-slots : (sp : Spot) (k : ℕ) → Further sp (behind_slots sp k) k
further-slots sp k = record { more = []; is = ap (λ ls. spot-at sp ls (sp.next + k)) (sym (append-nil sp.scope.locals)) }

further-none : (sp : Spot) → Further sp sp 0
further-none sp = record { more = []; is = ap₂ (λ ls n. spot-at sp ls n) (sym (append-nil sp.scope.locals)) (let e : sp.next ≡ sp.next + 0 = omega arith in e) }

pub further-then : (a b c : Spot) (k j : ℕ) → Further a b k → Further b c j → Further a c (k + j)
further-then a b c k j f g = record {
  more = f.more ++ g.more;
  is = g.is ∙ ap (λ sp. further_spot sp g.more j) f.is ∙ ap₂ (λ ls n. spot-at a ls n) (append_assoc a.scope.locals f.more g.more) (let e : a.next + k + j ≡ a.next + (k + j) = omega arith in e);
}

declared-further : (b : Bool) (sp : Spot) (x : List ℕ) (t : Ty) → b ≡ false → Further sp (if b then record sp { scope = with_one_global sp.scope x t (length sp.scope.globals) } else declared_local sp x t) 1
declared-further true sp x t e = absurd (cc)
declared-further false sp x t e = record { more = numbered x t sp.next ∷ []; is = refl }

line-further : (l : LineTree) (sp : Spot) → sp.at_top ≡ false → Further sp (behind_line l sp) (line_slots l)
line-further (declare t x r) sp low = declared-further sp.at_top sp x t low
line-further (infer x r) sp low = declared-further sp.at_top sp x (right_type r) low
line-further _ sp low = further-none sp

stmt-further : (s : StmtTree) (sp : Spot) → sp.at_top ≡ false → Further sp (behind s sp) (slots s)
stmt-further (stmt at (line l)) sp low = line-further l sp low
stmt-further (stmt at f) sp low = further-slots sp (slots (stmt at f))

abbrev pub behind_stmts : StmtTrees → Spot → Spot
behind_stmts no_stmts sp = sp
behind_stmts (more_stmts s ss) sp = behind_stmts ss (behind s sp)

abbrev pub behind_block : BlockTree → Spot → Spot
behind_block (block at ss) sp = behind_stmts ss sp

pub stmts-further : (ss : StmtTrees) (sp : Spot) → sp.at_top ≡ false → Further sp (behind_stmts ss sp) (stmts_slots ss)
stmts-further no_stmts sp low = further-none sp
stmts-further (more_stmts s ss) sp low = further-then sp (behind s sp) (behind_stmts ss (behind s sp)) (slots s) (stmts_slots ss) (stmt-further s sp low) (stmts-further ss (behind s sp) (behind-low s sp low))

pub block-further : (b : BlockTree) (sp : Spot) → sp.at_top ≡ false → Further sp (behind_block b sp) (block_slots b)
block-further (block at ss) sp low = stmts-further ss sp low

pub inner-further : (s : StmtTree) (sp : Spot) → sp.at_top ≡ false → Further sp (behind s sp) (slots s)
inner-further s sp low = stmt-further s sp low

-- What was declared within isn't in force behind

abbrev restored : Unfinished → Spot → Spot
restored u sp = record sp { scope = record sp.scope { locals = take (length u.body.scope.locals) sp.scope.locals }; at_top = u.body.at_top }

pub went-left : (ms : Option Loop → List Mark) (fs : List Function) (sp : Spot) (k : ℕ) (u v : Unfinished) → Went ms fs sp u v → Further (spot_of u.body) sp k → Went ms fs (behind_slots (spot_of u.body) k) u (left u v)
went-left ms fs sp k u v a f = record {
  new = a.new;
  leaps = a.leaps;
  low = a.low;
  high = a.high;
  rising = a.rising;
  unset = a.unset;
  is = a.is;
  spot = ap (restored u) (a.spot ∙ f.is) ∙ ap (λ ls. spot-at (spot_of u.body) ls ((spot_of u.body).next + k)) (take-front u.body.scope.locals f.more);
  finished = a.finished;
  first = a.first;
}

pub went-entered : (ms : Option Loop → List Mark) (fs : List Function) (sp : Spot) (k : ℕ) (u v : Unfinished) → Went ms fs sp (entered u) v → Further (spot_of (entered u).body) sp k → Went ms fs (behind_slots (spot_of u.body) k) u (left u v)
went-entered ms fs sp k u v a f = record {
  new = a.new;
  leaps = a.leaps;
  low = a.low;
  high = a.high;
  rising = a.rising;
  unset = a.unset;
  is = a.is;
  spot = ap (restored u) (a.spot ∙ f.is) ∙ ap (λ ls. spot-at (spot_of u.body) ls ((spot_of u.body).next + k)) (take-front u.body.scope.locals f.more);
  finished = a.finished;
  first = a.first;
}

pub local-further : (sp : Spot) (x : List ℕ) (t : Ty) → Further sp (declared_local sp x t) 1
local-further sp x t = record { more = numbered x t sp.next ∷ []; is = refl }

small-form-further : (x : SmallFormTree) (sp : Spot) → Further sp (behind_small_form x sp) (small_form_slots x)
small-form-further (small_declare t x e) sp = record { more = numbered x t sp.next ∷ []; is = refl }
small-form-further (small_infer x e) sp = record { more = numbered x (type_of e) sp.next ∷ []; is = refl }
small-form-further (small_assign q e) sp = further-none sp
small-form-further (small_update q o e) sp = further-none sp
small-form-further (small_step x) sp = further-none sp
small-form-further (small_call e) sp = further-none sp

pub small-further : (x : Option SmallTree) (sp : Spot) → Further sp (behind_small x sp) (small_slots x)
small-further None sp = further-none sp
small-further (Some x) sp = small-form-further x.form sp

local-with-inner : (v : Option Variable) (sp : Spot) → local_with (inner sp) v ≡ inner (local_with sp v)
local-with-inner None sp = refl
local-with-inner (Some v) sp = refl

pub small-inner : (x : Option SmallTree) (sp : Spot) → behind_small x (inner sp) ≡ inner (behind_small x sp)
small-inner x sp = local-with-inner (declared_by_small x) sp

local-with-loop : (v : Option Variable) (sp : Spot) (o : Option Loop) → local_with (at_loop sp o) v
    ≡ at_loop (local_with sp v) o
local-with-loop None sp o = refl
local-with-loop (Some v) sp o = refl

pub small-loop : (x : Option SmallTree) (sp : Spot) (o : Option Loop) → behind_small x (at_loop sp o) ≡ at_loop (behind_small x sp) o
small-loop x sp o = local-with-loop (declared_by_small x) sp o
