-- Where the code of a statement's parts begins them, the statement begins.
use Rattle.std.proofs.Common.{◌≡◌, ℕ, ◌+◌, pos, List, [], ◌∷◌, ◌++◌, map, length, Option, Some, slice_get, refl}
use Rattle.bds_value.specs.declared.value.At.{At}
use Rattle.bds_code.specs.declared.instr.Instr.TheVariants as instr
use Rattle.bds_code.specs.declared.unit.Function.{Function}
use Rattle.bds_code.specs.declared.unit.Unit.{Unit as CodeUnit}
use Rattle.bds_meaning.specs.Step.{function_in}
use Rattle.bds_meaning.specs.Term.{Change, Into, Term, Then, Block, Declare, Update, While, Each, Switch, Break, Continue, Return, Error, Exit, SpawnCall}
use Rattle.bds_meaning.specs.Variables.{Scope, local, global}
use Rattle.bds_sim_terms.specs.steps.Stands.{Source, Names, Target, Loop, out_of, again_of, switch_at, CasesTried, DefaultRuns, Free, Unheld, IsNumber, IsChange, is_global, is_key, position_of, results, Is, Lined, Comes, Drops, CodeBegins, LoopAt, EachAt, Row, Stands}
use Rattle.bds_sim_terms.proofs.steps.Slots.{holds_length}
use Rattle.bds_sim_code.proofs.Blocks.{Part, Form, comes_here}

module _ (o : Source) (u : CodeUnit) (fn : ℕ) (held : List ℕ) (loop : Option Loop) where
  -- the code of a statement begins its term, puts these names in force, and drops the values that the term gives
  pub record Done (ns : Names) (t : Term) (pc : ℕ) (behind : Names) (exit : ℕ) : Type 0 where
    pub kind : ℕ
    pub end : ℕ
    pub begins : CodeBegins o u (Stands o u t) fn loop held ns pc behind end kind
    pub drops : Drops o u fn kind end exit

  abbrev pub Run : Names → Term → ℕ → Names → ℕ → Type 0
  Run ns t pc behind exit = CodeBegins o u (Stands o u t) fn loop held ns pc behind exit 0

  pub done_run : (ns behind : Names) (t : Term) (pc exit : ℕ) → Run ns t pc behind exit → Done ns t pc behind exit
  done_run ns behind t pc exit h = record { kind = 0; end = exit; begins = h; drops = comes_here o u fn exit }

  pub then_begins : (ns mid_names behind : Names) (a b : Term) (pc mid exit : ℕ) → Done ns a pc mid_names mid → Run mid_names b mid behind exit → Run ns (Then a b) pc behind exit
  then_begins ns mid_names behind a b pc mid exit ha hb = record {
    at = λ vs slots base kept below named fits. (refl, (mid_names, (ha.kind, ha.end, mid, ha.drops, hb, ha.begins.at vs slots base kept below named fits)));
  }

  pub block_begins : (ns added : Names) (t : Term) (pc exit : ℕ) → Done ns t pc (added ++ ns) exit → Run ns (Block t) pc ns exit
  block_begins ns added t pc exit h = record {
    at = λ vs slots base kept below named fits. (refl, holds_length ns vs.locals slots fits.holds, (added, (h.kind, h.end, h.drops, h.begins.at vs slots base kept below named fits)));
  }

  pub local_begins : (ns : Names) (x : List ℕ) (slot : ℕ) (a : Term) (pc mid exit : ℕ) → Free slot ns → Unheld slot held → Part o u fn held ns a pc mid 1 → Is o u fn mid (instr.Store slot) → Comes o u fn (mid + 1) exit → Run ns (Declare local x a) pc ((x, Some slot) ∷ ns) exit
  local_begins ns x slot a pc mid exit free unheld ha is comes = record {
    at = λ vs slots base kept below named fits. (refl, (ns, (slot, mid, refl, free, unheld, record { is = is; comes = comes }, ha.at vs slots base kept below named fits)));
  }

  pub global_begins : (ns : Names) (x : List ℕ) (a : Term) (pc mid exit : ℕ) → Part o u fn held ns a pc mid 1 → Is o u fn mid (instr.StoreGlobal (position_of o.globals x)) → Comes o u fn (mid + 1) exit → Run ns (Declare global x a) pc ns exit
  global_begins ns x a pc mid exit ha is comes = record {
    at = λ vs slots base kept below named fits. (refl, (mid, record { is = is; comes = comes }, ha.at vs slots base kept below named fits));
  }

  pub update_begins : (ns : Names) (at : At) (scope : Scope) (x : List ℕ) (into : List Into) (change : Change) (n what k : ℕ) (a : Term) (pc mid exit : ℕ) → IsNumber o scope ns x n → IsChange change what k → Part o u fn held ns a pc mid (k + length into)
      → Lined o u fn mid (instr.Update (is_global scope) n (map is_key into) what) at → Comes o u fn (mid + 1) exit → Run ns (Update at scope x into change a) pc ns exit
  update_begins ns at scope x into change n what k a pc mid exit number is_change ha is comes = record {
    at = λ vs slots base kept below named fits. (refl, (mid, n, what, k, number, is_change, record { last = record { is = is.is; comes = comes }; lines = is.lines }, ha.at vs slots base kept below named fits));
  }

  pub while_begins : (ns : Names) (t body next : Term) (top exit : ℕ) → LoopAt o u (Stands o u t) (Stands o u body) (Stands o u next) fn loop held ns exit top → Run ns (While t body next) top ns exit
  while_begins ns t body next top exit code = record {
    at = λ vs slots base kept below named fits. (refl, (top, top, code, comes_here o u fn top, record { named = named; slots = slots; holds = fits; is = refl }));
  }

  pub break_begins : (ns added : Names) (to : Target) (pc exit : ℕ) → out_of loop ≡ Some to → Comes o u fn pc to.place → ns ≡ added ++ to.names → Run ns Break pc ns exit
  break_begins ns added to pc exit e comes f = record {
    at = λ vs slots base kept below named fits. (pc, (to, e, comes, (added, f, record { named = named; slots = slots; holds = fits; is = refl })));
  }

  pub continue_begins : (ns added : Names) (to : Target) (pc exit : ℕ) → again_of loop ≡ Some to → Comes o u fn pc to.place → ns ≡ added ++ to.names → Run ns Continue pc ns exit
  continue_begins ns added to pc exit e comes f = record {
    at = λ vs slots base kept below named fits. (pc, (to, e, comes, (added, f, record { named = named; slots = slots; holds = fits; is = refl })));
  }

  -- the code of a value, of the labels and of the statements of all cases
  pub switch_begins : (ns : Names) (a cases : Term) (slot pc mid other out exit : ℕ) → Free slot ns → Unheld slot held → Part o u fn held ns a pc mid 1 → Is o u fn mid (instr.Store slot) → CasesTried o u cases fn slot (switch_at loop out ns) held ns (mid + 1) other
      → DefaultRuns o u cases fn (switch_at loop out ns) held ns other → Comes o u fn out exit → Run ns (Switch a cases) pc ns exit
  switch_begins ns a cases slot pc mid other out exit free unheld ha is tried runs comes = record {
    at = λ vs slots base kept below named fits. (refl, (slot, out, mid, other, record { free = free; unheld = unheld; done = comes }, is, tried, runs, ha.at vs slots base kept below named fits));
  }

  pub return_begins : (ns : Names) (a : Term) (pc mid exit : ℕ) → (is : Is o u fn mid instr.Return) → Part o u fn held ns a pc mid (results is.f.ret) → Run ns (Return a) pc ns exit
  return_begins ns a pc mid exit is ha = record { at = λ vs slots base kept below named fits. (mid, (is, ha.at vs slots base kept below named fits)) }

  pub error_begins : (ns : Names) (at : At) (a : Term) (pc mid exit : ℕ) → Part o u fn held ns a pc mid 1 → Lined o u fn mid instr.Stop at → Run ns (Error at a) pc ns exit
  error_begins ns at a pc mid exit ha is = record { at = λ vs slots base kept below named fits. (mid, (is.is, is.lines, ha.at vs slots base kept below named fits)) }

  pub exit_begins : (ns : Names) (a : Term) (pc mid exit : ℕ) → Part o u fn held ns a pc mid 1 → Is o u fn mid instr.Exit → Run ns (Exit a) pc ns exit
  exit_begins ns a pc mid exit ha is = record { at = λ vs slots base kept below named fits. (mid, (is, ha.at vs slots base kept below named fits)) }

  pub spawn_begins : (ns : Names) (x : List ℕ) (at : At) (f : Function) (a : Term) (pc mid exit : ℕ) → slice_get u.functions (o.number x) ≡ Some f → Part o u fn held ns a pc mid (length (function_in o.program x).parameters)
      → Lined o u fn mid (instr.Spawn (o.number x)) at → Comes o u fn (mid + 1) exit → Form o u fn held ns loop (SpawnCall x at a) pc exit 1
  spawn_begins ns x at f a pc mid exit there ha is comes = record {
    at = λ vs slots base kept below named fits. (refl, (f, there, (mid, record { last = record { is = is.is; comes = comes }; lines = is.lines }, ha.at vs slots base kept below named fits)));
  }

  pub each_begins : (ns : Names) (x : List ℕ) (a body : Term) (pc mid start exit : ℕ) → (code : EachAt o u (Stands o u body) fn held ns exit x) → Part o u fn held ns a pc mid 1 → Row o u fn mid (instr.Store code.list ∷ instr.PushInt (pos 0) ∷ instr.Store code.count ∷ []) start → Comes o u fn start code.top → Run ns (Each x a body) pc ns exit
  each_begins ns x a body pc mid start exit code ha row comes = record { at = λ vs slots base kept below named fits. (refl, (code, (mid, start, row, comes, ha.at vs slots base kept below named fits))) }
