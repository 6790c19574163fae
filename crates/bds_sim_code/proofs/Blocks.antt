-- Where the code of a form's parts begins them, the form begins.
use Rattle.std.proofs.Common.{◌≡◌, ℕ, suc, ◌+◌, List, length, Option, None, refl, inl}
use Rattle.bds_value.specs.declared.value.At.{At}
use Rattle.bds_value.specs.declared.value.Value.{Value}
use Rattle.bds_code.specs.declared.instr.Instr.{Instr}
use Rattle.bds_code.specs.declared.instr.Instr.TheVariants as instr
use Rattle.bds_code.specs.declared.unit.Unit.{Unit as CodeUnit}
use Rattle.bds_meaning.specs.Step.{function_in}
use Rattle.bds_meaning.specs.Term.{Computation, Action, Term, Constant, Variable, Compute, Does, Nothing, More, Choose, Call}
use Rattle.bds_meaning.specs.Variables.{Scope}
use Rattle.bds_sim_terms.specs.steps.Stands.{Source, Names, Loop, IsPush, IsCode, IsNumber, load_code, takes, kind_of, action_code, Is, Lined, Comes, CodeBegins, Runs, Stands}

module _ (o : Source) (u : CodeUnit) (fn : ℕ) where
  pub comes_here : (pc : ℕ) → Comes o u fn pc pc
  comes_here pc = record { count = 0; jumps = refl }

  pub comes_jump : (pc mid to : ℕ) → Is o u fn pc (instr.Jump mid) → Comes o u fn mid to → Comes o u fn pc to
  comes_jump pc mid to is c = record { count = suc c.count; jumps = (mid, is, c.jumps) }

  module _ (held : List ℕ) (ns : Names) where
    -- a part, and a form in whose parts no loop is left
    abbrev pub Part : Term → ℕ → ℕ → ℕ → Type 0
    Part t pc exit kind = CodeBegins o u (Stands o u t) fn None held ns pc ns exit kind

    abbrev pub Form : Option Loop → Term → ℕ → ℕ → ℕ → Type 0
    Form loop t pc exit kind = CodeBegins o u (Stands o u t) fn loop held ns pc ns exit kind

    module _ (loop : Option Loop) where
      pub constant_begins : (i : Instr) (v : Value) (at : At) (pc exit : ℕ) → IsPush i v → Lined o u fn pc i at → Comes o u fn (pc + 1) exit → Form loop (Constant v) pc exit 1
      constant_begins i v at pc exit push is comes = record {
        at = λ vs slots base kept below named fits. (refl, (pc, pc + 1, inl (i, push, (is.is, refl)), comes, record { named = named; slots = slots; holds = fits; is = refl }));
      }

      pub variable_begins : (scope : Scope) (x : List ℕ) (n : ℕ) (at : At) (pc exit : ℕ) → IsNumber o scope ns x n → Lined o u fn pc (load_code scope n) at → Comes o u fn (pc + 1) exit → Form loop (Variable scope x) pc exit 1
      variable_begins scope x n at pc exit number is comes = record {
        at = λ vs slots base kept below named fits. (refl, (pc, n, number, record { is = is.is; comes = comes }, record { named = named; slots = slots; holds = fits; is = refl }));
      }

      pub nothing_begins : (pc exit : ℕ) → Comes o u fn pc exit → Form loop Nothing pc exit 0
      nothing_begins pc exit comes = record { at = λ vs slots base kept below named fits. (refl, (pc, comes, record { named = named; slots = slots; holds = fits; is = refl })) }

      pub more_begins : (a b : Term) (pc mid end exit k1 k2 k : ℕ) → Part a pc mid k1 → Part b mid end k2 → Comes o u fn end exit → k2 + k1 ≡ k → Form loop (More a b) pc exit k
      more_begins a b pc mid end exit k1 k2 k ha hb comes e = record { at = λ vs slots base kept below named fits. (k1, k2, e, (end, comes, inl (mid, ha.at vs slots base kept below named fits, hb))) }

      pub compute_begins : (comp : Computation) (n : ℕ) (i : Instr) (a : Term) (at : At) (pc mid exit : ℕ) → IsCode comp n i → Part a pc mid n → Lined o u fn mid i at → Comes o u fn (mid + 1) exit → Form loop (Compute comp at a) pc exit 1
      compute_begins comp n i a at pc mid exit code ha is comes = record {
        at = λ vs slots base kept below named fits. (refl, (mid, (n, (i, code, record { last = record { is = is.is; comes = comes }; lines = is.lines }, ha.at vs slots base kept below named fits))));
      }

      pub does_begins : (action : Action) (a : Term) (at : At) (pc mid exit : ℕ) → Part a pc mid (takes action) → Lined o u fn mid (action_code action) at → Comes o u fn (mid + 1) exit → Form loop (Does action at a) pc exit (kind_of action)
      does_begins action a at pc mid exit ha is comes = record {
        at = λ vs slots base kept below named fits. (mid, record { last = record { is = is.is; comes = comes }; lines = is.lines }, (ha.at vs slots base kept below named fits, refl));
      }

      pub choose_begins : (t a b : Term) (pc mid other exit kind : ℕ) → Part t pc mid 1 → Is o u fn mid (instr.JumpUnless other) → Form loop a (mid + 1) exit kind → Form loop b other exit kind → Form loop (Choose t a b) pc exit kind
      choose_begins t a b pc mid other exit kind ht is ha hb = record { at = λ vs slots base kept below named fits. (mid, other, is, ha, hb, ht.at vs slots base kept below named fits) }

      pub call_begins : (x : List ℕ) (a : Term) (at : At) (pc mid exit kind : ℕ) → Runs o u (o.number x) kind → Part a pc mid (length (function_in o.program x).parameters) → Lined o u fn mid (instr.Call (o.number x)) at → Comes o u fn (mid + 1) exit
          → Form loop (Call x at a) pc exit kind
      call_begins x a at pc mid exit kind runs ha is comes = record {
        at = λ vs slots base kept below named fits. (runs, (mid, record { last = record { is = is.is; comes = comes }; lines = is.lines }, ha.at vs slots base kept below named fits));
      }
