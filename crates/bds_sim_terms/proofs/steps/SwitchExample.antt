-- A unit with the generator's code of a `switch`: it begins the term. Its first case breaks, and `default` stands before the last label.
use Rattle.std.proofs.Common.{◌≡◌, ℕ, ◌+◌, pos, List, [], ◌∷◌, replicate, slice_get, Some, None, refl, inl}
use Rattle.bds_value.specs.declared.value.At.{At}
use Rattle.bds_value.specs.declared.value.Ty.TheVariants as ty
use Rattle.bds_value.specs.declared.value.Value.{Value}
use Rattle.bds_value.specs.declared.value.Value.TheVariants as value
use Rattle.bds_code.specs.declared.instr.Instr.{Instr}
use Rattle.bds_code.specs.declared.instr.Instr.TheVariants as instr
use Rattle.bds_code.specs.declared.unit.Function.{Function}
use Rattle.bds_code.specs.declared.unit.Unit.{Unit as CodeUnit}
use Rattle.bds_meaning.specs.Term.{Term, Constant, Nothing, Then, Block, Switch, Case, Default, Break}
use Rattle.bds_meaning.specs.Variables.{Variables}
use Rattle.bds_sim_terms.specs.steps.Stands.{Source, Names, Fits, Loop, loop_at, switch_at, Site, at, Is, Comes, Named, CodeBegins, LabelAt, CaseAt, Stands}
use Rattle.bds_sim_terms.proofs.steps.Slots.{holds_length}

abbrev pub line : At
line = record { file = 0; line = 1 }

abbrev pub number : ℕ → Value
number n = value.Int (pos n)

abbrev pub f0 : Function
f0 = record {
  name = [];
  params = [];
  locals = ty.Int ∷ [];
  ret = ty.Void;
  labels = [];
  lines = replicate 15 line;
  code = instr.PushInt (pos 2) ∷ instr.Store 0
      ∷ instr.PushInt (pos 1) ∷ instr.Load 0 ∷ instr.Equal ∷ instr.JumpUnless 7 ∷ instr.Jump 13
      ∷ instr.PushInt (pos 2) ∷ instr.Load 0 ∷ instr.Equal ∷ instr.JumpUnless 12 ∷ instr.Jump 14
      ∷ instr.Jump 14 ∷ instr.Jump 14 ∷ instr.Return ∷ [];
}

abbrev pub u : CodeUnit
u = record { files = []; globals = []; functions = f0 ∷ [] }

abbrev pub o : Source
o = record { program = []; globals = []; number = λ g. 1 }

abbrev pub is0 : (pc : ℕ) (i : Instr) → slice_get f0.code pc ≡ Some i → Is o u 0 pc i
is0 pc i e = record { f = f0; there = refl; code = e }

abbrev pub comes : (pc : ℕ) → Comes o u 0 pc pc
comes pc = record { count = 0; jumps = refl }

abbrev pub jumps : (pc to : ℕ) → slice_get f0.code pc ≡ Some (instr.Jump to) → Comes o u 0 pc to
jumps pc to e = record { count = 1; jumps = (to, is0 pc (instr.Jump to) e, refl) }

constant_begins : (held : List ℕ) (names : Names) (pc n : ℕ) → slice_get f0.code pc ≡ Some (instr.PushInt (pos n)) → CodeBegins o u (Stands o u (Constant (number n))) 0 None held names pc names (pc + 1) 1
constant_begins held names pc n e = record { at = λ vs slots base kept below named fits. (refl, (pc, pc + 1, inl (instr.PushInt (pos n), refl, (is0 pc (instr.PushInt (pos n)) e, refl)), comes (pc + 1), record { named = named; slots = slots; holds = fits; is = refl })) }

abbrev pub around : Loop
around = switch_at None 14 []

broken_begins : CaseAt o u (Stands o u (Block (Then Break Nothing))) 0 around [] [] 13 14
broken_begins = record {
  end = 14;
  begins = record {
    at = λ vs slots base kept below named fits. (
      refl,
      holds_length [] vs.locals slots fits.holds,
      (
        [],
        (
          0,
          14,
          comes 14,
          (
            refl,
            (
              [],
              (
                0,
                14,
                14,
                comes 14,
                record { at = λ vs2 slots2 base2 kept2 below2 named2 fits2. (refl, (14, comes 14, record { named = named2; slots = slots2; holds = fits2; is = refl })) },
                (13, (record { place = 14; names = [] }, refl, jumps 13 14 refl, ([], refl, record { named = named; slots = slots; holds = fits; is = refl }))),
              ),
            ),
          ),
        ),
      ),
    );
  };
  on = comes 14;
}

empty_begins : CaseAt o u (Stands o u (Block Nothing)) 0 around [] [] 14 14
empty_begins = record {
  end = 14;
  begins = record {
    at = λ vs slots base kept below named fits. (refl, holds_length [] vs.locals slots fits.holds, ([], (0, 14, comes 14, (refl, (14, comes 14, record { named = named; slots = slots; holds = fits; is = refl })))));
  };
  on = comes 14;
}

abbrev cases : Term
cases = Case (Constant (number 1)) (Block (Then Break Nothing)) (Default (Block Nothing) (Case (Constant (number 2)) (Block Nothing) Nothing))

label_at : (from start next n : ℕ) → slice_get f0.code from ≡ Some (instr.PushInt (pos n)) → slice_get f0.code (from + 1) ≡ Some (instr.Load 0) → slice_get f0.code (from + 1 + 1) ≡ Some instr.Equal → slice_get f0.code (from + 1 + 1 + 1) ≡ Some (instr.JumpUnless next)
    → slice_get f0.code (from + 1 + 1 + 1 + 1) ≡ Some (instr.Jump start) → LabelAt o u (Stands o u (Constant (number n))) 0 0 [] [] from start next
label_at from start next n pushed loaded equal other jumped = record {
  test = from + 1;
  begins = constant_begins (0 ∷ []) [] from n pushed;
  tested = record { branch = from + 1 + 1 + 1; compares = (is0 (from + 1) (instr.Load 0) loaded, (is0 (from + 1 + 1) instr.Equal equal, refl)); other = is0 (from + 1 + 1 + 1) (instr.JumpUnless next) other; equal = jumps (from + 1 + 1 + 1 + 1) start jumped };
}

pub switch_begins : CodeBegins o u (Stands o u (Switch (Constant (number 2)) cases)) 0 None [] [] 0 [] 14 0
switch_begins = record {
  at = λ vs slots base kept below named fits. (
    refl,
    (
      0,
      14,
      1,
      14,
      record { free = tt; unheld = tt; done = comes 14 },
      is0 1 (instr.Store 0) refl,
      (13, 7, 14, label_at 2 13 7 1 refl refl refl refl refl, broken_begins, (14, empty_begins, (14, empty_begins, comes 14)), (14, 12, 14, label_at 7 14 12 2 refl refl refl refl refl, empty_begins, comes 14, jumps 12 14 refl)),
      (14, empty_begins, (14, empty_begins, comes 14)),
      (constant_begins [] [] 0 2 refl).at vs slots base kept below named fits,
    ),
  );
}
