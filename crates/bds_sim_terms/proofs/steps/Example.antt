-- A unit whose checkpoint is made within an expression: `x = 1 + f(2)`, where f makes it and gives its parameter and 1.
use Rattle.std.proofs.Common.{◌≡◌, ℕ, pos, Bool, true, false, List, [], ◌∷◌, replicate, cond, Some, None, slice_get, refl, sym, ap, subst, inl}
use Rattle.std.specs.Prelude.{if◌then◌else◌}
use Rattle.std.specs.Str.{bytes_eq}
use Rattle.bds_value.specs.declared.value.At.{At}
use Rattle.bds_value.specs.declared.value.Op.TheVariants as op
use Rattle.bds_value.specs.declared.value.Ty.TheVariants as ty
use Rattle.bds_value.specs.declared.value.Value.{Value}
use Rattle.bds_value.specs.declared.value.Value.TheVariants as value
use Rattle.bds_code.specs.declared.instr.Instr.{Instr}
use Rattle.bds_code.specs.declared.instr.Instr.TheVariants as instr
use Rattle.bds_code.specs.declared.unit.Function.{Function}
use Rattle.bds_code.specs.declared.unit.Unit.{Unit as CodeUnit}
use Rattle.bds_value.specs.Types.{is_void_at}
use Rattle.bds_code_frames.specs.Stack.{call_at}
use Rattle.bds_meaning.specs.Step.{Function as Definition, no_function}
use Rattle.bds_meaning.specs.Term.{Operated, SavedHere, Replaced, Term, Constant, Variable, Compute, Does, Nothing, More, Call, Then, Update, Return}
use Rattle.bds_meaning.specs.Variables.{local, global}
use Rattle.bds_sim_terms.specs.steps.Stands.{Source, results, Is, Comes, CodeBegins, Stands, StandsAlone, CodeOf, Codes}

abbrev line : At
line = record { file = 0; line = 1 }

abbrev x : List ℕ
x = 120 ∷ []

abbrev n : List ℕ
n = 110 ∷ []

abbrev f : List ℕ
f = 102 ∷ []

abbrev body : Term
body = Then (Does SavedHere line Nothing) (Return (Compute (Operated op.Add) line (More (Variable local n) (Constant (value.Int (pos 1))))))

abbrev main : Term
main = Then (Update line global x [] Replaced (Compute (Operated op.Add) line (More (Constant (value.Int (pos 1))) (Call f line (More (Constant (value.Int (pos 2))) Nothing))))) (Return Nothing)

abbrev definition : Definition
definition = record { name = f; parameters = n ∷ []; body = body }

abbrev f0 : Function
f0 = record { name = []; params = []; locals = []; ret = ty.Void; labels = []; lines = replicate 6 line; code = instr.PushInt (pos 1) ∷ instr.PushInt (pos 2) ∷ instr.Call 1 ∷ instr.Add ∷ instr.Update true 0 [] 0 ∷ instr.Return ∷ [] }

abbrev f1 : Function
f1 = record { name = f; params = ty.Int ∷ []; locals = []; ret = ty.Int; labels = []; lines = replicate 5 line; code = instr.SaveHere ∷ instr.Load 0 ∷ instr.PushInt (pos 1) ∷ instr.Add ∷ instr.Return ∷ [] }

abbrev u : CodeUnit
u = record { files = []; globals = ty.Int ∷ []; functions = f0 ∷ f1 ∷ [] }

abbrev o : Source
o = record { program = definition ∷ []; globals = x ∷ []; number = λ g. if bytes_eq f g then 1 else 2 }

abbrev is0 : (pc : ℕ) (i : Instr) → slice_get f0.code pc ≡ Some i → Is o u 0 pc i
is0 pc i e = record { f = f0; there = refl; code = e }

abbrev is1 : (pc : ℕ) (i : Instr) → slice_get f1.code pc ≡ Some i → Is o u 1 pc i
is1 pc i e = record { f = f1; there = refl; code = e }

abbrev comes : (fn pc : ℕ) → Comes o u fn pc pc
comes fn pc = record { count = 0; jumps = refl }

one_result : results ty.Int ≡ 1
one_result = ap (λ b. cond b 0 1) (ap is_void_at ty.outs-Int)

no_result : 0 ≡ results ty.Void
no_result = sym (ap (λ b. cond b 0 1) (ap is_void_at ty.outs-Void))

call_begins : CodeBegins o u (Stands o u (Call f line (More (Constant (value.Int (pos 2))) Nothing))) 0 None [] [] 1 [] 3 1
call_begins = record {
  at = λ vs slots base kept below named fits. (
    record { f = f1; there = refl; gives = one_result },
    (
      2,
      record { last = record { is = is0 2 (instr.Call 1) refl; comes = comes 0 3 }; lines = refl },
      (
        1,
        0,
        refl,
        (
          2,
          comes 0 2,
          inl (
            2,
            (refl, (1, 2, inl (instr.PushInt (pos 2), refl, (is0 1 (instr.PushInt (pos 2)) refl, refl)), comes 0 2, record { named = named; slots = slots; holds = fits; is = refl })),
            record { at = λ vs2 slots2 base2 kept2 below2 named2 fits2. (refl, (2, comes 0 2, record { named = named2; slots = slots2; holds = fits2; is = refl })) },
          ),
        ),
      ),
    ),
  );
}

main_begins : CodeBegins o u (Stands o u main) 0 None [] [] 0 [] 6 0
main_begins = record {
  at = λ vs slots base kept below named fits. (
    refl,
    (
      [],
      (
        0,
        5,
        5,
        comes 0 5,
        record { at = λ vs2 slots2 base2 kept2 below2 named2 fits2. (5, (is0 5 instr.Return refl, (no_result, (5, comes 0 5, record { named = named2; slots = slots2; holds = fits2; is = refl })))) },
        (
          refl,
          (
            4,
            0,
            0,
            1,
            refl,
            (refl, refl),
            record { last = record { is = is0 4 (instr.Update true 0 [] 0) refl; comes = comes 0 5 }; lines = refl },
            (
              refl,
              (
                3,
                (
                  2,
                  (
                    instr.Add,
                    (refl, refl),
                    record { last = record { is = is0 3 instr.Add refl; comes = comes 0 4 }; lines = refl },
                    (
                      1,
                      1,
                      refl,
                      (
                        3,
                        comes 0 3,
                        inl (
                          1,
                          (refl, (0, 1, inl (instr.PushInt (pos 1), refl, (is0 0 (instr.PushInt (pos 1)) refl, refl)), comes 0 1, record { named = named; slots = slots; holds = fits; is = refl })),
                          call_begins,
                        ),
                      ),
                    ),
                  ),
                ),
              ),
            ),
          ),
        ),
      ),
    ),
  );
}

body_begins : CodeBegins o u (Stands o u body) 1 None [] ((n, Some 0) ∷ []) 0 ((n, Some 0) ∷ []) 5 0
body_begins = record {
  at = λ vs slots base kept below named fits. (
    refl,
    (
      (n, Some 0) ∷ [],
      (
        0,
        1,
        1,
        comes 1 1,
        record {
          at = λ vs2 slots2 base2 kept2 below2 named2 fits2. (
            4,
            (
              is1 4 instr.Return refl,
              (
                sym one_result,
                (
                  3,
                  (
                    2,
                    (
                      instr.Add,
                      (refl, refl),
                      record { last = record { is = is1 3 instr.Add refl; comes = comes 1 4 }; lines = refl },
                      (
                        1,
                        1,
                        refl,
                        (
                          3,
                          comes 1 3,
                          inl (
                            2,
                            (refl, (1, 0, refl, record { is = is1 1 (instr.Load 0) refl; comes = comes 1 2 }, record { named = named2; slots = slots2; holds = fits2; is = refl })),
                            record {
                              at = λ vs3 slots3 base3 kept3 below3 named3 fits3. (
                                refl,
                                (2, 3, inl (instr.PushInt (pos 1), refl, (is1 2 (instr.PushInt (pos 1)) refl, refl)), comes 1 3, record { named = named3; slots = slots3; holds = fits3; is = refl }),
                              );
                            },
                          ),
                        ),
                      ),
                    ),
                  ),
                ),
              ),
            ),
          );
        },
        (0, record { last = record { is = is1 0 instr.SaveHere refl; comes = comes 1 1 }; lines = refl }, ((refl, (0, comes 1 0, record { named = named; slots = slots; holds = fits; is = refl })), refl)),
      ),
    ),
  );
}

-- the unit is the program's code
pub codes : Codes o u
codes = record { code = λ g fn e. by_name (bytes_eq f g) fn e }
  where
    by_name : (b : Bool) (fn : Function) → slice_get u.functions (if b then 1 else 2) ≡ Some fn → CodeOf o u (if b then definition else no_function) (if b then 1 else 2) fn
    by_name true fn e = subst (λ fn. CodeOf o u definition 1 fn) (let q : f1 ≡ fn = cc e in q) (record { names = (n, Some 0) ∷ []; params = refl; body = body_begins })
    by_name false fn e = absurd (cc e)

-- the thread with which the unit begins stands for the program's
pub opens : (v : Value) → StandsAlone o u (record { globals = (x, v) ∷ []; locals = [] }) main (call_at 0 [] ∷ [])
opens v = record { number = 0; names = []; f = f0; there = refl; exit = 6; ends = inl refl; stands = main_begins.at (record { globals = (x, v) ∷ []; locals = [] }) [] [] [] [] refl (record { holds = tt; keeps = tt; apart = tt }) }
