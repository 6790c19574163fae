-- The code of a list loop, of a task with `<-`, and of a thread of a block stand for their terms.
use Rattle.std.proofs.Common.{◌≡◌, ℕ, pos, ◌+◌, true, false, List, [], ◌∷◌, replicate, cond, Some, None, slice_get, refl, sym, ap, inl, inr, arith}
use Rattle.bds_value.specs.declared.value.At.{At}
use Rattle.bds_value.specs.declared.value.Ty.{Ty}
use Rattle.bds_value.specs.declared.value.Ty.TheVariants as ty
use Rattle.bds_value.specs.declared.value.Value.{Value}
use Rattle.bds_value.specs.declared.value.Value.TheVariants as value
use Rattle.bds_value.specs.Value.{default_of, default_at}
use Rattle.bds_code.specs.declared.instr.Instr.{Instr}
use Rattle.bds_code.specs.declared.instr.Instr.TheVariants as instr
use Rattle.bds_code.specs.declared.unit.Function.{Function}
use Rattle.bds_code.specs.declared.unit.Unit.{Unit as CodeUnit}
use Rattle.bds_value.specs.Types.{is_void_at}
use Rattle.bds_meaning.specs.Term.{Shown, Printed, Term, Constant, Variable, Compute, Does, Nothing, More, Then, Block, Each, Settle, Weigh, Make, as_task, SpawnBlock}
use Rattle.bds_schedule.specs.Values.{of_texts}
use Rattle.bds_meaning.specs.Variables.{local, global}
use Rattle.bds_meaning.specs.Work.{Outputs, Inputs, Processors, CanFail, Retries, TaskName, Condition, unset}
use Rattle.bds_sim_terms.specs.steps.Stands.{Source, Names, results, Is, Comes, Last, CodeBegins, Stands, Joins, Lined, EachAt, EndsAt, AreSpare}

abbrev line : At
line = record { file = 0; line = 1 }

abbrev x : List ℕ
x = 120 ∷ []

abbrev y : List ℕ
y = 121 ∷ []

abbrev texts : Ty
texts = ty.List ty.Text

-- shows a variable
abbrev printed : Term
printed = Does Printed line (More (Compute Shown line (More (Variable local y) Nothing)) Nothing)

-- `for (int y : x) print y`, `task(cpus := 2, [] <- []) sys x`, and `par print y`
abbrev loop : Term
loop = Each y (Variable global x) (Block (Then printed Nothing))

abbrev task : Term
task =
    Settle Processors (Constant (value.Int (pos 2)))
    (Settle Outputs (Constant (default_of texts)) (Settle Inputs (Constant (default_of texts)) (Weigh line (Make as_task line unset (Constant (value.Text x))))))

abbrev spawn : Term
spawn = SpawnBlock line (Block (Then printed Nothing))

abbrev f0 : Function
f0 = record {
  name = [];
  params = [];
  locals = [];
  ret = ty.Void;
  labels = [];
  lines = replicate 60 line;
  code =
      instr.LoadGlobal 0 ∷ instr.Store 7 ∷ instr.PushInt (pos 0) ∷ instr.Store 8 ∷ instr.Tick ∷ instr.Load 8 ∷ instr.Load 7 ∷ instr.Method 17 ∷ instr.Less ∷ instr.JumpUnless 20 ∷ instr.Load 7 ∷ instr.Load 8 ∷ instr.Item ∷ instr.Store 9
      ∷ instr.Load 9 ∷ instr.Show ∷ instr.Out ∷ instr.PushInt (pos 1) ∷ instr.Update false 8 [] 1 ∷ instr.Jump 4
      ∷ instr.PushBool false ∷ instr.Store 3 ∷ instr.PushInt (pos 0) ∷ instr.Store 4 ∷ instr.PushText [] ∷ instr.Store 5 ∷ instr.PushBool true ∷ instr.Store 6
      ∷ instr.PushInt (pos 2) ∷ instr.Store 2 ∷ instr.PushDefault texts ∷ instr.Store 0 ∷ instr.PushDefault texts ∷ instr.Store 1
      ∷ instr.Load 0 ∷ instr.Load 1 ∷ instr.OutOfDate ∷ instr.JumpUnless 39 ∷ instr.Jump 41 ∷ instr.PushBool false ∷ instr.Store 6
      ∷ instr.Load 6 ∷ instr.JumpUnless 52 ∷ instr.Load 0 ∷ instr.Load 1 ∷ instr.Load 2 ∷ instr.Load 3 ∷ instr.Load 4 ∷ instr.Load 5 ∷ instr.PushText x ∷ instr.NewTask ∷ instr.Jump 53 ∷ instr.PushText [] ∷ instr.Drop
      ∷ instr.Load 10 ∷ instr.Spawn 1 ∷ instr.Drop ∷ instr.Return ∷ [];
}

abbrev f1 : Function
f1 = record { name = []; params = ty.Int ∷ []; locals = []; ret = ty.Void; labels = []; lines = replicate 4 line; code = instr.Load 0 ∷ instr.Show ∷ instr.Out ∷ instr.Return ∷ [] }

abbrev u : CodeUnit
u = record { files = []; globals = ty.List ty.Int ∷ []; functions = f0 ∷ f1 ∷ [] }

abbrev o : Source
o = record { program = []; globals = x ∷ []; number = λ g. 2 }

abbrev is0 : (pc : ℕ) (i : Instr) → slice_get f0.code pc ≡ Some i → Is o u 0 pc i
is0 pc i e = record { f = f0; there = refl; code = e }

abbrev is1 : (pc : ℕ) (i : Instr) → slice_get f1.code pc ≡ Some i → Is o u 1 pc i
is1 pc i e = record { f = f1; there = refl; code = e }

abbrev comes : (fn pc : ℕ) → Comes o u fn pc pc
comes fn pc = record { count = 0; jumps = refl }

abbrev jumps : (pc to : ℕ) → slice_get f0.code pc ≡ Some (instr.Jump to) → Comes o u 0 pc to
jumps pc to e = record { count = 1; jumps = (to, is0 pc (instr.Jump to) e, refl) }

-- a constant at a place
constant_begins : (held : List ℕ) (names : Names) (pc : ℕ) (i : Instr) (v : Value) → slice_get f0.code pc ≡ Some i → Rattle.bds_sim_terms.specs.steps.Stands.IsPush i v → CodeBegins o u (Stands o u (Constant v)) 0 None held names pc names (pc + 1) 1
constant_begins held names pc i v e p = record { at = λ vs slots base kept below named fits. (refl, (pc, pc + 1, inl (i, p, (is0 pc i e, refl)), comes 0 (pc + 1), record { named = named; slots = slots; holds = fits; is = refl })) }

printed_begins : (held : List ℕ) → CodeBegins o u (Stands o u (Block (Then printed Nothing))) 0 (Some (Rattle.bds_sim_terms.specs.steps.Stands.loop_at 20 17 [])) held ((y, Some 9) ∷ []) 14 ((y, Some 9) ∷ []) 17 0
printed_begins held = record {
  at = λ vs slots base kept below named fits. (
    refl,
    Rattle.bds_sim_terms.proofs.steps.Slots.holds_length ((y, Some 9) ∷ []) vs.locals slots fits.holds,
    (
      [],
      (
        0,
        17,
        comes 0 17,
        (
          refl,
          (
            (y, Some 9) ∷ [],
            (
              0,
              17,
              17,
              comes 0 17,
              record { at = λ vs2 slots2 base2 kept2 below2 named2 fits2. (refl, (17, comes 0 17, record { named = named2; slots = slots2; holds = fits2; is = refl })) },
              (
                16,
                record { last = record { is = is0 16 instr.Out refl; comes = comes 0 17 }; lines = refl },
                (
                  (
                    1,
                    0,
                    refl,
                    (
                      16,
                      comes 0 16,
                      inl (
                        16,
                        (
                          refl,
                          (
                            15,
                            (
                              1,
                              (
                                instr.Show,
                                (refl, refl),
                                record { last = record { is = is0 15 instr.Show refl; comes = comes 0 16 }; lines = refl },
                                (
                                  1,
                                  0,
                                  refl,
                                  (
                                    15,
                                    comes 0 15,
                                    inl (
                                      15,
                                      (refl, (14, 9, refl, record { is = is0 14 (instr.Load 9) refl; comes = comes 0 15 }, record { named = named; slots = slots; holds = fits; is = refl })),
                                      record { at = λ vs2 slots2 base2 kept2 below2 named2 fits2. (refl, (15, comes 0 15, record { named = named2; slots = slots2; holds = fits2; is = refl })) },
                                    ),
                                  ),
                                ),
                              ),
                            ),
                          ),
                        ),
                        record { at = λ vs2 slots2 base2 kept2 below2 named2 fits2. (refl, (16, comes 0 16, record { named = named2; slots = slots2; holds = fits2; is = refl })) },
                      ),
                    ),
                  ),
                  refl,
                ),
              ),
            ),
          ),
        ),
      ),
    ),
  );
}

each_at : EachAt o u (Stands o u (Block (Then printed Nothing))) 0 [] [] 20 y
each_at = record {
  list = 7;
  count = 8;
  item = 9;
  top = 4;
  again = 17;
  out = 20;
  test = 9;
  body = 14;
  back = 19;
  free_list = tt;
  free_count = tt;
  free_item = tt;
  unheld_list = tt;
  unheld_count = ((λ e. absurd (omega (arith, e))), tt);
  unheld_item = ((λ e. absurd (omega (arith, e))), ((λ e. absurd (omega (arith, e))), tt));
  looks = (is0 4 instr.Tick refl, (is0 5 (instr.Load 8) refl, (is0 6 (instr.Load 7) refl, (is0 7 (instr.Method 17) refl, (is0 8 instr.Less refl, refl)))));
  branch = is0 9 (instr.JumpUnless 20) refl;
  takes = (is0 10 (instr.Load 7) refl, (is0 11 (instr.Load 8) refl, (is0 12 instr.Item refl, (is0 13 (instr.Store 9) refl, refl))));
  begin_body = printed_begins (8 ∷ 7 ∷ []);
  counts = (is0 17 (instr.PushInt (pos 1)) refl, (is0 18 (instr.Update false 8 [] 1) refl, refl));
  turns = jumps 19 4 refl;
  done = comes 0 20;
}

loop_begins : CodeBegins o u (Stands o u loop) 0 None [] [] 0 [] 20 0
unfolding each_at
loop_begins = record {
  at = λ vs slots base kept below named fits. (
    refl,
    (
      each_at,
      (
        1,
        4,
        (is0 1 (instr.Store 7) refl, (is0 2 (instr.PushInt (pos 0)) refl, (is0 3 (instr.Store 8) refl, refl))),
        comes 0 4,
        (refl, (0, 0, refl, record { is = is0 0 (instr.LoadGlobal 0) refl; comes = comes 0 1 }, record { named = named; slots = slots; holds = fits; is = refl })),
      ),
    ),
  );
}

-- the options of a task

joins : Joins o u 0 0 37 41
joins = record {
  no = 39;
  back = 41;
  test = is0 37 (instr.JumpUnless 39) refl;
  over = jumps 38 41 refl;
  off = (is0 39 (instr.PushBool false) refl, (is0 40 (instr.Store 6) refl, refl));
  on = comes 0 41;
}

no_texts : of_texts [] ≡ default_of texts
no_texts = sym (ap default_at (ty.outs-List ty.Text))

spare : AreSpare o u 0 [] []
spare k = (tt, tt)

task_begins : CodeBegins o u (Stands o u task) 0 None [] [] 20 [] 53 1
task_begins = record {
  at = λ vs slots base kept below named fits. (
    0,
    (
      true,
      (
        Condition ∷ TaskName ∷ Retries ∷ CanFail ∷ [],
        spare,
        inr (
          28,
          (
            29,
            30,
            constant_begins (6 ∷ 5 ∷ 4 ∷ 3 ∷ []) [] 28 (instr.PushInt (pos 2)) (value.Int (pos 2)) refl refl,
            (is0 29 (instr.Store 2) refl, refl),
            tt,
            (
              31,
              32,
              constant_begins (2 ∷ 6 ∷ 5 ∷ 4 ∷ 3 ∷ []) [] 30 (instr.PushDefault texts) (default_of texts) refl refl,
              (is0 31 (instr.Store 0) refl, refl),
              tt,
              (
                33,
                34,
                constant_begins (0 ∷ 2 ∷ 6 ∷ 5 ∷ 4 ∷ 3 ∷ []) [] 32 (instr.PushDefault texts) (default_of texts) refl refl,
                (is0 33 (instr.Store 1) refl, refl),
                tt,
                (
                  36,
                  41,
                  (inr (inl refl), (inl refl, tt)),
                  refl,
                  (is0 34 (instr.Load 0) refl, (is0 35 (instr.Load 1) refl, refl)),
                  record { is = is0 36 instr.OutOfDate refl; lines = refl },
                  joins,
                  (
                    43,
                    49,
                    50,
                    (inr (inl refl), (inl refl, (inr (inr (inl refl)), (inr (inr (inr (inr (inr (inr (inl refl)))))), (inr (inr (inr (inr (inr (inl refl))))), (inr (inr (inr (inr (inl refl)))), tt)))))),
                    (52, 53, inr (inr (inr (inl refl))), (is0 41 (instr.Load 6) refl, (is0 42 (instr.JumpUnless 52) refl, refl)), (is0 52 (instr.PushText []) refl, refl), comes 0 53, refl),
                    (
                      is0 43 (instr.Load 0) refl,
                      (is0 44 (instr.Load 1) refl, (is0 45 (instr.Load 2) refl, (is0 46 (instr.Load 3) refl, (is0 47 (instr.Load 4) refl, (is0 48 (instr.Load 5) refl, refl))))),
                    ),
                    constant_begins [] [] 49 (instr.PushText x) (value.Text x) refl refl,
                    record { is = is0 50 instr.NewTask refl; lines = refl },
                    jumps 51 53 refl,
                    refl,
                  ),
                ),
              ),
            ),
          ),
          inl (
            20,
            (
              Condition ∷ TaskName ∷ Retries ∷ CanFail ∷ [],
              [],
              refl,
              (
                26,
                (
                  24,
                  (
                    22,
                    (20, refl, (instr.PushBool false, refl, (is0 20 (instr.PushBool false) refl, (is0 21 (instr.Store 3) refl, refl)))),
                    (instr.PushInt (pos 0), refl, (is0 22 (instr.PushInt (pos 0)) refl, (is0 23 (instr.Store 4) refl, refl))),
                  ),
                  (instr.PushText [], refl, (is0 24 (instr.PushText []) refl, (is0 25 (instr.Store 5) refl, refl))),
                ),
                (instr.PushBool true, refl, (is0 26 (instr.PushBool true) refl, (is0 27 (instr.Store 6) refl, refl))),
              ),
              record { named = named; slots = slots; holds = fits; is = refl },
            ),
          ),
        ),
      ),
    ),
  );
}

-- a thread of a block; its local hides another, which isn't passed

void : 0 ≡ results ty.Void
void = sym (ap (λ b. cond b 0 1) (ap is_void_at ty.outs-Void))

shows_begins : CodeBegins o u (Stands o u (Block (Then printed Nothing))) 1 None [] ((y, Some 0) ∷ (y, None) ∷ []) 0 ((y, Some 0) ∷ (y, None) ∷ []) 3 0
shows_begins = record {
  at = λ vs slots base kept below named fits. (
    refl,
    Rattle.bds_sim_terms.proofs.steps.Slots.holds_length ((y, Some 0) ∷ (y, None) ∷ []) vs.locals slots fits.holds,
    (
      [],
      (
        0,
        3,
        comes 1 3,
        (
          refl,
          (
            (y, Some 0) ∷ (y, None) ∷ [],
            (
              0,
              3,
              3,
              comes 1 3,
              record { at = λ vs2 slots2 base2 kept2 below2 named2 fits2. (refl, (3, comes 1 3, record { named = named2; slots = slots2; holds = fits2; is = refl })) },
              (
                2,
                record { last = record { is = is1 2 instr.Out refl; comes = comes 1 3 }; lines = refl },
                (
                  (
                    1,
                    0,
                    refl,
                    (
                      2,
                      comes 1 2,
                      inl (
                        2,
                        (
                          refl,
                          (
                            1,
                            (
                              1,
                              (
                                instr.Show,
                                (refl, refl),
                                record { last = record { is = is1 1 instr.Show refl; comes = comes 1 2 }; lines = refl },
                                (
                                  1,
                                  0,
                                  refl,
                                  (
                                    1,
                                    comes 1 1,
                                    inl (
                                      1,
                                      (refl, (0, 0, refl, record { is = is1 0 (instr.Load 0) refl; comes = comes 1 1 }, record { named = named; slots = slots; holds = fits; is = refl })),
                                      record { at = λ vs2 slots2 base2 kept2 below2 named2 fits2. (refl, (1, comes 1 1, record { named = named2; slots = slots2; holds = fits2; is = refl })) },
                                    ),
                                  ),
                                ),
                              ),
                            ),
                          ),
                        ),
                        record { at = λ vs2 slots2 base2 kept2 below2 named2 fits2. (refl, (2, comes 1 2, record { named = named2; slots = slots2; holds = fits2; is = refl })) },
                      ),
                    ),
                  ),
                  refl,
                ),
              ),
            ),
          ),
        ),
      ),
    ),
  );
}

spawn_begins : CodeBegins o u (Stands o u spawn) 0 None [] ((y, Some 10) ∷ (y, Some 11) ∷ []) 54 ((y, Some 10) ∷ (y, Some 11) ∷ []) 56 1
spawn_begins = record {
  at = λ vs slots base kept below named fits. (
    refl,
    (
      1,
      (
        f1,
        (
          10 ∷ [],
          (
            (y, Some 0) ∷ (y, None) ∷ [],
            (y, Some 0) ∷ (y, None) ∷ [],
            (
              54,
              55,
              3,
              refl,
              refl,
              (refl, (10, refl, refl), (refl, tt, tt)),
              shows_begins,
              inr (is1 3 instr.Return refl, void),
              (is0 54 (instr.Load 10) refl, refl),
              record { last = record { is = is0 55 (instr.Spawn 1) refl; comes = comes 0 56 }; lines = refl },
              record { named = named; slots = slots; holds = fits; is = refl },
            ),
          ),
        ),
      ),
    ),
  );
}
