use Rattle.std.proofs.Common.{rules, ◌≡◌, ◌+◌, ◌∷◌, sym, subst}
use Rattle.std.proofs.lemmas.Option.{IfSome_then}
use Rattle.bds_value.specs.declared.value.Value.TheVariants as value
use Rattle.bds_code_frames.specs.Stack.{stack}
use Rattle.bds_machine.specs.Stretches.{Runs, IsItem}
use Rattle.bds_machine.proofs.Numbering.{read}
use Rattle.bds_machine.proofs.Stretching.{code_there, variable_here, push_runs}
use Rattle.bds_machine.proofs.number_rows.indexed.Goals as goal

pub instr_at-instr-requires : goal.instr_at-instr-requires
instr_at-instr-requires c = code_there c.args.function.now c.args.at (c.args.value.now ∷ c.requires.runs.0)
    c.args.globals.now (stack c.args.frames.now) c.requires.runs.1

pub number-requires : goal.number-requires
number-requires c = variable_here c.args.function.now c.args.at c.instr_at-instr.result.now c.args.globals.now
    (stack c.args.frames.now) c.instr_at-instr.ensures (c.args.value.now ∷ c.requires.runs.0) c.requires.runs.1

pub item-requires : goal.item-requires
item-requires c =
    let f = c.args.function.now in
    let g = c.args.globals.now in
    let s = stack c.args.frames.now in
    let a = c.args.value.now in
    let vs = c.requires.runs.0 in
    let k = c.in-Some.index in
    let same : k ≡ read k = search rules in (
      g,
      vs,
      s,
      subst (λ k. Runs f (c.args.at + 1) (value.Int k ∷ a ∷ vs) g s) same
          (push_runs f c.args.at c.instr_at-instr.result.now g s c.instr_at-instr.ensures (value.Int k) (a ∷ vs)
          c.in-Some.ensures c.requires.runs.1),
    )

pub returns-in-Some : goal.returns-in-Some
returns-in-Some c =
    let k = c.in-Some.index in
    let same : k ≡ read k = search rules in
    IfSome_then c.item.result c.item.ensures
    (λ n h. record {
      instr = c.instr_at-instr.result.now;
      index = k;
      there = c.instr_at-instr.ensures;
      pushed = c.in-Some.ensures;
      item = subst (λ k. IsItem c.args.function.now (c.args.at + 1) c.args.value.now k (value.Int n)) (sym same) h;
    })
