use Rattle.std.proofs.Common.{◌≡◌, ◌+◌, [], List, length, set, take, drop, map, Option, Some, None, slice_get, subst}
use Rattle.std.proofs.Common.{refl, ap, sym, ◌∙◌, arith, rules}
use Rattle.bds_tree.specs.declared.stmt.Part.{Part}
use Rattle.bds_tree.specs.StmtView.{part_of}
use Rattle.bds_tree.specs.StmtTree.{PartTree}
use Rattle.bds_check_names.specs.declared.names.Head.{Head}
use Rattle.bds_check_names.specs.declared.names.Names.{Names}
use Rattle.bds_check_typing.specs.Program.{JudgedPart, heads_of, judge_part, judge_parts, with_head}
use Rattle.bds_check_typing.specs.Walk.{Broken}
use Rattle.bds_check_walk.proofs.Turns.{broke-off}
use Rattle.bds_check.proofs.WalkedParts.{parts-none, parts-more, parts-done, parts-broken, count-of, heads-then}
use Rattle.bds_check.proofs.WalkedParts.{heads-left}
use Rattle.bds_check.proofs.program.walk_parts.Goals as goal

pub loop-i-init : goal.loop-i-init
loop-i-init c = record {
  all = refl;
  within = omega arith;
  behind = c.requires.functions;
  walking = parts-none c.args.all.now c.args.parts.now ([], c.args.names.now);
}

pub at_mut-requires : goal.at_mut-requires
at_mut-requires c = let same = c.loop-i.invariant.walking.as_long in omega arith

pub returns : goal.returns
returns c = parts-done c.args.all.now c.args.parts.now ([], c.args.names.now) c.loop-i.i c.loop-i.parts
    (take c.loop-i.before c.args.all.now.functions, c.loop-i.names) (omega arith) c.loop-i.invariant.walking

pub loop-i-preserved : goal.loop-i-preserved
loop-i-preserved c =
    let x : Part = c.at_mut.result.now in
    let y : Part = c.walk_part.new.part in
    let n = c.loop-i.before in
    let k = c.functions_in-own.result in
    let hs : List Head = c.args.all.now.functions in
    let olds : List Part = c.args.parts.now in
    let news : List Part = c.loop-i.parts in
    let e : slice_get news c.loop-i.i ≡ Some x = c.at_mut.ensures.value in
    let j : JudgedPart = judge_part c.args.all.now (take n hs) c.loop-i.names (part_of x) in
    let fits : (j.broken ≡ None) × ((part_of y ≡ j.part) × (c.walk_part.new.names ≡ j.names)) =
    subst (λ (a : Names). let w = judge_part a (take n a.functions) c.loop-i.names (part_of x) in
    (w.broken ≡ None)
    × ((part_of y ≡ w.part)
    × (c.walk_part.new.names ≡ w.names))) c.loop-i.invariant.all c.in_ok-walk_part.ensures.fits in
    let count : k ≡ length (with_head [] (part_of x)) =
    count-of news c.as_slice.result.now c.loop-i.i k x c.index-as_slice-i.result c.as_slice.ensures
    c.index-as_slice-i.is e
    c.functions_in-own.ensures.count in
    let ahead : drop c.loop-i.i news ≡ drop c.loop-i.i olds = c.loop-i.invariant.walking.ahead in
    let behind : drop n hs ≡ heads_of (map part_of (drop c.loop-i.i olds)) = c.loop-i.invariant.behind in
    let added : take (n + k) hs ≡ with_head (take n hs) (part_of x) =
    heads-then hs olds news c.loop-i.i n k x e ahead behind count in
    record {
      all = c.in_ok-walk_part.ensures.all ∙ c.loop-i.invariant.all;
      within = omega (arith, c.functions_in-own.ensures.most, c.loop-i.invariant.within);
      behind = heads-left hs olds news c.loop-i.i n k x e ahead behind count;
      walking = parts-more c.args.all.now olds ([], c.args.names.now) c.loop-i.i news (take n hs, c.loop-i.names)
          (take (n + k) hs, c.walk_part.new.names) x y (omega arith) e fits.0 fits.1.0
          (ap (λ (fs : List Head). (fs, c.walk_part.new.names)) added
          ∙ ap (λ (ns : Names). (with_head (take n hs) (part_of x), ns)) fits.1.1) c.loop-i.invariant.walking;
    }

pub returns-in_err-walk_part : goal.returns-in_err-walk_part
returns-in_err-walk_part c =
    let p : PartTree = part_of c.at_mut.result.now in
    let n = c.loop-i.before in
    let hs : List Head = c.args.all.now.functions in
    let here : Option Broken = (judge_part c.loop-i.all (take n c.loop-i.all.functions) c.loop-i.names p).broken in
    let same : (judge_part c.args.all.now (take n hs) c.loop-i.names p).broken ≡ here =
    ap (λ (a : Names). (judge_part a (take n a.functions) c.loop-i.names p).broken) (sym c.loop-i.invariant.all) in
    broke-off c.from_residual.result c.in_err-walk_part.field-0.0
    (λ _. (part_of c.walk_part.new.part ≡ (judge_part c.loop-i.all (take n c.loop-i.all.functions) c.loop-i.names
    p).part)
    × (c.walk_part.new.names ≡ (judge_part c.loop-i.all (take n c.loop-i.all.functions) c.loop-i.names p).names))
    (λ _. map part_of (set c.loop-i.parts c.loop-i.i c.walk_part.new.part)
    ≡ (judge_parts c.args.all.now [] c.args.names.now (map part_of c.args.parts.now)).parts)
    here (judge_parts c.args.all.now [] c.args.names.now (map part_of c.args.parts.now)).broken
    (search rules) c.in_err-walk_part.ensures.fits
    (λ b broken. parts-broken c.args.all.now c.args.parts.now ([], c.args.names.now) c.loop-i.i c.loop-i.parts
    (take n hs, c.loop-i.names) c.at_mut.result.now (omega arith) c.at_mut.ensures.value c.loop-i.invariant.walking b
    (same ∙ broken))
