use Rattle.std.proofs.Common.{◌≡◌, ◌+◌, List, ℕ, ap, arith, false, length, subst}
use Rattle.std.proofs.lemmas.List.{length-replicate}
use Rattle.bds_goal.specs.Edges.{edges}
use Rattle.bds_goal.specs.Marks.{Edge, IsSpread, Marked}
use Rattle.bds_goal.proofs.EdgeLaws.{are_edges, makes_within}
use Rattle.bds_goal.proofs.WantedLaws.{blank_none, makers_long}
use Rattle.bds_goal.proofs.WantedLaws as laws
use Rattle.bds_goal.proofs.wanted.wanted.Goals as goal

pub spread-requires : goal.spread-requires
spread-requires c =
    let rules = c.args.rules.now in
    let none = c.in_ok-marks.marks.items in
    let long : length c.mark_makers.new.marks.items ≡ length rules + 1 = omega (arith, ap length c.mark_makers.ensures, makers_long rules c.args.targets.now none, ap length c.in_ok-marks.ensures, length-replicate (length c.as_slice.result.now + 1) false, ap length c.as_slice.ensures.same) in
    record {
      few = let few = c.as_slice.ensures.few in omega (arith, long, few, ap length c.as_slice.ensures.same);
      within = λ i j e.
          let needs = ((are_edges rules c.as_slice.ensures.own).same i j).0 (subst (λ (es : List (List ℕ)). Edge es i j) c.requires e) in
          let there = makes_within rules j needs.file needs.makes in
          omega (arith, long, there);
    }

pub returns : goal.returns
returns c =
    let rules = c.args.rules.now in
    let targets = c.args.targets.now in
    let none = c.in_ok-marks.marks.items in
    let marks = c.spread.new.marks.items in
    let own = c.as_slice.ensures.own in
    let long : length none ≡ length rules + 1 = omega (arith, ap length c.in_ok-marks.ensures, length-replicate (length c.as_slice.result.now + 1) false, ap length c.as_slice.ensures.same) in
    let same : length marks ≡ length none = omega (arith, c.in_ok-spread.ensures.same, ap length c.mark_makers.ensures, makers_long rules targets none) in
    let spread = subst (λ (es : List (List ℕ)). IsSpread es c.mark_makers.new.marks.items marks) c.requires c.in_ok-spread.ensures.spread in
    laws.wanted rules targets (edges rules) none marks own (are_edges rules own) long
    (λ k m. blank_none (length c.as_slice.result.now + 1) k (subst (λ ms. Marked ms k) c.in_ok-marks.ensures m))
    same (subst (λ ms. IsSpread (edges rules) ms marks) c.mark_makers.ensures spread)
