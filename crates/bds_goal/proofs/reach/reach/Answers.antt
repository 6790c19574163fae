use Rattle.std.proofs.Common.{◌≡◌, ◌∙◌, ◌++◌, List, ℕ, ap}
use Rattle.std.proofs.lemmas.Result.{IfOk-weaker}
use Rattle.bds_rules.specs.Makers.{is_among}
use Rattle.bds_goal.specs.Collected.{collected}
use Rattle.bds_goal.specs.Goals.{IsReach}
use Rattle.bds_goal.specs.Rising.{AreRising}
use Rattle.bds_goal.proofs.ReachLaws.{is_reach}
use Rattle.bds_goal.proofs.reach.reach.Goals as goal

pub returns : goal.returns
returns c =
    let rules = c.args.rules.now in
    let targets = c.args.targets.now in
    let marks = c.args.marks.now in
    let some : c.put_texts.new.out ≡ targets = c.in_ok-put_texts.ensures ∙ ap (λ (fs : List (List ℕ)). fs ++ targets) c.new-files.ensures in
    let all : c.put_marked.new.out ≡ collected rules marks targets = c.in_ok-put_marked.ensures ∙ ap (λ (fs : List (List ℕ)). collected rules marks fs) some in
    IfOk-weaker c.rising.result (λ files. AreRising c.put_marked.new.out files) (λ files. IsReach rules targets files) (λ files r. is_reach rules targets marks files c.requires r.rises (λ f. r.set f ∙ ap (λ (ts : List (List ℕ)). is_among ts f) all)) c.rising.ensures
