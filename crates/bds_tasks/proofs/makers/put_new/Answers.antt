use Rattle.std.proofs.Common.{◌≡◌, ◌++◌, ◌∷◌, [], ◌∙◌, List, ℕ, None, ap, subst, sym}
use Rattle.indexmap.proofs.CallerLemmas.{insert_entry-new}
use Rattle.bds_tasks.specs.Makers.{tasks_at}
use Rattle.bds_tasks.proofs.MakerLaws.{has_new}
use Rattle.bds_tasks.proofs.makers.put_new.Goals as goal

pub returns : goal.returns
returns c =
    let old = c.args.makers.now.entries in
    let key = c.in_ok-file.file in
    let copied : key.items ≡ c.args.file.now = c.in_ok-file.ensures.items in
    let none : tasks_at key.items old ≡ None = subst (λ (f : List ℕ). tasks_at f old ≡ None) (sym copied) c.requires in
    let one : c.push.new.self ≡ c.args.n ∷ [] =
    c.in_ok-push.ensures.ok ∙ ap (λ (ns : List ℕ). ns ++ c.args.n ∷ []) c.new-numbers.ensures in
    let put = c.in_ok-insert.ensures.entries ∙ insert_entry-new _ c.args.makers.now key c.push.new.self none
    ∙ ap (λ (ns : List ℕ). old ++ (key, ns) ∷ []) one in
    λ ts. has_new ts c.args.file.now c.args.n old c.insert.new.self.entries key c.requires copied put
