use Rattle.std.proofs.Common.{◌≡◌, sym, None, List, ℕ, subst, ◌∙◌}
use Rattle.std.specs.Map.{lookup}
use Rattle.std.specs.Str.{bytes_eq}
use Rattle.indexmap.proofs.CallerLemmas.{insert_entry-new}
use Rattle.bds_rules.proofs.IndexLaws.{kept_pushed, lookup_push}
use Rattle.bds_rules.proofs.indexes.put.Goals as goal

pub returns-clause-ok : goal.returns-clause-ok
returns-clause-ok c =
    let none : lookup (λ k. bytes_eq c.in_ok-file.file.items k.items) c.args.index.now.entries ≡ None = subst (λ (n : List ℕ). lookup (λ k. bytes_eq n k.items) c.args.index.now.entries ≡ None) (sym c.in_ok-file.ensures.items) c.requires in
    λ x. rw (c.in_ok-insert.ensures.entries, insert_entry-new _ c.args.index.now c.in_ok-file.file c.args.n none, ← c.in_ok-file.ensures.items)
    (lookup_push (λ k. k.items) x c.args.index.now.entries c.in_ok-file.file c.args.n)

pub returns-clause-kept : goal.returns-clause-kept
returns-clause-kept c =
    let none : lookup (λ k. bytes_eq c.in_ok-file.file.items k.items) c.args.index.now.entries ≡ None = subst (λ (n : List ℕ). lookup (λ k. bytes_eq n k.items) c.args.index.now.entries ≡ None) (sym c.in_ok-file.ensures.items) c.requires in
    kept_pushed c.args.index.now.entries c.insert.new.self.entries (c.in_ok-file.file, c.args.n)
    (c.in_ok-insert.ensures.entries ∙ insert_entry-new _ c.args.index.now c.in_ok-file.file c.args.n none)
