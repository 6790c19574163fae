use Rattle.std.proofs.Common.{◌≡◌, ◌∙◌, false, List, ℕ, ◌++◌, ◌∷◌, [], map, ap, sym, subst}
use Rattle.std.specs.Str.{bytes_eq}
use Rattle.bds_check_typing.specs.Files.{was_read}
use Rattle.bds_front.proofs.Keys.{any-read, key-last}
use Rattle.bds_front.proofs.read_paths.put.Goals as goal

pub returns : goal.returns
returns c =
    let ks = c.args.paths.now.keys in
    let k = c.in_ok-path.path in
    let unread : was_read k.items (map (λ k. k.items) ks) ≡ false = subst (λ (p : List ℕ). was_read p (map (λ k. k.items) ks) ≡ false) (sym c.in_ok-path.ensures.items) c.requires in
    ap (map (λ k. k.items)) c.in_ok-insert.ensures.keys ∙ key-last (λ k. k.items) (λ a b. bytes_eq a.items b.items) ks k (any-read (λ k. k.items) k.items ks ∙ unread) ∙ ap (λ (p : List ℕ). map (λ k. k.items) ks ++ p ∷ []) c.in_ok-path.ensures.items
