use Rattle.std.proofs.Common.{◌≡◌, ◌∙◌, ◌++◌, ◌∷◌, [], ap, sym, subst, ℕ, List, append_assoc}
use Rattle.bds_value.specs.Order.{KeysRise}
use Rattle.bds_value.proofs.Entries.{insert_first, not_there, rise_later}
use Rattle.bds_value.proofs.rising.Rising.from_vec.Goals as goal

-- a pair before those that were made, behind those that are left
whole : {P : Type 0} (left now made all : List P) (p : P) → now ≡ left ++ p ∷ [] → now ++ made ≡ all → left ++ p ∷ made ≡ all
whole left now made all p e h = sym (append_assoc left (p ∷ []) made) ∙ ap (λ l. l ++ made) (sym e) ∙ h

pub insert-requires : goal.insert-requires
insert-requires g c =
    let all = whole {P = List ℕ × g.row.T.Denot} c.pop.new.self.items c.loop-key.left.items c.loop-key.made c.args.pairs.items (c.in-Some.key, c.in-Some.value) c.in-Some.ensures.items c.loop-key.invariant in
    not_there c.in-Some.key c.in-Some.value c.loop-key.made (rise_later c.pop.new.self.items ((c.in-Some.key, c.in-Some.value) ∷ c.loop-key.made) (subst KeysRise (sym all) c.requires))

pub loop-key-preserved : goal.loop-key-preserved
loop-key-preserved g c =
    let all = whole {P = List ℕ × g.row.T.Denot} c.pop.new.self.items c.loop-key.left.items c.loop-key.made c.args.pairs.items (c.in-Some.key, c.in-Some.value) c.in-Some.ensures.items c.loop-key.invariant in
    let rises = rise_later c.pop.new.self.items ((c.in-Some.key, c.in-Some.value) ∷ c.loop-key.made) (subst KeysRise (sym all) c.requires) in
    ap (λ (l : List (List ℕ × g.row.T.Denot)). c.pop.new.self.items ++ l) (c.in_ok-insert.ensures.ok ∙ insert_first c.in-Some.key c.in-Some.value c.loop-key.made rises) ∙ all
