-- The functions of a script, one part after the other.
use Rattle.std.proofs.Common.{◌≡◌, ℕ, ◌+◌, List, [], ◌∷◌, ◌++◌, length, take, drop, map, refl, ap, sym, ◌∙◌}
use Rattle.std.proofs.Common.{append_assoc, append-nil}
use Rattle.std.proofs.Math.Seq.{take-add, take-append_seam, drop-append_seam}
use Rattle.std.proofs.lemmas.List.{drop-drop}
use Rattle.bds_tree.specs.StmtTree.{PartTree, a_function, an_include, a_statement}
use Rattle.bds_check_names.specs.declared.names.Head.{Head}
use Rattle.bds_check_typing.specs.Program.{head_of, heads_of, with_head}
use Rattle.bds_check.specs.Answers.{bare_part}

pub with_heads : (hs : List Head) (p : PartTree) (ps : List PartTree)
    → with_head hs p ++ heads_of ps ≡ hs ++ heads_of (p ∷ ps)
with_heads hs (a_function f) ps = rw append_assoc refl
with_heads hs (an_include i) ps = refl
with_heads hs (a_statement s) ps = refl

added : (hs : List Head) (p : PartTree) → hs ++ with_head [] p ≡ with_head hs p
added hs (a_function f) = refl
added hs (an_include i) = append-nil hs
added hs (a_statement s) = append-nil hs

-- the first functions, those of the next part with them
pub take-part : (hs : List Head) (n : ℕ) (p : PartTree) (ps : List PartTree) → drop n hs ≡ heads_of (p ∷ ps)
    → take (n + length (with_head [] p)) hs ≡ with_head (take n hs) p
take-part hs n p ps h =
    let own : List Head = with_head [] p in
    take-add n (length own) hs
    ∙ ap (λ (xs : List Head). take n hs ++ take (length own) xs) (h ∙ sym (with_heads [] p ps))
    ∙ ap (λ (xs : List Head). take n hs ++ xs) (take-append_seam own (heads_of ps)) ∙ added (take n hs) p

-- the others
pub drop-part : (hs : List Head) (n : ℕ) (p : PartTree) (ps : List PartTree) → drop n hs ≡ heads_of (p ∷ ps)
    → drop (n + length (with_head [] p)) hs ≡ heads_of ps
drop-part hs n p ps h =
    let own : List Head = with_head [] p in
    sym (drop-drop (length own) n hs) ∙ ap (λ (xs : List Head). drop (length own) xs) (h ∙ sym (with_heads [] p ps))
    ∙ drop-append_seam own (heads_of ps)

heads-bare : (ps : List PartTree) → heads_of (map bare_part ps) ≡ heads_of ps
heads-bare [] = refl
heads-bare (a_function f ∷ ps) = ap (λ (hs : List Head). head_of f ∷ hs) (heads-bare ps)
heads-bare (an_include i ∷ ps) = heads-bare ps
heads-bare (a_statement s ∷ ps) = heads-bare ps

-- parts that differ in types alone have the same functions
pub heads-alike : (ps qs : List PartTree) → map bare_part ps ≡ map bare_part qs → heads_of ps ≡ heads_of qs
heads-alike ps qs same = sym (heads-bare ps) ∙ ap heads_of same ∙ heads-bare qs
