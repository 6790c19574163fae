-- The script opens with a straight term.
use Rattle.std.proofs.Common.{◌≡◌, ℕ, zero, suc, ◌+◌, true, List, [], refl, ap, ◌∙◌}
use Rattle.bds_value.specs.declared.value.Ty as a_type
use Rattle.bds_check_names.specs.declared.names.Head.{Head}
use Rattle.bds_check_typing.specs.Program.{names_of, first_globals}
use Rattle.bds_meaning.specs.Opening.{parts_term, source_term, opening}
use Rattle.bds_made.specs.Straight.{is_straight, AreStraight}
use Rattle.bds_made.proofs.Script.{judged, tail_parts, tasks_parts, made_parts, made_tree}
use Rattle.bds_made.proofs.Typing.{names_behind, no_heads}

tail_straight : (l : ℕ) → is_straight (parts_term [] names_behind (tail_parts judged l)) ≡ true
unfolding a_type.out-Ty denote.Hole.Carrier.out
tail_straight l = refl

tasks_straight : (k i l : ℕ) → is_straight (parts_term [] names_behind (tasks_parts judged k i l)) ≡ true
unfolding a_type.out-Ty denote.Hole.Carrier.out
tasks_straight zero i l = tail_straight l
tasks_straight (suc k) i l = tasks_straight k (i + 1) ((l + 1) + 1)

made_straight : (files : List (List ℕ)) (n : ℕ) → is_straight (source_term [] [] (made_tree judged files n)) ≡ true
unfolding a_type.out-Ty denote.Hole.Carrier.out
made_straight files n =
    ap (λ (hs : List Head). is_straight (parts_term [] (names_of hs first_globals) (made_parts judged n)))
    (no_heads judged n 0 2)
    ∙ tasks_straight n 0 2

pub opens_straight : (path : List ℕ) (cpus budget : ℕ) (files : List (List ℕ)) (n : ℕ)
    → AreStraight (opening path cpus budget [] [] (made_tree judged files n))
opens_straight path cpus budget files n = (made_straight files n, tt)
