-- The lists of edges lead where rules need each other.
use Rattle.std.proofs.Common.{◌≡◌, ℕ, zero, suc, ◌+◌, ◌<◌, Bool, true, false, ◌||◌, List, [], ◌∷◌, ◌++◌, length, Option, Some, None, refl, sym, ap, ◌∙◌, subst, arith, nat_eq}
use Rattle.std.proofs.lemmas.Bool.{eq-eqb, eqb-true, false≢true}
use Rattle.std.specs.Str.{bytes_eq}
use Rattle.bds_rules.specs.declared.rule.Rule.{Rule}
use Rattle.bds_rules.specs.Makers.{is_among, maker}
use Rattle.bds_rules.specs.Own.{AreOwn}
use Rattle.bds_goal.specs.Chains.{is_in}
use Rattle.bds_goal.specs.Edges.{AreEdges, edges, edges_from, makers_of, number_of}
use Rattle.bds_goal.specs.Goals.{Makes, Needs, inputs}
use Rattle.bds_goal.specs.Marks.{edges_of, leads_to}
use Rattle.bds_goal.proofs.MakerLaws.{itself, made_by_maker, maker_is, or_left, or_right, same_bytes}

edges_long : (all rs : List Rule) → length (edges_from all rs) ≡ length rs
edges_long all [] = refl
edges_long all (r ∷ rs) = ap suc (edges_long all rs)

edges_at : (all rs : List Rule) (i : ℕ) → edges_of (edges_from all rs) i ≡ makers_of all (inputs rs (suc i))
edges_at all [] i = refl
edges_at all (r ∷ rs) zero = refl
edges_at all (r ∷ rs) (suc i) = edges_at all rs i

in_makers : (all : List Rule) (files : List (List ℕ)) (f : List ℕ) (s : ℕ) → is_among files f ≡ true → maker all f ≡ Some s → is_in (makers_of all files) s ≡ true
in_makers all [] f s a e = elim (false≢true a) [ ]
in_makers all (g ∷ gs) f s a e = go (in_makers all gs f s) (bytes_eq g f) refl a
  where
    behind : (o : Option ℕ) (ns : List ℕ) → is_in ns s ≡ true → is_in (number_of o ++ ns) s ≡ true
    behind None ns h = h
    behind (Some t) ns h = or_right (nat_eq s t) (is_in ns s) h

    first : (o : Option ℕ) (ns : List ℕ) → o ≡ Some s → is_in (number_of o ++ ns) s ≡ true
    first o ns is = subst (λ x. is_in (number_of x ++ ns) s ≡ true) (sym is) (or_left (nat_eq s s) (is_in ns s) (eq-eqb s s refl))

    go : (is_among gs f ≡ true → maker all f ≡ Some s → is_in (makers_of all gs) s ≡ true) → (b : Bool) → bytes_eq g f ≡ b → b || is_among gs f ≡ true → is_in (makers_of all (g ∷ gs)) s ≡ true
    go more true d h = first (maker all g) (makers_of all gs) (ap (maker all) (same_bytes g f d) ∙ e)
    go more false d h = behind (maker all g) (makers_of all gs) (more h e)

makers_in : (all : List Rule) (files : List (List ℕ)) (s : ℕ) → is_in (makers_of all files) s ≡ true → (f : List ℕ) × ((is_among files f ≡ true) × (maker all f ≡ Some s))
makers_in all [] s e = elim (false≢true e) [ ]
makers_in all (g ∷ gs) s e = go (makers_in all gs s) (maker all g) refl e
  where
    later : ((f : List ℕ) × ((is_among gs f ≡ true) × (maker all f ≡ Some s))) → (f : List ℕ) × ((is_among (g ∷ gs) f ≡ true) × (maker all f ≡ Some s))
    later h = (h.0, (or_right (bytes_eq g h.0) (is_among gs h.0) h.1.0, h.1.1))

    at : (is_in (makers_of all gs) s ≡ true → (f : List ℕ) × ((is_among gs f ≡ true) × (maker all f ≡ Some s))) → (t : ℕ) → maker all g ≡ Some t → (b : Bool) → nat_eq s t ≡ b → b || is_in (makers_of all gs) s ≡ true → (f : List ℕ) × ((is_among (g ∷ gs) f ≡ true) × (maker all f ≡ Some s))
    at more t d true is h = (g, (or_left (bytes_eq g g) (is_among gs g) (itself g), d ∙ ap Some (sym (eqb-true s t is))))
    at more t d false is h = later (more h)

    go : (is_in (makers_of all gs) s ≡ true → (f : List ℕ) × ((is_among gs f ≡ true) × (maker all f ≡ Some s))) → (o : Option ℕ) → maker all g ≡ o → is_in (number_of o ++ makers_of all gs) s ≡ true → (f : List ℕ) × ((is_among (g ∷ gs) f ≡ true) × (maker all f ≡ Some s))
    go more None d h = later (more h)
    go more (Some t) d h = at more t d (nat_eq s t) refl h

edge_needs : (rules : List Rule) (r s : ℕ) → leads_to (edges rules) r s ≡ true → Needs rules r s
edge_needs rules zero s e = elim (false≢true e) [ ]
edge_needs rules (suc i) s e =
    let h = makers_in rules (inputs rules (suc i)) s (subst (λ ns. is_in ns s ≡ true) (edges_at rules rules i) e) in
    record { file = h.0; takes = h.1.0; makes = made_by_maker rules h.0 s h.1.1 }

needs_edge : (rules : List Rule) → AreOwn [] rules → (r s : ℕ) → Needs rules r s → leads_to (edges rules) r s ≡ true
needs_edge rules own zero s n = elim (false≢true n.takes) [ ]
needs_edge rules own (suc i) s n =
    subst (λ ns. is_in ns s ≡ true) (sym (edges_at rules rules i)) (in_makers rules (inputs rules (suc i)) n.file s n.takes (maker_is rules own s n.file n.makes))

pub are_edges : (rules : List Rule) → AreOwn [] rules → AreEdges rules (edges rules)
are_edges rules own = record {
  long = let e = edges_long rules rules in omega arith;
  same = λ r s. (edge_needs rules r s, needs_edge rules own r s);
}

-- only a rule that is there makes a file
pub makes_within : (rules : List Rule) (n : ℕ) (f : List ℕ) → Makes rules n f → n < length rules + 1
makes_within rules zero f a = omega arith
makes_within [] (suc i) f a = elim (false≢true a) [ ]
makes_within (r ∷ rs) (suc zero) f a = omega arith
makes_within (r ∷ rs) (suc (suc i)) f a = let h = makes_within rs (suc i) f a in omega arith
