-- The loops over the parts of a script: what their turns come to.
use Rattle.std.proofs.Common.{◌≡◌, ℕ, ◌+◌, ◌<◌, List, [], ◌∷◌, length, get_or, set, slice_get, take, drop, map, false}
use Rattle.std.proofs.Common.{Option, Some, None, refl, subst, ap, sym, ◌∙◌, arith}
use Rattle.std.specs.Prelude.{⊤}
use Rattle.std.proofs.lemmas.List.{at_drop_more, drop-drop}
use Rattle.std.proofs.lemmas.Option.{get_or_from_slice_get, slice_get_within}
use Rattle.bds_tree.specs.declared.stmt.Part.{Part}
use Rattle.bds_tree.specs.StmtTree.{PartTree}
use Rattle.bds_tree.specs.StmtView.{part_of}
use Rattle.bds_check_laws.proofs.BareStmts.{parts-bare}
use Rattle.bds_check_names.specs.declared.names.Head.{Head}
use Rattle.bds_check_names.specs.declared.names.Names.{Names}
use Rattle.bds_check_names.specs.declared.names.Variable.{Variable}
use Rattle.bds_check_typing.specs.Program.{JudgedParts, also_part, behind_part, finding_names, globals_from, heads_of}
use Rattle.bds_check_typing.specs.Program.{names_of, judge_part, judge_parts, with_head}
use Rattle.bds_check_typing.specs.Walk.{Broken}
use Rattle.bds_check_walk.proofs.Turns.{Walking, walking-none, walking-more, kept-more, all_wanted, any_faulty}
use Rattle.bds_check_walk.proofs.Turns.{all_left, whole-walked, whole-broken}
use Rattle.bds_check.specs.Answers.{bare_part}
use Rattle.bds_check.proofs.Heads.{take-part, drop-part}

-- The walk

-- the functions before a part, and the names at the top level
abbrev pub Place : Type 0
Place = List Head × Names

abbrev pub nothing : PartTree → ⊤
nothing p = tt

module _ (all : Names) where
  abbrev pub part_wanted : Place → Part → PartTree
  part_wanted s p = (judge_part all s.0 s.1 (part_of p)).part

  abbrev pub part_faulty : Place → Part → Option Broken
  part_faulty s p = (judge_part all s.0 s.1 (part_of p)).broken

  abbrev pub part_then : Place → Part → Place
  part_then s p = (with_head s.0 (part_of p), (judge_part all s.0 s.1 (part_of p)).names)

abbrev pub PartsWalking : Names → List Part → Place → ℕ → List Part → Place → Type 0
PartsWalking all olds begun i news now =
    Walking part_of nothing (part_wanted all) (part_faulty all) (part_then all) olds 0 (length olds) begun i news now

parts-as : (all : Names) (s : Place) (ps : List Part) →
    judge_parts all s.0 s.1 (map part_of ps) ≡ record {
      parts = all_wanted part_of nothing (part_wanted all)
          (part_faulty all) (part_then all) s ps;
      broken =
          any_faulty part_of nothing (part_wanted all) (part_faulty all) (part_then all) s ps;
    }
parts-as all s [] = refl
parts-as all s (p ∷ ps) = ap (also_part (judge_part all s.0 s.1 (part_of p))) (parts-as all (part_then all s p) ps)

pub parts-none : (all : Names) (olds : List Part) (s : Place) → PartsWalking all olds s 0 olds s
parts-none all olds s = walking-none part_of nothing (part_wanted all) (part_faulty all) (part_then all) olds 0
    (length olds) s (omega arith)

pub parts-more : (all : Names) (olds : List Part) (begun : Place) (i : ℕ) (news : List Part) (now left : Place)
    (x y : Part) → i < length olds → slice_get news i ≡ Some x →
    (judge_part all now.0 now.1 (part_of x)).broken ≡ None → part_of y ≡ (judge_part all now.0 now.1 (part_of x)).part
    → left ≡ part_then all now x → PartsWalking all olds begun i news now
    → PartsWalking all olds begun (i + 1) (set news i y) left
parts-more all olds begun i news now left x y below e none is behind h =
    subst (λ (s : Place). PartsWalking all olds begun (i + 1) (set news i y) s) (sym behind)
    (walking-more part_of nothing (part_wanted all) (part_faulty all) (part_then all) olds 0 (length olds) begun i news
    now x y (omega arith) below e none is refl h)

pub parts-done : (all : Names) (olds : List Part) (begun : Place) (i : ℕ) (news : List Part) (now : Place)
    → i ≡ length olds → PartsWalking all olds begun i news now →
    ((judge_parts all begun.0 begun.1 (map part_of olds)).broken ≡ None)
    × (map part_of news ≡ (judge_parts all begun.0 begun.1 (map part_of olds)).parts)
parts-done all olds begun i news now end h =
    let e = parts-as all begun olds in
    let w = whole-walked part_of nothing (part_wanted all) (part_faulty all) (part_then all) olds begun i news now end h
    in
    (ap (λ (j : JudgedParts). j.broken) e ∙ w.0, w.1 ∙ sym (ap (λ (j : JudgedParts). j.parts) e))

pub parts-broken : (all : Names) (olds : List Part) (begun : Place) (i : ℕ) (news : List Part) (now : Place) (x : Part)
    → i < length olds → slice_get news i ≡ Some x → PartsWalking all olds begun i news now →
    (b : Broken) → (judge_part all now.0 now.1 (part_of x)).broken ≡ Some b
    → (judge_parts all begun.0 begun.1 (map part_of olds)).broken ≡ Some b
parts-broken all olds begun i news now x below e h b broken =
    ap (λ (j : JudgedParts). j.broken) (parts-as all begun olds)
    ∙ whole-broken part_of nothing (part_wanted all) (part_faulty all) (part_then all) olds begun i news now x below
    e h b broken

-- the next part of those that were read
pub next-part : (olds news : List Part) (i : ℕ) (x : Part) → slice_get news i ≡ Some x → drop i news ≡ drop i olds
    → map part_of (drop i olds) ≡ part_of x ∷ map part_of (drop (i + 1) olds)
next-part olds news i x e same =
    let here : map part_of (drop i news) ≡ part_of x ∷ map part_of (drop (i + 1) news) =
    at_drop_more (λ (ys : List Part). map part_of ys) news i x (slice_get_within news i x e)
    ∙ ap (λ (y : Part). part_of y ∷ map part_of (drop (i + 1) news)) (get_or_from_slice_get news i x x e) in
    let rest : drop (i + 1) news ≡ drop (i + 1) olds =
    sym (drop-drop 1 i news) ∙ ap (drop 1) same ∙ drop-drop 1 i olds in
    ap (map part_of) (sym same) ∙ here ∙ ap (λ (ys : List Part). part_of x ∷ map part_of ys) rest

-- the functions before the part behind it
pub heads-then : (fs : List Head) (olds news : List Part) (i n k : ℕ) (x : Part) → slice_get news i ≡ Some x
    → drop i news ≡ drop i olds → drop n fs ≡ heads_of (map part_of (drop i olds))
    → k ≡ length (with_head [] (part_of x)) → take (n + k) fs ≡ with_head (take n fs) (part_of x)
heads-then fs olds news i n k x e same behind count =
    ap (λ (m : ℕ). take (n + m) fs) count
    ∙ take-part fs n (part_of x) (map part_of (drop (i + 1) olds)) (behind
    ∙ ap heads_of (next-part olds news i x e same))

pub heads-left : (fs : List Head) (olds news : List Part) (i n k : ℕ) (x : Part) → slice_get news i ≡ Some x
    → drop i news ≡ drop i olds → drop n fs ≡ heads_of (map part_of (drop i olds))
    → k ≡ length (with_head [] (part_of x)) → drop (n + k) fs ≡ heads_of (map part_of (drop (i + 1) olds))
heads-left fs olds news i n k x e same behind count =
    ap (λ (m : ℕ). drop (n + m) fs) count
    ∙ drop-part fs n (part_of x) (map part_of (drop (i + 1) olds)) (behind
    ∙ ap heads_of (next-part olds news i x e same))

-- how many functions a part is that was read by its place
pub count-of : (ps qs : List Part) (i k : ℕ) (x y : Part) → qs ≡ ps → y ≡ get_or qs i y → slice_get ps i ≡ Some x →
    k ≡ length (with_head [] (part_of y)) → k ≡ length (with_head [] (part_of x))
count-of ps qs i k x y same at e count =
    let here : y ≡ x = at ∙ ap (λ (zs : List Part). get_or zs i y) same ∙ get_or_from_slice_get ps i x y e in
    count ∙ ap (λ (p : Part). length (with_head [] (part_of p))) here

-- The globals that are found before it

abbrev pub bare_of : Part → PartTree
bare_of p = bare_part (part_of p)

abbrev pub same_part : PartTree → PartTree
same_part p = p

abbrev pub bare_wanted : List Variable → Part → PartTree
bare_wanted vs p = bare_of p

abbrev pub none_faulty : List Variable → Part → Option Broken
none_faulty vs p = None

abbrev pub globals_then : List Head → List Variable → Part → List Variable
globals_then heads vs p = behind_part heads vs (part_of p)

abbrev pub Finding : List Head → List Part → List Variable → ℕ → List Part → List Variable → Type 0
Finding heads olds begun i news now =
    Walking bare_of same_part bare_wanted none_faulty (globals_then heads) olds 0 (length olds) begun i news now

all-found : (heads : List Head) (vs : List Variable) (ps : List Part)
    → all_left bare_of same_part bare_wanted none_faulty (globals_then heads) vs ps ≡ globals_from heads vs
    (map part_of ps)
all-found heads vs [] = refl
all-found heads vs (p ∷ ps) = all-found heads (globals_then heads vs p) ps

pub finding-none : (heads : List Head) (olds : List Part) (vs : List Variable) → Finding heads olds vs 0 olds vs
finding-none heads olds vs =
    walking-none bare_of same_part bare_wanted none_faulty (globals_then heads) olds 0 (length olds) vs (omega arith)

pub finding-more : (heads : List Head) (olds : List Part) (begun : List Variable) (i : ℕ) (news : List Part)
    (now left : List Variable) (x y : Part) → i < length olds → slice_get news i ≡ Some x → bare_of y ≡ bare_of x
    → left ≡ globals_then heads now x →
    Finding heads olds begun i news now → Finding heads olds begun (i + 1) (set news i y) left
finding-more heads olds begun i news now left x y below e same behind h =
    subst (λ (vs : List Variable). Finding heads olds begun (i + 1) (set news i y) vs) (sym behind)
    (walking-more bare_of same_part bare_wanted none_faulty (globals_then heads) olds 0 (length olds) begun i news now x
    y (omega arith) below e refl same same h)

pub finding-done : (heads : List Head) (olds : List Part) (begun : List Variable) (i : ℕ) (news : List Part)
    (now : List Variable) → i ≡ length olds → Finding heads olds begun i news now
    → now ≡ globals_from heads begun (map part_of olds)
finding-done heads olds begun i news now end h =
    let w = whole-walked bare_of same_part bare_wanted none_faulty (globals_then heads) olds begun i news now end h in
    w.2 ∙ all-found heads begun olds

-- parts that differ in types alone are judged alike
pub parts-alike : (all names : Names) (ps qs : List PartTree) → map bare_part ps ≡ map bare_part qs
    → judge_parts all [] names ps ≡ judge_parts all [] names qs
parts-alike all names ps qs same =
    sym (parts-bare ps all [] names) ∙ ap (judge_parts all [] names) same ∙ parts-bare qs all [] names

both-maps : (ps : List Part) → map bare_part (map part_of ps) ≡ map bare_of ps
both-maps [] = refl
both-maps (p ∷ ps) = ap (λ (qs : List PartTree). bare_of p ∷ qs) (both-maps ps)

pub parts-kept : (ps qs : List Part) → map bare_of ps ≡ map bare_of qs
    → map bare_part (map part_of ps) ≡ map bare_part (map part_of qs)
parts-kept ps qs same = both-maps ps ∙ same ∙ sym (both-maps qs)

pub parts-set : (heads : List Head) (olds : List Part) (begun : List Variable) (i : ℕ) (news : List Part)
    (now : List Variable)
    (x y : Part) → slice_get news i ≡ Some x → bare_of y ≡ bare_of x → Finding heads olds begun i news now →
    map bare_part (map part_of (set news i y)) ≡ map bare_part (map part_of olds)
parts-set heads olds begun i news now x y e same h =
    parts-kept (set news i y) olds
    (kept-more bare_of same_part bare_wanted none_faulty (globals_then heads) olds 0 (length olds) begun i news now x y
    e same h)

-- names of which the functions and globals alone are told
pub finding-again : (n : Names) (fs : List Head) (vs : List Variable) → n ≡ finding_names fs vs
    → n ≡ finding_names n.functions n.globals
finding-again n fs vs e = e ∙ sym (ap (λ (m : Names). finding_names m.functions m.globals) e)

pub names-found : (n : Names) (fs : List Head) (vs : List Variable) → n.functions ≡ fs
    → n ≡ finding_names n.functions n.globals →
    n.globals ≡ vs
    → record { functions = n.functions; globals = n.globals; locals = n.locals; finding = false } ≡ names_of fs vs
names-found n fs vs heads finding globals =
    ap (λ (hs : List Head). record { functions = hs; globals = n.globals; locals = n.locals; finding = false }) heads
    ∙ ap (λ (gs : List Variable). record { functions = fs; globals = gs; locals = n.locals; finding = false }) globals
    ∙ ap (λ (ls : List Variable). record {
      functions = fs;
      globals = vs;
      locals = ls;
      finding = false;
    }) (ap (λ (m : Names). m.locals) finding)
