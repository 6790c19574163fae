-- The tests among parts, one part after the other.
use Rattle.std.proofs.Common.{◌+◌, ◌-◌, ◌<◌, Option, Some, None, arith, drop, get_or, length, suc, zero, ◌≡◌, ◌∙◌, ℕ}
use Rattle.std.proofs.Common.{Bool, true, false, List, [], ◌∷◌, ◌++◌, if◌then◌else◌}
use Rattle.std.proofs.Common.{map, refl, ap, sym, append_assoc}
use Rattle.std.specs.List.{slice_get}
use Rattle.std.proofs.lemmas.List.{at_drop_more}
use Rattle.std.proofs.lemmas.Option.{slice_get-get_or}
use Rattle.bds_tree.specs.declared.stmt.Part.{Part}
use Rattle.bds_tree.specs.StmtView.{part_of}
use Rattle.bds_tree.specs.StmtTree.{FunctionTree, PartTree, a_function, an_include, a_statement}
use Rattle.bds_check_tests.specs.Tests.{is_test, tests_in}

next-part : (xs : List Part) (i : ℕ) (x : Part) → i < length xs → x ≡ get_or xs i x
    → map part_of (drop i xs) ≡ part_of x ∷ map part_of (drop (i + 1) xs)
next-part xs i x below is =
    at_drop_more (λ (ys : List Part). map part_of ys) xs i x below
    ∙ ap (λ (y : Part). part_of y ∷ map part_of (drop (i + 1) xs)) (sym is)

abbrev pub names_of : List PartTree → List (List ℕ)
names_of ps = map (λ (f : FunctionTree). f.name) (tests_in ps)

chosen : (b : Bool) (f : FunctionTree) (fs : List FunctionTree)
    → (if b then f ∷ fs else fs) ≡ (if b then f ∷ [] else []) ++ fs
chosen true f fs = refl
chosen false f fs = refl

pub tests_more : (p : PartTree) (ps : List PartTree) → tests_in (p ∷ ps) ≡ tests_in (p ∷ []) ++ tests_in ps
tests_more (a_function f) ps = chosen (is_test f) f (tests_in ps)
tests_more (an_include i) ps = refl
tests_more (a_statement s) ps = refl

named : (fs gs : List FunctionTree)
    → map (λ (f : FunctionTree). f.name) (fs ++ gs) ≡ map (λ (f : FunctionTree). f.name) fs
    ++ map (λ (f : FunctionTree). f.name) gs
named [] gs = refl
named (f ∷ fs) gs = ap (λ ns. f.name ∷ ns) (named fs gs)

-- the names behind those that are there
pub names_more : (before : List (List ℕ)) (p : PartTree) (ps : List PartTree)
    → before ++ names_of (p ∷ ps) ≡ (before ++ names_of (p ∷ [])) ++ names_of ps
names_more before p ps =
    ap (λ (fs : List FunctionTree). before ++ map (λ (f : FunctionTree). f.name) fs) (tests_more p ps)
    ∙ ap (λ (ns : List (List ℕ)). before ++ ns) (named (tests_in (p ∷ [])) (tests_in ps))
    ∙ sym (append_assoc before (names_of (p ∷ [])) (names_of ps))

-- The loops, one part further

module _ (xs : List Part) (i : ℕ) (x : Part) (below : i < length xs) (is : x ≡ get_or xs i x) where
  abbrev rest : List PartTree
  rest = map part_of (drop (i + 1) xs)

  next : map part_of (drop i xs) ≡ part_of x ∷ rest
  next = next-part xs i x below is

  pub names_on : (names new : List (List ℕ)) (whole : List (List ℕ)) → new ≡ names ++ names_of (part_of x ∷ [])
      → names ++ names_of (map part_of (drop i xs)) ≡ whole → new ++ names_of rest ≡ whole
  names_on names new whole e h =
      ap (λ (ns : List (List ℕ)). ns ++ names_of rest) e ∙ sym (names_more names (part_of x) rest)
      ∙ ap (λ (ps : List PartTree). names ++ names_of ps) (sym next) ∙ h

  tests_next : (fs : List FunctionTree) → tests_in (part_of x ∷ []) ≡ fs
      → tests_in (map part_of (drop i xs)) ≡ fs ++ tests_in rest
  tests_next fs e =
      ap tests_in next ∙ tests_more (part_of x) rest ∙ ap (λ (gs : List FunctionTree). gs ++ tests_in rest) e

  -- it is the test that is wanted, a later one is, or the part is none
  pub found_here : (f : FunctionTree) (left : ℕ) (r : Option FunctionTree) → tests_in (part_of x ∷ []) ≡ f ∷ []
      → left ≡ 0
      → slice_get (tests_in (map part_of (drop i xs))) left ≡ r → Some f ≡ r
  found_here f left r e none h =
      sym (ap (λ (fs : List FunctionTree). slice_get fs 0) (tests_next (f ∷ []) e))
      ∙ ap (λ (n : ℕ). slice_get (tests_in (map part_of (drop i xs))) n) (sym none) ∙ h

  pub found_later : (f : FunctionTree) (left : ℕ) (r : Option FunctionTree) → tests_in (part_of x ∷ []) ≡ f ∷ []
      → 0 < left
      → slice_get (tests_in (map part_of (drop i xs))) left ≡ r → slice_get (tests_in rest) (left - 1) ≡ r
  found_later f left r e some h =
      behind f (tests_in rest) left some
      ∙ sym (ap (λ (fs : List FunctionTree). slice_get fs left) (tests_next (f ∷ []) e)) ∙ h
    where
      behind : (f : FunctionTree) (fs : List FunctionTree) (n : ℕ) → 0 < n → slice_get fs (n - 1) ≡ slice_get (f ∷ fs) n
      behind f fs zero some = absurd (omega (arith, some))
      behind f fs (suc n) some = ap (slice_get fs) (one_less n)
        where
          one_less : (n : ℕ) → suc n - 1 ≡ n
          one_less n = omega arith

  pub none_here : (left : ℕ) (r : Option FunctionTree) → tests_in (part_of x ∷ []) ≡ []
      → slice_get (tests_in (map part_of (drop i xs))) left ≡ r → slice_get (tests_in rest) left ≡ r
  none_here left r e h = sym (ap (λ (fs : List FunctionTree). slice_get fs left) (tests_next [] e)) ∙ h

-- there is a test of each number below theirs
pub not_past : (fs : List FunctionTree) (i : ℕ) → i < length fs → None ≡ slice_get fs i → ⊥
not_past [] i below is = omega (arith, below)
not_past (f ∷ fs) i below is =
    let no : None ≡ Some (get_or (f ∷ fs) i f) = is ∙ slice_get-get_or (f ∷ fs) i f below in cc no
