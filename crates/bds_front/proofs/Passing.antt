-- What is next among files is one, where a path is the file of one tree.
use Rattle.std.proofs.Common.{◌≡◌, ◌≤◌, ◌<◌, ℕ, ◌+◌, List, [], ◌∷◌, ◌++◌, length, false, ap, sym, subst, refl, arith}
use Rattle.std.proofs.lemmas.List.{length_push, same_from_push}
use Rattle.bds_tree.specs.StmtTree.{PartTree, ScriptTree, an_include}
use Rattle.bds_check_typing.specs.Files.{path_from, was_read}
use Rattle.bds_meaning.specs.Files.{Passes, Awaits, IsNext}

module _ (F : List ℕ → ScriptTree → Type 0) (one : (p : List ℕ) (s t : ScriptTree) → F p s → F p t → s ≡ t) where
  -- what was read behind the parts
  pub one_pass : (depth : ℕ) (path : List ℕ) (read : List (List ℕ)) (ps : List PartTree) (b c : List (List ℕ)) → Passes F depth path read ps b → Passes F depth path read ps c → b ≡ c
  one_pass depth path read ps b c (Passes.end _ _ _) (Passes.end _ _ _) = refl
  one_pass depth path read ps b c (Passes.other _ _ _ p rest _ not j) (Passes.other _ _ _ _ _ _ not' k) = one_pass depth path read rest b c j k
  one_pass depth path read ps b c (Passes.other _ _ _ p rest _ not j) (Passes.again _ _ _ i _ _ was k) = absurd cc
  one_pass depth path read ps b c (Passes.other _ _ _ p rest _ not j) (Passes.included _ _ _ i _ tree between _ new within short is inner k) = absurd cc
  one_pass depth path read ps b c (Passes.other _ _ _ p rest _ not j) (Passes.beyond_limits _ _ _ i _ _ new out k) = absurd cc
  one_pass depth path read ps b c (Passes.again _ _ _ i rest _ was j) (Passes.other _ _ _ _ _ _ not k) = absurd cc
  one_pass depth path read ps b c (Passes.again _ _ _ i rest _ was j) (Passes.again _ _ _ _ _ _ was' k) = one_pass depth path read rest b c j k
  one_pass depth path read ps b c (Passes.again _ _ _ i rest _ was j) (Passes.included _ _ _ _ _ tree between _ new within short is inner k) = absurd cc
  one_pass depth path read ps b c (Passes.again _ _ _ i rest _ was j) (Passes.beyond_limits _ _ _ _ _ _ new out k) = absurd cc
  one_pass depth path read ps b c (Passes.included _ _ _ i rest tree between _ new within short is inner j) (Passes.other _ _ _ _ _ _ not k) = absurd cc
  one_pass depth path read ps b c (Passes.included _ _ _ i rest tree between _ new within short is inner j) (Passes.again _ _ _ _ _ _ was k) = absurd cc
  one_pass depth path read ps b c (Passes.included _ _ _ i rest tree between _ new within short is inner j) (Passes.included _ _ _ _ _ tree' between' _ new' within' short' is' inner' k) =
      let same : tree' ≡ tree = one (path_from path i) tree' tree is' is in
      let inside : between' ≡ between = sym (one_pass (depth + 1) (path_from path i) (read ++ path_from path i ∷ []) tree.parts between between' inner (subst (λ t. Passes F (depth + 1) (path_from path i) (read ++ path_from path i ∷ []) t.parts between') same inner')) in
      one_pass depth path between rest b c j (subst (λ x. Passes F depth path x rest c) inside k)
  one_pass depth path read ps b c (Passes.included _ _ _ i rest tree between _ new within short is inner j) (Passes.beyond_limits _ _ _ _ _ _ new' out k) = absurd (out within)
  one_pass depth path read ps b c (Passes.beyond_limits _ _ _ i rest _ new out j) (Passes.other _ _ _ _ _ _ not k) = absurd cc
  one_pass depth path read ps b c (Passes.beyond_limits _ _ _ i rest _ new out j) (Passes.again _ _ _ _ _ _ was k) = absurd cc
  one_pass depth path read ps b c (Passes.beyond_limits _ _ _ i rest _ new out j) (Passes.included _ _ _ _ _ tree between _ new' within short is inner k) = absurd (out within)
  one_pass depth path read ps b c (Passes.beyond_limits _ _ _ i rest _ new out j) (Passes.beyond_limits _ _ _ _ _ _ new' out' k) = one_pass depth path read rest b c j k

  -- More is read, never less

  passes_more : (depth : ℕ) (path : List ℕ) (read : List (List ℕ)) (ps : List PartTree) (b : List (List ℕ)) → Passes F depth path read ps b → length read ≤ length b
  passes_more depth path read ps b (Passes.end _ _ _) = omega arith
  passes_more depth path read ps b (Passes.other _ _ _ p rest _ not j) = passes_more depth path read rest b j
  passes_more depth path read ps b (Passes.again _ _ _ i rest _ was j) = passes_more depth path read rest b j
  passes_more depth path read ps b (Passes.included _ _ _ i rest tree between _ new within short is inner j) =
      let first = length_push read (path_from path i) in
      let inside = passes_more (depth + 1) (path_from path i) (read ++ path_from path i ∷ []) tree.parts between inner in
      let behind = passes_more depth path between rest b j in
      omega arith
  passes_more depth path read ps b (Passes.beyond_limits _ _ _ i rest _ new out j) = passes_more depth path read rest b j

  pub awaits_more : (depth : ℕ) (path : List ℕ) (read : List (List ℕ)) (ps : List PartTree) (b : List (List ℕ)) (next : List ℕ) → Awaits F depth path read ps b next → length read ≤ length b
  awaits_more depth path read ps b next (Awaits.here _ _ _ i rest new within) = omega arith
  awaits_more depth path read ps b next (Awaits.inside _ _ _ i rest tree _ _ new within short is w) =
      let first = length_push read (path_from path i) in
      let inside = awaits_more (depth + 1) (path_from path i) (read ++ path_from path i ∷ []) tree.parts b next w in
      omega arith
  awaits_more depth path read ps b next (Awaits.behind_part _ _ _ p rest between _ _ passes w) =
      let first = passes_more depth path read (p ∷ []) between passes in
      let behind = awaits_more depth path between rest b next w in
      omega arith

  -- What is awaited hasn't been passed

  record PassedParts (depth : ℕ) (path : List ℕ) (read : List (List ℕ)) (p : PartTree) (ps : List PartTree) (c : List (List ℕ)) : Type 0 where
    between : List (List ℕ)
    first : Passes F depth path read (p ∷ []) between
    rest : Passes F depth path between ps c

  parted : (depth : ℕ) (path : List ℕ) (read : List (List ℕ)) (p : PartTree) (ps : List PartTree) (c : List (List ℕ)) → Passes F depth path read (p ∷ ps) c → PassedParts depth path read p ps c
  parted depth path read p ps c (Passes.other _ _ _ _ _ _ not j) = record { between = read; first = Passes.other depth path read p [] read not (Passes.end depth path read); rest = j }
  parted depth path read p ps c (Passes.again _ _ _ i _ _ was j) = record { between = read; first = Passes.again depth path read i [] read was (Passes.end depth path read); rest = j }
  parted depth path read p ps c (Passes.included _ _ _ i _ tree between _ new within short is inner j) =
      record { between = between; first = Passes.included depth path read i [] tree between between new within short is inner (Passes.end depth path between); rest = j }
  parted depth path read p ps c (Passes.beyond_limits _ _ _ i _ _ new out j) = record { between = read; first = Passes.beyond_limits depth path read i [] read new out (Passes.end depth path read); rest = j }

  pub awaits_before : (depth : ℕ) (path : List ℕ) (read : List (List ℕ)) (ps : List PartTree) (b : List (List ℕ)) (next : List ℕ) (c : List (List ℕ)) → Awaits F depth path read ps b next → Passes F depth path read ps c → length b < length c
  awaits_before depth path read ps b next c (Awaits.here _ _ _ i rest new within) (Passes.other _ _ _ _ _ _ not k) = absurd cc
  awaits_before depth path read ps b next c (Awaits.here _ _ _ i rest new within) (Passes.again _ _ _ _ _ _ was k) = absurd cc
  awaits_before depth path read ps b next c (Awaits.here _ _ _ i rest new within) (Passes.included _ _ _ _ _ tree between _ new' within' short is inner k) =
      let first = length_push read (path_from path i) in
      let inside = passes_more (depth + 1) (path_from path i) (read ++ path_from path i ∷ []) tree.parts between inner in
      let behind = passes_more depth path between rest c k in
      omega arith
  awaits_before depth path read ps b next c (Awaits.here _ _ _ i rest new within) (Passes.beyond_limits _ _ _ _ _ _ new' out k) = absurd (out within)
  awaits_before depth path read ps b next c (Awaits.inside _ _ _ i rest tree _ _ new within short is w) (Passes.other _ _ _ _ _ _ not k) = absurd cc
  awaits_before depth path read ps b next c (Awaits.inside _ _ _ i rest tree _ _ new within short is w) (Passes.again _ _ _ _ _ _ was k) = absurd cc
  awaits_before depth path read ps b next c (Awaits.inside _ _ _ i rest tree _ _ new within short is w) (Passes.included _ _ _ _ _ tree' between _ new' within' short' is' inner k) =
      let same : tree' ≡ tree = one (path_from path i) tree' tree is' is in
      let inside = awaits_before (depth + 1) (path_from path i) (read ++ path_from path i ∷ []) tree.parts b next between w (subst (λ t. Passes F (depth + 1) (path_from path i) (read ++ path_from path i ∷ []) t.parts between) same inner) in
      let behind = passes_more depth path between rest c k in
      omega arith
  awaits_before depth path read ps b next c (Awaits.inside _ _ _ i rest tree _ _ new within short is w) (Passes.beyond_limits _ _ _ _ _ _ new' out k) = absurd (out within)
  awaits_before depth path read ps b next c (Awaits.behind_part _ _ _ p rest between _ _ passes w) k =
      let parts = parted depth path read p rest c k in
      let same : parts.between ≡ between = one_pass depth path read (p ∷ []) parts.between between parts.first passes in
      awaits_before depth path between rest b next c w (subst (λ x. Passes F depth path x rest c) same parts.rest)

  -- an include whose file is awaited, there or inside, was passed in no other way
  behind_none : (depth : ℕ) (path : List ℕ) (read : List (List ℕ)) (p : PartTree) (rest : List PartTree) (b c : List (List ℕ)) (n m : List ℕ) (between : List (List ℕ)) →
      Awaits F depth path read (p ∷ []) b n → Passes F depth path read (p ∷ []) between → Awaits F depth path between rest c m → b ≡ c → ⊥
  behind_none depth path read p rest b c n m between w passes behind e =
      let long = ap length e in
      let before = awaits_before depth path read (p ∷ []) b n between w passes in
      let more = awaits_more depth path between rest c m behind in
      absurd (omega arith)

  none_inside : (depth : ℕ) (path : List ℕ) (read b : List (List ℕ)) (ps : List PartTree) (p next : List ℕ) → Awaits F depth path (read ++ p ∷ []) ps b next → read ≡ b → ⊥
  none_inside depth path read b ps p next w e =
      let long = ap length e in
      let first = length_push read p in
      let inside = awaits_more depth path (read ++ p ∷ []) ps b next w in
      absurd (omega arith)

  -- where so many files were read, one file is next
  one_awaited : (depth : ℕ) (path : List ℕ) (read : List (List ℕ)) (ps : List PartTree) (b c : List (List ℕ)) (n m : List ℕ) → Awaits F depth path read ps b n → Awaits F depth path read ps c m → b ≡ c → n ≡ m
  one_awaited depth path read ps b c n m (Awaits.here _ _ _ i rest new within) (Awaits.here _ _ _ _ _ new' within') e = refl
  one_awaited depth path read ps b c n m (Awaits.here _ _ _ i rest new within) (Awaits.inside _ _ _ _ _ tree _ _ new' within' short is w) e =
      absurd (none_inside (depth + 1) (path_from path i) read c tree.parts (path_from path i) m w e)
  one_awaited depth path read ps b c n m (Awaits.here _ _ _ i rest new within) (Awaits.behind_part _ _ _ _ _ between _ _ passes w) e =
      absurd (behind_none depth path read (an_include i) rest b c n m between (Awaits.here depth path read i [] new within) passes w e)
  one_awaited depth path read ps b c n m (Awaits.inside _ _ _ i rest tree _ _ new within short is w) (Awaits.here _ _ _ _ _ new' within') e =
      absurd (none_inside (depth + 1) (path_from path i) read b tree.parts (path_from path i) n w (sym e))
  one_awaited depth path read ps b c n m (Awaits.inside _ _ _ i rest tree _ _ new within short is w) (Awaits.inside _ _ _ _ _ tree' _ _ new' within' short' is' w') e =
      let same : tree' ≡ tree = one (path_from path i) tree' tree is' is in
      one_awaited (depth + 1) (path_from path i) (read ++ path_from path i ∷ []) tree.parts b c n m w (subst (λ t. Awaits F (depth + 1) (path_from path i) (read ++ path_from path i ∷ []) t.parts c m) same w') e
  one_awaited depth path read ps b c n m (Awaits.inside _ _ _ i rest tree _ _ new within short is w) (Awaits.behind_part _ _ _ _ _ between _ _ passes behind) e =
      absurd (behind_none depth path read (an_include i) rest b c n m between (Awaits.inside depth path read i [] tree b n new within short is w) passes behind e)
  one_awaited depth path read ps b c n m (Awaits.behind_part _ _ _ p rest between _ _ passes behind) (Awaits.here _ _ _ i _ new within) e =
      absurd (behind_none depth path read (an_include i) rest c b m n between (Awaits.here depth path read i [] new within) passes behind (sym e))
  one_awaited depth path read ps b c n m (Awaits.behind_part _ _ _ p rest between _ _ passes behind) (Awaits.inside _ _ _ i _ tree _ _ new within short is w) e =
      absurd (behind_none depth path read (an_include i) rest c b m n between (Awaits.inside depth path read i [] tree c m new within short is w) passes behind (sym e))
  one_awaited depth path read ps b c n m (Awaits.behind_part _ _ _ p rest between _ _ passes behind) (Awaits.behind_part _ _ _ _ _ between' _ _ passes' behind') e =
      let same : between' ≡ between = one_pass depth path read (p ∷ []) between' between passes' passes in
      one_awaited depth path between rest b c n m behind (subst (λ x. Awaits F depth path x rest c m) same behind') e

  none_is_read : (path : List ℕ) (ps : List PartTree) (b : List (List ℕ)) (next : List ℕ) → Awaits F 0 path (path ∷ []) ps b next → b ≡ [] → ⊥
  none_is_read path ps b next w e =
      let long = ap length e in
      let more = awaits_more 0 path (path ∷ []) ps b next w in
      absurd (omega arith)

  one_next_of : (path : List ℕ) (b c : List (List ℕ)) (n m : List ℕ) → IsNext F path b n → IsNext F path c m → b ≡ c → n ≡ m
  one_next_of path b c n m IsNext.script IsNext.script e = refl
  one_next_of path b c n m IsNext.script (IsNext.include tree _ _ is w) e = absurd (none_is_read path tree.parts c m w (sym e))
  one_next_of path b c n m (IsNext.include tree _ _ is w) IsNext.script e = absurd (none_is_read path tree.parts b n w e)
  one_next_of path b c n m (IsNext.include tree _ _ is w) (IsNext.include tree' _ _ is' w') e =
      let same : tree' ≡ tree = one path tree' tree is' is in
      one_awaited 0 path (path ∷ []) tree.parts b c n m w (subst (λ t. Awaits F 0 path (path ∷ []) t.parts c m) same w') e

  pub one_next : (path : List ℕ) (read : List (List ℕ)) (n m : List ℕ) → IsNext F path read n → IsNext F path read m → n ≡ m
  one_next path read n m a b = one_next_of path read read n m a b refl

  -- what is next isn't among files that were all passed
  pub next_unpassed : (path : List ℕ) (read : List (List ℕ)) (next : List ℕ) (tree : ScriptTree) → IsNext F path read next → F path tree → Passes F 0 path (path ∷ []) tree.parts read → ⊥
  next_unpassed path read next tree IsNext.script is passes = let more = passes_more 0 path (path ∷ []) tree.parts read passes in absurd (omega arith)
  next_unpassed path read next tree (IsNext.include tree' _ _ is' w) is passes =
      let same : tree' ≡ tree = one path tree' tree is' is in
      let before = awaits_before 0 path (path ∷ []) tree.parts read next read (subst (λ t. Awaits F 0 path (path ∷ []) t.parts read next) same w) passes in
      absurd (omega arith)

-- The last file that was read, where more is read in this way: it is new, and the file of some tree

abbrev pub HasNewLast : (List ℕ → ScriptTree → Type 0) → List (List ℕ) → Type 0
HasNewLast F read = (front : List (List ℕ)) (last : List ℕ) → read ≡ front ++ last ∷ [] → (was_read last front ≡ false) × ((tree : ScriptTree) × F last tree)

module _ (F : List ℕ → ScriptTree → Type 0) where
  pushed : (read : List (List ℕ)) (p : List ℕ) (tree : ScriptTree) → was_read p read ≡ false → F p tree → HasNewLast F (read ++ p ∷ [])
  pushed read p tree new is front last e =
      let same = same_from_push read front p last e in
      (subst (λ x. was_read last x ≡ false) same.0 (subst (λ x. was_read x read ≡ false) same.1 new), (tree, subst (λ x. F x tree) same.1 is))

  passes_last : (depth : ℕ) (path : List ℕ) (read : List (List ℕ)) (ps : List PartTree) (b : List (List ℕ)) → Passes F depth path read ps b → HasNewLast F read → HasNewLast F b
  passes_last depth path read ps b (Passes.end _ _ _) h = h
  passes_last depth path read ps b (Passes.other _ _ _ p rest _ not j) h = passes_last depth path read rest b j h
  passes_last depth path read ps b (Passes.again _ _ _ i rest _ was j) h = passes_last depth path read rest b j h
  passes_last depth path read ps b (Passes.included _ _ _ i rest tree between _ new within short is inner j) h =
      passes_last depth path between rest b j (passes_last (depth + 1) (path_from path i) (read ++ path_from path i ∷ []) tree.parts between inner (pushed read (path_from path i) tree new is))
  passes_last depth path read ps b (Passes.beyond_limits _ _ _ i rest _ new out j) h = passes_last depth path read rest b j h

  awaits_last : (depth : ℕ) (path : List ℕ) (read : List (List ℕ)) (ps : List PartTree) (b : List (List ℕ)) (next : List ℕ) → Awaits F depth path read ps b next → HasNewLast F read → HasNewLast F b
  awaits_last depth path read ps b next (Awaits.here _ _ _ i rest new within) h = h
  awaits_last depth path read ps b next (Awaits.inside _ _ _ i rest tree _ _ new within short is w) h =
      awaits_last (depth + 1) (path_from path i) (read ++ path_from path i ∷ []) tree.parts b next w (pushed read (path_from path i) tree new is)
  awaits_last depth path read ps b next (Awaits.behind_part _ _ _ p rest between _ _ passes w) h =
      awaits_last depth path between rest b next w (passes_last depth path read (p ∷ []) between passes h)

  pub last_passed : (path : List ℕ) (tree : ScriptTree) (read : List (List ℕ)) → F path tree → Passes F 0 path (path ∷ []) tree.parts read → HasNewLast F read
  last_passed path tree read is passes = passes_last 0 path (path ∷ []) tree.parts read passes (pushed [] path tree refl is)

  pub last_before : (path : List ℕ) (read : List (List ℕ)) (next : List ℕ) → IsNext F path read next → HasNewLast F read
  last_before path read next IsNext.script = λ front last e. let long = ap length e in let more = length_push front last in absurd (omega arith)
  last_before path read next (IsNext.include tree _ _ is w) = awaits_last 0 path (path ∷ []) tree.parts read next w (pushed [] path tree refl is)
