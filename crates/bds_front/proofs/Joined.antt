-- Files make one program, where a path is the file of one tree.
use Rattle.std.proofs.Common.{◌≡◌, ◌∙◌, ℕ, ◌+◌, List, [], ◌∷◌, ◌++◌, length, ap, sym, subst, refl}
use Rattle.bds_tree.specs.StmtTree.{PartTree, ScriptTree, a_function, a_statement}
use Rattle.bds_check_typing.specs.Files.{Joins, IsProgramOf, path_from}
use Rattle.bds_check_typing.specs.Numbered.{in_file, part_in}

record IsSameJoin (b c : List (List ℕ)) (ps qs : List PartTree) (xs ys : List (List ℕ)) : Type 0 where
  behind : b ≡ c
  parts : ps ≡ qs
  beyond : xs ≡ ys

also_part : (b c : List (List ℕ)) (ps qs : List PartTree) (xs ys : List (List ℕ)) (p : PartTree) → IsSameJoin b c ps qs xs ys → IsSameJoin b c (p ∷ ps) (p ∷ qs) xs ys
also_part b c ps qs xs ys p h = record { behind = h.behind; parts = ap (λ rest. p ∷ rest) h.parts; beyond = h.beyond }

also_beyond : (b c : List (List ℕ)) (ps qs : List PartTree) (xs ys : List (List ℕ)) (p : List ℕ) → IsSameJoin b c ps qs xs ys → IsSameJoin b c ps qs (p ∷ xs) (p ∷ ys)
also_beyond b c ps qs xs ys p h = record { behind = h.behind; parts = h.parts; beyond = ap (λ rest. p ∷ rest) h.beyond }

both_joins : (b c : List (List ℕ)) (os os' ps qs : List PartTree) (ds ds' xs ys : List (List ℕ)) → os ≡ os' → ds ≡ ds' → IsSameJoin b c ps qs xs ys → IsSameJoin b c (os ++ ps) (os' ++ qs) (ds ++ xs) (ds' ++ ys)
both_joins b c os os' ps qs ds ds' xs ys first far h =
    record {
      behind = h.behind;
      parts = ap (λ l. l ++ ps) first ∙ ap (λ l. os' ++ l) h.parts;
      beyond = ap (λ l. l ++ xs) far ∙ ap (λ l. ds' ++ l) h.beyond;
    }

module _ (F : List ℕ → ScriptTree → Type 0) (one : (p : List ℕ) (s t : ScriptTree) → F p s → F p t → s ≡ t) where
  one_join : (depth : ℕ) (path : List ℕ) (file : ℕ) (read : List (List ℕ)) (parts : List PartTree) (b c : List (List ℕ)) (ps qs : List PartTree) (xs ys : List (List ℕ)) →
      Joins F depth path file read parts b ps xs → Joins F depth path file read parts c qs ys → IsSameJoin b c ps qs xs ys
  one_join depth path file read parts b c ps qs xs ys (Joins.end _ _ _ _) (Joins.end _ _ _ _) = record { behind = refl; parts = refl; beyond = refl }
  one_join depth path file read parts b c ps qs xs ys (Joins.function _ _ _ _ f rest _ others _ j) (Joins.function _ _ _ _ _ _ _ others' _ k) =
      also_part b c others others' xs ys (part_in file (a_function f)) (one_join depth path file read rest b c others others' xs ys j k)
  one_join depth path file read parts b c ps qs xs ys (Joins.statement _ _ _ _ s rest _ others _ j) (Joins.statement _ _ _ _ _ _ _ others' _ k) =
      also_part b c others others' xs ys (part_in file (a_statement s)) (one_join depth path file read rest b c others others' xs ys j k)
  one_join depth path file read parts b c ps qs xs ys (Joins.again _ _ _ _ i rest _ _ _ was j) (Joins.again _ _ _ _ _ _ _ _ _ was' k) = one_join depth path file read rest b c ps qs xs ys j k
  one_join depth path file read parts b c ps qs xs ys (Joins.again _ _ _ _ i rest _ _ _ was j) (Joins.included _ _ _ _ _ _ tree between _ os others deep far new within short is inner k) = absurd cc
  one_join depth path file read parts b c ps qs xs ys (Joins.again _ _ _ _ i rest _ _ _ was j) (Joins.beyond_limits _ _ _ _ _ _ _ _ far new out k) = absurd cc
  one_join depth path file read parts b c ps qs xs ys (Joins.included _ _ _ _ i rest tree between _ os others deep far new within short is inner j) (Joins.again _ _ _ _ _ _ _ _ _ was k) = absurd cc
  one_join depth path file read parts b c ps qs xs ys (Joins.included _ _ _ _ i rest tree between _ os others deep far new within short is inner j) (Joins.included _ _ _ _ _ _ tree' between' _ os' others' deep' far' new' within' short' is' inner' k) =
      let same : tree' ≡ tree = one (path_from path i) tree' tree is' is in
      let first = one_join (depth + 1) (path_from path i) (length read) (read ++ path_from path i ∷ []) tree.parts between between' os os' deep deep' inner
      (subst (λ t. Joins F (depth + 1) (path_from path i) (length read) (read ++ path_from path i ∷ []) t.parts between' os' deep') same inner') in
      both_joins b c os os' others others' deep deep' far far' first.parts first.beyond
      (one_join depth path file between rest b c others others' far far' j (subst (λ x. Joins F depth path file x rest c others' far') (sym first.behind) k))
  one_join depth path file read parts b c ps qs xs ys (Joins.included _ _ _ _ i rest tree between _ os others deep far new within short is inner j) (Joins.beyond_limits _ _ _ _ _ _ _ _ far' new' out k) = absurd (out within)
  one_join depth path file read parts b c ps qs xs ys (Joins.beyond_limits _ _ _ _ i rest _ _ far new out j) (Joins.again _ _ _ _ _ _ _ _ _ was k) = absurd cc
  one_join depth path file read parts b c ps qs xs ys (Joins.beyond_limits _ _ _ _ i rest _ _ far new out j) (Joins.included _ _ _ _ _ _ tree between _ os others deep far' new' within short is inner k) = absurd (out within)
  one_join depth path file read parts b c ps qs xs ys (Joins.beyond_limits _ _ _ _ i rest _ _ far new out j) (Joins.beyond_limits _ _ _ _ _ _ _ _ far' new' out' k) =
      also_beyond b c ps qs far far' (path_from path i) (one_join depth path file read rest b c ps qs far far' j k)

  pub one_program : (path : List ℕ) (program program' : ScriptTree) (beyond beyond' : List (List ℕ)) → IsProgramOf F path program beyond → IsProgramOf F path program' beyond' → (program ≡ program') × (beyond ≡ beyond')
  one_program path program program' beyond beyond' a b =
      let same : b.tree ≡ a.tree = one path b.tree a.tree b.file a.file in
      let joined = one_join 0 path 0 (path ∷ []) a.tree.parts program.files program'.files program.parts program'.parts beyond beyond' a.joined
      (subst (λ t. Joins F 0 path 0 (path ∷ []) t.parts program'.files program'.parts beyond') same b.joined) in
      let at : program.at ≡ program'.at = a.at ∙ ap (λ t. in_file 0 t.at) (sym same) ∙ sym b.at in (
        ap (λ x. record { at = x; files = program.files; parts = program.parts }) at
            ∙ ap (λ x. record { at = program'.at; files = x; parts = program.parts }) joined.behind
            ∙ ap (λ x. record { at = program'.at; files = program'.files; parts = x }) joined.parts,
        joined.beyond,
      )
