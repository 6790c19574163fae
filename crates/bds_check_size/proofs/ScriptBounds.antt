-- The size of a script is within its bound, where no global is declared twice.
use Rattle.std.proofs.Common.{◌≡◌, ◌≤◌, ◌+◌, ◌*◌, ℕ, List, [], ◌∷◌, Option, Some, None, Bool, true, false, not, ◌||◌, refl, ◌∙◌, ap, arith, if◌then◌else◌, rules}
use Rattle.std.specs.List.{list_any}
use Rattle.std.specs.Str.{bytes_eq}
use Rattle.std.proofs.lemmas.Slice.Eq.{bytes_eq-Decides}
use Rattle.bds_value.specs.declared.value.Ty.{Ty}
use Rattle.bds_value.specs.declared.value.Value.{Value, out-Value}
use Rattle.bds_value.specs.declared.value.Value.TheOpen.{Value-F}
use Rattle.bds_tree.specs.StmtTree.{StmtFormTree, LineTree, no_right, a_right, stmt, line, for, each, declare, infer, PartTree, ScriptTree, a_function, an_include, a_statement}
use Rattle.bds_check_names.specs.declared.names.Variable.{Variable}
use Rattle.bds_check_names.specs.Types.{is_known}
use Rattle.bds_check_rules.specs.Declarations.{declared_by_form, declared_by_line}
use Rattle.bds_check_size.specs.Known.{Known}
use Rattle.bds_check_size.specs.ParSize.{line_pars_size, form_pars_size, line_par_locals, form_par_locals}
use Rattle.bds_check_size.specs.Nodes.{line_nodes, form_stmt_nodes}
use Rattle.bds_check_size.specs.ScriptSize.{Settings, later, set_value, set_for, items_at, items_in, made_at, items_set, line_or_value_size, top_form_size, behind_top, first_known, all_globals, ending_size, in_function, script_parts_size, program_size, parts_nodes, parts_par_locals, program_bound, global_names, AreDistinct, set_for_variable, name_before}
use Rattle.bds_check_size.proofs.StmtBounds.{line-bound, right-bound, form-stmt-bound, block-bound}

-- Items that are set

abbrev items_maybe : Option Value → ℕ
items_maybe None = 0
items_maybe (Some v) = items_in v

made-is : (w : Value-F Value) → made_at w ≡ items_at w + 1
made-is (Value-F.Bool b) = refl
made-is (Value-F.Int n) = refl
made-is (Value-F.Text t) = refl
made-is (Value-F.List t vs) = refl
made-is (Value-F.Map t ps) = refl

-- what a list of names is given
abbrev given_items : Settings → List (List ℕ) → ℕ
given_items ss [] = 0
given_items ss (x ∷ xs) = items_maybe (set_value ss x) + given_items ss xs

-- so many for each name that is this one
abbrev counted : List ℕ → ℕ → List (List ℕ) → ℕ
counted y n [] = 0
counted y n (x ∷ xs) = (if bytes_eq y x then n else 0) + counted y n xs

not-counted : (y : List ℕ) (n : ℕ) (xs : List (List ℕ)) → list_any (λ x. bytes_eq y x) xs ≡ false → counted y n xs ≡ 0
not-counted y n [] h = refl
not-counted y n (x ∷ xs) h = by (bytes_eq y x) (list_any (λ x. bytes_eq y x) xs) refl refl h (λ q. not-counted y n xs q)
  where
    by : (b c : Bool) → bytes_eq y x ≡ b → list_any (λ x. bytes_eq y x) xs ≡ c → (b || c) ≡ false → (list_any (λ x. bytes_eq y x) xs ≡ false → counted y n xs ≡ 0) → (if bytes_eq y x then n else 0) + counted y n xs ≡ 0
    by true c p q r rest = absurd (search (rules, r))
    by false true p q r rest = absurd (search (rules, r))
    by false false p q r rest = let a : (if bytes_eq y x then n else 0) ≡ 0 = ap (λ (b : Bool). if b then n else 0) p in let d = rest q in omega (arith, a, d)

same-any : (y x : List ℕ) (xs : List (List ℕ)) → bytes_eq y x ≡ true → list_any (λ z. bytes_eq x z) xs ≡ false → list_any (λ z. bytes_eq y z) xs ≡ false
same-any y x xs e h = ap (λ w. list_any (λ z. bytes_eq w z) xs) ((bytes_eq-Decides y x).0 e) ∙ h

-- of distinct names at most one is this one
counted-once : (y : List ℕ) (n : ℕ) (xs : List (List ℕ)) → AreDistinct xs → counted y n xs ≤ n
counted-once y n [] h = omega arith
counted-once y n (x ∷ xs) h = by (bytes_eq y x) refl (counted-once y n xs h.1)
  where
    by : (b : Bool) → bytes_eq y x ≡ b → counted y n xs ≤ n → (if bytes_eq y x then n else 0) + counted y n xs ≤ n
    by true p rest =
        let a : (if bytes_eq y x then n else 0) ≡ n = ap (λ (b : Bool). if b then n else 0) p in
        let d = not-counted y n xs (same-any y x xs p h.0) in
        omega (arith, a, d)
    by false p rest =
        let a : (if bytes_eq y x then n else 0) ≡ 0 = ap (λ (b : Bool). if b then n else 0) p in
        omega (arith, a, rest)

later-small : (o : Option Value) (b : Bool) (v : Value) → items_maybe (later o (if b then Some v else None)) ≤ items_maybe o + (if b then items_in v else 0)
later-small (Some w) true v = omega arith
later-small (Some w) false v = omega arith
later-small None true v = omega arith
later-small None false v = omega arith

one-setting : (y : List ℕ) (v : Value) (ss : Settings) (xs : List (List ℕ)) → given_items ((y, v) ∷ ss) xs ≤ given_items ss xs + counted y (items_in v) xs
one-setting y v ss [] = omega arith
one-setting y v ss (x ∷ xs) =
    let a = later-small (set_value ss x) (bytes_eq y x) v in
    let b = one-setting y v ss xs in
    omega (arith, a, b)

pub given-small : (ss : Settings) (xs : List (List ℕ)) → AreDistinct xs → given_items ss xs ≤ items_set ss
given-small [] xs h = none xs
  where
    none : (xs : List (List ℕ)) → given_items [] xs ≤ 0
    none [] = omega arith
    none (x ∷ xs) = let a = none xs in omega (arith, a)
given-small (s ∷ ss) xs h =
    let a = one-setting s.0 s.1 ss xs in
    let b = given-small ss xs h in
    let c = counted-once s.0 (items_in s.1) xs h in
    omega (arith, a, b, c)

-- The top level

set-bound : (ss : Settings) (l : LineTree) (k : Known) (v : Value) → set_for ss l ≡ Some v → line_pars_size l k + 2 ≤ 32 + 32 * line_nodes l + line_par_locals l k
set-bound ss (declare t x no_right) k v e = omega arith
set-bound ss (declare t x (a_right r)) k v e = let a = right-bound r k in omega (arith, a)
set-bound ss (infer x r) k v e = let a = right-bound r k in omega (arith, a)
set-bound ss _ k v e = absurd (search (rules, e))

top-line-bound : (ss : Settings) (l : LineTree) (k : Known) → line_or_value_size (set_for ss l) l k + line_pars_size l k ≤ 32 + 32 * line_nodes l + line_par_locals l k + items_maybe (set_for ss l)
top-line-bound ss l k = by (set_for ss l) refl
  where
    by : (o : Option Value) → set_for ss l ≡ o → line_or_value_size o l k + line_pars_size l k ≤ 32 + 32 * line_nodes l + line_par_locals l k + items_maybe o
    by None e = let a = line-bound l k in omega (arith, a)
    by (Some v) e = let a = set-bound ss l k v e in let b = made-is (out-Value v) in omega (arith, a, b)

given-with : (ss : Settings) (v : Option Variable) (others : List (List ℕ)) → given_items ss (name_before v others)
    ≡ items_maybe (set_for_variable ss v) + given_items ss others
given-with ss None others = omega arith
given-with ss (Some v) others = refl

top-form-bound : (ss : Settings) (f : StmtFormTree) (k : Known) (others : List (List ℕ))
    → top_form_size ss f k + form_pars_size f k + given_items ss others ≤ 32 + 32 * form_stmt_nodes f + form_par_locals f k + given_items ss (name_before (declared_by_form f) others)
top-form-bound ss (line l) k others = let a = top-line-bound ss l k in let b = given-with ss (declared_by_line l) others in omega (arith, a, b)
top-form-bound ss f k others = let a = form-stmt-bound f k in omega (arith, a)

-- The script

ending-small : (ret : Ty) → ending_size ret ≤ 2
ending-small ret = by_known (not (is_known ret))
  where
    by_known : (b : Bool) → (if b then 1 else 2) ≤ 2
    by_known true = omega arith
    by_known false = omega arith

parts-bound : (ss : Settings) (ps : List PartTree) (gs : List Variable) (k : Known) → script_parts_size ss ps gs k ≤ 32 * parts_nodes ps + parts_par_locals ps gs k + given_items ss (global_names ps)
parts-bound ss [] gs k = omega arith
parts-bound ss (a_function f ∷ ps) gs k = let a = block-bound f.body (in_function gs f.parameters) in let b = ending-small f.result in let c = parts-bound ss ps gs k in omega (arith, a, b, c)
parts-bound ss (an_include i ∷ ps) gs k = let c = parts-bound ss ps gs k in omega (arith, c)
parts-bound ss (a_statement (stmt at f) ∷ ps) gs k = let a = top-form-bound ss f k (global_names ps) in let c = parts-bound ss ps gs (behind_top (stmt at f) k) in omega (arith, a, c)

pub program-small : (ss : Settings) (args : List (List ℕ)) (s : ScriptTree) → AreDistinct (global_names s.parts) → program_size ss args s ≤ program_bound ss args s
program-small ss args s h = let a = parts-bound ss s.parts (all_globals s.parts) first_known in let b = given-small ss (global_names s.parts) h in omega (arith, a, b)
