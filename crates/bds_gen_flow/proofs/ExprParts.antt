-- What well-typed expressions say of the operands of their parts.
use Rattle.std.proofs.Common.{◌≡◌, ◌+◌, ℕ, zero, suc, List, [], ◌∷◌, ◌++◌, reverse, replicate, Option, Some, None, is_some, Ok, Bool, true, false, not, ◌&&◌, ◌||◌, refl, sym, ◌∙◌, ap, ap₂, subst, arith, if◌then◌else◌, rules, append_assoc}
use Rattle.std.specs.Prelude.{⊤, ◌==◌, length}
use Rattle.std.proofs.lemmas.Grind.{common_steps}
use Rattle.std.proofs.lemmas.List.{reverse-append}
use Rattle.bds_value.specs.declared.value.At.{At}
use Rattle.bds_value.specs.declared.value.Ty.{Ty, out-Ty}
use Rattle.bds_value.specs.declared.value.Ty.TheOpen.{Ty-F}
use Rattle.bds_value.specs.declared.value.Ty.TheVariants as ty
use Rattle.bds_tree.specs.Tree.{Tree, Trees, TreePairs, node, none, more, no_pairs, more_pairs, type_of}
use Rattle.bds_value.specs.Fields.{is_solid}
use Rattle.bds_code.specs.declared.instr.Instr.{Instr}
use Rattle.bds_code.specs.declared.instr.Instr.TheVariants.{Add, Show, Concat, ListAdd, ListCat}
use Rattle.bds_code.specs.declared.unit.Function.{Function}
use Rattle.bds_code.specs.declared.unit.Unit.{Unit as CodeUnit}
use Rattle.bds_value.specs.Types.{is_void}
use Rattle.bds_code.specs.Operands.{giving, swapped, all_taken, pairs_taken, taken}
use Rattle.bds_value.specs.Results.{◌>>=◌}
use Rattle.bds_code.specs.Row.{row}
use Rattle.bds_verify.specs.Verified.{goes_on, target}
use Rattle.bds_check_names.specs.declared.names.Head.{Head}
use Rattle.bds_check_names.specs.declared.names.Asked.{Asked}
use Rattle.bds_check_names.specs.declared.names.Asked.TheVariants.{Whole, Value, This}
use Rattle.bds_check_rules.specs.declared.rules.Rule.{Rule}
use Rattle.bds_check_rules.specs.declared.rules.Rule.TheVariants as rule
use Rattle.bds_check_names.specs.Types.{is_known, known_at, differ, or_void, list_of, list_of_at, map_of, map_of_at, sum_ty}
use Rattle.bds_value.specs.Types.{same_ty, list_item, list_item_at, map_item, map_item_at}
use Rattle.bds_check_names.specs.Scopes.{is_value, is_missing}
use Rattle.bds_check_rules.specs.Pieces.{when}
use Rattle.bds_check_rules.specs.Typing.{asked_map_item, first_value_type, asked_list_item, item_type, first_type, count as tree_count}
use Rattle.bds_check_rules.specs.Breaks.{any_pair_differs, map_rule, any_differs, list_rule, or_deep, any_argument_differs, call_rule}
use Rattle.bds_check_names.specs.Types.{lacks}
use Rattle.bds_check_size.specs.ExprSize.{sum_size}
use Rattle.bds_check_size.specs.declared.sums.Sum.{Sum}
use Rattle.bds_check_size.specs.declared.sums.Sum.TheVariants as sums
use Rattle.bds_check_typing.specs.Walk.{no_whole, is_open, unasked, items_asked}
use Rattle.bds_check_typing.specs.WellTyped.{asked_among_values, asked_among}
use Rattle.bds_check_typing.specs.Known.{IsValueWritten, AreValuesWritten, ArePairsWritten}
use Rattle.bds_check_typing.proofs.Written.{written-known, list-item-written}
use Rattle.bds_gen_expr.specs.Marks.{Mark, does, one}
use Rattle.bds_gen_expr.specs.Scope.{in_slot, in_global, VariablePlace, load_at}
use Rattle.bds_gen_expr.specs.ExprCode.{pair_count, sum_between, sum_behind, left_ty, between_size}
use Rattle.bds_gen_flow.specs.Flow.{Runs}
use Rattle.bds_gen_flow.proofs.Flow.{runs_then, runs_one, runs_does}
use Rattle.bds_gen_flow.specs.Fits.{AreAllKnown}
use Rattle.bds_gen_flow.proofs.Sums.{SumFits, list-is}
use Rattle.bds_value.proofs.TypeLaws.{same_ty-true}
use Rattle.bds_gen_flow.proofs.RowEffects.{not_void, int-solid, text-solid, given-is, swap_two, show-is, add_item-is, join-is, same-unless, int-known, bool-known, text-known, taken-is}

-- What well-typed nodes say

pub when-none : (b : Bool) (r : Rule) (others : Option Rule) → when b r others ≡ None → (b ≡ false) × (others ≡ None)
when-none true r others q = absurd (search (rules, q))
when-none false r others q = (refl, q)

pub or-deep-none : (r : Option Rule) (t : Ty) → or_deep r t ≡ None → r ≡ None
or-deep-none None t q = refl
or-deep-none (Some r) t q = absurd (search (rules, q))

pub or-none : (a b : Bool) → (a || b) ≡ false → (a ≡ false) × (b ≡ false)
or-none true b q = absurd (search (rules, q))
or-none false b q = (refl, q)

-- a value's type can be written
pub written-type : (e : Tree) → IsValueWritten e → is_solid (type_of e) ≡ true
written-type (node at t f) w = w.0

pub known-type : (e : Tree) → IsValueWritten e → is_known (type_of e) ≡ true
known-type e w = written-known (type_of e) (written-type e w)

pub no_target : (v : VariablePlace) → target (load_at v) ≡ None
no_target (in_slot i) = refl
no_target (in_global g) = refl

pub loads_on : (v : VariablePlace) → goes_on (load_at v) ≡ true
loads_on (in_slot i) = refl
loads_on (in_global g) = refl

pub item-known : (a t : Ty) → is_solid a ≡ true → list_item a ≡ Some t → is_known t ≡ true
item-known a t w h = written-known t (list-item-written a t w h)

abbrev pub behind_size : Sum → ℕ
behind_size sums.Texts = 2
behind_size _ = 1

-- Rows of operators, by the types of their operands

module _ (u : CodeUnit) (f : Function) where
  pub ints : (a b t : Ty) (s : List Ty) → ty.Int ≡ a → ty.Int ≡ b → is_void t ≡ false → swapped (ty.Int ∷ ty.Int ∷ []) t (b ∷ a ∷ s) ≡ Ok (t ∷ s)
  ints a b t s ea eb v = subst (λ a. swapped (ty.Int ∷ ty.Int ∷ []) t (b ∷ a ∷ s) ≡ Ok (t ∷ s)) ea (subst (λ b. swapped (ty.Int ∷ ty.Int ∷ []) t (b ∷ ty.Int ∷ s) ≡ Ok (t ∷ s)) eb (swap_two ty.Int ty.Int t s int-solid int-solid v))

  -- both operands are ints
  pub both-ints : (a b : Ty) (d : Bool) (s : List Ty) → is_known a ≡ true → is_known b ≡ true → or_deep (when (differ ty.Int a || differ ty.Int b) rule.WrongType None) ty.Int ≡ None → (ty.Int ≡ a) × (ty.Int ≡ b)
  both-ints a b d s ka kb q =
      let p : (differ ty.Int a || differ ty.Int b) ≡ false = (when-none (differ ty.Int a || differ ty.Int b) rule.WrongType None (or-deep-none (when (differ ty.Int a || differ ty.Int b) rule.WrongType None) ty.Int q)).0 in
      let r = or-none (differ ty.Int a) (differ ty.Int b) p in
      (same-unless ty.Int a int-known ka r.0, same-unless ty.Int b int-known kb r.1)

  pub both-bools : (a b : Ty) → is_known a ≡ true → is_known b ≡ true → or_deep (when (differ ty.Bool a || differ ty.Bool b) rule.WrongType None) ty.Bool ≡ None → (ty.Bool ≡ a) × (ty.Bool ≡ b)
  both-bools a b ka kb q =
      let p : (differ ty.Bool a || differ ty.Bool b) ≡ false = (when-none (differ ty.Bool a || differ ty.Bool b) rule.WrongType None (or-deep-none (when (differ ty.Bool a || differ ty.Bool b) rule.WrongType None) ty.Bool q)).0 in
      let r = or-none (differ ty.Bool a) (differ ty.Bool b) p in
      (same-unless ty.Bool a bool-known ka r.0, same-unless ty.Bool b bool-known kb r.1)

  pub holds : (k h : Bool) → k ≡ true → (k && not h) ≡ false → h ≡ true
  holds k true p q = refl
  holds true false p q = absurd (search (rules, q))
  holds false false p q = absurd (search (rules, p))

  pub both-among : (among : Ty → Bool) (test : Ty → Bool) (a b : Ty) (s : List Ty) → ((t : Ty) → among t ≡ true → test t ≡ true) → is_known a ≡ true → is_known b ≡ true
      → or_deep (when (lacks a (among a) || lacks b (among b) || differ a b) rule.WrongType None) ty.Bool ≡ None → (a ≡ b) × (test b ≡ true)
  both-among among test a b s h ka kb q =
      let p = (when-none (lacks a (among a) || lacks b (among b) || differ a b) rule.WrongType None (or-deep-none (when (lacks a (among a) || lacks b (among b) || differ a b) rule.WrongType None) ty.Bool q)).0 in
      let r = or-none (lacks a (among a) || lacks b (among b)) (differ a b) p in
      let r2 = or-none (lacks a (among a)) (lacks b (among b)) r.0 in
      (same-unless a b ka kb r.1, h b (holds (is_known b) (among b) kb r2.1))

-- Expressions

module _ (u : CodeUnit) (f : Function) (Labels : ℕ → List Ty → Type 0) (Ticks : ℕ → Type 0) where
  abbrev pub Run : List Mark → ℕ → ℕ → List Ty → List Ty → Type 0
  Run = Runs u f Labels Ticks

  -- two operands and an instruction
  pub two_runs : (at : At) (i : Instr) (ca cb : List Mark) (p q r e : ℕ) (s : List Ty) (a b t : Ty) → target i ≡ None → goes_on i ≡ true → r + 1 ≡ e → row u f i (b ∷ a ∷ s) ≡ Ok (t ∷ s)
      → Run ca p q s (a ∷ s) → Run cb q r (a ∷ s) (b ∷ a ∷ s) → Run (ca ++ (cb ++ one at i)) p e s (t ∷ s)
  two_runs at i ca cb p q r e s a b t j g end effect ra rb =
      runs_then u f Labels Ticks ca (cb ++ one at i) p q e s (a ∷ s) (t ∷ s) ra
      (runs_then u f Labels Ticks cb (one at i) q r e (a ∷ s) (b ∷ a ∷ s) (t ∷ s) rb (runs_one u f Labels Ticks i at r e (b ∷ a ∷ s) (t ∷ s) end j g effect))

  pub one_runs : (at : At) (i : Instr) (ca : List Mark) (p q e : ℕ) (s : List Ty) (a t : Ty) → target i ≡ None → goes_on i ≡ true → q + 1 ≡ e → row u f i (a ∷ s) ≡ Ok (t ∷ s)
      → Run ca p q s (a ∷ s) → Run (ca ++ one at i) p e s (t ∷ s)
  one_runs at i ca p q e s a t j g end effect ra =
      runs_then u f Labels Ticks ca (one at i) p q e s (a ∷ s) (t ∷ s) ra (runs_one u f Labels Ticks i at q e (a ∷ s) (t ∷ s) end j g effect)

  -- a sum, by its kind
  pub sum_runs : (at : At) (sum : Sum) (ca cb : List Mark) (p q r z e : ℕ) (s : List Ty) (a b t : Ty) → SumFits sum a b → t ≡ sum_ty a b → is_solid a ≡ true → is_known a ≡ true → is_known b ≡ true
      → q + between_size sum ≡ r → z + behind_size sum ≡ e → Run ca p q s (a ∷ s) → Run cb r z (left_ty sum a ∷ s) (b ∷ left_ty sum a ∷ s) → Run (ca ++ (sum_between at sum ++ (cb ++ sum_behind at sum))) p e s (t ∷ s)
  sum_runs at sums.Numbers ca cb p q r z e s a b t h et wa ka kb eq ez ra rb =
      let same : r ≡ q = omega (arith, eq) in
      let row_is : row u f Add (b ∷ a ∷ s) ≡ Ok (t ∷ s) = ints u f a b ty.Int s (sym h.0) (sym h.1) int-solid ∙ ap (λ x. Ok (x ∷ s)) (sym (et ∙ h.2)) in
      two_runs at Add ca cb p q z e s a b t refl refl ez row_is ra (subst (λ n. Run cb n z (a ∷ s) (b ∷ a ∷ s)) same rb)
  sum_runs at sums.ItemAdded ca cb p q r z e s a b t h et wa ka kb eq ez ra rb =
      let same : r ≡ q = omega (arith, eq) in
      let is_list : ty.List b ≡ a = sym (list-is a b h.0) in
      let row_is : row u f ListAdd (b ∷ a ∷ s) ≡ Ok (t ∷ s) = subst (λ x. row u f ListAdd (b ∷ x ∷ s) ≡ Ok (x ∷ s)) is_list (add_item-is b s (not_void b kb)) ∙ ap (λ x. Ok (x ∷ s)) (sym (et ∙ h.1)) in
      two_runs at ListAdd ca cb p q z e s a b t refl refl ez row_is ra (subst (λ n. Run cb n z (a ∷ s) (b ∷ a ∷ s)) same rb)
  sum_runs at sums.ListsJoined ca cb p q r z e s a b t h et wa ka kb eq ez ra rb =
      let same : r ≡ q = omega (arith, eq) in
      let row_is : row u f ListCat (b ∷ a ∷ s) ≡ Ok (t ∷ s) =
      subst (λ x. row u f ListCat (x ∷ a ∷ s) ≡ Ok (a ∷ s)) h.0 (join-is a h.1.0 s (not_void a ka) (not_void h.1.0 (item-known a h.1.0 wa h.1.1)) h.1.1) ∙ ap (λ x. Ok (x ∷ s)) (sym (et ∙ h.2)) in
      two_runs at ListCat ca cb p q z e s a b t refl refl ez row_is ra (subst (λ n. Run cb n z (a ∷ s) (b ∷ a ∷ s)) same rb)
  sum_runs at sums.Texts ca cb p q r z e s a b t h et wa ka kb eq ez ra rb =
      let last : Run (does Show at ∷ does Concat at ∷ []) z e (b ∷ ty.Text ∷ s) (ty.Text ∷ s) =
      runs_does u f Labels Ticks Show at (one at Concat) z e (b ∷ ty.Text ∷ s) (ty.Text ∷ ty.Text ∷ s) (ty.Text ∷ s) refl refl (show-is b (ty.Text ∷ s) (not_void b kb))
      (runs_one u f Labels Ticks Concat at (z + 1) e (ty.Text ∷ ty.Text ∷ s) (ty.Text ∷ s) (omega (arith, ez)) refl refl (swap_two ty.Text ty.Text ty.Text s text-solid text-solid text-solid)) in
      let right : Run (cb ++ (does Show at ∷ does Concat at ∷ [])) r e (ty.Text ∷ s) (ty.Text ∷ s) = runs_then u f Labels Ticks cb (does Show at ∷ does Concat at ∷ []) r z e (ty.Text ∷ s) (b ∷ ty.Text ∷ s) (ty.Text ∷ s) rb last in
      let next : q + 1 ≡ r = eq in
      let shown_runs : Run (does Show at ∷ (cb ++ (does Show at ∷ does Concat at ∷ []))) q e (a ∷ s) (ty.Text ∷ s) =
      runs_does u f Labels Ticks Show at (cb ++ (does Show at ∷ does Concat at ∷ [])) q e (a ∷ s) (ty.Text ∷ s) (ty.Text ∷ s) refl refl (show-is a s (not_void a ka)) (subst (λ n. Run (cb ++ (does Show at ∷ does Concat at ∷ [])) n e (ty.Text ∷ s) (ty.Text ∷ s)) (sym next) right) in
      let all_runs : Run (ca ++ (does Show at ∷ (cb ++ (does Show at ∷ does Concat at ∷ [])))) p e s (ty.Text ∷ s) = runs_then u f Labels Ticks ca (does Show at ∷ (cb ++ (does Show at ∷ does Concat at ∷ []))) p q e s (a ∷ s) (ty.Text ∷ s) ra shown_runs in
      subst (λ x. Run (ca ++ (does Show at ∷ (cb ++ (does Show at ∷ does Concat at ∷ [])))) p e s (x ∷ s)) (sym (et ∙ h)) all_runs

-- What is there and known

pub found-is : (finding : Bool) (o : Option Ty) → is_missing finding o ≡ false → o ≡ Some (or_void o)
found-is finding None h = absurd (search (rules, h))
found-is finding (Some t) h = refl

pub some-is : (k : Bool) (o : Option Ty) → k ≡ true → (k && not (is_some o)) ≡ false → o ≡ Some (or_void o)
some-is k (Some t) p q = refl
some-is true None p q = absurd (search (rules, q))
some-is false None p q = absurd (search (rules, p))

pub common-is : (x y : Bool) (a : Ty) → x ≡ true → y ≡ true → (if x && y then a else ty.Void) ≡ a
common-is true true a p q = refl
common-is true false a p q = absurd (search (rules, q))
common-is false y a p q = absurd (search (rules, p))

pub grouped : (asked : Asked) → is_value asked ≡ true → is_value (no_whole asked) ≡ true
grouped Value v = refl
grouped (This t) v = refl
grouped Whole v = refl

pub sum-sizes : (sum : Sum) → between_size sum + behind_size sum ≡ sum_size sum
sum-sizes sums.Numbers = refl
sum-sizes sums.ItemAdded = refl
sum-sizes sums.ListsJoined = refl
sum-sizes sums.Texts = refl

-- Arguments

abbrev pub types_below : Trees → List Ty → List Ty
types_below none s = s
types_below (more e es) s = types_below es (type_of e ∷ s)

abbrev pub AllKnown : Trees → Type 0
AllKnown none = ⊤
AllKnown (more e es) = (is_known (type_of e) ≡ true) × AllKnown es

pub all-known : (es : Trees) → AreValuesWritten es → AllKnown es
all-known none w = tt
all-known (more e es) w = (known-type e w.0, all-known es w.1)

abbrev pub types_in : Trees → List Ty
types_in none = []
types_in (more e es) = type_of e ∷ types_in es

abbrev pub AreSolid : List Ty → Type 0
AreSolid [] = ⊤
AreSolid (t ∷ ts) = (is_void t ≡ false) × AreSolid ts

pub solid-append : (ts us : List Ty) → AreSolid ts → AreSolid us → AreSolid (ts ++ us)
solid-append [] us h k = k
solid-append (t ∷ ts) us h k = (h.0, solid-append ts us h.1 k)

pub reverse-step : (t : Ty) (ts : List Ty) → reverse (t ∷ ts) ≡ reverse ts ++ t ∷ []
reverse-step t ts = reverse-append (t ∷ []) ts

pub solid-reverse : (ts : List Ty) → AreSolid ts → AreSolid (reverse ts)
solid-reverse [] h = tt
solid-reverse (t ∷ ts) h = subst AreSolid (sym (reverse-step t ts)) (solid-append (reverse ts) (t ∷ []) (solid-reverse ts h.1) (h.0, tt))

pub all-taken : (ts s : List Ty) → AreSolid ts → all_taken ts (ts ++ s) ≡ Ok s
all-taken [] s h = refl
all-taken (t ∷ ts) s h = ap (λ r. r >>= all_taken ts) (taken-is t (ts ++ s) h.0) ∙ all-taken ts s h.1

pub below-is : (es : Trees) (s : List Ty) → types_below es s ≡ reverse (types_in es) ++ s
below-is none s = refl
below-is (more e es) s =
    below-is es (type_of e ∷ s) ∙ sym (append_assoc (reverse (types_in es)) (type_of e ∷ []) s) ∙ ap (λ x. x ++ s) (sym (reverse-step (type_of e) (types_in es)))

pub solid-types : (es : Trees) → AllKnown es → AreSolid (types_in es)
solid-types none k = tt
solid-types (more e es) k = (not_void (type_of e) k.0, solid-types es k.1)

-- arguments that don't differ from parameters have their types
pub arguments-are : (ts : List Ty) (es : Trees) → AllKnown es → AreAllKnown ts → any_argument_differs ts es ≡ false → length ts ≡ tree_count es → ts ≡ types_in es
arguments-are [] none k kt d c = refl
arguments-are [] (more e es) k kt d c = absurd (omega (arith, c))
arguments-are (t ∷ ts) none k kt d c = absurd (omega (arith, c))
arguments-are (t ∷ ts) (more e es) k kt d c =
    let r = or-none (differ t (type_of e)) (any_argument_differs ts es) d in
    let same : t ≡ type_of e = same-unless t (type_of e) kt.0 k.0 r.0 in
    let rest : ts ≡ types_in es = arguments-are ts es k.1 kt.1 r.1 (omega (arith, c)) in
    ap₂ (λ (x : Ty) (xs : List Ty). x ∷ xs) same rest

-- a call of a function with these parameters
pub call-row : (params : List Ty) (t : Ty) (es : Trees) (s : List Ty) → AllKnown es → params ≡ types_in es → is_void t ≡ false → swapped (reverse params) t (types_below es s) ≡ Ok (t ∷ s)
call-row params t es s k e v =
    ap (λ x. swapped (reverse x) t (types_below es s)) e
    ∙ ap (λ x. all_taken (reverse (types_in es)) x >>= giving t) (below-is es s)
    ∙ ap (λ r. r >>= giving t) (all-taken (reverse (types_in es)) s (solid-reverse (types_in es) (solid-types es k)))
    ∙ given-is t s v

-- Literals

pub list-of-by : (w : Ty-F Ty) (it t : Ty) → out-Ty it ≡ w → t ≡ list_of_at w it → is_known t ≡ true → (t ≡ ty.List it) × (is_known it ≡ true)
list-of-by Ty-F.Void it t o e k = absurd (let unknown : is_known ty.Void ≡ false = ap known_at ty.outs-Void in search (rules, sym unknown ∙ ap is_known (sym e) ∙ k))
list-of-by Ty-F.Bool it t o e k = (e, ap known_at o)
list-of-by Ty-F.Int it t o e k = (e, ap known_at o)
list-of-by Ty-F.Text it t o e k = (e, ap known_at o)
list-of-by (Ty-F.List u) it t o e k = (e, ap known_at o)
list-of-by (Ty-F.Map u) it t o e k = (e, ap known_at o)

-- a literal's type is that of lists of its items
pub list-of-is : (it t : Ty) → t ≡ list_of it → is_known t ≡ true → (t ≡ ty.List it) × (is_known it ≡ true)
list-of-is it t e k = list-of-by (out-Ty it) it t refl e k

pub item-again : (it t : Ty) → t ≡ ty.List it → or_void (list_item t) ≡ it
item-again it t e = ap (λ x. or_void (list_item x)) e ∙ ap (λ w. or_void (list_item_at w)) (ty.outs-List it)

pub among-fits : (asked : Asked) (es : Trees) → list_rule asked es ≡ None → any_differs (item_type (asked_list_item asked) (first_type es)) es ≡ false
among-fits asked none h = refl
among-fits asked (more e es) h = (when-none (any_differs (item_type (asked_list_item asked) (type_of e)) (more e es)) rule.WrongType None h).0

pub again : (n : ℕ) (t : Ty) (s : List Ty) → replicate n t ++ (t ∷ s) ≡ replicate (n + 1) t ++ s
again zero t s = refl
again (suc n) t s = let e : suc n + 1 ≡ suc (n + 1) = omega arith in ap (λ x. t ∷ x) (again n t s) ∙ ap (λ k. replicate k t ++ s) (sym e)

pub items-below : (it : Ty) (es : Trees) (s : List Ty) → is_known it ≡ true → AllKnown es → any_differs it es ≡ false → types_below es s ≡ replicate (tree_count es) it ++ s
items-below it none s k ks d = refl
items-below it (more e es) s k ks d =
    let r = or-none (differ it (type_of e)) (any_differs it es) d in
    let same : it ≡ type_of e = same-unless it (type_of e) k ks.0 r.0 in
    ap (λ x. types_below es (x ∷ s)) (sym same) ∙ items-below it es (it ∷ s) k ks.1 r.1 ∙ again (tree_count es) it s

pub solid-again : (n : ℕ) (t : Ty) → is_void t ≡ false → AreSolid (replicate n t)
solid-again zero t v = tt
solid-again (suc n) t v = (v, solid-again n t v)

pub value-choice : (b : Bool) (x y : Asked) → is_value x ≡ true → is_value y ≡ true → is_value (if b then x else y) ≡ true
value-choice true x y h k = h
value-choice false x y h k = k

pub unasked-value : (asked : Asked) → is_value (unasked asked) ≡ true
unasked-value Whole = refl
unasked-value Value = refl
unasked-value (This t) = value-choice (is_known t) Value (This t) refl refl

pub among-value : (es : Trees) (asked : Asked) → is_value (asked_among es asked) ≡ true
among-value none asked = unasked-value asked
among-value (more e es) asked = value-choice (is_open e) (asked_among es asked) (This (type_of e)) (among-value es asked) refl

pub items-value : (o : Option Ty) (besides : Asked) → is_value besides ≡ true → is_value (items_asked o besides) ≡ true
items-value None besides h = h
items-value (Some t) besides h = refl

-- Maps

pub map-of-by : (w : Ty-F Ty) (it t : Ty) → out-Ty it ≡ w → t ≡ map_of_at w it → is_known t ≡ true → (t ≡ ty.Map it) × (is_known it ≡ true)
map-of-by Ty-F.Void it t o e k = absurd (let unknown : is_known ty.Void ≡ false = ap known_at ty.outs-Void in search (rules, sym unknown ∙ ap is_known (sym e) ∙ k))
map-of-by Ty-F.Bool it t o e k = (e, ap known_at o)
map-of-by Ty-F.Int it t o e k = (e, ap known_at o)
map-of-by Ty-F.Text it t o e k = (e, ap known_at o)
map-of-by (Ty-F.List u) it t o e k = (e, ap known_at o)
map-of-by (Ty-F.Map u) it t o e k = (e, ap known_at o)

pub map-of-is : (it t : Ty) → t ≡ map_of it → is_known t ≡ true → (t ≡ ty.Map it) × (is_known it ≡ true)
map-of-is it t e k = map-of-by (out-Ty it) it t refl e k

pub entry-again : (it t : Ty) → t ≡ ty.Map it → or_void (map_item t) ≡ it
entry-again it t e = ap (λ x. or_void (map_item x)) e ∙ ap (λ w. or_void (map_item_at w)) (ty.outs-Map it)

pub pairs-fit : (asked : Asked) (ps : TreePairs) → map_rule asked ps ≡ None → any_pair_differs (item_type (asked_map_item asked) (first_value_type ps)) ps ≡ false
pairs-fit asked no_pairs h = refl
pairs-fit asked (more_pairs k v ps) h = (when-none (any_pair_differs (item_type (asked_map_item asked) (type_of v)) (more_pairs k v ps)) rule.WrongType None h).0

abbrev pub pairs_below : TreePairs → List Ty → List Ty
pairs_below no_pairs s = s
pairs_below (more_pairs k v ps) s = pairs_below ps (type_of v ∷ ty.Text ∷ s)

abbrev pub AllPairsKnown : TreePairs → Type 0
AllPairsKnown no_pairs = ⊤
AllPairsKnown (more_pairs k v ps) = (is_known (type_of k) ≡ true) × (is_known (type_of v) ≡ true) × AllPairsKnown ps

pub all-pairs-known : (ps : TreePairs) → ArePairsWritten ps → AllPairsKnown ps
all-pairs-known no_pairs w = tt
all-pairs-known (more_pairs k v ps) w = (known-type k w.0, known-type v w.1, all-pairs-known ps w.2)

-- so many keys and values
abbrev pub pair_tys : ℕ → Ty → List Ty
pair_tys zero t = []
pair_tys (suc n) t = t ∷ ty.Text ∷ pair_tys n t

pub pair-again : (n : ℕ) (t : Ty) (s : List Ty) → pair_tys n t ++ (t ∷ ty.Text ∷ s) ≡ pair_tys (n + 1) t ++ s
pair-again zero t s = refl
pair-again (suc n) t s = let e : suc n + 1 ≡ suc (n + 1) = omega arith in ap (λ x. t ∷ ty.Text ∷ x) (pair-again n t s) ∙ ap (λ k. pair_tys k t ++ s) (sym e)

pub pairs-are : (it : Ty) (ps : TreePairs) (s : List Ty) → is_known it ≡ true → AllPairsKnown ps → any_pair_differs it ps ≡ false → pairs_below ps s ≡ pair_tys (pair_count ps) it ++ s
pairs-are it no_pairs s k ks d = refl
pairs-are it (more_pairs x v ps) s k ks d =
    let r = or-none (differ ty.Text (type_of x) || differ it (type_of v)) (any_pair_differs it ps) d in
    let r2 = or-none (differ ty.Text (type_of x)) (differ it (type_of v)) r.0 in
    let same : it ≡ type_of v = same-unless it (type_of v) k ks.1 r2.1 in
    ap (λ y. pairs_below ps (y ∷ ty.Text ∷ s)) (sym same) ∙ pairs-are it ps (it ∷ ty.Text ∷ s) k ks.2 r.1 ∙ pair-again (pair_count ps) it s

pub pairs-taken : (n : ℕ) (t : Ty) (s : List Ty) → is_void t ≡ false → pairs_taken n t (pair_tys n t ++ s) ≡ Ok s
pairs-taken zero t s v = refl
pairs-taken (suc n) t s v =
    ap (λ r. (r >>= taken ty.Text) >>= pairs_taken n t) (taken-is t (ty.Text ∷ (pair_tys n t ++ s)) v) ∙ ap (λ r. r >>= pairs_taken n t) (taken-is ty.Text (pair_tys n t ++ s) text-solid) ∙ pairs-taken n t s v

pub among-values-value : (ps : TreePairs) (asked : Asked) → is_value (asked_among_values ps asked) ≡ true
among-values-value no_pairs asked = unasked-value asked
among-values-value (more_pairs k v ps) asked = value-choice (is_open v) (asked_among_values ps asked) (This (type_of v)) (among-values-value ps asked) refl

-- a key is a text
pub keys-are : (it : Ty) (k v : Tree) (ps : TreePairs) → is_known (type_of k) ≡ true → any_pair_differs it (more_pairs k v ps) ≡ false → ty.Text ≡ type_of k
keys-are it k v ps kk d = same-unless ty.Text (type_of k) text-known kk (or-none (differ ty.Text (type_of k)) (differ it (type_of v)) (or-none (differ ty.Text (type_of k) || differ it (type_of v)) (any_pair_differs it ps) d).0).0

-- Files

pub files-by : (x y : Bool) (t : Ty) → same_ty t ty.Text ≡ x → same_ty t (ty.List ty.Text) ≡ y → (x || y) ≡ true → (x ≡ false) → t ≡ ty.List ty.Text
files-by x y t p q h e = same_ty-true t (ty.List ty.Text) (q ∙ or-second x y h e)
  where
    or-second : (x y : Bool) → (x || y) ≡ true → x ≡ false → y ≡ true
    or-second true y h e = absurd (cc)
    or-second false y h e = h

pub counted : (n m : ℕ) → not (n == m) ≡ false → n ≡ m
counted n m h = grind (arith, common_steps)

-- what the rule of a call says where it isn't broken
pub record IsCalled (void : Bool) (h : Head) (es : Trees) : Type 0 where
  pub arguments : any_argument_differs h.parameters es ≡ false
  pub count : length h.parameters ≡ tree_count es

pub called : (void : Bool) (h : Head) (es : Trees) → call_rule void (Some h) es ≡ None → IsCalled void h es
called void h es q =
    let last : Option Rule = when (void && not (is_known h.result)) rule.VoidValue None in
    let q1 = when-none (any_argument_differs h.parameters es) rule.WrongType (when (not (length h.parameters == tree_count es)) rule.WrongCount last) q in
    let q2 = when-none (not (length h.parameters == tree_count es)) rule.WrongCount last q1.1 in
    record { arguments = q1.0; count = counted (length h.parameters) (tree_count es) q2.0 }
