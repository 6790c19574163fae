-- An expression is judged alike under names that agree on each variable that isn't missing.
use Rattle.std.proofs.Common.{◌≡◌, ℕ, Bool, true, false, not, ◌&&◌, ◌||◌, List, [], ◌∷◌, Option, Some, None, is_some, refl, ap, sym, ◌∙◌, is_none, if◌then◌else◌, rules}
use Rattle.std.specs.List.{list_any}
use Rattle.bds_value.specs.declared.value.At.{At}
use Rattle.bds_value.specs.declared.value.Ty.{Ty}
use Rattle.bds_value.specs.declared.value.Ty.TheVariants as ty
use Rattle.bds_value.specs.Types.{list_item, map_item}
use Rattle.bds_tree.specs.declared.token.Piece.{Piece}
use Rattle.bds_tree.specs.declared.token.Piece.TheVariants as piece
use Rattle.bds_tree.specs.declared.token.Index.TheVariants as index
use Rattle.bds_tree.specs.declared.token.KeyName.TheVariants as key_name
use Rattle.bds_tree.specs.Tree.{Tree, FormTree, Trees, TreePairs, node, number, text, truth, name, call, group, list, mapping, item, key, method, prefix, binary, choice, dependency, none, more, no_pairs, more_pairs, type_of}
use Rattle.bds_check_names.specs.declared.names.Names.{Names}
use Rattle.bds_check_names.specs.declared.names.Head.{Head}
use Rattle.bds_check_names.specs.declared.names.Variable.{Variable}
use Rattle.bds_check_names.specs.declared.names.Asked.{Asked}
use Rattle.bds_check_names.specs.declared.names.Asked.TheVariants.{Value, This}
use Rattle.bds_check_rules.specs.declared.rules.Rule.{Rule}
use Rattle.bds_check_rules.specs.declared.rules.Rule.TheVariants as rule
use Rattle.bds_check_names.specs.Types.{is_known, differ, or_void}
use Rattle.bds_check_names.specs.Scopes.{found, type_named, is_missing, function_named}
use Rattle.bds_check_names.specs.Rows.{row_of}
use Rattle.bds_check_rules.specs.Pieces.{when, any_name, is_wrong_piece, is_list_named, is_map_named, text_rule}
use Rattle.bds_check_rules.specs.Breaks.{breaks, or_deep, name_rule}
use Rattle.bds_check_rules.specs.Typing.{type_at, asked_list_item, asked_map_item, count}
use Rattle.bds_check_typing.specs.Walk.{Judged, JudgedForm, JudgedTrees, JudgedPairs, first, placed, close, also, also_pair, judge, judge_form, judge_items, judge_values, judge_arguments, judge_behind, beside, value_beside, asked_beside, items_asked, no_whole, is_open, parameters_of, taken_by, with_one, with_two, with_three, with_all, with_pairs, with_receiver}
use Rattle.bds_check_typing.proofs.WellTypedLaws.{first-left, first-right, placed-none}

-- a variable that isn't missing in the first has the same type in the second
abbrev pub Agree : Names → Names → Type 0
Agree a b = (x : List ℕ) → is_missing a.finding (found x a) ≡ false → (found x a ≡ found x b) × (is_missing b.finding (found x b) ≡ false)

pub when-none : (b : Bool) (r : Rule) (others : Option Rule) → when b r others ≡ None → (b ≡ false) × (others ≡ None)
when-none true r others q = absurd (search (rules, q))
when-none false r others q = (refl, q)

pub or-deep-none : (r : Option Rule) (t : Ty) → or_deep r t ≡ None → (r ≡ None) × (or_deep None t ≡ None)
or-deep-none None t q = (refl, q)
or-deep-none (Some r) t q = absurd (search (rules, q))

pub or-none : (a b : Bool) → (a || b) ≡ false → (a ≡ false) × (b ≡ false)
or-none true b q = absurd (search (rules, q))
or-none false b q = (refl, q)

guarded : (b c m n d e : Bool) → b ≡ c → (m ≡ false → (n ≡ false) × (d ≡ e)) → (b && m) ≡ false → ((c && n) ≡ false) × ((b && d) ≡ (c && e))
guarded true true m n d e s h q = h q
guarded true false m n d e s h q = absurd (search (rules, s))
guarded false true m n d e s h q = absurd (search (rules, s))
guarded false false m n d e s h q = (refl, refl)

both-judged : (make : Tree → Tree → FormTree) (a b c d : Judged) → (a.broken ≡ None → a ≡ c) → (b.broken ≡ None → b ≡ d) → first a.broken b.broken ≡ None → with_two make a b ≡ with_two make c d
both-judged make a b c d h k q = ap (λ (x : Judged). with_two make x b) (h (first-left a.broken b.broken q)) ∙ ap (with_two make c) (k (first-right a.broken b.broken q))

three-judged : (a b c d e f : Judged) → (a.broken ≡ None → a ≡ d) → (b.broken ≡ None → b ≡ e) → (c.broken ≡ None → c ≡ f) → first a.broken (first b.broken c.broken) ≡ None → with_three choice a b c ≡ with_three choice d e f
three-judged a b c d e f h k l q =
    let rest : first b.broken c.broken ≡ None = first-right a.broken (first b.broken c.broken) q in
    ap (λ (x : Judged). with_three choice x b c) (h (first-left a.broken (first b.broken c.broken) q))
    ∙ ap (λ (x : Judged). with_three choice d x c) (k (first-left b.broken c.broken rest))
    ∙ ap (with_three choice d e) (l (first-right b.broken c.broken rest))

also-judged : (a b : Judged) (xs ys : JudgedTrees) → (a.broken ≡ None → a ≡ b) → (xs.broken ≡ None → xs ≡ ys) → first a.broken xs.broken ≡ None → also a xs ≡ also b ys
also-judged a b xs ys h k q = ap (λ (x : Judged). also x xs) (h (first-left a.broken xs.broken q)) ∙ ap (also b) (k (first-right a.broken xs.broken q))

pair-judged : (a b c d : Judged) (ps qs : JudgedPairs) → (a.broken ≡ None → a ≡ c) → (b.broken ≡ None → b ≡ d) → (ps.broken ≡ None → ps ≡ qs) → first a.broken (first b.broken ps.broken) ≡ None → also_pair a b ps ≡ also_pair c d qs
pair-judged a b c d ps qs h k l q =
    let rest : first b.broken ps.broken ≡ None = first-right a.broken (first b.broken ps.broken) q in
    ap (λ (x : Judged). also_pair x b ps) (h (first-left a.broken (first b.broken ps.broken) q))
    ∙ ap (λ (x : Judged). also_pair c x ps) (k (first-left b.broken ps.broken rest))
    ∙ ap (also_pair c d) (l (first-right b.broken ps.broken rest))

-- either way
trees-choice : (b : Bool) (x y u v : JudgedTrees) → (x.broken ≡ None → x ≡ u) → (y.broken ≡ None → y ≡ v) → (if b then x else y).broken ≡ None → (if b then x else y) ≡ (if b then u else v)
trees-choice true x y u v h k q = h q
trees-choice false x y u v h k q = k q

pairs-choice : (b : Bool) (x y u v : JudgedPairs) → (x.broken ≡ None → x ≡ u) → (y.broken ≡ None → y ≡ v) → (if b then x else y).broken ≡ None → (if b then x else y) ≡ (if b then u else v)
pairs-choice true x y u v h k q = h q
pairs-choice false x y u v h k q = k q

-- what is asked of items, where an item that isn't open is judged by itself
beside-choice : (open_here : Bool) (x y : JudgedTrees) (a b c d : Asked) → (y.broken ≡ None → a ≡ b) → (x.broken ≡ None → c ≡ d) → (if true && not open_here then x else y).broken ≡ None → (if open_here then a else c) ≡ (if open_here then b else d)
beside-choice true x y a b c d h k q = h q
beside-choice false x y a b c d h k q = k q

value-beside-choice : (open_here : Bool) (x y : JudgedPairs) (a b c d : Asked) → (y.broken ≡ None → a ≡ b) → (x.broken ≡ None → c ≡ d) → (if true && not open_here then x else y).broken ≡ None → (if open_here then a else c) ≡ (if open_here then b else d)
value-beside-choice true x y a b c d h k q = h q
value-beside-choice false x y a b c d h k q = k q

module _ (heads : List Head) (globals others : List Variable) (locals inner : List Variable) (finding found_before : Bool) where
  abbrev these : Names
  these = record { functions = heads; globals = globals; locals = locals; finding = finding }

  abbrev those : Names
  those = record { functions = heads; globals = others; locals = inner; finding = found_before }

  module _ (agree : Agree these those) where
    name-agrees : (x : List ℕ) (asked : Asked) → breaks these asked (name x) ≡ None → (breaks those asked (name x) ≡ None) × (type_named x these ≡ type_named x those)
    name-agrees x asked q =
        let parts : (name_rule these x ≡ None) × (or_deep None (type_named x these) ≡ None) = or-deep-none (name_rule these x) (type_named x these) q in
        let a : (found x these ≡ found x those) × (is_missing found_before (found x those) ≡ false) = agree x (when-none (is_missing finding (found x these)) rule.UnknownName None parts.0).0 in
        let same : type_named x these ≡ type_named x those = ap or_void a.0 in
        (ap (λ (b : Bool). or_deep (when b rule.UnknownName None) (type_named x those)) a.1 ∙ ap (or_deep None) (sym same) ∙ parts.1, same)

    abbrev PieceAgrees : Piece → Type 0
    PieceAgrees p = (any_name (is_missing found_before) those p ≡ false) × (is_wrong_piece these p ≡ is_wrong_piece those p)

    piece-agrees : (p : Piece) → any_name (is_missing finding) these p ≡ false → PieceAgrees p
    piece-agrees (piece.Plain t) q = (refl, refl)
    piece-agrees (piece.Name x) q = ((agree x q).1, refl)
    piece-agrees (piece.Item x (index.Number n)) q = ((agree x q).1, refl)
    piece-agrees (piece.Item x (index.Name y)) q =
        let parts : (is_missing finding (found x these) ≡ false) × ((is_list_named x these && is_missing finding (found y these)) ≡ false) = or-none (is_missing finding (found x these)) (is_list_named x these && is_missing finding (found y these)) q in
        let a : (found x these ≡ found x those) × (is_missing found_before (found x those) ≡ false) = agree x parts.0 in
        let rest : ((is_list_named x those && is_missing found_before (found y those)) ≡ false) × ((is_list_named x these && differ ty.Int (type_named y these)) ≡ (is_list_named x those && differ ty.Int (type_named y those))) =
        guarded (is_list_named x these) (is_list_named x those) (is_missing finding (found y these)) (is_missing found_before (found y those)) (differ ty.Int (type_named y these)) (differ ty.Int (type_named y those))
        (ap (λ (t : Option Ty). is_some (list_item (or_void t))) a.0) (λ e. ((agree y e).1, ap (λ (t : Option Ty). differ ty.Int (or_void t)) (agree y e).0)) parts.1 in
        (ap (λ (b : Bool). b || (is_list_named x those && is_missing found_before (found y those))) a.1 ∙ rest.0, rest.1)
    piece-agrees (piece.Key x (key_name.Text t)) q = ((agree x q).1, refl)
    piece-agrees (piece.Key x (key_name.Name y)) q =
        let parts : (is_missing finding (found x these) ≡ false) × ((is_map_named x these && is_missing finding (found y these)) ≡ false) = or-none (is_missing finding (found x these)) (is_map_named x these && is_missing finding (found y these)) q in
        let a : (found x these ≡ found x those) × (is_missing found_before (found x those) ≡ false) = agree x parts.0 in
        let rest : ((is_map_named x those && is_missing found_before (found y those)) ≡ false) × ((is_map_named x these && differ ty.Text (type_named y these)) ≡ (is_map_named x those && differ ty.Text (type_named y those))) =
        guarded (is_map_named x these) (is_map_named x those) (is_missing finding (found y these)) (is_missing found_before (found y those)) (differ ty.Text (type_named y these)) (differ ty.Text (type_named y those))
        (ap (λ (t : Option Ty). is_some (map_item (or_void t))) a.0) (λ e. ((agree y e).1, ap (λ (t : Option Ty). differ ty.Text (or_void t)) (agree y e).0)) parts.1 in
        (ap (λ (b : Bool). b || (is_map_named x those && is_missing found_before (found y those))) a.1 ∙ rest.0, rest.1)

    pieces-agree : (ps : List Piece) → list_any (any_name (is_missing finding) these) ps ≡ false → (list_any (any_name (is_missing found_before) those) ps ≡ false) × (list_any (is_wrong_piece these) ps ≡ list_any (is_wrong_piece those) ps)
    pieces-agree [] q = (refl, refl)
    pieces-agree (p ∷ ps) q =
        let parts : (any_name (is_missing finding) these p ≡ false) × (list_any (any_name (is_missing finding) these) ps ≡ false) = or-none (any_name (is_missing finding) these p) (list_any (any_name (is_missing finding) these) ps) q in
        let a : PieceAgrees p = piece-agrees p parts.0 in
        let b : (list_any (any_name (is_missing found_before) those) ps ≡ false) × (list_any (is_wrong_piece these) ps ≡ list_any (is_wrong_piece those) ps) = pieces-agree ps parts.1 in (
          ap (λ (c : Bool). c || list_any (any_name (is_missing found_before) those) ps) a.0 ∙ b.0,
          ap (λ (c : Bool). c || list_any (is_wrong_piece these) ps) a.1 ∙ ap (λ (c : Bool). is_wrong_piece those p || c) b.1,
        )

    text-agrees : (ps : List Piece) (asked : Asked) → breaks these asked (text ps) ≡ None → breaks those asked (text ps) ≡ None
    text-agrees ps asked q =
        let parts : (text_rule these ps ≡ None) × (or_deep None ty.Text ≡ None) = or-deep-none (text_rule these ps) ty.Text q in
        let rest : Option Rule = when (list_any (is_wrong_piece these) ps) rule.WrongType None in
        let names : (list_any (any_name (is_missing finding) these) ps ≡ false) × (rest ≡ None) = when-none (list_any (any_name (is_missing finding) these) ps) rule.UnknownName rest parts.0 in
        let a : (list_any (any_name (is_missing found_before) those) ps ≡ false) × (list_any (is_wrong_piece these) ps ≡ list_any (is_wrong_piece those) ps) = pieces-agree ps names.0 in
        ap (λ (b : Bool). or_deep (when b rule.UnknownName (when (list_any (is_wrong_piece those) ps) rule.WrongType None)) ty.Text) a.0
        ∙ ap (λ (b : Bool). or_deep (when b rule.WrongType None) ty.Text) (sym a.1)
        ∙ ap (λ (r : Option Rule). or_deep r ty.Text) names.1
        ∙ parts.1

    form-agrees : (f : FormTree) (asked : Asked) → breaks these asked f ≡ None → (breaks those asked f ≡ None) × (type_at these asked f ≡ type_at those asked f)
    form-agrees (number v) asked q = (q, refl)
    form-agrees (text ps) asked q = (text-agrees ps asked q, refl)
    form-agrees (truth b) asked q = (q, refl)
    form-agrees (name x) asked q = name-agrees x asked q
    form-agrees (call f es) asked q = (q, refl)
    form-agrees (group e) asked q = (q, refl)
    form-agrees (list es) asked q = (q, refl)
    form-agrees (mapping ps) asked q = (q, refl)
    form-agrees (item a i) asked q = (q, refl)
    form-agrees (key a k) asked q = (q, refl)
    form-agrees (method a m es) asked q = (q, refl)
    form-agrees (prefix o a) asked q = (q, refl)
    form-agrees (binary a o b) asked q = (q, refl)
    form-agrees (choice c a b) asked q = (q, refl)
    form-agrees (dependency a b) asked q = (q, refl)

    close-agrees : (at : At) (asked : Asked) (j k : JudgedForm) → (j.broken ≡ None → j ≡ k) → first j.broken (placed at (breaks these asked j.form)) ≡ None → close at these asked j ≡ close at those asked k
    close-agrees at asked j k h q =
        let unbroken : breaks these asked j.form ≡ None = placed-none at (breaks these asked j.form) (first-right j.broken (placed at (breaks these asked j.form)) q) in
        let a : (breaks those asked j.form ≡ None) × (type_at these asked j.form ≡ type_at those asked j.form) = form-agrees j.form asked unbroken in
        ap (λ (t : Ty). record { tree = node at t j.form; broken = first j.broken (placed at (breaks these asked j.form)) }) a.1
        ∙ ap (λ (r : Option Rule). record { tree = node at (type_at those asked j.form) j.form; broken = first j.broken (placed at r) }) (unbroken ∙ sym a.0)
        ∙ ap (close at those asked) (h (first-left j.broken (placed at (breaks these asked j.form)) q))

    list-agrees : (es : Trees) (asked : Asked) (o : Option Ty) →
        ((lone : Bool) (given : Asked) → (judge_items es these lone given).broken ≡ None → judge_items es these lone given ≡ judge_items es those lone given) →
        ((given : Asked) → (judge_items es these true given).broken ≡ None → beside es these asked ≡ beside es those asked) →
        (judge_items es these (is_none o) (items_asked o (beside es these asked))).broken ≡ None → judge_items es these (is_none o) (items_asked o (beside es these asked)) ≡ judge_items es those (is_none o) (items_asked o (beside es those asked))
    list-agrees es asked None h k q = h true (beside es these asked) q ∙ ap (judge_items es those true) (k (beside es these asked) q)
    list-agrees es asked (Some t) h k q = h false (This t) q

    map-agrees : (ps : TreePairs) (asked : Asked) (o : Option Ty) →
        ((lone : Bool) (given : Asked) → (judge_values ps these lone given).broken ≡ None → judge_values ps these lone given ≡ judge_values ps those lone given) →
        ((given : Asked) → (judge_values ps these true given).broken ≡ None → value_beside ps these asked ≡ value_beside ps those asked) →
        (judge_values ps these (is_none o) (items_asked o (value_beside ps these asked))).broken ≡ None → judge_values ps these (is_none o) (items_asked o (value_beside ps these asked)) ≡ judge_values ps those (is_none o) (items_asked o (value_beside ps those asked))
    map-agrees ps asked None h k q = h true (value_beside ps these asked) q ∙ ap (judge_values ps those true) (k (value_beside ps these asked) q)
    map-agrees ps asked (Some t) h k q = h false (This t) q

    mutual
      pub judged : (e : Tree) (asked : Asked) → (judge e these asked).broken ≡ None → judge e these asked ≡ judge e those asked
      judged (node at t f) asked q = close-agrees at asked (judge_form f these asked) (judge_form f those asked) (λ h. judged-form f asked h) q

      judged-form : (f : FormTree) (asked : Asked) → (judge_form f these asked).broken ≡ None → judge_form f these asked ≡ judge_form f those asked
      judged-form (number v) asked q = refl
      judged-form (text ps) asked q = refl
      judged-form (truth b) asked q = refl
      judged-form (name x) asked q = refl
      judged-form (call f es) asked q = ap (with_all (call f)) (judged-arguments es (parameters_of (function_named f heads)) q)
      judged-form (group e) asked q = ap (with_one group) (judged e (no_whole asked) q)
      judged-form (list es) asked q = ap (with_all list) (list-agrees es asked (asked_list_item asked) (λ lone given h. judged-items es lone given h) (λ given h. judged-beside es asked given h) q)
      judged-form (mapping ps) asked q = ap with_pairs (map-agrees ps asked (asked_map_item asked) (λ lone given h. judged-values ps lone given h) (λ given h. judged-value-beside ps asked given h) q)
      judged-form (item a i) asked q = both-judged item (judge a these Value) (judge i these Value) (judge a those Value) (judge i those Value) (λ h. judged a Value h) (λ h. judged i Value h) q
      judged-form (key a k) asked q = both-judged key (judge a these Value) (judge k these Value) (judge a those Value) (judge k those Value) (λ h. judged a Value h) (λ h. judged k Value h) q
      judged-form (method a m es) asked q =
          let receiver : Judged = judge a these Value in
          let t : Ty = type_of receiver.tree in
          let ts : List Ty = taken_by (row_of t m (count es)) in
          let items : judge_behind es these t m ≡ judge_behind es those t m =
          trees-choice (is_known t) (judge_arguments es these ts) (judge_items es these false (This ty.Void)) (judge_arguments es those ts) (judge_items es those false (This ty.Void))
          (λ h. judged-arguments es ts h) (λ h. judged-items es false (This ty.Void) h) (first-right receiver.broken (judge_behind es these t m).broken q) in
          ap (λ (js : JudgedTrees). with_receiver m receiver js) items
          ∙ ap (λ (j : Judged). with_receiver m j (judge_behind es those (type_of j.tree) m)) (judged a Value (first-left receiver.broken (judge_behind es these t m).broken q))
      judged-form (prefix o a) asked q = ap (with_one (prefix o)) (judged a Value q)
      judged-form (binary a o b) asked q = both-judged (λ x y. binary x o y) (judge a these Value) (judge b these Value) (judge a those Value) (judge b those Value) (λ h. judged a Value h) (λ h. judged b Value h) q
      judged-form (choice c a b) asked q = three-judged (judge c these Value) (judge a these Value) (judge b these Value) (judge c those Value) (judge a those Value) (judge b those Value) (λ h. judged c Value h) (λ h. judged a Value h) (λ h. judged b Value h) q
      judged-form (dependency a b) asked q = both-judged dependency (judge a these Value) (judge b these Value) (judge a those Value) (judge b those Value) (λ h. judged a Value h) (λ h. judged b Value h) q

      pub judged-arguments : (es : Trees) (ts : List Ty) → (judge_arguments es these ts).broken ≡ None → judge_arguments es these ts ≡ judge_arguments es those ts
      judged-arguments none ts q = refl
      judged-arguments (more e es) [] q = also-judged (judge e these Value) (judge e those Value) (judge_arguments es these []) (judge_arguments es those []) (λ h. judged e Value h) (λ h. judged-arguments es [] h) q
      judged-arguments (more e es) (t ∷ ts) q = also-judged (judge e these (This t)) (judge e those (This t)) (judge_arguments es these ts) (judge_arguments es those ts) (λ h. judged e (This t) h) (λ h. judged-arguments es ts h) q

      judged-items : (es : Trees) (lone : Bool) (asked : Asked) → (judge_items es these lone asked).broken ≡ None → judge_items es these lone asked ≡ judge_items es those lone asked
      judged-items none lone asked q = refl
      judged-items (more e es) lone asked q =
          trees-choice (lone && not (is_open e))
          (also (judge e these Value) (judge_items es these false asked)) (also (judge e these asked) (judge_items es these lone asked))
          (also (judge e those Value) (judge_items es those false asked)) (also (judge e those asked) (judge_items es those lone asked))
          (λ h. also-judged (judge e these Value) (judge e those Value) (judge_items es these false asked) (judge_items es those false asked) (λ r. judged e Value r) (λ r. judged-items es false asked r) h)
          (λ h. also-judged (judge e these asked) (judge e those asked) (judge_items es these lone asked) (judge_items es those lone asked) (λ r. judged e asked r) (λ r. judged-items es lone asked r) h)
          q

      judged-beside : (es : Trees) (asked given : Asked) → (judge_items es these true given).broken ≡ None → beside es these asked ≡ beside es those asked
      judged-beside none asked given q = refl
      judged-beside (more e es) asked given q =
          beside-choice (is_open e) (also (judge e these Value) (judge_items es these false given)) (also (judge e these given) (judge_items es these true given))
          (beside es these asked) (beside es those asked) (asked_beside (type_of (judge e these Value).tree) (judge e these Value).broken) (asked_beside (type_of (judge e those Value).tree) (judge e those Value).broken)
          (λ h. judged-beside es asked given (first-right (judge e these given).broken (judge_items es these true given).broken h))
          (λ h. ap (λ (j : Judged). asked_beside (type_of j.tree) j.broken) (judged e Value (first-left (judge e these Value).broken (judge_items es these false given).broken h)))
          q

      judged-values : (ps : TreePairs) (lone : Bool) (asked : Asked) → (judge_values ps these lone asked).broken ≡ None → judge_values ps these lone asked ≡ judge_values ps those lone asked
      judged-values no_pairs lone asked q = refl
      judged-values (more_pairs k v ps) lone asked q =
          pairs-choice (lone && not (is_open v))
          (also_pair (judge k these Value) (judge v these Value) (judge_values ps these false asked)) (also_pair (judge k these Value) (judge v these asked) (judge_values ps these lone asked))
          (also_pair (judge k those Value) (judge v those Value) (judge_values ps those false asked)) (also_pair (judge k those Value) (judge v those asked) (judge_values ps those lone asked))
          (λ h. pair-judged (judge k these Value) (judge v these Value) (judge k those Value) (judge v those Value) (judge_values ps these false asked) (judge_values ps those false asked) (λ r. judged k Value r) (λ r. judged v Value r) (λ r. judged-values ps false asked r) h)
          (λ h. pair-judged (judge k these Value) (judge v these asked) (judge k those Value) (judge v those asked) (judge_values ps these lone asked) (judge_values ps those lone asked) (λ r. judged k Value r) (λ r. judged v asked r) (λ r. judged-values ps lone asked r) h)
          q

      judged-value-beside : (ps : TreePairs) (asked given : Asked) → (judge_values ps these true given).broken ≡ None → value_beside ps these asked ≡ value_beside ps those asked
      judged-value-beside no_pairs asked given q = refl
      judged-value-beside (more_pairs k v ps) asked given q =
          value-beside-choice (is_open v) (also_pair (judge k these Value) (judge v these Value) (judge_values ps these false given)) (also_pair (judge k these Value) (judge v these given) (judge_values ps these true given))
          (value_beside ps these asked) (value_beside ps those asked) (asked_beside (type_of (judge v these Value).tree) (judge v these Value).broken) (asked_beside (type_of (judge v those Value).tree) (judge v those Value).broken)
          (λ h. judged-value-beside ps asked given (first-right (judge v these given).broken (judge_values ps these true given).broken (first-right (judge k these Value).broken (first (judge v these given).broken (judge_values ps these true given).broken) h)))
          (λ h. ap (λ (j : Judged). asked_beside (type_of j.tree) j.broken) (judged v Value (first-left (judge v these Value).broken (judge_values ps these false given).broken (first-right (judge k these Value).broken (first (judge v these Value).broken (judge_values ps these false given).broken) h))))
          q
