-- What is spelled is read: each legal tree that is spelled at the front, with no sign behind it that would continue it.
use Rattle.std.proofs.Common.{◌≡◌, ℕ, ℤ, zero, suc, ◌+◌, ◌<◌, ◌≤◌, Bool, true, false, List, [], ◌∷◌, length, Some, None, refl, sym, ap, ◌∙◌, subst, arith, le_refl}
use Rattle.std.specs.Prelude.{if◌then◌else◌, nat_lt}
use Rattle.std.proofs.lemmas.Bool.{le-ltb, lt-ltb}
use Rattle.bds_value.specs.Options.{◌>>=◌}
use Rattle.bds_tree.specs.declared.token.Word.{Word}
use Rattle.bds_tree.specs.declared.token.Word.TheVariants as w
use Rattle.bds_tree.specs.declared.token.Token.{Token}
use Rattle.bds_tree.specs.declared.token.Piece.{Piece}
use Rattle.bds_tree.specs.declared.expr.BinaryOp.{BinaryOp}
use Rattle.bds_tree.specs.declared.expr.PrefixOp.{PrefixOp}
use Rattle.bds_tree.specs.Tree.{Tree, FormTree, Trees, TreePairs, node, number, text, truth, name, call, group, list, mapping, item, key, method, prefix, binary, choice, dependency, none, more, no_pairs, more_pairs, line_of}
use Rattle.bds_tree.specs.Shape.{level_of, form_level, form_follow, level, follow, Shaped, IsShapedForm, AreShaped, ArePairsShaped, height, form_height, heights, pair_heights}
use Rattle.bds_tree.specs.Spelling.{word_of_bool, sign_of, sign_before}
use Rattle.bds_parse_expr.specs.Spells.{token, Sign, Starts, Spells, SpellsForm, SpellsAll, SpellsTail, SpellsPairs, SpellsPairTail}
use Rattle.bds_parse_expr.specs.Reading.{fresh, First, begins_none, first_of, Next, joins, chooses, depends, indexes, keys, asks, stops, next_of, strength, ahead, is_open_round, is_close_round, is_close_square, is_close_value, is_colon, is_arrow, behind, name_at, Sub, tail_of, members, pair, pair_tail_of, pairs, named, plain, front, low, join, climb, expression}
use Rattle.bds_parse_expr.proofs.Steps.{if_true, if_false, bind_some, level_follow, follow_level, level_one, next_sign, first_sign, first_truth, not_open, is_fresh, sign_shorter, sign_ahead, shorter, all_shorter, begins, starts, one_line}

-- the loop stops before a sign that binds less
pub stop : (most : ℕ) (sub : Sub) (n least : ℕ) (e : Tree) (rest : List Token) → ahead rest < least → climb most sub n least e rest ≡ Some (e, rest)
unfolding climb
stop most sub zero least e [] h = refl
stop most sub (suc n) least e [] h = refl
stop most sub zero least e (t ∷ ts) h = if_true _ _ _ _ (lt-ltb _ _ h) refl
stop most sub (suc n) least e (t ∷ ts) h = if_true _ _ _ _ (lt-ltb _ _ h) refl

-- the loop takes a sign
take_sign : (most : ℕ) (sub : Sub) (least : ℕ) (e : Tree) (word : Word) (k : Next) (a b : List Token) (x : Tree × List Token) →
    next_of word ≡ k → Sign word a b → least ≤ strength k → strength k ≤ follow e →
    (y : Tree × List Token) → join most sub e k b ≡ Some y →
    ((n : ℕ) → length b ≤ n → climb most sub n least y.0 y.1 ≡ Some x) →
    (n : ℕ) → length a ≤ n → climb most sub n least e a ≡ Some x
unfolding climb
take_sign most sub least e word k a b x same s lo hi y j h zero le = absurd (omega (arith, ap length s.1))
take_sign most sub least e word k a b x same s lo hi y j h (suc n) le =
    let le2 : length b ≤ n = omega (arith, ap length s.1) in
    subst (λ u. climb most sub (suc n) least e u ≡ Some x) (sym s.1)
    (subst (λ q. (if nat_lt (strength q) least then Some (e, token s.0 word ∷ b) else (if nat_lt (follow e) (strength q) then None else (join most sub e q b >>= λ p. climb most sub n least p.0 p.1))) ≡ Some x) (sym same)
    (if_false _ _ _ _ (le-ltb _ _ lo) (if_false _ _ _ _ (le-ltb _ _ hi) (bind_some _ y _ _ j (h n le2)))))

fits : (most : ℕ) (e : Tree) (ts : List Token) → height e ≤ most → low most e ts ≡ Some (e, ts)
fits most e ts le = if_false _ _ _ _ (le-ltb _ _ le) refl

abbrev Goes : ℕ → ℕ → Tree → List Token → Tree × List Token → Type 0
Goes most least e rest x = (n : ℕ) → length rest ≤ n → climb most (expression most) n least e rest ≡ Some x

-- reading comes by the tree, and goes on from there
abbrev Complete : Tree → Type 0
Complete e = (most least : ℕ) (ts rest : List Token) (x : Tree × List Token) → Shaped e → Spells e ts rest → height e ≤ most → least ≤ level e → ahead rest ≤ follow e →
    Goes most least e rest x → expression (suc most) least ts ≡ Some x

-- the same of a form, at a node as it is read
abbrev CompleteForm : FormTree → Type 0
CompleteForm f = (l most least : ℕ) (ts rest : List Token) (x : Tree × List Token) → IsShapedForm f → Starts l ts → SpellsForm f ts rest → form_height f ≤ most → least ≤ form_level f → ahead rest ≤ form_follow f →
    Goes most least (fresh l f) rest x → expression (suc most) least ts ≡ Some x

exact : (e : Tree) → Complete e → (most least : ℕ) (ts rest : List Token) → Shaped e → Spells e ts rest → height e < most → least ≤ level e → ahead rest < least → expression most least ts ≡ Some (e, rest)
exact e c zero least ts rest sh sp hi lv ah = absurd (omega arith)
exact e c (suc most) least ts rest sh sp hi lv ah =
    c most least ts rest (e, rest) sh sp (omega arith) lv (omega (arith, level_follow e)) (λ n le. stop most (expression most) n least e rest ah)

-- a sign in front, and what is plain behind it
by_front : (most least l : ℕ) (e : Tree) (word : Word) (k : First) (ts a rest : List Token) (x : Tree × List Token) → Starts l ts → Sign word ts a → first_of word ≡ k → plain (expression most) l k a ≡ Some (e, rest) →
    Goes most least e rest x → expression (suc most) least ts ≡ Some x
unfolding expression
by_front most least l e word k ts a rest x st s is p h =
    let at : Starts s.0 ts = (token s.0 word, a, s.1, refl) in
    let same : s.0 ≡ l = one_line s.0 l ts at st in
    let f : front (expression most) ts ≡ Some (e, rest) = ap (front (expression most)) s.1 ∙ ap (λ q. plain (expression most) s.0 q a) is ∙ ap (λ m. plain (expression most) m k a) same ∙ p in
    bind_some _ (e, rest) _ _ f (h (length rest) (le_refl _))

behind_sign : (test : Word → Bool) (word : Word) (a b : List Token) → test word ≡ true → Sign word a b → behind test a ≡ Some b
behind_sign test word a b e s = subst (λ u. behind test u ≡ Some b) (sym s.1) (if_true _ _ _ _ e refl)

-- a sign that closes a list of members
pub record Closes (close : Word) (test : Word → Bool) : Type 0 where
  pub closes : test close ≡ true
  pub ends : next_of close ≡ stops
  pub apart : (word : Word) → test word ≡ true → first_of word ≡ begins_none
  pub comma : test w.Comma ≡ false

round_apart : (word : Word) → is_close_round word ≡ true → first_of word ≡ begins_none
round_apart w.CloseRound e = refl
round_apart _ e = cc

square_apart : (word : Word) → is_close_square word ≡ true → first_of word ≡ begins_none
square_apart w.CloseSquare e = refl
square_apart _ e = cc

value_apart : (word : Word) → is_close_value word ≡ true → first_of word ≡ begins_none
value_apart w.CloseValue e = refl
value_apart _ e = cc

pub by_round : Closes w.CloseRound is_close_round
by_round = record { closes = refl; ends = refl; apart = round_apart; comma = refl }

by_square : Closes w.CloseSquare is_close_square
by_square = record { closes = refl; ends = refl; apart = square_apart; comma = refl }

tail_ahead : (close : Word) (test : Word → Bool) (es : Trees) (ts rest : List Token) → Closes close test → SpellsTail close es ts rest → ahead ts ≡ 0
tail_ahead close test none ts rest k s = sign_ahead close stops ts rest k.ends s
tail_ahead close test (more e es) ts rest k s = sign_ahead w.Comma stops ts s.0 refl s.2

pair_tail_ahead : (ps : TreePairs) (ts rest : List Token) → SpellsPairTail ps ts rest → ahead ts ≡ 0
pair_tail_ahead no_pairs ts rest s = sign_ahead w.CloseValue stops ts rest refl s
pair_tail_ahead (more_pairs k v ps) ts rest s = sign_ahead w.Comma stops ts s.0 refl s.4

not_true : (b : Bool) → (b ≡ true → ⊥) → b ≡ false
not_true true h = absurd (h refl)
not_true false h = refl

abbrev CompleteTail : Trees → Type 0
CompleteTail es = (most n : ℕ) (close : Word) (test : Word → Bool) (ts rest : List Token) → Closes close test → AreShaped es → SpellsTail close es ts rest → heights es ≤ most → length ts ≤ n →
    tail_of test (expression most) n ts ≡ Some (es, rest)

tail_none : CompleteTail none
unfolding tail_of
tail_none most zero close test ts rest k sh s hi le = subst (λ u. tail_of test (expression most) zero u ≡ Some (none, rest)) (sym s.1) (if_true _ _ _ _ k.closes refl)
tail_none most (suc n) close test ts rest k sh s hi le = subst (λ u. tail_of test (expression most) (suc n) u ≡ Some (none, rest)) (sym s.1) (if_true _ _ _ _ k.closes refl)

tail_more : (e : Tree) (es : Trees) → Complete e → CompleteTail es → CompleteTail (more e es)
unfolding tail_of
tail_more e es ce ces most zero close test ts rest k sh s hi le = absurd (omega (arith, ap length s.2.1))
tail_more e es ce ces most (suc n) close test ts rest k sh s hi le =
    let ah = tail_ahead close test es s.1 rest k s.4 in
    let short : length s.1 ≤ n = omega (arith, ap length s.2.1, shorter e s.0 s.1 s.3) in
    subst (λ u. tail_of test (expression most) (suc n) u ≡ Some (more e es, rest)) (sym s.2.1)
    (if_false _ _ _ _ k.comma
    (bind_some _ (e, s.1) _ _ (exact e ce most 1 s.0 s.1 sh.0 s.3 (omega arith) (level_one e) (omega arith))
    (bind_some _ (es, rest) _ _ (ces most n close test s.1 rest k sh.1 s.4 (omega arith) short) refl)))

abbrev CompleteAll : Trees → Type 0
CompleteAll es = (most : ℕ) (close : Word) (test : Word → Bool) (ts rest : List Token) → Closes close test → AreShaped es → SpellsAll close es ts rest → heights es ≤ most →
    members test (expression most) ts ≡ Some (es, rest)

all_none : CompleteAll none
all_none most close test ts rest k sh s hi = subst (λ u. members test (expression most) u ≡ Some (none, rest)) (sym s.1) (if_true _ _ _ _ k.closes refl)

all_more : (e : Tree) (es : Trees) → Complete e → CompleteTail es → CompleteAll (more e es)
all_more e es ce ces most close test ts rest k sh s hi =
    let b = begins e ts s.0 s.1 in
    let apart : test b.0.word ≡ false = not_true (test b.0.word) (λ yes. b.3 (k.apart b.0.word yes)) in
    let ah = tail_ahead close test es s.0 rest k s.2 in
    let short : length s.0 ≤ length b.1 = omega (arith, ap length b.2, shorter e ts s.0 s.1) in
    let first : expression most 1 (b.0 ∷ b.1) ≡ Some (e, s.0) = subst (λ u. expression most 1 u ≡ Some (e, s.0)) b.2 (exact e ce most 1 ts s.0 sh.0 s.1 (omega arith) (level_one e) (omega arith)) in
    subst (λ u. members test (expression most) u ≡ Some (more e es, rest)) (sym b.2)
    (if_false _ _ _ _ apart
    (bind_some _ (e, s.0) _ _ first
    (bind_some _ (es, rest) _ _ (ces most (length b.1) close test s.0 rest k sh.1 s.2 (omega arith) short) refl)))

pair_read : (k v : Tree) → Complete k → Complete v → (most : ℕ) (ts a b c : List Token) → Shaped k → Shaped v → height k < most → height v < most → Spells k ts a → Sign w.Arrow a b → Spells v b c → ahead c ≡ 0 →
    pair (expression most) ts ≡ Some ((k, v), c)
pair_read k v ck cv most ts a b c shk shv hk hv sk s sv ah =
    let arrow = sign_ahead w.Arrow stops a b refl s in
    bind_some _ (k, a) _ _ (exact k ck most 1 ts a shk sk hk (level_one k) (omega arith))
    (bind_some _ b _ _ (behind_sign is_arrow w.Arrow a b refl s)
    (bind_some _ (v, c) _ _ (exact v cv most 1 b c shv sv hv (level_one v) (omega arith)) refl))

abbrev CompletePairTail : TreePairs → Type 0
CompletePairTail ps = (most n : ℕ) (ts rest : List Token) → ArePairsShaped ps → SpellsPairTail ps ts rest → pair_heights ps ≤ most → length ts ≤ n →
    pair_tail_of (expression most) n ts ≡ Some (ps, rest)

pair_tail_none : CompletePairTail no_pairs
unfolding pair_tail_of
pair_tail_none most zero ts rest sh s hi le = subst (λ u. pair_tail_of (expression most) zero u ≡ Some (no_pairs, rest)) (sym s.1) refl
pair_tail_none most (suc n) ts rest sh s hi le = subst (λ u. pair_tail_of (expression most) (suc n) u ≡ Some (no_pairs, rest)) (sym s.1) refl

pair_tail_more : (k v : Tree) (ps : TreePairs) → Complete k → Complete v → CompletePairTail ps → CompletePairTail (more_pairs k v ps)
unfolding pair_tail_of
pair_tail_more k v ps ck cv cps most zero ts rest sh s hi le = absurd (omega (arith, ap length s.4.1))
pair_tail_more k v ps ck cv cps most (suc n) ts rest sh s hi le =
    let ah = pair_tail_ahead ps s.3 rest s.8 in
    let short : length s.3 ≤ n = omega (arith, ap length s.4.1, shorter k s.0 s.1 s.5, sign_shorter _ _ _ s.6, shorter v s.2 s.3 s.7) in
    subst (λ u. pair_tail_of (expression most) (suc n) u ≡ Some (more_pairs k v ps, rest)) (sym s.4.1)
    (bind_some _ ((k, v), s.3) _ _ (pair_read k v ck cv most s.0 s.1 s.2 s.3 sh.0 sh.1 (omega arith) (omega arith) s.5 s.6 s.7 ah)
    (bind_some _ (ps, rest) _ _ (cps most n s.3 rest sh.2 s.8 (omega arith) short) refl))

abbrev CompletePairs : TreePairs → Type 0
CompletePairs ps = (most : ℕ) (ts rest : List Token) → ArePairsShaped ps → SpellsPairs ps ts rest → pair_heights ps ≤ most → pairs (expression most) ts ≡ Some (ps, rest)

pairs_none : CompletePairs no_pairs
pairs_none most ts rest sh s hi = subst (λ u. pairs (expression most) u ≡ Some (no_pairs, rest)) (sym s.1) refl

pairs_more : (k v : Tree) (ps : TreePairs) → Complete k → Complete v → CompletePairTail ps → CompletePairs (more_pairs k v ps)
pairs_more k v ps ck cv cps most ts rest sh s hi =
    let b = begins k ts s.0 s.3 in
    let apart : is_close_value b.0.word ≡ false = not_true (is_close_value b.0.word) (λ yes. b.3 (value_apart b.0.word yes)) in
    let ah = pair_tail_ahead ps s.2 rest s.6 in
    let short : length s.2 ≤ length b.1 = omega (arith, ap length b.2, shorter k ts s.0 s.3, sign_shorter _ _ _ s.4, shorter v s.1 s.2 s.5) in
    let first : pair (expression most) (b.0 ∷ b.1) ≡ Some ((k, v), s.2) = subst (λ u. pair (expression most) u ≡ Some ((k, v), s.2)) b.2 (pair_read k v ck cv most ts s.0 s.1 s.2 sh.0 sh.1 (omega arith) (omega arith) s.3 s.4 s.5 ah) in
    subst (λ u. pairs (expression most) u ≡ Some (more_pairs k v ps, rest)) (sym b.2)
    (if_false _ _ _ _ apart
    (bind_some _ ((k, v), s.2) _ _ first
    (bind_some _ (ps, rest) _ _ (cps most (length b.1) s.2 rest sh.2 s.6 (omega arith) short) refl)))

complete_number : (v : ℤ) → CompleteForm (number v)
complete_number v l most least ts rest x sh st sp hi lv ah h = by_front most least l (fresh l (number v)) (w.Number v) _ ts rest rest x st sp refl refl h

complete_text : (ps : List Piece) → CompleteForm (text ps)
complete_text ps l most least ts rest x sh st sp hi lv ah h = by_front most least l (fresh l (text ps)) (w.Text ps) _ ts rest rest x st sp refl refl h

complete_truth : (b : Bool) → CompleteForm (truth b)
complete_truth b l most least ts rest x sh st sp hi lv ah h = by_front most least l (fresh l (truth b)) (word_of_bool b) _ ts rest rest x st sp (first_truth b) refl h

named_plain : (sub : Sub) (l : ℕ) (n : List ℕ) (rest : List Token) → ahead rest ≤ 10 → named sub l n rest ≡ Some (fresh l (name n), rest)
named_plain sub l n [] ah = refl
named_plain sub l n (t ∷ ts) ah = if_false _ _ _ _ (not_open t.word ah) refl

complete_name : (n : List ℕ) → CompleteForm (name n)
complete_name n l most least ts rest x sh st sp hi lv ah h =
    by_front most least l (fresh l (name n)) (w.Name n) _ ts rest rest x st sp refl (named_plain (expression most) l n rest ah) h

complete_group : (e : Tree) → Complete e → CompleteForm (group e)
complete_group e ce l most least ts rest x sh st sp hi lv ah h =
    let closed = sign_ahead w.CloseRound stops sp.1 rest refl sp.4 in
    by_front most least l (fresh l (group e)) w.OpenRound _ ts sp.0 rest x st sp.2 refl
    (bind_some _ (e, sp.1) _ _ (exact e ce most 1 sp.0 sp.1 sh sp.3 (omega arith) (level_one e) (omega arith))
    (bind_some _ rest _ _ (behind_sign is_close_round w.CloseRound sp.1 rest refl sp.4) refl)) h

complete_call : (n : List ℕ) (es : Trees) → CompleteAll es → CompleteForm (call n es)
complete_call n es ces l most least ts rest x sh st sp hi lv ah h =
    by_front most least l (fresh l (call n es)) (w.Name n) _ ts sp.0 rest x st sp.2 refl (ap (named (expression most) l n) sp.3.1
    ∙ bind_some _ (es, rest) _ _ (ces most w.CloseRound is_close_round sp.1 rest by_round sh sp.4 hi) refl) h

complete_list : (es : Trees) → CompleteAll es → CompleteForm (list es)
complete_list es ces l most least ts rest x sh st sp hi lv ah h =
    by_front most least l (fresh l (list es)) w.OpenSquare _ ts sp.0 rest x st sp.1 refl
    (bind_some _ (es, rest) _ _ (ces most w.CloseSquare is_close_square sp.0 rest by_square sh sp.2 hi) refl) h

complete_mapping : (ps : TreePairs) → CompletePairs ps → CompleteForm (mapping ps)
complete_mapping ps cps l most least ts rest x sh st sp hi lv ah h =
    by_front most least l (fresh l (mapping ps)) w.OpenValue _ ts sp.0 rest x st sp.1 refl
    (bind_some _ (ps, rest) _ _ (cps most sp.0 rest sh sp.2 hi) refl) h

complete_prefix : (o : PrefixOp) (e : Tree) → Complete e → CompleteForm (prefix o e)
complete_prefix o e ce l most least ts rest x sh st sp hi lv ah h =
    by_front most least l (fresh l (prefix o e)) (sign_before o) _ ts sp.0 rest x st sp.1 (first_sign o)
    (bind_some _ (e, rest) _ _ (exact e ce most 9 sp.0 rest sh.1 sp.2 (omega arith) sh.0 (omega arith)) refl) h

-- the line of a node is that of its first part
left_line : (l : ℕ) (a : Tree) (ts mid : List Token) → Starts l ts → Spells a ts mid → line_of a ≡ l
left_line l a ts mid st sp = one_line (line_of a) l ts (starts a ts mid sp) st

complete_item : (a i : Tree) → Complete a → Complete i → CompleteForm (item a i)
complete_item a i ca ci l most least ts rest x sh st sp hi lv ah h =
    let closed = sign_ahead w.CloseSquare stops sp.2 rest refl sp.6 in
    let opens = sign_ahead w.OpenSquare indexes sp.0 sp.1 refl sp.4 in
    let longer = shorter i sp.1 sp.2 sp.5 in
    ca most least ts sp.0 x sh.1 sp.3 (omega arith) (omega (arith, follow_level a)) (omega arith)
    (take_sign most (expression most) least a w.OpenSquare indexes sp.0 sp.1 x refl sp.4 (omega arith) sh.0 (fresh (line_of a) (item a i), rest)
    (bind_some _ (i, sp.2) _ _ (exact i ci most 1 sp.1 sp.2 sh.2 sp.5 (omega arith) (level_one i) (omega arith))
    (bind_some _ rest _ _ (behind_sign is_close_square w.CloseSquare sp.2 rest refl sp.6) (fits most (fresh (line_of a) (item a i)) rest hi)))
    (λ n le. subst (λ k. climb most (expression most) n least (fresh k (item a i)) rest ≡ Some x) (sym (left_line l a ts sp.0 st sp.3)) (h n (omega (arith, ap length sp.6.1)))))

complete_key : (a i : Tree) → Complete a → Complete i → CompleteForm (key a i)
complete_key a i ca ci l most least ts rest x sh st sp hi lv ah h =
    let closed = sign_ahead w.CloseValue stops sp.2 rest refl sp.6 in
    let opens = sign_ahead w.OpenValue keys sp.0 sp.1 refl sp.4 in
    let longer = shorter i sp.1 sp.2 sp.5 in
    ca most least ts sp.0 x sh.1 sp.3 (omega arith) (omega (arith, follow_level a)) (omega arith)
    (take_sign most (expression most) least a w.OpenValue keys sp.0 sp.1 x refl sp.4 (omega arith) sh.0 (fresh (line_of a) (key a i), rest)
    (bind_some _ (i, sp.2) _ _ (exact i ci most 1 sp.1 sp.2 sh.2 sp.5 (omega arith) (level_one i) (omega arith))
    (bind_some _ rest _ _ (behind_sign is_close_value w.CloseValue sp.2 rest refl sp.6) (fits most (fresh (line_of a) (key a i)) rest hi)))
    (λ n le. subst (λ k. climb most (expression most) n least (fresh k (key a i)) rest ≡ Some x) (sym (left_line l a ts sp.0 st sp.3)) (h n (omega (arith, ap length sp.6.1)))))

name_read : (n : List ℕ) (a b : List Token) → Sign (w.Name n) a b → name_at a ≡ Some (n, b)
name_read n a b s = ap name_at s.1

complete_method : (a : Tree) (n : List ℕ) (es : Trees) → Complete a → CompleteAll es → CompleteForm (method a n es)
complete_method a n es ca ces l most least ts rest x sh st sp hi lv ah h =
    let dot = sign_ahead w.Dot asks sp.0 sp.1 refl sp.5 in
    let longer = all_shorter es w.CloseRound sp.3 rest sp.8 in
    ca most least ts sp.0 x sh.1 sp.4 (omega arith) (omega (arith, follow_level a)) (omega arith)
    (take_sign most (expression most) least a w.Dot asks sp.0 sp.1 x refl sp.5 (omega arith) sh.0 (fresh (line_of a) (method a n es), rest)
    (bind_some _ (n, sp.2) _ _ (name_read n sp.1 sp.2 sp.6)
    (bind_some _ sp.3 _ _ (behind_sign is_open_round w.OpenRound sp.2 sp.3 refl sp.7)
    (bind_some _ (es, rest) _ _ (ces most w.CloseRound is_close_round sp.3 rest by_round sh.2 sp.8 (omega arith)) (fits most (fresh (line_of a) (method a n es)) rest hi))))
    (λ m le. subst (λ k. climb most (expression most) m least (fresh k (method a n es)) rest ≡ Some x) (sym (left_line l a ts sp.0 st sp.4))
    (h m (omega (arith, ap length sp.6.1, ap length sp.7.1)))))

complete_binary : (a : Tree) (o : BinaryOp) (b : Tree) → Complete a → Complete b → CompleteForm (binary a o b)
complete_binary a o b ca cb l most least ts rest x sh st sp hi lv ah h =
    let sign = sign_ahead (sign_of o) (joins o) sp.0 sp.1 (next_sign o) sp.3 in
    let longer = shorter b sp.1 rest sp.4 in
    ca most least ts sp.0 x sh.2 sp.2 (omega arith) (omega (arith, follow_level a)) (omega arith)
    (take_sign most (expression most) least a (sign_of o) (joins o) sp.0 sp.1 x (next_sign o) sp.3 lv sh.0 (fresh (line_of a) (binary a o b), rest)
    (bind_some _ (b, rest) _ _ (exact b cb most (level_of o + 1) sp.1 rest sh.3 sp.4 (omega arith) (omega arith) (omega arith)) (fits most (fresh (line_of a) (binary a o b)) rest hi))
    (λ n le. subst (λ k. climb most (expression most) n least (fresh k (binary a o b)) rest ≡ Some x) (sym (left_line l a ts sp.0 st sp.2)) (h n (omega arith))))

complete_dependency : (a b : Tree) → Complete a → Complete b → CompleteForm (dependency a b)
complete_dependency a b ca cb l most least ts rest x sh st sp hi lv ah h =
    let sign = sign_ahead w.From depends sp.0 sp.1 refl sp.3 in
    let longer = shorter b sp.1 rest sp.4 in
    ca most least ts sp.0 x sh.2 sp.2 (omega arith) (omega (arith, follow_level a)) (omega arith)
    (take_sign most (expression most) least a w.From depends sp.0 sp.1 x refl sp.3 lv sh.0 (fresh (line_of a) (dependency a b), rest)
    (bind_some _ (b, rest) _ _ (exact b cb most 2 sp.1 rest sh.3 sp.4 (omega arith) sh.1 (omega arith)) (fits most (fresh (line_of a) (dependency a b)) rest hi))
    (λ n le. subst (λ k. climb most (expression most) n least (fresh k (dependency a b)) rest ≡ Some x) (sym (left_line l a ts sp.0 st sp.2)) (h n (omega arith))))

complete_choice : (c a b : Tree) → Complete c → Complete a → Complete b → CompleteForm (choice c a b)
complete_choice c a b cc' ca cb l most least ts rest x sh st sp hi lv ah h =
    let sign = sign_ahead w.Question chooses sp.0 sp.1 refl sp.5 in
    let colon = sign_ahead w.Colon stops sp.2 sp.3 refl sp.7 in
    let longer = shorter b sp.3 rest sp.8 in
    let longer2 = shorter a sp.1 sp.2 sp.6 in
    cc' most least ts sp.0 x sh.3 sp.4 (omega arith) (omega (arith, follow_level c)) (omega arith)
    (take_sign most (expression most) least c w.Question chooses sp.0 sp.1 x refl sp.5 lv sh.0 (fresh (line_of c) (choice c a b), rest)
    (bind_some _ (a, sp.2) _ _ (exact a ca most 2 sp.1 sp.2 sh.4 sp.6 (omega arith) sh.1 (omega arith))
    (bind_some _ sp.3 _ _ (behind_sign is_colon w.Colon sp.2 sp.3 refl sp.7)
    (bind_some _ (b, rest) _ _ (exact b cb most 2 sp.3 rest sh.5 sp.8 (omega arith) sh.2 (omega arith)) (fits most (fresh (line_of c) (choice c a b)) rest hi))))
    (λ n le. subst (λ k. climb most (expression most) n least (fresh k (choice c a b)) rest ≡ Some x) (sym (left_line l c ts sp.0 st sp.4)) (h n (omega (arith, ap length sp.7.1)))))

mutual
  complete : (e : Tree) → Complete e
  complete (node at t f) most least ts rest x sh sp hi lv ah h =
      complete_form f at.line most least ts rest x sh.2 sp.0 sp.1 hi lv ah (subst (λ e. Goes most least e rest x) (is_fresh at t f sh) h)

  complete_form : (f : FormTree) → CompleteForm f
  complete_form (number v) = complete_number v
  complete_form (text ps) = complete_text ps
  complete_form (truth b) = complete_truth b
  complete_form (name n) = complete_name n
  complete_form (call n es) = complete_call n es (complete_all es)
  complete_form (group e) = complete_group e (complete e)
  complete_form (list es) = complete_list es (complete_all es)
  complete_form (mapping ps) = complete_mapping ps (complete_pairs ps)
  complete_form (item a i) = complete_item a i (complete a) (complete i)
  complete_form (key a k) = complete_key a k (complete a) (complete k)
  complete_form (method a n es) = complete_method a n es (complete a) (complete_all es)
  complete_form (prefix o e) = complete_prefix o e (complete e)
  complete_form (binary a o b) = complete_binary a o b (complete a) (complete b)
  complete_form (choice c a b) = complete_choice c a b (complete c) (complete a) (complete b)
  complete_form (dependency a b) = complete_dependency a b (complete a) (complete b)

  complete_all : (es : Trees) → CompleteAll es
  complete_all none = all_none
  complete_all (more e es) = all_more e es (complete e) (complete_tail es)

  complete_tail : (es : Trees) → CompleteTail es
  complete_tail none = tail_none
  complete_tail (more e es) = tail_more e es (complete e) (complete_tail es)

  complete_pairs : (ps : TreePairs) → CompletePairs ps
  complete_pairs no_pairs = pairs_none
  complete_pairs (more_pairs k v ps) = pairs_more k v ps (complete k) (complete v) (complete_pair_tail ps)

  complete_pair_tail : (ps : TreePairs) → CompletePairTail ps
  complete_pair_tail no_pairs = pair_tail_none
  complete_pair_tail (more_pairs k v ps) = pair_tail_more k v ps (complete k) (complete v) (complete_pair_tail ps)

-- each legal tree that is spelled at the front, and that nothing continues, is what reading finds
pub finds : (e : Tree) (most least : ℕ) (ts rest : List Token) → Shaped e → Spells e ts rest → height e < most → least ≤ level e → ahead rest < least → expression most least ts ≡ Some (e, rest)
finds e = exact e (complete e)

-- the same of several
pub finds_all : (es : Trees) (most : ℕ) (close : Word) (test : Word → Bool) (ts rest : List Token) → Closes close test → AreShaped es → SpellsAll close es ts rest → heights es ≤ most → members test (expression most) ts ≡ Some (es, rest)
finds_all es = complete_all es
