-- Folders and texts, piece by piece.
use Rattle.std.proofs.Common.{◌≡◌, ◌∙◌, ◌<◌, ◌≤◌, ℕ, ◌+◌, length, take, get_or, arith, List, [], ◌∷◌, ◌++◌, Bool, true, false, ◌||◌, if◌then◌else◌, sym, ap, refl, append_assoc}
use Rattle.std.proofs.lemmas.List.{take_more}
use Rattle.std.specs.List.{list_any}
use Rattle.bds_tree.specs.declared.token.Piece.{Piece}
use Rattle.bds_tree.specs.declared.token.Piece.TheVariants as piece
use Rattle.bds_check_typing.specs.Files.{plain_text, is_slash, folder}

or-false : (a : Bool) → (a || false) ≡ a
or-false true = refl
or-false false = refl

or-true : (a : Bool) → (a || true) ≡ true
or-true true = refl
or-true false = refl

or-more : (a b c : Bool) → (a || (b || c)) ≡ ((a || b) || c)
or-more true b c = refl
or-more false b c = refl

chosen : (c : Bool) (xs : List ℕ) → c ≡ true → (if c then xs else []) ≡ xs
chosen c xs h = rw h refl

take-one : (xs : List ℕ) (i b d : ℕ) → i < length xs → get_or xs i d ≡ b → take (i + 1) xs ≡ take i xs ++ b ∷ []
take-one xs i b d below is = take_more xs i d below ∙ ap (λ (x : ℕ). take i xs ++ x ∷ []) is

any-more : (xs : List ℕ) (b : ℕ) → list_any is_slash (xs ++ b ∷ []) ≡ (list_any is_slash xs || is_slash b)
any-more [] b = or-false (is_slash b)
any-more (x ∷ xs) b = ap (λ (c : Bool). is_slash x || c) (any-more xs b) ∙ or-more (is_slash x) (list_any is_slash xs) (is_slash b)

-- a byte that is no slash changes no folder, and a slash ends one
pub folder-slash : (xs : List ℕ) (b : ℕ) → is_slash b ≡ true → folder (xs ++ b ∷ []) ≡ xs ++ b ∷ []
folder-slash [] b h = rw h refl
folder-slash (x ∷ xs) b h =
    let any : list_any is_slash (x ∷ (xs ++ b ∷ [])) ≡ true = ap (λ (c : Bool). is_slash x || c) (any-more xs b ∙ ap (λ (c : Bool). list_any is_slash xs || c) h ∙ or-true (list_any is_slash xs)) ∙ or-true (is_slash x) in
    chosen (list_any is_slash (x ∷ (xs ++ b ∷ []))) (x ∷ folder (xs ++ b ∷ [])) any ∙ ap (λ (ys : List ℕ). x ∷ ys) (folder-slash xs b h)

pub folder-other : (xs : List ℕ) (b : ℕ) → is_slash b ≡ false → folder (xs ++ b ∷ []) ≡ folder xs
folder-other [] b h = rw h refl
folder-other (x ∷ xs) b h =
    let any : list_any is_slash (x ∷ (xs ++ b ∷ [])) ≡ list_any is_slash (x ∷ xs) = ap (λ (c : Bool). is_slash x || c) (any-more xs b ∙ ap (λ (c : Bool). list_any is_slash xs || c) h ∙ or-false (list_any is_slash xs)) in
    ap (λ (c : Bool). if c then x ∷ folder (xs ++ b ∷ []) else []) any ∙ ap (λ (ys : List ℕ). if list_any is_slash (x ∷ xs) then x ∷ ys else []) (folder-other xs b h)

-- one byte further
pub folder-step : (path : List ℕ) (i b d end : ℕ) (c : Bool) → is_slash b ≡ c → i < length path → get_or path i d ≡ b → end ≤ i → take end path ≡ folder (take i path) →
    ((if c then i + 1 else end) ≤ i + 1) × (take (if c then i + 1 else end) path ≡ folder (take (i + 1) path))
folder-step path i b d end true h below is within so =
    let more : take (i + 1) path ≡ take i path ++ b ∷ [] = take-one path i b d below is in
    (omega arith, more ∙ sym (folder-slash (take i path) b h) ∙ ap folder (sym more))
folder-step path i b d end false h below is within so =
    let more : take (i + 1) path ≡ take i path ++ b ∷ [] = take-one path i b d below is in
    (omega arith, so ∙ sym (folder-other (take i path) b h) ∙ ap folder (sym more))

-- a piece behind others
pub text-more : (ps qs : List Piece) → plain_text (ps ++ qs) ≡ plain_text ps ++ plain_text qs
text-more [] qs = refl
text-more (piece.Plain t ∷ ps) qs = ap (λ (x : List ℕ). t ++ x) (text-more ps qs) ∙ sym (append_assoc t (plain_text ps) (plain_text qs))
text-more (piece.Name x ∷ ps) qs = text-more ps qs
text-more (piece.Item x i ∷ ps) qs = text-more ps qs
text-more (piece.Key x k ∷ ps) qs = text-more ps qs

pub text-one : (t : List ℕ) (p : Piece) (ps : List Piece) → (t ++ plain_text (p ∷ [])) ++ plain_text ps ≡ t ++ plain_text (p ∷ ps)
text-one t p ps = append_assoc t (plain_text (p ∷ [])) (plain_text ps) ∙ ap (λ (x : List ℕ). t ++ x) (sym (text-more (p ∷ []) ps))

pub ruleset path_rules = (folder-slash, folder-other, text-one)
