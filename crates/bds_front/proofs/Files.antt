-- What stays so where more files are read.
use Rattle.std.proofs.Common.{◌≡◌, ◌∙◌, ℕ, ◌+◌, List, [], ◌∷◌, ◌++◌, Bool, true, false, ◌||◌, Option, Some, None, if◌then◌else◌, sym, ap, subst, refl, append_assoc, append-nil}
use Rattle.std.proofs.lemmas.List.{map-append}
use Rattle.std.proofs.lemmas.Slice.Eq.{bytes_eq-Decides}
use Rattle.std.specs.Str.{bytes_eq}
use Rattle.bds_tree.specs.StmtTree.{PartTree, ScriptTree, an_include, a_function, a_statement}
use Rattle.bds_tree.specs.declared.token.Token.{Token}
use Rattle.bds_tree.specs.ScriptTexts.{Spells}
use Rattle.bds_check_typing.specs.Files.{Joins, path_from, was_read}
use Rattle.bds_meaning.specs.Files.{Files, paths_of, text_in, IsFileIn, Passes, Awaits}
use Rattle.bds_front.specs.Joining.{Extends}

-- More files

pub extends-same : (files : Files) → Extends files files
extends-same files = record { later = []; is = sym (append-nil files) }

pub extends-one : (files : Files) (p text : List ℕ) → Extends files (files ++ (p, text) ∷ [])
extends-one files p text = record { later = (p, text) ∷ []; is = refl }

pub extends-more : (a b c : Files) → Extends a b → Extends b c → Extends a c
extends-more a b c h k = record { later = h.later ++ k.later; is = k.is ∙ ap (λ (x : Files). x ++ k.later) h.is ∙ append_assoc a h.later k.later }

pub paths-one : (files : Files) (p text : List ℕ) → paths_of (files ++ (p, text) ∷ []) ≡ paths_of files ++ p ∷ []
paths-one files p text = map-append (λ f. f.0) files ((p, text) ∷ [])

-- The text of a path

choice-more : (b : Bool) (x : List ℕ) (o u : Option (List ℕ)) (t : List ℕ) → (o ≡ Some t → u ≡ Some t) → (if b then Some x else o) ≡ Some t → (if b then Some x else u) ≡ Some t
choice-more true x o u t h k = k
choice-more false x o u t h k = h k

text-more : (files later : Files) (p t : List ℕ) → text_in files p ≡ Some t → text_in (files ++ later) p ≡ Some t
text-more [] later p t h = absurd cc
text-more (f ∷ files) later p t h = choice-more (bytes_eq f.0 p) f.1 (text_in files p) (text_in (files ++ later) p) t (text-more files later p t) h

-- a path that differs, asked either way round
differ : (x y : List ℕ) (b : Bool) → bytes_eq x y ≡ b → bytes_eq y x ≡ false → b ≡ false
differ x y false h k = refl
differ x y true h k =
    let same : x ≡ y = (bytes_eq-Decides x y).0 h in
    let there : bytes_eq y x ≡ true = (bytes_eq-Decides y x).1 (sym same) in
    absurd cc

or-left : (a b : Bool) → (a || b) ≡ false → a ≡ false
or-left false b h = refl
or-left true b h = absurd cc

or-right : (a b : Bool) → (a || b) ≡ false → b ≡ false
or-right false b h = h
or-right true b h = absurd cc

not-first : (b : Bool) (x : List ℕ) (o : Option (List ℕ)) → b ≡ false → (if b then Some x else o) ≡ o
not-first b x o h = rw h refl

same-bytes : (p : List ℕ) → bytes_eq p p ≡ true
same-bytes p = (bytes_eq-Decides p p).1 refl

found : (b : Bool) (x : List ℕ) (o : Option (List ℕ)) → b ≡ true → (if b then Some x else o) ≡ Some x
found b x o h = rw h refl

-- the text of a path that wasn't read before
pub text-last : (files : Files) (p t : List ℕ) → was_read p (paths_of files) ≡ false → text_in (files ++ (p, t) ∷ []) p ≡ Some t
text-last [] p t h = found (bytes_eq p p) t None (same-bytes p)
text-last (f ∷ files) p t h =
    let here : bytes_eq f.0 p ≡ false = differ f.0 p (bytes_eq f.0 p) refl (or-left (bytes_eq p f.0) (was_read p (paths_of files)) h) in
    not-first (bytes_eq f.0 p) f.1 (text_in (files ++ (p, t) ∷ []) p) here ∙ text-last files p t (or-right (bytes_eq p f.0) (was_read p (paths_of files)) h)

pub file-last : (files : Files) (p t : List ℕ) (tokens : List Token) (tree : ScriptTree) → was_read p (paths_of files) ≡ false → Spells t tokens tree → IsFileIn (files ++ (p, t) ∷ []) p tree
file-last files p t tokens tree unread spelled = record { text = t; tokens = tokens; read = text-last files p t unread; spelled = spelled }

pub file-more : (files all : Files) → Extends files all → (p : List ℕ) (tree : ScriptTree) → IsFileIn files p tree → IsFileIn all p tree
file-more files all e p tree h =
    record { text = h.text; tokens = h.tokens; read = subst (λ (x : Files). text_in x p ≡ Some h.text) (sym e.is) (text-more files e.later p h.text h.read); spelled = h.spelled }

-- Parts

module _ (F G : List ℕ → ScriptTree → Type 0) (more : (p : List ℕ) (tree : ScriptTree) → F p tree → G p tree) where
  pub joins-more : (depth : ℕ) (path : List ℕ) (file : ℕ) (read : List (List ℕ)) (ps : List PartTree) (behind : List (List ℕ)) (qs : List PartTree) (beyond : List (List ℕ)) →
      Joins F depth path file read ps behind qs beyond → Joins G depth path file read ps behind qs beyond
  joins-more depth path file read ps behind qs beyond (Joins.end _ _ _ _) = Joins.end depth path file read
  joins-more depth path file read ps behind qs beyond (Joins.function _ _ _ _ f rest _ others _ j) =
      Joins.function depth path file read f rest behind others beyond (joins-more depth path file read rest behind others beyond j)
  joins-more depth path file read ps behind qs beyond (Joins.statement _ _ _ _ s rest _ others _ j) =
      Joins.statement depth path file read s rest behind others beyond (joins-more depth path file read rest behind others beyond j)
  joins-more depth path file read ps behind qs beyond (Joins.again _ _ _ _ i rest _ _ _ was j) =
      Joins.again depth path file read i rest behind qs beyond was (joins-more depth path file read rest behind qs beyond j)
  joins-more depth path file read ps behind qs beyond (Joins.included _ _ _ _ i rest tree between _ os others deep far new within short is inner j) =
      Joins.included depth path file read i rest tree between behind os others deep far new within short (more (path_from path i) tree is)
      (joins-more (depth + 1) (path_from path i) _ (read ++ path_from path i ∷ []) tree.parts between os deep inner) (joins-more depth path file between rest behind others far j)
  joins-more depth path file read ps behind qs beyond (Joins.beyond_limits _ _ _ _ i rest _ _ far new out j) =
      Joins.beyond_limits depth path file read i rest behind qs far new out (joins-more depth path file read rest behind qs far j)

module _ (F : List ℕ → ScriptTree → Type 0) where
  pub joins-pass : (depth : ℕ) (path : List ℕ) (file : ℕ) (read : List (List ℕ)) (ps : List PartTree) (behind : List (List ℕ)) (qs : List PartTree) (beyond : List (List ℕ)) →
      Joins F depth path file read ps behind qs beyond → Passes F depth path read ps behind
  joins-pass depth path file read ps behind qs beyond (Joins.end _ _ _ _) = Passes.end depth path read
  joins-pass depth path file read ps behind qs beyond (Joins.function _ _ _ _ f rest _ others _ j) =
      Passes.other depth path read (a_function f) rest behind refl (joins-pass depth path file read rest behind others beyond j)
  joins-pass depth path file read ps behind qs beyond (Joins.statement _ _ _ _ s rest _ others _ j) =
      Passes.other depth path read (a_statement s) rest behind refl (joins-pass depth path file read rest behind others beyond j)
  joins-pass depth path file read ps behind qs beyond (Joins.again _ _ _ _ i rest _ _ _ was j) =
      Passes.again depth path read i rest behind was (joins-pass depth path file read rest behind qs beyond j)
  joins-pass depth path file read ps behind qs beyond (Joins.included _ _ _ _ i rest tree between _ os others deep far new within short is inner j) =
      Passes.included depth path read i rest tree between behind new within short is
      (joins-pass (depth + 1) (path_from path i) _ (read ++ path_from path i ∷ []) tree.parts between os deep inner) (joins-pass depth path file between rest behind others far j)
  joins-pass depth path file read ps behind qs beyond (Joins.beyond_limits _ _ _ _ i rest _ _ far new out j) =
      Passes.beyond_limits depth path read i rest behind new out (joins-pass depth path file read rest behind qs far j)

  -- what is awaited behind parts that were passed
  pub awaits-behind : (depth : ℕ) (path : List ℕ) (read : List (List ℕ)) (ps qs : List PartTree) (between behind : List (List ℕ)) (next : List ℕ) →
      Passes F depth path read ps between → Awaits F depth path between qs behind next → Awaits F depth path read (ps ++ qs) behind next
  awaits-behind depth path read ps qs between behind next (Passes.end _ _ _) w = w
  awaits-behind depth path read ps qs between behind next (Passes.other _ _ _ p rest _ other j) w =
      Awaits.behind_part depth path read p (rest ++ qs) read behind next (Passes.other depth path read p [] read other (Passes.end depth path read)) (awaits-behind depth path read rest qs between behind next j w)
  awaits-behind depth path read ps qs between behind next (Passes.again _ _ _ i rest _ was j) w =
      Awaits.behind_part depth path read (an_include i) (rest ++ qs) read behind next (Passes.again depth path read i [] read was (Passes.end depth path read)) (awaits-behind depth path read rest qs between behind next j w)
  awaits-behind depth path read ps qs between behind next (Passes.included _ _ _ i rest tree middle _ new within short is inner j) w =
      Awaits.behind_part depth path read (an_include i) (rest ++ qs) middle behind next (Passes.included depth path read i [] tree middle middle new within short is inner (Passes.end depth path middle))
      (awaits-behind depth path middle rest qs between behind next j w)
  awaits-behind depth path read ps qs between behind next (Passes.beyond_limits _ _ _ i rest _ new out j) w =
      Awaits.behind_part depth path read (an_include i) (rest ++ qs) read behind next (Passes.beyond_limits depth path read i [] read new out (Passes.end depth path read))
      (awaits-behind depth path read rest qs between behind next j w)

  awaits-some : (depth : ℕ) (path : List ℕ) (read : List (List ℕ)) (ps : List PartTree) (behind : List (List ℕ)) (next : List ℕ) → Awaits F depth path read ps behind next → ps ≡ [] → ⊥
  awaits-some depth path read ps behind next (Awaits.here _ _ _ i rest _ _) e = cc
  awaits-some depth path read ps behind next (Awaits.inside _ _ _ i rest _ _ _ _ _ _ _ _) e = cc
  awaits-some depth path read ps behind next (Awaits.behind_part _ _ _ q rest _ _ _ _ _) e = cc

  -- what the first part awaits is awaited
  pub awaits-front : (depth : ℕ) (path : List ℕ) (read : List (List ℕ)) (p : PartTree) (ps : List PartTree) (behind : List (List ℕ)) (next : List ℕ) →
      Awaits F depth path read (p ∷ []) behind next → Awaits F depth path read (p ∷ ps) behind next
  awaits-front depth path read p ps behind next (Awaits.here _ _ _ i _ new within) = Awaits.here depth path read i ps new within
  awaits-front depth path read p ps behind next (Awaits.inside _ _ _ i _ tree _ _ new within short is w) = Awaits.inside depth path read i ps tree behind next new within short is w
  awaits-front depth path read p ps behind next (Awaits.behind_part _ _ _ _ _ between _ _ passes w) = absurd (awaits-some depth path between [] behind next w refl)

  -- parts that are joined one behind the other
  pub joins-on : (depth : ℕ) (path : List ℕ) (file : ℕ) (read : List (List ℕ)) (xs ys : List PartTree) (between behind : List (List ℕ)) (os qs : List PartTree) (deep far : List (List ℕ)) →
      Joins F depth path file read xs between os deep → Joins F depth path file between ys behind qs far → Joins F depth path file read (xs ++ ys) behind (os ++ qs) (deep ++ far)
  joins-on depth path file read xs ys between behind os qs deep far (Joins.end _ _ _ _) k = k
  joins-on depth path file read xs ys between behind os qs deep far (Joins.function _ _ _ _ f rest _ others _ j) k =
      Joins.function depth path file read f (rest ++ ys) behind (others ++ qs) (deep ++ far) (joins-on depth path file read rest ys between behind others qs deep far j k)
  joins-on depth path file read xs ys between behind os qs deep far (Joins.statement _ _ _ _ s rest _ others _ j) k =
      Joins.statement depth path file read s (rest ++ ys) behind (others ++ qs) (deep ++ far) (joins-on depth path file read rest ys between behind others qs deep far j k)
  joins-on depth path file read xs ys between behind os qs deep far (Joins.again _ _ _ _ i rest _ _ _ was j) k =
      Joins.again depth path file read i (rest ++ ys) behind (os ++ qs) (deep ++ far) was (joins-on depth path file read rest ys between behind os qs deep far j k)
  joins-on depth path file read xs ys between behind os qs deep far (Joins.included _ _ _ _ i rest tree middle _ inside others d e new within short is inner j) k =
      subst (λ (x : List PartTree). Joins F depth path file read (an_include i ∷ (rest ++ ys)) behind x ((d ++ e) ++ far)) (sym (append_assoc inside others qs))
      (subst (λ (x : List (List ℕ)). Joins F depth path file read (an_include i ∷ (rest ++ ys)) behind (inside ++ (others ++ qs)) x) (sym (append_assoc d e far))
      (Joins.included depth path file read i (rest ++ ys) tree middle behind inside (others ++ qs) d (e ++ far) new within short is inner
      (joins-on depth path file middle rest ys between behind others qs e far j k)))
  joins-on depth path file read xs ys between behind os qs deep far (Joins.beyond_limits _ _ _ _ i rest _ _ e new out j) k =
      Joins.beyond_limits depth path file read i (rest ++ ys) behind (os ++ qs) (e ++ far) new out (joins-on depth path file read rest ys between behind os qs e far j k)
