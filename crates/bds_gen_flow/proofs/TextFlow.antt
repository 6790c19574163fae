-- The code of the parts of a text leaves one more operand, a text, where its pieces are right.
use Rattle.std.proofs.Common.{◌≡◌, ◌+◌, ℕ, List, [], ◌∷◌, ◌++◌, Option, Some, None, is_some, Bool, true, false, ◌&&◌, refl, sym, ◌∙◌, ap, subst, arith, if◌then◌else◌, rules}
use Rattle.std.specs.Prelude.{⊤}
use Rattle.bds_value.specs.declared.value.At.{At}
use Rattle.bds_value.specs.declared.value.Ty.{Ty}
use Rattle.bds_value.specs.declared.value.Ty.TheVariants as ty
use Rattle.bds_code.specs.declared.instr.Instr.TheVariants.{Key, PushText, Blank, PushInt, Concat, Item}
use Rattle.bds_code.specs.declared.unit.Function.{Function}
use Rattle.bds_code.specs.declared.unit.Unit.{Unit as CodeUnit}
use Rattle.bds_check_names.specs.declared.names.Names.{Names}
use Rattle.bds_check_names.specs.Types.{is_known, differ, or_void}
use Rattle.bds_value.specs.Types.{list_item, map_item}
use Rattle.bds_check_names.specs.Scopes.{found, type_named}
use Rattle.bds_check_rules.specs.Pieces.{is_wrong_piece, is_list_named, is_map_named}
use Rattle.std.specs.List.{list_any}
use Rattle.bds_tree.specs.declared.token.Index.{Index}
use Rattle.bds_tree.specs.declared.token.Index.TheVariants as index
use Rattle.bds_tree.specs.declared.token.KeyName.{KeyName}
use Rattle.bds_tree.specs.declared.token.KeyName.TheVariants as key_of
use Rattle.bds_tree.specs.declared.token.Piece.{Piece}
use Rattle.bds_tree.specs.declared.token.Piece.TheVariants as piece
use Rattle.bds_check_names.specs.declared.piece_kinds.PieceKind.{PieceKind}
use Rattle.bds_check_names.specs.declared.piece_kinds.PieceKind.TheVariants as kind
use Rattle.bds_check_size.specs.Parts.{Part, says, shows, shows_at, shows_at_name, shows_key, shows_key_name, part_size, joined_size, parts_size, parts_by, piece_parts, parts_of}
use Rattle.bds_check_names.specs.PieceKinds.{if_in_force, if_list, if_map}
use Rattle.bds_check_size.specs.Known.{look}
use Rattle.bds_gen_expr.specs.Marks.{Mark, does, one}
use Rattle.bds_gen_expr.specs.declared.scope.Scope.{Scope}
use Rattle.bds_gen_expr.specs.Scope.{known, place_of, load}
use Rattle.bds_gen_expr.specs.ExprCode.{part_code, joined_code, parts_code}
use Rattle.bds_gen_flow.specs.Flow.{Runs}
use Rattle.bds_gen_flow.proofs.Flow.{runs_then, runs_to, runs_none, runs_one, runs_does}
use Rattle.bds_gen_flow.proofs.RowEffects.{take_entry-is, not_void, int-solid, text-solid, given-is, swap_two, show-is, take_item-is, same-unless, int-known, text-known}
use Rattle.bds_gen_flow.specs.Fits.{Fits}
use Rattle.bds_gen_flow.proofs.ExprParts.{or-none, no_target, loads_on}

module _ (u : CodeUnit) (f : Function) (Labels : ℕ → List Ty → Type 0) (Ticks : ℕ → Type 0) (sc : Scope) (names : Names) (fits : Fits u f sc names) where
  abbrev types : List ℕ → Option Ty
  types = look (known sc)

  abbrev Runs_here : List Mark → ℕ → ℕ → List Ty → List Ty → Type 0
  Runs_here = Runs u f Labels Ticks

  pub record Held (x : List ℕ) (t : Ty) : Type 0 where
    pub is : found x names ≡ Some t
    pub known_ty : is_known t ≡ true

  abbrev pub PartFits : Part → Type 0
  PartFits (says t) = ⊤
  PartFits (shows x) = (t : Ty) × Held x t
  PartFits (shows_at x n) = (t : Ty) × (i : Ty) × Held x t × (list_item t ≡ Some i) × (is_known i ≡ true)
  PartFits (shows_at_name x y) = (t : Ty) × (i : Ty) × Held x t × (list_item t ≡ Some i) × (is_known i ≡ true) × Held y ty.Int
  PartFits (shows_key x k) = (t : Ty) × (i : Ty) × Held x t × (map_item t ≡ Some i) × (is_known i ≡ true)
  PartFits (shows_key_name x y) = (t : Ty) × (i : Ty) × Held x t × (map_item t ≡ Some i) × (is_known i ≡ true) × Held y ty.Text

  abbrev pub AllFit : List Part → Type 0
  AllFit [] = ⊤
  AllFit (p ∷ ps) = PartFits p × AllFit ps

  all-fit-append : (ps qs : List Part) → AllFit ps → AllFit qs → AllFit (ps ++ qs)
  all-fit-append [] qs h k = k
  all-fit-append (p ∷ ps) qs h k = (h.0, all-fit-append ps qs h.1 k)

  some-held : (x : List ℕ) (o : Option Ty) → types x ≡ o → is_some o ≡ true → (t : Ty) × Held x t
  some-held x None e h = absurd (search (rules, h))
  some-held x (Some t) e h = let is : found x names ≡ Some t = sym (fits.looks x) ∙ e in (t, record { is = is; known_ty = fits.knowns x t is })

  item-some : (o : Option Ty) → is_some o ≡ true → o ≡ Some (or_void o)
  item-some None h = absurd (search (rules, h))
  item-some (Some t) h = refl

  load-run : (x : List ℕ) (t : Ty) (at : At) (ms : List Mark) (p q : ℕ) (s w : List Ty) → Held x t → Runs_here ms (p + 1) q (t ∷ s) w → Runs_here (does (load sc x) at ∷ ms) p q s w
  load-run x t at ms p q s w h r = runs_does u f Labels Ticks (load sc x) at ms p q s (t ∷ s) w (no_target (place_of sc x)) (loads_on (place_of sc x)) (fits.loads x t s h.is h.known_ty) r

  blank-run : (t : Ty) (at : At) (p q : ℕ) (s : List Ty) → p + 1 ≡ q → is_known t ≡ true → Runs_here (one at Blank) p q (t ∷ s) (ty.Text ∷ s)
  blank-run t at p q s e k = runs_one u f Labels Ticks Blank at p q (t ∷ s) (ty.Text ∷ s) e refl refl (show-is t s (not_void t k))

  item-blank : (t i : Ty) (at : At) (p q : ℕ) (s : List Ty) → p + 2 ≡ q → is_known t ≡ true → list_item t ≡ Some i → is_known i ≡ true → Runs_here (does Item at ∷ does Blank at ∷ []) p q (ty.Int ∷ t ∷ s) (ty.Text ∷ s)
  item-blank t i at p q s e kt l ki =
      runs_does u f Labels Ticks Item at (one at Blank) p q (ty.Int ∷ t ∷ s) (i ∷ s) (ty.Text ∷ s) refl refl (take_item-is t i s (not_void t kt) (not_void i ki) l) (blank-run i at (p + 1) q s (omega (arith, e)) ki)

  key-blank : (t i : Ty) (at : At) (p q : ℕ) (s : List Ty) → p + 2 ≡ q → is_known t ≡ true → map_item t ≡ Some i → is_known i ≡ true → Runs_here (does Key at ∷ does Blank at ∷ []) p q (ty.Text ∷ t ∷ s) (ty.Text ∷ s)
  key-blank t i at p q s e kt l ki =
      runs_does u f Labels Ticks Key at (one at Blank) p q (ty.Text ∷ t ∷ s) (i ∷ s) (ty.Text ∷ s) refl refl (take_entry-is t i s (not_void t kt) (not_void i ki) l) (blank-run i at (p + 1) q s (omega (arith, e)) ki)

  part-run : (x : Part) (at : At) (p : ℕ) (s : List Ty) → PartFits x → Runs_here (part_code sc at x) p (p + part_size x) s (ty.Text ∷ s)
  part-run (says t) at p s h = runs_one u f Labels Ticks (PushText t) at p (p + 1) s (ty.Text ∷ s) refl refl refl (given-is ty.Text s text-solid)
  part-run (shows x) at p s h = load-run x h.0 at (one at Blank) p (p + 2) s (ty.Text ∷ s) h.1 (blank-run h.0 at (p + 1) (p + 2) s (omega arith) h.1.known_ty)
  part-run (shows_at x n) at p s h =
      load-run x h.0 at (does (PushInt n) at ∷ does Item at ∷ does Blank at ∷ []) p (p + 4) s (ty.Text ∷ s) h.2
      (runs_does u f Labels Ticks (PushInt n) at (does Item at ∷ does Blank at ∷ []) (p + 1) (p + 4) (h.0 ∷ s) (ty.Int ∷ h.0 ∷ s) (ty.Text ∷ s) refl refl (given-is ty.Int (h.0 ∷ s) int-solid) (item-blank h.0 h.1 at (p + 1 + 1) (p + 4) s (omega arith) h.2.known_ty h.3 h.4))
  part-run (shows_at_name x y) at p s h =
      load-run x h.0 at (does (load sc y) at ∷ does Item at ∷ does Blank at ∷ []) p (p + 4) s (ty.Text ∷ s) h.2
      (load-run y ty.Int at (does Item at ∷ does Blank at ∷ []) (p + 1) (p + 4) (h.0 ∷ s) (ty.Text ∷ s) h.5 (item-blank h.0 h.1 at (p + 1 + 1) (p + 4) s (omega arith) h.2.known_ty h.3 h.4))
  part-run (shows_key x k) at p s h =
      load-run x h.0 at (does (PushText k) at ∷ does Key at ∷ does Blank at ∷ []) p (p + 4) s (ty.Text ∷ s) h.2
      (runs_does u f Labels Ticks (PushText k) at (does Key at ∷ does Blank at ∷ []) (p + 1) (p + 4) (h.0 ∷ s) (ty.Text ∷ h.0 ∷ s) (ty.Text ∷ s) refl refl (given-is ty.Text (h.0 ∷ s) text-solid) (key-blank h.0 h.1 at (p + 1 + 1) (p + 4) s (omega arith) h.2.known_ty h.3 h.4))
  part-run (shows_key_name x y) at p s h =
      load-run x h.0 at (does (load sc y) at ∷ does Key at ∷ does Blank at ∷ []) p (p + 4) s (ty.Text ∷ s) h.2
      (load-run y ty.Text at (does Key at ∷ does Blank at ∷ []) (p + 1) (p + 4) (h.0 ∷ s) (ty.Text ∷ s) h.5 (key-blank h.0 h.1 at (p + 1 + 1) (p + 4) s (omega arith) h.2.known_ty h.3 h.4))

  joined-run : (ps : List Part) (at : At) (p : ℕ) (s : List Ty) → AllFit ps → Runs_here (joined_code sc at ps) p (p + joined_size ps) (ty.Text ∷ s) (ty.Text ∷ s)
  joined-run [] at p s h = runs_to u f Labels Ticks [] p p (p + 0) (ty.Text ∷ s) (ty.Text ∷ s) (omega arith) (runs_none u f Labels Ticks p (ty.Text ∷ s))
  joined-run (x ∷ ps) at p s h =
      let q : ℕ = p + part_size x in
      let place : q + 1 + joined_size ps ≡ p + (part_size x + 1 + joined_size ps) = omega arith in
      runs_then u f Labels Ticks (part_code sc at x) (does Concat at ∷ joined_code sc at ps) p q (p + (part_size x + 1 + joined_size ps)) (ty.Text ∷ s) (ty.Text ∷ ty.Text ∷ s) (ty.Text ∷ s) (part-run x at p (ty.Text ∷ s) h.0)
      (runs_does u f Labels Ticks Concat at (joined_code sc at ps) q (p + (part_size x + 1 + joined_size ps)) (ty.Text ∷ ty.Text ∷ s) (ty.Text ∷ s) (ty.Text ∷ s) refl refl (swap_two ty.Text ty.Text ty.Text s text-solid text-solid text-solid)
      (runs_to u f Labels Ticks (joined_code sc at ps) (q + 1) (q + 1 + joined_size ps) (p + (part_size x + 1 + joined_size ps)) (ty.Text ∷ s) (ty.Text ∷ s) place (joined-run ps at (q + 1) s h.1)))

  pub parts-run : (ps : List Part) (at : At) (p : ℕ) (s : List Ty) → AllFit ps → Runs_here (parts_code sc at ps) p (p + parts_size ps) s (ty.Text ∷ s)
  parts-run [] at p s h = runs_one u f Labels Ticks (PushText []) at p (p + 1) s (ty.Text ∷ s) refl refl refl (given-is ty.Text s text-solid)
  parts-run (x ∷ ps) at p s h =
      let q : ℕ = p + part_size x in
      let place : q + joined_size ps ≡ p + (part_size x + joined_size ps) = omega arith in
      runs_then u f Labels Ticks (part_code sc at x) (joined_code sc at ps) p q (p + (part_size x + joined_size ps)) s (ty.Text ∷ s) (ty.Text ∷ s) (part-run x at p s h.0)
      (runs_to u f Labels Ticks (joined_code sc at ps) q (q + joined_size ps) (p + (part_size x + joined_size ps)) (ty.Text ∷ s) (ty.Text ∷ s) place (joined-run ps at q s h.1))

  -- what is known of a list or map in force
  listed : (x : List ℕ) (o : Option Ty) → types x ≡ o → is_some o ≡ true → is_some (list_item (or_void o)) ≡ true → (t : Ty) × (i : Ty) × Held x t × (list_item t ≡ Some i) × (is_known i ≡ true)
  listed x None e k h = absurd (search (rules, k))
  listed x (Some t) e k h =
      let is : found x names ≡ Some t = sym (fits.looks x) ∙ e in
      let item_is = item-some (list_item t) h in
      (t, or_void (list_item t), record { is = is; known_ty = fits.knowns x t is }, item_is, fits.items x t (or_void (list_item t)) is item_is)

  mapped : (x : List ℕ) (o : Option Ty) → types x ≡ o → is_some o ≡ true → is_some (map_item (or_void o)) ≡ true → (t : Ty) × (i : Ty) × Held x t × (map_item t ≡ Some i) × (is_known i ≡ true)
  mapped x None e k h = absurd (search (rules, k))
  mapped x (Some t) e k h =
      let is : found x names ≡ Some t = sym (fits.looks x) ∙ e in
      let item_is = item-some (map_item t) h in
      (t, or_void (map_item t), record { is = is; known_ty = fits.knowns x t is }, item_is, fits.entries x t (or_void (map_item t)) is item_is)

  and-false : (a b : Bool) → a ≡ true → (a && b) ≡ false → b ≡ false
  and-false true b p q = q
  and-false false b p q = absurd (search (rules, p))

  index-held : (y : List ℕ) (want : Ty) (t : Ty) → is_known want ≡ true → Held y t → differ want (type_named y names) ≡ false → Held y want
  index-held y want t kw h d =
      let named : type_named y names ≡ t = ap or_void h.is in
      let same : want ≡ t = same-unless want t kw h.known_ty (sym (ap (differ want) named) ∙ d) in
      subst (Held y) (sym same) h

  -- by the kind of a piece
  kind-choice : (b : Bool) (k l : PieceKind) (p : Piece) → (b ≡ true → AllFit (parts_by k p)) → AllFit (parts_by l p) → AllFit (parts_by (if b then k else l) p)
  kind-choice true k l p h g = h refl
  kind-choice false k l p h g = g

  fit-index : (x : List ℕ) (i : Index) → is_wrong_piece names (piece.Item x i) ≡ false → AllFit (piece_parts types (piece.Item x i))
  fit-index x (index.Number n) w =
      kind-choice (is_some (types x)) (if_list types x kind.Part) kind.Plain (piece.Item x (index.Number n))
      (λ k. kind-choice (is_some (list_item (or_void (types x)))) kind.Part kind.ValueThenPlain (piece.Item x (index.Number n))
      (λ e. let l = listed x (types x) refl k e in ((l.0, l.1, l.2, l.3, l.4), tt)) (some-held x (types x) refl k, (tt, tt))) (tt, tt)
  fit-index x (index.Name y) w =
      kind-choice (is_some (types x)) (if_list types x (if_in_force types y kind.Part)) kind.Plain (piece.Item x (index.Name y))
      (λ k. kind-choice (is_some (list_item (or_void (types x)))) (if_in_force types y kind.Part) kind.ValueThenPlain (piece.Item x (index.Name y))
      (λ e. let l = listed x (types x) refl k e in
      let named : is_list_named x names ≡ true = ap (λ o. is_some (list_item (or_void o))) l.2.is ∙ ap is_some l.3 in
      kind-choice (is_some (types y)) kind.Part kind.Plain (piece.Item x (index.Name y))
      (λ k. let held = some-held y (types y) refl k in ((l.0, l.1, l.2, l.3, l.4, index-held y ty.Int held.0 int-known held.1 (and-false (is_list_named x names) (differ ty.Int (type_named y names)) named w)), tt)) (tt, tt))
      (some-held x (types x) refl k, (tt, tt))) (tt, tt)

  fit-key : (x : List ℕ) (i : KeyName) → is_wrong_piece names (piece.Key x i) ≡ false → AllFit (piece_parts types (piece.Key x i))
  fit-key x (key_of.Text t) w =
      kind-choice (is_some (types x)) (if_map types x kind.Part) kind.Plain (piece.Key x (key_of.Text t))
      (λ k. kind-choice (is_some (map_item (or_void (types x)))) kind.Part kind.ValueThenPlain (piece.Key x (key_of.Text t))
      (λ e. let l = mapped x (types x) refl k e in ((l.0, l.1, l.2, l.3, l.4), tt)) (some-held x (types x) refl k, (tt, tt))) (tt, tt)
  fit-key x (key_of.Name y) w =
      kind-choice (is_some (types x)) (if_map types x (if_in_force types y kind.Part)) kind.Plain (piece.Key x (key_of.Name y))
      (λ k. kind-choice (is_some (map_item (or_void (types x)))) (if_in_force types y kind.Part) kind.ValueThenPlain (piece.Key x (key_of.Name y))
      (λ e. let l = mapped x (types x) refl k e in
      let named : is_map_named x names ≡ true = ap (λ o. is_some (map_item (or_void o))) l.2.is ∙ ap is_some l.3 in
      kind-choice (is_some (types y)) kind.Part kind.Plain (piece.Key x (key_of.Name y))
      (λ k. let held = some-held y (types y) refl k in ((l.0, l.1, l.2, l.3, l.4, index-held y ty.Text held.0 text-known held.1 (and-false (is_map_named x names) (differ ty.Text (type_named y names)) named w)), tt)) (tt, tt))
      (some-held x (types x) refl k, (tt, tt))) (tt, tt)

  -- in quotes and behind `sys`
  pub piece-fits : (p : Piece) → is_wrong_piece names p ≡ false → AllFit (piece_parts types p)
  piece-fits (piece.Plain t) w = (tt, tt)
  piece-fits (piece.Name x) w = kind-choice (is_some (types x)) kind.Value kind.Plain (piece.Name x) (λ e. (some-held x (types x) refl e, tt)) (tt, tt)
  piece-fits (piece.Item x i) w = fit-index x i w
  piece-fits (piece.Key x i) w = fit-key x i w

  pub pieces-fit : (ps : List Piece) → list_any (is_wrong_piece names) ps ≡ false → AllFit (parts_of types ps)
  pieces-fit [] w = tt
  pieces-fit (p ∷ ps) w = let r = or-none (is_wrong_piece names p) (list_any (is_wrong_piece names) ps) w in all-fit-append (piece_parts types p) (parts_of types ps) (piece-fits p r.0) (pieces-fit ps r.1)
