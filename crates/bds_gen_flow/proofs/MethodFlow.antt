-- Methods: what the code of each does to the operands, by its row in the table.
use Rattle.std.proofs.Common.{◌≡◌, ◌+◌, ℕ, List, [], ◌∷◌, ◌++◌, length, map, reverse, slice_get, Option, Some, None, Ok, Result, Bool, true, false, not, ◌&&◌, refl, sym, ◌∙◌, ap, ap₂, subst, arith, if◌then◌else◌}
use Rattle.std.specs.Prelude.{⊤}
use Rattle.std.specs.List.{AllByRecursion}
use Rattle.std.specs.Option.{ok_or, option_map}
use Rattle.std.proofs.lemmas.List.{length-map, length-reverse}
use Rattle.bds_value.specs.declared.method_numbers.TheConstants.{LINES, LIST_SIZE}
use Rattle.bds_value.specs.declared.methods.Method.{Method}
use Rattle.bds_value.specs.declared.methods.Method.TheVariants as by
use Rattle.bds_value.specs.declared.methods.MethodRow.{MethodRow}
use Rattle.bds_value.specs.declared.value.At.{At}
use Rattle.bds_value.specs.declared.methods.Part.TheVariants as part
use Rattle.bds_value.specs.declared.methods.Takes.TheVariants as takes
use Rattle.bds_value.specs.declared.value.Ty.{Ty, out-Ty, roll-Ty, roll-out-Ty}
use Rattle.bds_value.specs.declared.value.Ty.TheOpen.{Ty-F}
use Rattle.bds_value.specs.declared.value.Ty.TheVariants as ty
use Rattle.bds_value.specs.Methods as methods
use Rattle.bds_value.specs.Methods.{Row as NamedRow, part_ty, parts_of, gives_ty, inner_at, inner_of, text_rows, inner_rows, list_rows, item_rows, map_rows, rows_of, rows_at, row_in, row_at, row_named, arguments_of, signature_of}
use Rattle.bds_value.specs.Results.{◌>>=◌}
use Rattle.bds_value.specs.Types.{is_void, list_item_at, map_item_at}
use Rattle.bds_value.specs.Fields.{is_solid}
use Rattle.bds_value.proofs.MethodLaws.{method_of-row}
use Rattle.bds_tree.specs.Tree.{Tree, Trees, type_of}
use Rattle.bds_code.specs.declared.effects.EffectFault.{EffectFault}
use Rattle.bds_code.specs.declared.effects.EffectFault.TheVariants.{Needs}
use Rattle.bds_code.specs.declared.instr.Instr.{Instr}
use Rattle.bds_code.specs.declared.instr.Instr.TheVariants.{Method as CallMethod, FileRead, FileWrite, FileRemove, FileStamp}
use Rattle.bds_code.specs.declared.unit.Function.{Function}
use Rattle.bds_code.specs.declared.unit.Unit.{Unit as CodeUnit}
use Rattle.bds_code.specs.Operands.{there, taken, all_taken, given, giving, swapped}
use Rattle.bds_code.specs.Row.{row}
use Rattle.bds_code.specs.MethodRows.{Operands, exchanged, applied, method}
use Rattle.bds_code.specs.UpdateRows.{change_rows, mutated}
use Rattle.bds_verify.specs.Verified.{goes_on, target}
use Rattle.bds_check_names.specs.declared.names.Asked.{Asked}
use Rattle.bds_check_names.specs.declared.rows.Row.{Row}
use Rattle.bds_check_names.specs.Types.{is_known}
use Rattle.bds_check_names.specs.Scopes.{is_value}
use Rattle.bds_check_names.specs.Rows.{is_change, row_with, row_of}
use Rattle.bds_check_rules.specs.declared.rules.Rule.{Rule}
use Rattle.bds_check_rules.specs.declared.rules.Rule.TheVariants as rule
use Rattle.bds_check_rules.specs.Pieces.{when}
use Rattle.bds_check_rules.specs.Typing.{count as tree_count, given_by}
use Rattle.bds_check_rules.specs.Breaks.{method_rule, any_argument_differs, is_place}
use Rattle.bds_check_size.specs.ExprSize.{method_size}
use Rattle.bds_check_typing.specs.Known.{AreWritten}
use Rattle.bds_check_typing.proofs.Written.{written-known, list-item-written, map-item-written}
use Rattle.bds_check_typing.proofs.WrittenRows.{IsRowWritten, row-written}
use Rattle.bds_gen_expr.specs.Marks.{Mark, one}
use Rattle.bds_gen_expr.specs.ExprCode.{file_code, method_code}
use Rattle.bds_gen_flow.proofs.RowEffects.{not_void, int-solid, given-is, text-solid, list-solid, taken-is, swap_one}
use Rattle.bds_gen_flow.specs.Flow.{Runs}
use Rattle.bds_gen_flow.proofs.Flow.{runs_then, runs_one, runs_does}
use Rattle.bds_gen_flow.specs.Fits.{AreAllKnown}
use Rattle.bds_gen_flow.proofs.ExprParts.{AllKnown, AreSolid, all-taken, solid-reverse, types_below, types_in, below-is, arguments-are, when-none}
use Rattle.bds_gen_flow.proofs.FoundRows.{Finds, found-row}

-- What a row takes and gives, where the items or values of its receiver have a type

abbrev takes_at : Ty → MethodRow → List Ty
takes_at item r = map (part_ty item) (parts_of r.takes)

abbrev gives_at : Ty → MethodRow → Ty
gives_at item r = gives_ty item r.gives

get-behind : (ts : List Ty) (t : Ty) (s : List Ty) → slice_get (ts ++ (t ∷ s)) (length ts) ≡ Some t
get-behind [] t s = refl
get-behind (u ∷ ts) t s = get-behind ts t s

abbrev with_row : ℕ → List Ty → Ty → Result (List Ty) EffectFault
with_row c s receiver = ok_or (row_at receiver (by.Plain c)) Needs >>= λ r. applied receiver r s

abbrev with_receiver : ℕ → List Ty → ℕ → Result (List Ty) EffectFault
with_receiver c s n = ok_or (slice_get s n) Needs >>= with_row c s

-- a method whose row the receiver has finds it by its number
method-row : (receiver item : Ty) (r : MethodRow) (c : ℕ) (s : List Ty) → inner_of receiver ≡ item → arguments_of (by.Plain c) ≡ Some (length (parts_of r.takes)) → row_at receiver (by.Plain c) ≡ Some r → AreSolid (takes_at item r) → is_void receiver ≡ false
    → method c (reverse (takes_at item r) ++ (receiver ∷ s)) ≡ Ok (given (gives_at item r) ++ s)
method-row receiver item r c s i a e h v =
    let ts : List Ty = takes_at item r in
    let below : List Ty = reverse ts ++ (receiver ∷ s) in
    let long : length (reverse ts) ≡ length (parts_of r.takes) = length-reverse ts ∙ length-map (parts_of r.takes) (part_ty item) in
    ap (λ o. there o c >>= with_receiver c below) a
    ∙ ap (with_receiver c below) (sym long)
    ∙ ap (λ o. ok_or o Needs >>= with_row c below) (get-behind (reverse ts) receiver s)
    ∙ ap (λ o. ok_or o Needs >>= λ y. applied receiver y below) e
    ∙ ap (λ i. exchanged receiver i r below) i
    ∙ ap (λ x. x >>= taken receiver >>= giving (gives_at item r)) (all-taken (reverse ts) (receiver ∷ s) (solid-reverse ts h))
    ∙ ap (λ x. x >>= giving (gives_at item r)) (taken-is receiver s v)

-- the size of a list
abbrev size_row : MethodRow
size_row = record { method = by.Plain LIST_SIZE; takes = takes.Nothing; gives = Some part.Int }

pub list-size : (t : Ty) (s : List Ty) → is_void t ≡ false → method LIST_SIZE (ty.List t ∷ s) ≡ Ok (ty.Int ∷ s)
list-size t s v =
    method-row (ty.List t) t size_row LIST_SIZE s (ap inner_at (ty.outs-List t)) refl
    (ap (λ w. row_in (rows_at w) (by.Plain LIST_SIZE)) (ty.outs-List t) ∙ ap (λ (b : Bool). row_in (if b then [] else list_rows ++ item_rows (out-Ty t)) (by.Plain LIST_SIZE)) v) tt (list-solid t)
    ∙ given-is ty.Int s int-solid

-- a change finds its row by its number too
change-row : (receiver item : Ty) (r : MethodRow) (c : ℕ) (s : List Ty) → inner_of receiver ≡ item → row_at receiver (by.Change c) ≡ Some r → AreSolid (takes_at item r) → mutated c receiver (reverse (takes_at item r) ++ s) ≡ Ok s
change-row receiver item r c s i e h =
    ap (λ o. ok_or o Needs >>= λ y. all_taken (reverse (takes_at (inner_of receiver) y)) (reverse (takes_at item r) ++ s)) e
    ∙ ap (λ i. all_taken (reverse (takes_at i r)) (reverse (takes_at item r) ++ s)) i
    ∙ all-taken (reverse (takes_at item r)) s (solid-reverse (takes_at item r) h)

swap-any : (takes : List Ty) (t : Ty) (s : List Ty) → AreSolid takes → swapped takes t (takes ++ s) ≡ Ok (given t ++ s)
swap-any takes t s h = ap (λ r. r >>= giving t) (all-taken takes s h)

known-all : (ts : List Ty) → AreWritten ts → AreAllKnown ts
known-all [] h = tt
known-all (t ∷ ts) h = (written-known t h.0, known-all ts h.1)

solid-all : (ts : List Ty) → AreWritten ts → AreSolid ts
solid-all [] h = tt
solid-all (t ∷ ts) h = (not_void t (written-known t h.0), solid-all ts h.1)

-- no change is asked for a value
pub change-refused : (asked : Asked) (a : Tree) (es : Trees) (k : Row) → k.changes ≡ true → is_value asked ≡ true → method_rule asked a (Some k) es ≡ None → ⊥
change-refused asked a es k c v b =
    let last : Option Rule = when (k.changes && is_value asked) rule.MutatorValue None in
    let third : Option Rule = when (k.changes && not (is_place a)) rule.NotPlace last in
    let second : Option Rule = when (is_value asked && not k.changes && not (is_known k.gives)) rule.VoidValue third in
    let r1 = when-none (any_argument_differs k.takes es) rule.WrongType second b in
    let r2 = when-none (is_value asked && not k.changes && not (is_known k.gives)) rule.VoidValue third r1.1 in
    let r3 = when-none (k.changes && not (is_place a)) rule.NotPlace last r2.1 in
    let r4 = (when-none (k.changes && is_value asked) rule.MutatorValue None r3.1).0 in
    let yes_both : (k.changes && is_value asked) ≡ true = ap₂ (λ (x y : Bool). x && y) c v in
    let clash : true ≡ false = sym yes_both ∙ r4 in
    absurd (cc)

module _ (u : CodeUnit) (f : Function) (Labels : ℕ → List Ty → Type 0) (Ticks : ℕ → Type 0) where
  abbrev Run : List Mark → ℕ → ℕ → List Ty → List Ty → Type 0
  Run = Runs u f Labels Ticks

  -- the code of a method takes what its row says, and leaves what it gives
  abbrev pub Does : Ty → ℕ → Method → Row → Type 0
  Does receiver n m k = (length k.takes ≡ n) × AreAllKnown k.takes × (k.changes ≡ false) × ((at : At) (p : ℕ) (s : List Ty) → Run (method_code at (Some m)) p (p + method_size (Some m)) (reverse k.takes ++ (receiver ∷ s)) (given k.gives ++ s))

  abbrev pub Changes : Ty → ℕ → ℕ → Row → Type 0
  Changes receiver n c k = (length k.takes ≡ n) × AreAllKnown k.takes × (k.changes ≡ true) × ((change : Ty → Operands) × (slice_get change_rows c ≡ Some change) × ((s : List Ty) → change receiver (reverse k.takes ++ s) ≡ Ok s))

  abbrev pub RowFits : Ty → ℕ → Method → Option Row → Type 0
  RowFits receiver n m None = ⊤
  RowFits receiver n (by.Plain c) (Some k) = Does receiver n (by.Plain c) k
  RowFits receiver n (by.File c) (Some k) = Does receiver n (by.File c) k
  RowFits receiver n (by.Change c) (Some k) = Changes receiver n c k

  -- a row among those of its receiver: it is found by the number of its method, or the code of the file does it
  abbrev IsIn : Ty → List NamedRow → Method → NamedRow → Type 0
  IsIn receiver table (by.Plain c) r = (arguments_of (by.Plain c) ≡ Some (length (parts_of r.takes))) × (row_in table (by.Plain c) ≡ Some (methods.row_of r))
  IsIn receiver table (by.File c) r =
      (item : Ty) (at : At) (p : ℕ) (s : List Ty) → Run (file_code at c) p (p + method_size (Some (by.File c))) (reverse (takes_at item (methods.row_of r)) ++ (receiver ∷ s)) (given (gives_at item (methods.row_of r)) ++ s)
  IsIn receiver table (by.Change c) r = (slice_get change_rows c ≡ Some (mutated c)) × (row_in table (by.Change c) ≡ Some (methods.row_of r))

  abbrev IsRowIn : Ty → List NamedRow → NamedRow → Type 0
  IsRowIn receiver table r = (r.count ≡ length (parts_of r.takes)) × IsIn receiver table r.method r

  abbrev AreIn : Ty → List NamedRow → List NamedRow → Type 0
  AreIn receiver table rows = AllByRecursion (IsRowIn receiver table) rows

  one_text : (i : Instr) (at : At) (p : ℕ) (t : Ty) (s : List Ty) → target i ≡ None → goes_on i ≡ true → row u f i (ty.Text ∷ s) ≡ Ok (given t ++ s) → Run (one at i) p (p + 1) (ty.Text ∷ s) (given t ++ s)
  one_text i at p t s j g r = runs_one u f Labels Ticks i at p (p + 1) (ty.Text ∷ s) (given t ++ s) refl j g r

  -- the row of a method that has no name
  abbrev lines_row : MethodRow
  lines_row = record { method = by.Plain LINES; takes = takes.Nothing; gives = Some part.Texts }

  text-in : AreIn ty.Text (text_rows ++ inner_rows) text_rows
  text-in = (
    (refl, (refl, refl)),
    (
      (refl, (refl, refl)),
      (
        (refl, (refl, refl)),
        (
          (refl, (refl, refl)),
          (
            (refl, (refl, refl)),
            (
              (refl, (refl, refl)),
              (
                (refl, (refl, refl)),
                (
                  (refl, (refl, refl)),
                  (
                    (refl, (refl, refl)),
                    (
                      (refl, (refl, refl)),
                      (
                        (refl, (refl, refl)),
                        (
                          (refl, (refl, refl)),
                          (
                            (refl, (refl, refl)),
                            (
                              (refl, (refl, refl)),
                              (
                                (refl, (refl, refl)),
                                (
                                  (refl, (refl, refl)),
                                  (
                                    (refl, (refl, refl)),
                                    (
                                      (refl, λ item at p s. one_text FileRead at p ty.Text s refl refl (swap-any (ty.Text ∷ []) ty.Text s (text-solid, tt))),
                                      (
                                        (
                                          refl,
                                          λ item at p s. runs_does u f Labels Ticks FileRead at (one at (CallMethod LINES)) p (p + 2) (ty.Text ∷ s) (ty.Text ∷ s) (given (ty.List ty.Text) ++ s) refl refl (swap_one ty.Text ty.Text s text-solid text-solid)
                                              (runs_one u f Labels Ticks (CallMethod LINES) at (p + 1) (p + 2) (ty.Text ∷ s) (given (ty.List ty.Text) ++ s) (omega arith) refl refl
                                              (method-row ty.Text ty.Void lines_row LINES s (ap inner_at ty.outs-Text) refl (ap (λ w. row_in (rows_at w) (by.Plain LINES)) ty.outs-Text) tt text-solid)),
                                        ),
                                        (
                                          (refl, λ item at p s. runs_one u f Labels Ticks FileWrite at p (p + 1) (ty.Text ∷ ty.Text ∷ s) (given ty.Void ++ s) refl refl refl (swap-any (ty.Text ∷ ty.Text ∷ []) ty.Void s (text-solid, (text-solid, tt)))),
                                          (
                                            (refl, λ item at p s. one_text FileRemove at p ty.Void s refl refl (swap-any (ty.Text ∷ []) ty.Void s (text-solid, tt))),
                                            (
                                              (refl, λ item at p s. one_text (FileStamp 0) at p ty.Bool s refl refl (swap-any (ty.Text ∷ []) ty.Bool s (text-solid, tt))),
                                              (
                                                (refl, λ item at p s. one_text (FileStamp 1) at p ty.Bool s refl refl (swap-any (ty.Text ∷ []) ty.Bool s (text-solid, tt))),
                                                (
                                                  (refl, λ item at p s. one_text (FileStamp 2) at p ty.Int s refl refl (swap-any (ty.Text ∷ []) ty.Int s (text-solid, tt))),
                                                  tt,
                                                ),
                                              ),
                                            ),
                                          ),
                                        ),
                                      ),
                                    ),
                                  ),
                                ),
                              ),
                            ),
                          ),
                        ),
                      ),
                    ),
                  ),
                ),
              ),
            ),
          ),
        ),
      ),
    ),
  )

  list-in : (receiver : Ty) (w : Ty-F Ty) → AreIn receiver (list_rows ++ item_rows w) (list_rows ++ item_rows w)
  list-in receiver w = (
    (refl, (refl, refl)),
    (
      (refl, (refl, refl)),
      (
        (refl, (refl, refl)),
        (
          (refl, (refl, refl)),
          (
            (refl, (refl, refl)),
            ((refl, (refl, refl)), ((refl, (refl, refl)), ((refl, (refl, refl)), ((refl, (refl, refl)), further w)))),
          ),
        ),
      ),
    ),
  )
    where
      further : (w : Ty-F Ty) → AreIn receiver (list_rows ++ item_rows w) (item_rows w)
      further Ty-F.Bool = ((refl, (refl, refl)), ((refl, (refl, refl)), tt))
      further Ty-F.Int = ((refl, (refl, refl)), ((refl, (refl, refl)), ((refl, (refl, refl)), tt)))
      further Ty-F.Text = ((refl, (refl, refl)), ((refl, (refl, refl)), ((refl, (refl, refl)), ((refl, (refl, refl)), tt))))
      further (Ty-F.List t) = tt
      further (Ty-F.Map t) = tt
      further Ty-F.Void = tt

  map-in : (receiver : Ty) → AreIn receiver map_rows map_rows
  map-in receiver = ((refl, (refl, refl)), ((refl, (refl, refl)), ((refl, (refl, refl)), ((refl, (refl, refl)), ((refl, (refl, refl)), tt)))))

  rows-in : (receiver : Ty) (w : Ty-F Ty) → out-Ty receiver ≡ w → is_solid receiver ≡ true → AreIn receiver (rows_at w) (rows_of w)
  rows-in receiver Ty-F.Text e h = subst (λ t. AreIn t (text_rows ++ inner_rows) text_rows) (sym (sym (roll-out-Ty receiver) ∙ ap roll-Ty e ∙ ty.rolls-Text)) text-in
  rows-in receiver (Ty-F.List t) e h =
      let solid : is_void t ≡ false = not_void t (written-known t (list-item-written receiver t h (ap list_item_at e))) in
      subst (λ (b : Bool). AreIn receiver (if b then [] else list_rows ++ item_rows (out-Ty t)) (list_rows ++ item_rows (out-Ty t))) (sym solid) (list-in receiver (out-Ty t))
  rows-in receiver (Ty-F.Map t) e h =
      let solid : is_void t ≡ false = not_void t (written-known t (map-item-written receiver t h (ap map_item_at e))) in
      subst (λ (b : Bool). AreIn receiver (if b then [] else map_rows) map_rows) (sym solid) (map-in receiver)
  rows-in receiver Ty-F.Bool e h = tt
  rows-in receiver Ty-F.Int e h = tt
  rows-in receiver Ty-F.Void e h = tt

  fits-by : (receiver : Ty) (m : Method) (r : NamedRow) (n : ℕ) → r.method ≡ m → r.count ≡ n → is_void receiver ≡ false → AreWritten (takes_at (inner_of receiver) (methods.row_of r)) → r.count ≡ length (parts_of r.takes) → IsIn receiver (rows_at (out-Ty receiver)) m r
      → RowFits receiver n m (Some (row_with (inner_of receiver) (methods.row_of r)))
  fits-by receiver m r n em en v w c h = by_method m em h
    where
      long : length (takes_at (inner_of receiver) (methods.row_of r)) ≡ n
      long = length-map (parts_of r.takes) (part_ty (inner_of receiver)) ∙ sym c ∙ en

      solid : AreSolid (takes_at (inner_of receiver) (methods.row_of r))
      solid = solid-all (takes_at (inner_of receiver) (methods.row_of r)) w

      knowns : AreAllKnown (takes_at (inner_of receiver) (methods.row_of r))
      knowns = known-all (takes_at (inner_of receiver) (methods.row_of r)) w

      by_method : (m : Method) → r.method ≡ m → IsIn receiver (rows_at (out-Ty receiver)) m r → RowFits receiver n m (Some (row_with (inner_of receiver) (methods.row_of r)))
      by_method (by.Plain k) e h = (
        long,
        knowns,
        ap is_change e,
        λ at p s. runs_one u f Labels Ticks (CallMethod k) at p (p + 1) (reverse (takes_at (inner_of receiver) (methods.row_of r)) ++ (receiver ∷ s)) (given (gives_at (inner_of receiver) (methods.row_of r)) ++ s) refl refl refl
            (method-row receiver (inner_of receiver) (methods.row_of r) k s refl h.0 h.1 solid v),
      )
      by_method (by.File k) e h = (
        long,
        knowns,
        ap is_change e,
        λ at p s. h (inner_of receiver) at p s,
      )
      by_method (by.Change k) e h = (long, knowns, ap is_change e, (mutated k, h.0, λ s. change-row receiver (inner_of receiver) (methods.row_of r) k s refl h.1 solid))

  pub row-fits : (receiver : Ty) (x : List ℕ) (n : ℕ) (m : Method) → is_solid receiver ≡ true → signature_of receiver x n ≡ Some m → RowFits receiver n m (row_of receiver x n)
  row-fits receiver x n m w e = by_row (row_named receiver x n) refl
    where
      some-same : (a b : Method) → Some a ≡ Some b → a ≡ b
      some-same a b e = cc

      by_row : (o : Option MethodRow) → row_named receiver x n ≡ o → RowFits receiver n m (row_of receiver x n)
      by_row None q = subst (RowFits receiver n m) (sym (ap (option_map (row_with (inner_of receiver))) q)) tt
      by_row (Some y) q =
          let found : Finds (IsRowIn receiver (rows_at (out-Ty receiver))) n y = found-row (rows_of (out-Ty receiver)) x n y (rows-in receiver (out-Ty receiver) refl w) q in
          let r : NamedRow = found.0 in
          let row_is : row_of receiver x n ≡ Some (row_with (inner_of receiver) (methods.row_of r)) = ap (option_map (row_with (inner_of receiver))) q ∙ ap (λ z. Some (row_with (inner_of receiver) z)) (sym found.2) in
          let method_is : r.method ≡ m = some-same r.method m (ap (λ (z : MethodRow). Some z.method) found.2 ∙ ap (option_map (λ (z : MethodRow). z.method)) (sym q) ∙ method_of-row (rows_of (out-Ty receiver)) x n ∙ e) in
          let written : IsRowWritten (Some (row_with (inner_of receiver) (methods.row_of r))) = subst IsRowWritten row_is (row-written receiver x n w) in
          subst (RowFits receiver n m) (sym row_is)
          (fits-by receiver m r n method_is found.3 (not_void receiver (written-known receiver w)) written.0 found.1.0 (subst (λ z. IsIn receiver (rows_at (out-Ty receiver)) z r) method_is found.1.1))

  below-args : (ts : List Ty) (es : Trees) (s : List Ty) → ts ≡ types_in es → types_below es s ≡ reverse ts ++ s
  below-args ts es s e = below-is es s ∙ ap (λ x. reverse x ++ s) (sym e)

  does-run : (m : Method) (asked : Asked) (a : Tree) (es : Trees) (at : At) (t : Ty) (ms : List Mark) (p q : ℕ) (s : List Ty) (k : Row) → Does (type_of a) (tree_count es) m k → method_rule asked a (Some k) es ≡ None → t ≡ k.gives → AllKnown es
      → Run ms p q s (types_below es (type_of a ∷ s)) → Run (ms ++ method_code at (Some m)) p (q + method_size (Some m)) s (given t ++ s)
  does-run m asked a es at t ms p q s k d b is ka run =
      let third : Option Rule = when (k.changes && not (is_place a)) rule.NotPlace (when (k.changes && is_value asked) rule.MutatorValue None) in
      let second : Option Rule = when (is_value asked && not k.changes && not (is_known k.gives)) rule.VoidValue third in
      let differs = (when-none (any_argument_differs k.takes es) rule.WrongType second b).0 in
      let same : k.takes ≡ types_in es = arguments-are k.takes es ka d.1 differs d.0 in
      let below = below-args k.takes es (type_of a ∷ s) same in
      let code : List Mark = method_code at (Some m) in
      let last : Run code q (q + method_size (Some m)) (types_below es (type_of a ∷ s)) (given t ++ s) =
      subst (λ x. Run code q (q + method_size (Some m)) x (given t ++ s)) (sym below) (subst (λ y. Run code q (q + method_size (Some m)) (reverse k.takes ++ (type_of a ∷ s)) (given y ++ s)) (sym is) (d.3 at q s)) in
      runs_then u f Labels Ticks ms code p q (q + method_size (Some m)) s (types_below es (type_of a ∷ s)) (given t ++ s) run last

  abbrev pub IsChange : Method → Type 0
  IsChange (by.Change c) = ⊤
  IsChange (by.Plain c) = ⊥
  IsChange (by.File c) = ⊥

  known-run : (m : Method) (o : Option Row) (asked : Asked) (a : Tree) (es : Trees) (at : At) (t : Ty) (ms : List Mark) (p q : ℕ) (s : List Ty) → RowFits (type_of a) (tree_count es) m o → is_known (type_of a) ≡ true → method_rule asked a o es ≡ None → t ≡ given_by o
      → (IsChange m → is_value asked ≡ true) → AllKnown es → Run ms p q s (types_below es (type_of a ∷ s)) → Run (ms ++ method_code at (Some m)) p (q + method_size (Some m)) s (given t ++ s)
  known-run m None asked a es at t ms p q s d w b is v ka run = absurd (let clash : true ≡ false = sym w ∙ (when-none (is_known (type_of a)) rule.UnknownMethod None b).0 in cc)
  known-run (by.Plain c) (Some k) asked a es at t ms p q s d w b is v ka run = does-run (by.Plain c) asked a es at t ms p q s k d b is ka run
  known-run (by.File c) (Some k) asked a es at t ms p q s d w b is v ka run = does-run (by.File c) asked a es at t ms p q s k d b is ka run
  known-run (by.Change c) (Some k) asked a es at t ms p q s d w b is v ka run = absurd (change-refused asked a es k d.2 (v tt) b)

  abbrev pub IsMaybeChange : Option Method → Type 0
  IsMaybeChange None = ⊥
  IsMaybeChange (Some m) = IsChange m

  -- a method behind its receiver and arguments
  pub method_runs : (sig : Option Method) (asked : Asked) (a : Tree) (es : Trees) (x : List ℕ) (at : At) (t : Ty) (ms : List Mark) (p q : ℕ) (s : List Ty) → signature_of (type_of a) x (tree_count es) ≡ sig → is_solid (type_of a) ≡ true
      → method_rule asked a (row_of (type_of a) x (tree_count es)) es ≡ None → t ≡ given_by (row_of (type_of a) x (tree_count es)) → (IsMaybeChange sig → is_value asked ≡ true) → AllKnown es
      → Run ms p q s (types_below es (type_of a ∷ s)) → Run (ms ++ method_code at sig) p (q + method_size sig) s (given t ++ s)
  method_runs None asked a es x at t ms p q s e w b is v ka run = absurd (by_row (row_named (type_of a) x (tree_count es)) refl)
    where
      by_row : (o : Option MethodRow) → row_named (type_of a) x (tree_count es) ≡ o → ⊥
      by_row None r =
          let b1 : method_rule asked a None es ≡ None = sym (ap (λ (o : Option MethodRow). method_rule asked a (option_map (row_with (inner_of (type_of a))) o) es) r) ∙ b in
          absurd (let clash : true ≡ false = sym (written-known (type_of a) w) ∙ (when-none (is_known (type_of a)) rule.UnknownMethod None b1).0 in cc)
      by_row (Some y) r =
          absurd (let clash : Some y.method ≡ None = ap (option_map (λ (z : MethodRow). z.method)) (sym r) ∙ method_of-row (rows_of (out-Ty (type_of a))) x (tree_count es) ∙ e in cc)
  method_runs (Some m) asked a es x at t ms p q s e w b is v ka run =
      known-run m (row_of (type_of a) x (tree_count es)) asked a es at t ms p q s (row-fits (type_of a) x (tree_count es) m w e) (written-known (type_of a) w) b is v ka run
