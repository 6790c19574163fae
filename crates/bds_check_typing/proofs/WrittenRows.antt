-- What the methods of a value take and give are types that can be written, but for those that give nothing.
use Rattle.std.proofs.Common.{◌≡◌, ℕ, ◌==◌, Bool, true, false, ◌&&◌, List, [], ◌∷◌, ◌++◌, Option, Some, None, ap, sym, subst, ◌∙◌, if◌then◌else◌}
use Rattle.std.specs.Prelude.{⊤}
use Rattle.std.specs.List.{AllByRecursion}
use Rattle.std.specs.Option.{option_map}
use Rattle.std.specs.Str.{bytes_eq}
use Rattle.bds_value.specs.declared.value.Ty.{Ty, out-Ty}
use Rattle.bds_value.specs.declared.value.Ty.TheVariants as ty
use Rattle.bds_value.specs.declared.value.Ty.TheOpen.{Ty-F}
use Rattle.bds_value.specs.declared.methods.MethodRow.{MethodRow}
use Rattle.bds_value.specs.Methods as methods
use Rattle.bds_value.specs.Methods.{inner_at, inner_of, find_in, text_rows, list_rows, item_rows, map_rows, rows_of}
use Rattle.bds_value.proofs.Folds.{ty_fold-List, ty_fold-Map}
use Rattle.bds_value.proofs.Induction.{ty_induction}
use Rattle.bds_value.specs.Fields.{solid_step, is_solid}
use Rattle.bds_tree.specs.StmtShape.{is_result}
use Rattle.bds_check_names.specs.declared.rows.Row.{Row}
use Rattle.bds_check_names.specs.Rows.{row_of, row_with}
use Rattle.bds_check_typing.specs.Known.{AreWritten}
use Rattle.bds_check_typing.proofs.Written.{bool-written, int-written, text-written, list-written, texts-written, written-result, void-result}

abbrev pub IsRowWritten : Option Row → Type 0
IsRowWritten None = ⊤
IsRowWritten (Some row) = AreWritten row.takes × (is_result row.gives ≡ true)

-- for the methods of some rows
abbrev AreMethodsWritten : Ty → List methods.Row → Type 0
AreMethodsWritten t rows = AllByRecursion (λ r. IsRowWritten (Some (row_with (inner_of t) (methods.row_of r)))) rows

abbrev with_types : Ty → Option MethodRow → Option Row
with_types t o = option_map (row_with (inner_of t)) o

found-choice : (t : Ty) (here : Bool) (m : MethodRow) (o : Option MethodRow) → IsRowWritten (Some (row_with (inner_of t) m)) → IsRowWritten (with_types t o) → IsRowWritten (with_types t (if here then Some m else o))
found-choice t true m o h k = h
found-choice t false m o h k = k

found-written : (t : Ty) (rows : List methods.Row) (name : List ℕ) (count : ℕ) → AreMethodsWritten t rows → IsRowWritten (with_types t (find_in methods.row_of rows name count))
found-written t [] name count h = tt
found-written t (r ∷ rows) name count h = found-choice t (bytes_eq r.name name && (r.count == count)) (methods.row_of r) (find_in methods.row_of rows name count) h.0 (found-written t rows name count h.1)

both-written : (t : Ty) (xs ys : List methods.Row) → AreMethodsWritten t xs → AreMethodsWritten t ys → AreMethodsWritten t (xs ++ ys)
both-written t [] ys h k = k
both-written t (x ∷ xs) ys h k = (h.0, both-written t xs ys h.1 k)

int-given : is_result ty.Int ≡ true
int-given = written-result ty.Int int-written

bool-given : is_result ty.Bool ≡ true
bool-given = written-result ty.Bool bool-written

text-given : is_result ty.Text ≡ true
text-given = written-result ty.Text text-written

texts-given : is_result (ty.List ty.Text) ≡ true
texts-given = written-result (ty.List ty.Text) texts-written

one-text : AreWritten (ty.Text ∷ [])
one-text = (text-written, tt)

text-methods : AreMethodsWritten ty.Text text_rows
text-methods = (
  (tt, int-given),
  (
    (tt, text-given),
    (
      (tt, text-given),
      (
        (tt, text-given),
        (
          ((int-written, (int-written, tt)), text-given),
          (
            (one-text, bool-given),
            (
              (one-text, bool-given),
              (
                (one-text, int-given),
                (
                  (one-text, int-given),
                  (
                    ((text-written, (text-written, tt)), text-given),
                    (
                      (one-text, texts-given),
                      (
                        (tt, int-given),
                        (
                          (tt, text-given),
                          (
                            (tt, text-given),
                            (
                              (tt, text-given),
                              (
                                (tt, text-given),
                                (
                                  (one-text, text-given),
                                  ((tt, text-given), ((tt, texts-given), ((one-text, void-result), ((tt, void-result), ((tt, bool-given), ((tt, bool-given), ((tt, int-given), tt))))))),
                                ),
                              ),
                            ),
                          ),
                        ),
                      ),
                    ),
                  ),
                ),
              ),
            ),
          ),
        ),
      ),
    ),
  ),
)

-- of a list with items of a type
module _ (t item : Ty) (whole : is_solid t ≡ true) (part : is_solid item ≡ true) (same : inner_of t ≡ item) where
  item-taken : AreWritten (inner_of t ∷ [])
  item-taken = (subst (λ (u : Ty). is_solid u ≡ true) (sym same) part, tt)

  items-given : is_result (ty.List (inner_of t)) ≡ true
  items-given = subst (λ (u : Ty). is_result (ty.List u) ≡ true) (sym same) (written-result (ty.List item) (list-written item part))

  list-methods : AreMethodsWritten t list_rows
  list-methods = (
    (tt, int-given),
    (
      (tt, bool-given),
      (
        (tt, subst (λ (u : Ty). is_result u ≡ true) (sym same) (written-result item part)),
        (
          (tt, items-given),
          (
            (tt, items-given),
            ((item-taken, void-result), ((item-taken, void-result), (((int-written, item-taken), void-result), (((int-written, tt), void-result), tt)))),
          ),
        ),
      ),
    ),
  )

  item-methods : (w : Ty-F Ty) → AreMethodsWritten t (item_rows w)
  item-methods Ty-F.Bool = ((item-taken, bool-given), ((item-taken, void-result), tt))
  item-methods Ty-F.Int = ((item-taken, bool-given), ((item-taken, void-result), ((tt, items-given), tt)))
  item-methods Ty-F.Text = ((item-taken, bool-given), ((item-taken, void-result), ((tt, items-given), ((one-text, text-given), tt))))
  item-methods (Ty-F.List u) = tt
  item-methods (Ty-F.Map u) = tt
  item-methods Ty-F.Void = tt

  map-methods : AreMethodsWritten t map_rows
  map-methods = (
    (tt, int-given),
    ((one-text, bool-given), ((tt, texts-given), ((tt, items-given), ((one-text, void-result), tt)))),
  )

abbrev RowsWritten : Ty → Type 0
RowsWritten t = is_solid t ≡ true → AreMethodsWritten t (rows_of (out-Ty t))

rows-at : (t : Ty) (w : Ty-F Ty) → out-Ty t ≡ w → AreMethodsWritten t (rows_of w) → AreMethodsWritten t (rows_of (out-Ty t))
rows-at t w e h = subst (λ (v : Ty-F Ty). AreMethodsWritten t (rows_of v)) (sym e) h

rows-written : (t : Ty) → RowsWritten t
rows-written = ty_induction RowsWritten
    (λ h. rows-at ty.Bool Ty-F.Bool ty.outs-Bool tt)
    (λ h. rows-at ty.Int Ty-F.Int ty.outs-Int tt)
    (λ h. rows-at ty.Text Ty-F.Text ty.outs-Text text-methods)
    (λ t is h. rows-at (ty.List t) (Ty-F.List t) (ty.outs-List t)
    (both-written (ty.List t) list_rows (item_rows (out-Ty t)) (list-methods (ty.List t) t h (list-item t h) (ap inner_at (ty.outs-List t))) (item-methods (ty.List t) t h (list-item t h) (ap inner_at (ty.outs-List t)) (out-Ty t))))
    (λ t is h. rows-at (ty.Map t) (Ty-F.Map t) (ty.outs-Map t) (map-methods (ty.Map t) t h (map-item t h) (ap inner_at (ty.outs-Map t))))
    (λ h. rows-at ty.Void Ty-F.Void ty.outs-Void tt)
  where
    list-item : (t : Ty) → is_solid (ty.List t) ≡ true → is_solid t ≡ true
    list-item t h = sym (ty_fold-List solid_step t) ∙ h

    map-item : (t : Ty) → is_solid (ty.Map t) ≡ true → is_solid t ≡ true
    map-item t h = sym (ty_fold-Map solid_step t) ∙ h

pub row-written : (t : Ty) (name : List ℕ) (count : ℕ) → is_solid t ≡ true → IsRowWritten (row_of t name count)
row-written t name count h = found-written t (rows_of (out-Ty t)) name count (rows-written t h)
