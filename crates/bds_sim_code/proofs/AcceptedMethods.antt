-- The methods of an accepted script: each takes as many arguments as the machine counts, and gives a value or none as its type says.
use Rattle.std.proofs.Common.{◌≡◌, ℕ, List, ◌++◌, slice_get, Option, Some, None, true, refl, sym, ◌∙◌, ap, subst, cond, inl, inr}
use Rattle.std.specs.List.{AllByRecursion}
use Rattle.std.specs.Option.{option_map}
use Rattle.bds_value.specs.declared.methods.Method.{Method}
use Rattle.bds_value.specs.declared.methods.Method.TheVariants as by
use Rattle.bds_value.specs.declared.methods.MethodRow.{MethodRow}
use Rattle.bds_value.specs.declared.methods.Part.{Part}
use Rattle.bds_value.specs.declared.value.Ty.{Ty, out-Ty}
use Rattle.bds_value.specs.declared.value.Ty.TheVariants as ty
use Rattle.bds_value.specs.declared.value.Ty.TheOpen.{Ty-F}
use Rattle.bds_value.specs.Fields.{is_solid}
use Rattle.bds_value.specs.Methods as methods
use Rattle.bds_value.specs.Methods.{Row as NamedRow, gives_ty, inner_at, inner_of, text_rows, list_rows, item_rows, map_rows, rows_of, row_named, signature_of}
use Rattle.bds_value.specs.Types.{list_item_at, map_item_at}
use Rattle.bds_value.proofs.MethodLaws.{method_of-row}
use Rattle.bds_code.specs.declared.unit.Unit.{Unit as CodeUnit}
use Rattle.bds_check_names.specs.declared.names.Names.{Names as Checked}
use Rattle.bds_check_names.specs.declared.rows.Row.{Row}
use Rattle.bds_check_names.specs.Rows.{is_change, row_of, row_with}
use Rattle.bds_check_rules.specs.Typing.{given_by}
use Rattle.bds_check_typing.proofs.Written.{bool-written, int-written, text-written, list-written, texts-written, written-known, void-unknown, list-item-written, map-item-written}
use Rattle.bds_gen_expr.specs.declared.scope.Scope.{Scope}
use Rattle.bds_gen_flow.proofs.FoundRows.{Finds, found-row}
use Rattle.bds_gen_flow.proofs.RowEffects.{not_void, unknown-void}
use Rattle.bds_machine_values.specs.Values.{argument_counts}
use Rattle.bds_machine_values.specs.Updates.{operand_counts}
use Rattle.bds_sim_terms.specs.steps.Stands.{IsMutation, Source, results}
use Rattle.bds_sim_code.specs.Here.{IsOne, FileGives}

-- a type that can be written has a value
pub one-value : (t : Ty) → is_solid t ≡ true → IsOne t
one-value t h = ap (λ b. cond b 0 1) (not_void t (written-known t h))

no-value : results ty.Void ≡ 0
no-value = ap (λ b. cond b 0 1) (unknown-void ty.Void void-unknown)

bool-one : IsOne ty.Bool
bool-one = one-value ty.Bool bool-written

int-one : IsOne ty.Int
int-one = one-value ty.Int int-written

text-one : IsOne ty.Text
text-one = one-value ty.Text text-written

texts-one : IsOne (ty.List ty.Text)
texts-one = one-value (ty.List ty.Text) texts-written

some-method : (a b : Method) → Some a ≡ Some b → a ≡ b
some-method a b e = cc

-- the row of a method that changes its receiver says so
pub change-said : (receiver : Ty) (x : List ℕ) (n c : ℕ) → signature_of receiver x n ≡ Some (by.Change c) → (k : Row) × (row_of receiver x n ≡ Some k) × (k.changes ≡ true)
change-said receiver x n c e = by_row (row_named receiver x n) refl
  where
    by_row : (o : Option MethodRow) → row_named receiver x n ≡ o → (k : Row) × (row_of receiver x n ≡ Some k) × (k.changes ≡ true)
    by_row None q = absurd (let clash : None ≡ Some (by.Change c) = ap (option_map (λ (z : MethodRow). z.method)) (sym q) ∙ method_of-row (rows_of (out-Ty receiver)) x n ∙ e in cc)
    by_row (Some y) q =
        let method_is : y.method ≡ by.Change c = some-method y.method (by.Change c) (ap (option_map (λ (z : MethodRow). z.method)) (sym q) ∙ method_of-row (rows_of (out-Ty receiver)) x n ∙ e) in
        (row_with (inner_of receiver) y, ap (option_map (row_with (inner_of receiver))) q, ap is_change method_is)

-- where its type is known it has a row
pub no-method : (receiver : Ty) (x : List ℕ) (n : ℕ) → signature_of receiver x n ≡ None → row_of receiver x n ≡ None
no-method receiver x n e = by_row (row_named receiver x n) refl
  where
    by_row : (o : Option MethodRow) → row_named receiver x n ≡ o → row_of receiver x n ≡ None
    by_row None q = ap (option_map (row_with (inner_of receiver))) q
    by_row (Some y) q = absurd (let clash : Some y.method ≡ None = ap (option_map (λ (z : MethodRow). z.method)) (sym q) ∙ method_of-row (rows_of (out-Ty receiver)) x n ∙ e in cc)

abbrev how_many : Option Part → ℕ
how_many None = 0
how_many (Some p) = 1

module _ (o : Source) (u : CodeUnit) (names : Checked) (sc : Scope) where
  -- by its row
  abbrev RowCounts : Method → ℕ → ℕ → Type 0
  RowCounts (by.Plain m) n k = (slice_get argument_counts m ≡ Some n) × (k ≡ 1)
  RowCounts (by.File q) n k = FileGives o u names sc q n k
  RowCounts (by.Change m) n k = IsMutation m × (slice_get operand_counts m ≡ Some n)

  abbrev IsCounted : Ty → NamedRow → Type 0
  IsCounted item r = RowCounts r.method r.count (how_many r.gives) × (results (gives_ty item r.gives) ≡ how_many r.gives)

  abbrev AreCounted : Ty → List NamedRow → Type 0
  AreCounted item rows = AllByRecursion (IsCounted item) rows

  texts-counted : (item : Ty) → AreCounted item text_rows
  texts-counted item = (
    ((refl, refl), int-one),
    (
      ((refl, refl), text-one),
      (
        ((refl, refl), text-one),
        (
          ((refl, refl), text-one),
          (
            ((refl, refl), text-one),
            (
              ((refl, refl), bool-one),
              (
                ((refl, refl), bool-one),
                (
                  ((refl, refl), int-one),
                  (
                    ((refl, refl), int-one),
                    (
                      ((refl, refl), text-one),
                      (
                        ((refl, refl), texts-one),
                        (
                          ((refl, refl), int-one),
                          (
                            ((refl, refl), text-one),
                            (
                              ((refl, refl), text-one),
                              (
                                ((refl, refl), text-one),
                                (
                                  ((refl, refl), text-one),
                                  (
                                    ((refl, refl), text-one),
                                    (
                                      ((refl, refl), text-one),
                                      (
                                        ((refl, refl), texts-one),
                                        (((refl, refl), no-value), (((refl, refl), no-value), (((refl, refl), bool-one), (((refl, refl), bool-one), (((refl, refl), int-one), tt))))),
                                      ),
                                    ),
                                  ),
                                ),
                              ),
                            ),
                          ),
                        ),
                      ),
                    ),
                  ),
                ),
              ),
            ),
          ),
        ),
      ),
    ),
  )

  push : IsMutation 6
  push = inl refl

  insert : IsMutation 7
  insert = inr (inl refl)

  remove_index : IsMutation 8
  remove_index = inr (inr (inl refl))

  remove_item : IsMutation 9
  remove_item = inr (inr (inr (inl refl)))

  remove_key : IsMutation 10
  remove_key = inr (inr (inr (inr refl)))

  items-counted : (item : Ty) → is_solid item ≡ true → (w : Ty-F Ty) → AreCounted item (item_rows w)
  items-counted item h Ty-F.Bool = (((refl, refl), bool-one), (((remove_item, refl), no-value), tt))
  items-counted item h Ty-F.Int = (((refl, refl), bool-one), (((remove_item, refl), no-value), (((refl, refl), one-value (ty.List item) (list-written item h)), tt)))
  items-counted item h Ty-F.Text = (((refl, refl), bool-one), (((remove_item, refl), no-value), (((refl, refl), one-value (ty.List item) (list-written item h)), (((refl, refl), text-one), tt))))
  items-counted item h (Ty-F.List t) = tt
  items-counted item h (Ty-F.Map t) = tt
  items-counted item h Ty-F.Void = tt

  list-counted : (item : Ty) → is_solid item ≡ true → (w : Ty-F Ty) → AreCounted item (list_rows ++ item_rows w)
  list-counted item h w =
      let one = one-value item h in
      let many = one-value (ty.List item) (list-written item h) in (
        ((refl, refl), int-one),
        (
          ((refl, refl), bool-one),
          (
            ((refl, refl), one),
            (
              ((refl, refl), many),
              (
                ((refl, refl), many),
                (((push, refl), no-value), (((push, refl), no-value), (((insert, refl), no-value), (((remove_index, refl), no-value), items-counted item h w)))),
              ),
            ),
          ),
        ),
      )

  map-counted : (item : Ty) → is_solid item ≡ true → AreCounted item map_rows
  map-counted item h = (((refl, refl), int-one), (((refl, refl), bool-one), (((refl, refl), texts-one), (((refl, refl), one-value (ty.List item) (list-written item h)), (((remove_key, refl), no-value), tt)))))

  rows-counted : (receiver : Ty) (w : Ty-F Ty) → out-Ty receiver ≡ w → is_solid receiver ≡ true → AreCounted (inner_at w) (rows_of w)
  rows-counted receiver Ty-F.Text e h = texts-counted ty.Void
  rows-counted receiver (Ty-F.List t) e h = list-counted t (list-item-written receiver t h (ap list_item_at e)) (out-Ty t)
  rows-counted receiver (Ty-F.Map t) e h = map-counted t (map-item-written receiver t h (ap map_item_at e))
  rows-counted receiver Ty-F.Bool e h = tt
  rows-counted receiver Ty-F.Int e h = tt
  rows-counted receiver Ty-F.Void e h = tt

  -- a method of a value, by its name and the number of its arguments
  pub method-counted : (receiver : Ty) (x : List ℕ) (n : ℕ) (m : Method) → is_solid receiver ≡ true → signature_of receiver x n ≡ Some m → RowCounts m n (results (given_by (row_of receiver x n)))
  method-counted receiver x n m h e = by_row (row_named receiver x n) refl
    where
      at_count : (m : Method) (k n a b : ℕ) → k ≡ n → a ≡ b → RowCounts m k a → RowCounts m n b
      at_count m k n a b e d c = subst (λ n. RowCounts m n b) e (subst (λ b. RowCounts m k b) d c)

      by_row : (o : Option MethodRow) → row_named receiver x n ≡ o → RowCounts m n (results (given_by (row_of receiver x n)))
      by_row None q = absurd (let clash : None ≡ Some m = ap (option_map (λ (z : MethodRow). z.method)) (sym q) ∙ method_of-row (rows_of (out-Ty receiver)) x n ∙ e in cc)
      by_row (Some y) q =
          let found : Finds (IsCounted (inner_of receiver)) n y = found-row (rows_of (out-Ty receiver)) x n y (rows-counted receiver (out-Ty receiver) refl h) q in
          let r : NamedRow = found.0 in
          let row_is : row_of receiver x n ≡ Some (row_with (inner_of receiver) (methods.row_of r)) = ap (option_map (row_with (inner_of receiver))) q ∙ ap (λ z. Some (row_with (inner_of receiver) z)) (sym found.2) in
          let method_is : r.method ≡ m = some-method r.method m (ap (λ (z : MethodRow). Some z.method) found.2 ∙ ap (option_map (λ (z : MethodRow). z.method)) (sym q) ∙ method_of-row (rows_of (out-Ty receiver)) x n ∙ e) in
          let given_is : results (given_by (row_of receiver x n)) ≡ how_many r.gives = ap (λ w. results (given_by w)) row_is ∙ found.1.1 in
          at_count m r.count n (how_many r.gives) (results (given_by (row_of receiver x n))) found.3 (sym given_is) (subst (λ z. RowCounts z r.count (how_many r.gives)) method_is found.1.0)
