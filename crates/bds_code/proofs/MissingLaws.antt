-- A row names a number exactly where the thing of that number isn't there.
use Rattle.std.proofs.Common.{◌≡◌, ◌↔◌, ℕ, zero, suc, List, [], ◌∷◌, ◌++◌, slice_get, reverse, replicate, map, Bool, true, false, ◌||◌, cond, Option, Some, None, Result, Ok, Err, refl, sym, ap, subst, ◌∙◌}
use Rattle.std.specs.Prelude.{⊤}
use Rattle.std.specs.Option.{ok_or}
use Rattle.bds_value.specs.declared.value.Ty.{Ty, out-Ty}
use Rattle.bds_value.specs.declared.value.Ty.TheVariants as ty
use Rattle.bds_value.specs.declared.value.Ty.TheOpen.{Ty-F}
use Rattle.bds_value.specs.declared.methods.Method.TheVariants.{Plain, Change}
use Rattle.bds_value.specs.declared.methods.MethodRow.{MethodRow}
use Rattle.bds_value.specs.Methods.{parts_of, gives_ty, inner_of, row_at, arguments_of}
use Rattle.bds_value.specs.Methods.{part_ty as part_of}
use Rattle.bds_value.specs.Types.{is_plain, is_ordered, is_void, same_ty}
use Rattle.bds_value.specs.Results.{◌>>=◌}
use Rattle.bds_code.specs.declared.effects.EffectFault.{EffectFault}
use Rattle.bds_code.specs.declared.effects.EffectFault.TheVariants.{Needs, Number}
use Rattle.bds_code.specs.declared.instr.Instr.{Instr}
use Rattle.bds_code.specs.declared.instr.Instr.TheVariants.{PushBool, PushInt, PushText, PushDefault, Load, Store, LoadGlobal, StoreGlobal, Drop, Add, Sub, Mul, Div, Rem, Neg, Not, Show, Blank, Concat, ListAdd, ListCat, Equal, NotEqual, Less, LessEqual, Greater, GreaterEqual, MakeList, MakeMap, Item, Key, Update, Jump, JumpUnless, Tick, Call, Return, Method, FileRead, FileWrite, FileRemove, FileStamp, Out, Stop, Exit, Sys, OutOfDate, NewTask, Declare, Goal, Spawn, Wait, WaitAll, Save, SaveHere}
use Rattle.bds_code.specs.declared.unit.Function.{Function}
use Rattle.bds_code.specs.declared.unit.Unit.{Unit as CodeUnit}
use Rattle.bds_code.specs.MethodRows.{Operands, arguments_taken, exchanged, applied, method}
use Rattle.bds_code.specs.Missing.{unless, first_of, missing}
use Rattle.bds_code.specs.Operands.{there, provided, value_ty, any_taken, taken, all_taken, item_at, item_of, entry_at, entry_of, given, giving, swapped, pair_taken, pairs_taken}
use Rattle.bds_code.specs.Row.{slot_ty, variable_ty, loaded, stored, dropped, shown, item_added, lists_joined, compared, item_taken, entry_taken, map_made, called, none_left, returned, asked, answers, task_parts, row}
use Rattle.bds_code.specs.UpdateRows.{step_ty, step_into, part_ty, one_or_all, added_at, added, counted, mutated, change_rows, updated}

-- a result that names no number
abbrev Never : {X : Type 0} → Result X EffectFault → Type 0
Never r = (n : ℕ) → r ≡ Err (Number n) → ⊥

abbrev Always : Operands → Type 0
Always go = (s : List Ty) → Never (go s)

never-bind : {A B : Type 0} (r : Result A EffectFault) (go : A → Result B EffectFault) → Never r → ((x : A) → Never (go x)) → Never (r >>= go)
never-bind (Ok x) go h g n e = g x n e
never-bind (Err fault) go h g n e = let same : fault ≡ Number n = cc in h n (ap (λ x. Err x) same)

never-ok : {A : Type 0} (x : A) → Never {X = A} (Ok x)
never-ok x n e = absurd (cc)

never-provided : {A : Type 0} (b : Bool) (x : A) → Never (provided b x)
never-provided true x n e = absurd (cc)
never-provided false x n e = absurd (cc)

never-value : (t : Ty) → Never (value_ty t)
never-value t = from (is_void t)
  where
    from : (b : Bool) → Never {X = Ty} (cond b (Err Needs) (Ok t))
    from true n e = absurd (cc)
    from false n e = absurd (cc)

never-any : (s : List Ty) → Never (any_taken s)
never-any [] = λ n e. absurd (cc)
never-any (t ∷ ts) = from (is_void t)
  where
    from : (b : Bool) → Never {X = Ty × List Ty} (cond b (Err Needs) (Ok (t, ts)))
    from true n e = absurd (cc)
    from false n e = absurd (cc)

never-taken : (t : Ty) → Always (taken t)
never-taken t s = never-bind (any_taken s) (λ r. provided (same_ty t r.0) r.1) (never-any s) (λ r. never-provided (same_ty t r.0) r.1)

never-all : (ts : List Ty) → Always (all_taken ts)
never-all [] s = λ n e. absurd (cc)
never-all (t ∷ ts) s = never-bind (taken t s) (all_taken ts) (never-taken t s) (never-all ts)

never-item : (t : Ty) → Never (item_of t)
never-item t = from (out-Ty t)
  where
    from : (y : Ty-F Ty) → Never (item_at y)
    from (Ty-F.List u) = never-value u
    from Ty-F.Bool = λ n e. absurd (cc)
    from Ty-F.Int = λ n e. absurd (cc)
    from Ty-F.Text = λ n e. absurd (cc)
    from (Ty-F.Map u) = λ n e. absurd (cc)
    from Ty-F.Void = λ n e. absurd (cc)

never-entry : (t : Ty) → Never (entry_of t)
never-entry t = from (out-Ty t)
  where
    from : (y : Ty-F Ty) → Never (entry_at y)
    from (Ty-F.Map u) = never-value u
    from Ty-F.Bool = λ n e. absurd (cc)
    from Ty-F.Int = λ n e. absurd (cc)
    from Ty-F.Text = λ n e. absurd (cc)
    from (Ty-F.List u) = λ n e. absurd (cc)
    from Ty-F.Void = λ n e. absurd (cc)

never-swapped : (takes : List Ty) (t : Ty) → Always (swapped takes t)
never-swapped takes t s = never-bind (all_taken takes s) (giving t) (never-all takes s) (λ r. never-ok (given t ++ r))

never-dropped : Always dropped
never-dropped s = never-bind (any_taken s) (λ r. Ok r.1) (never-any s) (λ r. never-ok r.1)

never-shown : Always shown
never-shown s = never-bind (any_taken s) (λ r. giving ty.Text r.1) (never-any s) (λ r. never-ok (given ty.Text ++ r.1))

never-item_added : Always item_added
never-item_added s = never-bind (any_taken s) (λ r. taken (ty.List r.0) r.1 >>= giving (ty.List r.0)) (never-any s)
    (λ r. never-bind (taken (ty.List r.0) r.1) (giving (ty.List r.0)) (never-taken (ty.List r.0) r.1) (λ q. never-ok (given (ty.List r.0) ++ q)))

never-lists_joined : Always lists_joined
never-lists_joined s = never-bind (any_taken s) (λ r. item_of r.0 >>= λ t. taken r.0 r.1 >>= giving r.0) (never-any s)
    (λ r. never-bind (item_of r.0) (λ t. taken r.0 r.1 >>= giving r.0) (never-item r.0)
    (λ t. never-bind (taken r.0 r.1) (giving r.0) (never-taken r.0 r.1) (λ q. never-ok (given r.0 ++ q))))

never-compared : (test : Ty → Bool) → Always (compared test)
never-compared test s = never-bind (any_taken s) (λ r. provided (test r.0) r.1 >>= taken r.0 >>= giving ty.Bool) (never-any s)
    (λ r. never-bind (provided (test r.0) r.1 >>= taken r.0) (giving ty.Bool)
    (never-bind (provided (test r.0) r.1) (taken r.0) (never-provided (test r.0) r.1) (never-taken r.0)) (λ q. never-ok (given ty.Bool ++ q)))

never-item_taken : Always item_taken
never-item_taken s = never-bind (taken ty.Int s >>= any_taken) (λ r. item_of r.0 >>= λ t. giving t r.1)
    (never-bind (taken ty.Int s) any_taken (never-taken ty.Int s) never-any)
    (λ r. never-bind (item_of r.0) (λ t. giving t r.1) (never-item r.0) (λ t. never-ok (given t ++ r.1)))

never-entry_taken : Always entry_taken
never-entry_taken s = never-bind (taken ty.Text s >>= any_taken) (λ r. entry_of r.0 >>= λ t. giving t r.1)
    (never-bind (taken ty.Text s) any_taken (never-taken ty.Text s) never-any)
    (λ r. never-bind (entry_of r.0) (λ t. giving t r.1) (never-entry r.0) (λ t. never-ok (given t ++ r.1)))

never-pairs : (n : ℕ) (t : Ty) → Always (pairs_taken n t)
never-pairs zero t s = λ m e. absurd (cc)
never-pairs (suc n) t s = never-bind (pair_taken t s) (pairs_taken n t) (never-bind (taken t s) (taken ty.Text) (never-taken t s) (never-taken ty.Text)) (never-pairs n t)

never-map : (t : Ty) (n : ℕ) → Always (map_made t n)
never-map t n s = never-bind (pairs_taken n t s) (giving (ty.Map t)) (never-pairs n t s) (λ q. never-ok (given (ty.Map t) ++ q))

never-none_left : Always none_left
never-none_left [] n e = absurd (cc)
never-none_left (t ∷ ts) n e = absurd (cc)

never-returned : (ret : Ty) → Always (returned ret)
never-returned ret s = never-bind (all_taken (given ret) s) none_left (never-all (given ret) s) never-none_left

never-wanted : {X : Type 0} (o : Option X) → Never (ok_or o Needs)
never-wanted None n e = absurd (cc)
never-wanted (Some x) n e = absurd (cc)

never-exchanged : (receiver item : Ty) (r : MethodRow) → Always (exchanged receiver item r)
never-exchanged receiver item r s =
    let takes : List Ty = reverse (map (part_of item) (parts_of r.takes)) in
    never-bind (all_taken takes s >>= taken receiver) (giving (gives_ty item r.gives)) (never-bind (all_taken takes s) (taken receiver) (never-all takes s) (never-taken receiver)) (λ q. never-ok (given (gives_ty item r.gives) ++ q))

never-found : (m n : ℕ) (s : List Ty) → Never (ok_or (slice_get s n) Needs >>= λ receiver. ok_or (row_at receiver (Plain m)) Needs >>= λ r. applied receiver r s)
never-found m n s =
    never-bind (ok_or (slice_get s n) Needs) (λ receiver. ok_or (row_at receiver (Plain m)) Needs >>= λ r. applied receiver r s) (never-wanted (slice_get s n))
    (λ receiver. never-bind (ok_or (row_at receiver (Plain m)) Needs) (λ r. applied receiver r s) (never-wanted (row_at receiver (Plain m)))
    (λ r. never-exchanged receiver (inner_of receiver) r s))

never-one_or_all : (p t : Ty) → Always (one_or_all p t)
never-one_or_all p t s = never-bind (any_taken s) (λ r. provided (same_ty t r.0 || same_ty p r.0) r.1) (never-any s) (λ r. never-provided (same_ty t r.0 || same_ty p r.0) r.1)

never-added : (p : Ty) → Always (added p)
never-added p s = from (out-Ty p)
  where
    from : (y : Ty-F Ty) → Never (added_at y p s)
    from Ty-F.Int = never-taken ty.Int s
    from Ty-F.Text = never-bind (any_taken s) (λ r. Ok r.1) (never-any s) (λ r. never-ok r.1)
    from (Ty-F.List u) = never-bind (item_of p) (λ t. one_or_all p t s) (never-item p) (λ t. never-one_or_all p t s)
    from Ty-F.Bool = λ n e. absurd (cc)
    from (Ty-F.Map u) = λ n e. absurd (cc)
    from Ty-F.Void = λ n e. absurd (cc)

never-counted : (p : Ty) → Always (counted p)
never-counted p s = never-bind (provided (same_ty ty.Int p) s) (taken ty.Int) (never-provided (same_ty ty.Int p) s) (never-taken ty.Int)

never-mutated : (what : ℕ) (p : Ty) → Always (mutated what p)
never-mutated what p s =
    never-bind (ok_or (row_at p (Change what)) Needs) (λ r. arguments_taken (inner_of p) r.takes s) (never-wanted (row_at p (Change what)))
    (λ r. never-all (reverse (map (part_of (inner_of p)) (parts_of r.takes))) s)

never-step : (k : Bool) (t : Ty) → Never (step_into k t)
never-step false t = never-item t
never-step true t = never-entry t

never-part : (t : Ty) (ks : List Bool) → Never (part_ty t ks)
never-part t [] = λ n e. absurd (cc)
never-part t (k ∷ ks) = never-bind (step_into k t) (λ u. part_ty u ks) (never-step k t) (λ u. never-part u ks)

abbrev AllOf : {X : Type 0} → (X → Type 0) → List X → Type 0
AllOf P [] = ⊤
AllOf P (x ∷ xs) = P x × AllOf P xs

one_of : {X : Type 0} (P : X → Type 0) (xs : List X) (n : ℕ) (x : X) → AllOf P xs → slice_get xs n ≡ Some x → P x
one_of P [] n x h e = absurd (cc)
one_of P (y ∷ ys) zero x h e = let same : y ≡ x = cc in subst P same h.0
one_of P (y ∷ ys) (suc n) x h e = one_of P ys n x h.1 e

never-changes : AllOf {X = Ty → Operands} (λ change. (p : Ty) → Always (change p)) change_rows
never-changes = (
  never-taken,
  (
    never-added,
    (
      never-counted,
      (
        never-counted,
        (
          never-counted,
          (
            never-counted,
            (
              never-mutated 6,
              (
                never-mutated 7,
                (
                  never-mutated 8,
                  (
                    never-mutated 9,
                    (
                      never-mutated 10,
                      tt,
                    ),
                  ),
                ),
              ),
            ),
          ),
        ),
      ),
    ),
  ),
)

abbrev Names : {X : Type 0} → Result X EffectFault → Option ℕ → Type 0
Names r number = (n : ℕ) → (r ≡ Err (Number n)) ↔ (number ≡ Some n)

never-names : {X : Type 0} (r : Result X EffectFault) → Never r → Names r None
never-names r h n = (λ e. absurd (h n e), λ e. absurd (cc))

there-names : {X Y : Type 0} (o : Option X) (m : ℕ) (go : X → Result Y EffectFault) → ((x : X) → o ≡ Some x → Never (go x)) → Names (there o m >>= go) (unless o m)
there-names None m go h n = (λ e. (let same : m ≡ n = cc in ap (λ k. Some k) same), λ e. (let same : m ≡ n = cc in ap (λ k. Err (Number k)) same))
there-names (Some x) m go h n = (λ e. absurd (h x refl n e), λ e. absurd (cc))

loaded-names : (o : Option Ty) (m : ℕ) (s : List Ty) → Names (loaded o m s) (unless o m)
loaded-names o m s = there-names o m (λ t. giving t s) (λ t is. never-ok (given t ++ s))

stored-names : (o : Option Ty) (m : ℕ) (s : List Ty) → Names (stored o m s) (unless o m)
stored-names o m s = there-names o m (λ t. taken t s) (λ t is. never-taken t s)

called-names : (u : CodeUnit) (g : ℕ) (gives : Function → Ty) (s : List Ty) → Names (called u g gives s) (unless (slice_get u.functions g) g)
called-names u g gives s = there-names (slice_get u.functions g) g (λ f. swapped (reverse f.params) (gives f) s) (λ f is. never-swapped (reverse f.params) (gives f) s)

method-names : (m : ℕ) (s : List Ty) → Names (method m s) (unless (arguments_of (Plain m)) m)
method-names m s =
    there-names (arguments_of (Plain m)) m (λ n. ok_or (slice_get s n) Needs >>= λ receiver. ok_or (row_at receiver (Plain m)) Needs >>= λ r. applied receiver r s) (λ n is. never-found m n s)

asked-names : (q : ℕ) (s : List Ty) → Names (asked q s) (unless (slice_get answers q) q)
asked-names q s = there-names (slice_get answers q) q (λ t. swapped (ty.Text ∷ []) t s) (λ t is. never-swapped (ty.Text ∷ []) t s)

updated-names : (o : Option Ty) (slot what : ℕ) (ks : List Bool) (s : List Ty) → Names (updated o slot ks what s) (first_of (unless o slot) (unless (slice_get change_rows what) what))
updated-names None slot what ks s = λ n. (λ e. (let same : slot ≡ n = cc in ap (λ k. Some k) same), λ e. (let same : slot ≡ n = cc in ap (λ k. Err (Number k)) same))
updated-names (Some v) slot what ks s = there-names (slice_get change_rows what) what (λ change. part_ty v ks >>= λ p. change p s >>= all_taken (reverse (map step_ty ks)))
    (λ change is. never-bind (part_ty v ks) (λ p. change p s >>= all_taken (reverse (map step_ty ks))) (never-part v ks)
    (λ p. never-bind (change p s) (all_taken (reverse (map step_ty ks))) (one_of {X = Ty → Operands} (λ go. (p : Ty) → Always (go p)) change_rows what change never-changes is p s) (never-all (reverse (map step_ty ks)))))

pub row_names : (u : CodeUnit) (f : Function) (i : Instr) (s : List Ty) → Names (row u f i s) (missing u f i)
row_names u f (PushBool x) s = never-names _ (never-swapped [] ty.Bool s)
row_names u f (PushInt x) s = never-names _ (never-swapped [] ty.Int s)
row_names u f (PushText x) s = never-names _ (never-swapped [] ty.Text s)
row_names u f (PushDefault t) s = never-names _ (never-swapped [] t s)
row_names u f (Load i) s = loaded-names (slot_ty f i) i s
row_names u f (Store i) s = stored-names (slot_ty f i) i s
row_names u f (LoadGlobal i) s = loaded-names (slice_get u.globals i) i s
row_names u f (StoreGlobal i) s = stored-names (slice_get u.globals i) i s
row_names u f Drop s = never-names _ (never-dropped s)
row_names u f Add s = never-names _ (never-swapped (ty.Int ∷ ty.Int ∷ []) ty.Int s)
row_names u f Sub s = never-names _ (never-swapped (ty.Int ∷ ty.Int ∷ []) ty.Int s)
row_names u f Mul s = never-names _ (never-swapped (ty.Int ∷ ty.Int ∷ []) ty.Int s)
row_names u f Div s = never-names _ (never-swapped (ty.Int ∷ ty.Int ∷ []) ty.Int s)
row_names u f Rem s = never-names _ (never-swapped (ty.Int ∷ ty.Int ∷ []) ty.Int s)
row_names u f Neg s = never-names _ (never-swapped (ty.Int ∷ []) ty.Int s)
row_names u f Not s = never-names _ (never-swapped (ty.Bool ∷ []) ty.Bool s)
row_names u f Show s = never-names _ (never-shown s)
row_names u f Blank s = never-names _ (never-shown s)
row_names u f Concat s = never-names _ (never-swapped (ty.Text ∷ ty.Text ∷ []) ty.Text s)
row_names u f ListAdd s = never-names _ (never-item_added s)
row_names u f ListCat s = never-names _ (never-lists_joined s)
row_names u f Equal s = never-names _ (never-compared is_plain s)
row_names u f NotEqual s = never-names _ (never-compared is_plain s)
row_names u f Less s = never-names _ (never-compared is_ordered s)
row_names u f LessEqual s = never-names _ (never-compared is_ordered s)
row_names u f Greater s = never-names _ (never-compared is_ordered s)
row_names u f GreaterEqual s = never-names _ (never-compared is_ordered s)
row_names u f (MakeList t m) s = never-names _ (never-swapped (replicate m t) (ty.List t) s)
row_names u f (MakeMap t m) s = never-names _ (never-map t m s)
row_names u f Item s = never-names _ (never-item_taken s)
row_names u f Key s = never-names _ (never-entry_taken s)
row_names u f (Update scope slot ks what) s = updated-names (variable_ty u f scope slot) slot what ks s
row_names u f (Jump x) s = never-names _ (never-swapped [] ty.Void s)
row_names u f (JumpUnless x) s = never-names _ (never-swapped (ty.Bool ∷ []) ty.Void s)
row_names u f Tick s = never-names _ (never-swapped [] ty.Void s)
row_names u f (Call g) s = called-names u g (λ callee. callee.ret) s
row_names u f Return s = never-names _ (never-returned f.ret s)
row_names u f (Method m) s = method-names m s
row_names u f FileRead s = never-names _ (never-swapped (ty.Text ∷ []) ty.Text s)
row_names u f FileWrite s = never-names _ (never-swapped (ty.Text ∷ ty.Text ∷ []) ty.Void s)
row_names u f FileRemove s = never-names _ (never-swapped (ty.Text ∷ []) ty.Void s)
row_names u f (FileStamp q) s = asked-names q s
row_names u f Out s = never-names _ (never-swapped (ty.Text ∷ []) ty.Void s)
row_names u f Stop s = never-names _ (never-swapped (ty.Text ∷ []) ty.Void s)
row_names u f Exit s = never-names _ (never-swapped (ty.Int ∷ []) ty.Void s)
row_names u f Sys s = never-names _ (never-swapped (ty.Text ∷ []) ty.Text s)
row_names u f OutOfDate s = never-names _ (never-swapped (ty.List ty.Text ∷ ty.List ty.Text ∷ []) ty.Bool s)
row_names u f NewTask s = never-names _ (never-swapped task_parts ty.Text s)
row_names u f Declare s = never-names _ (never-swapped task_parts ty.Void s)
row_names u f Goal s = never-names _ (never-swapped (ty.List ty.Text ∷ []) (ty.List ty.Text) s)
row_names u f (Spawn g) s = called-names u g (λ callee. ty.Text) s
row_names u f Wait s = never-names _ (never-swapped (ty.List ty.Text ∷ []) ty.Void s)
row_names u f WaitAll s = never-names _ (never-swapped [] ty.Void s)
row_names u f Save s = never-names _ (never-swapped (ty.Text ∷ []) ty.Void s)
row_names u f SaveHere s = never-names _ (never-swapped [] ty.Void s)
