-- Instructions are fields, both ways.
use Rattle.std.proofs.Common.{◌≡◌, ℕ, ℤ, zero, suc, ◌<◌, ◌≤◌, ◌+◌, ◌^◌, Bool, List, [], ◌∷◌, ◌++◌, length, slice_get, Option, Some, None, Ok, Err, refl, sym, ap, subst, ◌∙◌, arith, add-zero}
use Rattle.std.specs.Prelude.{FitsSigned, ⊤}
use Rattle.std.specs.Int.{w64}
use Rattle.std.specs.List.{All}
use Rattle.std.proofs.lemmas.List.Elements.{All-from_recursion, recursion_from_All}
use Rattle.bds_value.specs.declared.faults.FieldFault.TheVariants.{BadTag}
use Rattle.bds_value.specs.declared.value.Input.{Input}
use Rattle.bds_value.specs.declared.value.Ty.{Ty}
use Rattle.bds_value.specs.Fields.{AreBytes, Stretch, Back, ReadsBack, Spelled, ReadsSpelled, IsField, IsFieldTy}
use Rattle.bds_value.specs.Reading.{◌>>=◌, Read, Reader, read_map, byte_at, bool_at, u16_at, u32_at, i64_at, text_at, ty_at, all_at, forward, rest_of}
use Rattle.bds_value.specs.Spelling.{u8_field, bool_field, u16_field, u32_field, i64_field, text_field, list_field, ty_field}
use Rattle.bds_value.proofs.FieldLaws.{byte_back, bind_ok, map_ok, ok_parts, stretch-none, stretch-join, stretch-bytes, rest-forward, forward-forward}
use Rattle.bds_value.proofs.ListFieldLaws.{all_is_field}
use Rattle.bds_value.proofs.NumberLaws.{u8_is_field, bool_is_field, u16_is_field, u32_is_field, i64_is_field, text_is_field}
use Rattle.bds_value.proofs.RestLaws.{rest_last, rest_then, rest_field}
use Rattle.bds_value.proofs.TyFieldLaws.{ty_is_field}
use Rattle.bds_value.specs.declared.TheConstants.{MAX_COUNT, MAX_TEXT}
use Rattle.bds_code.specs.declared.instr.Instr.{Instr}
use Rattle.bds_code.specs.declared.instr.Instr.TheVariants.{PushBool, PushInt, PushText, PushDefault, Load, Store, LoadGlobal, StoreGlobal, Drop, Add, Sub, Mul, Div, Rem, Neg, Not, Show, Blank, Concat, ListAdd, ListCat, Equal, NotEqual, Less, LessEqual, Greater, GreaterEqual, MakeList, MakeMap, Item, Key, Update, Jump, JumpUnless, Tick, Call, Return, Method, FileRead, FileWrite, FileRemove, FileStamp, Out, Stop, Exit, Sys, OutOfDate, NewTask, Declare, Goal, Spawn, Wait, WaitAll, Save, SaveHere}
use Rattle.bds_code.specs.UnitFields.{IsFieldInstr, NumbersFit}
use Rattle.bds_code.specs.UnitReading.{bare, with_one, sized_at, with_ty, parts_at, update_of, instr_readers, instr_of, instr_at, go_on}
use Rattle.bds_code.specs.UnitSpelling.{tag, numbers_field, instr_field}

abbrev pub LegalInstr : Instr → Type 0
LegalInstr x = IsFieldInstr x × NumbersFit x

-- a type, and a number behind it
sized_is_field : IsField {X = Ty × ℕ} sized_at (λ p. ty_field p.0 ++ u32_field p.1) (λ p. IsFieldTy p.0 × (p.1 < 2 ^ 32))
sized_is_field =
    rest_field {Y = Ty × ℕ} sized_at (λ p. ty_field p.0 ++ u32_field p.1) (λ p. IsFieldTy p.0 × (p.1 < 2 ^ 32))
    (rest_then {X = Unit {0}} {Y = Ty × ℕ} {Z = Ty} (λ p. tt) (λ p. p.0) ty_at ty_field IsFieldTy (λ x i. u32_at i >>= λ n. Ok ((x.1, n.0), n.1)) (λ p. u32_field p.1) (λ p. p.1 < 2 ^ 32) ty_is_field
    (rest_last {X = (Unit {0}) × Ty} {Y = Ty × ℕ} {Z = ℕ} (λ p. (tt, p.0)) (λ p. p.1) (λ x. u32_at) u32_field (λ x n. n < 2 ^ 32) (λ x n. (x.1, n)) (λ p. refl) (λ x n. refl) (λ x n. refl) (λ x. u32_is_field)))

abbrev Parts : Type 0
Parts = Bool × ℕ × List Bool × ℕ

abbrev parts_field : Parts → List ℕ
parts_field p = bool_field p.0 ++ (u16_field p.1 ++ (list_field bool_field p.2 ++ u8_field p.3))

abbrev LegalKinds : List Bool → Type 0
LegalKinds ks = (length ks ≤ MAX_COUNT) × All (λ b. ⊤) ks

abbrev LegalParts : Parts → Type 0
LegalParts p = ⊤ × ((p.1 < 2 ^ 16) × (LegalKinds p.2 × (p.3 < 2 ^ 8)))

parts_is_field : IsField parts_at parts_field LegalParts
parts_is_field =
    rest_field {Y = Parts} parts_at parts_field LegalParts
    (rest_then {X = Unit {0}} {Y = Parts} {Z = Bool} (λ p. tt) (λ p. p.0) bool_at bool_field (λ b. ⊤)
    (λ x i. u16_at i >>= λ slot. all_at bool_at slot.1 >>= λ kinds. byte_at kinds.1 >>= λ what. Ok ((x.1, slot.0, kinds.0, what.0), what.1))
    (λ p. u16_field p.1 ++ (list_field bool_field p.2 ++ u8_field p.3)) (λ p. (p.1 < 2 ^ 16) × (LegalKinds p.2 × (p.3 < 2 ^ 8))) bool_is_field
    (rest_then {X = (Unit {0}) × Bool} {Y = Parts} {Z = ℕ} (λ p. (tt, p.0)) (λ p. p.1) u16_at u16_field (λ n. n < 2 ^ 16)
    (λ x i. all_at bool_at i >>= λ kinds. byte_at kinds.1 >>= λ what. Ok ((x.0.1, x.1, kinds.0, what.0), what.1))
    (λ p. list_field bool_field p.2 ++ u8_field p.3) (λ p. LegalKinds p.2 × (p.3 < 2 ^ 8)) u16_is_field
    (rest_then {X = ((Unit {0}) × Bool) × ℕ} {Y = Parts} {Z = List Bool} (λ p. ((tt, p.0), p.1)) (λ p. p.2) (all_at bool_at) (list_field bool_field) LegalKinds
    (λ x i. byte_at i >>= λ what. Ok ((x.0.0.1, x.0.1, x.1, what.0), what.1))
    (λ p. u8_field p.3) (λ p. p.3 < 2 ^ 8) (all_is_field bool_at bool_field (λ b. ⊤) bool_is_field)
    (rest_last {X = (((Unit {0}) × Bool) × ℕ) × List Bool} {Y = Parts} {Z = ℕ} (λ p. (((tt, p.0), p.1), p.2)) (λ p. p.3) (λ x. byte_at) u8_field (λ x n. n < 2 ^ 8)
    (λ x n. (x.0.0.1, x.0.1, x.1, n)) (λ p. refl) (λ x n. refl) (λ x n. refl) (λ x. u8_is_field)))))

-- what is read behind a tag belongs to it
abbrev RowSpelled : ℕ → Reader Instr → Type 0
RowSpelled n r = (i j : Input) (x : Instr) → AreBytes i.bytes → r i ≡ Ok (x, j) → (tag x ≡ n) × (LegalInstr x × Stretch i (numbers_field x) j)

plain : (n : ℕ) (x : Instr) → tag x ≡ n → LegalInstr x → numbers_field x ≡ [] → RowSpelled n (bare x)
plain n x same legal none i j y bytes e =
    let p = ok_parts x y i j e in
    subst (λ z. (tag z ≡ n) × (LegalInstr z × Stretch i (numbers_field z) j)) p.0
    (same, (legal, subst (λ s. Stretch i s j) (sym none) (subst (λ k. Stretch i [] k) p.1 (stretch-none i))))

one_spelled : {X : Type 0} (n : ℕ) (f : X → Instr) (r : Reader X) (spell : X → List ℕ) (Legal : X → Type 0) → ((x : X) → tag (f x) ≡ n) → ((x : X) → Legal x → LegalInstr (f x)) → ((x : X) → numbers_field (f x) ≡ spell x)
    → IsField r spell Legal → RowSpelled n (with_one f r)
one_spelled {X = X} n f r spell Legal same legal spelt field i j y bytes e =
    let found = map_ok f (r i) (y, j) e in
    let x = found.0.0 in
    let here = field.spelled i found.0.1 x bytes found.1.0 in
    let value : f x ≡ y = ap (λ (p : Instr × Input). p.0) found.1.1 in
    let next : found.0.1 ≡ j = ap (λ (p : Instr × Input). p.1) found.1.1 in
    subst (λ z. (tag z ≡ n) × (LegalInstr z × Stretch i (numbers_field z) j)) value
    (same x, (legal x here.legal, subst (λ s. Stretch i s j) (sym (spelt x)) (subst (λ k. Stretch i (spell x) k) next here.stretch)))

abbrev RowsSpelled : ℕ → List (Reader Instr) → Type 0
RowsSpelled n [] = ⊤
RowsSpelled n (r ∷ rs) = RowSpelled n r × RowsSpelled (n + 1) rs

row_at : (rs : List (Reader Instr)) (n t : ℕ) (r : Reader Instr) → RowsSpelled n rs → slice_get rs t ≡ Some r → RowSpelled (n + t) r
row_at [] n t r h e = absurd (cc)
row_at (q ∷ rs) n zero r h e = let same : q ≡ r = cc in let z : n ≡ n + zero = omega arith in subst (λ m. RowSpelled m r) z (subst (RowSpelled n) same h.0)
row_at (q ∷ rs) n (suc t) r h e = let z : (n + 1) + t ≡ n + suc t = omega arith in subst (λ m. RowSpelled m r) z (row_at rs (n + 1) t r h.1 e)

number : (n : ℕ) (f : ℕ → Instr) → ((x : ℕ) → tag (f x) ≡ n) → ((x : ℕ) → x < 2 ^ 32 → LegalInstr (f x)) → ((x : ℕ) → numbers_field (f x) ≡ u32_field x) → RowSpelled n (with_one f u32_at)
number n f same legal spelt = one_spelled n f u32_at u32_field (λ x. x < 2 ^ 32) same legal spelt u32_is_field

variable : (n : ℕ) (f : ℕ → Instr) → ((x : ℕ) → tag (f x) ≡ n) → ((x : ℕ) → x < 2 ^ 16 → LegalInstr (f x)) → ((x : ℕ) → numbers_field (f x) ≡ u16_field x) → RowSpelled n (with_one f u16_at)
variable n f same legal spelt = one_spelled n f u16_at u16_field (λ x. x < 2 ^ 16) same legal spelt u16_is_field

short : (n : ℕ) (f : ℕ → Instr) → ((x : ℕ) → tag (f x) ≡ n) → ((x : ℕ) → x < 2 ^ 8 → LegalInstr (f x)) → ((x : ℕ) → numbers_field (f x) ≡ u8_field x) → RowSpelled n (with_one f byte_at)
short n f same legal spelt = one_spelled n f byte_at u8_field (λ x. x < 2 ^ 8) same legal spelt u8_is_field

sized : (n : ℕ) (f : Ty → ℕ → Instr) → ((p : Ty × ℕ) → tag (f p.0 p.1) ≡ n) → ((p : Ty × ℕ) → IsFieldTy p.0 × (p.1 < 2 ^ 32) → LegalInstr (f p.0 p.1)) → ((p : Ty × ℕ) → numbers_field (f p.0 p.1) ≡ ty_field p.0 ++ u32_field p.1)
    → RowSpelled n (with_ty f)
sized n f same legal spelt = one_spelled {X = Ty × ℕ} n (λ p. f p.0 p.1) sized_at (λ p. ty_field p.0 ++ u32_field p.1) (λ p. IsFieldTy p.0 × (p.1 < 2 ^ 32)) same legal spelt sized_is_field

-- each row belongs to its tag
rows_spelled : RowsSpelled 0 instr_readers
rows_spelled = (
  one_spelled 0 PushBool bool_at bool_field (λ b. ⊤) (λ x. refl) (λ x h. (tt, tt)) (λ x. refl) bool_is_field,
  (
    one_spelled 1 PushInt i64_at i64_field (λ z. FitsSigned w64 z) (λ x. refl) (λ x h. (tt, h)) (λ x. refl) i64_is_field,
    (
      one_spelled 2 PushText text_at text_field (λ t. length t ≤ MAX_TEXT) (λ x. refl) (λ x h. (h, tt)) (λ x. refl) text_is_field,
      (
        one_spelled 3 PushDefault ty_at ty_field IsFieldTy (λ x. refl) (λ x h. (h, tt)) (λ x. refl) ty_is_field,
        (
          variable 4 Load (λ x. refl) (λ x h. (tt, h)) (λ x. refl),
          (
            variable 5 Store (λ x. refl) (λ x h. (tt, h)) (λ x. refl),
            (
              variable 6 LoadGlobal (λ x. refl) (λ x h. (tt, h)) (λ x. refl),
              (
                variable 7 StoreGlobal (λ x. refl) (λ x h. (tt, h)) (λ x. refl),
                (
                  plain 8 Drop refl (tt, tt) refl,
                  (
                    plain 9 Add refl (tt, tt) refl,
                    (
                      plain 10 Sub refl (tt, tt) refl,
                      (
                        plain 11 Mul refl (tt, tt) refl,
                        (
                          plain 12 Div refl (tt, tt) refl,
                          (
                            plain 13 Rem refl (tt, tt) refl,
                            (
                              plain 14 Neg refl (tt, tt) refl,
                              (
                                plain 15 Not refl (tt, tt) refl,
                                (
                                  plain 16 Show refl (tt, tt) refl,
                                  (
                                    plain 17 Blank refl (tt, tt) refl,
                                    (
                                      plain 18 Concat refl (tt, tt) refl,
                                      (
                                        plain 19 ListAdd refl (tt, tt) refl,
                                        (
                                          plain 20 ListCat refl (tt, tt) refl,
                                          (
                                            plain 21 Equal refl (tt, tt) refl,
                                            (
                                              plain 22 NotEqual refl (tt, tt) refl,
                                              (
                                                plain 23 Less refl (tt, tt) refl,
                                                (
                                                  plain 24 LessEqual refl (tt, tt) refl,
                                                  (
                                                    plain 25 Greater refl (tt, tt) refl,
                                                    (
                                                      plain 26 GreaterEqual refl (tt, tt) refl,
                                                      (
                                                        sized 27 MakeList (λ p. refl) (λ p h. h) (λ p. refl),
                                                        (
                                                          sized 28 MakeMap (λ p. refl) (λ p h. h) (λ p. refl),
                                                          (
                                                            plain 29 Item refl (tt, tt) refl,
                                                            (
                                                              plain 30 Key refl (tt, tt) refl,
                                                              (
                                                                one_spelled {X = Parts} 31 update_of parts_at parts_field LegalParts (λ x. refl) (λ x h. (h.1.1.0.0, (h.1.0, h.1.1.1))) (λ x. refl) parts_is_field,
                                                                (
                                                                  number 32 Jump (λ x. refl) (λ x h. (tt, h)) (λ x. refl),
                                                                  (
                                                                    number 33 JumpUnless (λ x. refl) (λ x h. (tt, h)) (λ x. refl),
                                                                    (
                                                                      plain 34 Tick refl (tt, tt) refl,
                                                                      (
                                                                        number 35 Call (λ x. refl) (λ x h. (tt, h)) (λ x. refl),
                                                                        (
                                                                          plain 36 Return refl (tt, tt) refl,
                                                                          (
                                                                            short 37 Method (λ x. refl) (λ x h. (tt, h)) (λ x. refl),
                                                                            (
                                                                              plain 38 FileRead refl (tt, tt) refl,
                                                                              (
                                                                                plain 39 FileWrite refl (tt, tt) refl,
                                                                                (
                                                                                  plain 40 FileRemove refl (tt, tt) refl,
                                                                                  (
                                                                                    short 41 FileStamp (λ x. refl) (λ x h. (tt, h)) (λ x. refl),
                                                                                    (
                                                                                      plain 42 Out refl (tt, tt) refl,
                                                                                      (
                                                                                        plain 43 Stop refl (tt, tt) refl,
                                                                                        (
                                                                                          plain 44 Exit refl (tt, tt) refl,
                                                                                          (
                                                                                            plain 45 Sys refl (tt, tt) refl,
                                                                                            (
                                                                                              plain 46 OutOfDate refl (tt, tt) refl,
                                                                                              (
                                                                                                plain 47 NewTask refl (tt, tt) refl,
                                                                                                (
                                                                                                  plain 48 Declare refl (tt, tt) refl,
                                                                                                  (
                                                                                                    plain 49 Goal refl (tt, tt) refl,
                                                                                                    (
                                                                                                      number 50 Spawn (λ x. refl) (λ x h. (tt, h)) (λ x. refl),
                                                                                                      (
                                                                                                        plain 51 Wait refl (tt, tt) refl,
                                                                                                        (
                                                                                                          plain 52 WaitAll refl (tt, tt) refl,
                                                                                                          (
                                                                                                            plain 53 Save refl (tt, tt) refl,
                                                                                                            (
                                                                                                              plain 54 SaveHere refl (tt, tt) refl,
                                                                                                              tt,
                                                                                                            ),
                                                                                                          ),
                                                                                                        ),
                                                                                                      ),
                                                                                                    ),
                                                                                                  ),
                                                                                                ),
                                                                                              ),
                                                                                            ),
                                                                                          ),
                                                                                        ),
                                                                                      ),
                                                                                    ),
                                                                                  ),
                                                                                ),
                                                                              ),
                                                                            ),
                                                                          ),
                                                                        ),
                                                                      ),
                                                                    ),
                                                                  ),
                                                                ),
                                                              ),
                                                            ),
                                                          ),
                                                        ),
                                                      ),
                                                    ),
                                                  ),
                                                ),
                                              ),
                                            ),
                                          ),
                                        ),
                                      ),
                                    ),
                                  ),
                                ),
                              ),
                            ),
                          ),
                        ),
                      ),
                    ),
                  ),
                ),
              ),
            ),
          ),
        ),
      ),
    ),
  ),
)

mapped : {X : Type 0} (f : X → Instr) (r : Reader X) (spell : X → List ℕ) (x : X) → ReadsBack r spell x → Back (with_one f r) (spell x) (f x)
mapped f r spell x back i rest e = rw (back i rest e) refl

nothing : (x : Instr) → Back (bare x) [] x
nothing x i rest e = ap (λ k. Ok (x, k)) (ap (λ n. record { bytes = i.bytes; at = n }) (sym (add-zero i.at)))

numbers_back : (at : ℕ) (x : Instr) → LegalInstr x → Back (instr_of at (tag x)) (numbers_field x) x
numbers_back at (PushBool b) h = mapped PushBool bool_at bool_field b (bool_is_field.read_back b tt)
numbers_back at (PushInt z) h = mapped PushInt i64_at i64_field z (i64_is_field.read_back z h.1)
numbers_back at (PushText t) h = mapped PushText text_at text_field t (text_is_field.read_back t h.0)
numbers_back at (PushDefault t) h = mapped PushDefault ty_at ty_field t (ty_is_field.read_back t h.0)
numbers_back at (Load m) h = mapped Load u16_at u16_field m (u16_is_field.read_back m h.1)
numbers_back at (Store m) h = mapped Store u16_at u16_field m (u16_is_field.read_back m h.1)
numbers_back at (LoadGlobal m) h = mapped LoadGlobal u16_at u16_field m (u16_is_field.read_back m h.1)
numbers_back at (StoreGlobal m) h = mapped StoreGlobal u16_at u16_field m (u16_is_field.read_back m h.1)
numbers_back at Drop h = nothing Drop
numbers_back at Add h = nothing Add
numbers_back at Sub h = nothing Sub
numbers_back at Mul h = nothing Mul
numbers_back at Div h = nothing Div
numbers_back at Rem h = nothing Rem
numbers_back at Neg h = nothing Neg
numbers_back at Not h = nothing Not
numbers_back at Show h = nothing Show
numbers_back at Blank h = nothing Blank
numbers_back at Concat h = nothing Concat
numbers_back at ListAdd h = nothing ListAdd
numbers_back at ListCat h = nothing ListCat
numbers_back at Equal h = nothing Equal
numbers_back at NotEqual h = nothing NotEqual
numbers_back at Less h = nothing Less
numbers_back at LessEqual h = nothing LessEqual
numbers_back at Greater h = nothing Greater
numbers_back at GreaterEqual h = nothing GreaterEqual
numbers_back at (MakeList t m) h = mapped {X = Ty × ℕ} (λ p. MakeList p.0 p.1) sized_at (λ p. ty_field p.0 ++ u32_field p.1) (t, m) (sized_is_field.read_back (t, m) h)
numbers_back at (MakeMap t m) h = mapped {X = Ty × ℕ} (λ p. MakeMap p.0 p.1) sized_at (λ p. ty_field p.0 ++ u32_field p.1) (t, m) (sized_is_field.read_back (t, m) h)
numbers_back at Item h = nothing Item
numbers_back at Key h = nothing Key
numbers_back at (Update scope slot kinds what) h = mapped {X = Parts} update_of parts_at parts_field (scope, slot, kinds, what) (parts_is_field.read_back (scope, slot, kinds, what) (tt, (h.1.0, ((h.0, λ k d l. tt), h.1.1))))
numbers_back at (Jump m) h = mapped Jump u32_at u32_field m (u32_is_field.read_back m h.1)
numbers_back at (JumpUnless m) h = mapped JumpUnless u32_at u32_field m (u32_is_field.read_back m h.1)
numbers_back at Tick h = nothing Tick
numbers_back at (Call m) h = mapped Call u32_at u32_field m (u32_is_field.read_back m h.1)
numbers_back at Return h = nothing Return
numbers_back at (Method m) h = mapped Method byte_at u8_field m (u8_is_field.read_back m h.1)
numbers_back at FileRead h = nothing FileRead
numbers_back at FileWrite h = nothing FileWrite
numbers_back at FileRemove h = nothing FileRemove
numbers_back at (FileStamp m) h = mapped FileStamp byte_at u8_field m (u8_is_field.read_back m h.1)
numbers_back at Out h = nothing Out
numbers_back at Stop h = nothing Stop
numbers_back at Exit h = nothing Exit
numbers_back at Sys h = nothing Sys
numbers_back at OutOfDate h = nothing OutOfDate
numbers_back at NewTask h = nothing NewTask
numbers_back at Declare h = nothing Declare
numbers_back at Goal h = nothing Goal
numbers_back at (Spawn m) h = mapped Spawn u32_at u32_field m (u32_is_field.read_back m h.1)
numbers_back at Wait h = nothing Wait
numbers_back at WaitAll h = nothing WaitAll
numbers_back at Save h = nothing Save
numbers_back at SaveHere h = nothing SaveHere

pub instr_is_field : IsField instr_at instr_field LegalInstr
instr_is_field = record { read_back = back; spelled = given }
  where
    back : (x : Instr) → LegalInstr x → ReadsBack instr_at instr_field x
    back x h i rest e =
        let behind : rest_of (forward 1 i) ≡ numbers_field x ++ rest = rest-forward i (tag x ∷ []) (numbers_field x ++ rest) e in
        let size : 1 + length (numbers_field x) ≡ length (tag x ∷ numbers_field x) = omega arith in
        rw (byte_back (tag x) i (numbers_field x ++ rest) e, numbers_back i.at x h (forward 1 i) rest behind)
        (ap (λ k. Ok (x, k)) (forward-forward i 1 (length (numbers_field x)) ∙ ap (λ m. forward m i) size))

    at_row : (i k j : Input) (t : ℕ) (x : Instr) (row : Option (Reader Instr)) → slice_get instr_readers t ≡ row → AreBytes k.bytes → Stretch i (t ∷ []) k → go_on row i.at t k ≡ Ok (x, j) → Spelled instr_field LegalInstr i x j
    at_row i k j t x None is bytes s e = let g : ◌≡◌ {A = Read Instr} (Err (BadTag i.at t)) (Ok (x, j)) = e in absurd (cc)
    at_row i k j t x (Some r) is bytes s e =
        let all : RowSpelled (0 + t) r = row_at instr_readers 0 t r rows_spelled is in
        let here = all k j x bytes e in
        let same : t ≡ tag x = omega (arith, here.0) in
        record { legal = here.1.0; stretch = stretch-join i k j (tag x ∷ []) (numbers_field x) (subst (λ n. Stretch i (n ∷ []) k) same s) here.1.1 }

    given : ReadsSpelled instr_at instr_field LegalInstr
    given i j x bytes e =
        let found = bind_ok (byte_at i) (λ (b : ℕ × Input). instr_of i.at b.0 b.1) (x, j) e in
        let here = u8_is_field.spelled i found.0.1 found.0.0 bytes found.1.0 in
        at_row i found.0.1 j found.0.0 x (slice_get instr_readers found.0.0) refl (stretch-bytes i found.0.1 (found.0.0 ∷ []) here.stretch bytes) here.stretch found.1.1
