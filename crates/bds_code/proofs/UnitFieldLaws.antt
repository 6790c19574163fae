-- Functions and units are fields, both ways.
use Rattle.std.proofs.Common.{◌≡◌, ℕ, ◌<◌, ◌≤◌, ◌^◌, List, [], ◌∷◌, ◌++◌, length, nat_lt, Option, None, Ok, refl, sym, ap, subst, ◌∙◌, arith, append_assoc}
use Rattle.std.specs.List.{All, AllByRecursion, flat_map}
use Rattle.std.proofs.lemmas.List.Elements.{All-from_recursion, recursion_from_All}
use Rattle.bds_value.specs.declared.TheConstants.{MAX_COUNT, MAX_TEXT, MAX_CODE}
use Rattle.bds_value.specs.declared.value.At.{At}
use Rattle.bds_value.specs.declared.value.Input.{Input}
use Rattle.bds_value.specs.declared.value.Ty.{Ty}
use Rattle.bds_value.specs.Fields.{AreBytes, AreFieldTexts, AreFieldTypes, Stretch, Back, ReadsBack, ReadsSpelled, IsField, IsFieldTy, RisesFrom}
use Rattle.bds_value.specs.Reading.{Read, Reader, read_map, u32_at, text_at, texts_at, ty_at, types_at, all_at, many, list_at, rising_at, ◌>>=◌}
use Rattle.bds_value.specs.Spelling.{u32_field, text_field, texts_field, list_field, ty_field, types_field}
use Rattle.bds_value.proofs.FieldLaws.{map_ok}
use Rattle.bds_value.proofs.ListFieldLaws.{list_is_field, all_is_field, texts_are_field, types_are_field}
use Rattle.bds_value.proofs.ListLaws.{many_back, many_spelled, rising_list_back, rising_list_spelled}
use Rattle.bds_value.proofs.NumberLaws.{u32_is_field, text_is_field}
use Rattle.bds_value.proofs.RestLaws.{rest_last, rest_then, rest_field, same_field}
use Rattle.bds_value.proofs.TyFieldLaws.{ty_is_field}
use Rattle.bds_code.specs.declared.instr.Instr.{Instr}
use Rattle.bds_code.specs.declared.unit.Function.{Function}
use Rattle.bds_code.specs.declared.unit.Unit.{Unit as CodeUnit}
use Rattle.bds_code.specs.UnitFields.{IsFieldInstr, NumbersFit, IsFieldLabel, IsFieldFunction, IsFieldUnit, LineFits, FunctionFits, UnitFits}
use Rattle.bds_code.specs.UnitReading.{label_of, line_at, labels_at, instr_at, function_at, unit_at}
use Rattle.bds_code.specs.UnitSpelling.{instr_field, label_field, line_field, head_field, body_field, function_field, unit_field}
use Rattle.bds_code.proofs.InstrFieldLaws.{LegalInstr, instr_is_field}

-- labels, whose places rise
abbrev Label : Type 0
Label = ℕ × List Ty

abbrev LegalLabels : List Label → Type 0
LegalLabels ls = (length ls ≤ MAX_COUNT) × (RisesFrom {X = Label} nat_lt (λ l. l.0) None ls × All {X = Label} (λ l. (l.0 < 2 ^ 32) × AreFieldTypes l.1) ls)

labels_is_field : IsField labels_at (list_field label_field) LegalLabels
labels_is_field = record {
  read_back = λ ls h. rising_list_back {X = Label} nat_lt u32_at label_of (λ l. l.0) u32_field (λ l. types_field l.1) MAX_COUNT (omega arith) ls h.0 h.1.0
      (recursion_from_All {X = Label} (λ l. ReadsBack u32_at u32_field l.0 × Back (label_of l.0) (types_field l.1) l) ls
      (λ k d l. let g = h.1.1 k d l in (u32_is_field.read_back _ g.0, shape_back _ _ (types_are_field.read_back _ g.1))));
  spelled = λ i j ls bytes e.
      let s = rising_list_spelled {X = Label} nat_lt u32_at label_of (λ l. l.0) u32_field (λ l. types_field l.1) (λ n. n < 2 ^ 32) (λ l. AreFieldTypes l.1) u32_is_field.spelled shape_spelled MAX_COUNT (omega arith) i j ls bytes e in
      record { legal = (s.legal.0, (s.legal.1.0, All-from_recursion {X = Label} (λ l. (l.0 < 2 ^ 32) × AreFieldTypes l.1) ls s.legal.1.1)); stretch = s.stretch };
}
  where
    shape_back : (n : ℕ) (ts : List Ty) → ReadsBack types_at types_field ts → Back {X = Label} (label_of n) (types_field ts) (n, ts)
    shape_back n ts back i rest e = rw (back i rest e) refl

    shape_spelled : (n : ℕ) (i j : Input) (l : Label) → AreBytes i.bytes → label_of n i ≡ Ok (l, j) → (l.0 ≡ n) × (AreFieldTypes l.1 × Stretch i (types_field l.1) j)
    shape_spelled n i j l bytes e =
        let found = map_ok {Y = Label} (λ shape. (n, shape)) (types_at i) (l, j) e in
        let ts = found.0.0 in
        let here = types_are_field.spelled i found.0.1 ts bytes found.1.0 in
        let value : ◌≡◌ {A = Label} (n, ts) l = ap (λ (p : Label × Input). p.0) found.1.1 in
        let next : found.0.1 ≡ j = ap (λ (p : Label × Input). p.1) found.1.1 in
        subst {A = Label} (λ m. (m.0 ≡ n) × (AreFieldTypes m.1 × Stretch i (types_field m.1) j)) value (refl, (here.legal, subst (λ k. Stretch i (types_field ts) k) next here.stretch))

line_is_field : IsField line_at line_field LineFits
line_is_field =
    rest_field line_at line_field LineFits
    (rest_then {X = Unit {0}} {Y = At} {Z = ℕ} (λ a. tt) (λ a. a.file) u32_at u32_field (λ n. n < 2 ^ 32) (λ x i. u32_at i >>= λ n. Ok (record { file = x.1; line = n.0 }, n.1)) (λ a. u32_field a.line) (λ a. a.line < 2 ^ 32) u32_is_field
    (rest_last {X = (Unit {0}) × ℕ} {Y = At} {Z = ℕ} (λ a. (tt, a.file)) (λ a. a.line) (λ x. u32_at) u32_field (λ x n. n < 2 ^ 32) (λ x n. record { file = x.1; line = n }) (λ a. refl) (λ x n. refl) (λ x n. refl) (λ x. u32_is_field)))

-- lines whose number is known
lines_are_field : (n : ℕ) → IsField (many line_at n) (flat_map line_field) (λ ls. (length ls ≡ n) × All LineFits ls)
lines_are_field n = record {
  read_back = λ ls h. subst (λ m. Back (many line_at m) (flat_map line_field ls) ls) h.0
      (many_back line_at line_field ls (recursion_from_All (ReadsBack line_at line_field) ls (λ k d l. line_is_field.read_back _ (h.1 k d l))));
  spelled = λ i j ls bytes e.
      let s = many_spelled line_at line_field LineFits line_is_field.spelled n i j ls bytes e in
      record { legal = (s.0, All-from_recursion LineFits ls s.1.0); stretch = s.1.1 };
}

abbrev LegalText : List ℕ → Type 0
LegalText t = length t ≤ MAX_TEXT

abbrev LegalCode : List Instr → Type 0
LegalCode c = (length c ≤ MAX_CODE) × All LegalInstr c

abbrev LegalFunction : Function → Type 0
LegalFunction f = LegalText f.name × (AreFieldTypes f.params × (AreFieldTypes f.locals × (IsFieldTy f.ret × (LegalCode f.code × (LegalLabels f.labels × ((length f.lines ≡ length f.code) × All LineFits f.lines))))))

abbrev straight_field : Function → List ℕ
straight_field f = text_field f.name ++ (types_field f.params ++ (types_field f.locals ++ (ty_field f.ret ++ (list_field instr_field f.code ++ (list_field label_field f.labels ++ flat_map line_field f.lines)))))

abbrev Named : Type 0
Named = (Unit {0}) × List ℕ

abbrev Taking : Type 0
Taking = Named × List Ty

abbrev Holding : Type 0
Holding = Taking × List Ty

abbrev Giving : Type 0
Giving = Holding × Ty

abbrev Coded : Type 0
Coded = Giving × List Instr

abbrev Labelled : Type 0
Labelled = Coded × List Label

abbrev built : Labelled → List At → Function
built x ls = record { name = x.0.0.0.0.0.1; params = x.0.0.0.0.1; locals = x.0.0.0.1; ret = x.0.0.1; code = x.0.1; labels = x.1; lines = ls }

abbrev labelled_at : Labelled → Reader Function
labelled_at x i = many line_at (length x.0.1) i >>= λ ls. Ok (built x ls.0, ls.1)

abbrev coded_at : Coded → Reader Function
coded_at x i = labels_at i >>= λ z. labelled_at (x, z.0) z.1

abbrev giving_at : Giving → Reader Function
giving_at x i = list_at MAX_CODE instr_at i >>= λ z. coded_at (x, z.0) z.1

abbrev holding_at : Holding → Reader Function
holding_at x i = ty_at i >>= λ z. giving_at (x, z.0) z.1

abbrev taking_at : Taking → Reader Function
taking_at x i = types_at i >>= λ z. holding_at (x, z.0) z.1

abbrev named_at : Named → Reader Function
named_at x i = types_at i >>= λ z. taking_at (x, z.0) z.1

straight_is_field : IsField function_at straight_field LegalFunction
straight_is_field =
    rest_field function_at straight_field LegalFunction
    (rest_then {X = Unit {0}} {Y = Function} {Z = List ℕ} (λ f. tt) (λ f. f.name) text_at text_field LegalText named_at
    (λ f. types_field f.params ++ (types_field f.locals ++ (ty_field f.ret ++ (list_field instr_field f.code ++ (list_field label_field f.labels ++ flat_map line_field f.lines)))))
    (λ f. AreFieldTypes f.params × (AreFieldTypes f.locals × (IsFieldTy f.ret × (LegalCode f.code × (LegalLabels f.labels × ((length f.lines ≡ length f.code) × All LineFits f.lines)))))) text_is_field
    (rest_then {X = Named} {Y = Function} {Z = List Ty} (λ f. (tt, f.name)) (λ f. f.params) types_at types_field AreFieldTypes taking_at
    (λ f. types_field f.locals ++ (ty_field f.ret ++ (list_field instr_field f.code ++ (list_field label_field f.labels ++ flat_map line_field f.lines))))
    (λ f. AreFieldTypes f.locals × (IsFieldTy f.ret × (LegalCode f.code × (LegalLabels f.labels × ((length f.lines ≡ length f.code) × All LineFits f.lines))))) types_are_field
    (rest_then {X = Taking} {Y = Function} {Z = List Ty} (λ f. ((tt, f.name), f.params)) (λ f. f.locals) types_at types_field AreFieldTypes holding_at
    (λ f. ty_field f.ret ++ (list_field instr_field f.code ++ (list_field label_field f.labels ++ flat_map line_field f.lines)))
    (λ f. IsFieldTy f.ret × (LegalCode f.code × (LegalLabels f.labels × ((length f.lines ≡ length f.code) × All LineFits f.lines)))) types_are_field
    (rest_then {X = Holding} {Y = Function} {Z = Ty} (λ f. (((tt, f.name), f.params), f.locals)) (λ f. f.ret) ty_at ty_field IsFieldTy giving_at
    (λ f. list_field instr_field f.code ++ (list_field label_field f.labels ++ flat_map line_field f.lines))
    (λ f. LegalCode f.code × (LegalLabels f.labels × ((length f.lines ≡ length f.code) × All LineFits f.lines))) ty_is_field
    (rest_then {X = Giving} {Y = Function} {Z = List Instr} (λ f. ((((tt, f.name), f.params), f.locals), f.ret)) (λ f. f.code) (list_at MAX_CODE instr_at) (list_field instr_field) LegalCode coded_at
    (λ f. list_field label_field f.labels ++ flat_map line_field f.lines)
    (λ f. LegalLabels f.labels × ((length f.lines ≡ length f.code) × All LineFits f.lines)) (list_is_field instr_at instr_field LegalInstr instr_is_field MAX_CODE (omega arith))
    (rest_then {X = Coded} {Y = Function} {Z = List Label} (λ f. (((((tt, f.name), f.params), f.locals), f.ret), f.code)) (λ f. f.labels) labels_at (list_field label_field) LegalLabels labelled_at
    (λ f. flat_map line_field f.lines)
    (λ f. (length f.lines ≡ length f.code) × All LineFits f.lines) labels_is_field
    (rest_last {X = Labelled} {Y = Function} {Z = List At} (λ f. ((((((tt, f.name), f.params), f.locals), f.ret), f.code), f.labels)) (λ f. f.lines) (λ x. many line_at (length x.0.1)) (flat_map line_field)
    (λ x ls. (length ls ≡ length x.0.1) × All LineFits ls) built (λ f. refl) (λ x ls. refl) (λ x ls. refl) (λ x. lines_are_field (length x.0.1)))))))))

abbrev LegalWhole : Function → Type 0
LegalWhole f = IsFieldFunction f × FunctionFits f

function_is_field : IsField function_at function_field LegalWhole
function_is_field = same_field function_at straight_field function_field LegalFunction LegalWhole joined to from straight_is_field
  where
    joined : (f : Function) → straight_field f ≡ function_field f
    joined f = regroup (text_field f.name) (types_field f.params) (types_field f.locals) (ty_field f.ret) (body_field f)
      where
        regroup : (a b c d e : List ℕ) → a ++ (b ++ (c ++ (d ++ e))) ≡ (a ++ (b ++ (c ++ d))) ++ e
        regroup a b c d e = sym (append_assoc a (b ++ (c ++ d)) e ∙ ap (λ x. a ++ x) (append_assoc b (c ++ d) e ∙ ap (λ x. b ++ x) (append_assoc c d e)))

    to : (f : Function) → LegalFunction f → LegalWhole f
    to f (name, (params, (locals, (ret, (code, (labels, lines)))))) = (
      record {
        name = name;
        params = params;
        locals = locals;
        ret = ret;
        size = code.0;
        code = λ k d l. (code.1 k d l).0;
        targets = labels.0;
        rises = labels.1.0;
        labels = λ k d l. (labels.1.1 k d l).1;
        lines = lines.0;
      },
      record { code = λ k d l. (code.1 k d l).1; labels = λ k d l. (labels.1.1 k d l).0; lines = lines.1 },
    )

    from : (f : Function) → LegalWhole f → LegalFunction f
    from f h = (
      h.0.name,
      (
        h.0.params,
        (
          h.0.locals,
          (
            h.0.ret,
            (
              (h.0.size, λ k d l. (h.0.code k d l, h.1.code k d l)),
              ((h.0.targets, (h.0.rises, λ k d l. (h.1.labels k d l, h.0.labels k d l))), (h.0.lines, h.1.lines)),
            ),
          ),
        ),
      ),
    )

abbrev LegalFunctions : List Function → Type 0
LegalFunctions fs = (length fs ≤ MAX_COUNT) × All LegalWhole fs

abbrev LegalParts : CodeUnit → Type 0
LegalParts u = AreFieldTexts u.files × (AreFieldTypes u.globals × LegalFunctions u.functions)

abbrev Filed : Type 0
Filed = (Unit {0}) × List (List ℕ)

abbrev last_at : Filed × List Ty → Reader CodeUnit
last_at x i = all_at function_at i >>= λ fs. Ok (record { files = x.0.1; globals = x.1; functions = fs.0 }, fs.1)

parts_are_field : IsField unit_at unit_field LegalParts
parts_are_field =
    rest_field unit_at unit_field LegalParts
    (rest_then {X = Unit {0}} {Y = CodeUnit} {Z = List (List ℕ)} (λ u. tt) (λ u. u.files) texts_at texts_field AreFieldTexts (λ x i. types_at i >>= λ z. last_at (x, z.0) z.1)
    (λ u. types_field u.globals ++ list_field function_field u.functions) (λ u. AreFieldTypes u.globals × LegalFunctions u.functions) texts_are_field
    (rest_then {X = Filed} {Y = CodeUnit} {Z = List Ty} (λ u. (tt, u.files)) (λ u. u.globals) types_at types_field AreFieldTypes last_at
    (λ u. list_field function_field u.functions) (λ u. LegalFunctions u.functions) types_are_field
    (rest_last {X = Filed × List Ty} {Y = CodeUnit} {Z = List Function} (λ u. ((tt, u.files), u.globals)) (λ u. u.functions) (λ x. all_at function_at) (list_field function_field) (λ x fs. LegalFunctions fs)
    (λ x fs. record { files = x.0.1; globals = x.1; functions = fs }) (λ u. refl) (λ x fs. refl) (λ x fs. refl) (λ x. all_is_field function_at function_field LegalWhole function_is_field))))

pub unit_is_field : IsField unit_at unit_field (λ u. IsFieldUnit u × UnitFits u)
unit_is_field = same_field unit_at unit_field unit_field LegalParts (λ u. IsFieldUnit u × UnitFits u) (λ u. refl)
    (λ u h. (record { files = h.0; globals = h.1.0; count = h.1.1.0; functions = λ k d l. (h.1.1.1 k d l).0 }, λ k d l. (h.1.1.1 k d l).1))
    (λ u h. (h.0.files, (h.0.globals, (h.0.count, λ k d l. (h.0.functions k d l, h.1 k d l))))) parts_are_field
