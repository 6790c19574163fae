-- What is asked of names for the code of an expression to stand for its term: it is what an accepted script has.
use Rattle.std.specs.Prelude.{◌≡◌, ℕ, zero, suc, List, [], ◌∷◌, length, Option, Some, IsSome, slice_get, ⊤}
use Rattle.bds_value.specs.declared.methods.Method.{Method}
use Rattle.bds_value.specs.declared.methods.Method.TheVariants as by
use Rattle.bds_value.specs.declared.value.Ty.{Ty}
use Rattle.bds_value.specs.Methods.{signature_of}
use Rattle.bds_tree.specs.Tree.{Tree, FormTree, Trees, TreePairs, node, number, text, truth, name, call, group, list, mapping, item, key, method, prefix, binary, choice, dependency, none, more, no_pairs, more_pairs, type_of}
use Rattle.bds_code.specs.declared.unit.Function.{Function}
use Rattle.bds_code.specs.declared.unit.Unit.{Unit as CodeUnit}
use Rattle.bds_check_names.specs.declared.names.Names.{Names as Checked}
use Rattle.bds_check_rules.specs.Typing.{count}
use Rattle.bds_check_size.specs.Parts.{Part, says, shows, shows_at, shows_at_name, shows_key, shows_key_name, parts_of}
use Rattle.bds_gen_expr.specs.Scope.{types_in}
use Rattle.bds_gen_expr.specs.declared.scope.Scope.{Scope}
use Rattle.bds_machine_values.specs.Values.{argument_counts}
use Rattle.bds_meaning.specs.Step.{function_in}
use Rattle.bds_sim_terms.specs.steps.Stands.{Source, results}

-- a value
abbrev pub IsOne : Ty → Type 0
IsOne t = results t ≡ 1

module _ (o : Source) (u : CodeUnit) (names : Checked) (scope : Scope) where
  -- a function with so many parameters, and a result or none as the type says
  pub record Callable (x : List ℕ) (n : ℕ) (t : Ty) : Type 0 where
    pub f : Function
    pub there : slice_get u.functions (o.number x) ≡ Some f
    pub gives : results f.ret ≡ results t
    pub takes : length (function_in o.program x).parameters ≡ n

  abbrev Known : List ℕ → Type 0
  Known x = IsSome (types_in scope x)

  abbrev pub PartKnown : Part → Type 0
  PartKnown (says t) = ⊤
  PartKnown (shows x) = Known x
  PartKnown (shows_at x n) = Known x
  PartKnown (shows_at_name x y) = Known x × Known y
  PartKnown (shows_key x t) = Known x
  PartKnown (shows_key_name x y) = Known x × Known y

  abbrev pub PartsKnown : List Part → Type 0
  PartsKnown [] = ⊤
  PartsKnown (p ∷ ps) = PartKnown p × PartsKnown ps

  -- a call of a method on a file, by its number, of so many arguments and with so many values
  abbrev pub FileGives : ℕ → ℕ → ℕ → Type 0
  FileGives zero n k = (n ≡ 0) × (k ≡ 1)
  FileGives (suc zero) n k = (n ≡ 0) × (k ≡ 1)
  FileGives (suc (suc zero)) n k = (n ≡ 1) × (k ≡ 0)
  FileGives (suc (suc (suc zero))) n k = (n ≡ 0) × (k ≡ 0)
  FileGives (suc (suc (suc (suc zero)))) n k = (n ≡ 0) × (k ≡ 1)
  FileGives (suc (suc (suc (suc (suc zero))))) n k = (n ≡ 0) × (k ≡ 1)
  FileGives (suc (suc (suc (suc (suc (suc zero)))))) n k = (n ≡ 0) × (k ≡ 1)
  FileGives _ n k = ⊥

  -- a method that changes nothing
  abbrev pub MethodGives : Option Method → ℕ → ℕ → Type 0
  MethodGives (Some (by.Plain m)) n k = (slice_get argument_counts m ≡ Some n) × (k ≡ 1)
  MethodGives (Some (by.File q)) n k = FileGives q n k
  MethodGives _ n k = ⊥

  abbrev mutual
    pub Here : Tree → Type 0
    Here (node at t f) = HereForm f t

    pub HereForm : FormTree → Ty → Type 0
    HereForm (number v) t = IsOne t
    HereForm (text ps) t = IsOne t × PartsKnown (parts_of (types_in scope) ps)
    HereForm (truth b) t = IsOne t
    HereForm (name x) t = IsOne t × Known x
    HereForm (call x es) t = Callable x (count es) t × AllHere es
    HereForm (group e) t = (type_of e ≡ t) × Here e
    HereForm (list es) t = IsOne t × AllHere es
    HereForm (mapping ps) t = IsOne t × PairsHere ps
    HereForm (item a i) t = IsOne t × IsOne (type_of a) × Here a × IsOne (type_of i) × Here i
    HereForm (key a k) t = IsOne t × IsOne (type_of a) × Here a × IsOne (type_of k) × Here k
    HereForm (method a m es) t = MethodGives (signature_of (type_of a) m (count es)) (count es) (results t) × IsOne (type_of a) × Here a × AllHere es
    HereForm (prefix s a) t = IsOne t × IsOne (type_of a) × Here a
    HereForm (binary a s b) t = IsOne t × IsOne (type_of a) × Here a × IsOne (type_of b) × Here b
    HereForm (choice c a b) t = IsOne t × IsOne (type_of c) × Here c × IsOne (type_of a) × Here a × IsOne (type_of b) × Here b
    HereForm (dependency a b) t = IsOne t × IsOne (type_of a) × Here a × IsOne (type_of b) × Here b

    pub AllHere : Trees → Type 0
    AllHere none = ⊤
    AllHere (more e es) = IsOne (type_of e) × Here e × AllHere es

    pub PairsHere : TreePairs → Type 0
    PairsHere no_pairs = ⊤
    PairsHere (more_pairs k v ps) = IsOne (type_of k) × Here k × IsOne (type_of v) × Here v × PairsHere ps
