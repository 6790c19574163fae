-- When the values that words give fit the globals that they set.
use Rattle.std.specs.Prelude.{◌≡◌, ◌≤◌, ℕ, Option, Some, None, List, map, ⊤}
use Rattle.std.specs.List.{AllByRecursion}
use Rattle.bds_value.specs.declared.TheConstants.{MAX_ITEMS}
use Rattle.bds_value.specs.declared.value.Ty.{Ty}
use Rattle.bds_value.specs.declared.value.Ty.TheVariants as ty
use Rattle.bds_value.specs.declared.value.Value.{Value, out-Value}
use Rattle.bds_value.specs.declared.value.Value.TheOpen.{Value-F}
use Rattle.bds_tree.specs.StmtTree.{StmtFormTree, stmt, PartTree, a_function, an_include, a_statement}
use Rattle.bds_check_rules.specs.Declarations.{declared_by_form}
use Rattle.bds_check_size.specs.ScriptSize.{Settings, set_for_variable, type_or_void, items_in}
use Rattle.bds_check_typing.specs.declared.given.Given.{Given}
use Rattle.bds_check_typing.specs.Texts.{IsShort}

-- the names with their values, as the size of a script and its code see them
abbrev pub set_by : List Given → Settings
set_by gs = map (λ g. (g.name, g.value)) gs

-- a text of a word
abbrev pub IsTextAt : Value-F Value → Type 0
IsTextAt (Value-F.Text t) = IsShort t
IsTextAt _ = ⊥

-- a truth value, a number, a text or a list of texts, of this type
abbrev pub IsGivenAt : Value-F Value → Ty → Type 0
IsGivenAt (Value-F.Bool b) t = t ≡ ty.Bool
IsGivenAt (Value-F.Int n) t = t ≡ ty.Int
IsGivenAt (Value-F.Text x) t = (t ≡ ty.Text) × IsShort x
IsGivenAt (Value-F.List u vs) t = (t ≡ ty.List ty.Text) × (u ≡ ty.Text) × AllByRecursion (λ v. IsTextAt (out-Value v)) vs
IsGivenAt (Value-F.Map u ps) t = ⊥

abbrev pub IsGivenFor : Option Value → Ty → Type 0
IsGivenFor None t = ⊤
IsGivenFor (Some v) t = IsGivenAt (out-Value v) t

abbrev pub IsFormSet : Settings → StmtFormTree → Type 0
IsFormSet ss f = IsGivenFor (set_for_variable ss (declared_by_form f)) (type_or_void (declared_by_form f))

abbrev pub IsPartSet : Settings → PartTree → Type 0
IsPartSet ss (a_statement (stmt at f)) = IsFormSet ss f
IsPartSet ss (a_function f) = ⊤
IsPartSet ss (an_include i) = ⊤

-- each global that is set gets a value of its type
abbrev pub FitGlobals : Settings → List PartTree → Type 0
FitGlobals ss ps = AllByRecursion (IsPartSet ss) ps

-- a list that words give has no more items than a list may have
abbrev pub AreShortLists : Settings → Type 0
AreShortLists ss = AllByRecursion (λ (s : List ℕ × Value). items_in s.1 ≤ MAX_ITEMS) ss
