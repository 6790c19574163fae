-- The names in force: what a name stands for, and where a declaration puts it.
use Rattle.std.specs.Prelude.{ℕ, Bool, true, false, not, ◌&&◌, Option, Some, None, List, [], ◌∷◌, ◌++◌, length, drop, ◌≡◌, if◌then◌else◌}
use Rattle.std.specs.List.{list_any}
use Rattle.std.specs.Str.{bytes_eq}
use Rattle.bds_value.specs.declared.value.Ty.{Ty}
use Rattle.bds_check_names.specs.declared.names.Variable.{Variable}
use Rattle.bds_check_names.specs.declared.names.Head.{Head}
use Rattle.bds_check_names.specs.declared.names.Names.{Names}
use Rattle.bds_check_names.specs.declared.names.Asked.{Asked}
use Rattle.bds_check_names.specs.declared.names.Asked.TheVariants.{Whole, Value, This}
use Rattle.bds_check_names.specs.declared.names.Site.{Site}
use Rattle.bds_check_names.specs.Types.{is_known, or_void}

abbrev pub variable : List ℕ → Ty → Variable
variable x t = record { name = x; ty = t }

-- the type of the first variable of a name
abbrev pub first_type : List ℕ → List Variable → Option Ty
first_type x [] = None
first_type x (v ∷ vs) = (if bytes_eq x v.name then Some v.ty else first_type x vs)

-- the type of the last variable of a name, or else what was found before
abbrev pub last_type : List ℕ → List Variable → Option Ty → Option Ty
last_type x [] found = found
last_type x (v ∷ vs) found = last_type x vs (if bytes_eq x v.name then Some v.ty else found)

abbrev pub either : Option Ty → Option Ty → Option Ty
either (Some t) others = Some t
either None others = others

-- the type of the variable that a name stands for: the innermost local, or else the global
abbrev pub found : List ℕ → Names → Option Ty
found x names = either (last_type x names.locals None) (first_type x names.globals)

-- of functions of one name the first counts
abbrev pub function_named : List ℕ → List Head → Option Head
function_named x [] = None
function_named x (h ∷ hs) = (if bytes_eq x h.name then Some h else function_named x hs)

-- the type of a name, `Void` where it isn't in force
abbrev pub type_named : List ℕ → Names → Ty
type_named x names = or_void (found x names)

-- a global without a type, while types are found
abbrev pub is_untyped : Bool → Option Ty → Bool
is_untyped finding None = false
is_untyped finding (Some t) = finding && not (is_known t)

-- a name that isn't in force; while types are found, a global without a type counts as none
abbrev pub is_missing : Bool → Option Ty → Bool
is_missing finding None = true
is_missing finding (Some t) = finding && not (is_known t)

abbrev pub any_named : List ℕ → List Variable → Bool
any_named x variables = list_any (λ v. bytes_eq x v.name) variables

-- one more variable of a block, which began behind so many; where it has one of the name already, that one counts
abbrev pub declare_in : ℕ → Variable → List Variable → List Variable
declare_in start v variables = (if any_named v.name (drop start variables) then variables else variables ++ v ∷ [])

-- the block has a variable of the name already
abbrev pub is_declared : Names → Site → List ℕ → Bool
is_declared names site x = (if site.at_top then any_named x names.globals else any_named x (drop site.start names.locals))

abbrev pub with_locals : Names → List Variable → Names
with_locals names locals = record { functions = names.functions; globals = names.globals; locals = locals; finding = names.finding }

abbrev pub with_globals : Names → List Variable → Names
with_globals names globals = record { functions = names.functions; globals = globals; locals = names.locals; finding = names.finding }

-- the names behind a declaration: at the top level it makes a global, and else a local of its block
abbrev pub declare : Names → Site → List ℕ → Ty → Names
declare names site x t =
    if site.at_top then with_globals names (declare_in 0 (variable x t) names.globals)
    else with_locals names (declare_in site.start (variable x t) names.locals)

-- a local of a block of its own
abbrev pub with_local : Names → List ℕ → Ty → Names
with_local names x t = with_locals names (names.locals ++ variable x t ∷ [])

abbrev pub site_in : Names → Bool → Bool → Option Ty → Site
site_in names loops breaks returns = record { at_top = false; start = length names.locals; in_loop = loops; may_break = breaks; returns = returns }

-- a block within
abbrev pub inner : Names → Site → Site
inner names site = site_in names site.in_loop site.may_break site.returns

-- the body of a loop
abbrev pub in_loop : Names → Site → Site
in_loop names site = site_in names true true site.returns

-- the statements of a case
abbrev pub in_switch : Names → Site → Site
in_switch names site = site_in names site.in_loop true site.returns

-- a `par` block: in no loop, and nothing can be returned from it
abbrev pub apart : Names → Site
apart names = site_in names false false None

-- the top level
abbrev pub top : Site
top = record { at_top = true; start = 0; in_loop = false; may_break = false; returns = None }

-- a function's body; its parameters are in force and stand in the same block
abbrev pub in_function : Ty → Site
in_function result = record { at_top = false; start = 0; in_loop = false; may_break = false; returns = Some result }

abbrev pub is_value : Asked → Bool
is_value Whole = false
is_value Value = true
is_value (This t) = true

-- the same names, and maybe further locals
abbrev pub Extends : Names → Names → Type 0
Extends before behind = (more : List Variable) × (behind ≡ with_locals before (before.locals ++ more))
