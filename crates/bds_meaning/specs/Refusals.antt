-- Why a script is not run, and how that is told.
use Rattle.std.specs.Prelude.{ℕ, List, [], ◌∷◌, Option, Some, None, Result, Ok, Err, codes, nat_le, option_map, slice_get, unwrap_or, if◌then◌else◌}
use Rattle.bds_value.specs.declared.TheConstants.{MAX_CODE}
use Rattle.bds_value.specs.Results.{◌>>=◌}
use Rattle.bds_host.specs.declared.faults.Fault.{Fault}
use Rattle.bds_host.specs.declared.faults.Fault.TheVariants as fault
use Rattle.bds_tree.specs.declared.lexing.LexFault.{LexFault}
use Rattle.bds_tree.specs.declared.lexing.LexFault.TheVariants as lex
use Rattle.bds_tree.specs.ScriptTexts.{TextFlaw, too_long, no_tokens, no_script}
use Rattle.bds_tree.specs.StmtTree.{ScriptTree}
use Rattle.bds_check_rules.specs.declared.rules.Rule.{Rule}
use Rattle.bds_check_rules.specs.declared.rules.Rule.TheVariants as rule
use Rattle.bds_check_typing.specs.Walk.{Broken}
use Rattle.bds_check_typing.specs.Program.{first_broken, typed}
use Rattle.bds_meaning.specs.Variables.{Bindings}

-- A text without a tree

-- want of memory is no fault of a text
abbrev pub lexer_fault : List ℕ → LexFault → Option Fault
lexer_fault path (lex.OpenText line) = Some (fault.OpenText path line)
lexer_fault path (lex.OpenComment line) = Some (fault.OpenComment path line)
lexer_fault path (lex.BadByte line byte) = Some (fault.BadByte path line byte)
lexer_fault path (lex.BigNumber line) = Some (fault.BigNumber path line)
lexer_fault path (lex.BadEscape line byte) = Some (fault.BadEscape path line byte)
lexer_fault path lex.NoMemory = None

abbrev pub text_fault : List ℕ → TextFlaw → Option Fault
text_fault path too_long = Some (fault.TooLong path)
text_fault path (no_tokens f) = lexer_fault path f
text_fault path (no_script line) = Some (fault.Syntax path line)

-- A program that breaks a rule

-- the name by which a broken rule is told
abbrev pub name_of : Rule → List ℕ
name_of rule.UnknownName = codes "UnknownName"
name_of rule.UnknownFunction = codes "UnknownFunction"
name_of rule.UnknownMethod = codes "UnknownMethod"
name_of rule.UnknownOption = codes "UnknownOption"
name_of rule.TwiceDeclared = codes "TwiceDeclared"
name_of rule.TwiceFunction = codes "TwiceFunction"
name_of rule.TwiceOption = codes "TwiceOption"
name_of rule.TwoDeps = codes "TwoDeps"
name_of rule.NoDep = codes "NoDep"
name_of rule.NoCommand = codes "NoCommand"
name_of rule.WrongType = codes "WrongType"
name_of rule.WrongCount = codes "WrongCount"
name_of rule.VoidValue = codes "VoidValue"
name_of rule.OpenLiteral = codes "OpenLiteral"
name_of rule.BadItem = codes "BadItem"
name_of rule.NotPlace = codes "NotPlace"
name_of rule.MutatorValue = codes "MutatorValue"
name_of rule.BreakOutside = codes "BreakOutside"
name_of rule.ReturnOutside = codes "ReturnOutside"
name_of rule.NoReturn = codes "NoReturn"
name_of rule.TooManyParameters = codes "TooManyParameters"
name_of rule.TooManyLocals = codes "TooManyLocals"
name_of rule.DeepType = codes "DeepType"
name_of rule.TwoDefaults = codes "TwoDefaults"

-- with the file of the node, of these
abbrev pub broken_fault : List (List ℕ) → Broken → Fault
broken_fault files b = fault.Broken (unwrap_or (slice_get files b.at.file) []) b.at.line (name_of b.rule)

-- The refusals of a program that was read whole, in the order in which they are tested

abbrev pub unless : {X : Type 0} → Option Fault → Result X Fault → Result X Fault
unless (Some f) r = Err f
unless None r = r

abbrev pub first_beyond : List (List ℕ) → Option Fault
first_beyond [] = None
first_beyond (path ∷ paths) = Some (fault.IncludeTooDeep path)

-- the script with its types, where it breaks no rule and holds no include beyond the limits
abbrev pub checked : ScriptTree → List (List ℕ) → Result ScriptTree Fault
checked program beyond =
    unless (option_map (broken_fault program.files) (first_broken program)) (
    unless (first_beyond beyond) (
    Ok (typed program)))

-- what the words of a call set before the run: values of globals, and the items of `args`
pub record Preset : Type 0 where
  pub settings : Bindings
  pub args : List (List ℕ)

-- a typed script with what the words set
pub record Accepted : Type 0 where
  pub script : ScriptTree
  pub preset : Preset

-- the path of the script; what the words set in a typed script, or the fault of a word; and how many instructions its code has
module _ (path : List ℕ) (words : ScriptTree → Result Preset Fault) (size : ScriptTree → Preset → ℕ) where
  abbrev pub too_big : ScriptTree → Preset → Option Fault
  too_big script preset = if nat_le (size script preset) MAX_CODE then None else Some (fault.TooBig path)

  -- what is run of a program, or why it isn't
  abbrev pub accepted : ScriptTree → List (List ℕ) → Result Accepted Fault
  accepted program beyond =
      checked program beyond >>= λ script.
      words script >>= λ preset.
      unless (too_big script preset) (
      Ok (record { script = script; preset = preset }))
