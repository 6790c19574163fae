-- For private contracts alone: reading functions, includes and the parts of a script.
use Rattle.std.specs.Prelude.{ℕ, Bool, true, false, List, [], ◌∷◌, Option, Some, None, if◌then◌else◌, ◌+◌}
use Rattle.bds_value.specs.declared.TheConstants.{MAX_NESTING}
use Rattle.bds_value.specs.declared.value.Ty.{Ty}
use Rattle.bds_value.specs.Options.{◌>>=◌}
use Rattle.bds_tree.specs.declared.token.Word.{Word}
use Rattle.bds_tree.specs.declared.token.Word.TheVariants as w
use Rattle.bds_tree.specs.declared.token.Token.{Token}
use Rattle.bds_tree.specs.declared.token.Piece.{Piece}
use Rattle.bds_tree.specs.declared.stmt.Include.{Include}
use Rattle.bds_tree.specs.declared.stmt.Parameter.{Parameter}
use Rattle.bds_tree.specs.StmtTree.{FunctionTree, PartTree, ScriptTree, a_function, an_include, a_statement}
use Rattle.bds_tree.specs.StmtShape.{is_plain}
use Rattle.bds_parse_expr.specs.Reading.{Read, behind, name_at, line_ahead}
use Rattle.bds_parse_stmt_parts.specs.declared.words.Sign.TheVariants as s
use Rattle.bds_parse_stmt_parts.specs.Words.{is_sign, is_include, sign_ahead}
use Rattle.bds_parse_stmt_parts.specs.Types.{type_at, result_at}
use Rattle.bds_parse_stmt_parts.specs.Reading.{here, Next, many_onto, statement, block}

abbrev pub parameter : List Token → Read Parameter
parameter ts = type_at (MAX_NESTING + 1) ts >>= λ t. name_at t.1 >>= λ n. Some (record { ty = t.0; name = n.0 }, n.1)

abbrev pub next_parameter : Next Parameter
next_parameter ts = if sign_ahead s.Comma ts then (behind (is_sign s.Comma) ts >>= λ a. parameter a >>= λ x. Some (Some x)) else Some None

-- parameters, and the parenthesis that closes them
abbrev pub parameters : List Token → Read (List Parameter)
parameters ts =
    if sign_ahead s.CloseRound ts then (behind (is_sign s.CloseRound) ts >>= λ rest. Some ([], rest))
    else (parameter ts >>= λ x. many_onto next_parameter (x.0 ∷ []) x.1 >>= λ xs. behind (is_sign s.CloseRound) xs.1 >>= λ rest. Some (xs.0, rest))

-- `type name (`
abbrev pub function_front : List Token → Read (Ty × List ℕ)
function_front ts = result_at (MAX_NESTING + 1) ts >>= λ t. name_at t.1 >>= λ n. behind (is_sign s.OpenRound) n.1 >>= λ rest. Some ((t.0, n.0), rest)

abbrev pub function_rest : ℕ → Ty → List ℕ → List Token → Read FunctionTree
function_rest l t n ts = parameters ts >>= λ ps. block (MAX_NESTING + 1) ps.1 >>= λ b. Some (record { at = here l; result = t; name = n; parameters = ps.0; body = b.0 }, b.1)

abbrev pub all_plain : List Piece → Bool
all_plain [] = true
all_plain (p ∷ ps) = if is_plain p then all_plain ps else false

abbrev pub include_by : ℕ → Word → List Token → Read Include
include_by l (w.Text ps) ts = if all_plain ps then (behind (is_sign s.Semicolon) ts >>= λ rest. Some (record { at = here l; path = ps }, rest)) else None
include_by l _ ts = None

abbrev pub include_rest : ℕ → List Token → Read Include
include_rest l [] = None
include_rest l (t ∷ ts) = include_by l t.word ts

abbrev pub function_by : List Token → Read (Ty × List ℕ) → Read PartTree
function_by ts (Some f) = function_rest (line_ahead ts) f.0.0 f.0.1 f.1 >>= λ x. Some (a_function x.0, x.1)
function_by ts None = statement (MAX_NESTING + 1) ts >>= λ x. Some (a_statement x.0, x.1)

abbrev pub function_or_stmt : List Token → Read PartTree
function_or_stmt ts = function_by ts (function_front ts)

abbrev pub next_part : Next PartTree
next_part [] = Some None
next_part (t ∷ ts) = if is_include t.word then (include_rest t.line ts >>= λ x. Some (Some (an_include x.0, x.1))) else (function_or_stmt (t ∷ ts) >>= λ x. Some (Some x))

-- a script without tokens stands on line 1
abbrev pub script_line : List Token → ℕ
script_line [] = 1
script_line (t ∷ ts) = t.line

-- reading a script
abbrev pub script_at : List Token → Option ScriptTree
script_at ts = many_onto next_part [] ts >>= λ ps. Some (record { at = here (script_line ts); files = []; parts = ps.0 })
