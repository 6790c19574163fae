-- For contracts within the parser alone: what words say of statements.
use Rattle.std.specs.Prelude.{Bool, true, false, ◌||◌, List, [], ◌∷◌, Option, Some, None, if◌then◌else◌}
use Rattle.bds_value.specs.Options.{◌>>=◌}
use Rattle.bds_tree.specs.declared.token.Word.{Word}
use Rattle.bds_tree.specs.declared.token.Word.TheVariants as w
use Rattle.bds_tree.specs.declared.token.Token.{Token}
use Rattle.bds_tree.specs.declared.stmt.StepOp.TheVariants as step_op
use Rattle.bds_tree.specs.declared.stmt.UpdateOp.TheVariants as update_op
use Rattle.bds_parse_expr.specs.Reading.{behind}
use Rattle.bds_parse_stmt_parts.specs.declared.words.Sign.{Sign}
use Rattle.bds_parse_stmt_parts.specs.declared.words.Sign.TheVariants as s
use Rattle.bds_parse_stmt_parts.specs.declared.words.HeadKind.{HeadKind}
use Rattle.bds_parse_stmt_parts.specs.declared.words.HeadKind.TheVariants as head
use Rattle.bds_parse_stmt_parts.specs.declared.words.PlaceSign.{PlaceSign}
use Rattle.bds_parse_stmt_parts.specs.declared.words.PlaceSign.TheVariants as place
use Rattle.bds_parse_stmt_parts.specs.declared.words.LineKind.{LineKind}
use Rattle.bds_parse_stmt_parts.specs.declared.words.LineKind.TheVariants as line
use Rattle.bds_parse_stmt_parts.specs.declared.words.StmtKind.{StmtKind}
use Rattle.bds_parse_stmt_parts.specs.declared.words.StmtKind.TheVariants as stmt

abbrev pub is_sign : Sign → Word → Bool
is_sign s.OpenRound w.OpenRound = true
is_sign s.CloseRound w.CloseRound = true
is_sign s.CloseSquare w.CloseSquare = true
is_sign s.CloseValue w.CloseValue = true
is_sign s.OpenBlock w.OpenBlock = true
is_sign s.CloseBlock w.CloseBlock = true
is_sign s.Comma w.Comma = true
is_sign s.Semicolon w.Semicolon = true
is_sign s.Colon w.Colon = true
is_sign s.CaseColon w.CaseColon = true
is_sign s.Assign w.Assign = true
is_sign s.Else w.Else = true
is_sign s.Case w.Case = true
is_sign s.Default w.Default = true
is_sign _ _ = false

abbrev pub is_stop : Word → Bool
is_stop w.Semicolon = true
is_stop w.CloseRound = true
is_stop w.Else = true
is_stop _ = false

-- the statements of a block or of a case end before it
abbrev pub ends_stmts : Word → Bool
ends_stmts w.CloseBlock = true
ends_stmts w.Case = true
ends_stmts w.Default = true
ends_stmts _ = false

abbrev pub is_act : Word → Bool
is_act (w.Sys ps) = true
is_act w.Task = true
is_act w.Dep = true
is_act w.Goal = true
is_act w.Par = true
is_act _ = false

abbrev pub is_include : Word → Bool
is_include w.Include = true
is_include _ = false

abbrev pub head_kind : Word → HeadKind
head_kind w.Bool = head.Type
head_kind w.Int = head.Type
head_kind w.String = head.Type
head_kind w.Increment = head.Step step_op.Increment
head_kind w.Decrement = head.Step step_op.Decrement
head_kind (w.Name n) = head.Name
head_kind _ = head.Other

abbrev pub place_sign : Word → PlaceSign
place_sign w.Declare = place.Infer
place_sign w.Assign = place.Assign
place_sign w.AddAssign = place.Update update_op.Add
place_sign w.SubAssign = place.Update update_op.Sub
place_sign w.MulAssign = place.Update update_op.Mul
place_sign w.DivAssign = place.Update update_op.Div
place_sign w.RemAssign = place.Update update_op.Rem
place_sign w.Increment = place.Step step_op.Increment
place_sign w.Decrement = place.Step step_op.Decrement
place_sign _ = place.Other

abbrev pub line_kind : Word → LineKind
line_kind w.Print = line.Print
line_kind w.Println = line.Println
line_kind w.Error = line.Error
line_kind w.Exit = line.Exit
line_kind w.Break = line.Break
line_kind w.Continue = line.Continue
line_kind w.Return = line.Return
line_kind w.Wait = line.Wait
line_kind w.Checkpoint = line.Checkpoint
line_kind (w.Sys ps) = line.Act
line_kind w.Task = line.Act
line_kind w.Dep = line.Act
line_kind w.Goal = line.Act
line_kind w.Par = line.Act
line_kind _ = line.Head

abbrev pub stmt_kind : Word → StmtKind
stmt_kind w.OpenBlock = stmt.Block
stmt_kind w.Semicolon = stmt.Empty
stmt_kind w.If = stmt.If
stmt_kind w.While = stmt.While
stmt_kind w.For = stmt.For
stmt_kind w.Switch = stmt.Switch
stmt_kind _ = stmt.Line

abbrev pub sign_ahead : Sign → List Token → Bool
sign_ahead sign [] = false
sign_ahead sign (t ∷ ts) = is_sign sign t.word

-- the end of a line, or of a part of the head of a `for`, comes next
abbrev pub nothing_ahead : List Token → Bool
nothing_ahead [] = false
nothing_ahead (t ∷ ts) = is_stop t.word

-- the end of the statements of a block or of a case comes next
abbrev pub end_ahead : List Token → Bool
end_ahead [] = false
end_ahead (t ∷ ts) = ends_stmts t.word

-- behind a line: a `;`, unless its last token is a block `}` or an `else` comes
abbrev pub line_end : Bool → List Token → Option (List Token)
line_end braced ts =
    if braced || sign_ahead s.Else ts then Some ts
    else (behind (is_sign s.Semicolon) ts >>= λ rest. if sign_ahead s.Else rest then None else Some rest)
