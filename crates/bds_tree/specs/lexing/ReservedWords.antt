-- Names and reserved words.
use Rattle.std.specs.Prelude.{ℕ, List, Option, Some, None, if◌then◌else◌, codes}
use Rattle.std.specs.Str.{bytes_eq}
use Rattle.bds_tree.specs.declared.token.Word.{Word}
use Rattle.bds_tree.specs.declared.token.Word.TheVariants as word

-- the reserved words but `sys`, which is read with the rest of its line
unfoldable pub reserved : List ℕ → Option Word
reserved name =
    if bytes_eq name (codes "bool") then Some word.Bool
    else (if bytes_eq name (codes "int") then Some word.Int
    else (if bytes_eq name (codes "string") then Some word.String
    else (if bytes_eq name (codes "void") then Some word.Void
    else (if bytes_eq name (codes "true") then Some word.True
    else (if bytes_eq name (codes "false") then Some word.False
    else (if bytes_eq name (codes "if") then Some word.If
    else (if bytes_eq name (codes "else") then Some word.Else
    else (if bytes_eq name (codes "while") then Some word.While
    else (if bytes_eq name (codes "for") then Some word.For
    else (if bytes_eq name (codes "break") then Some word.Break
    else (if bytes_eq name (codes "continue") then Some word.Continue
    else (if bytes_eq name (codes "return") then Some word.Return
    else (if bytes_eq name (codes "include") then Some word.Include
    else (if bytes_eq name (codes "print") then Some word.Print
    else (if bytes_eq name (codes "println") then Some word.Println
    else (if bytes_eq name (codes "error") then Some word.Error
    else (if bytes_eq name (codes "exit") then Some word.Exit
    else (if bytes_eq name (codes "wait") then Some word.Wait
    else (if bytes_eq name (codes "checkpoint") then Some word.Checkpoint
    else (if bytes_eq name (codes "task") then Some word.Task
    else (if bytes_eq name (codes "dep") then Some word.Dep
    else (if bytes_eq name (codes "goal") then Some word.Goal
    else (if bytes_eq name (codes "par") then Some word.Par
    else (if bytes_eq name (codes "switch") then Some word.Switch
    else (if bytes_eq name (codes "case") then Some word.Case
    else (if bytes_eq name (codes "default") then Some word.Default
    else (if bytes_eq name (codes "real") then Some word.Real
    else (if bytes_eq name (codes "class") then Some word.Class
    else (if bytes_eq name (codes "try") then Some word.Try
    else (if bytes_eq name (codes "catch") then Some word.Catch
    else (if bytes_eq name (codes "throw") then Some word.Throw
    else (if bytes_eq name (codes "kill") then Some word.Kill
    else (if bytes_eq name (codes "breakpoint") then Some word.Breakpoint
    else (if bytes_eq name (codes "debug") then Some word.Debug
    else None))))))))))))))))))))))))))))))))))

-- a reserved word, or else a Name
unfoldable pub word_of : List ℕ → Word
word_of name = elim (reserved name) [ Some w ↦ w | None ↦ word.Name name ]
