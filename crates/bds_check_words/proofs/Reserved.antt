-- The table of reserved words holds those that a text reads as such.
use Rattle.std.proofs.Common.{◌≡◌, ◌||◌, ℕ, Bool, true, false, List, [], ◌∷◌, Option, Some, refl, codes}
use Rattle.std.specs.Prelude.{is_some, if◌then◌else◌}
use Rattle.std.specs.List.{list_any}
use Rattle.std.specs.Str.{bytes_eq}
use Rattle.bds_tree.specs.declared.token.Word.{Word}
use Rattle.bds_tree.specs.declared.token.Word.TheVariants as word
use Rattle.bds_tree.specs.lexing.ReservedWords.{reserved}
use Rattle.bds_check_words.specs.SetNames.{is_reserved}

or-false : (b : Bool) → (b || false) ≡ b
or-false true = refl
or-false false = refl

step : (b : Bool) (w : Word) (others : Option Word) (rest last : Bool) → rest ≡ (is_some others || last) → (b || rest) ≡ (is_some (if b then Some w else others) || last)
step true w others rest last e = refl
step false w others rest last e = e

abbrev pub words : List (List ℕ)
words = codes "bool" ∷ codes "int" ∷ codes "string" ∷ codes "void" ∷ codes "true" ∷ codes "false" ∷ codes "if" ∷ codes "else" ∷ codes "while" ∷ codes "for" ∷ codes "break" ∷ codes "continue" ∷ codes "return" ∷ codes "include" ∷ codes "print" ∷ codes "println" ∷ codes "error" ∷ codes "exit" ∷ codes "wait" ∷ codes "checkpoint" ∷ codes "task" ∷ codes "dep" ∷ codes "goal" ∷ codes "par" ∷ codes "switch" ∷ codes "case" ∷ codes "default" ∷ codes "real" ∷ codes "class" ∷ codes "try" ∷ codes "catch" ∷ codes "throw" ∷ codes "kill" ∷ codes "breakpoint" ∷ codes "debug" ∷ codes "sys" ∷ []

pub words-reserved : (x : List ℕ) → list_any (λ w. bytes_eq x w) words ≡ is_reserved x
unfolding reserved
words-reserved x = step (bytes_eq x (codes "bool")) word.Bool _ _ (bytes_eq x (codes "sys")) (step (bytes_eq x (codes "int")) word.Int _ _ (bytes_eq x (codes "sys")) (step (bytes_eq x (codes "string")) word.String _ _ (bytes_eq x (codes "sys")) (step (bytes_eq x (codes "void")) word.Void _ _ (bytes_eq x (codes "sys")) (step (bytes_eq x (codes "true")) word.True _ _ (bytes_eq x (codes "sys")) (step (bytes_eq x (codes "false")) word.False _ _ (bytes_eq x (codes "sys")) (step (bytes_eq x (codes "if")) word.If _ _ (bytes_eq x (codes "sys")) (step (bytes_eq x (codes "else")) word.Else _ _ (bytes_eq x (codes "sys")) (step (bytes_eq x (codes "while")) word.While _ _ (bytes_eq x (codes "sys")) (step (bytes_eq x (codes "for")) word.For _ _ (bytes_eq x (codes "sys")) (step (bytes_eq x (codes "break")) word.Break _ _ (bytes_eq x (codes "sys")) (step (bytes_eq x (codes "continue")) word.Continue _ _ (bytes_eq x (codes "sys")) (step (bytes_eq x (codes "return")) word.Return _ _ (bytes_eq x (codes "sys")) (step (bytes_eq x (codes "include")) word.Include _ _ (bytes_eq x (codes "sys")) (step (bytes_eq x (codes "print")) word.Print _ _ (bytes_eq x (codes "sys")) (step (bytes_eq x (codes "println")) word.Println _ _ (bytes_eq x (codes "sys")) (step (bytes_eq x (codes "error")) word.Error _ _ (bytes_eq x (codes "sys")) (step (bytes_eq x (codes "exit")) word.Exit _ _ (bytes_eq x (codes "sys")) (step (bytes_eq x (codes "wait")) word.Wait _ _ (bytes_eq x (codes "sys")) (step (bytes_eq x (codes "checkpoint")) word.Checkpoint _ _ (bytes_eq x (codes "sys")) (step (bytes_eq x (codes "task")) word.Task _ _ (bytes_eq x (codes "sys")) (step (bytes_eq x (codes "dep")) word.Dep _ _ (bytes_eq x (codes "sys")) (step (bytes_eq x (codes "goal")) word.Goal _ _ (bytes_eq x (codes "sys")) (step (bytes_eq x (codes "par")) word.Par _ _ (bytes_eq x (codes "sys")) (step (bytes_eq x (codes "switch")) word.Switch _ _ (bytes_eq x (codes "sys")) (step (bytes_eq x (codes "case")) word.Case _ _ (bytes_eq x (codes "sys")) (step (bytes_eq x (codes "default")) word.Default _ _ (bytes_eq x (codes "sys")) (step (bytes_eq x (codes "real")) word.Real _ _ (bytes_eq x (codes "sys")) (step (bytes_eq x (codes "class")) word.Class _ _ (bytes_eq x (codes "sys")) (step (bytes_eq x (codes "try")) word.Try _ _ (bytes_eq x (codes "sys")) (step (bytes_eq x (codes "catch")) word.Catch _ _ (bytes_eq x (codes "sys")) (step (bytes_eq x (codes "throw")) word.Throw _ _ (bytes_eq x (codes "sys")) (step (bytes_eq x (codes "kill")) word.Kill _ _ (bytes_eq x (codes "sys")) (step (bytes_eq x (codes "breakpoint")) word.Breakpoint _ _ (bytes_eq x (codes "sys")) (step (bytes_eq x (codes "debug")) word.Debug _ _ (bytes_eq x (codes "sys")) (or-false (bytes_eq x (codes "sys")))))))))))))))))))))))))))))))))))))
