-- What was printed as the canonical text of a script is formatted as it is.
use Rattle.std.specs.Prelude.{◌≡◌, ◌++◌, ℕ, List, [], ◌∷◌}
use Rattle.bds_host.specs.declared.asks.Ask.TheVariants.{Read, Out}
use Rattle.bds_host.specs.declared.asks.Reply.TheVariants.{Bytes, Done}
use Rattle.bds_host.specs.Host.{Log}
use Rattle.bds_tree.specs.declared.token.Token.{Token}
use Rattle.bds_tree.specs.ScriptTexts.{Spells}
use Rattle.bds_tree.specs.StmtTree.{ScriptTree}
use Rattle.bds_fmt.specs.Canonical.{canonical}
use Rattle.bds_fmt.specs.Law.{IsCanonicalOf}
use Rattle.bds_app_run.specs.declared.outcome.Outcome.{Outcome}
use Rattle.bds_app_run.specs.declared.outcome.Outcome.TheVariants.{Ended, Refused}
use Rattle.bds_app_fmt.specs.Formatting.{FormatsScript}

-- in this call a text was read, and this was printed for it
abbrev pub Gave : List ℕ → List ℕ → List ℕ → Log → Log → Type 0
Gave path text printed before after = after ≡ before ++ ((Read path, Bytes text) ∷ (Out printed, Done) ∷ [])

-- it is the kept line and the canonical text of the script's tokens, and spells the script in all but lines
pub record GaveCanonical (text printed : List ℕ) : Type 0 where
  pub tokens : List Token
  pub script : ScriptTree
  pub spells : Spells text tokens script
  pub is : printed ≡ canonical text tokens
  pub same : IsCanonicalOf script printed

-- what a call that ended well read, and what it printed for it
pub record Formatted (path : List ℕ) (before after : Log) : Type 0 where
  pub text : List ℕ
  pub printed : List ℕ
  pub gave : Gave path text printed before after
  pub canonical : GaveCanonical text printed

abbrev pub PrintsCanonical : Type 0
PrintsCanonical = (path : List ℕ) (before after : Log) → FormatsScript path before after (Ended 0) → Formatted path before after

-- and what was printed is that
abbrev pub GivesCanonical : Type 0
GivesCanonical =
    (path : List ℕ) (before after : Log) (text printed : List ℕ) → FormatsScript path before after (Ended 0)
    → Gave path text printed before after → GaveCanonical text printed

-- where a call that reads what was printed prints a text, it prints it again, and it isn't refused
abbrev pub PrintsItself : Type 0
PrintsItself =
    (path : List ℕ) (before after : Log) (next : List ℕ) (start end : Log) (answer : Outcome) (text printed : List ℕ)
    → FormatsScript path before after (Ended 0) → Gave path text printed before after
    → (rest : Log) → end ≡ start ++ ((Read next, Bytes printed) ∷ rest) → FormatsScript next start end answer
    → ((answer ≡ Ended 0) → Gave next printed printed start end) × ((answer ≡ Refused) → ⊥)
