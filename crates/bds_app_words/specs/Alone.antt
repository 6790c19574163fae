-- What `run` asks for where a path alone stands behind it.
use Rattle.std.specs.Prelude.{◌≡◌, ◌≢◌, ℕ, [], ◌∷◌, Some, codes}
use Rattle.clap.specs.Words.{Text}
use Rattle.bds_value.specs.declared.TheConstants.{MAX_TICKS}
use Rattle.bds_app_words.specs.Asked.{command_of}
use Rattle.bds_app_words.specs.declared.command.Command.TheVariants.{Run}
use Rattle.bds_app_words.specs.declared.command.Over.TheVariants.{Plain}

-- a word that doesn't begin with a hyphen (45), or is one
abbrev pub IsNoOption : Text → Type 0
IsNoOption word = (x : ℕ) (rest : Text) → word ≢ 45 ∷ x ∷ rest

-- it asks for a run of the script at that path, on 4 processors, within 2^62 ticks, without words, over the host of the
-- call
abbrev pub IsRunAlone : Text → Type 0
IsRunAlone path = command_of (codes "run" ∷ path ∷ []) ≡ Some (Run 4 MAX_TICKS path [] Plain)
