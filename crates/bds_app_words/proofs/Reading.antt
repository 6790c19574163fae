-- What is read of the matches of `clap`, and where it has none.
use Rattle.std.proofs.Common.{◌≡◌, ◌≢◌, ◌&&◌, Bool, true, false, refl, sym, ap, ap₂, subst, cond, inl, inr, List, [], Option, Some, None, Err}
use Rattle.std.specs.Prelude.{option_and_then, option_map}
use Rattle.std.specs.Option.{option_map_or}
use Rattle.clap.specs.Kinds.{HasKind, IsAmong, Kinds}
use Rattle.clap.specs.Walk.{Row, Text, is_empty}
use Rattle.clap.specs.Words.{App, fault_of, kind_of, subcommand_of}
use Rattle.clap.specs.declared.error.Error.{Error}
use Rattle.clap.specs.declared.error.kind.ErrorKind.TheVariants.{OutOfMemory}
use Rattle.bds_app_words.specs.Asked.{Gives, are_short, asked_of, command_of}
use Rattle.bds_app_words.specs.Declaration.{declaration}
use Rattle.bds_app_words.specs.declared.command.Command.{Command}
use Rattle.bds_app_words.specs.declared.command.WordsFault.{WordsFault}
use Rattle.bds_app_words.specs.declared.command.WordsFault.TheVariants.{NoMemory, NotUnderstood}
use Rattle.bds_app_words.proofs.Declared.{no_kinds}

-- a name and rows that were matched
pub matched : {B : Type 0} (pair : B → Text × List Row) (o : Option B) (name : Text) (rows : List Row) → Some name ≡ option_map (λ b. (pair b).0) o → Some rows ≡ option_map (λ p. p.1) (option_map pair o) → Some (name, rows) ≡ option_map pair o
matched pair None name rows e f = absurd (cc e)
matched pair (Some b) name rows e f =
    let name_is : name ≡ (pair b).0 = ap (λ o. option_map_or (λ z. z) o name) e in
    let rows_is : rows ≡ (pair b).1 = ap (λ o. option_map_or (λ z. z) o rows) f in
    ap₂ (λ n r. Some (n, r)) name_is rows_is

-- short words without a fault
pub read_of : (a : App) (words : List Text) → a ≡ declaration → are_short words ≡ true → fault_of a words ≡ [] → option_and_then (λ p. asked_of p.0 p.1) (subcommand_of a words) ≡ command_of words
read_of a words is short none =
    go (are_short words) short (is_empty (fault_of declaration words)) (ap is_empty (subst (λ x. fault_of x words ≡ []) is none))
    (option_and_then (λ p. asked_of p.0 p.1) (subcommand_of a words)) (option_and_then (λ p. asked_of p.0 p.1) (subcommand_of declaration words))
    (ap (λ x. option_and_then (λ p. asked_of p.0 p.1) (subcommand_of x words)) is)
  where
    go : (s : Bool) → s ≡ true → (b : Bool) → b ≡ true → (o other : Option Command) → o ≡ other → o ≡ cond (s && b) other None
    go true short true clean o other same = same
    go true short false clean o other same = absurd (cc clean)
    go false short b clean o other same = absurd (cc short)

-- words with a fault
pub none_of : (words : List Text) → fault_of declaration words ≢ [] → command_of words ≡ None
none_of words some = go (are_short words) (is_empty (fault_of declaration words)) refl (option_and_then (λ p. asked_of p.0 p.1) (subcommand_of declaration words))
  where
    go : (s b : Bool) → is_empty (fault_of declaration words) ≡ b → (o : Option Command) → cond (s && b) o None ≡ None
    go false b is o = refl
    go true true is o = absurd (some (no_kinds (fault_of declaration words) is))
    go true false is o = refl

pub refused : (a : App) (words : List Text) (e : Error) → a ≡ declaration → HasKind (fault_of a words) e → (r : WordsFault) → (r ≡ NotUnderstood → kind_of e ≢ OutOfMemory) → Gives (command_of words) (Err r)
refused a words e is has NoMemory other = tt
refused a words e is has NotUnderstood other = none_of words (λ empty. by (fault_of a words) (subst (λ x. fault_of x words ≡ []) (sym is) empty) has)
  where
    by : (kinds : Kinds) → kinds ≡ [] → HasKind kinds e → ⊥
    by kinds empty (inl memory) = other refl memory
    by kinds empty (inr among) = subst (λ ks. IsAmong (kind_of e) ks) empty among
