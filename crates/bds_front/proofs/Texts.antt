-- What reading one file comes to.
use Rattle.std.proofs.Common.{◌≡◌, ◌∙◌, refl, ◌≤◌, ◌<◌, ◌++◌, ℕ, List, [], ◌∷◌, length, Result, Ok, Err, inl, inr, sym, subst}
use Rattle.bds_value.specs.declared.TheConstants.{MAX_TEXT}
use Rattle.bds_host.specs.declared.asks.Ask.TheVariants.{Read}
use Rattle.bds_host.specs.Host.{Log, FoundNoRoom}
use Rattle.bds_tree.specs.declared.lexing.LexFault.{LexFault}
use Rattle.bds_tree.specs.declared.lexing.LexFault.TheVariants as lex
use Rattle.bds_tree.specs.declared.stmt.Script.{Script}
use Rattle.bds_tree.specs.declared.token.Token.{Token}
use Rattle.bds_tree.specs.ScriptTexts.{HasFlaw, Spells}
use Rattle.bds_tree.specs.StmtShape.{IsLegal}
use Rattle.bds_tree.specs.StmtSpelling.{SpellsScript}
use Rattle.bds_tree.specs.StmtTree.{ScriptTree}
use Rattle.bds_tree.specs.StmtView.{script_of}
use Rattle.bds_tree.specs.Tokens.{tokens_of}
use Rattle.bds_lex.specs.Reading.{FailsAt}
use Rattle.bds_parse_expr.specs.declared.fault.ParseFault.{ParseFault}
use Rattle.bds_parse_expr.specs.declared.fault.ParseFault.TheVariants as parse
use Rattle.bds_parse_expr.specs.Longest.{HasLine}
use Rattle.bds_parse_stmt.specs.Script.{Returns}
use Rattle.bds_check_typing.specs.Texts.{IsShort}
use Rattle.bds_front.specs.declared.front_fault.FrontFault.{FrontFault}
use Rattle.bds_front.specs.declared.front_fault.FrontFault.TheVariants as front
use Rattle.bds_meaning.specs.Files.{Files}
use Rattle.bds_front.specs.Loading.{Reads, Stops}
use Rattle.bds_front.specs.OneFile.{lex_fault_of, parse_fault_of, FailsText, GivesTokens, IsUnread, ParsesText, AsksText, StopsAt, WasAsked, ReadsText, ReadsTokens, ReadsScript}

-- a text without tokens
pub unlexed-fails : (path text : List ℕ) (f : LexFault) → length text ≤ MAX_TEXT → FailsAt f (tokens_of text) → FailsText path text (lex_fault_of path f)
unlexed-fails path text (lex.OpenText line) short h = FailsText.unlexed (lex.OpenText line) (HasFlaw.unlexed (lex.OpenText line) short h) (λ e. absurd cc)
unlexed-fails path text (lex.OpenComment line) short h = FailsText.unlexed (lex.OpenComment line) (HasFlaw.unlexed (lex.OpenComment line) short h) (λ e. absurd cc)
unlexed-fails path text (lex.BadByte line byte) short h = FailsText.unlexed (lex.BadByte line byte) (HasFlaw.unlexed (lex.BadByte line byte) short h) (λ e. absurd cc)
unlexed-fails path text (lex.BigNumber line) short h = FailsText.unlexed (lex.BigNumber line) (HasFlaw.unlexed (lex.BigNumber line) short h) (λ e. absurd cc)
unlexed-fails path text (lex.BadEscape line byte) short h = FailsText.unlexed (lex.BadEscape line byte) (HasFlaw.unlexed (lex.BadEscape line byte) short h) (λ e. absurd cc)
unlexed-fails path text lex.NoMemory short h = FailsText.no_memory

-- tokens that spell no script
pub unspelled-fails : (path text : List ℕ) (tokens : List Token) (f : ParseFault) → length text ≤ MAX_TEXT → tokens_of text ≡ Ok tokens → ((t : ScriptTree) → IsLegal t → SpellsScript t tokens → Returns t (Err f)) → HasLine {X = Script} tokens (Err f) →
    FailsText path text (parse_fault_of path f)
unspelled-fails path text tokens (parse.Syntax line) short lexed only here =
    FailsText.unspelled line (HasFlaw.unspelled tokens line (record { within = short; lexed = lexed; none = λ t legal spelled. only t legal spelled }) here)
unspelled-fails path text tokens parse.NoMemory short lexed only here = FailsText.no_memory

-- an ask that found no memory
no-room : (next : List ℕ) (before after : Log) → IsShort next → FoundNoRoom before after (Read next) → IsUnread next before after front.NoMemory
no-room next before after short (inl same) = IsUnread.no_memory same
no-room next before after short (inr more) = IsUnread.no_room short more

-- an ask for a file whose path is within the limit
pub asks-read : (next : List ℕ) (before after : Log) (r : Result (List ℕ) FrontFault) → IsShort next → AsksText next before after r → ReadsText next before after r
asks-read next before after (Ok text) short h = record { short = short; answered = h }
asks-read next before after (Err (front.Missing p)) short h = subst (λ (x : List ℕ). IsUnread next before after (front.Missing x)) (sym h.0) (IsUnread.missing short h.1)
asks-read next before after (Err front.Device) short h = IsUnread.device short h
asks-read next before after (Err front.NoMemory) short h = no-room next before after short h
asks-read next before after (Err (front.TooLong p)) short h = absurd h
asks-read next before after (Err (front.Lex p f)) short h = absurd h
asks-read next before after (Err (front.Parse p f)) short h = absurd h
asks-read next before after (Err (front.Check p f)) short h = absurd h
asks-read next before after (Err (front.IncludeTooDeep p)) short h = absurd h

-- a path above the limit
pub long-unread : (next : List ℕ) (log : Log) → MAX_TEXT < length next → IsUnread next log log (front.TooLong next)
long-unread next log long = IsUnread.long_path long refl

pub nothing-unread : (next : List ℕ) (log : Log) → IsUnread next log log front.NoMemory
nothing-unread next log = IsUnread.no_memory refl

read-nothing : (path : List ℕ) (files : Files) (before after : Log) → after ≡ before → Reads path files before files after
read-nothing path files before after same = subst (λ (l : Log). Reads path files before files l) (sym same) Reads.nothing

-- a file that is next and wasn't read
pub unread-stops : (next : List ℕ) (before after : Log) (f : FrontFault) → IsUnread next before after f → StopsAt next before after f
unread-stops next before after _ (IsUnread.long_path long same) path files is = Stops.long_path files next (read-nothing path files before after same) is long
unread-stops next before after _ (IsUnread.missing short h) path files is = Stops.missing files before next Reads.nothing is short h
unread-stops next before after _ (IsUnread.device short h) path files is = Stops.device files before next Reads.nothing is short h
unread-stops next before after _ (IsUnread.no_room short more) path files is = Stops.no_room files before next Reads.nothing is short more
unread-stops next before after _ (IsUnread.no_memory same) path files is = Stops.no_memory files (read-nothing path files before after same)

fails-stop : (next text : List ℕ) (before after : Log) (f : FrontFault) → WasAsked next text before after → FailsText next text f → StopsAt next before after f
fails-stop next text before after _ w (FailsText.long flaw) path files is = Stops.long_text files next text (Reads.one_more files before after next text Reads.nothing is w.short w.answered) flaw
fails-stop next text before after _ w (FailsText.unlexed f flaw some) path files is = Stops.unlexed files next text f (Reads.one_more files before after next text Reads.nothing is w.short w.answered) flaw some
fails-stop next text before after _ w (FailsText.unspelled line flaw) path files is = Stops.unspelled files next text line (Reads.one_more files before after next text Reads.nothing is w.short w.answered) flaw
fails-stop next text before after _ w FailsText.no_memory path files is = Stops.no_memory (files ++ (next, text) ∷ []) (Reads.one_more files before after next text Reads.nothing is w.short w.answered)

-- a file that was read, and what its text spells
pub parses-read : (next text : List ℕ) (before after : Log) (r : Result Script FrontFault) → WasAsked next text before after → ParsesText next text r → ReadsScript next before after r
parses-read next text before after (Ok s) w h = record { text = text; tokens = h.0; asked = w; spelled = h.1 }
parses-read next text before after (Err f) w h = fails-stop next text before after f w h

same-tokens : (text : List ℕ) (ts us : List Token) → tokens_of text ≡ Ok ts → tokens_of text ≡ Ok us → ts ≡ us
same-tokens text ts us a b = let same : ◌≡◌ {A = Result (List Token) LexFault} (Ok ts) (Ok us) = sym a ∙ b in cc

-- tokens that spell a script
pub gives-parsed : (path text : List ℕ) (tokens : List Token) (s : Script) → tokens_of text ≡ Ok tokens → ParsesText path text (Ok s) → GivesTokens path text (Ok tokens)
gives-parsed path text tokens s lexed h =
    let spells : Spells text h.0 (script_of s) = h.1 in
    (script_of s, subst (λ (ts : List Token). Spells text ts (script_of s)) (same-tokens text h.0 tokens spells.lexed lexed) spells)

-- a file that was read, and what its tokens spell
pub gives-read : (path text : List ℕ) (tokens : List Token) (before after : Log) → WasAsked path text before after → GivesTokens path text (Ok tokens) → ReadsTokens path before after (Ok (record { text = text; tokens = tokens }))
gives-read path text tokens before after w h = record { script = h.0; asked = w; spelled = h.1 }

pub ruleset text_rules = (unlexed-fails, unspelled-fails, asks-read, long-unread, nothing-unread, parses-read, gives-parsed, gives-read)
