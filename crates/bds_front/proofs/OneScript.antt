-- A text spells one script, or has one flaw.
use Rattle.std.proofs.Common.{◌≡◌, ◌≤◌, ◌<◌, ◌⊎◌, inl, inr, ◌∙◌, ◌==◌, ℕ, List, [], ◌∷◌, length, Result, Ok, Err, Some, sym, subst, refl, arith}
use Rattle.std.proofs.lemmas.Bool.{cases_lt, eq-eqb, or_left}
use Rattle.bds_value.specs.declared.TheConstants.{MAX_TEXT}
use Rattle.bds_tree.specs.declared.lexing.LexFault.{LexFault}
use Rattle.bds_tree.specs.declared.lexing.LexFault.TheVariants as lex
use Rattle.bds_tree.specs.declared.token.Token.{Token}
use Rattle.bds_tree.specs.ScriptTexts.{Spells, TextFlaw, HasFlaw, IsLineOf, has_line, too_long, no_tokens, no_script}
use Rattle.bds_tree.specs.StmtShape.{IsLegal}
use Rattle.bds_tree.specs.StmtSpelling.{SpellsScript}
use Rattle.bds_tree.specs.StmtTree.{ScriptTree}
use Rattle.bds_tree.specs.Tokens.{tokens_of}
use Rattle.bds_host.specs.declared.faults.Fault.{Fault}
use Rattle.bds_host.specs.declared.faults.Fault.TheVariants as fault
use Rattle.bds_lex.specs.Reading.{IsDefined}
use Rattle.bds_meaning.specs.Refusals.{lexer_fault}
use Rattle.bds_front.specs.Unique.{IsSpelled, IsFlawed, SpellsOne, IsFlawedUnlessSpelled, HasOneFlaw, HasFreeLine, TellsFlaws}

same_tokens : (text : List ℕ) (ts us : List Token) → tokens_of text ≡ Ok ts → tokens_of text ≡ Ok us → us ≡ ts
same_tokens text ts us a b = let same : Ok ts ≡ Ok us = sym a ∙ b in cc

pub spells_one : ((s t : ScriptTree) (ts : List Token) → IsLegal s → IsLegal t → SpellsScript s ts → SpellsScript t ts → s ≡ t) → SpellsOne
spells_one only text ts us s t a b = only s t ts a.legal b.legal a.spelled (subst (SpellsScript t) (same_tokens text ts us a.lexed b.lexed) b.spelled)

pub flaw_spells_none : (text : List ℕ) (flaw : TextFlaw) (ts : List Token) (s : ScriptTree) → HasFlaw text flaw → Spells text ts s → ⊥
flaw_spells_none text _ ts s (HasFlaw.longer long) a = let short = a.within in absurd (omega arith)
flaw_spells_none text _ ts s (HasFlaw.unlexed f short lexed) a = let same : Err f ≡ Ok ts = sym lexed ∙ a.lexed in absurd cc
flaw_spells_none text _ ts s (HasFlaw.unspelled tokens line none here) a =
    none.none s a.legal (subst (SpellsScript s) (same_tokens text tokens ts none.lexed a.lexed) a.spelled)

-- the line of the first token, or 1
first_line : (tokens : List Token) → (line : ℕ) × IsLineOf line tokens
first_line [] = (1, refl)
first_line (t ∷ ts) = (t.line, or_left (t.line == t.line) (has_line t.line ts) (eq-eqb t.line t.line refl))

module _ (text : List ℕ) (none : IsSpelled text → ⊥) where
  flawed_by : (r : Result (List Token) LexFault) → tokens_of text ≡ r → length text ≤ MAX_TEXT → IsFlawed text
  flawed_by (Err f) lexed short = (no_tokens f, HasFlaw.unlexed f short lexed)
  flawed_by (Ok tokens) lexed short =
      let l = first_line tokens in
      (no_script l.0, HasFlaw.unspelled tokens l.0 (record { within = short; lexed = lexed; none = λ s legal spelled. none (tokens, s, record { within = short; lexed = lexed; legal = legal; spelled = spelled }) }) l.1)

  flawed_at : (MAX_TEXT < length text) ⊎ (length text ≤ MAX_TEXT) → IsFlawed text
  flawed_at (inl long) = (too_long, HasFlaw.longer long)
  flawed_at (inr short) = flawed_by (tokens_of text) refl short

pub flawed_unless_spelled : IsFlawedUnlessSpelled
flawed_unless_spelled text = (λ f s. flaw_spells_none text f.0 s.0 s.1 f.1 s.2, λ none. flawed_at text none (cases_lt MAX_TEXT (length text)))

pub one_flaw : HasOneFlaw
one_flaw text _ _ (HasFlaw.longer long) (HasFlaw.longer long') = refl
one_flaw text _ _ (HasFlaw.longer long) (HasFlaw.unlexed f short lexed) = absurd (omega arith)
one_flaw text _ _ (HasFlaw.longer long) (HasFlaw.unspelled tokens line none here) = let short = none.within in absurd (omega arith)
one_flaw text _ _ (HasFlaw.unlexed f short lexed) (HasFlaw.longer long) = absurd (omega arith)
one_flaw text _ _ (HasFlaw.unlexed f short lexed) (HasFlaw.unlexed g short' lexed') = let same : Err f ≡ Err g = sym lexed ∙ lexed' in cc
one_flaw text _ _ (HasFlaw.unlexed f short lexed) (HasFlaw.unspelled tokens line none here) = let same : Err f ≡ Ok tokens = sym lexed ∙ none.lexed in absurd cc
one_flaw text _ _ (HasFlaw.unspelled tokens line none here) (HasFlaw.longer long) = let short = none.within in absurd (omega arith)
one_flaw text _ _ (HasFlaw.unspelled tokens line none here) (HasFlaw.unlexed f short lexed) = let same : Err f ≡ Ok tokens = sym lexed ∙ none.lexed in absurd cc
one_flaw text _ _ (HasFlaw.unspelled tokens line none here) (HasFlaw.unspelled tokens' line' none' here') = tt

line_of : (text : List ℕ) (tokens : List Token) (line : ℕ) (flaw : TextFlaw) → tokens_of text ≡ Ok tokens → flaw ≡ no_script line → HasFlaw text flaw → IsLineOf line tokens
line_of text tokens line _ lexed is (HasFlaw.longer long) = absurd cc
line_of text tokens line _ lexed is (HasFlaw.unlexed f short lexed') = absurd cc
line_of text tokens line _ lexed is (HasFlaw.unspelled others l none here) =
    subst (λ ts. IsLineOf line ts) (same_tokens text tokens others lexed none.lexed) (subst (λ n. IsLineOf n others) (line_in is) here)
  where
    line_in : no_script l ≡ no_script line → l ≡ line
    line_in e = cc

pub free_line : HasFreeLine
free_line text tokens line none = (line_of text tokens line (no_script line) none.lexed refl, λ here. HasFlaw.unspelled tokens line none here)

-- the lexer of the definition never wants memory
told_lexer : (path text : List ℕ) (f : LexFault) → IsDefined (tokens_of text) → tokens_of text ≡ Err f → (g : Fault) × (lexer_fault path f ≡ Some g)
told_lexer path text (lex.OpenText line) d is = (fault.OpenText path line, refl)
told_lexer path text (lex.OpenComment line) d is = (fault.OpenComment path line, refl)
told_lexer path text (lex.BadByte line byte) d is = (fault.BadByte path line byte, refl)
told_lexer path text (lex.BigNumber line) d is = (fault.BigNumber path line, refl)
told_lexer path text (lex.BadEscape line byte) d is = (fault.BadEscape path line byte, refl)
told_lexer path text lex.NoMemory d is = absurd (subst (λ r. IsDefined r) is d)

pub tells_flaws : ((text : List ℕ) → IsDefined (tokens_of text)) → TellsFlaws
tells_flaws defined path text _ (HasFlaw.longer long) = (fault.TooLong path, refl)
tells_flaws defined path text _ (HasFlaw.unlexed f short lexed) = told_lexer path text f (defined text) lexed
tells_flaws defined path text _ (HasFlaw.unspelled tokens line none here) = (fault.Syntax path line, refl)
