-- The theorem, from both directions.
use Rattle.std.proofs.Common.{◌≡◌, ℕ, List, [], ◌∷◌, Some, None, refl, sym, ap, ◌∙◌, subst}
use Rattle.std.specs.Prelude.{Result, Ok, Err, IfOk}
use Rattle.bds_tree.specs.declared.token.Token.{Token}
use Rattle.bds_tree.specs.Spelling.{begins}
use Rattle.bds_tree.specs.declared.stmt.Script.{Script}
use Rattle.bds_tree.specs.StmtTree.{PartTree, ScriptTree}
use Rattle.bds_tree.specs.StmtShape.{IsLegal}
use Rattle.bds_tree.specs.StmtSpelling.{spell_parts, SpellsScript}
use Rattle.bds_tree.specs.StmtView.{script_of}
use Rattle.bds_parse_expr.specs.declared.fault.ParseFault.{ParseFault}
use Rattle.bds_parse_expr.specs.declared.fault.ParseFault.TheVariants as fault
use Rattle.bds_parse_expr.specs.Gives.{Gives}
use Rattle.bds_parse_expr.proofs.Steps.{bind_some}
use Rattle.bds_parse_expr.proofs.Sound.{bind_ok, some_same}
use Rattle.bds_parse_stmt_parts.specs.Reading.{here}
use Rattle.bds_parse_stmt.specs.Script.{Returns}
use Rattle.bds_parse_stmt.specs.Parts.{script_line, script_at}
use Rattle.bds_parse_stmt_parts.proofs.Fronting.{Spelled, begun, unbegun, first_starts}
use Rattle.bds_parse_stmt.proofs.PartLaws.{AreParts, read_sound, read_finds, parts_nonempty}

record IsRead (t : ScriptTree) (ts : List Token) : Type 0 where
  legal : IsLegal t
  spelled : SpellsScript t ts

whole : (ts : List Token) (ps : List PartTree) → AreParts ps ts [] → IsRead (record { at = here (script_line ts); files = []; parts = ps }) ts
whole [] [] r = record { legal = record { shaped = (refl, refl, r.shaped); nesting = r.low }; spelled = record { spelled = refl; first = λ e. refl } }
whole [] (p ∷ ps) r = let ne = parts_nonempty p ps in absurd (no_tokens _ ne.0 ne.1 ne.2 r.spelled)
  where
    no_tokens : (ms : List _) (m : _) (ns : List _) → ms ≡ m ∷ ns → Spelled ms [] [] → ⊥
    no_tokens ms m ns is f = (subst (λ u. Spelled u [] []) is f).fronts
whole (t ∷ ts) ps r =
    record {
      legal = record { shaped = (refl, refl, r.shaped); nesting = r.low };
      spelled = record { spelled = (begun t.line (first_starts t ts) r.spelled).fronts; first = λ e. cc };
    }

pub read_legal : (ts : List Token) (t : ScriptTree) → script_at ts ≡ Some t → IsLegal t × SpellsScript t ts
read_legal ts t e =
    let p = bind_ok _ _ _ e in
    let r = read_sound ts p.0 p.1 in
    let is = whole ts p.0.0 r.0 in
    let same : record { at = here (script_line ts); files = []; parts = p.0.0 } ≡ t = some_same _ _ p.2 in
    (subst IsLegal same is.legal, subst (λ u. SpellsScript u ts) same is.spelled)

script_is : (t : ScriptTree) (l : ℕ) → t.at.file ≡ 0 → t.files ≡ [] → l ≡ t.at.line → record { at = here l; files = []; parts = t.parts } ≡ t
script_is t l f g h =
    ap (λ k. record { at = record { file = 0; line = k }; files = []; parts = t.parts }) h
    ∙ ap (λ k. record { at = record { file = k; line = t.at.line }; files = []; parts = t.parts }) (sym f)
    ∙ ap (λ k. record { at = t.at; files = k; parts = t.parts }) (sym g)

record Parted (t : ScriptTree) (ts : List Token) : Type 0 where
  spelled : Spelled (spell_parts t.parts) ts []
  line : script_line ts ≡ t.at.line

parted : (ts : List Token) (ps : List PartTree) (t : ScriptTree) → t.parts ≡ ps → Spelled (begins t.at.line (spell_parts ps)) ts [] → (ts ≡ [] → t.at.line ≡ 1) → Parted t ts
parted [] [] t is sp first = record { spelled = subst (λ qs. Spelled (spell_parts qs) [] []) (sym is) sp; line = sym (first refl) }
parted (u ∷ us) [] t is sp first = let f = sp.fronts in let g : u ∷ us ≡ [] = f in cc
parted [] (p ∷ ps) t is sp first =
    let ub = unbegun t.at.line (spell_parts (p ∷ ps)) (parts_nonempty p ps) sp in
    let e : [] ≡ ub.0.0 ∷ ub.0.1 = ub.0.2 in cc
parted (u ∷ us) (p ∷ ps) t is sp first =
    let ub = unbegun t.at.line (spell_parts (p ∷ ps)) (parts_nonempty p ps) sp in
    let e : u ∷ us ≡ ub.0.0 ∷ ub.0.1 = ub.0.2 in
    let same : u ≡ ub.0.0 = cc in
    record { spelled = subst (λ qs. Spelled (spell_parts qs) (u ∷ us) []) (sym is) ub.1; line = ap (λ (v : Token). v.line) same ∙ ub.0.3 }

pub legal_read : (ts : List Token) (t : ScriptTree) → IsLegal t → SpellsScript t ts → script_at ts ≡ Some t
legal_read ts t l f =
    let p = parted ts t.parts t refl (record { fronts = f.spelled }) f.first in
    bind_some _ (t.parts, []) _ _ (read_finds t.parts ts l.shaped.2 p.spelled l.nesting) (ap Some (script_is t (script_line ts) l.shaped.0 l.shaped.1 p.line))

pub only_one : (s t : ScriptTree) (ts : List Token) → IsLegal s → IsLegal t → SpellsScript s ts → SpellsScript t ts → s ≡ t
only_one s t ts ls lt fs ft = some_same _ _ (sym (legal_read ts s ls fs) ∙ legal_read ts t lt ft)

pub legal_given : (r : Result Script ParseFault) (ts : List Token) → Gives script_of r (script_at ts) → IfOk r (λ s. IsLegal (script_of s))
legal_given (Ok s) ts g = (read_legal ts (script_of s) g).0
legal_given (Err e) ts g = tt

pub spelled_given : (r : Result Script ParseFault) (ts : List Token) → Gives script_of r (script_at ts) → IfOk r (λ s. SpellsScript (script_of s) ts)
spelled_given (Ok s) ts g = (read_legal ts (script_of s) g).1
spelled_given (Err e) ts g = tt

pub only_given : (r : Result Script ParseFault) (ts : List Token) → Gives script_of r (script_at ts) → (t : ScriptTree) → IsLegal t → SpellsScript t ts → Returns t r
only_given (Ok s) ts g t l f = some_same _ _ (sym g ∙ legal_read ts t l f)
only_given (Err (fault.Syntax k)) ts g t l f = let q : None ≡ Some t = sym g ∙ legal_read ts t l f in cc
only_given (Err fault.NoMemory) ts g t l f = tt
