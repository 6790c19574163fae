-- Spellings at the front of tokens, put together and taken apart.
use Rattle.std.proofs.Common.{◌≡◌, ℕ, ◌+◌, ◌<◌, List, [], ◌∷◌, ◌++◌, length, refl, ap, ◌∙◌, arith}
use Rattle.bds_tree.specs.declared.token.Word.{Word}
use Rattle.bds_tree.specs.declared.token.Token.{Token}
use Rattle.bds_tree.specs.Tree.{Tree, Trees}
use Rattle.bds_tree.specs.Spelling.{Mark, on, sign, begins, spell, spell_all, Fronts}
use Rattle.bds_parse_expr.specs.Reading.{line_ahead}
use Rattle.bds_parse_expr.specs.Spells.{Sign, Starts, Spells, SpellsAll}
use Rattle.bds_parse_expr.proofs.Fronts.{both, parts, sign_front, sign_back, to_begins, Nonempty, from_begins, to_fronts, from_fronts, to_fronts_all, from_fronts_all}

-- the tokens begin so, and the rest stands behind
pub record Spelled (ms : List Mark) (ts rest : List Token) : Type 0 where
  pub fronts : Fronts ms ts rest

pub join : {ms ns : List Mark} {ts mid rest : List Token} → Spelled ms ts mid → Spelled ns mid rest → Spelled (ms ++ ns) ts rest
join {ms = ms} {ns = ns} {ts = ts} {mid = mid} {rest = rest} f g = record { fronts = both ms ns ts mid rest f.fronts g.fronts }

pub record Cut (ms ns : List Mark) (ts rest : List Token) : Type 0 where
  pub mid : List Token
  pub front : Spelled ms ts mid
  pub back : Spelled ns mid rest

pub cut : (ms ns : List Mark) {ts rest : List Token} → Spelled (ms ++ ns) ts rest → Cut ms ns ts rest
cut ms ns {ts = ts} {rest = rest} f =
    let p = parts ms ns ts rest f.fronts in
    record { mid = p.0; front = record { fronts = p.1 }; back = record { fronts = p.2 } }

pub nothing : (ts : List Token) → Spelled [] ts ts
nothing ts = record { fronts = refl }

pub nothing_is : {ts rest : List Token} → Spelled [] ts rest → ts ≡ rest
nothing_is f = f.fronts

pub one : {word : Word} {ts rest : List Token} → Sign word ts rest → Spelled (sign word) ts rest
one {word = word} {ts = ts} {rest = rest} s = record { fronts = sign_front word ts rest s }

pub one_is : (word : Word) {ts rest : List Token} → Spelled (sign word) ts rest → Sign word ts rest
one_is word {ts = ts} {rest = rest} f = sign_back word ts rest f.fronts

pub begun : (l : ℕ) {ms : List Mark} {ts rest : List Token} → Starts l ts → Spelled ms ts rest → Spelled (begins l ms) ts rest
begun l {ms = ms} {ts = ts} {rest = rest} s f = record { fronts = to_begins l ms ts rest s f.fronts }

pub unbegun : (l : ℕ) (ms : List Mark) {ts rest : List Token} → Nonempty ms → Spelled (begins l ms) ts rest → Starts l ts × Spelled ms ts rest
unbegun l ms {ts = ts} {rest = rest} ne f = let p = from_begins l ms ts rest ne f.fronts in (p.0, record { fronts = p.1 })

pub of_expr : (e : Tree) {ts rest : List Token} → Spells e ts rest → Spelled (spell e) ts rest
of_expr e {ts = ts} {rest = rest} s = record { fronts = to_fronts e ts rest s }

pub expr_of : (e : Tree) {ts rest : List Token} → Spelled (spell e) ts rest → Spells e ts rest
expr_of e {ts = ts} {rest = rest} f = from_fronts e ts rest f.fronts

pub of_all : (es : Trees) (close : Word) {ts rest : List Token} → SpellsAll close es ts rest → Spelled (spell_all close es) ts rest
of_all es close {ts = ts} {rest = rest} s = record { fronts = to_fronts_all es close ts rest s }

pub all_of : (es : Trees) (close : Word) {ts rest : List Token} → Spelled (spell_all close es) ts rest → SpellsAll close es ts rest
all_of es close {ts = ts} {rest = rest} f = from_fronts_all es close ts rest f.fronts

pub longer : (ms ns : List Mark) → Nonempty ms → Nonempty (ms ++ ns)
longer ms ns ne = (ne.0, ne.1 ++ ns, ap (λ u. u ++ ns) ne.2)

pub behind_any : (ms ns : List Mark) → Nonempty ns → Nonempty (ms ++ ns)
behind_any [] ns ne = ne
behind_any (m ∷ ms) ns ne = (m, ms ++ ns, refl)

pub begun_nonempty : (l : ℕ) (ms : List Mark) → Nonempty ms → Nonempty (begins l ms)
begun_nonempty l ms ne = (on l ne.0, ne.1, ap (begins l) ne.2)

pub fronts_length : (ms : List Mark) (ts rest : List Token) → Fronts ms ts rest → length ts ≡ length ms + length rest
fronts_length [] ts rest f = omega (arith, ap length f)
fronts_length (m ∷ ms) [] rest f = absurd f
fronts_length (m ∷ ms) (t ∷ ts) rest f = omega (arith, fronts_length ms ts rest f.1)

pub spelled_shorter : (ms : List Mark) (ts rest : List Token) → Nonempty ms → Spelled ms ts rest → length rest < length ts
spelled_shorter ms ts rest ne f = omega (arith, fronts_length ms ts rest f.fronts, ap length ne.2)

-- tokens that begin so begin on their first line
pub first_starts : (t : Token) (ts : List Token) → Starts t.line (t ∷ ts)
first_starts t ts = (t, ts, refl, refl)

pub starts_first : (ms : List Mark) (ts rest : List Token) → Nonempty ms → Spelled ms ts rest → Starts (line_ahead ts) ts
starts_first [] ts rest ne f = let e : [] ≡ ne.0 ∷ ne.1 = ne.2 in cc
starts_first (m ∷ ms) [] rest ne f = absurd f.fronts
starts_first (m ∷ ms) (t ∷ ts) rest ne f = (t, ts, refl, refl)

pub first_is : (l : ℕ) (ts : List Token) → Starts l ts → line_ahead ts ≡ l
first_is l ts s = ap line_ahead s.2 ∙ s.3
