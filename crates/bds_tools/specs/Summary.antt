-- What is told of the asks of a run and of its end.
use Rattle.std.specs.Prelude.{ℕ, List, [], ◌∷◌, ◌++◌, Bool, true, false, codes}
use Rattle.std.specs.List.{count_by}
use Rattle.bds_host.specs.declared.asks.Ask.{Ask}
use Rattle.bds_host.specs.declared.asks.Ask.TheVariants.{Stamp, Start, Next}
use Rattle.bds_host.specs.declared.asks.Reply.{Reply}
use Rattle.bds_host.specs.Host.{Log}
use Rattle.bds_tools.specs.Lines.{lines, counted}

abbrev pub is_stamp : Ask → Bool
is_stamp (Stamp _) = true
is_stamp _ = false

abbrev pub is_start : Ask → Bool
is_start (Start _ _ _) = true
is_start _ = false

abbrev pub is_next : Ask → Bool
is_next (Next _ _) = true
is_next _ = false

-- how many of the asks are of a kind
abbrev pub asked : (Ask → Bool) → Log → ℕ
asked kind log = count_by (λ (p : Ask × Reply). kind p.0) log

abbrev pub summary_text : Log → ℕ → List ℕ
summary_text log status = lines ((
    counted (codes "stamps") (asked is_stamp log)
    ++ counted (codes " starts") (asked is_start log)
    ++ counted (codes " nexts") (asked is_next log)
    ++ counted (codes " status") status)
    ∷ [])
