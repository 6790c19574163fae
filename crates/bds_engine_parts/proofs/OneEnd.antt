-- With the replies given, a run comes to one end.
use Rattle.std.proofs.Common.{◌≡◌, [], ◌∷◌, ◌++◌, sym, ap, ◌∙◌, subst, append_assoc, append-nil, drop}
use Rattle.std.proofs.lemmas.List.{append_cancel_left}
use Rattle.bds_host.specs.declared.asks.Ask.{Ask}
use Rattle.bds_host.specs.declared.asks.Reply.{Reply}
use Rattle.bds_host.specs.Host.{Log}
use Rattle.bds_schedule.specs.Steps.{Step, Goes, Asks, Ends, Leads}

-- what a state does next is a function of it
module _ {C E : Type 0} (next : C → Step C E) where
  abbrev pub Moves : C → Step C E → Type 0
  Moves c s = next c ≡ s

  -- the same steps, with the first in front, and the pairs that they add
  data Front : C → Log → C → Type 0 where
    here : (s : C) → Front s [] s
    goes : (s t c : C) (added : Log) → Moves s (Goes t) → Front t added c → Front s added c
    asks : (s c : C) (ask : Ask) (after : Reply → C) (reply : Reply) (added : Log) → Moves s (Asks ask after) → Front (after reply) added c → Front s ((ask, reply) ∷ added) c

  goes_last : (s c t : C) (added : Log) → Front s added c → Moves c (Goes t) → Front s added t
  goes_last s c t added (Front.here _) m = Front.goes s t t [] m (Front.here t)
  goes_last s c t added (Front.goes _ u _ _ m' f) m = Front.goes s u t added m' (goes_last u c t added f m)
  goes_last s c t added (Front.asks _ _ ask after reply more m' f) m = Front.asks s t ask after reply more m' (goes_last (after reply) c t more f m)

  asks_last : (s c : C) (ask : Ask) (after : Reply → C) (reply : Reply) (added : Log) → Front s added c → Moves c (Asks ask after) → Front s (added ++ (ask, reply) ∷ []) (after reply)
  asks_last s c ask after reply added (Front.here _) m = Front.asks s (after reply) ask after reply [] m (Front.here (after reply))
  asks_last s c ask after reply added (Front.goes _ u _ _ m' f) m = Front.goes s u (after reply) (added ++ (ask, reply) ∷ []) m' (asks_last u c ask after reply added f m)
  asks_last s c ask after reply added (Front.asks _ _ ask' after' reply' more m' f) m =
      Front.asks s (after reply) ask' after' reply' (more ++ (ask, reply) ∷ []) m' (asks_last (after' reply') c ask after reply more f m)

  fronts : (from : C) (before : Log) (c : C) (after : Log) → Leads Moves from before c after → (added : Log) × (after ≡ before ++ added) × Front from added c
  fronts from before c after Leads.here = ([], sym (append-nil before), Front.here from)
  fronts from before c after (Leads.goes s _ _ l m) = let r = fronts from before s after l in (r.0, r.1, goes_last from s c r.0 r.2 m)
  fronts from before c after (Leads.asks s log _ ask go reply l m answered) =
      let r = fronts from before s log l in
      (r.0 ++ (ask, reply) ∷ [], answered.grown ∙ ap (λ x. x ++ (ask, reply) ∷ []) r.1 ∙ append_assoc before r.0 ((ask, reply) ∷ []), asks_last from s ask go reply r.0 r.2 m)

  abbrev goes_to : Step C E → C → C
  goes_to (Goes t) s = t
  goes_to _ s = s

  abbrev behind : Step C E → Reply → C → C
  behind (Asks ask go) reply s = go reply
  behind _ reply s = s

  abbrev reply_first : Log → Reply → Reply
  reply_first [] r = r
  reply_first (p ∷ log) r = p.1

  same_end : (s c d : C) (a b : Log) (e e' : E) → Front s a c → Front s b d → a ≡ b → Moves c (Ends e) → Moves d (Ends e') → e ≡ e'
  same_end s c d a b e e' (Front.here _) (Front.here _) same m m' = cc (m, m')
  same_end s c d a b e e' (Front.here _) (Front.goes _ t _ _ g f) same m m' = absurd (cc (m, g))
  same_end s c d a b e e' (Front.here _) (Front.asks _ _ ask after reply added g f) same m m' = absurd (cc (m, g))
  same_end s c d a b e e' (Front.goes _ t _ _ g f) (Front.here _) same m m' = absurd (cc (m', g))
  same_end s c d a b e e' (Front.goes _ t _ _ g f) (Front.goes _ t' _ _ g' f') same m m' =
      let t_same : t ≡ t' = ap (λ x. goes_to x s) (sym g ∙ g') in
      same_end t' c d a b e e' (subst (λ z. Front z a c) t_same f) f' same m m'
  same_end s c d a b e e' (Front.goes _ t _ _ g f) (Front.asks _ _ ask after reply added g' f') same m m' = absurd (cc (g, g'))
  same_end s c d a b e e' (Front.asks _ _ ask after reply added g f) (Front.here _) same m m' = absurd (cc (m', g))
  same_end s c d a b e e' (Front.asks _ _ ask after reply added g f) (Front.goes _ t _ _ g' f') same m m' = absurd (cc (g, g'))
  same_end s c d a b e e' (Front.asks _ _ ask after reply added g f) (Front.asks _ _ ask' after' reply' added' g' f') same m m' =
      let replies : reply ≡ reply' = ap (λ l. reply_first l reply) same in
      let rests : added ≡ added' = ap (λ l. drop 1 l) same in
      let next_same : after reply ≡ after' reply' = ap (λ x. behind x reply s) (sym g ∙ g') ∙ ap after' replies in
      same_end (after' reply') c d added added' e e' (subst (λ z. Front z added c) next_same f) f' rests m m'

  pub one_end : (from : C) (before after : Log) (c d : C) (e e' : E) → Leads Moves from before c after → Moves c (Ends e) → Leads Moves from before d after → Moves d (Ends e') → e ≡ e'
  one_end from before after c d e e' l m l' m' =
      let f = fronts from before c after l in
      let g = fronts from before d after l' in
      same_end from c d f.0 g.0 e e' f.2 g.2 (append_cancel_left before f.0 g.0 (sym f.1 ∙ g.1)) m m'
