-- Where two steps of the same state agree, replies lead to one end.
use Rattle.std.proofs.Common.{◌≡◌, ◌∙◌, List, [], ◌∷◌, ◌++◌, append_assoc, append-nil, ap, sym, subst, refl, ◌⊎◌, inl, inr}
use Rattle.std.proofs.lemmas.List.{append_cancel_left, map-append}
use Rattle.bds_host.specs.declared.asks.Ask.{Ask}
use Rattle.bds_host.specs.declared.asks.Reply.{Reply}
use Rattle.bds_host.specs.Host.{Log}
use Rattle.bds_schedule.specs.Determined.{replies_of}
use Rattle.bds_schedule.specs.Steps.{Step, Goes, Asks, Ends, Leads}
use Rattle.bds_front.specs.Unique.{AreLikePairs}

-- Steps with the first in front

module _ {C E : Type 0} (Steps : C → Step C E → Type 0) where
  -- Front s added c: steps lead from s to c, and these pairs are added
  pub data Front : C → Log → C → Type 0 where
    here : (s : C) → Front s [] s
    goes : (s t c : C) (added : Log) → Steps s (Goes t) → Front t added c → Front s added c
    asks : (s c : C) (ask : Ask) (next : Reply → C) (reply : Reply) (added : Log) → Steps s (Asks ask next) → Front (next reply) added c → Front s ((ask, reply) ∷ added) c

  goes_last : (s c t : C) (added : Log) → Front s added c → Steps c (Goes t) → Front s added t
  goes_last s c t added (Front.here _) m = Front.goes s t t [] m (Front.here t)
  goes_last s c t added (Front.goes _ u _ _ m' f) m = Front.goes s u t added m' (goes_last u c t added f m)
  goes_last s c t added (Front.asks _ _ ask next reply more m' f) m = Front.asks s t ask next reply more m' (goes_last (next reply) c t more f m)

  asks_last : (s c : C) (ask : Ask) (next : Reply → C) (reply : Reply) (added : Log) → Front s added c → Steps c (Asks ask next) → Front s (added ++ (ask, reply) ∷ []) (next reply)
  asks_last s c ask next reply added (Front.here _) m = Front.asks s (next reply) ask next reply [] m (Front.here (next reply))
  asks_last s c ask next reply added (Front.goes _ u _ _ m' f) m = Front.goes s u (next reply) (added ++ (ask, reply) ∷ []) m' (asks_last u c ask next reply added f m)
  asks_last s c ask next reply added (Front.asks _ _ ask' next' reply' more m' f) m =
      Front.asks s (next reply) ask' next' reply' (more ++ (ask, reply) ∷ []) m' (asks_last (next' reply') c ask next reply more f m)

  pub fronts : (from : C) (before : Log) (c : C) (after : Log) → Leads Steps from before c after → (added : Log) × (after ≡ before ++ added) × Front from added c
  fronts from before c after Leads.here = ([], sym (append-nil before), Front.here from)
  fronts from before c after (Leads.goes s _ _ l m) = let r = fronts from before s after l in (r.0, r.1, goes_last from s c r.0 r.2 m)
  fronts from before c after (Leads.asks s log _ ask next reply l m answered) =
      let r = fronts from before s log l in
      (r.0 ++ (ask, reply) ∷ [], answered.grown ∙ ap (λ x. x ++ (ask, reply) ∷ []) r.1 ∙ append_assoc before r.0 ((ask, reply) ∷ []), asks_last from s ask next reply r.0 r.2 m)

-- Steps that agree

-- the same reply leads to the same, whatever differs in the asks
abbrev pub StepsAgree : {C E : Type 0} → (Ask → Ask → Type 0) → (C → C → Type 0) → Step C E → Step C E → Type 0
StepsAgree Like Same (Goes s) (Goes t) = Same s t
StepsAgree Like Same (Asks a next) (Asks b next') = Like a b × ((reply : Reply) → Same (next reply) (next' reply))
StepsAgree Like Same (Ends e) (Ends f) = e ≡ f
StepsAgree Like Same _ _ = ⊥

abbrev reply_first : List Reply → Reply → Reply
reply_first [] r = r
reply_first (p ∷ replies) r = p

abbrev behind_first : List Reply → List Reply
behind_first [] = []
behind_first (p ∷ replies) = replies

module _ {C E : Type 0} (Steps : C → Step C E → Type 0) (Like : Ask → Ask → Type 0) (Same : C → C → Type 0) (agrees : (c d : C) (s t : Step C E) → Same c d → Steps c s → Steps d t → StepsAgree Like Same s t) where
  -- a part of a log is alike, and leads to a state that is the same as one; from there the rest leads to another
  pub record ComesThrough (c d : C) (a b : Log) (rest : List Reply) : Type 0 where
    pub at : C
    pub same : Same c at
    pub first : Log
    pub later : Log
    pub is : b ≡ first ++ later
    pub alike : AreLikePairs Like a first
    pub left : replies_of later ≡ rest
    pub ahead : Front Steps at later d

  one_more : (c d : C) (a b : Log) (rest : List Reply) (ask ask' : Ask) (reply reply' : Reply) → Like ask ask' → reply ≡ reply' → ComesThrough c d a b rest → ComesThrough c d ((ask, reply) ∷ a) ((ask', reply') ∷ b) rest
  one_more c d a b rest ask ask' reply reply' like same h =
      record { at = h.at; same = h.same; first = (ask', reply') ∷ h.first; later = h.later; is = ap (λ l. (ask', reply') ∷ l) h.is; alike = (like, same, h.alike); left = h.left; ahead = h.ahead }

  -- a state is the same as one from which steps without an ask lead on to another
  pub record StillComes (c d : C) : Type 0 where
    pub at : C
    pub next : C
    pub same : Same at d
    pub moves : Steps at (Goes next)
    pub ahead : Front Steps next [] c

  one_more_or : (c d : C) (a b : Log) (rest : List Reply) (ask ask' : Ask) (reply reply' : Reply) → Like ask ask' → reply ≡ reply' → ComesThrough c d a b rest ⊎ StillComes c d
      → ComesThrough c d ((ask, reply) ∷ a) ((ask', reply') ∷ b) rest ⊎ StillComes c d
  one_more_or c d a b rest ask ask' reply reply' like same (inl h) = inl (one_more c d a b rest ask ask' reply reply' like same h)
  one_more_or c d a b rest ask ask' reply reply' like same (inr h) = inr h

  none_asked : (a : Log) (rest : List Reply) → [] ≡ replies_of a ++ rest → a ≡ []
  none_asked [] rest is = refl
  none_asked (p ∷ a) rest is = absurd (cc is)

  -- of two ways by the same replies, the one by more of them comes through where the other is, or still comes there without an ask
  either_front : (s s' c d : C) (a b : Log) (rest : List Reply) → Front Steps s a c → Front Steps s' b d → replies_of b ≡ replies_of a ++ rest → Same s s' → ComesThrough c d a b rest ⊎ StillComes c d
  either_front s s' c d a b rest (Front.here _) g is same = inl (record { at = s'; same = same; first = []; later = b; is = refl; alike = tt; left = is; ahead = g })
  either_front s s' c d a b rest (Front.goes _ t _ _ m f) (Front.here _) is same = inr (record { at = s; next = t; same = same; moves = m; ahead = subst (λ x. Front Steps t x c) (none_asked a rest is) f })
  either_front s s' c d a b rest (Front.goes _ t _ _ m f) (Front.goes _ u _ _ n g) is same = either_front t u c d a b rest f g is (agrees s s' (Goes t) (Goes u) same m n)
  either_front s s' c d a b rest (Front.goes _ t _ _ m f) (Front.asks _ _ ask next reply added n g) is same = absurd (agrees s s' (Goes t) (Asks ask next) same m n)
  either_front s s' c d a b rest (Front.asks _ _ ask next reply added m f) (Front.here _) is same = absurd (cc is)
  either_front s s' c d a b rest (Front.asks _ _ ask next reply added m f) (Front.goes _ u _ _ n g) is same = absurd (agrees s s' (Asks ask next) (Goes u) same m n)
  either_front s s' c d a b rest (Front.asks _ _ ask next reply added m f) (Front.asks _ _ ask' next' reply' added' n g) is same =
      let replies : reply ≡ reply' = ap (λ l. reply_first l reply) (sym is) in
      let agreed = agrees s s' (Asks ask next) (Asks ask' next') same m n in
      one_more_or c d added added' rest ask ask' reply reply' agreed.0 replies
      (either_front (next reply) (next' reply') c d added added' rest f g (ap behind_first is) (subst (λ r. Same (next reply) (next' r)) replies (agreed.1 reply)))

  behind_front : (s s' c d : C) (a b : Log) (rest : List Reply) (e : E) → Front Steps s a c → Front Steps s' b d → replies_of b ≡ replies_of a ++ rest → Same s s' → Steps d (Ends e) → ComesThrough c d a b rest
  behind_front s s' c d a b rest e f g is same ends = through (either_front s s' c d a b rest f g is same)
    where
      through : ComesThrough c d a b rest ⊎ StillComes c d → ComesThrough c d a b rest
      through (inl h) = h
      through (inr h) = absurd (agrees h.at d (Goes h.next) (Ends e) h.same h.moves ends)

  -- where steps lead to a state, all that comes to an end by these replies and more goes through the same state
  pub goes_through : (from from' : C) (before before' a b : Log) (rest : List Reply) (c d : C) (e : E) → Same from from' → Leads Steps from before c (before ++ a) → Leads Steps from' before' d (before' ++ b) →
      replies_of b ≡ replies_of a ++ rest → Steps d (Ends e) → ComesThrough c d a b rest
  goes_through from from' before before' a b rest c d e same l k is ends =
      let f = fronts Steps from before c (before ++ a) l in
      let g = fronts Steps from' before' d (before' ++ b) k in
      let first : Front Steps from a c = subst (λ x. Front Steps from x c) (sym (append_cancel_left before a f.0 f.1)) f.2 in
      let second : Front Steps from' b d = subst (λ x. Front Steps from' x d) (sym (append_cancel_left before' b g.0 g.1)) g.2 in
      behind_front from from' c d a b rest e first second is same ends

  -- at an end no steps lead on
  at_end : (c s d : C) (log : Log) (e e' : E) → Same c s → Steps c (Ends e) → Front Steps s log d → Steps d (Ends e') → (log ≡ []) × (e ≡ e')
  at_end c s d log e e' same m (Front.here _) ends = (refl, agrees c s (Ends e) (Ends e') same m ends)
  at_end c s d log e e' same m (Front.goes _ t _ _ n f) ends = absurd (agrees c s (Ends e) (Goes t) same m n)
  at_end c s d log e e' same m (Front.asks _ _ ask next reply added n f) ends = absurd (agrees c s (Ends e) (Asks ask next) same m n)

  -- replies lead to one end, and no more come behind it
  pub one_end : (from from' : C) (before before' a b : Log) (rest : List Reply) (c d : C) (e e' : E) → Same from from' → Leads Steps from before c (before ++ a) → Steps c (Ends e) → Leads Steps from' before' d (before' ++ b) → Steps d (Ends e') →
      replies_of b ≡ replies_of a ++ rest → (rest ≡ []) × (e ≡ e') × AreLikePairs Like a b
  one_end from from' before before' a b rest c d e e' same l m k n is =
      let h = goes_through from from' before before' a b rest c d e' same l k is n in
      let end = at_end c h.at d h.later e e' h.same m h.ahead n in
      (sym h.left ∙ ap replies_of end.0, end.1, subst (λ x. AreLikePairs Like a x) (sym (append-nil h.first) ∙ ap (λ x. h.first ++ x) (sym end.0) ∙ sym h.is) h.alike)

  -- The same for one log

  -- two fronts of one log from one state: one of the two comes through where the other is, or still comes there
  pub either_in_log : (from : C) (before between later : Log) (c d : C) → Same from from → Leads Steps from before c between → Leads Steps from before d (between ++ later) →
      (a b : Log) × (rest : List Reply) × (ComesThrough c d a b rest ⊎ StillComes c d)
  either_in_log from before between later c d same l k =
      let f = fronts Steps from before c between l in
      let g = fronts Steps from before d (between ++ later) k in
      let is : g.0 ≡ f.0 ++ later = append_cancel_left before g.0 (f.0 ++ later) (sym g.1 ∙ ap (λ x. x ++ later) f.1 ∙ append_assoc before f.0 later) in
      (f.0, g.0, replies_of later, either_front from from c d f.0 g.0 (replies_of later) f.2 g.2 (ap replies_of is ∙ map-append (λ p. p.1) f.0 later) same)

  pub log_has_one_end : (from from' : C) (before after : Log) (c d : C) (e e' : E) → Same from from' → Leads Steps from before c after → Steps c (Ends e) → Leads Steps from' before d after → Steps d (Ends e') → e ≡ e'
  log_has_one_end from from' before after c d e e' same l m k n =
      let f = fronts Steps from before c after l in
      let first = subst (λ x. Leads Steps from before c x) f.1 l in
      let second = subst (λ x. Leads Steps from' before d x) f.1 k in
      (one_end from from' before before f.0 f.0 [] c d e e' same first m second n (sym (append-nil (replies_of f.0)))).1
