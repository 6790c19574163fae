-- What the machine does where a term does something next, and how a part's case becomes the whole's.
use Rattle.std.proofs.Common.{◌≡◌, ℕ, suc, true, false, List, [], ◌∷◌, ◌++◌, length, Option, Some, None, slice_get, refl, sym, ap, ◌∙◌, subst, inl, inr, arith}
use Rattle.std.specs.Prelude.{◌⊎◌}
use Rattle.bds_value.specs.declared.value.Value.{Value}
use Rattle.bds_code.specs.declared.instr.Instr.TheVariants as instr
use Rattle.bds_code.specs.declared.unit.Unit.{Unit as CodeUnit}
use Rattle.bds_code_frames.specs.Stack.{Stack}
use Rattle.bds_machine.specs.declared.point.Point.{Point}
use Rattle.bds_machine.specs.declared.point.Point.TheVariants as point
use Rattle.bds_machine.specs.Calls.{On, Leaves, Ends}
use Rattle.bds_meaning.specs.Acts.{Act, Has, Becomes, Wants, Fails, Returns, Breaks, Continues, Exits, bind}
use Rattle.bds_meaning.specs.Step.{step}
use Rattle.bds_meaning.specs.Term.{Term, Reduced}
use Rattle.bds_schedule.specs.Values.{first}
use Rattle.bds_meaning.specs.Variables.{Variables}
use Rattle.bds_sim_terms.specs.steps.Stands.{Source, Names, Fits, parts, values, Target, Loop, out_of, again_of, Site, at, part, part_over, count_of, Points, results, Is, Named, Stays, IsBehind, Two, Stands}
use Rattle.bds_sim.specs.Threads.{Parts, answered}
use Rattle.bds_sim_terms.proofs.steps.Leads.{next, Leads, leads_on, Moves, lives}

-- a part's site in a form's: the same function and calls below, and, if a break may come out of it, the same loop and operands
pub record Nests (ca c : Site) : Type 0 where
  pub function : ca.function ≡ c.function
  pub below : ca.below ≡ c.below
  pub loop : (ca.loop ≡ None) ⊎ ((ca.loop ≡ c.loop) × (ca.base ≡ c.base) × (ca.held ≡ c.held) × (ca.kept ≡ c.kept))

module _ (o : Source) (u : CodeUnit) where
  -- a row that counts a tick, where one is left
  pub record Ticks (m m' : Parts) : Type 0 where
    pub ticks : (t : ℕ) → next u m (suc t) ≡ Some (On m'.globals m'.calls t)
    pub spent : next u m 0 ≡ Some (Leaves point.Spent m.globals m.calls 0)

  -- returning values, the newest call is at a Return
  pub record Returning (us : List Value) (vs : Variables) (c : Site) (s : Stack) : Type 0 where
    pub pc : ℕ
    pub slots : List Value
    pub ops : List Value
    pub is : Is o u c.function pc instr.Return
    pub few : length us ≡ results is.f.ret
    pub named : Named o u vs
    pub leads : Leads u (parts vs s) (parts vs (at c pc slots (us ++ ops)))

  -- a break or continue has led to its place
  pub record Jumped (way : Option Loop → Option Target) (vs : Variables) (c : Site) (s : Stack) : Type 0 where
    pub to : Target
    pub here : way c.loop ≡ Some to
    pub added : Names
    pub slots : List Value
    pub named : Named o u vs
    pub holds : Fits (added ++ to.names) c.held c.kept vs.locals slots
    pub leads : Leads u (parts vs s) (parts vs (at c to.place slots c.base))

  -- the machine does what the term does next
  abbrev pub Follows : Act → Variables → Site → Stack → Type 0
  Follows (Has us) vs c s = (length us ≡ c.kind) × Named o u vs × ((slots : List Value) × Fits c.names c.held c.kept vs.locals slots × Leads u (parts vs s) (parts vs (at c c.exit slots (us ++ c.base))))
  Follows (Becomes false vs' t) vs c s = (s' : Stack) × Leads u (parts vs s) (parts vs' s') × Stands o u t vs' c s'
  Follows (Becomes true vs' t) vs c s =
      (s1 s2 s3 : Stack) × Leads u (parts vs s) (parts vs s1) × Ticks (parts vs s1) (parts vs' s2) × Leads u (parts vs' s2) (parts vs' s3) × Stands o u t vs' c s3
  Follows (Wants line r go) vs c s =
      (s1 s2 : Stack) × Leads u (parts vs s) (parts vs s1) × ((p : Point) × Points o u r p (values vs.globals) s2 × ((t : ℕ) → next u (parts vs s1) t ≡ Some (Leaves p (values vs.globals) s2 t)) × IsBehind o u line s2
      × ((us : List Value) → length us ≡ count_of r → (s3 : Stack) × (answered us s2 ≡ Some s3) × Stands o u (go us) vs c s3))
  Follows (Fails line fault) vs c s = (s1 : Stack) × Leads u (parts vs s) (parts vs s1) × ((t : ℕ) → next u (parts vs s1) t ≡ Some (Ends (point.Stop fault line) t))
  Follows (Returns us) vs c s = Returning us vs c s
  Follows Breaks vs c s = Jumped out_of vs c s
  Follows Continues vs c s = Jumped again_of vs c s
  Follows (Exits status) vs c s = (s1 : Stack) × Leads u (parts vs s) (parts vs s1) × ((t : ℕ) → next u (parts vs s1) t ≡ Some (Ends (point.Exit status) t))

  jumped_behind : (way : Option Loop → Option Target) (vs : Variables) (c : Site) (s s1 : Stack) → Leads u (parts vs s) (parts vs s1) → Jumped way vs c s1 → Jumped way vs c s
  jumped_behind way vs c s s1 l f = record { to = f.to; here = f.here; added = f.added; slots = f.slots; named = f.named; holds = f.holds; leads = leads_on u _ _ _ l f.leads }

  pub behind : (x : Act) (vs : Variables) (c : Site) (s s1 : Stack) → Leads u (parts vs s) (parts vs s1) → Follows x vs c s1 → Follows x vs c s
  behind (Has us) vs c s s1 l f = (f.0, f.1, (f.2.0, f.2.1, leads_on u _ _ _ l f.2.2))
  behind (Becomes false vs' t) vs c s s1 l f = (f.0, leads_on u _ _ _ l f.1, f.2)
  behind (Becomes true vs' t) vs c s s1 l f = (f.0, f.1, f.2, leads_on u _ _ _ l f.3, f.4, f.5, f.6)
  behind (Wants line r go) vs c s s1 l f = (f.0, f.1, leads_on u _ _ _ l f.2, f.3)
  behind (Fails line fault) vs c s s1 l f = (f.0, leads_on u _ _ _ l f.1, f.2)
  behind (Returns us) vs c s s1 l f = record { pc = f.pc; slots = f.slots; ops = f.ops; is = f.is; few = f.few; named = f.named; leads = leads_on u _ _ _ l f.leads }
  behind Breaks vs c s s1 l f = jumped_behind out_of vs c s s1 l f
  behind Continues vs c s s1 l f = jumped_behind again_of vs c s s1 l f
  behind (Exits status) vs c s s1 l f = (f.0, leads_on u _ _ _ l f.1, f.2)

  -- the same return, in the form's site
  returns_out : (us : List Value) (vs : Variables) (ca c : Site) (s : Stack) → ca.function ≡ c.function → ca.below ≡ c.below → Returning us vs ca s → Returning us vs c s
  returns_out us vs ca c s e b r =
      let is : Is o u c.function r.pc instr.Return = record { f = r.is.f; there = ap (λ n. slice_get u.functions n) (sym e) ∙ r.is.there; code = r.is.code } in
      record {
        pc = r.pc;
        slots = r.slots;
        ops = r.ops;
        is = is;
        few = r.few;
        named = r.named;
        leads = subst (λ n. Leads u (parts vs s) (parts vs (record { function = n; place = r.pc; slots = r.slots; ops = us ++ r.ops } ∷ c.below))) e
            (subst (λ b. Leads u (parts vs s) (parts vs (record { function = ca.function; place = r.pc; slots = r.slots; ops = us ++ r.ops } ∷ b))) b r.leads);
      }

  jumped_out : (way : Option Loop → Option Target) → (way None ≡ None) → (vs : Variables) (ca c : Site) (s : Stack) → Nests ca c → Jumped way vs ca s → Jumped way vs c s
  jumped_out way nowhere vs ca c s n f =
      let go : (ca.loop ≡ None) ⊎ ((ca.loop ≡ c.loop) × (ca.base ≡ c.base) × (ca.held ≡ c.held) × (ca.kept ≡ c.kept)) → Jumped way vs c s = elim [
        | inl none ↦ absurd (Prim.cc (sym nowhere ∙ sym (ap way none) ∙ f.here))
        | inr q ↦ record {
          to = f.to;
          here = sym (ap way q.0) ∙ f.here;
          added = f.added;
          slots = f.slots;
          named = f.named;
          holds = subst (λ h. Fits (f.added ++ f.to.names) h c.kept vs.locals f.slots) q.2 (subst (λ k. Fits (f.added ++ f.to.names) ca.held k vs.locals f.slots) q.3 f.holds);
          leads = subst (λ m. Leads u (parts vs s) (parts vs (record { function = m; place = f.to.place; slots = f.slots; ops = c.base } ∷ c.below))) n.function
              (subst (λ b. Leads u (parts vs s) (parts vs (record { function = ca.function; place = f.to.place; slots = f.slots; ops = b } ∷ c.below))) q.1
              (subst (λ b. Leads u (parts vs s) (parts vs (record { function = ca.function; place = f.to.place; slots = f.slots; ops = ca.base } ∷ b))) n.below f.leads));
        }
      ] in go n.loop

  -- the one value of a part
  pub one_value : (us : List Value) → length us ≡ 1 → us ≡ first us ∷ []
  one_value [] e = absurd (omega (arith, e))
  one_value (v ∷ []) e = refl
  one_value (v ∷ w ∷ us) e = absurd (omega (arith, e))

  pub no_value : (us base : List Value) → length us ≡ 0 → us ++ base ≡ base
  no_value [] base e = refl
  no_value (v ∷ us) base e = absurd (omega (arith, e))

  module _ (Live : Parts → Type 0) (moves : Moves u Live) where
    -- a part, and what is done with its values
    pub bind_follows : (x : Act) (form : Term → Term) (rest : List Value → Act) (vs : Variables) (ca c : Site) (s : Stack) → Nests ca c → Live (parts vs s)
        → ((vs' : Variables) (t' : Term) (s' : Stack) → Stands o u t' vs' ca s' → Stands o u (form t') vs' c s')
        → ((us slots : List Value) → length us ≡ ca.kind → Named o u vs → Fits ca.names ca.held ca.kept vs.locals slots → Live (parts vs (at ca ca.exit slots (us ++ ca.base))) → Follows (rest us) vs c (at ca ca.exit slots (us ++ ca.base)))
        → Follows x vs ca s → Follows (bind x form rest) vs c s
    bind_follows (Has us) form rest vs ca c s n live w g f = behind (rest us) vs c s _ f.2.2 (g us f.2.0 f.0 f.1 f.2.1 (lives u Live moves _ _ f.2.2 live))
    bind_follows (Becomes false vs' t) form rest vs ca c s n live w g f = (f.0, f.1, w vs' t f.0 f.2)
    bind_follows (Becomes true vs' t) form rest vs ca c s n live w g f = (f.0, f.1, f.2, f.3, f.4, f.5, w vs' t f.2 f.6)
    bind_follows (Wants line q go) form rest vs ca c s n live w g f = (f.0, f.1, f.2, (f.3.0, f.3.1, f.3.2, f.3.3, λ us len. let r = f.3.4 us len in (r.0, r.1, w vs (go us) r.0 r.2)))
    bind_follows (Fails line fault) form rest vs ca c s n live w g f = f
    bind_follows (Returns us) form rest vs ca c s n live w g f = returns_out us vs ca c s n.function n.below f
    bind_follows Breaks form rest vs ca c s n live w g f = jumped_out out_of refl vs ca c s n f
    bind_follows Continues form rest vs ca c s n live w g f = jumped_out again_of refl vs ca c s n f
    bind_follows (Exits status) form rest vs ca c s n live w g f = f

    -- a part's own simulation, at any site with so many calls
    abbrev pub Sim : Term → Variables → ℕ → Type 0
    Sim t vs d = (c : Site) (s : Stack) → suc (length c.below) ≡ d → Live (parts vs s) → Stands o u t vs c s → Follows (step o.program vs d t) vs c s

    -- a form of two parts
    pub two_follows : (a b : Term) (whole : Term → Term → Term) (final : List Value → List Value → Act) (k1 k2 pc d : ℕ) (vs : Variables) (c : Site) (s : Stack) → suc (length c.below) ≡ d → Live (parts vs s)
        → Sim a vs d → Sim b vs d
        → ((vs' : Variables) (a' b' : Term) (s' : Stack) → Two o u (Stands o u a') (Stands o u b') a' k1 k2 vs' c pc s' → Stands o u (whole a' b') vs' c s')
        → ((us ws slots : List Value) → length us ≡ k1 → length ws ≡ k2 → Named o u vs → Fits c.names c.held c.kept vs.locals slots → Live (parts vs (at c pc slots (ws ++ (us ++ c.base)))) → Follows (final us ws) vs c (at c pc slots (ws ++ (us ++ c.base))))
        → Two o u (Stands o u a) (Stands o u b) a k1 k2 vs c pc s
        → Follows (bind (step o.program vs d a) (λ a'. whole a' b) (λ us. bind (step o.program vs d b) (λ b'. whole (Reduced us) b') (λ ws. final us ws))) vs c s
    two_follows a b whole final k1 k2 pc d vs c s e live sa sb hold fin (inl r) =
        bind_follows (step o.program vs d a) (λ a'. whole a' b) (λ us. bind (step o.program vs d b) (λ b'. whole (Reduced us) b') (λ ws. final us ws)) vs (part c r.0 k1) c s (record { function = refl; below = refl; loop = inl refl }) live
        (λ vs' a' s' st. hold vs' a' b s' (inl (r.0, st, r.2)))
        (λ us slots len named holds live'. bind_follows (step o.program vs d b) (λ b'. whole (Reduced us) b') (λ ws. final us ws) vs (part_over c us pc k2) c (at c r.0 slots (us ++ c.base)) (record { function = refl; below = refl; loop = inl refl }) live'
        (λ vs' b' s' st. hold vs' (Reduced us) b' s' (inr (us, refl, len, st)))
        (λ ws slots' len' named' holds' live''. fin us ws slots' len len' named' holds' live'')
        (sb (part_over c us pc k2) (at c r.0 slots (us ++ c.base)) e live' (r.2.at vs slots (us ++ c.base) c.kept c.below named holds)))
        (sa (part c r.0 k1) s e live r.1)
    two_follows a b whole final k1 k2 pc d vs c s e live sa sb hold fin (inr r) =
        subst (λ a0. Follows (bind (step o.program vs d a0) (λ a'. whole a' b) (λ us. bind (step o.program vs d b) (λ b'. whole (Reduced us) b') (λ ws. final us ws))) vs c s) (sym r.1)
        (bind_follows (step o.program vs d b) (λ b'. whole (Reduced r.0) b') (λ ws. final r.0 ws) vs (part_over c r.0 pc k2) c s (record { function = refl; below = refl; loop = inl refl }) live
        (λ vs' b' s' st. hold vs' (Reduced r.0) b' s' (inr (r.0, refl, r.2, st)))
        (λ ws slots' len' named' holds' live'. fin r.0 ws slots' r.2 len' named' holds' live')
        (sb (part_over c r.0 pc k2) s e live r.3))

  -- the state, by its parts
  pub at_place : (x : Act) (vs vs0 : Variables) (c : Site) (pc : ℕ) (ops : List Value) (s : Stack) (live : Parts → Type 0) → live (parts vs s) → (st : Stays o u vs c pc ops s)
      → (live (parts vs (at c pc st.slots ops)) → Follows x vs0 c (at c pc st.slots ops)) → Follows x vs0 c s
  at_place x vs vs0 c pc ops s live l st f = subst (λ z. Follows x vs0 c z) (sym st.is) (f (subst (λ z. live (parts vs z)) st.is l))
