-- What related configurations come to: the same ask, or the same end.
use Rattle.std.proofs.Common.{◌≡◌, ℕ, zero, suc, ◌+◌, List, [], ◌∷◌, ◌++◌, refl, sym, ap, ◌∙◌, subst}
use Rattle.bds_host.specs.declared.asks.Ask.{Ask}
use Rattle.bds_host.specs.declared.asks.Ask.TheVariants as ask
use Rattle.bds_host.specs.declared.asks.Reply.{Reply}
use Rattle.bds_host.specs.declared.asks.Reply.TheVariants as reply
use Rattle.bds_host.specs.Asks.{fits}
use Rattle.bds_host.specs.Host.{Log}
use Rattle.bds_schedule.specs.Configuration.{Configuration}
use Rattle.bds_schedule.specs.Requests.{ThreadAct}
use Rattle.bds_schedule.specs.Stages.{End}
use Rattle.bds_schedule.specs.Steps.{Step, Goes, Asks, Ends, Leads}
use Rattle.bds_sim.specs.schedule.Agree.{Agree}
use Rattle.bds_sim.specs.schedule.Related.{Related, SameAsk, SameStep}
use Rattle.bds_sim.specs.schedule.Runs.{onward, upto, IsSettled}
use Rattle.bds_sim.specs.schedule.Law.{without_image, without_images}
use Rattle.bds_sim.proofs.schedule.Moving.{source_next, machine_next, Aligned, aligned}
use Rattle.bds_sim.proofs.schedule.Walking.{settled_on}

module _ {S M : Type 0} (R F : S → M → Type 0) (source : S → ThreadAct S) (machine : M → ThreadAct M) (files : List (List ℕ)) (bytes : List ℕ) (image : Configuration M → List ℕ) (law : Agree R F source machine) where
  abbrev next_s : Configuration S → Step (Configuration S) End
  next_s c = source_next R F source machine files bytes image c

  abbrev next_m : Configuration M → Step (Configuration M) End
  next_m d = machine_next R F source machine files bytes image d

  abbrev Alike : Step (Configuration S) End → Step (Configuration M) End → Type 0
  Alike x y = SameStep R F source machine bytes image x y

  does_step : (n : ℕ) → ((c : Configuration S) (d : Configuration M) → Related R F source machine c d → IsSettled (upto next_s n c) → (k : ℕ) × Alike (upto next_s n c) (upto next_m k d))
      → (x : Step (Configuration S) End) (y : Step (Configuration M) End) → Alike x y → IsSettled (onward (upto next_s n) x) → (k : ℕ) × Alike (onward (upto next_s n) x) (onward (upto next_m k) y)
  does_step n rec _ _ (SameStep.go c d r) h = rec c d r h
  does_step n rec _ _ (SameStep.make a b f g same behind) h = (0, SameStep.make a b f g same behind)
  does_step n rec _ _ (SameStep.end e) h = (0, SameStep.end e)

  -- what the source comes to, the machine comes to
  pub does_settle : (n : ℕ) (c : Configuration S) (d : Configuration M) → Related R F source machine c d → IsSettled (upto next_s n c) → (k : ℕ) × Alike (upto next_s n c) (upto next_m k d)
  does_settle zero c d r h = absurd h
  does_settle (suc n) c d r h =
      let a : Aligned R F source machine files bytes image c d = aligned R F source machine files bytes image law c d r in
      let e : upto next_s (suc n) a.c' ≡ upto next_s (suc n) c = settled_on next_s c a.c' a.of_source (suc n) h in
      let w = does_step n (does_settle n) (next_s a.c') (next_m a.d') a.alike (subst (λ x. IsSettled x) (sym e) h) in
      (a.of_machine.count + suc w.0, subst (λ x. Alike x (upto next_m (a.of_machine.count + suc w.0) d)) e (subst (λ y. Alike (upto next_s (suc n) a.c') y) (sym (a.of_machine.same (suc w.0))) w.1))

  only_step : (n : ℕ) → ((c : Configuration S) (d : Configuration M) → Related R F source machine c d → IsSettled (upto next_m n d) → (k : ℕ) × Alike (upto next_s k c) (upto next_m n d))
      → (x : Step (Configuration S) End) (y : Step (Configuration M) End) → Alike x y → IsSettled (onward (upto next_m n) y) → (k : ℕ) × Alike (onward (upto next_s k) x) (onward (upto next_m n) y)
  only_step n rec _ _ (SameStep.go c d r) h = rec c d r h
  only_step n rec _ _ (SameStep.make a b f g same behind) h = (0, SameStep.make a b f g same behind)
  only_step n rec _ _ (SameStep.end e) h = (0, SameStep.end e)

  -- what the machine comes to, the source comes to
  pub only_settle : (n : ℕ) (c : Configuration S) (d : Configuration M) → Related R F source machine c d → IsSettled (upto next_m n d) → (k : ℕ) × Alike (upto next_s k c) (upto next_m n d)
  only_settle zero c d r h = absurd h
  only_settle (suc n) c d r h =
      let a : Aligned R F source machine files bytes image c d = aligned R F source machine files bytes image law c d r in
      let e : upto next_m (suc n) a.d' ≡ upto next_m (suc n) d = settled_on next_m d a.d' a.of_machine (suc n) h in
      let w = only_step n (only_settle n) (next_s a.c') (next_m a.d') a.alike (subst (λ x. IsSettled x) (sym e) h) in
      (a.of_source.count + suc w.0, subst (λ y. Alike (upto next_s (a.of_source.count + suc w.0) c) y) e (subst (λ x. Alike x (upto next_m (suc n) a.d')) (sym (a.of_source.same (suc w.0))) w.1))

-- the steps up to an ask or an end, as steps of a run
module _ {C E : Type 0} (next : C → Step C E) (Steps : C → Step C E → Type 0) (is : (c : C) (s : Step C E) → next c ≡ s → Steps c s) where
  pub record Comes (from : C) (before : Log) (log : Log) (x : Step C E) : Type 0 where
    pub at : C
    pub leads : Leads Steps from before at log
    pub does : next at ≡ x

  pub leads_upto : (n : ℕ) (from c : C) (before log : Log) (x : Step C E) → IsSettled x → upto next n c ≡ x → Leads Steps from before c log → Comes from before log x
  leads_upto zero from c before log x h e l = absurd (subst (λ y. IsSettled y) (sym e) h)
  leads_upto (suc n) from c before log x h e l = go (λ d e' q. leads_upto n from d before log x h q (Leads.goes c d log l (is c (Goes d) e'))) (next c) refl e
    where
      go : ((d : C) → next c ≡ Goes d → upto next n d ≡ x → Comes from before log x) → (s : Step C E) → next c ≡ s → onward (upto next n) s ≡ x → Comes from before log x
      go rec (Goes d) e' q = rec d e' q
      go rec (Asks a f) e' q = record { at = c; leads = l; does = e' ∙ q }
      go rec (Ends v) e' q = record { at = c; leads = l; does = e' ∙ q }

abbrev pub image_in : Ask → List ℕ
image_in (ask.Save path image) = image
image_in a = []

fits_save : (path i i' : List ℕ) (r : Reply) → fits (ask.Save path i) r ≡ fits (ask.Save path i') r
fits_save path i i' (reply.Bytes text) = refl
fits_save path i i' reply.Missing = refl
fits_save path i i' (reply.Stamp there size time) = refl
fits_save path i i' reply.Done = refl
fits_save path i i' (reply.SysDone code out) = refl
fits_save path i i' reply.Started = refl
fits_save path i i' (reply.Run k) = refl
fits_save path i i' (reply.Ended n code) = refl
fits_save path i i' reply.Fault = refl
fits_save path i i' reply.NoRoom = refl

module _ {S M : Type 0} (R F : S → M → Type 0) (source : S → ThreadAct S) (machine : M → ThreadAct M) (bytes : List ℕ) (image : Configuration M → List ℕ) where
  -- where the image of the source's save is chosen as the machine's
  pub equal_asks : (a b : Ask) (f : Reply → Configuration S) (g : Reply → Configuration M) → SameAsk R F source machine bytes image a b f g → bytes ≡ image_in b → a ≡ b
  equal_asks _ _ f g (SameAsk.plainly a _ _ plainly) e = refl
  equal_asks _ _ _ _ (SameAsk.saves path c d f g r h h') e = ap (λ i. ask.Save path i) e

  pub equal_without : (a b : Ask) (f : Reply → Configuration S) (g : Reply → Configuration M) → SameAsk R F source machine bytes image a b f g → without_image a ≡ without_image b
  equal_without _ _ f g (SameAsk.plainly a _ _ plainly) = refl
  equal_without _ _ _ _ (SameAsk.saves path c d f g r h h') = refl

  pub equal_fits : (a b : Ask) (f : Reply → Configuration S) (g : Reply → Configuration M) → SameAsk R F source machine bytes image a b f g → (r : Reply) → fits a r ≡ fits b r
  equal_fits _ _ f g (SameAsk.plainly a _ _ plainly) r = refl
  equal_fits _ _ _ _ (SameAsk.saves path c d f g rel h h') r = fits_save path bytes (image d) r

pub same_grown : (log log' : Log) (a b : Ask) (r : Reply) → without_images log ≡ without_images log' → without_image a ≡ without_image b → without_images (log ++ (a, r) ∷ []) ≡ without_images (log' ++ (b, r) ∷ [])
same_grown log log' a b r e q = spread log a ∙ ap (λ l. l ++ (without_image a, r) ∷ []) e ∙ ap (λ x. without_images log' ++ (x, r) ∷ []) q ∙ sym (spread log' b)
  where
    spread : (l : Log) (x : Ask) → without_images (l ++ (x, r) ∷ []) ≡ without_images l ++ (without_image x, r) ∷ []
    spread [] x = refl
    spread (p ∷ l) x = ap (λ ps. (without_image p.0, p.1) ∷ ps) (spread l x)
