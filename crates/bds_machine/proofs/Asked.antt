-- What an instruction asks is there, and the operands behind it are typed.
use Rattle.std.proofs.Common.{◌≡◌, ◌≤◌, ◌&&◌, ℕ, ℤ, pos, negsuc, List, ◌∷◌, ◌++◌, length, reverse, slice_get, take, drop, nat_le, Bool, true, false, cond, Option, Some, None, Ok, Err, refl, sym, ap, ◌∙◌, subst, arith, ◌⊎◌, inl, inr}
use Rattle.std.proofs.lemmas.Grind.{common_steps}
use Rattle.bds_value.specs.declared.TheConstants.{MAX_CPUS, MAX_RETRY}
use Rattle.bds_value.specs.declared.value.Ty.{Ty}
use Rattle.bds_value.specs.declared.value.Ty.TheVariants as ty
use Rattle.bds_value.specs.declared.value.Value.{Value}
use Rattle.bds_host.specs.declared.asks.Ask.TheVariants as ask
use Rattle.bds_value.specs.declared.faults.RunFault.{RunFault}
use Rattle.bds_value.specs.declared.faults.RunFault.TheVariants.{BadOption}
use Rattle.bds_value.specs.Options.{◌>>=◌}
use Rattle.bds_value.specs.Readers.{as_bool, as_int, as_text, as_texts}
use Rattle.bds_code.specs.declared.unit.Function.{Function}
use Rattle.bds_code.specs.declared.unit.Unit.{Unit as CodeUnit}
use Rattle.bds_code.specs.Row.{task_parts}
use Rattle.bds_code_frames.specs.Stack.{Call, Stack, with_ops}
use Rattle.bds_verify.specs.Threads.{IsCall}
use Rattle.bds_machine.specs.declared.point.Point.{Point}
use Rattle.bds_machine.specs.declared.point.Point.TheVariants as point
use Rattle.bds_machine_values.specs.Operands.{taken_as, taken_all}
use Rattle.bds_machine_values.specs.Faults.{Outcome, and_then}
use Rattle.bds_machine.specs.Points.{leaves, with_text, with_texts, written, compared, with_work, spawned}
use Rattle.bds_machine.specs.Answers.{is_awaited}
use Rattle.bds_machine.specs.Tasks.{Work, ranged, processors, retries, work_taken, in_ranges}
use Rattle.bds_machine.proofs.Fits.{Kept}
use Rattle.bds_machine.proofs.Takes.{Took, takes_as, kept_on, reads-Bool, reads-Int, reads-Text, reads-Texts}
use Rattle.bds_machine.proofs.Typed.{typed-arguments}

-- a row asks at a point and leaves these operands, or stops with a fault
abbrev pub AsksRow : Function → List Ty → Call → Stack → Outcome (Point × Stack) → Type 0
AsksRow f rest c below o = ((e : RunFault) × (o ≡ Some (Err e))) ⊎ ((p : Point) × (d : Call) × (o ≡ Some (Ok (p, d ∷ below))) × Kept f rest c d × (is_awaited p ≡ true))

-- a result, or a fault
abbrev Settled : {X : Type 0} → Outcome X → Type 0
Settled {X = X} o = ((e : RunFault) × (o ≡ Some (Err e))) ⊎ ((x : X) × (o ≡ Some (Ok x)))

and_settled : {X Y : Type 0} (o : Outcome X) (go : X → Outcome Y) → Settled o → ((x : X) → Settled (go x)) → Settled (and_then o go)
and_settled o go (inl h) then = inl (h.0, ap (λ o. and_then o go) h.1)
and_settled o go (inr h) then = subst Settled (sym (ap (λ o. and_then o go) h.1)) (then h.0)

ranged_by : (b : Bool) (n : ℕ) → Settled (cond b (Some (Ok n)) (Some (Err (BadOption (pos n)))))
ranged_by true n = inr (n, refl)
ranged_by false n = inl (BadOption (pos n), refl)

ranged_settled : (low high : ℕ) (n : ℤ) → Settled (ranged low high n)
ranged_settled low high (pos n) = ranged_by (nat_le low n && nat_le n high) n
ranged_settled low high (negsuc n) = inl (BadOption (negsuc n), refl)

in_ranges_settled : {X : Type 0} (w : Work) (make : ℕ → ℕ → X) → Settled (in_ranges w make)
in_ranges_settled w make =
    and_settled (processors w.cpus) (λ cpus. and_then (retries w.retry) (λ retry. Some (Ok (make cpus retry)))) (ranged_settled 1 MAX_CPUS w.cpus)
    (λ cpus. and_settled (retries w.retry) (λ retry. Some (Ok (make cpus retry))) (ranged_settled 0 MAX_RETRY w.retry) (λ retry. inr (make cpus retry, refl)))

made_by : {X Y : Type 0} (P : Y → Type 0) (o : Outcome X) (go : X → Outcome Y) → ((x : X) (y : Y) → go x ≡ Some (Ok y) → P y) → (y : Y) → and_then o go ≡ Some (Ok y) → P y
made_by P None go h y e = absurd (cc)
made_by P (Some (Ok x)) go h y e = h x y e
made_by P (Some (Err x)) go h y e = absurd (cc)

in_ranges_made : {X : Type 0} (P : X → Type 0) (w : Work) (make : ℕ → ℕ → X) → ((cpus retry : ℕ) → P (make cpus retry)) → (x : X) → in_ranges w make ≡ Some (Ok x) → P x
in_ranges_made P w make h = made_by P (processors w.cpus) (λ cpus. and_then (retries w.retry) (λ retry. Some (Ok (make cpus retry))))
    (λ cpus. made_by P (retries w.retry) (λ retry. Some (Ok (make cpus retry))) (λ retry y e. let same : make cpus retry ≡ y = cc in subst P same (h cpus retry)))

module _ (f : Function) (rest : List Ty) (c : Call) (below : Stack) where
  pub asks_nothing : (p : Point) → is_awaited p ≡ true → IsCall f rest c → AsksRow f rest c below (leaves p (c ∷ below))
  asks_nothing p w k = inr (p, c, refl, record { function = refl; place = refl; call = k }, w)

  -- what was taken, at a point
  took_asks : {X : Type 0} (o : Option (X × Stack)) (makes : X → Point) → ((x : X) → is_awaited (makes x) ≡ true) → Took f rest c below o → AsksRow f rest c below (o >>= λ r. leaves (makes r.0) r.1)
  took_asks o makes w k = inr (makes k.value, k.left, ap (λ o. o >>= λ r. leaves (makes r.0) r.1) k.is, k.kept, w k.value)

  pub asks_text : (makes : List ℕ → Point) → ((x : List ℕ) → is_awaited (makes x) ≡ true) → IsCall f (ty.Text ∷ rest) c → AsksRow f rest c below (with_text makes (c ∷ below))
  asks_text makes w k = took_asks (taken_as as_text (c ∷ below)) makes w (takes_as f rest c below as_text ty.Text reads-Text k)

  pub asks_texts : (makes : List (List ℕ) → Point) → ((x : List (List ℕ)) → is_awaited (makes x) ≡ true) → IsCall f (ty.List ty.Text ∷ rest) c → AsksRow f rest c below (with_texts makes (c ∷ below))
  asks_texts makes w k = took_asks (taken_as as_texts (c ∷ below)) makes w (takes_as f rest c below as_texts (ty.List ty.Text) reads-Texts k)

  pub asks_write : IsCall f (ty.Text ∷ ty.Text ∷ rest) c → AsksRow f rest c below (written (c ∷ below))
  asks_write k =
      let text = takes_as f (ty.Text ∷ rest) c below as_text ty.Text reads-Text k in
      let path = takes_as f rest text.left below as_text ty.Text reads-Text text.kept.call in
      inr (
        point.Asks (ask.Write path.value text.value),
        path.left,
        ap (λ o. o >>= λ text. taken_as as_text text.1 >>= λ path. leaves (point.Asks (ask.Write path.0 text.0)) path.1) text.is
            ∙ ap (λ o. o >>= λ path. leaves (point.Asks (ask.Write path.0 text.value)) path.1) path.is,
        kept_on f (ty.Text ∷ rest) rest c text.left path.left text.kept path.kept,
        refl,
      )

  pub asks_compared : IsCall f (ty.List ty.Text ∷ ty.List ty.Text ∷ rest) c → AsksRow f rest c below (compared (c ∷ below))
  asks_compared k =
      let ins = takes_as f (ty.List ty.Text ∷ rest) c below as_texts (ty.List ty.Text) reads-Texts k in
      let outs = takes_as f rest ins.left below as_texts (ty.List ty.Text) reads-Texts ins.kept.call in
      inr (
        point.Old outs.value ins.value,
        outs.left,
        ap (λ o. o >>= λ ins. taken_as as_texts ins.1 >>= λ outs. leaves (point.Old outs.0 ins.0) outs.1) ins.is
            ∙ ap (λ o. o >>= λ outs. leaves (point.Old outs.0 ins.value) outs.1) outs.is,
        kept_on f (ty.List ty.Text ∷ rest) rest c ins.left outs.left ins.kept outs.kept,
        refl,
      )

  pub asks_spawn : (u : CodeUnit) (n : ℕ) (callee : Function) → slice_get u.functions n ≡ Some callee → IsCall f (reverse callee.params ++ rest) c → AsksRow f rest c below (spawned u n (c ∷ below))
  asks_spawn u n callee there k =
      let args = typed-arguments c.ops callee.params rest k.ops in
      let count = length callee.params in
      let d : Call = with_ops (drop count c.ops) c in
      let taken : Option (List Value × Stack) = Some (reverse (take count c.ops), d ∷ below) in
      inr (
        point.Spawn n (reverse (take count c.ops)),
        d,
        ap (λ o. o >>= λ callee. taken_all (length callee.params) (c ∷ below) >>= λ args. leaves (point.Spawn n args.0) args.1) there
            ∙ ap (λ b. cond b taken None >>= λ args. leaves (point.Spawn n args.0) args.1) (enough count (length c.ops) args.2),
        record { function = refl; place = refl; call = record { slots = k.slots; ops = args.1 } },
        refl,
      )
    where
      enough : (n m : ℕ) → n ≤ m → nat_le n m ≡ true
      enough n m l = grind (arith, common_steps)

  work_takes : IsCall f (task_parts ++ rest) c → Took f rest c below (work_taken (c ∷ below))
  work_takes k =
      let command = takes_as f (ty.Text ∷ ty.Int ∷ ty.Bool ∷ ty.Int ∷ ty.List ty.Text ∷ ty.List ty.Text ∷ rest) c below as_text ty.Text reads-Text k in
      let name = takes_as f (ty.Int ∷ ty.Bool ∷ ty.Int ∷ ty.List ty.Text ∷ ty.List ty.Text ∷ rest) command.left below as_text ty.Text reads-Text command.kept.call in
      let retry = takes_as f (ty.Bool ∷ ty.Int ∷ ty.List ty.Text ∷ ty.List ty.Text ∷ rest) name.left below as_int ty.Int reads-Int name.kept.call in
      let can_fail = takes_as f (ty.Int ∷ ty.List ty.Text ∷ ty.List ty.Text ∷ rest) retry.left below as_bool ty.Bool reads-Bool retry.kept.call in
      let cpus = takes_as f (ty.List ty.Text ∷ ty.List ty.Text ∷ rest) can_fail.left below as_int ty.Int reads-Int can_fail.kept.call in
      let ins = takes_as f (ty.List ty.Text ∷ rest) cpus.left below as_texts (ty.List ty.Text) reads-Texts cpus.kept.call in
      let outs = takes_as f rest ins.left below as_texts (ty.List ty.Text) reads-Texts ins.kept.call in
      let to_retry = kept_on f _ _ c name.left retry.left (kept_on f _ _ c command.left name.left command.kept name.kept) retry.kept in
      let to_cpus = kept_on f _ _ c can_fail.left cpus.left (kept_on f _ _ c retry.left can_fail.left to_retry can_fail.kept) cpus.kept in
      let to_outs = kept_on f _ rest c ins.left outs.left (kept_on f _ _ c cpus.left ins.left to_cpus ins.kept) outs.kept in
      let work : Work = record { outs = outs.value; ins = ins.value; cpus = cpus.value; can_fail = can_fail.value; retry = retry.value; name = name.value; command = command.value } in
      record {
        value = work;
        left = outs.left;
        is = rw (command.is, name.is, retry.is, can_fail.is, cpus.is, ins.is, outs.is) (refl {a = Some (work, outs.left ∷ below)});
        kept = to_outs;
      }

  made_asks : (o : Outcome Point) (d : Call) → Kept f rest c d → Settled o → ((p : Point) → o ≡ Some (Ok p) → is_awaited p ≡ true) → AsksRow f rest c below (and_then o (λ p. leaves p (d ∷ below)))
  made_asks o d k (inl h) w = inl (h.0, ap (λ o. and_then o (λ p. leaves p (d ∷ below))) h.1)
  made_asks o d k (inr h) w = inr (h.0, d, ap (λ o. and_then o (λ p. leaves p (d ∷ below))) h.1, k, w h.0 h.1)

  pub asks_work : (makes : Work → ℕ → ℕ → Point) → ((x : Work) (cpus retry : ℕ) → is_awaited (makes x cpus retry) ≡ true) → IsCall f (task_parts ++ rest) c → AsksRow f rest c below (with_work makes (c ∷ below))
  asks_work makes awaited k =
      let w = work_takes k in
      let o = in_ranges w.value (makes w.value) in
      let made = made_asks o w.left w.kept (in_ranges_settled w.value (makes w.value)) (in_ranges_made (λ p. is_awaited p ≡ true) w.value (makes w.value) (awaited w.value)) in
      subst (AsksRow f rest c below) (sym (ap (λ o. o >>= λ w. and_then (in_ranges w.0 (makes w.0)) (λ p. leaves p w.1)) w.is)) made
