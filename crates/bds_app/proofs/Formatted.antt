-- What becomes of a script that is formatted is determined by the log.
use Rattle.std.proofs.Common.{◌≡◌, ◌≤◌, ◌<◌, ◌++◌, ◌∙◌, ◌⊎◌, false, inl, inr, ℕ, List, length, Result, Ok, refl, sym, ap, subst, arith}
use Rattle.bds_value.specs.declared.TheConstants.{MAX_TEXT}
use Rattle.bds_host.specs.declared.asks.Ask.TheVariants.{Read, Out, Err as Tells}
use Rattle.bds_host.specs.declared.asks.Reply.{Reply}
use Rattle.bds_host.specs.declared.asks.Reply.TheVariants as reply
use Rattle.bds_host.specs.declared.faults.Fault.{Fault as AFault}
use Rattle.bds_host.specs.declared.faults.Fault.TheVariants as fault
use Rattle.bds_host.specs.Host.{Log, Answered, faults, is_fault}
use Rattle.bds_host.specs.Message.{message_of}
use Rattle.bds_tree.specs.declared.lexing.LexFault.{LexFault}
use Rattle.bds_tree.specs.declared.token.Token.{Token}
use Rattle.bds_tree.specs.ScriptTexts.{Spells}
use Rattle.bds_tree.specs.StmtTree.{ScriptTree}
use Rattle.bds_fmt.specs.Canonical.{canonical}
use Rattle.bds_front.proofs.OneScript.{flaw_spells_none}
use Rattle.bds_engine_parts.specs.Run.{FaultIsTold}
use Rattle.bds_engine_parts.proofs.Told.{IsClean, grown_by}
use Rattle.bds_app_fmt.specs.Formatting.{FormatsFile, FormatsScript, IsUnformatted}
use Rattle.bds_app_run.specs.declared.outcome.Outcome.{Outcome}
use Rattle.bds_app_run.specs.declared.outcome.Outcome.TheVariants.{Ended, Refused, Device, NoMemory}
use Rattle.bds_app.specs.Formatted.{HasCanonical, HasNoCanonical}
use Rattle.bds_app_run.proofs.FileLaws.{same_reply}
use Rattle.bds_app.proofs.Shown.{Shown, shown_device, shown_faults, shown_out, shown_same, shown_tells}
use Rattle.bds_app_run.proofs.Telling.{Comes, Same, comes_settled, device_comes, has_risen, prints_comes, says_comes}
use Rattle.bds_app_run.proofs.Telling.{settled_clean}
use Rattle.bds_app_run.proofs.Trails.{nothing_yet}

module _ (path : List ℕ) (before : Log) where
  read_clean : (log : Log) (r : Reply) → is_fault r ≡ false → Answered before log (Read path) r → IsClean before log
  read_clean log r fine a = grown_by before before log (Read path) r (nothing_yet before) a.grown fine

  pub canonical_clean : (printed : List ℕ) (log : Log) → HasCanonical path before log printed → IsClean before log
  canonical_clean printed log h = read_clean log (reply.Bytes h.text) refl h.read

  pub no_canonical_clean : (f : AFault) (log : Log) → HasNoCanonical path before log f → IsClean before log
  no_canonical_clean _ log (HasNoCanonical.missing a) = read_clean log reply.Missing refl a
  no_canonical_clean f log (HasNoCanonical.unformatted text _ a u) = read_clean log (reply.Bytes text) refl a
  no_canonical_clean _ log (HasNoCanonical.long_path long same) = subst (λ l. IsClean before l) (sym same) (nothing_yet before)

-- a text with a canonical text isn't refused
no_refusal : (path text : List ℕ) (f : AFault) (tokens : List Token) (script : ScriptTree) → Spells text tokens script → length (canonical text tokens) ≤ MAX_TEXT → IsUnformatted path text f → ⊥
no_refusal path text f tokens script spells short (IsUnformatted.flawed flaw _ has told) = flaw_spells_none text flaw tokens script has spells
no_refusal path text _ tokens script spells short (IsUnformatted.long others other spelled long) =
    let lexed : ◌≡◌ {A = Result (List Token) LexFault} (Ok others) (Ok tokens) = sym spelled.lexed ∙ spells.lexed in
    let same : others ≡ tokens = cc lexed in
    let size : length (canonical text others) ≡ length (canonical text tokens) = ap (λ ts. length (canonical text ts)) same in
    absurd (omega (arith, size, short, long))

module _ (path : List ℕ) (before after : Log) where
  -- there is a canonical text, or none
  not_both : (printed : List ℕ) (f : AFault) (log rest log' rest' : Log) → HasCanonical path before log printed → HasNoCanonical path before log' f → after ≡ log ++ rest → after ≡ log' ++ rest' → ⊥
  not_both printed _ log rest log' rest' h (HasNoCanonical.missing a) g g' =
      let e : reply.Bytes h.text ≡ reply.Missing =
      same_reply before after path path (reply.Bytes h.text) reply.Missing log log' (record { read = h.read.grown; rest = rest; grown = g }) (record { read = a.grown; rest = rest'; grown = g' }) in
      cc e
  not_both printed f log rest log' rest' h (HasNoCanonical.unformatted text _ a u) g g' =
      let e : reply.Bytes h.text ≡ reply.Bytes text =
      same_reply before after path path (reply.Bytes h.text) (reply.Bytes text) log log' (record { read = h.read.grown; rest = rest; grown = g }) (record { read = a.grown; rest = rest'; grown = g' }) in
      let same : h.text ≡ text = cc e in
      let short : length (canonical h.text h.tokens) ≤ MAX_TEXT = subst (λ t. length t ≤ MAX_TEXT) h.is h.short in
      no_refusal path h.text f h.tokens h.script h.spells short (subst (λ t. IsUnformatted path t f) (sym same) u)
  not_both printed _ log rest log' rest' h (HasNoCanonical.long_path long same) g g' = let short = h.within in absurd (omega (arith, short, long))

  -- what a call found, and how it came out
  pub data Found (o : Outcome) : Type 0 where
    canonical_text : (printed : List ℕ) (log : Log) → HasCanonical path before log printed → Comes (Out printed) (Ended 0) before log after o → Found o
    none : (f : AFault) (log : Log) → HasNoCanonical path before log f → Comes (Tells (message_of f)) Refused before log after o → Found o
    unread : (o ≡ NoMemory) ⊎ ((o ≡ Device) × FaultIsTold before after) → Found o

  found_none : (f : AFault) (log : Log) (o : Outcome) → HasNoCanonical path before log f → (IsClean before log → Comes (Tells (message_of f)) Refused before log after o) → Found o
  found_none f log o lacking comes = Found.none f log lacking (comes (no_canonical_clean path before f log lacking))

  found_file : length path ≤ MAX_TEXT → (o : Outcome) → FormatsFile path before after o → Found o
  found_file within o (FormatsFile.formatted text tokens script log _ a spells short p) =
      let h : HasCanonical path before log (canonical text tokens) = record { within = within; text = text; tokens = tokens; script = script; read = a; spells = spells; is = refl; short = short } in
      Found.canonical_text (canonical text tokens) log h (prints_comes before log (canonical_clean path before (canonical text tokens) log h) (canonical text tokens) after o p)
  found_file within o (FormatsFile.unformatted text f log _ a u t) = found_none f log o (HasNoCanonical.unformatted text f a u) (λ clean. says_comes before log clean (message_of f) Refused after o t)
  found_file within o (FormatsFile.missing log _ a t) = found_none (fault.Missing path) log o (HasNoCanonical.missing a) (λ clean. says_comes before log clean (message_of (fault.Missing path)) Refused after o t)
  found_file within o (FormatsFile.unread log _ a t) = Found.unread (device_comes before before (nothing_yet before) (Read path) log after o a.grown t)
  found_file within _ (FormatsFile.no_room lacked) = Found.unread (inl refl)
  found_file within _ (FormatsFile.no_memory text a) = Found.unread (inl refl)

  pub found : (o : Outcome) → FormatsScript path before after o → Found o
  found o (FormatsScript.of_file within h) = found_file within o h
  found o (FormatsScript.long_path long t) = found_none (fault.TooLong path) before o (HasNoCanonical.long_path long refl) (λ clean. says_comes before before clean (message_of (fault.TooLong path)) Refused after o t)

  shown : (o : Outcome) → Found o → Shown before after o
  shown o (Found.canonical_text printed log h c) = shown_out before after printed log o (canonical_clean path before printed log h) c
  shown o (Found.none f log n c) = shown_tells before after (message_of f) log o (no_canonical_clean path before f log n) c
  shown o (Found.unread h) = shown_device before after o h

  pub format_same : (o other : Outcome) → FormatsScript path before after o → FormatsScript path before after other → Same o other
  format_same o other a b = shown_same before after o other (shown o (found o a)) (shown other (found other b))

  pub format_faults : (o : Outcome) → FormatsScript path before after o → faults before < faults after → (o ≡ Device) ⊎ (o ≡ NoMemory)
  format_faults o h rose = shown_faults before after o (shown o (found o h)) rose

  without_fault : (answer o : Outcome) → (o ≡ NoMemory) ⊎ ((o ≡ Device) × FaultIsTold before after) → faults after ≡ faults before → (o ≡ NoMemory) ⊎ (o ≡ answer)
  without_fault answer o (inl lacked) clean = inl lacked
  without_fault answer o (inr h) clean = absurd (has_risen before after h.1 clean)

  -- a script with a canonical text is formatted
  pub format_completes : (printed : List ℕ) (log rest : Log) → HasCanonical path before log printed → after ≡ log ++ rest → faults after ≡ faults before → (o : Outcome) → FormatsScript path before after o → (o ≡ NoMemory) ⊎ (o ≡ Ended 0)
  format_completes printed log rest h g clean o a = by (found o a)
    where
      by : Found o → (o ≡ NoMemory) ⊎ (o ≡ Ended 0)
      by (Found.canonical_text other log' h' c) = settled_clean (Ended 0) before after o (comes_settled (Out other) (Ended 0) before log' after o (canonical_clean path before other log' h') c) clean
      by (Found.none f log' n (inl lacked)) = inl lacked
      by (Found.none f log' n (inr (inl e))) = absurd (not_both printed f log rest log' _ h n g e.1)
      by (Found.none f log' n (inr (inr e))) = absurd (has_risen before after e.1 clean)
      by (Found.unread e) = without_fault (Ended 0) o e clean

  -- one without is told as that
  pub format_refuses : (f : AFault) (log rest : Log) → HasNoCanonical path before log f → after ≡ log ++ rest → faults after ≡ faults before → (o : Outcome) → FormatsScript path before after o → (o ≡ NoMemory) ⊎ (o ≡ Refused)
  format_refuses f log rest n g clean o a = by (found o a)
    where
      by : Found o → (o ≡ NoMemory) ⊎ (o ≡ Refused)
      by (Found.canonical_text printed log' h (inl lacked)) = inl lacked
      by (Found.canonical_text printed log' h (inr (inl e))) = absurd (not_both printed f log' _ log rest h n e.1 g)
      by (Found.canonical_text printed log' h (inr (inr e))) = absurd (has_risen before after e.1 clean)
      by (Found.none other log' n' c) = settled_clean Refused before after o (comes_settled (Tells (message_of other)) Refused before log' after o (no_canonical_clean path before other log' n') c) clean
      by (Found.unread e) = without_fault Refused o e clean
