-- What the reading of a script's tokens comes to, as the command tells it.
use Rattle.std.proofs.Common.{◌≡◌, ◌≤◌, ◌<◌, ◌⊎◌, inl, inr, ℕ, List, length, Some, refl, sym, subst}
use Rattle.std.proofs.lemmas.Bool.{cases_lt}
use Rattle.bds_value.specs.declared.TheConstants.{MAX_TEXT}
use Rattle.bds_host.specs.declared.faults.Fault.{Fault}
use Rattle.bds_host.specs.declared.faults.Fault.TheVariants as fault
use Rattle.bds_host.specs.Host.{Log}
use Rattle.bds_host.specs.Message.{message_of}
use Rattle.bds_fmt.specs.Canonical.{canonical}
use Rattle.bds_app_run.specs.Begun.{told}
use Rattle.bds_front.specs.OneFile.{FailsText, HasTokens, IsUnread, LacksTokens, WasAsked}
use Rattle.bds_front.specs.declared.front_fault.FrontFault.{FrontFault}
use Rattle.bds_front.specs.declared.front_fault.FrontFault.TheVariants as front
use Rattle.bds_front.specs.declared.one_file.Lexed.{Lexed}
use Rattle.bds_app_run.specs.Telling.{Prints, Says, TellsDevice, TellsFault}
use Rattle.bds_app_run.specs.declared.outcome.Outcome.{Outcome}
use Rattle.bds_app_run.specs.declared.outcome.Outcome.TheVariants.{Refused, NoMemory}
use Rattle.bds_app_fmt.specs.Formatting.{IsUnformatted, FormatsFile, FormatsScript}

module _ (path : List ℕ) (before log after : Log) where
  -- a script without tokens

  told_as : (f g : Fault) (o : Outcome) → Some f ≡ Some g → TellsFault g Refused log after o → TellsFault f Refused log after o
  told_as f g o is t = let same : f ≡ g = cc is in subst (λ (x : Fault). Says (message_of x) Refused log after o) (sym same) t

  unread_told : (f : FrontFault) (g : Fault) (o : Outcome) → IsUnread path before log f → told f ≡ Some g → TellsFault g Refused log after o → FormatsScript path before after o
  unread_told _ g o (IsUnread.long_path far same) is t =
      FormatsScript.long_path far (subst (λ (x : Log). Says (message_of (fault.TooLong path)) Refused x after o) same (told_as (fault.TooLong path) g o is t))
  unread_told _ g o (IsUnread.missing short a) is t = FormatsScript.of_file short (FormatsFile.missing log o a (told_as (fault.Missing path) g o is t))
  unread_told _ g o (IsUnread.device short a) is t = let no = is in absurd (cc no)
  unread_told _ g o (IsUnread.no_room short more) is t = let no = is in absurd (cc no)
  unread_told _ g o (IsUnread.no_memory same) is t = let no = is in absurd (cc no)

  flaw_told : (text : List ℕ) (f : FrontFault) (g : Fault) → FailsText path text f → told f ≡ Some g → IsUnformatted path text g
  flaw_told text _ g (FailsText.long flaw) is = IsUnformatted.flawed _ g flaw is
  flaw_told text _ g (FailsText.unlexed f flaw some) is = IsUnformatted.flawed _ g flaw is
  flaw_told text _ g (FailsText.unspelled line flaw) is = IsUnformatted.flawed _ g flaw is
  flaw_told text _ g FailsText.no_memory is = let no = is in absurd (cc no)

  pub lacks_told : (f : FrontFault) (g : Fault) (o : Outcome) → LacksTokens path before log f → told f ≡ Some g → TellsFault g Refused log after o → FormatsScript path before after o
  lacks_told f g o (LacksTokens.unread u) is t = unread_told f g o u is t
  lacks_told f g o (LacksTokens.failed text w h) is t = FormatsScript.of_file w.short (FormatsFile.unformatted text g log o w.answered (flaw_told text f g h is) t)

  unread_faulted : (f : FrontFault) (o : Outcome) → f ≡ front.Device → IsUnread path before log f → TellsDevice log after o → FormatsScript path before after o
  unread_faulted _ o e (IsUnread.long_path far same) t = absurd (cc e)
  unread_faulted _ o e (IsUnread.missing short a) t = absurd (cc e)
  unread_faulted _ o e (IsUnread.device short a) t = FormatsScript.of_file short (FormatsFile.unread log o a t)
  unread_faulted _ o e (IsUnread.no_room short more) t = absurd (cc e)
  unread_faulted _ o e (IsUnread.no_memory same) t = absurd (cc e)

  no_device : (text : List ℕ) (f : FrontFault) → f ≡ front.Device → FailsText path text f → ⊥
  no_device text _ e (FailsText.long flaw) = cc e
  no_device text _ e (FailsText.unlexed f flaw some) = cc e
  no_device text _ e (FailsText.unspelled line flaw) = cc e
  no_device text _ e FailsText.no_memory = cc e

  pub lacks_faulted : (f : FrontFault) (o : Outcome) → f ≡ front.Device → LacksTokens path before log f → TellsDevice log after o → FormatsScript path before after o
  lacks_faulted f o e (LacksTokens.unread u) t = unread_faulted f o e u t
  lacks_faulted f o e (LacksTokens.failed text w h) t = absurd (no_device text f e h)

  -- a script with tokens

  pub tokens_printed : (lexed : Lexed) (given : List ℕ) (o : Outcome) → HasTokens path lexed before log → (given ≡ canonical lexed.text lexed.tokens) × (length (canonical lexed.text lexed.tokens) ≤ MAX_TEXT) → Prints given log after o → FormatsScript path before after o
  tokens_printed lexed given o h is p =
      FormatsScript.of_file h.asked.short
      (FormatsFile.formatted lexed.text lexed.tokens h.script log o h.asked.answered h.spelled is.1 (subst (λ (x : List ℕ). Prints x log after o) is.0 p))

  pub tokens_long : (lexed : Lexed) (o : Outcome) → HasTokens path lexed before log → MAX_TEXT < length (canonical lexed.text lexed.tokens) → TellsFault (fault.TooLong path) Refused log after o → FormatsScript path before after o
  tokens_long lexed o h far t =
      FormatsScript.of_file h.asked.short (FormatsFile.unformatted lexed.text (fault.TooLong path) log o h.asked.answered (IsUnformatted.long lexed.tokens h.script h.spelled far) t)

-- want of memory behind the read, or before it

nothing_done : (path : List ℕ) (before after : Log) → after ≡ before → FormatsScript path before after NoMemory
nothing_done path before after same = by (cases_lt MAX_TEXT (length path))
  where
    by : (MAX_TEXT < length path) ⊎ (length path ≤ MAX_TEXT) → FormatsScript path before after NoMemory
    by (inl far) = FormatsScript.long_path far (Says.no_memory (inl same))
    by (inr short) = FormatsScript.of_file short (FormatsFile.no_room (inl same))

pub tokens_lost : (path : List ℕ) (before after : Log) (lexed : Lexed) → HasTokens path lexed before after → FormatsScript path before after NoMemory
tokens_lost path before after lexed h = FormatsScript.of_file h.asked.short (FormatsFile.no_memory lexed.text h.asked.answered)

unread_lost : (path : List ℕ) (before after : Log) (f : FrontFault) → IsUnread path before after f → FormatsScript path before after NoMemory
unread_lost path before after _ (IsUnread.long_path far same) = nothing_done path before after same
unread_lost path before after _ (IsUnread.missing short a) = FormatsScript.of_file short (FormatsFile.missing after NoMemory a (Says.no_memory (inl refl)))
unread_lost path before after _ (IsUnread.device short a) = FormatsScript.of_file short (FormatsFile.unread after NoMemory a (TellsDevice.untold (inl refl)))
unread_lost path before after _ (IsUnread.no_room short more) = FormatsScript.of_file short (FormatsFile.no_room (inr more))
unread_lost path before after _ (IsUnread.no_memory same) = nothing_done path before after same

pub lacks_lost : (path : List ℕ) (before after : Log) (f : FrontFault) → LacksTokens path before after f → FormatsScript path before after NoMemory
lacks_lost path before after f (LacksTokens.unread u) = unread_lost path before after f u
lacks_lost path before after f (LacksTokens.failed text w h) = FormatsScript.of_file w.short (FormatsFile.no_memory text w.answered)
