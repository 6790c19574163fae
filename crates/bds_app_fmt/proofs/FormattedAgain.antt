-- What was printed is formatted as it is.
use Rattle.std.proofs.Common.{◌≡◌, ◌⊎◌, inl, inr, append-nil, ℕ, ◌≤◌, List, [], ◌∷◌, ◌++◌, length, Result, Ok, Err, refl, ap, sym, ◌∙◌, subst, arith, append_assoc}
use Rattle.std.proofs.lemmas.List.{append_cancel_left}
use Rattle.bds_value.specs.declared.TheConstants.{MAX_TEXT}
use Rattle.bds_host.specs.declared.asks.Ask.{Ask}
use Rattle.bds_host.specs.declared.asks.Ask.TheVariants.{Read, Out, Err as Tells}
use Rattle.bds_host.specs.declared.asks.Reply.{Reply}
use Rattle.bds_host.specs.declared.asks.Reply.TheVariants.{Bytes, Missing, Done, NoRoom, Fault as Faulted}
use Rattle.bds_host.specs.declared.faults.Fault.{Fault}
use Rattle.bds_host.specs.Host.{Log, Answered, FoundNoRoom}
use Rattle.bds_tree.specs.declared.lexing.LexFault.{LexFault}
use Rattle.bds_tree.specs.declared.token.Token.{Token}
use Rattle.bds_tree.specs.ScriptTexts.{Spells, TextFlaw, too_long, no_tokens, no_script, HasFlaw, longer, unlexed, unspelled}
use Rattle.bds_tree.specs.StmtTree.{ScriptTree}
use Rattle.bds_tree.specs.StmtSpelling.{SpellsScript}
use Rattle.bds_fmt.specs.Canonical.{canonical}
use Rattle.bds_fmt.specs.Law.{IsCanonicalOf}
use Rattle.bds_fmt.proofs.Formatted.{canonical_law}
use Rattle.bds_app_run.specs.Telling.{Prints, printed, faulted, no_memory, Says, said, TellsDevice, told_so, untold, TellsFault}
use Rattle.bds_app_run.specs.Telling as telling
use Rattle.bds_app_fmt.specs.Formatting.{IsUnformatted, flawed, long, FormatsFile, formatted, unformatted, missing, unread, no_room, FormatsScript, of_file, long_path}
use Rattle.bds_app_fmt.specs.Formatting as formatting
use Rattle.bds_app_fmt.specs.FormattedAgain.{Gave, GaveCanonical, Formatted, GivesCanonical, PrintsCanonical, PrintsItself}
use Rattle.bds_app_run.specs.declared.outcome.Outcome.{Outcome}
use Rattle.bds_app_run.specs.declared.outcome.Outcome.TheVariants.{Ended, Refused, Device, NoMemory}

-- a text that spells a script has no flaw
no_flaw : (text : List ℕ) (tokens : List Token) (script : ScriptTree) (flaw : TextFlaw) → Spells text tokens script → HasFlaw text flaw → ⊥
no_flaw text tokens script too_long s (longer h) = absurd (omega (arith, s.within))
no_flaw text tokens script (no_tokens f) s (unlexed _ h e) = let k : ◌≡◌ {A = Result (List Token) LexFault} (Ok tokens) (Err f) = sym s.lexed ∙ e in cc
no_flaw text tokens script (no_script line) s (unspelled us _ h l) = let k : ◌≡◌ {A = Result (List Token) LexFault} (Ok tokens) (Ok us) = sym s.lexed ∙ h.lexed in let same : tokens ≡ us = cc in h.none script s.legal (subst (λ (x : List Token). SpellsScript script x) same s.spelled)

-- what each part adds to the log
pub record Grows (before after : Log) : Type 0 where
  pub more : Log
  pub is : after ≡ before ++ more

answered_grows : (before after : Log) (ask : Ask) (reply : Reply) → Answered before after ask reply → Grows before after
answered_grows before after ask reply a = record { more = (ask, reply) ∷ []; is = a.grown }

no_room_grows : (before after : Log) (ask : Ask) → FoundNoRoom before after ask → Grows before after
no_room_grows before after ask (inl e) = record { more = []; is = e ∙ sym (append-nil before) }
no_room_grows before after ask (inr e) = record { more = (ask, NoRoom) ∷ []; is = e }

grows_more : (before log after : Log) → Grows before log → Grows log after → Grows before after
grows_more before log after f g = record { more = f.more ++ g.more; is = g.is ∙ ap (λ (x : Log). x ++ g.more) f.is ∙ append_assoc before f.more g.more }

device_grows : (before after : Log) (answer : Outcome) → TellsDevice before after answer → Grows before after
device_grows before after _ (told_so reply a) = answered_grows before after _ reply a
device_grows before after _ (untold f) = no_room_grows before after _ f

prints_grows : (text : List ℕ) (before after : Log) (answer : Outcome) → Prints text before after answer → Grows before after
prints_grows text before after _ (printed a) = answered_grows before after (Out text) Done a
prints_grows text before after answer (faulted log _ a d) = grows_more before log after (answered_grows before log (Out text) Faulted a) (device_grows log after answer d)
prints_grows text before after _ (no_memory f) = no_room_grows before after (Out text) f

says_grows : (text : List ℕ) (refusal : Outcome) (before after : Log) (answer : Outcome) → Says text refusal before after answer → Grows before after
says_grows text told before after _ (said a) = answered_grows before after (Tells text) Done a
says_grows text told before after answer (telling.Says.faulted log _ a d) = grows_more before log after (answered_grows before log (Tells text) Faulted a) (device_grows log after answer d)
says_grows text told before after _ (telling.Says.no_memory f) = no_room_grows before after (Tells text) f

-- no fault and no refusal ends with a status
device_answers : (before after : Log) (answer : Outcome) → TellsDevice before after answer → (answer ≡ Device) ⊎ (answer ≡ NoMemory)
device_answers before after _ (told_so reply a) = inl refl
device_answers before after _ (untold f) = inr refl

device_not_ended : (before after : Log) (answer : Outcome) (n : ℕ) → TellsDevice before after answer → answer ≡ Ended n → ⊥
device_not_ended before after _ n (told_so reply a) e = cc
device_not_ended before after _ n (untold f) e = cc

device_not_refused : (before after : Log) (answer : Outcome) → TellsDevice before after answer → answer ≡ Refused → ⊥
device_not_refused before after _ (told_so reply a) e = cc
device_not_refused before after _ (untold f) e = cc

says_not_ended : (text : List ℕ) (before after : Log) (answer : Outcome) (n : ℕ) → Says text Refused before after answer → answer ≡ Ended n → ⊥
says_not_ended text before after _ n (said a) e = cc
says_not_ended text before after answer n (telling.Says.faulted log _ a d) e = device_not_ended log after answer n d e
says_not_ended text before after _ n (telling.Says.no_memory f) e = cc

prints_not_refused : (text : List ℕ) (before after : Log) (answer : Outcome) → Prints text before after answer → answer ≡ Refused → ⊥
prints_not_refused text before after _ (printed a) e = cc
prints_not_refused text before after answer (faulted log _ a d) e = device_not_refused log after answer d e
prints_not_refused text before after _ (no_memory f) e = cc

prints_ended : (text : List ℕ) (before after : Log) (answer : Outcome) (n : ℕ) → Prints text before after answer → answer ≡ Ended n → after ≡ before ++ (Out text, Done) ∷ []
prints_ended text before after _ n (printed a) e = a.grown
prints_ended text before after answer n (faulted log _ a d) e = absurd (device_not_ended log after answer n d e)
prints_ended text before after _ n (no_memory f) e = cc

-- what a call that ended printed
record Ended0 (path : List ℕ) (before after : Log) : Type 0 where
  text : List ℕ
  tokens : List Token
  script : ScriptTree
  spells : Spells text tokens script
  short : length (canonical text tokens) ≤ MAX_TEXT
  is : after ≡ before ++ ((Read path, Bytes text) ∷ (Out (canonical text tokens), Done) ∷ [])

ended : (path : List ℕ) (before after : Log) (answer : Outcome) → FormatsFile path before after answer → answer ≡ Ended 0 → Ended0 path before after
ended path before after answer (formatted text tokens script log _ a s short p) e = record {
  text = text;
  tokens = tokens;
  script = script;
  spells = s;
  short = short;
  is = prints_ended (canonical text tokens) log after answer 0 p e ∙ ap (λ (x : Log). x ++ (Out (canonical text tokens), Done) ∷ []) a.grown ∙ append_assoc before ((Read path, Bytes text) ∷ []) ((Out (canonical text tokens), Done) ∷ []);
}
ended path before after answer (unformatted text f log _ a u t) e = absurd (says_not_ended _ log after answer 0 t e)
ended path before after answer (missing log _ a t) e = absurd (says_not_ended _ log after answer 0 t e)
ended path before after answer (unread log _ a t) e = absurd (device_not_ended log after answer 0 t e)
ended path before after _ (no_room f) e = cc
ended path before after _ (formatting.FormatsFile.no_memory text a) e = cc

of_script : (path : List ℕ) (before after : Log) → FormatsScript path before after (Ended 0) → Ended0 path before after
of_script path before after (of_file short f) = ended path before after (Ended 0) f refl
of_script path before after (long_path far t) = absurd (says_not_ended _ before after (Ended 0) 0 t refl)

first_pair : (before : Log) (p q : Ask × Reply) (xs ys : Log) → before ++ (p ∷ xs) ≡ before ++ (q ∷ ys) → (p ≡ q) × (xs ≡ ys)
first_pair before p q xs ys e = let k = append_cancel_left before (p ∷ xs) (q ∷ ys) e in (cc, cc)

bytes_same : (path : List ℕ) (a b : List ℕ) → ◌≡◌ {A = Ask × Reply} (Read path, Bytes a) (Read path, Bytes b) → a ≡ b
bytes_same path a b e = let k = ap (λ (p : Ask × Reply). p.1) e in cc

out_same : (a b : List ℕ) → ◌≡◌ {A = Log} ((Out a, Done) ∷ []) ((Out b, Done) ∷ []) → a ≡ b
out_same a b e = let k : ◌≡◌ {A = Ask × Reply} (Out a, Done) (Out b, Done) = cc in let m = ap (λ (p : Ask × Reply). p.0) k in cc

pub given_canonical : GivesCanonical
given_canonical path before after text given f g =
    let x = of_script path before after f in
    let both = first_pair before (Read path, Bytes x.text) (Read path, Bytes text) ((Out (canonical x.text x.tokens), Done) ∷ []) ((Out given, Done) ∷ []) (sym x.is ∙ g) in
    let t = bytes_same path x.text text both.0 in
    let p = out_same (canonical x.text x.tokens) given both.1 in
    record {
      tokens = x.tokens;
      script = x.script;
      spells = subst (λ (y : List ℕ). Spells y x.tokens x.script) t x.spells;
      is = sym p ∙ ap (λ (y : List ℕ). canonical y x.tokens) t;
      same = subst (IsCanonicalOf x.script) p (canonical_law x.text x.tokens x.script x.spells x.short);
    }

pub prints_canonical : PrintsCanonical
prints_canonical path before after f =
    let x = of_script path before after f in
    record {
      text = x.text;
      printed = canonical x.text x.tokens;
      gave = x.is;
      canonical = given_canonical path before after x.text (canonical x.text x.tokens) f x.is;
    }

-- what the second call read
read_first : (path : List ℕ) (start log finish : Log) (reply : Reply) (given : List ℕ) (rest : Log) → log ≡ start ++ (Read path, reply) ∷ [] → Grows log finish → finish ≡ start ++ ((Read path, Bytes given) ∷ rest) → reply ≡ Bytes given
read_first path start log finish reply given rest e g is =
    let both = first_pair start (Read path, reply) (Read path, Bytes given) g.more rest (sym (g.is ∙ ap (λ (x : Log). x ++ g.more) e ∙ append_assoc start ((Read path, reply) ∷ []) g.more) ∙ is) in
    ap (λ (p : Ask × Reply). p.1) both.0

same_tokens : (text : List ℕ) (ts us : List Token) (s u : ScriptTree) → Spells text ts s → Spells text us u → ts ≡ us
same_tokens text ts us s u a b = let k : ◌≡◌ {A = Result (List Token) LexFault} (Ok ts) (Ok us) = sym a.lexed ∙ b.lexed in cc

formatted_again : (script : ScriptTree) (given : List ℕ) → IsCanonicalOf script given → (f : Fault) (path : List ℕ) → IsUnformatted path given f → ⊥
formatted_again script given x f path (flawed flaw _ h e) = no_flaw given x.tokens x.again flaw x.spells h
formatted_again script given x _ path (long us s sp big) =
    let same = same_tokens given us x.tokens s x.again sp x.spells in
    let fixed = ap (λ (t : List Token). length (canonical given t)) same ∙ ap length x.fixed in
    absurd (omega (arith, x.spells.within, fixed))

bytes_are : (a b : List ℕ) → Bytes a ≡ Bytes b → a ≡ b
bytes_are a b e = cc

-- where the script was read, it isn't refused before that
unread_not_refused : (text next given : List ℕ) (start finish rest : Log) (answer : Outcome) → finish ≡ start ++ ((Read next, Bytes given) ∷ rest) → Says text Refused start finish answer → answer ≡ Refused → ⊥
unread_not_refused text next given start finish rest _ is (said a) e =
    let both = first_pair start (Tells text, Done) (Read next, Bytes given) [] rest (sym a.grown ∙ is) in
    let asks = ap (λ (p : Ask × Reply). p.0) both.0 in cc
unread_not_refused text next given start finish rest answer is (telling.Says.faulted log _ a d) e = device_not_refused log finish answer d e
unread_not_refused text next given start finish rest _ is (telling.Says.no_memory f) e = cc

pub prints_itself : PrintsItself
prints_itself path before after next start finish answer text given f g rest is second = script second
  where
    first : GaveCanonical text given
    first = given_canonical path before after text given f g

    go : (last : Outcome) → FormatsFile next start finish last → ((last ≡ Ended 0) → Gave next given given start finish) × ((last ≡ Refused) → ⊥)
    go last (formatted text2 tokens script log _ a s short p) =
        let t = bytes_are text2 given (read_first next start log finish (Bytes text2) given rest a.grown (prints_grows (canonical text2 tokens) log finish last p) is) in
        let s2 = subst (λ (y : List ℕ). Spells y tokens script) t s in
        let same = same_tokens given tokens first.same.tokens script first.same.again s2 first.same.spells in
        let out : canonical text2 tokens ≡ given = ap (λ (y : List ℕ). canonical y tokens) t ∙ ap (λ (y : List Token). canonical given y) same ∙ first.same.fixed in (
          (λ e. prints_ended (canonical text2 tokens) log finish last 0 p e ∙ ap (λ (x : Log). x ++ (Out (canonical text2 tokens), Done) ∷ []) a.grown ∙ append_assoc start ((Read next, Bytes text2) ∷ []) ((Out (canonical text2 tokens), Done) ∷ [])
              ∙ ap (λ (y : List ℕ). start ++ ((Read next, Bytes y) ∷ (Out (canonical text2 tokens), Done) ∷ [])) t ∙ ap (λ (y : List ℕ). start ++ ((Read next, Bytes given) ∷ (Out y, Done) ∷ [])) out),
          λ e. prints_not_refused (canonical text2 tokens) log finish last p e,
        )
    go last (unformatted text2 fault log _ a u t) =
        let same = bytes_are text2 given (read_first next start log finish (Bytes text2) given rest a.grown (says_grows _ Refused log finish last t) is) in
        absurd (formatted_again first.script given first.same fault next (subst (λ (y : List ℕ). IsUnformatted next y fault) same u))
    go last (missing log _ a t) = let e = read_first next start log finish Missing given rest a.grown (says_grows _ Refused log finish last t) is in cc
    go last (unread log _ a t) = let e = read_first next start log finish Faulted given rest a.grown (device_grows log finish last t) is in cc
    go _ (no_room f) = ((λ e. cc), (λ e. cc))
    go _ (formatting.FormatsFile.no_memory text2 a) = ((λ e. cc), (λ e. cc))

    script : FormatsScript next start finish answer → ((answer ≡ Ended 0) → Gave next given given start finish) × ((answer ≡ Refused) → ⊥)
    script (of_file short second) = go answer second
    script (long_path far t) = ((λ e. absurd (says_not_ended _ start finish answer 0 t e)), λ e. unread_not_refused _ next given start finish rest answer is t e)
