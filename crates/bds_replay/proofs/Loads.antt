-- From bytes to the log whose bytes they are, or to what is wrong with them.
use Rattle.std.proofs.Common.{◌≡◌, ℕ, ◌+◌, ◌<◌, ◌≤◌, List, [], ◌∷◌, ◌++◌, drop, length, Result, Ok, Err, IfOk, refl}
use Rattle.std.proofs.Common.{sym, ap, ◌∙◌, arith, append-nil, length-append}
use Rattle.std.specs.Prelude.{MatchResult}
use Rattle.bds_value.specs.declared.faults.FieldFault.{FieldFault}
use Rattle.bds_value.specs.declared.faults.FieldFault.TheVariants as field
use Rattle.bds_value.specs.declared.value.Input.{Input}
use Rattle.bds_value.specs.Fields.{AreBytes, Stretch}
use Rattle.bds_value.specs.Reading.{Read, Reads, rest_of}
use Rattle.bds_value.proofs.FieldLaws.{ok_parts}
use Rattle.bds_replay.specs.Log.{log_at, log_field}
use Rattle.bds_replay.specs.Loading.{GivesLog, IsExtra, IsLogOf, IsReadTo, Refuses, of_field, unread}
use Rattle.bds_replay.specs.declared.log.Log.{Log}
use Rattle.bds_replay.specs.declared.log.LogFault.{LogFault}
use Rattle.bds_replay.specs.declared.log.LogFault.TheVariants.{Short, BadTag, BadNumber, Extra, NoMemory}
use Rattle.bds_replay.proofs.Whole.{log_is_field}

pub read_stretch : (i j : Input) (r : Result Log FieldFault) → AreBytes i.bytes → Reads (log_at i) j r
    → IfOk r (λ l. Stretch i (log_field l) j)
read_stretch i j (Ok l) bytes e = (log_is_field.spelled i j l bytes e).stretch
read_stretch i j (Err e) bytes h = tt

ends_within : (bytes text : List ℕ) (j : Input) → Stretch (unread bytes) text j → j.at ≤ length bytes
ends_within bytes text j s =
    let at : j.at ≡ 0 + length text = ap (λ (i : Input). i.at) s.moved in
    let size : length bytes ≡ length text + length (rest_of j) = ap length s.stands ∙ length-append text (rest_of j) in
    omega (arith, at, size)

module _ (bytes : List ℕ) (l : Log) (j : Input) (read : log_at (unread bytes) ≡ Ok (l, j))
    (kept : j.bytes ≡ bytes) where
  to_end : log_at (unread bytes) ≡ Ok (l, record { bytes = bytes; at = j.at })
  to_end = read ∙ ap (λ b. Ok (l, record { bytes = b; at = j.at })) kept

  pub extra_read : j.at < length bytes → Refuses bytes (Extra j.at)
  extra_read more = record { l = l; read = to_end; more = more }

  pub whole_read : Stretch (unread bytes) (log_field l) j → length bytes ≤ j.at → IsReadTo bytes (length bytes) l
  whole_read stretch le =
      let within = ends_within bytes (log_field l) j stretch in
      let ends : j.at ≡ length bytes = omega (arith, within, le) in
      to_end ∙ ap (λ n. Ok (l, record { bytes = bytes; at = n })) ends

pub refuses_field : (bytes : List ℕ) (new : Input) (fault : FieldFault) → Reads (log_at (unread bytes)) new (Err fault)
    → Refuses bytes (of_field fault)
refuses_field bytes new (field.Short at) h = h
refuses_field bytes new (field.BadTag at byte) h = h
refuses_field bytes new (field.BadNumber at n) h = h
refuses_field bytes new (field.NotRising at) h = tt
refuses_field bytes new field.NoMemory h = tt

nothing_behind : (bytes : List ℕ) → drop (length bytes) bytes ≡ []
nothing_behind [] = refl
nothing_behind (b ∷ bs) = nothing_behind bs

is_log : (bytes : List ℕ) (l : Log) → AreBytes bytes → IsReadTo bytes (length bytes) l → IsLogOf bytes l
is_log bytes l small r =
    let here = log_is_field.spelled (unread bytes) (record { bytes = bytes; at = length bytes }) l small r in
    record {
      spelled = sym
          (here.stretch.stands ∙ ap (λ t. log_field l ++ t) (nothing_behind bytes) ∙ append-nil (log_field l));
      legal =
          here.legal;
    }

pub loaded : (bytes : List ℕ) (r : Result Log LogFault) → AreBytes bytes
    → MatchResult r (IsReadTo bytes (length bytes)) (Refuses bytes) → MatchResult r (IsLogOf bytes) (Refuses bytes)
loaded bytes (Ok l) small h = is_log bytes l small h
loaded bytes (Err fault) small h = h

read_of : (bytes : List ℕ) (l : Log) → IsLogOf bytes l → IsReadTo bytes (length bytes) l
read_of bytes l h =
    let stands : rest_of (unread bytes) ≡ log_field l ++ [] = sym h.spelled ∙ sym (append-nil (log_field l)) in
    let zero_more : 0 + length (log_field l) ≡ length (log_field l) = omega arith in
    let at : 0 + length (log_field l) ≡ length bytes = zero_more ∙ ap length h.spelled in
    log_is_field.read_back l h.legal (unread bytes) [] stands ∙ ap (λ n. Ok (l, record { bytes = bytes; at = n })) at

module _ (bytes : List ℕ) (l : Log) (h : IsLogOf bytes l) where
  no_field : (fault : FieldFault) → log_at (unread bytes) ≡ Err fault → ⊥
  no_field fault e = let clash : ◌≡◌ {A = Read Log} (Err fault) (Ok (l, record { bytes = bytes; at = length bytes })) =
      sym e ∙ read_of bytes l h in absurd (cc)

  no_extra : (at : ℕ) → IsExtra bytes at → ⊥
  no_extra at x =
      let both =
      ok_parts x.l l (record { bytes = bytes; at = at }) (record { bytes = bytes; at = length bytes })
      (sym x.read ∙ read_of bytes l h) in
      let ends : at ≡ length bytes = ap (λ (i : Input). i.at) both.1 in
      let more = x.more in
      omega (arith, ends, more)

  no_refusal : (fault : LogFault) → Refuses bytes fault → GivesLog l (Err fault)
  no_refusal (Short at) r = no_field (field.Short at) r
  no_refusal (BadTag at byte) r = no_field (field.BadTag at byte) r
  no_refusal (BadNumber at n) r = no_field (field.BadNumber at n) r
  no_refusal (Extra at) r = no_extra at r
  no_refusal NoMemory r = tt

  pub gives : (r : Result Log LogFault) → MatchResult r (IsReadTo bytes (length bytes)) (Refuses bytes) → GivesLog l r
  gives (Ok m) read =
      (ok_parts m l (record { bytes = bytes; at = length bytes }) (record { bytes = bytes; at = length bytes })
      (sym read ∙ read_of bytes l h)).0
  gives (Err fault) refuses = no_refusal fault refuses
