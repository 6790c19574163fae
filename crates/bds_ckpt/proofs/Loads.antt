-- From bytes to the state that they are those of, or to what is wrong with them.
use Rattle.std.proofs.Common.{◌≡◌, ◌≢◌, ℕ, ◌+◌, ◌<◌, ◌≤◌, ◌⊎◌, inl, inr, List, [], ◌∷◌, ◌++◌, drop, take, length, Result, Ok, Err, IfOk, refl, sym, ap, subst, ◌∙◌, arith, append-nil, append_assoc, length-append}
use Rattle.std.specs.Prelude.{MatchResult}
use Rattle.std.proofs.Math.Seq.{take-append_seam}
use Rattle.sha2.specs.Sha256.{sha256}
use Rattle.sha2.proofs.Facts256.{length-sha256}
use Rattle.bds_value.specs.declared.faults.FieldFault.{FieldFault}
use Rattle.bds_value.specs.declared.faults.FieldFault.TheVariants as field
use Rattle.bds_value.specs.declared.value.Input.{Input}
use Rattle.bds_value.specs.Fields.{AreBytes, ReadsSpelled, Stretch}
use Rattle.bds_value.specs.Reading.{Read, Reader, Reads, rest_of}
use Rattle.bds_value.proofs.FieldLaws.{ok_parts}
use Rattle.bds_verify.specs.declared.places.Kind.{Kind}
use Rattle.bds_verify.specs.declared.units.VerifyFault.{VerifyFault}
use Rattle.bds_verify.specs.declared.units.VerifyFault.TheVariants as unit
use Rattle.bds_verify.specs.Pass.{VerifiesUnit, IsUnitFault}
use Rattle.bds_verify.specs.Verified.{VerifiedUnit}
use Rattle.bds_verify.proofs.Accepts.{not_verified}
use Rattle.bds_state.specs.declared.judge.StateFault.{StateFault}
use Rattle.bds_state.specs.declared.judge.StateFault.TheVariants as state
use Rattle.bds_state.specs.Fits.{AreFields, NumbersFit}
use Rattle.bds_state.specs.Judged.{IsStateFault}
use Rattle.bds_state.specs.Parts.{Parts}
use Rattle.bds_state.specs.StateSpelling.{mark, fields, spells1, front2, spells2}
use Rattle.bds_state.specs.Valid.{IsValid}
use Rattle.bds_ckpt.specs.declared.version.Version.{Version}
use Rattle.bds_ckpt.specs.declared.version.Version.TheVariants.{First, Second}
use Rattle.bds_ckpt.specs.declared.fault.LoadFault.{LoadFault}
use Rattle.bds_ckpt.specs.declared.fault.LoadFault.TheVariants.{Short, BadTag, BadNumber, NotRising, Extra, BadSum, Unverified, BadThread, BadFrame, BadTask, BadRule, NoMemory}
use Rattle.bds_ckpt.specs.Faults.{of_field, of_unit, of_state}
use Rattle.bds_ckpt.specs.FileReading.{number_of, sum_size, FileParts, file_at, spell_file, unread}
use Rattle.bds_ckpt.specs.Loading.{Loadable, AreFieldParts, IsFieldFile, IsInvalid, IsWrong, IsReadTo, IsSummed, IsBadSum, AreWrong, IsExtra, Refuses, GivesState}
use Rattle.bds_ckpt.proofs.FileLaws.{file_is_field}

-- what was read of bytes stands there
pub read_stretch : {X : Type 0} (reader : Reader X) (spell : X → List ℕ) (Legal : X → Type 0) → ReadsSpelled reader spell Legal
    → (i j : Input) (r : Result X FieldFault) → AreBytes i.bytes → Reads (reader i) j r → IfOk r (λ x. Stretch i (spell x) j)
read_stretch reader spell Legal spelled i j (Ok x) bytes e = (spelled i j x bytes e).stretch
read_stretch reader spell Legal spelled i j (Err e) bytes h = tt

-- what is spelled from the first byte on ends within the bytes
pub ends_within : (bytes text : List ℕ) (j : Input) → Stretch (unread bytes) text j → j.at ≤ length bytes
ends_within bytes text j s =
    let at : j.at ≡ 0 + length text = ap (λ (i : Input). i.at) s.moved in
    let size : length bytes ≡ length text + length (rest_of j) = ap length s.stands ∙ length-append text (rest_of j) in
    omega (arith, at, size)

-- where reading ends: with bytes behind, or at the end
module _ (bytes : List ℕ) (f : FileParts) (j : Input) (read : file_at (unread bytes) ≡ Ok (f, j)) (kept : j.bytes ≡ bytes) where
  to_end : file_at (unread bytes) ≡ Ok (f, record { bytes = bytes; at = j.at })
  to_end = read ∙ ap (λ b. Ok (f, record { bytes = b; at = j.at })) kept

  pub extra_read : j.at < length bytes → Refuses bytes (Extra j.at)
  extra_read more = record { f = f; read = to_end; more = more }

  pub whole_read : Stretch (unread bytes) (spell_file f) j → length bytes ≤ j.at → IsReadTo bytes (length bytes) f
  whole_read stretch le =
      let within = ends_within bytes (spell_file f) j stretch in
      let ends : j.at ≡ length bytes = omega (arith, within, le) in
      to_end ∙ ap (λ n. Ok (f, record { bytes = bytes; at = n })) ends

-- a fault of a field
pub refuses_field : (bytes : List ℕ) (new : Input) (fault : FieldFault) → Reads (file_at (unread bytes)) new (Err fault) → Refuses bytes (of_field fault)
refuses_field bytes new (field.Short at) h = h
refuses_field bytes new (field.BadTag at byte) h = h
refuses_field bytes new (field.BadNumber at n) h = h
refuses_field bytes new (field.NotRising at) h = h
refuses_field bytes new field.NoMemory h = tt

pub wrong_unit : (s : Parts) (fault : VerifyFault) → VerifiesUnit s.unit (Err fault) → IsWrong s (of_unit fault)
wrong_unit s (unit.Bad function at kind) h = (kind, h)
wrong_unit s unit.NoMemory h = tt

pub wrong_state : (s : Parts) (fault : StateFault) → VerifiedUnit s.unit → IsStateFault s fault → IsWrong s (of_state fault)
wrong_state s (state.BadThread n) v h = (v, h)
wrong_state s (state.BadFrame n i) v h = (v, h)
wrong_state s (state.BadTask n) v h = (v, h)
wrong_state s (state.BadRule n) v h = (v, h)
wrong_state s state.NoMemory v h = tt

-- what is wrong with parts is wrong with the bytes of which they were read
refuses_wrong : (bytes : List ℕ) (f : FileParts) (fault : LoadFault) → IsReadTo bytes (length bytes) f → IsSummed bytes f → IsWrong f.parts fault → Refuses bytes fault
refuses_wrong bytes f (Unverified function at) r s h = record { f = f; read = r; summed = s; wrong = h }
refuses_wrong bytes f (BadThread n) r s h = record { f = f; read = r; summed = s; wrong = h }
refuses_wrong bytes f (BadFrame n i) r s h = record { f = f; read = r; summed = s; wrong = h }
refuses_wrong bytes f (BadTask n) r s h = record { f = f; read = r; summed = s; wrong = h }
refuses_wrong bytes f (BadRule n) r s h = record { f = f; read = r; summed = s; wrong = h }
refuses_wrong bytes f NoMemory r s h = tt
refuses_wrong bytes f (Short at) r s h = absurd h
refuses_wrong bytes f (BadTag at byte) r s h = absurd h
refuses_wrong bytes f (BadNumber at n) r s h = absurd h
refuses_wrong bytes f (NotRising at) r s h = absurd h
refuses_wrong bytes f (Extra at) r s h = absurd h
refuses_wrong bytes f (BadSum at) r s h = absurd h

nothing_behind : (bytes : List ℕ) → drop (length bytes) bytes ≡ []
nothing_behind [] = refl
nothing_behind (b ∷ bs) = nothing_behind bs

-- all bytes that were read are the spelling
spelled_whole : (bytes : List ℕ) (f : FileParts) → AreBytes bytes → IsReadTo bytes (length bytes) f → IsFieldFile f × (spell_file f ≡ bytes)
spelled_whole bytes f small r =
    let here = file_is_field.spelled (unread bytes) (record { bytes = bytes; at = length bytes }) f small r in
    (here.legal, sym (here.stretch.stands ∙ ap (λ l. spell_file f ++ l) (nothing_behind bytes) ∙ append-nil (spell_file f)))

-- the place where a trailer begins cuts the file into the two
cut : (bytes front sum : List ℕ) (at : ℕ) → front ++ sum ≡ bytes → length sum ≡ 32 → at + 32 ≡ length bytes → take at bytes ≡ front
cut bytes front sum at e size place =
    let all : length bytes ≡ length front + length sum = ap length (sym e) ∙ length-append front sum in
    let here : at ≡ length front = omega (arith, all, size, place) in
    ap (take at) (sym e) ∙ ap (λ n. take n (front ++ sum)) here ∙ take-append_seam front sum

no_bytes : (t : List ℕ) → length t ≡ 0 → t ≡ []
no_bytes [] e = refl
no_bytes (b ∷ bs) e = absurd (omega (arith, e))

-- a file of the second version has room for its trailer
pub has_trailer : (bytes : List ℕ) (f : FileParts) → AreBytes bytes → IsReadTo bytes (length bytes) f → f.version ≡ Second → 32 ≤ length bytes
has_trailer bytes f small r e =
    let h = spelled_whole bytes f small r in
    let size : length f.sum ≡ 32 = h.0.1 ∙ ap sum_size e in
    let whole : (mark (number_of f.version) ++ fields f.parts) ++ f.sum ≡ bytes = append_assoc (mark (number_of f.version)) (fields f.parts) f.sum ∙ h.1 in
    let all : length bytes ≡ length (mark (number_of f.version) ++ fields f.parts) + length f.sum = ap length (sym whole) ∙ length-append (mark (number_of f.version) ++ fields f.parts) f.sum in
    omega (arith, all, size)

-- in the first version there is nothing to sum
pub first_summed : (bytes : List ℕ) (f : FileParts) → f.version ≡ First → IsSummed bytes f
first_summed bytes f e at v place = let clash : First ≡ Second = sym e ∙ v in absurd (cc)

pub good_sum : (bytes : List ℕ) (f : FileParts) (n : ℕ) → n + 32 ≡ length bytes → sha256 (take n bytes) ≡ f.sum → IsSummed bytes f
good_sum bytes f n here e at v place =
    let same : n ≡ at = omega (arith, here, place) in
    sym e ∙ ap (λ m. sha256 (take m bytes)) same

-- what is read whole, with its trailer, is loadable where it is valid
loadable : (bytes : List ℕ) (f : FileParts) (s : Parts) → s ≡ f.parts → AreBytes bytes → IsReadTo bytes (length bytes) f → IsSummed bytes f → NumbersFit f.parts → IsValid s → Loadable bytes s
loadable bytes f s is small read summed fit valid =
    let h = spelled_whole bytes f small read in
    record { spelled = subst (λ (p : Parts). (spells1 p ≡ bytes) ⊎ (spells2 p ≡ bytes)) (sym is) (go f.version refl h.0.1 h.1); valid = valid; fits = subst NumbersFit (sym is) fit }
  where
    go : (v : Version) → f.version ≡ v → length f.sum ≡ sum_size f.version → spell_file f ≡ bytes → (spells1 f.parts ≡ bytes) ⊎ (spells2 f.parts ≡ bytes)
    go First e size spelled =
        let none : f.sum ≡ [] = no_bytes f.sum (size ∙ ap sum_size e) in
        inl (sym (ap (λ l. mark 1 ++ l) (ap (λ t. fields f.parts ++ t) none ∙ append-nil (fields f.parts))) ∙ sym (ap (λ v. mark (number_of v) ++ (fields f.parts ++ f.sum)) e) ∙ spelled)
    go Second e size spelled =
        let whole : front2 f.parts ++ f.sum ≡ bytes = append_assoc (mark 2) (fields f.parts) f.sum ∙ sym (ap (λ v. mark (number_of v) ++ (fields f.parts ++ f.sum)) e) ∙ spelled in
        let long : length f.sum ≡ 32 = size ∙ ap sum_size e in
        let all : length bytes ≡ length (front2 f.parts) + length f.sum = ap length (sym whole) ∙ length-append (front2 f.parts) f.sum in
        let at = length (front2 f.parts) in
        let place : at + 32 ≡ length bytes = omega (arith, all, long) in
        let right : f.sum ≡ sha256 (front2 f.parts) = summed at e place ∙ ap sha256 (cut bytes (front2 f.parts) f.sum at whole long place) in
        inr (ap (λ t. front2 f.parts ++ t) (sym right) ∙ whole)

-- what a judge says of the parts that all bytes are read as
pub judged : (bytes : List ℕ) (f : FileParts) (r : Result Parts LoadFault) → AreBytes bytes → IsReadTo bytes (length bytes) f → IsSummed bytes f → AreFieldParts f.parts
    → MatchResult r (λ t. (t ≡ f.parts) × IsValid t) (IsWrong f.parts) → MatchResult r (Loadable bytes) (Refuses bytes)
judged bytes f (Ok t) small read summed field (is, valid) = loadable bytes f t is small read summed field.1 valid
judged bytes f (Err fault) small read summed field h = refuses_wrong bytes f fault read summed h

-- what is known of valid states
module _ (written : (s : Parts) → IsValid s → NumbersFit s → AreFields s) where
  legal_of : (bytes : List ℕ) (s : Parts) → Loadable bytes s → AreFieldParts s
  legal_of bytes s h = (written s h.valid h.fits, h.fits)

  -- how a loadable file is read
  pub record IsReadWhole (bytes : List ℕ) (s : Parts) : Type 0 where
    pub f : FileParts
    pub parts : f.parts ≡ s
    pub legal : IsFieldFile f
    pub spelled : spell_file f ≡ bytes
    pub read : IsReadTo bytes (length bytes) f
    pub summed : IsSummed bytes f

  read_spelled : (bytes : List ℕ) (f : FileParts) → IsFieldFile f → spell_file f ≡ bytes → IsReadTo bytes (length bytes) f
  read_spelled bytes f legal e =
      let stands : rest_of (unread bytes) ≡ spell_file f ++ [] = sym e ∙ sym (append-nil (spell_file f)) in
      let size : 0 + length (spell_file f) ≡ length bytes = let q : 0 + length (spell_file f) ≡ length (spell_file f) = omega arith in q ∙ ap length e in
      file_is_field.read_back f legal (unread bytes) [] stands ∙ ap (λ n. Ok (f, record { bytes = bytes; at = n })) size

  -- the bytes of a state are read as it, up to their end
  read_of : (bytes : List ℕ) (s : Parts) → Loadable bytes s → IsReadWhole bytes s
  read_of bytes s h = go h.spelled
    where
      go : (spells1 s ≡ bytes) ⊎ (spells2 s ≡ bytes) → IsReadWhole bytes s
      go (inl e) =
          let f : FileParts = record { version = First; parts = s; sum = [] } in
          let legal : IsFieldFile f = (legal_of bytes s h, refl) in
          let spelled : spell_file f ≡ bytes = ap (λ l. mark 1 ++ l) (append-nil (fields s)) ∙ e in
          record {
            f = f;
            parts = refl;
            legal = legal;
            spelled = spelled;
            read = read_spelled bytes f legal spelled;
            summed = first_summed bytes f refl;
          }
      go (inr e) =
          let f : FileParts = record { version = Second; parts = s; sum = sha256 (front2 s) } in
          let legal : IsFieldFile f = (legal_of bytes s h, length-sha256 (front2 s)) in
          let spelled : spell_file f ≡ bytes = sym (append_assoc (mark 2) (fields s) (sha256 (front2 s))) ∙ e in
          record {
            f = f;
            parts = refl;
            legal = legal;
            spelled = spelled;
            read = read_spelled bytes f legal spelled;
            summed = λ at v place. sym (ap sha256 (cut bytes (front2 s) (sha256 (front2 s)) at e (length-sha256 (front2 s)) place));
          }

  same_read : (bytes : List ℕ) (f g : FileParts) (a b : ℕ) → IsReadTo bytes a f → IsReadTo bytes b g → (f ≡ g) × (a ≡ b)
  same_read bytes f g a b rf rg =
      let both = ok_parts f g (record { bytes = bytes; at = a }) (record { bytes = bytes; at = b }) (sym rf ∙ rg) in
      (both.0, ap (λ (i : Input). i.at) both.1)

  -- no bytes are those of two states, in whichever versions
  pub one_state : (bytes : List ℕ) (a b : Parts) → Loadable bytes a → Loadable bytes b → a ≡ b
  one_state bytes a b ha hb =
      let ra = read_of bytes a ha in
      let rb = read_of bytes b hb in
      sym ra.parts ∙ ap (λ (f : FileParts). f.parts) (same_read bytes ra.f rb.f (length bytes) (length bytes) ra.read rb.read).0 ∙ rb.parts

  -- no file of a state is the beginning of another
  pub uncut : (bytes more : List ℕ) (a b : Parts) → Loadable bytes a → Loadable (bytes ++ more) b → more ≡ []
  uncut bytes more a b ha hb =
      let ra = read_of bytes a ha in
      let rb = read_of (bytes ++ more) b hb in
      let stands : rest_of (unread (bytes ++ more)) ≡ spell_file ra.f ++ more = ap (λ l. l ++ more) (sym ra.spelled) in
      let begun = file_is_field.read_back ra.f ra.legal (unread (bytes ++ more)) more stands in
      let whole = length (bytes ++ more) in
      let ends : 0 + length (spell_file ra.f) ≡ whole = (same_read (bytes ++ more) ra.f rb.f (0 + length (spell_file ra.f)) whole begun rb.read).1 in
      let here : length (spell_file ra.f) ≡ length bytes = ap length ra.spelled in
      let all : whole ≡ length bytes + length more = length-append bytes more in
      no_bytes more (omega (arith, ends, here, all))

  module _ (real : (s : Parts) (fault : StateFault) → IsStateFault s fault → fault ≢ state.NoMemory → IsValid s → ⊥) (bytes : List ℕ) (s : Parts) (h : Loadable bytes s) where
    no_field : (w : IsReadWhole bytes s) (fault : FieldFault) → file_at (unread bytes) ≡ Err fault → ⊥
    no_field w fault e =
        let clash : ◌≡◌ {A = Read FileParts} (Err fault) (Ok (w.f, record { bytes = bytes; at = length bytes })) = sym e ∙ w.read in absurd (cc)

    no_extra : (w : IsReadWhole bytes s) (at : ℕ) → IsExtra bytes at → ⊥
    no_extra w at x =
        let ends = (same_read bytes x.f w.f at (length bytes) x.read w.read).1 in
        let more = x.more in
        omega (arith, ends, more)

    no_sum : (w : IsReadWhole bytes s) (at : ℕ) → IsBadSum bytes at → ⊥
    no_sum w at x =
        let same = (same_read bytes x.f w.f (length bytes) (length bytes) x.read w.read).0 in
        x.bad (ap (λ (f : FileParts). f.sum) same ∙ w.summed at (sym (ap (λ (f : FileParts). f.version) same) ∙ x.second) x.place)

    no_unit : (t : Parts) (function at : ℕ) (kind : Kind) → t ≡ s → IsUnitFault t.unit function at kind → ⊥
    no_unit t function at kind e w = not_verified t.unit (unit.Bad function at kind) w (subst (λ (x : Parts). VerifiedUnit x.unit) (sym e) h.valid.unit)

    no_wrong : (t : Parts) (fault : StateFault) → t ≡ s → fault ≢ state.NoMemory → IsInvalid t fault → ⊥
    no_wrong t fault e named w = real t fault w.1 named (subst IsValid (sym e) h.valid)

    same : (w : IsReadWhole bytes s) (fault : LoadFault) (x : AreWrong bytes fault) → x.f.parts ≡ s
    same w fault x = ap (λ (f : FileParts). f.parts) (same_read bytes x.f w.f (length bytes) (length bytes) x.read w.read).0 ∙ w.parts

    no_refusal : IsReadWhole bytes s → (fault : LoadFault) → Refuses bytes fault → GivesState s (Err fault)
    no_refusal w (Short at) r = no_field w (field.Short at) r
    no_refusal w (BadTag at byte) r = no_field w (field.BadTag at byte) r
    no_refusal w (BadNumber at n) r = no_field w (field.BadNumber at n) r
    no_refusal w (NotRising at) r = no_field w (field.NotRising at) r
    no_refusal w (Extra at) r = no_extra w at r
    no_refusal w (BadSum at) r = no_sum w at r
    no_refusal w (Unverified function at) r = no_unit r.f.parts function at r.wrong.0 (same w (Unverified function at) r) r.wrong.1
    no_refusal w (BadThread n) r = no_wrong r.f.parts (state.BadThread n) (same w (BadThread n) r) (λ e. absurd (cc)) r.wrong
    no_refusal w (BadFrame n i) r = no_wrong r.f.parts (state.BadFrame n i) (same w (BadFrame n i) r) (λ e. absurd (cc)) r.wrong
    no_refusal w (BadTask n) r = no_wrong r.f.parts (state.BadTask n) (same w (BadTask n) r) (λ e. absurd (cc)) r.wrong
    no_refusal w (BadRule n) r = no_wrong r.f.parts (state.BadRule n) (same w (BadRule n) r) (λ e. absurd (cc)) r.wrong
    no_refusal w NoMemory r = tt

    pub gives : (r : Result Parts LoadFault) → MatchResult r (Loadable bytes) (Refuses bytes) → GivesState s r
    gives (Ok t) loads = one_state bytes t s loads h
    gives (Err fault) refuses = no_refusal (read_of bytes s h) fault refuses
