-- A file is read back in both versions, and what is read is spelled so.
use Rattle.std.proofs.Common.{◌≡◌, ℕ, zero, suc, List, [], ◌∷◌, ◌++◌, length, Ok, refl, subst}
use Rattle.std.specs.Bool.{⊤}
use Rattle.bds_value.specs.declared.value.Input.{Input}
use Rattle.bds_value.specs.Fields.{AreBytes, Back, IsField, Spelled, Stretch}
use Rattle.bds_value.specs.Reading.{◌>>=◌, Reader, byte_at, bytes_at}
use Rattle.bds_value.proofs.FieldLaws.{bind_ok, byte_back, bytes_back, bytes_spelled, ok_parts}
use Rattle.bds_value.proofs.NumberLaws.{u8_is_field}
use Rattle.bds_value.proofs.RestLaws.{IsRest, rest_field, rest_last, rest_then, same_field}
use Rattle.bds_state.specs.Parts.{Parts}
use Rattle.bds_state.specs.StateSpelling.{letters, mark, fields}
use Rattle.bds_ckpt.specs.declared.version.Version.{Version}
use Rattle.bds_ckpt.specs.declared.version.Version.TheVariants.{First, Second}
use Rattle.bds_ckpt.specs.FileReading.{bytes_are, number_of, version_of, version_byte_at, version_at, fields_at, sum_size, sum_at, FileParts, file_at, spell_file}
use Rattle.bds_ckpt.specs.Loading.{AreFieldParts, IsFieldFile}
use Rattle.bds_ckpt.proofs.StateFieldLaws.{bytes_are_field, fields_are_field}

abbrev Nothing : Type 0
Nothing = Unit {0}

-- the version

abbrev version_byte : Version → List ℕ
version_byte v = number_of v ∷ []

version_back : (v : Version) → Back version_byte_at (version_byte v) v
version_back First i rest e = rw (byte_back 1 i rest e) refl
version_back Second i rest e = rw (byte_back 2 i rest e) refl

by_tag : (i k j : Input) (tag : ℕ) (v : Version) → Stretch i (tag ∷ []) k → version_of i.at tag k ≡ Ok (v, j) → Spelled version_byte (λ v. ⊤) i v j
by_tag i k j zero v s e = absurd (cc)
by_tag i k j (suc zero) v s e = let p = ok_parts First v k j e in record { legal = tt; stretch = subst (λ (w : Version). Stretch i (version_byte w) j) p.0 (subst (λ m. Stretch i (1 ∷ []) m) p.1 s) }
by_tag i k j (suc (suc zero)) v s e = let p = ok_parts Second v k j e in record { legal = tt; stretch = subst (λ (w : Version). Stretch i (version_byte w) j) p.0 (subst (λ m. Stretch i (2 ∷ []) m) p.1 s) }
by_tag i k j (suc (suc (suc n))) v s e = absurd (cc)

version_byte_is_field : IsField version_byte_at version_byte (λ v. ⊤)
version_byte_is_field = record { read_back = λ v legal. version_back v; spelled = spelled }
  where
    spelled : (i j : Input) (v : Version) → AreBytes i.bytes → version_byte_at i ≡ Ok (v, j) → Spelled version_byte (λ v. ⊤) i v j
    spelled i j v bytes e =
        let found = bind_ok (byte_at i) (λ (x : ℕ × Input). version_of i.at x.0 x.1) (v, j) e in
        let here = u8_is_field.spelled i found.0.1 found.0.0 bytes found.1.0 in
        by_tag i found.0.1 j found.0.0 v here.stretch found.1.1

abbrev Lettered : Type 0
Lettered = Nothing × Nothing

version_is_field : IsField version_at (λ v. mark (number_of v)) (λ v. ⊤)
version_is_field =
    same_field version_at (λ v. letters ++ version_byte v) (λ v. mark (number_of v)) (λ v. ⊤ × ⊤) (λ v. ⊤) (λ v. refl) (λ v h. tt) (λ v h. (tt, tt))
    (rest_field version_at (λ v. letters ++ version_byte v) (λ v. ⊤ × ⊤)
    (rest_then {X = Nothing} {Y = Version} {Z = Nothing} (λ v. tt) (λ v. tt) (bytes_are letters) (λ x. letters) (λ x. ⊤) (λ x. version_byte_at) version_byte (λ v. ⊤) (bytes_are_field letters) last))
  where
    last : IsRest {X = Lettered} {Y = Version} (λ v. (tt, tt)) (λ x. version_byte_at) version_byte (λ v. ⊤)
    last = record {
      back = λ v legal. version_back v;
      spelled = λ x i j v bytes e. let h = version_byte_is_field.spelled i j v bytes e in (refl, (tt, h.stretch));
    }

-- a trailer

sum_is_field : (v : Version) → IsField (sum_at v) (λ t. t) (λ t. length t ≡ sum_size v)
sum_is_field v = record {
  read_back = λ t legal. subst (λ n. Back (bytes_at n) t t) legal (bytes_back t);
  spelled = λ i j t bytes e. let h = bytes_spelled (sum_size v) i j t e in record { legal = h.1; stretch = h.0 };
}

-- a file

abbrev Versioned : Type 0
Versioned = Nothing × Version

abbrev Read2 : Type 0
Read2 = Versioned × Parts

abbrev built : Read2 → List ℕ → FileParts
built x sum = record { version = x.0.1; parts = x.1; sum = sum }

abbrev sums_at : Read2 → Reader FileParts
sums_at x i = sum_at x.0.1 i >>= λ sum. Ok (built x sum.0, sum.1)

abbrev versioned_at : Versioned → Reader FileParts
versioned_at x i = fields_at i >>= λ s. sums_at (x, s.0) s.1

file_begun : IsField file_at spell_file (λ f. ⊤ × IsFieldFile f)
file_begun =
    rest_field file_at spell_file (λ f. ⊤ × IsFieldFile f)
    (rest_then {X = Nothing} {Y = FileParts} {Z = Version} (λ f. tt) (λ f. f.version) version_at (λ v. mark (number_of v)) (λ v. ⊤) versioned_at (λ f. fields f.parts ++ f.sum) IsFieldFile version_is_field
    (rest_then {X = Versioned} {Y = FileParts} {Z = Parts} (λ f. (tt, f.version)) (λ f. f.parts) fields_at fields AreFieldParts sums_at (λ f. f.sum) (λ f. length f.sum ≡ sum_size f.version) fields_are_field
    (rest_last {X = Read2} {Y = FileParts} {Z = List ℕ} (λ f. ((tt, f.version), f.parts)) (λ f. f.sum) (λ x. sum_at x.0.1) (λ t. t) (λ x t. length t ≡ sum_size x.0.1) built (λ f. refl) (λ x t. refl) (λ x t. refl) (λ x. sum_is_field x.0.1))))

-- a file is read back, and what is read is spelled so
pub file_is_field : IsField file_at spell_file IsFieldFile
file_is_field = same_field file_at spell_file spell_file (λ f. ⊤ × IsFieldFile f) IsFieldFile (λ f. refl) (λ f h. h.1) (λ f h. (tt, h)) file_begun
