-- Words that an earlier one took are passed over.
use Rattle.std.proofs.Common.{◌≡◌, ◌≤◌, ◌-◌, ℕ, zero, suc, List, [], ◌∷◌, take, drop, length, get_or, refl, ap, sym, ◌∙◌, arith}
use Rattle.std.proofs.lemmas.List.{take_all}
use Rattle.bds_check_names.specs.declared.names.Variable.{Variable}
use Rattle.bds_check_words.specs.declared.reading.Preset.{Preset}
use Rattle.bds_check_words.specs.Answers.{joined}
use Rattle.bds_check_words.specs.WordSettings.{words_behind, words_give}

pub taken-dropped : (globals : List Variable) (n : ℕ) (ws : List (List ℕ)) → words_behind globals n ws ≡ words_give globals (drop n ws)
taken-dropped globals zero [] = refl
taken-dropped globals (suc n) [] = refl
taken-dropped globals zero (w ∷ ws) = refl
taken-dropped globals (suc n) (w ∷ ws) = taken-dropped globals n ws

-- one word read, with those that it took
pub word-read : (globals : List Variable) (old new : Preset) (w : List ℕ) (rest behind left : List (List ℕ)) (n : ℕ) → 1 ≤ length rest → w ≡ get_or rest 0 w → behind ≡ take (length rest - 1) (drop 1 rest) →
    joined old (words_behind globals 0 (w ∷ behind)) ≡ joined new (words_behind globals n behind) → left ≡ drop n behind → joined old (words_give globals rest) ≡ joined new (words_give globals left)
word-read globals old new w [] behind left n some same cut step l = absurd (omega arith)
word-read globals old new w (r ∷ rs) behind left n some same cut step l =
    let m : length (r ∷ rs) - 1 ≡ length rs = omega arith in
    let all : behind ≡ rs = cut ∙ ap (λ (k : ℕ). take k rs) m ∙ take_all (length rs) rs (omega arith) in
    ap (λ (xs : List (List ℕ)). joined old (words_give globals xs)) (λ i. sym same i ∷ sym all i) ∙ step ∙ ap (joined new) (taken-dropped globals n behind ∙ ap (words_give globals) (sym l))
