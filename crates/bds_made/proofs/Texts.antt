-- The text that is made, as it is read: its lines one behind the other.
use Rattle.std.proofs.Common.{◌≡◌, ℕ, zero, suc, ◌+◌, ◌*◌, ◌%◌, ◌^◌, ◌≤◌, ◌<◌, Bool, true, false, List, [], ◌∷◌, ◌++◌}
use Rattle.std.proofs.Common.{length, Ok, refl, ap, sym, ◌∙◌, subst, arith, append_assoc, append-nil, length-append}
use Rattle.std.specs.Prelude.{◌==◌, not, codes, decimal, pos, ℤ}
use Rattle.std.specs.List.{flat_map, list_all, range_with_len}
use Rattle.std.proofs.lemmas.Fmt.{length-decimal-le}
use Rattle.bds_tree.specs.declared.lexing.RawToken.{RawToken}
use Rattle.bds_tree.specs.declared.token.Piece.TheVariants as piece
use Rattle.bds_tree.specs.declared.token.Word.TheVariants as w
use Rattle.bds_tree.specs.lexing.Bytes.{line_end, carriage_return}
use Rattle.bds_tree.specs.lexing.RawTokens.{raw_tokens, without_crs}
use Rattle.bds_tree.specs.lexing.Pieces.{plain_piece}
use Rattle.bds_tools.specs.Make.{make_text, task_line, task_lines}
use Rattle.bds_fmt.proofs.Clean.{clean_is, clean_plain, is_clean}
use Rattle.bds_fmt.proofs.Fronts.{AllPassing, all_append, all_weaker}
use Rattle.bds_made.proofs.Numerals.{is_quiet, quiet_is, AreQuiet, EndsDark, all_of, decimal_quiet, decimal_dark}
use Rattle.bds_made.proofs.Numerals.{behind_dark}
use Rattle.bds_made.proofs.Words.{OneDigit, one_digit, string_word, task_word, wait_word, println_word, outs_before}
use Rattle.bds_made.proofs.Words.{outs_line, outs_closed, cpus_name, open_square, close_square, open_round, close_round}
use Rattle.bds_made.proofs.Words.{comma_sign, from_sign, declare_sign, add_sign, outs_text, cat_pieces, cat_word}
use Rattle.bds_made.proofs.Readings.{raw, Reads, reads_end, reads_word, reads_space, reads_line, reads_text, reads_sys}

-- the two lines of a task, with its number and its processors in digits, and what is behind them
abbrev pub task_bytes : List ℕ → List ℕ → List ℕ → List ℕ
task_bytes d c rest =
    codes "task('o" ++ (d ++ (codes "' <- 'i" ++ (d ++ (codes "', cpus := " ++ (c ++ (codes ") sys sort i" ++ (d
    ++ (codes " > o" ++ (d ++ (codes "\nouts += 'o" ++ (d ++ (codes "'\n" ++ rest))))))))))))

abbrev pub tail_bytes : List ℕ
tail_bytes = codes "task('all' <- outs) sys cat $outs > all\nwait\nprintln \"$outs\"\n"

line_is : (d c rest : List ℕ)
    → (((((codes "task('o" ++ d) ++ (codes "' <- 'i" ++ d)) ++ (codes "', cpus := " ++ c)) ++ (codes ") sys sort i"
    ++ d)) ++ (codes " > o" ++ d)) ++ rest
    ≡ codes "task('o"
    ++ (d ++ (codes "' <- 'i"
    ++ (d ++ (codes "', cpus := " ++ (c ++ (codes ") sys sort i" ++ (d ++ (codes " > o" ++ (d ++ rest)))))))))
line_is d c rest =
    append_assoc (((outs ++ ins) ++ cpus) ++ sort) more rest
    ∙ append_assoc ((outs ++ ins) ++ cpus) sort (more ++ rest)
    ∙ append_assoc (outs ++ ins) cpus (sort ++ (more ++ rest))
    ∙ append_assoc outs ins (cpus ++ (sort ++ (more ++ rest)))
  where
    outs : List ℕ
    outs = codes "task('o" ++ d

    ins : List ℕ
    ins = codes "' <- 'i" ++ d

    cpus : List ℕ
    cpus = codes "', cpus := " ++ c

    sort : List ℕ
    sort = codes ") sys sort i" ++ d

    more : List ℕ
    more = codes " > o" ++ d

two_lines : (tl d rest : List ℕ)
    → ((tl ++ codes "\n") ++ ((((codes "outs += 'o" ++ d) ++ codes "'") ++ codes "\n") ++ [])) ++ rest
    ≡ tl ++ (codes "\nouts += 'o" ++ (d ++ (codes "'\n" ++ rest)))
two_lines tl d rest =
    append_assoc (tl ++ codes "\n") ((al ++ codes "\n") ++ []) rest
    ∙ ap (λ t. (tl ++ codes "\n") ++ t) (append_assoc (al ++ codes "\n") [] rest)
    ∙ ap (λ t. (tl ++ codes "\n") ++ t) (append_assoc al (codes "\n") rest)
    ∙ append_assoc tl (codes "\n") (al ++ (codes "\n" ++ rest))
    ∙ ap (λ t. tl ++ (codes "\nouts += 'o" ++ t)) (append_assoc d (codes "'") (codes "\n" ++ rest))
  where
    al : List ℕ
    al = (codes "outs += 'o" ++ d) ++ codes "'"

pub lines_are : (i : ℕ) (rest : List ℕ) → task_lines i ++ rest ≡ task_bytes (decimal i) (decimal (1 + i % 3)) rest
lines_are i rest =
    two_lines (task_line i) (decimal i) rest
    ∙ line_is (decimal i) (decimal (1 + i % 3)) (codes "\nouts += 'o" ++ (decimal i ++ (codes "'\n" ++ rest)))

-- Raw tokens

abbrev pub sort_text : List ℕ → List ℕ
sort_text d = codes "sort i" ++ (d ++ (codes " > o" ++ d))

abbrev pub out_text : List ℕ → List ℕ
out_text d = codes "o" ++ d

abbrev pub in_text : List ℕ → List ℕ
in_text d = codes "i" ++ d

-- behind the first word of a line
abbrev pub behind_outs : ℕ → List ℕ → List RawToken → List RawToken
behind_outs line d rest = raw false line w.AddAssign ∷ raw false line (w.Text (plain_piece (out_text d))) ∷ rest

abbrev pub add_raws : ℕ → List ℕ → List RawToken → List RawToken
add_raws line d rest = raw true line (w.Name (codes "outs")) ∷ behind_outs line d rest

abbrev pub behind_task_word : ℕ → List ℕ → ℤ → List RawToken → List RawToken
behind_task_word line d z rest =
    raw false line w.OpenRound ∷ raw false line (w.Text (plain_piece (out_text d)))
    ∷ raw false line w.From ∷ raw false line (w.Text (plain_piece (in_text d))) ∷ raw false line w.Comma
    ∷ raw false line (w.Name (codes "cpus")) ∷ raw false line w.Declare ∷ raw false line (w.Number z)
    ∷ raw false line w.CloseRound ∷ raw false line (w.Sys (plain_piece (sort_text d))) ∷ rest

abbrev pub task_raws : ℕ → List ℕ → ℤ → List RawToken → List RawToken
task_raws line d z rest = raw true line w.Task ∷ behind_task_word line d z rest

abbrev pub print_raws : ℕ → List RawToken
print_raws line = raw true line w.Println ∷ raw false line (w.Text (piece.Name (codes "outs") ∷ [])) ∷ []

abbrev pub wait_raws : ℕ → List RawToken
wait_raws line = raw true line w.Wait ∷ print_raws (line + 1)

abbrev pub behind_all_word : ℕ → List RawToken → List RawToken
behind_all_word line rest =
    raw false line w.OpenRound ∷ raw false line (w.Text (plain_piece (codes "all")))
    ∷ raw false line w.From ∷ raw false line (w.Name (codes "outs")) ∷ raw false line w.CloseRound
    ∷ raw false line (w.Sys cat_pieces) ∷ rest

abbrev pub tail_raws : ℕ → List RawToken
tail_raws line = raw true line w.Task ∷ behind_all_word line (wait_raws (line + 1))

-- so many tasks, from a number and a line on, and what is behind all
abbrev pub tasks_raws : ℕ → ℕ → ℕ → List RawToken
tasks_raws zero i line = tail_raws line
tasks_raws (suc k) i line =
    task_raws line (decimal i) (pos (1 + i % 3)) (add_raws (line + 1) (decimal i)
    (tasks_raws k (i + 1) ((line + 1) + 1)))

abbrev pub made_raws : ℕ → List RawToken
made_raws n =
    raw false 1 w.String ∷ raw false 1 w.OpenSquare ∷ raw false 1 w.CloseSquare ∷ raw false 1 (w.Name (codes "outs"))
    ∷ tasks_raws n 0 2

quiet_front : (front d : List ℕ) → AreQuiet front → AreQuiet d → AreQuiet (front ++ d)
quiet_front front d f h = all_append is_quiet front d f h

sort_quiet : (d : List ℕ) → AreQuiet d → AreQuiet (sort_text d)
sort_quiet d h =
    quiet_front (codes "sort i") (d ++ (codes " > o" ++ d)) (all_of is_quiet (codes "sort i") refl)
    (quiet_front d (codes " > o" ++ d) h (quiet_front (codes " > o") d (all_of is_quiet (codes " > o") refl) h))

sort_dark : (d : List ℕ) → EndsDark d → EndsDark (sort_text d)
sort_dark d e = behind_dark (codes "sort i") (d
    ++ (codes " > o" ++ d)) (behind_dark d (codes " > o" ++ d) (behind_dark (codes " > o") d e))

reads_add : (line : ℕ) (d rest : List ℕ) (raws : List RawToken) → AreQuiet d → Reads true (line + 1) rest raws
    → Reads true line (codes "outs += 'o" ++ (d ++ (codes "'\n" ++ rest))) (add_raws line d raws)
reads_add line d rest raws quiet behind =
    reads_word true line 111 (codes "uts") _ (w.Name (codes "outs")) _ (outs_before _) refl
    (reads_space line _ _
    (reads_word false line 43 (codes "=") _ w.AddAssign _ (add_sign _) refl
    (reads_space line _ _
    (reads_text line (out_text d) _ _ (quiet_front (codes "o") d (all_of is_quiet (codes "o") refl) quiet)
    (reads_line line _ _ behind)))))

reads_task : (line k : ℕ) (one : OneDigit k) (d rest : List ℕ) (raws : List RawToken) → AreQuiet d → EndsDark d
    → Reads true ((line + 1) + 1) rest raws
    → Reads true line (task_bytes d (one.byte ∷ []) rest) (task_raws line d (pos (1 + k)) (add_raws (line + 1) d raws))
reads_task line k one d rest raws quiet dark behind =
    reads_word true line 116 (codes "ask") _ w.Task _ (task_word _) refl
    (reads_word false line 40 [] _ w.OpenRound _ (open_round _) refl
    (reads_text line (out_text d) _ _ (quiet_front (codes "o") d (all_of is_quiet (codes "o") refl) quiet)
    (reads_space line _ _
    (reads_word false line 60 (codes "-") _ w.From _ (from_sign _) refl
    (reads_space line _ _
    (reads_text line (in_text d) _ _ (quiet_front (codes "i") d (all_of is_quiet (codes "i") refl) quiet)
    (reads_word false line 44 [] _ w.Comma _ (comma_sign _) refl
    (reads_space line _ _
    (reads_word false line 99 (codes "pus") _ (w.Name (codes "cpus")) _ (cpus_name _) refl
    (reads_space line _ _
    (reads_word false line 58 (codes "=") _ w.Declare _ (declare_sign _) refl
    (reads_space line _ _
    (reads_word false line one.byte [] _ (w.Number (pos (1 + k))) _ (one.reads _) (rw one.no_line refl)
    (reads_word false line 41 [] _ w.CloseRound _ (close_round _) refl
    (reads_space line _ _
    (subst (λ t. Reads false line (codes "sys sort i"
    ++ t) (raw false line (w.Sys (plain_piece (sort_text d))) ∷ add_raws (line + 1) d raws))
    (append_assoc d (codes " > o" ++ d) (line_end ∷ behind_line))
    (reads_sys line (sort_text d) behind_line (add_raws (line + 1) d raws) (sort_quiet d quiet) refl (sort_dark d dark)
    (reads_line line behind_line (add_raws (line + 1) d raws)
    (reads_add (line + 1) d rest raws quiet behind)))))))))))))))))))
  where
    behind_line : List ℕ
    behind_line = codes "outs += 'o" ++ (d ++ (codes "'\n" ++ rest))

reads_tail : (line : ℕ) → Reads true line tail_bytes (tail_raws line)
reads_tail line =
    reads_word true line 116 (codes "ask") _ w.Task _ (task_word _) refl
    (reads_word false line 40 [] _ w.OpenRound _ (open_round _) refl
    (reads_text line (codes "all") _ _ (all_of is_quiet (codes "all") refl)
    (reads_space line _ _
    (reads_word false line 60 (codes "-") _ w.From _ (from_sign _) refl
    (reads_space line _ _
    (reads_word false line 111 (codes "uts") _ (w.Name (codes "outs")) _ (outs_closed _) refl
    (reads_word false line 41 [] _ w.CloseRound _ (close_round _) refl
    (reads_space line _ _
    (reads_word false line 115 (codes "ys cat $outs > all") _ (w.Sys cat_pieces) _ (cat_word _) refl
    (reads_line line _ _
    (reads_word true (line + 1) 119 (codes "ait") _ w.Wait _ (wait_word _) refl
    (reads_line (line + 1) _ _
    (reads_word true ((line + 1) + 1) 112 (codes "rintln") _ w.Println _ (println_word _) refl
    (reads_space ((line + 1) + 1) _ _
    (reads_word false ((line + 1) + 1) 34 (codes "$outs\"") _ (w.Text (piece.Name (codes "outs") ∷ [])) _ (outs_text _)
    refl
    (reads_line ((line + 1) + 1) _ _ (reads_end true (((line + 1) + 1) + 1))))))))))))))))))

small : (i k : ℕ) → i + suc k ≤ 10000 → i < 2 ^ 64
small i k h = omega arith

reads_tasks : (k i line : ℕ) → i + k ≤ 10000
    → Reads true line (flat_map task_lines (range_with_len i k) ++ tail_bytes) (tasks_raws k i line)
reads_tasks zero i line h = reads_tail line
reads_tasks (suc k) i line h =
    subst (λ t. Reads true line t (tasks_raws (suc k) i line)) (sym is)
    (reads_task line (i % 3) one (decimal i) others (tasks_raws k (i + 1) ((line + 1) + 1))
    (decimal_quiet i (small i k h))
    (decimal_dark i (small i k h)) (reads_tasks k (i + 1) ((line + 1) + 1) (omega (arith, h))))
  where
    one : OneDigit (i % 3)
    one = one_digit (i % 3) (omega arith)

    others : List ℕ
    others = flat_map task_lines (range_with_len (i + 1) k) ++ tail_bytes

    is : flat_map task_lines (range_with_len i (suc k)) ++ tail_bytes ≡ task_bytes (decimal i) (one.byte ∷ []) others
    is =
        append_assoc (task_lines i) (flat_map task_lines (range_with_len (i + 1) k)) tail_bytes
        ∙ lines_are i others
        ∙ ap (λ c. task_bytes (decimal i) c others) one.written

reads_made : (n : ℕ) → n ≤ 10000 → Reads false 1 (make_text n) (made_raws n)
reads_made n h =
    reads_word false 1 115 (codes "tring") _ w.String _ (string_word _) refl
    (reads_word false 1 91 [] _ w.OpenSquare _ (open_square _) refl
    (reads_word false 1 93 [] _ w.CloseSquare _ (close_square _) refl
    (reads_space 1 _ _
    (reads_word false 1 111 (codes "uts") _ (w.Name (codes "outs")) _ (outs_line _) refl
    (reads_line 1 (flat_map task_lines (range_with_len 0 n)
    ++ tail_bytes) (tasks_raws n 0 2) (reads_tasks n 0 2 (omega (arith, h))))))))

pub made_is_read : (n : ℕ) → n ≤ 10000 → raw_tokens (make_text n) ≡ Ok (made_raws n)
unfolding raw_tokens
made_is_read n h = (reads_made n h).is (length (make_text n)) (omega arith)

-- No CR stands in the text

abbrev is_no_return : ℕ → Bool
is_no_return b = not (b == carriage_return)

abbrev NoReturns : List ℕ → Type 0
NoReturns bytes = AllPassing is_no_return bytes

quiet_no_return : (b : ℕ) → is_quiet b ≡ true → is_no_return b ≡ true
quiet_no_return b e = ap not (quiet_is b e).return

task_plain : (d c rest : List ℕ) → NoReturns d → NoReturns c → NoReturns rest → NoReturns (task_bytes d c rest)
task_plain d c rest hd hc h =
    front (codes "task('o") _ refl (all_append is_no_return d _ hd
    (front (codes "' <- 'i") _ refl (all_append is_no_return d _ hd
    (front (codes "', cpus := ") _ refl (all_append is_no_return c _ hc
    (front (codes ") sys sort i") _ refl (all_append is_no_return d _ hd
    (front (codes " > o") _ refl (all_append is_no_return d _ hd
    (front (codes "\nouts += 'o") _ refl (all_append is_no_return d _ hd (front (codes "'\n") rest refl h))))))))))))
  where
    front : (xs ys : List ℕ) → list_all is_no_return xs ≡ true → NoReturns ys → NoReturns (xs ++ ys)
    front xs ys e h = all_append is_no_return xs ys (all_of is_no_return xs e) h

plain_number : (n : ℕ) → n < 2 ^ 64 → NoReturns (decimal n)
plain_number n h = all_weaker is_quiet is_no_return (decimal n) quiet_no_return (decimal_quiet n h)

tasks_plain : (k i : ℕ) → i + k ≤ 10000 → NoReturns (flat_map task_lines (range_with_len i k) ++ tail_bytes)
tasks_plain zero i h = all_of is_no_return tail_bytes refl
tasks_plain (suc k) i h =
    subst NoReturns
    (sym (append_assoc (task_lines i) (flat_map task_lines (range_with_len (i + 1) k)) tail_bytes ∙ lines_are i others))
    (task_plain (decimal i) (decimal (1 + i % 3)) others (plain_number i (omega (arith, h)))
    (plain_number (1 + i % 3) (omega arith)) (tasks_plain k (i + 1) (omega (arith, h))))
  where
    others : List ℕ
    others = flat_map task_lines (range_with_len (i + 1) k) ++ tail_bytes

pub made_is_plain : (n : ℕ) → n ≤ 10000 → without_crs (make_text n) ≡ make_text n
made_is_plain n h =
    clean_is false (make_text n)
    (subst (λ t. is_clean false t ≡ true) (append-nil (make_text n)) (clean_plain (make_text n) plain [] refl))
  where
    plain : NoReturns (make_text n)
    plain =
        all_append is_no_return (codes "string[] outs\n") (flat_map task_lines (range_with_len 0 n) ++ tail_bytes)
        (all_of is_no_return (codes "string[] outs\n") refl) (tasks_plain n 0 (omega (arith, h)))

-- The text is short

both_short : (xs ys : List ℕ) (m n : ℕ) → length xs ≤ m → length ys ≤ n → length (xs ++ ys) ≤ m + n
both_short xs ys m n h k =
    let e : length (xs ++ ys) ≡ length xs + length ys = length-append xs ys in omega (arith, e, h, k)

task_short : (d c rest : List ℕ) (n : ℕ) → length d ≤ 4 → length c ≤ 4 → length rest ≤ n
    → length (task_bytes d c rest) ≤ 100 + n
task_short d c rest n hd hc h =
    let e : length (task_bytes d c rest) ≤ 8 + (4 + (8 + (4 +
    (12 + (4 + (12 + (4 + (4 + (4 + (12 + (4 + (2 + n)))))))))))) =
    both_short (codes "task('o") _ 8 _ (omega arith) (both_short d _ 4 _ hd
    (both_short (codes "' <- 'i") _ 8 _ (omega arith) (both_short d _ 4 _ hd
    (both_short (codes "', cpus := ") _ 12 _ (omega arith) (both_short c _ 4 _ hc
    (both_short (codes ") sys sort i") _ 12 _ (omega arith) (both_short d _ 4 _ hd
    (both_short (codes " > o") _ 4 _ (omega arith) (both_short d _ 4 _ hd
    (both_short (codes "\nouts += 'o") _ 12 _ (omega arith) (both_short d _ 4 _ hd
    (both_short (codes "'\n") rest 2 n (omega arith) h)))))))))))) in
    omega (arith, e)

short_number : (n : ℕ) → n < 10000 → length (decimal n) ≤ 4
short_number n h = length-decimal-le 4 n (omega arith) (omega (arith, h)) (omega (arith, h))

tasks_short : (k i : ℕ) → i + k ≤ 10000
    → length (flat_map task_lines (range_with_len i k) ++ tail_bytes) ≤ 100 * k + 100
tasks_short zero i h = omega arith
tasks_short (suc k) i h =
    subst (λ t. length t ≤ 100 * suc k + 100)
    (sym (append_assoc (task_lines i) (flat_map task_lines (range_with_len (i + 1) k)) tail_bytes ∙ lines_are i others))
    (let e = task_short (decimal i) (decimal (1 + i % 3)) others (100 * k + 100) (short_number i (omega (arith, h)))
    (short_number (1 + i % 3) (omega arith)) (tasks_short k (i + 1) (omega (arith, h))) in
    omega (arith, e))
  where
    others : List ℕ
    others = flat_map task_lines (range_with_len (i + 1) k) ++ tail_bytes

pub made_is_short : (n : ℕ) → n ≤ 10000 → length (make_text n) ≤ 1000200
made_is_short n h =
    let e = both_short (codes "string[] outs\n") (flat_map task_lines (range_with_len 0 n)
    ++ tail_bytes) 14 (100 * n + 100)
    (omega arith) (tasks_short n 0 (omega (arith, h))) in
    omega (arith, e, h)
