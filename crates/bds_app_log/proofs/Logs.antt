-- No bytes are those of two logs.
use Rattle.std.proofs.Common.{◌≡◌, ◌∙◌, ℕ, List, [], ◌++◌, Result, Ok, Err, append-nil, ap, sym, length}
use Rattle.bds_value.specs.Reading.{forward, rest_of}
use Rattle.bds_value.specs.declared.faults.FieldFault.{FieldFault}
use Rattle.bds_value.specs.declared.value.Input.{Input}
use Rattle.bds_replay.specs.Loading.{IsLogOf, unread}
use Rattle.bds_replay.specs.Log.{log_at, log_field}
use Rattle.bds_replay.specs.declared.log.Log.{Log as ReplyLog}
use Rattle.bds_replay.proofs.Whole.{log_is_field}

read_of : (bytes : List ℕ) (l : ReplyLog) → IsLogOf bytes l
    → log_at (unread bytes) ≡ Ok (l, forward (length (log_field l)) (unread bytes))
read_of bytes l h =
    let stands : rest_of (unread bytes) ≡ log_field l ++ [] = sym h.spelled ∙ sym (append-nil (log_field l)) in
    log_is_field.read_back l h.legal (unread bytes) [] stands

abbrev first_of : Result (ReplyLog × Input) FieldFault → ReplyLog → ReplyLog
first_of (Ok p) other = p.0
first_of (Err fault) other = other

pub log_is_one : (bytes : List ℕ) (a b : ReplyLog) → IsLogOf bytes a → IsLogOf bytes b → a ≡ b
log_is_one bytes a b h k = ap (λ r. first_of r a) (sym (read_of bytes a h) ∙ read_of bytes b k)
