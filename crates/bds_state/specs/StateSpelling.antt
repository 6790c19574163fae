-- The bytes of a state in a file: one spelling for each state and each version of the format, with numbers big-endian.
use Rattle.std.specs.Prelude.{ℕ, List, [], ◌∷◌, ◌++◌}
use Rattle.bds_value.specs.declared.ids.Id.{Id}
use Rattle.bds_value.specs.declared.ids.Id.TheVariants as id
use Rattle.bds_value.specs.declared.ids.Status.{Status}
use Rattle.bds_value.specs.declared.ids.Status.TheVariants.{Ready, Waiting, Ended}
use Rattle.bds_value.specs.declared.value.Value.{Value}
use Rattle.bds_value.specs.Spelling.{u32_field, text_field, list_field, value_field}
use Rattle.bds_code.specs.UnitSpelling.{unit_field}
use Rattle.bds_code_frames.specs.declared.frame.Frame.{Frame}
use Rattle.bds_code_frames.specs.declared.thread.Thread.{Thread}
use Rattle.bds_rules.specs.RuleFields.{rules_field}
use Rattle.bds_state.specs.Parts.{Parts}
use Rattle.bds_tasks.specs.TaskFields.{tasks_field}
use Rattle.sha2.specs.Sha256.{sha256}

abbrev pub values_field : List Value → List ℕ
values_field = list_field value_field

-- a tag, and the number
abbrev pub id_field : Id → List ℕ
id_field (id.Task n) = 0 ∷ u32_field n
id_field (id.Thread n) = 1 ∷ u32_field n

-- a tag, and of a thread that waits the ids of what it waits for
abbrev pub status_field : Status → List ℕ
status_field Ready = 0 ∷ []
status_field (Waiting ids) = 1 ∷ list_field id_field ids
status_field Ended = 2 ∷ []

abbrev pub frame_field : Frame → List ℕ
frame_field f = u32_field f.function ++ (u32_field f.place ++ (values_field f.slots ++ values_field f.operands))

-- the oldest frame first
abbrev pub frames_field : List Frame → List ℕ
frames_field = list_field frame_field

abbrev pub thread_field : Thread → List ℕ
thread_field t = u32_field t.parent ++ (status_field t.status ++ (values_field t.globals ++ frames_field t.frames))

abbrev pub threads_field : List Thread → List ℕ
threads_field = list_field thread_field

-- the letters with which a file begins: B, D, S, C
abbrev pub letters : List ℕ
letters = 66 ∷ 68 ∷ 83 ∷ 67 ∷ []

-- how a file begins: the letters and the version of the format
abbrev pub mark : ℕ → List ℕ
mark version = letters ++ version ∷ []

-- the fields behind that; the field of the unit begins with the files and the types of the globals
abbrev pub fields : Parts → List ℕ
fields s = text_field s.path
    ++ (unit_field s.unit ++ (threads_field s.threads ++ (tasks_field s.tasks ++ rules_field s.rules)))

-- in version 1
abbrev pub spells1 : Parts → List ℕ
spells1 s = mark 1 ++ fields s

-- in version 2, up to its trailer
abbrev pub front2 : Parts → List ℕ
front2 s = mark 2 ++ fields s

-- in version 2: the trailer is the SHA-256 of all bytes before it
abbrev pub spells2 : Parts → List ℕ
spells2 s = front2 s ++ sha256 (front2 s)
