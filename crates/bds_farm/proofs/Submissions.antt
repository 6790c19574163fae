-- What a start asks inside.
use Rattle.std.proofs.Common.{◌≡◌, ◌∙◌, ℕ, List, [], ◌∷◌, ◌++◌, append-nil}
use Rattle.std.proofs.Common.{sym, subst, refl, inl, inr, Result, Ok, Err}
use Rattle.bds_value.specs.declared.listed.NoMemory.{NoMemory}
use Rattle.bds_host.specs.declared.asks.Ask.{Ask}
use Rattle.bds_host.specs.declared.asks.Ask.TheVariants.{Write, Sys, Start}
use Rattle.bds_host.specs.declared.asks.Reply.{Reply}
use Rattle.bds_host.specs.declared.asks.Reply.TheVariants.{Done, SysDone, Started, Fault, NoRoom}
use Rattle.bds_host.specs.Host.{Log, Answered, FoundNoRoom}
use Rattle.bds_host.proofs.Growing.{grew_twice}
use Rattle.bds_farm.specs.Farm.{FarmTurn, Queue, file_of, submit_text}
use Rattle.bds_farm.specs.Farming.{IsFront}
use Rattle.bds_farm.specs.Inside.{Enters, Inside, LostInside, TurnInside}

module _ (submit poll : List ℕ) (a : Ask) (q : Queue) (before after : Log) where
  -- nothing was asked of a turn
  pub nothing_lost : (r : Reply) (inside : Log) (q' : Queue) → FarmTurn submit poll q a r inside q' → after ≡ before
      → LostInside submit poll a q before after
  nothing_lost r inside q' turn same =
      record {
        asked = [];
        grown = same ∙ sym (append-nil before);
        begun = record { reply = r; inside = inside; after = q'; turn = turn; front = IsFront.none };
      }

  -- of a turn these asks were made, and one more
  pub one_lost : (front rest : Log) (ask : Ask) (reply other : Reply) (r : Reply) (q' : Queue)
      → FarmTurn submit poll q a r (front ++ (ask, other) ∷ rest) q' → after ≡ before ++ (front ++ (ask, reply) ∷ [])
      → LostInside submit poll a q before after
  one_lost front rest ask reply other r q' turn grown =
      record {
        asked = front ++ (ask, reply) ∷ [];
        grown = grown;
        begun = record {
          reply = r;
          inside = front ++ (ask, other) ∷ rest;
          after = q';
          turn = turn;
          front = IsFront.some front rest ask reply other refl;
        };
      }

  -- the first ask of a turn found no room
  pub room_lost : (rest : Log) (ask : Ask) (other : Reply) (r : Reply) (q' : Queue)
      → FarmTurn submit poll q a r ((ask, other) ∷ rest) q' → FoundNoRoom before after ask
      → LostInside submit poll a q before after
  room_lost rest ask other r q' turn (inl same) = nothing_lost r ((ask, other) ∷ rest) q' turn same
  room_lost rest ask other r q' turn (inr grown) = one_lost [] rest ask NoRoom other r q' turn grown

module _ (submit poll cmd : List ℕ) (task attempt : ℕ) (before mid after : Log) where
  pub start_ran : (code : ℕ) (q q' : Queue) (result : Result Reply NoMemory)
      → Answered before mid (Write (file_of task attempt) cmd) Done
      → (out : List ℕ) × Answered mid after (Sys (submit_text submit task attempt)) (SysDone code out)
      → Enters task attempt code q q' result → Inside submit poll (Start task attempt cmd) q q' before after result
  start_ran code q q' (Ok r) written (out, ran) (inl (r_is, code_is, q_is)) =
      let turn : FarmTurn submit poll q (Start task attempt cmd) Started
      ((Write (file_of task attempt) cmd, Done) ∷ (Sys (submit_text submit task attempt), SysDone code out) ∷
      []) q' =
      subst (λ x. FarmTurn submit poll q (Start task attempt cmd) Started
      ((Write (file_of task attempt) cmd, Done) ∷ (Sys (submit_text submit task attempt), SysDone x out) ∷ []) q')
      (sym code_is)
      (subst (λ x. FarmTurn submit poll q (Start task attempt cmd) Started
      ((Write (file_of task attempt) cmd, Done) ∷ (Sys (submit_text submit task attempt), SysDone 0 out) ∷ []) x)
      (sym q_is) (FarmTurn.submits task attempt cmd out)) in
      let all : TurnInside submit poll (Start task attempt cmd) q q' before after Started =
      record {
        inside = (Write (file_of task attempt) cmd, Done) ∷
            (Sys (submit_text submit task attempt), SysDone code out) ∷ [];
        grown =
            grew_twice before mid after _ _ written.grown ran.grown;
        turn = turn;
        fitting = refl;
        told = λ e. cc e;
      } in
      subst (λ x. TurnInside submit poll (Start task attempt cmd) q q' before after x) (sym r_is) all
  start_ran code q q' (Ok r) written (out, ran) (inr (r_is, other, q_is)) =
      let turn : FarmTurn submit poll q (Start task attempt cmd) Fault
      ((Write (file_of task attempt) cmd, Done) ∷ (Sys (submit_text submit task attempt), SysDone code out) ∷
      []) q' =
      subst (λ x. FarmTurn submit poll q (Start task attempt cmd) Fault
      ((Write (file_of task attempt) cmd, Done) ∷ (Sys (submit_text submit task attempt), SysDone code out) ∷
      []) x) (sym q_is) (FarmTurn.refused task attempt code cmd out other) in
      let all : TurnInside submit poll (Start task attempt cmd) q q' before after Fault =
      record {
        inside = (Write (file_of task attempt) cmd, Done) ∷
            (Sys (submit_text submit task attempt), SysDone code out) ∷ [];
        grown =
            grew_twice before mid after _ _ written.grown ran.grown;
        turn = turn;
        fitting = refl;
        told = λ e. cc e;
      } in
      subst (λ x. TurnInside submit poll (Start task attempt cmd) q q' before after x) (sym r_is) all
  start_ran code q q' (Err e) written (out, ran) h =
      one_lost submit poll (Start task attempt cmd) q before after ((Write (file_of task attempt) cmd, Done) ∷ []) []
      (Sys (submit_text submit task attempt)) (SysDone code out) Fault Fault q (FarmTurn.unasked task attempt cmd)
      (grew_twice before mid after _ _ written.grown ran.grown)

  pub start_faulted : (q : Queue) → Answered before mid (Write (file_of task attempt) cmd) Done
      → Answered mid after (Sys (submit_text submit task attempt)) Fault
      → TurnInside submit poll (Start task attempt cmd) q q before after Fault
  start_faulted q written ran =
      record {
        inside = (Write (file_of task attempt) cmd, Done) ∷ (Sys (submit_text submit task attempt), Fault) ∷ [];
        grown = grew_twice before mid after _ _ written.grown ran.grown;
        turn =
            FarmTurn.unasked task attempt cmd;
        fitting = refl;
        told = λ e. cc e;
      }

  pub start_lost : (q : Queue) → Answered before mid (Write (file_of task attempt) cmd) Done
      → FoundNoRoom mid after (Sys (submit_text submit task attempt))
      → LostInside submit poll (Start task attempt cmd) q before after
  start_lost q written (inl same) =
      one_lost submit poll (Start task attempt cmd) q before after [] [] (Write (file_of task attempt) cmd) Done Fault
      Fault q (FarmTurn.unwritten task attempt cmd) (same ∙ written.grown)
  start_lost q written (inr grown) =
      one_lost submit poll (Start task attempt cmd) q before after ((Write (file_of task attempt) cmd, Done) ∷ []) []
      (Sys (submit_text submit task attempt)) NoRoom Fault Fault q (FarmTurn.unasked task attempt cmd)
      (grew_twice before mid after _ _ written.grown grown)

pub unwritten_lost : (submit poll cmd : List ℕ) (task attempt : ℕ) (before after : Log) (q : Queue)
    → FoundNoRoom before after (Write (file_of task attempt) cmd)
    → LostInside submit poll (Start task attempt cmd) q before after
unwritten_lost submit poll cmd task attempt before after q found =
    room_lost submit poll (Start task attempt cmd) q before after [] (Write (file_of task attempt) cmd) Fault Fault q
    (FarmTurn.unwritten task attempt cmd) found

pub start_unwritten : (submit poll cmd : List ℕ) (task attempt : ℕ) (before after : Log) (q : Queue)
    → Answered before after (Write (file_of task attempt) cmd) Fault
    → TurnInside submit poll (Start task attempt cmd) q q before after Fault
start_unwritten submit poll cmd task attempt before after q written =
    record {
      inside = (Write (file_of task attempt) cmd, Fault) ∷ [];
      grown = written.grown;
      turn = FarmTurn.unwritten task attempt cmd;
      fitting = refl;
      told = λ e. cc e;
    }
