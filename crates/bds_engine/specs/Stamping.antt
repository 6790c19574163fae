-- The stamps of files are asked for, one after the other: definitions for private contracts.
use Rattle.std.specs.Prelude.{◌≡◌, ℕ, List, [], ◌∷◌, ◌++◌, false, Option, Some, None, Result, Ok, Err, ◌⊎◌}
use Rattle.bds_value.specs.declared.listed.NoMemory.{NoMemory}
use Rattle.bds_value.specs.declared.value.Stamp.{Stamp}
use Rattle.bds_host.specs.declared.asks.Ask.TheVariants as ask
use Rattle.bds_host.specs.declared.asks.Reply.{Reply}
use Rattle.bds_host.specs.declared.asks.Reply.TheVariants as reply
use Rattle.bds_host.specs.Host.{Log, Answered, FoundNoRoom, is_fault}
use Rattle.bds_schedule.specs.Replies.{stamp_in}

-- a file's stamp was told
pub record Told (file : List ℕ) (before after : Log) (stamp : Stamp) : Type 0 where
  pub reply : Reply
  pub answered : Answered before after (ask.Stamp file) reply
  pub fine : is_fault reply ≡ false
  pub is : stamp ≡ stamp_in reply

-- it was, or the reply was a fault, or there was no memory
abbrev pub Tells : List ℕ → Log → Log → Result (Option Stamp) NoMemory → Type 0
Tells file before after (Ok (Some stamp)) = Told file before after stamp
Tells file before after (Ok None) = Answered before after (ask.Stamp file) reply.Fault
Tells file before after (Err e) = FoundNoRoom before after (ask.Stamp file)

-- the stamps of these files were told, in their order
pub data Stamped (before : Log) : List (List ℕ) → List Stamp → Log → Type 0 where
  none : Stamped before [] [] before
  more : (files : List (List ℕ)) (stamps : List Stamp) (log after : Log) (file : List ℕ) (stamp : Stamp) → Stamped before files stamps log → Told file log after stamp → Stamped before (files ++ file ∷ []) (stamps ++ stamp ∷ []) after

-- those of the first of these files were told, and the next reply was a fault
pub record StampFails (files : List (List ℕ)) (before after : Log) : Type 0 where
  pub done : List (List ℕ)
  pub file : List ℕ
  pub rest : List (List ℕ)
  pub stamps : List Stamp
  pub log : Log
  pub split : files ≡ done ++ file ∷ rest
  pub stamped : Stamped before done stamps log
  pub fault : Answered log after (ask.Stamp file) reply.Fault

-- those of the first were told, and there was no memory behind them, or for the next ask
pub record StampHalts (files : List (List ℕ)) (before after : Log) : Type 0 where
  pub done : List (List ℕ)
  pub rest : List (List ℕ)
  pub stamps : List Stamp
  pub log : Log
  pub split : files ≡ done ++ rest
  pub stamped : Stamped before done stamps log
  pub halts : (after ≡ log) ⊎ ((file : List ℕ) × ((more : List (List ℕ)) × (rest ≡ file ∷ more) × FoundNoRoom log after (ask.Stamp file)))

abbrev pub AreStamped : List (List ℕ) → Log → Log → Result (Option (List Stamp)) NoMemory → Type 0
AreStamped files before after (Ok (Some stamps)) = Stamped before files stamps after
AreStamped files before after (Ok None) = StampFails files before after
AreStamped files before after (Err e) = StampHalts files before after
