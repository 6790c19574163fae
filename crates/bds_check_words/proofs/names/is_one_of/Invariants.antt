use Rattle.std.proofs.Common.{◌≡◌, drop, map}
use Rattle.std.specs.List.{list_any}
use Rattle.std.specs.Str.{bytes_eq}
use Rattle.bds_check_words.proofs.names.is_one_of.Given as goal

abbrev pub invariant-loop-other : goal.invariant-loop-other
invariant-loop-other l = list_any (λ w. bytes_eq l.word w) (map (λ w. w.now) (drop l.other-index l.words)) ≡ list_any (λ w. bytes_eq l.word w) (map (λ w. w.now) l.words)
