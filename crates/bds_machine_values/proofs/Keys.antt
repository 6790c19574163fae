-- A pair that is put where the keys rise, and whether a key is there.
use Rattle.std.proofs.Common.{◌≡◌, ◌∙◌, ℕ, List, Bool, false, is_some, cond, Option, Some, None, Bor, refl, sym, ap}
use Rattle.std.specs.Option.{option_copied}
use Rattle.bds_value.proofs.KeyLaws.{rise-set_key, rise-insert_key}
use Rattle.bds_machine_values.specs.Literals.{with_pair}
use Rattle.bds_value.specs.Order.{KeysRise}
use Rattle.bds_value.specs.Path.{at_key, set_key, insert_key}
use Rattle.bds_value.specs.declared.value.Value.{Value}

-- a pair that is put keeps the keys rising
pub rise-with_pair : (ps : List (List ℕ × Value)) (p : List ℕ × Value) → KeysRise ps → KeysRise (with_pair ps p)
rise-with_pair ps p r = by_key (at_key p.0 ps) refl
  where
    by_key : (o : Option Value) → at_key p.0 ps ≡ o → KeysRise (cond (is_some (at_key p.0 ps)) (set_key p.0 p.1 ps) (insert_key p.0 p.1 ps))
    by_key (Some x) e = rw e (rise-set_key p.0 p.1 ps r)
    by_key None e = rw e (rise-insert_key p.0 p.1 ps e r)

-- whether a look finds a key
pub found : {X : Type 0} (o : Option (Bor X)) (a : Option X) (b : Bool) → b ≡ is_some o → option_copied o ≡ a → b ≡ is_some a
found None a b e h = e ∙ ap is_some h
found (Some x) a b e h = e ∙ ap is_some h

pub missing : {X : Type 0} (o : Option (Bor X)) (a : Option X) → false ≡ is_some o → option_copied o ≡ a → a ≡ None
missing None a e h = sym h
missing (Some x) a e h = absurd (cc)
