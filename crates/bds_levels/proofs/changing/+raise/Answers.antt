use Rattle.std.proofs.Common.{rules, ◌≡◌, ◌<◌, ◌/◌, ◌∷◌, List, ℕ, length, slice_set, sym, subst}
use Rattle.bds_levels.specs.Least.{AreLong}
use Rattle.bds_levels.proofs.HalfLaws.{half_there, long_set, set_long}
use Rattle.bds_levels.proofs.changing.+raise.Goals as goal

pub raise-requires : goal.raise-requires
raise-requires t c =
    let over = c.args.at / 2 in
    let all : AreLong c.args.lower.now (c.in-Some.level.now ∷ c.in-Some.rest.now) = search rules in
    let value = c.pair_at.result in
    let new : c.as_slice.result.now ≡ slice_set c.in-Some.level.now over value = search rules in
    let there : over < length c.in-Some.level.now =
    subst (λ n. over < n) (sym all.0) (half_there c.args.lower.now c.args.at c.requires.there) in
    let still : over < length c.as_slice.result.now = subst (λ (xs : List ℕ). over < length xs) (sym new)
    (subst (λ n. over < n) (sym (set_long c.in-Some.level.now over value)) there) in (
      search rules,
      (
        still,
        subst (λ (xs : List ℕ). AreLong xs c.in-Some.rest.now) (sym new)
            (long_set c.in-Some.level.now c.in-Some.rest.now over value all.1),
      ),
    )
