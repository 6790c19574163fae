use Rattle.std.proofs.Common.{◌≡◌, ◌+◌, length, ap, sym, ◌∙◌, arith}
use Rattle.std.specs.Option.{option_or}
use Rattle.bds_check_names.specs.Indexes.{place_if}
use Rattle.bds_gen_expr.specs.Indexes.{first_place}
use Rattle.bds_gen_expr.proofs.FirstPlaces.{first_push}
use Rattle.bds_gen_expr.proofs.first_names.FirstNames.push.Goals as goal

pub invariant_of-self-in-Ok : goal.invariant_of-self-in-Ok
invariant_of-self-in-Ok c =
    let names = c.self.inside.names in
    let place : c.len-place.result ≡ length names + 0 = omega (arith, c.len-place.ensures) in
    λ x. c.in-Ok.ensures.ok x ∙ ap (λ o. option_or o (place_if x c.in_ok-key.key.items c.len-place.result)) (c.self.invariant x)
    ∙ ap (λ k. option_or (first_place x names 0) (place_if x k c.len-place.result)) (c.in_ok-key.ensures.items ∙ c.as_slice.ensures)
    ∙ ap (λ n. option_or (first_place x names 0) (place_if x c.args.name n)) place ∙ sym (first_push x names c.args.name 0) ∙ ap (λ ys. first_place x ys 0) (sym c.in_ok-push.ensures.ok)
