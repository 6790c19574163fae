use Rattle.std.proofs.Common.{◌≡◌, ℕ, length, List, drop, ◌-◌, refl, sym, ap, ◌∙◌, subst, arith, Some, Err}
use Rattle.std.proofs.lemmas.Result.{err_from_is_err_and}
use Rattle.bds_tree.specs.declared.token.Token.{Token}
use Rattle.bds_tree.specs.Tree.{Tree}
use Rattle.bds_tree.specs.View.{tree_of}
use Rattle.bds_parse_expr.specs.declared.fault.ParseFault.{ParseFault}
use Rattle.bds_parse_expr.specs.declared.fault.ParseFault.TheVariants as fault
use Rattle.bds_parse_expr.specs.Gives.{FailsWith}
use Rattle.bds_parse_expr.specs.Reading.{expression}
use Rattle.bds_parse_expr.specs.Longest.{Longest, Returns}
use Rattle.bds_parse_expr.proofs.Theorem.{longest_read, none_read, rest_of, only_read, from}
use Rattle.bds_parse_expr.proofs.longest.read.Goals as goal

refused : (e : ParseFault) (ts us : List Token) → FailsWith e (expression 201 1 us) → us ≡ ts → (t : Tree) (rest whole : List Token) → Longest t ts rest → Returns t rest whole (Err e)
refused (fault.Syntax l) ts us f is t rest whole g = none_read ts (sym (ap (expression 201 1) is) ∙ f) t rest g
refused fault.NoMemory ts us f is t rest whole g = tt

pub returns-in_err-tall-clause-only : goal.returns-in_err-tall-clause-only
returns-in_err-tall-clause-only c t rest g =
    let ts = c.args.tokens.now in
    let p = err_from_is_err_and c.from_residual.result c.from_residual.ensures.1 in
    let is = from c.args.at c.min-from.result c.as_slice-all.result.now ts c.as_slice-all.ensures (omega (arith, c.min-from.ensures)) in
    rw (p.1, p.2) (refused _ (drop c.args.at ts) _ c.in_err-tall.ensures.gives is t rest ts g)

rest_after : (t : Tree) (all ts r rest : List Token) (at : ℕ) → all ≡ ts → r ≡ rest → Longest t (drop at ts) rest → drop (length all - length r) ts ≡ rest
rest_after t all ts r rest at is e g = ap (λ (u : List Token). drop (length u - length r) ts) is ∙ ap (λ (u : List Token). drop (length ts - length u) ts) e ∙ rest_of t ts rest at g

pub returns-clause-found : goal.returns-clause-found
returns-clause-found c =
    let ts = c.args.tokens.now in
    let us = drop c.args.at ts in
    let t = tree_of c.in_ok-tall.tall.expr in
    let rest = c.in_ok-tall.rest.now in
    let is = from c.args.at c.min-from.result c.as_slice-all.result.now ts c.as_slice-all.ensures (omega (arith, c.min-from.ensures)) in
    let read : expression 201 1 us ≡ Some (t, rest) = subst (λ u. expression 201 1 u ≡ Some (t, rest)) is c.in_ok-tall.ensures.gives in
    let l = longest_read t us rest read in
    subst (λ u. Longest t us u) (sym (rest_after t c.as_slice-all.result.now ts rest rest c.args.at c.as_slice-all.ensures refl l)) l

pub returns-clause-only : goal.returns-clause-only
returns-clause-only c t rest g =
    let ts = c.args.tokens.now in
    let s = tree_of c.in_ok-tall.tall.expr in
    let r = c.in_ok-tall.rest.now in
    let is = from c.args.at c.min-from.result c.as_slice-all.result.now ts c.as_slice-all.ensures (omega (arith, c.min-from.ensures)) in
    let same = only_read s t _ (drop c.args.at ts) r rest is c.in_ok-tall.ensures.gives g in
    (same.0, rest_after t c.as_slice-all.result.now ts r rest c.args.at c.as_slice-all.ensures same.1 g)
