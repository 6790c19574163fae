use Rattle.std.proofs.Common.{◌≡◌, ◌∙◌, ap, sym, Ok, arith}
use Rattle.std.specs.List.{count_by}
use Rattle.bds_tree.specs.lexing.Bytes.{is_line_end}
use Rattle.bds_tree.specs.lexing.RawTokens.{lines_before}
use Rattle.bds_lex.specs.Writing.{tokens_with}
use Rattle.bds_lex.proofs.LexSteps.{IsRead-none, IsRead-more, IsRead-fails, IsRead-all}
use Rattle.bds_lex.proofs.lexer.tokens_in.Goals as goal

pub loop-rest-init : goal.loop-rest-init
loop-rest-init c = record {
  read = IsRead-none c.args.bytes.now (tokens_with c.begin-writer.result) c.begin-writer.ensures.value;
  fits = omega (arith, c.begin-writer.ensures.fits);
}

pub loop-rest-preserved : goal.loop-rest-preserved
loop-rest-preserved c =
    let lines : c.line_ends-lines.result ≡ lines_before c.loop-rest.rest.now c.in-Ok.next.now = c.line_ends-lines.ensures.value ∙ ap (count_by is_line_end) c.split_at.ensures.front in
    record {
      fits = omega (arith, c.loop-rest.invariant.fits, c.in-Ok.ensures.fits, c.in_ok-new_line-in-Ok.ensures.fits);
      read = rw (c.in_ok-new_line-in-Ok.ensures.new_line, lines)
          (IsRead-more c.args.bytes.now (tokens_with c.loop-rest.writer) (tokens_with c.put_lexeme.new.writer) c.loop-rest.new_line c.loop-rest.line c.loop-rest.rest.now c.in-Ok.next.now c.in-Ok.lexeme (omega arith) c.loop-rest.invariant.read c.in-Ok.ensures.value c.in-Ok.ensures.shorter
          (omega (arith, lines, c.line_ends-lines.ensures.within, c.split_at.ensures.front_len))
          c.in_ok-new_line-in-Ok.ensures.value);
    }

pub returns-in-Err-clause-value : goal.returns-in-Err-clause-value
returns-in-Err-clause-value c = rw c.at_line.ensures (IsRead-fails c.args.bytes.now (tokens_with c.loop-rest.writer) c.loop-rest.new_line c.loop-rest.line c.loop-rest.rest.now c.in-Err.flaw (omega arith) c.loop-rest.invariant.read c.in-Err.ensures.value)

pub returns-clause-value : goal.returns-clause-value
returns-clause-value c = IsRead-all c.args.bytes.now (tokens_with c.loop-rest.writer) c.loop-rest.new_line c.loop-rest.line c.loop-rest.rest.now (omega arith) c.loop-rest.invariant.read ∙ sym (ap Ok c.in_ok-finish.ensures.value)
