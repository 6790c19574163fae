-- For private contracts alone: what pushes the index or key of a piece.
use Rattle.bds_tree.specs.declared.token.Index.{Index}
use Rattle.bds_tree.specs.declared.token.Index.TheVariants as index
use Rattle.bds_tree.specs.declared.token.KeyName.{KeyName}
use Rattle.bds_tree.specs.declared.token.KeyName.TheVariants as key_of
use Rattle.bds_code.specs.declared.instr.Instr.{Instr}
use Rattle.bds_code.specs.declared.instr.Instr.TheVariants.{PushInt, PushText}
use Rattle.bds_gen_expr.specs.declared.scope.Scope.{Scope}
use Rattle.bds_gen_expr.specs.Scope.{load}

abbrev pub index_push : Scope → Index → Instr
index_push sc (index.Number n) = PushInt n
index_push sc (index.Name x) = load sc x

abbrev pub key_push : Scope → KeyName → Instr
key_push sc (key_of.Text t) = PushText t
key_push sc (key_of.Name x) = load sc x
