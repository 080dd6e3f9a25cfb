use Rattle.std.proofs.Common.{sym, subst}
use Rattle.yf_print.specs.Passes.HeldBlocks.{IsSourced}
use Rattle.yf_print.proofs.Pass.HeldBlocks.{held_sources}
use Rattle.yf_print.proofs.Pass.HeldColumns.{among_is, left_open_all}
use Rattle.yf_print.proofs.open_blocks.OpenBlocks.column_at_end.Goals as goal

pub column_left-requires : goal.column_left-requires
column_left-requires c = subst IsSourced (sym c.as_slice.ensures.value) (held_sources c.self.inside.all.items c.self.inside.sourced.items c.self.invariant)

pub returns : goal.returns
returns c =
    among_is c.args.indent c.args.may_be_further c.args.next c.args.column c.args.self.now c.args.self.now c.in_ok-left.left
    (left_open_all c.args.indent c.args.may_be_further c.args.column c.self.view_is c.self.invariant c.as_slice.ensures.value c.in_ok-left.ensures) c.unwrap_or.ensures c.column_or.ensures
