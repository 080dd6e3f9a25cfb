use Rattle.std.proofs.Common.{reverse, sym, ap, ◌∙◌, subst}
use Rattle.yf_print.specs.Layouts.CommentColumns.{at_margin, or_else}
use Rattle.yf_print.specs.Passes.HeldBlocks.{IsSourced}
use Rattle.yf_print.proofs.Pass.HeldBlocks.{held_sources}
use Rattle.yf_print.proofs.Pass.HeldColumns.{at_open}
use Rattle.yf_print.proofs.open_blocks.OpenBlocks.column_or.Goals as goal

pub column_at-requires : goal.column_at-requires
column_at-requires c = subst IsSourced (sym c.as_slice.ensures.value) (held_sources c.self.inside.all.items c.self.inside.sourced.items c.self.invariant)

pub returns-in-Some : goal.returns-in-Some
returns-in-Some c =
    ap (λ o. or_else o (at_margin c.args.column c.args.self.now c.args.other)) (sym c.in-Some.is ∙ at_open c.args.column c.self.view_is c.self.invariant c.as_slice.ensures.value c.column_at.ensures)

pub returns-in-None : goal.returns-in-None
returns-in-None c =
    c.margin_or.ensures
    ∙ (ap (λ z. at_margin c.args.column z c.args.other) (ap reverse c.as_slice-in-None.ensures.value ∙ c.self.view_is)
    ∙ ap (λ o. or_else o (at_margin c.args.column c.args.self.now c.args.other)) (sym c.in-None.is ∙ at_open c.args.column c.self.view_is c.self.invariant c.as_slice.ensures.value c.column_at.ensures))
