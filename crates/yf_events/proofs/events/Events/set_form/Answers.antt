use Rattle.std.proofs.Common.{◌≡◌, ap, ◌∙◌, subst}
use Rattle.std.proofs.lemmas.Result.{err_from_is_err_and}
use Rattle.yf_events.specs.EventForms.{LinesDropped, shape_formed}
use Rattle.yf_events.proofs.FormedRows.{formed_fits, formed_seen, number_fits, one_row}
use Rattle.yf_events.proofs.PackedRows.{grown_fits, grown_seen, rows_long}
use Rattle.yf_events.proofs.events.Events.set_form.Goals as goal

pub relined-requires : goal.relined-requires
relined-requires c = number_fits c.self.inside.more.items c.self.inside.rows.items _ c.args.i c.index-2.result.now c.self.view_is c.requires c.index-2.ensures c.self.invariant

pub invariant_of-self : goal.invariant_of-self
invariant_of-self c = grown_fits _ _ _ c.relined.ensures.grown c.self.invariant

pub returns-in_err-more : goal.returns-in_err-more
returns-in_err-more c =
    let p = err_from_is_err_and c.from_residual.result c.from_residual.ensures.1 in
    rw p.1 (grown_seen _ _ _ _ c.relined.ensures.grown c.self.invariant c.self.view_is)

shape_is : (c : goal.After-self-1) → c.formed-shape.result ≡ shape_formed c.args.flow c.args.style c.index_mut-row.result.now.shape
shape_is c =
    c.formed-shape.ensures
    ∙ ap (λ r. shape_formed c.args.flow c.args.style r.shape) (one_row c.self.inside.rows.items c.args.i c.index.result.now c.index_mut-row.result.now
    (rows_long _ _ _ _ c.self.view_is c.requires) c.index.ensures c.index_mut-row.ensures.value)

lines_are : (c : goal.After-self-1) → LinesDropped c.self.inside.more.items c.relined.new.list.items c.is_folded.result c.index_mut-row.result.now.more c.in_ok-more.more
lines_are c =
    subst (λ r. LinesDropped c.self.inside.more.items c.relined.new.list.items c.is_folded.result r.more c.in_ok-more.more)
    (one_row c.self.inside.rows.items c.args.i c.index-2.result.now c.index_mut-row.result.now (rows_long _ _ _ _ c.self.view_is c.requires) c.index-2.ensures
    c.index_mut-row.ensures.value) c.in_ok-more.ensures.relined

pub invariant_of-self-2 : goal.invariant_of-self-2
invariant_of-self-2 c =
    formed_fits c.self.inside.more.items _ c.self.inside.rows.items c.args.i c.index_mut-row.result.now _ _ c.is_folded.result c.relined.ensures.grown c.self.invariant (lines_are c)

pub returns : goal.returns
returns c =
    formed_seen c.self.inside.more.items _ c.args.flow c.args.style c.self.inside.rows.items _ c.args.i c.index_mut-row.result.now _ _ c.is_folded.result
    c.relined.ensures.grown c.self.invariant (lines_are c) (shape_is c) c.is_folded.ensures c.requires c.index_mut-row.ensures.value c.self.view_is
