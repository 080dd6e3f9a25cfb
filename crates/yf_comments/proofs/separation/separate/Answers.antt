use Rattle.std.proofs.Common.{◌≡◌, ap, sym, ◌∙◌, subst, false}
use Rattle.yf_chars.specs.Chain.{Chosen, Nowhere}
use Rattle.yf_chars.specs.Class.{is_white}
use Rattle.yf_chars.specs.Text.{code}
use Rattle.yf_comments.specs.Comments.{BreakOrEnd, Separate}
use Rattle.yf_comments.proofs.SolidLemmas.{solid_chosen, solid_stuck}
use Rattle.yf_comments.proofs.separation.separate.Goals as goal

pub returns-in-Some-clause-reads : goal.returns-in-Some-clause-reads
returns-in-Some-clause-reads c =
    let t = c.args.s.now in
    let solid = c.is_solid_at.ensures in
    let is = c.if-not-is_solid_at.false in
    let same = c.in-Some.ensures.place in
    subst (λ v. Chosen (Separate t c.args.n c.args.ctx c.args.at) c.in-Some.end v) (sym c.new.ensures)
    (solid_chosen c.in-Some.ensures.reads (subst (λ v. is_white (code t v) ≡ false) (sym same) (solid.white is))
    (λ e. solid.sign is (ap (code t) (sym same) ∙ e)) (subst (λ v. Nowhere (BreakOrEnd t v)) (sym same) (solid.rest is)))

pub returns-in-None-clause-reads : goal.returns-in-None-clause-reads
returns-in-None-clause-reads c =
    let t = c.args.s.now in
    let solid = c.is_solid_at.ensures in
    let is = c.if-not-is_solid_at.false in
    let same = c.in-None.ensures.place in
    solid_stuck c.in-None.ensures.reads (subst (λ v. is_white (code t v) ≡ false) (sym same) (solid.white is))
    (λ e. solid.sign is (ap (code t) (sym same) ∙ e)) (subst (λ v. Nowhere (BreakOrEnd t v)) (sym same) (solid.rest is))
