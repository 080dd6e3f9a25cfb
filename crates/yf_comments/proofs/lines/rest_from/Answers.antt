use Rattle.std.proofs.Common.{◌≡◌, ◌<◌, ⊎_elim, true, false, ap, ◌∙◌, sym, subst, arith}
use Rattle.yf_chars.specs.Chain.{Nowhere}
use Rattle.yf_chars.specs.Class.{is_white}
use Rattle.yf_chars.specs.Text.{code}
use Rattle.yf_chars.proofs.ChainLemmas.{chain_forward, one_functional}
use Rattle.yf_lines.specs.Basic.SeparateInLine.{by_whites}
use Rattle.yf_comments.specs.Comments.{BreakOrEnd}
use Rattle.yf_comments.proofs.RowLemmas.{separate_from, stuck_alone, no_separation}
use Rattle.yf_comments.proofs.SolidLemmas.{rest_bare}
use Rattle.yf_comments.proofs.lines.rest_from.Goals as goal

pub past_whites-requires-clause-separate : goal.past_whites-requires-clause-separate
past_whites-requires-clause-separate c =
    ⊎_elim (λ (e : c.args.starts ≡ true). separate_from c.requires.whites.1 (rw e at c.requires.starts))
    (λ (e : (c.args.starts ≡ false) × (c.args.at < c.args.place)). by_whites c.requires.whites.1 e.1)
    c.then-starts.either

pub returns-in-Some-clause-reads : goal.returns-in-Some-clause-reads
returns-in-Some-clause-reads c = rest_bare c.requires.whites.1 c.in-Some.ensures.reads

pub returns-in-None-clause-reads : goal.returns-in-None-clause-reads
returns-in-None-clause-reads c =
    let forward = chain_forward (one_functional c.args.s.now is_white) c.requires.whites.1 in
    let same : c.args.at ≡ c.args.place = omega arith in
    stuck_alone (λ h. no_separation (ap (λ v. is_white (code c.args.s.now v)) same ∙ c.requires.all) (rw c.if-starts.false at c.requires.starts))
    (subst (λ v. Nowhere (BreakOrEnd c.args.s.now v)) (sym same) c.in-None.ensures.reads)
