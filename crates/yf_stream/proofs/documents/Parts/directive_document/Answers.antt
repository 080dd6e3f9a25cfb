use Rattle.std.proofs.Common.{MatchResult, subst}
use Rattle.std.proofs.lemmas.Result.{IfOk-weaker}
use Rattle.yf_stream.specs.DirectiveReaders.{DirectivesEnd, DirectivesRead}
use Rattle.yf_stream.specs.DocumentSteps.{after_directives, no_dashes, no_directive}
use Rattle.yf_stream.proofs.documents.Parts.directive_document.Goals as goal

pub returns-then-has_dashes-clause-reads : goal.returns-then-has_dashes-clause-reads
returns-then-has_dashes-clause-reads c = λ l.
    let t = c.args.source.text.now in
    let i = c.args.cursor.at in
    let r = subst (λ z. MatchResult z (λ lines. DirectivesRead t i lines.end lines.directives c.args.self.now.part.comments c.read_directives.new.comments) (λ place. DirectivesEnd t i place))
    c.in-Ok.is c.in_ok-directives.ensures.reads in
    IfOk-weaker _ _ _ (λ next m. after_directives c.requires.bare c.requires.percent r c.if-has_dashes.ensures.marker.0 c.if-has_dashes.ensures.marker.1 m) (c.explicit_document.ensures.reads l)

pub returns-else-has_dashes-clause-reads : goal.returns-else-has_dashes-clause-reads
returns-else-has_dashes-clause-reads c = λ l.
    let t = c.args.source.text.now in
    let i = c.args.cursor.at in
    let r = subst (λ z. MatchResult z (λ lines. DirectivesRead t i lines.end lines.directives c.args.self.now.part.comments c.read_directives.new.comments) (λ place. DirectivesEnd t i place))
    c.in-Ok.is c.in_ok-directives.ensures.reads in
    no_dashes c.requires.percent r c.if-has_dashes.ensures.marker

pub returns-in-Err-clause-reads : goal.returns-in-Err-clause-reads
returns-in-Err-clause-reads c = λ l.
    let t = c.args.source.text.now in
    let i = c.args.cursor.at in
    let r = subst (λ z. MatchResult z (λ lines. DirectivesRead t i lines.end lines.directives c.args.self.now.part.comments c.read_directives.new.comments) (λ place. DirectivesEnd t i place))
    c.in-Err.is c.in_ok-directives.ensures.reads in
    no_directive c.requires.percent r
