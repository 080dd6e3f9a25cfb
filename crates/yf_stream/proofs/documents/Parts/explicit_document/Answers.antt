use Rattle.std.proofs.Common.{true, MatchOption, IfSome, ◌+◌, ◌≤◌, sym, subst}
use Rattle.std.proofs.lemmas.Result.{IfOk-weaker}
use Rattle.std.specs.List.{All}
use Rattle.std.specs.Str.{IsCharBoundary}
use Rattle.yf_stream.specs.DocumentSteps.{NothingAt, SomethingBegins}
use Rattle.yf_stream.proofs.Reader.DocumentAnswers.{documents_opened, empty_next, empty_parts, later_next, marked_nothing, marked_of}
use Rattle.yf_stream.proofs.documents.Parts.explicit_document.Goals as goal

pub returns-in-Some-clause-reads : goal.returns-in-Some-clause-reads
returns-in-Some-clause-reads c = λ l.
    let t = c.args.source.text.now in
    let i = c.args.at + 3 in
    let n = subst (λ z. MatchOption z (SomethingBegins t i) (λ p. NothingAt t i p.end p.comments)) c.in-Some.is c.in_ok-line.ensures.reads in
    IfOk-weaker _ _ _ (λ next e. marked_nothing t next n c.in_ok-open.ensures.parts e) c.empty_document.ensures

pub returns-in-Some-clause-next : goal.returns-in-Some-clause-next
returns-in-Some-clause-next c =
    let t = c.args.source.text.now in
    let k = subst (λ z. IfSome z (λ p. IsCharBoundary t p.end)) c.in-Some.is c.in_ok-line.ensures.boundary in
    let l = subst (λ z. IfSome z (λ p. c.args.at + 3 ≤ p.end)) c.in-Some.is c.in_ok-line.ensures.order in
    IfOk-weaker _ _ _ (λ next e. empty_next t c.args.at _ _ _ next k l e) c.empty_document.ensures

pub returns-in-Some-clause-parts : goal.returns-in-Some-clause-parts
returns-in-Some-clause-parts c =
    let t = c.args.source.text.now in
    let here = documents_opened t c.args.self.now c.args.at true c.args.directives c.in_ok-open.ensures.parts c.requires.parts.documents c.requires.directives in
    let escapes = subst (All (IsCharBoundary t)) (sym c.in_ok-open.ensures.escapes) c.requires.parts.escapes in
    IfOk-weaker _ _ _ (λ next e. empty_parts t _ _ _ _ next escapes here e) c.empty_document.ensures

pub root_node-requires-clause-parts : goal.root_node-requires-clause-parts
root_node-requires-clause-parts c =
    let t = c.args.source.text.now in
    record {
      escapes = subst (All (IsCharBoundary t)) (sym c.in_ok-open.ensures.escapes) c.requires.parts.escapes;
      documents = documents_opened t c.args.self.now c.args.at true c.args.directives c.in_ok-open.ensures.parts c.requires.parts.documents c.requires.directives;
    }

pub returns-clause-reads : goal.returns-clause-reads
returns-clause-reads c = λ l.
    let t = c.args.source.text.now in
    let i = c.args.at + 3 in
    let s = subst (λ z. MatchOption z (SomethingBegins t i) (λ p. NothingAt t i p.end p.comments)) c.in_default.is c.in_ok-line.ensures.reads in
    IfOk-weaker _ _ _ (λ next r. marked_of t s c.in_ok-open.ensures.parts r) (c.root_node.ensures.reads l)

pub returns-clause-next : goal.returns-clause-next
returns-clause-next c = IfOk-weaker _ _ _ (λ next n. later_next c.args.source.text.now c.args.at next n) c.root_node.ensures.next
