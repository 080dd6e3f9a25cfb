use Rattle.std.proofs.Common.{Some, false, not, sym, ap, ◌∙◌, subst}
use Rattle.std.proofs.lemmas.Result.{IfOk-weaker}
use Rattle.std.specs.List.{All}
use Rattle.std.specs.Str.{IsCharBoundary}
use Rattle.yf_stream.specs.DocumentReaders.{IsMarker, closed, opened}
use Rattle.yf_stream.specs.DocumentSteps.{MarkedRead, at_dashes, at_dots, not_bare, without_dashes}
use Rattle.yf_stream.proofs.Reader.DocumentAnswers.{bare_of, documents_opened, no_directives_at, turned_true}
use Rattle.yf_stream.proofs.documents.Parts.read_next.Goals as goal
use Rattle.yf_chars.proofs.Tests.{turned_false}

pub returns-in-Some-DocumentEnd-clause-next : goal.returns-in-Some-DocumentEnd-clause-next
returns-in-Some-DocumentEnd-clause-next c = c.read_suffix.ensures.next

pub returns-in-Some-DocumentEnd-clause-parts : goal.returns-in-Some-DocumentEnd-clause-parts
returns-in-Some-DocumentEnd-clause-parts c = c.read_suffix.ensures.parts

pub returns-in-Some-DocumentEnd-clause-reads : goal.returns-in-Some-DocumentEnd-clause-reads
returns-in-Some-DocumentEnd-clause-reads c = λ l.
    let m = subst (λ z. IsMarker c.args.source.text.now c.args.cursor.at (Some z)) c.in-Some-DocumentEnd.field-0-is (subst (IsMarker c.args.source.text.now c.args.cursor.at) c.in-Some-DocumentEnd.is c.marker_at.ensures.marker) in
    IfOk-weaker _ _ _ (λ next s. at_dots m.0 m.1 s) c.read_suffix.ensures.reads

pub returns-in-Some-DocumentStart-clause-next : goal.returns-in-Some-DocumentStart-clause-next
returns-in-Some-DocumentStart-clause-next c = c.explicit_document.ensures.next

pub returns-in-Some-DocumentStart-clause-parts : goal.returns-in-Some-DocumentStart-clause-parts
returns-in-Some-DocumentStart-clause-parts c = c.explicit_document.ensures.parts

pub returns-in-Some-DocumentStart-clause-reads : goal.returns-in-Some-DocumentStart-clause-reads
returns-in-Some-DocumentStart-clause-reads c = λ l.
    let m = subst (λ z. IsMarker c.args.source.text.now c.args.cursor.at (Some z)) c.in-Some-DocumentStart.field-0-is (subst (IsMarker c.args.source.text.now c.args.cursor.at) c.in-Some-DocumentStart.is c.marker_at.ensures.marker) in
    let t = c.args.source.text.now in
    let i = c.args.cursor.at in
    let b = c.explicit_document.new.self in
    IfOk-weaker _ _ _
    (λ next r. at_dashes m.0 m.1 (subst (λ z. MarkedRead t i z (closed false (not c.args.cursor.may_be_bare) c.args.self.now) b next) c.new.ensures (subst (λ z. MarkedRead t i c.new.result z b next) c.in_ok-close-in-Some-DocumentStart.ensures.parts r)))
    (c.explicit_document.ensures.reads l)

pub returns-then-not-cursor-clause-reads : goal.returns-then-not-cursor-clause-reads
returns-then-not-cursor-clause-reads c = λ l.
    let m = subst (IsMarker c.args.source.text.now c.args.cursor.at) c.in-None.is c.marker_at.ensures.marker in
    not_bare m (turned_false c.args.cursor.may_be_bare c.if-not-cursor.true)

pub root_node-requires-clause-parts : goal.root_node-requires-clause-parts
root_node-requires-clause-parts c =
    let t = c.args.source.text.now in
    record {
      escapes = subst (All (IsCharBoundary t)) (sym c.in_ok-open.ensures.escapes) c.requires.parts.escapes;
      documents = documents_opened t c.args.self.now c.skip_whites-start.result false c.new-2.result c.in_ok-open.ensures.parts c.requires.parts.documents (no_directives_at t c.new-2.ensures);
    }

pub returns-clause-next : goal.returns-clause-next
returns-clause-next c = c.root_node.ensures.next

pub returns-clause-parts : goal.returns-clause-parts
returns-clause-parts c = c.root_node.ensures.parts

pub returns-clause-reads : goal.returns-clause-reads
returns-clause-reads c = λ l.
    let m = subst (IsMarker c.args.source.text.now c.args.cursor.at) c.in-None.is c.marker_at.ensures.marker in
    let bare = turned_true c.args.cursor.may_be_bare c.if-not-cursor.false in
    let added = c.in_ok-open.ensures.parts ∙ ap (λ z. opened c.skip_whites-start.result false z c.args.self.now) c.new-2.ensures in
    IfOk-weaker _ _ _
    (λ next r. without_dashes m bare c.if-is_char_at.ensures.cases (bare_of c.args.source.text.now c.skip_whites-start.ensures.whites.1 c.skip_whites-start.ensures.all added r))
    (c.root_node.ensures.reads l)
