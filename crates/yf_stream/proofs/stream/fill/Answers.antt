use Rattle.std.proofs.Common.{IfSome, ap, subst}
use Rattle.std.proofs.lemmas.Result.{IfOk-weaker}
use Rattle.yf_stream.specs.StreamDrafts.{drafted}
use Rattle.yf_stream.specs.MadeReadings.{NoBreach}
use Rattle.yf_stream.specs.RefusalPlaces.{RefusalAt}
use Rattle.yf_stream.specs.declared.stream.Draft.{Draft}
use Rattle.yf_stream.proofs.Reader.DerivedFaults.{lists_derived, not_derived_refusal, shape_of}
use Rattle.yf_stream.proofs.Reader.MadeReadings.{made_or, not_derived}
use Rattle.yf_stream.proofs.stream.fill.Goals as goal

pub note-requires-clause-parts : goal.note-requires-clause-parts
note-requires-clause-parts c = c.in_ok-refusal.ensures.parts

pub note-requires-clause-resolved : goal.note-requires-clause-resolved
note-requires-clause-resolved c = ap (λ (d : Draft). d.resolved) c.requires.nothing

pub note-requires-clause-notes : goal.note-requires-clause-notes
note-requires-clause-notes c = ap (λ (d : Draft). d.on_leaf_line) c.requires.nothing

pub returns-in-Some-clause-refusal : goal.returns-in-Some-clause-refusal
returns-in-Some-clause-refusal c = subst (λ z. IfSome z (λ refusal. RefusalAt c.args.text.now refusal)) c.in-Some.is c.in_ok-refusal.ensures.refusal

pub returns-in-Some-clause-made : goal.returns-in-Some-clause-made
returns-in-Some-clause-made c =
    not_derived c.args.text.now c.in-Some.refusal (subst (λ z. IfSome z (λ refusal. NoBreach refusal)) c.in-Some.is c.in_ok-refusal.ensures.underived)

pub returns-in-Some-clause-reads : goal.returns-in-Some-clause-reads
returns-in-Some-clause-reads c = λ l.
    not_derived_refusal c.args.text.now c.in-Some.refusal (shape_of c.args.text.now c.read_documents.new.parts (c.read_documents.ensures.derived l) c.in_ok-refusal.was c.in-Some.is)

pub returns-clause-made : goal.returns-clause-made
returns-clause-made c =
    IfOk-weaker _ _ _ (λ o n. made_or _ (drafted c.note.new.draft o) c.utf8.text c.in_ok-refusal.ensures.parts.documents c.in_ok-refusal.ensures.parts.escapes n) c.note.ensures.noted

pub returns-clause-reads : goal.returns-clause-reads
returns-clause-reads c = λ l.
    let s = shape_of c.args.text.now c.read_documents.new.parts (c.read_documents.ensures.derived l) c.in_ok-refusal.was c.in_default.is in
    IfOk-weaker _ _ _ (λ o n. lists_derived c.args.text.now _ (drafted c.note.new.draft o) c.utf8.text s c.in_ok-refusal.ensures.parts.documents c.in_ok-refusal.ensures.parts.escapes n) c.note.ensures.noted

pub returns-clause-refusal : goal.returns-clause-refusal
returns-clause-refusal c = c.note.ensures.refusal
