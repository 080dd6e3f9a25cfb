use Rattle.std.proofs.Common.{◌∙◌, ap, sym}
use Rattle.yf_files.specs.Tree.{folder_of}
use Rattle.yf_files.proofs.RewriteLemmas.{beside, differs, rewritten, rewrote}
use Rattle.yf_files.proofs.rewriting.rewrite.Goals as goal

pub replace-requires-clause-beside : goal.replace-requires-clause-beside
replace-requires-clause-beside g c = ap folder_of (c.as_str-2.ensures.value ∙ c.in-Ok-new_name_of.ensures) ∙ beside c.args.file.now

pub returns-in-Ok-replace-clause-any_moment : goal.returns-in-Ok-replace-clause-any_moment
returns-in-Ok-replace-clause-any_moment g c told =
    let S = g.S.FileSystem in
    rewritten (g.F.Formatter.Formats c.args.formatter.now) (S.state c.args.files.now) (S.state c.read.new.self) (S.state c.replace.new.files)
    c.args.file.now _ c.in-Ok.bytes.items _ _ _ (g.met.S.FileSystem.sound c.args.files.now told) (c.read.ensures.stays told) (c.read.ensures.time told)
    (c.in-Ok.ensures.bytes told) c.as_slice.ensures.value c.in-Ok-format.ensures.formats (c.as_bytes-2.ensures.value ∙ c.as_str-3.ensures.value)
    (c.as_str-2.ensures.value ∙ c.in-Ok-new_name_of.ensures) (c.replace.ensures.any_moment told)

pub returns-in-Ok-replace-clause-rewrote : goal.returns-in-Ok-replace-clause-rewrote
returns-in-Ok-replace-clause-rewrote g c told =
    let S = g.S.FileSystem in
    rewrote (g.F.Formatter.Formats c.args.formatter.now) (S.state c.args.files.now) (S.state c.read.new.self) (S.state c.replace.new.files)
    c.args.file.now _ c.in-Ok.bytes.items _ _ _ (g.met.S.FileSystem.sound c.args.files.now told) (c.read.ensures.stays told) (c.read.ensures.time told)
    (c.in-Ok.ensures.bytes told) c.as_slice.ensures.value c.in-Ok-format.ensures.formats (c.as_bytes-2.ensures.value ∙ c.as_str-3.ensures.value)
    (c.as_str-2.ensures.value ∙ c.in-Ok-new_name_of.ensures) (λ one. differs c.as_bytes.result.now c.as_slice-2.result.now c.eq.result c.if-eq.false c.eq.ensures
    ((c.as_bytes.ensures.value ∙ c.as_str.ensures.value) ∙ sym (c.as_bytes-2.ensures.value ∙ c.as_str-3.ensures.value) ∙ one ∙ sym c.as_slice-2.ensures.value)) (c.in-Ok-replace.ensures.replaced told)

pub returns-clause-any_moment : goal.returns-clause-any_moment
returns-clause-any_moment g c told =
    let S = g.S.FileSystem in
    rewritten (g.F.Formatter.Formats c.args.formatter.now) (S.state c.args.files.now) (S.state c.read.new.self) (S.state c.replace.new.files)
    c.args.file.now _ c.in-Ok.bytes.items _ _ _ (g.met.S.FileSystem.sound c.args.files.now told) (c.read.ensures.stays told) (c.read.ensures.time told)
    (c.in-Ok.ensures.bytes told) c.as_slice.ensures.value c.in-Ok-format.ensures.formats (c.as_bytes-2.ensures.value ∙ c.as_str-3.ensures.value)
    (c.as_str-2.ensures.value ∙ c.in-Ok-new_name_of.ensures) (c.replace.ensures.any_moment told)
