use Rattle.std.proofs.Common.{◌≡◌, ◌∙◌, ap, subst, sym}
use Rattle.std.specs.Str.{IsUtf8}
use Rattle.percent_encoding.specs.Percent.{percent_decode}
use Rattle.yf_program.proofs.handling.decoded.Goals as goal

pub returns-in-Ok-Borrowed : goal.returns-in-Ok-Borrowed
returns-in-Ok-Borrowed c =
    let value = rw c.in-Ok-Borrowed.field-0-is at c.in-Ok-Borrowed.ensures.value in
    let e : c.in-Ok-Borrowed.part.now ≡ percent_decode c.args.encoded.now =
    value ∙ c.percent_decode.ensures.bytes ∙ ap percent_decode c.as_bytes.ensures.value in
    (e, subst IsUtf8 (sym value) c.in-Ok-Borrowed.ensures.ok_only_if_utf8)

pub returns-in-Ok-Owned : goal.returns-in-Ok-Owned
returns-in-Ok-Owned c =
    let value = rw c.in-Ok-Owned.field-0-is at c.in-Ok-Owned.ensures.value in
    let e : c.new.result ≡ percent_decode c.args.encoded.now =
    c.new.ensures ∙ value ∙ c.percent_decode.ensures.bytes ∙ ap percent_decode c.as_bytes.ensures.value in
    (e, subst IsUtf8 (sym (c.new.ensures ∙ value)) c.in-Ok-Owned.ensures.ok_only_if_utf8)

pub returns-in-Err-Utf8 : goal.returns-in-Err-Utf8
returns-in-Err-Utf8 c =
    let refused = rw c.in-Err-Utf8.field-0-is at c.in-Err-Utf8.ensures.utf8 in
    let e : percent_decode c.percent_decode.result.bytes.now ≡ percent_decode c.args.encoded.now =
    ap percent_decode (c.percent_decode.ensures.input ∙ c.as_bytes.ensures.value) in
    λ (u : IsUtf8 (percent_decode c.args.encoded.now)).
    let u' : IsUtf8 (percent_decode c.percent_decode.result.bytes.now) = subst IsUtf8 (sym e) u in
    let same = refused u' in
    let none : ⊥ = cc in
    none
