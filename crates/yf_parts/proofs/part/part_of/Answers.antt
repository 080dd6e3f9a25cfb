-- The text itself, or a text with some hunks applied.
use Rattle.std.proofs.Common.{◌≡◌, ◌∙◌, true, false, ap, refl, sym, rules}
use Rattle.std.specs.Prelude.{map}
use Rattle.yf_parts.specs.Asked.{has_true, touched_by}
use Rattle.yf_parts.specs.Tries.{around, counts_from, first_try, near_all}
use Rattle.yf_parts.proofs.PartLemmas.{context_of, differ_of, not_narrowed, searched_kept, text_kept, whole_of}
use Rattle.yf_parts.proofs.part.part_of.Goals as goal

pub returns-then-not-has_true : goal.returns-then-not-has_true
returns-then-not-has_true c =
    let d = differ_of c.as_bytes.ensures.value c.as_bytes-2.ensures.value c.in_ok-hunks.ensures in
    let flags = c.in_ok-flags.ensures ∙ ap (map (touched_by c.args.lines.now)) c.deref.ensures.value in
    let off : c.has_true.result ≡ false = search rules in
    let none : has_true (map (touched_by c.args.lines.now) c.in_ok-hunks.hunks.items) ≡ false =
    sym (ap has_true (c.deref-3.ensures.value ∙ flags)) ∙ (sym c.has_true.ensures ∙ off) in
    let chosen = c.in_ok-applied.ensures ∙ ap (λ z. near_all (around 0 0) z 0 z)
    (c.deref-then-not-has_true.ensures.value ∙ flags) in
    text_kept c.requires d chosen (first_try, not_narrowed) c.in_ok-text.ensures.ok none

pub searched-requires-clause-context : goal.searched-requires-clause-context
searched-requires-clause-context c =
    let d = differ_of c.as_bytes.ensures.value c.as_bytes-2.ensures.value c.in_ok-hunks.ensures in
    let flags = c.as_slice-set.ensures.value ∙ (c.in_ok-flags.ensures
    ∙ ap (map (touched_by c.args.lines.now)) c.deref.ensures.value) in
    let counted = c.as_slice-numbers.ensures.value ∙ (c.in_ok-counts.ensures
    ∙ ap (counts_from 0) (c.deref-2.ensures.value ∙ sym c.as_slice-set.ensures.value)) in
    context_of c.args.lines.now _ c.requires d refl refl refl c.as_slice-all.ensures.value flags counted

pub searched-requires-clause-whole : goal.searched-requires-clause-whole
searched-requires-clause-whole c =
    let d = differ_of c.as_bytes.ensures.value c.as_bytes-2.ensures.value c.in_ok-hunks.ensures in
    let flags = c.as_slice-set.ensures.value ∙ (c.in_ok-flags.ensures
    ∙ ap (map (touched_by c.args.lines.now)) c.deref.ensures.value) in
    whole_of c.args.lines.now _ c.requires d refl refl refl c.as_slice-all.ensures.value flags
    c.texts_are_read_and_formatted.ensures.formatted c.formattings_hold.ensures

pub searched-requires-clause-some : goal.searched-requires-clause-some
searched-requires-clause-some c =
    let on : c.has_true.result ≡ true = search rules in
    ap has_true (c.as_slice-set.ensures.value ∙ sym c.deref-3.ensures.value) ∙ (sym c.has_true.ensures ∙ on)

pub returns : goal.returns
returns c =
    let d = differ_of c.as_bytes.ensures.value c.as_bytes-2.ensures.value c.in_ok-hunks.ensures in
    let flags = c.in_ok-flags.ensures ∙ ap (map (touched_by c.args.lines.now)) c.deref.ensures.value in
    let on : c.has_true.result ≡ true = search rules in
    let some : has_true (map (touched_by c.args.lines.now) c.in_ok-hunks.hunks.items) ≡ true =
    sym (ap has_true (c.deref-3.ensures.value ∙ flags)) ∙ (sym c.has_true.ensures ∙ on) in
    searched_kept c.args.lines.now _ c.requires d refl refl refl c.as_slice-all.ensures.value
    (c.as_slice-set.ensures.value ∙ flags) c.in_ok-attempt.attempt some c.in_ok-attempt.ensures
