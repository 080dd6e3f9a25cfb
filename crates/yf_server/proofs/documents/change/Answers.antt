use Rattle.std.proofs.Common.{◌≡◌, Some, ap, sym, subst, w64, true, ◌∙◌, refl}
use Rattle.std.specs.Prelude.{bytes_eq, int_lt, string_bytes}
use Rattle.std.proofs.lemmas.Int.{to_z-of_z}
use Rattle.std.proofs.lemmas.Slice.Eq.{bytes_eq-Decides}
use Rattle.yf_server.specs.declared.documents.Outcome.TheVariants.{Lost, ReversedRange}
use Rattle.yf_server.specs.Documents.{IsFirst}
use Rattle.yf_server.proofs.DocumentLemmas.{found_at, kept, made, put_first, too_old, unchanged, updates_to}
use Rattle.yf_server.proofs.documents.change.Goals as goal

pub returns-then-not-is_newer-clause-done : goal.returns-then-not-is_newer-clause-done
returns-then-not-is_newer-clause-done c =
    let xs = c.args.documents.now.items in
    let uri = c.args.uri.now in
    let first = subst (λ ys. IsFirst ys uri c.in-Some.at) c.as_slice.ensures.value c.in-Some.ensures in
    let found = found_at uri xs c.in-Some.at c.index-was.result.now first c.index-was.ensures in
    let old = too_old c.args.encoding _ c.index-was.result.now c.args.version c.args.changes.now found
    (ap (int_lt c.index-was.result.now.version) (sym (to_z-of_z w64 c.args.version c.ranges.version))
    ∙ sym c.is_newer.ensures ∙ c.if-not-is_newer.true) in
    updates_to xs xs uri _ _ old.0 (unchanged uri xs)

pub returns-then-not-is_newer-clause-outcome : goal.returns-then-not-is_newer-clause-outcome
returns-then-not-is_newer-clause-outcome c =
    let xs = c.args.documents.now.items in
    let uri = c.args.uri.now in
    let first = subst (λ ys. IsFirst ys uri c.in-Some.at) c.as_slice.ensures.value c.in-Some.ensures in
    let found = found_at uri xs c.in-Some.at c.index-was.result.now first c.index-was.ensures in
    let old = too_old c.args.encoding _ c.index-was.result.now c.args.version c.args.changes.now found
    (ap (int_lt c.index-was.result.now.version) (sym (to_z-of_z w64 c.args.version c.ranges.version))
    ∙ sym c.is_newer.ensures ∙ c.if-not-is_newer.true) in
    old.1

pub returns-in-Err-ReversedRange-clause-done : goal.returns-in-Err-ReversedRange-clause-done
returns-in-Err-ReversedRange-clause-done c =
    let xs = c.args.documents.now.items in
    let uri = c.args.uri.now in
    let first = subst (λ ys. IsFirst ys uri c.in-Some.at) c.as_slice.ensures.value c.in-Some.ensures in
    let found = found_at uri xs c.in-Some.at c.index-was.result.now first c.index-was.ensures in
    let turned = rw c.in-Err-ReversedRange.field-0-is at c.in-Err-ReversedRange.ensures.reversed in
    let back = kept c.args.encoding _ c.index-was.result.now c.args.version c.args.changes.now ReversedRange found
    (ap (int_lt c.index-was.result.now.version) (sym (to_z-of_z w64 c.args.version c.ranges.version))
    ∙ sym c.is_newer.ensures ∙ c.if-not-is_newer.false) (turned refl) in
    updates_to xs xs uri _ _ back.0 (unchanged uri xs)

pub returns-in-Err-ReversedRange-clause-outcome : goal.returns-in-Err-ReversedRange-clause-outcome
returns-in-Err-ReversedRange-clause-outcome c =
    let xs = c.args.documents.now.items in
    let uri = c.args.uri.now in
    let first = subst (λ ys. IsFirst ys uri c.in-Some.at) c.as_slice.ensures.value c.in-Some.ensures in
    let found = found_at uri xs c.in-Some.at c.index-was.result.now first c.index-was.ensures in
    let turned = rw c.in-Err-ReversedRange.field-0-is at c.in-Err-ReversedRange.ensures.reversed in
    let back = kept c.args.encoding _ c.index-was.result.now c.args.version c.args.changes.now ReversedRange found
    (ap (int_lt c.index-was.result.now.version) (sym (to_z-of_z w64 c.args.version c.ranges.version))
    ∙ sym c.is_newer.ensures ∙ c.if-not-is_newer.false) (turned refl) in
    back.1

pub returns-in-Err-Lost-clause-done : goal.returns-in-Err-Lost-clause-done
returns-in-Err-Lost-clause-done c =
    let xs = c.args.documents.now.items in
    let uri = c.args.uri.now in
    let first = subst (λ ys. IsFirst ys uri c.in-Some.at) c.as_slice.ensures.value c.in-Some.ensures in
    let found = found_at uri xs c.in-Some.at c.index-was.result.now first c.index-was.ensures in
    let turned = rw c.in-Err-Lost.field-0-is at c.in-Err-Lost.ensures.lost in
    let back = kept c.args.encoding _ c.index-was.result.now c.args.version c.args.changes.now Lost found
    (ap (int_lt c.index-was.result.now.version) (sym (to_z-of_z w64 c.args.version c.ranges.version))
    ∙ sym c.is_newer.ensures ∙ c.if-not-is_newer.false) (turned refl) in
    updates_to xs xs uri _ _ back.0 (unchanged uri xs)

pub returns-in-Err-Lost-clause-outcome : goal.returns-in-Err-Lost-clause-outcome
returns-in-Err-Lost-clause-outcome c =
    let xs = c.args.documents.now.items in
    let uri = c.args.uri.now in
    let first = subst (λ ys. IsFirst ys uri c.in-Some.at) c.as_slice.ensures.value c.in-Some.ensures in
    let found = found_at uri xs c.in-Some.at c.index-was.result.now first c.index-was.ensures in
    let turned = rw c.in-Err-Lost.field-0-is at c.in-Err-Lost.ensures.lost in
    let back = kept c.args.encoding _ c.index-was.result.now c.args.version c.args.changes.now Lost found
    (ap (int_lt c.index-was.result.now.version) (sym (to_z-of_z w64 c.args.version c.ranges.version))
    ∙ sym c.is_newer.ensures ∙ c.if-not-is_newer.false) (turned refl) in
    back.1

pub returns-clause-done : goal.returns-clause-done
returns-clause-done c =
    let xs = c.args.documents.now.items in
    let uri = c.args.uri.now in
    let first = subst (λ ys. IsFirst ys uri c.in-Some.at) c.as_slice.ensures.value c.in-Some.ensures in
    let found = found_at uri xs c.in-Some.at c.index-was.result.now first c.index-was.ensures in
    let new = made c.args.encoding _ c.index-was.result.now c.args.version c.args.changes.now c.in-Ok.document found
    (ap (int_lt c.index-was.result.now.version) (sym (to_z-of_z w64 c.args.version c.ranges.version))
    ∙ sym c.is_newer.ensures ∙ c.if-not-is_newer.false) c.in-Ok.ensures.done in
    let version = to_z-of_z w64 c.args.version c.ranges.version in
    let named : bytes_eq c.args.uri.now (string_bytes c.in_ok-uri.uri) ≡ true =
    (bytes_eq-Decides uri (string_bytes c.in_ok-uri.uri)).1 (sym c.in_ok-uri.ensures.ok) in
    rw version
    (updates_to xs _ uri _ _ new.0 (put_first uri xs c.in-Some.at
    (record { uri = c.in_ok-uri.uri; version = c.args.version; document = Some c.in-Ok.document }) first named))

pub returns-clause-outcome : goal.returns-clause-outcome
returns-clause-outcome c =
    let xs = c.args.documents.now.items in
    let uri = c.args.uri.now in
    let first = subst (λ ys. IsFirst ys uri c.in-Some.at) c.as_slice.ensures.value c.in-Some.ensures in
    let found = found_at uri xs c.in-Some.at c.index-was.result.now first c.index-was.ensures in
    let new = made c.args.encoding _ c.index-was.result.now c.args.version c.args.changes.now c.in-Ok.document found
    (ap (int_lt c.index-was.result.now.version) (sym (to_z-of_z w64 c.args.version c.ranges.version))
    ∙ sym c.is_newer.ensures ∙ c.if-not-is_newer.false) c.in-Ok.ensures.done in
    new.1
