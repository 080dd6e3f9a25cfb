use Rattle.std.proofs.Common.{◌≡◌, ◌∙◌, List, ℕ, subst, sym, true≢false}
use Rattle.std.proofs.lemmas.Result.{IfOk-weaker}
use Rattle.std.proofs.lemmas.Slice.Eq.{bytes_eq-Decides}
use Rattle.std.specs.Str.{IsUtf8}
use Rattle.yf_diff.specs.Texts.{lines_of}
use Rattle.yf_findings.specs.Changes.{AreCut, ChangesOf}
use Rattle.yf_findings.proofs.ChangeLemmas.{all_changes, hunks_cut, no_changes}
use Rattle.yf_parts.specs.Hunks.{Differ, origin}
use Rattle.yf_parts.specs.declared.hunks.Hunk.{Hunk}
use Rattle.yf_findings.proofs.changes.changes_between.Goals as goal

pub returns-then-eq : goal.returns-then-eq
returns-then-eq c =
    let same = (bytes_eq-Decides c.text-text.result.now c.args.formatted.now).0 (sym c.eq.ensures ∙ c.if-eq.true) in
    no_changes c.args.src.now.text c.args.formatted.now c.new.result.items (sym c.text-text.ensures ∙ same)
    c.new.ensures.items

-- the hunks between the texts
abbrev Between : List ℕ → List ℕ → List Hunk → Type 0
Between t u hunks = Differ hunks origin (lines_of t) (lines_of u)

pub changes_of-requires : goal.changes_of-requires
changes_of-requires c =
    let t = c.args.src.now.text in
    let u = c.args.formatted.now in
    let old = subst (λ z. Between z c.as_bytes-2.result.now c.in_ok-hunks.hunks.items)
    (c.as_bytes.ensures.value ∙ c.text-text.ensures) c.in_ok-hunks.ensures in
    let differ = subst (λ z. Between t z c.in_ok-hunks.hunks.items) c.as_bytes-2.ensures.value old in
    subst (AreCut t u) (sym c.as_slice.ensures.value)
    (hunks_cut t u (subst IsUtf8 c.text-text.ensures c.text-text.utf8) c.utf8.formatted differ)

pub returns : goal.returns
returns c =
    let t = c.args.src.now.text in
    let u = c.args.formatted.now in
    let old = subst (λ z. Between z c.as_bytes-2.result.now c.in_ok-hunks.hunks.items)
    (c.as_bytes.ensures.value ∙ c.text-text.ensures) c.in_ok-hunks.ensures in
    let differ = subst (λ z. Between t z c.in_ok-hunks.hunks.items) c.as_bytes-2.ensures.value old in
    let other : t ≡ u → ⊥ = λ e. true≢false (sym ((bytes_eq-Decides c.text-text.result.now u).1 (c.text-text.ensures
    ∙ e))
    ∙ (sym c.eq.ensures ∙ c.if-eq.false)) in
    IfOk-weaker c.changes_of.result _ _
    (λ cs made. all_changes t u cs.items other differ
    (subst (λ z. ChangesOf t u z cs.items) c.as_slice.ensures.value made)) c.changes_of.ensures
