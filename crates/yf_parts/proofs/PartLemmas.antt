-- The contract of a part, from the formattings of the part and of the text.
use Rattle.std.proofs.Common.{◌≡◌, ℕ, Bool, true, false, List, inl, refl, sym, ap, subst, ◌∙◌, arith}
use Rattle.std.specs.Prelude.{map}
use Rattle.std.proofs.lemmas.List.{length-map}
use Rattle.std.specs.String.{string_bytes}
use Rattle.yf_diff.specs.Texts.{lines_of}
use Rattle.yf_forms.specs.declared.style.Style.{Style}
use Rattle.yf_laws.specs.FormatPromises.{FormatKept}
use Rattle.yf_laws.specs.Formattings.{FormattingsHold, StandardTextsAreFormatted}
use Rattle.yf_laws.specs.Laws.{HasSameComments, HasSameContent}
use Rattle.yf_rules.specs.Headline.{Headline}
use Rattle.yf_parts.specs.Asked.{Covers, has_true, touched_by}
use Rattle.yf_parts.specs.Attempts.{IsContext, IsSearched, IsWhole}
use Rattle.yf_parts.specs.Hunks.{Differ, origin, spliced}
use Rattle.yf_parts.specs.PartKept.{PartKept}
use Rattle.yf_line_ranges.specs.declared.range.LineRange.{LineRange}
use Rattle.yf_parts.specs.Tries.{IsNarrowed, Tried, TryFails, around, counts_from, near_all}
use Rattle.yf_parts.specs.declared.candidates.Reach.{Reach}
use Rattle.yf_parts.specs.declared.hunks.Hunk.{Hunk}
use Rattle.yf_parts.specs.declared.search.Attempt.{Attempt}
use Rattle.yf_parts.specs.declared.search.PartContext.{PartContext}
use Rattle.yf_parts.proofs.SpliceLemmas.{all_applied, hunks_fit, none_applied}
use Rattle.yf_parts.proofs.TryLemmas.{all_mapped, near_covers, none_near}
use Rattle.yf_parts.proofs.AskedLemmas.{all_untouched, settled}

-- two texts with one formatting have equal content and comments
same_content : {t u v : List ℕ} {s : Style} → FormatKept t s u → FormatKept v s u → HasSameContent t v
same_content k l = λ r q a b. sym (l.content q k.accepted.0 b k.accepted.1) ∙ k.content r k.accepted.0 a k.accepted.1

same_comments : {t u v : List ℕ} {s : Style} → FormatKept t s u → FormatKept v s u → HasSameComments t v
same_comments k l = λ r q a b. sym (l.comments q k.accepted.0 b k.accepted.1) ∙ k.comments r k.accepted.0 a k.accepted.1

-- a formatting is its own formatting
pub own_formatting : StandardTextsAreFormatted → FormattingsHold → {t u : List ℕ} {s : Style} → Headline t s u
    → Headline u s u
own_formatting formatted laws {t} {u} {s} h =
    let some = formatted u s h.still_standard in
    let kept : FormatKept u s u = subst (λ z. FormatKept u s z) (h.kept.unchanged.only some.0 some.1.formats) some.1 in
    let holds = laws u u s h.still_standard.utf8 kept in
    record {
      within = h.fits;
      utf8 = h.still_standard.utf8;
      standard = holds.standard;
      reading = holds.reading;
      reads = holds.reads;
      nested = holds.nested;
      kept = kept;
      still_standard = holds.still_standard;
      mended = holds.mended;
      fits = h.fits;
    }

-- facts about the texts that were passed on hold of the texts
pub differ_of : {hunks : List Hunk} {t u old new : List ℕ} → old ≡ t → new ≡ u
    → Differ hunks origin (lines_of old) (lines_of new) → Differ hunks origin (lines_of t) (lines_of u)
differ_of {hunks} {t} {u} {old} {new} e f d = subst (λ z. Differ hunks origin (lines_of t) (lines_of z)) f
    (subst (λ z. Differ hunks origin (lines_of z) (lines_of new)) e d)

-- what was tried and narrowed
abbrev IsFound : List ℕ → Style → List ℕ → List Hunk → List Bool → ℕ → Reach → Type 0
IsFound t s u hunks flags radius reach =
    Tried (TryFails t s u hunks flags) radius × IsNarrowed (TryFails t s u hunks flags) radius reach

-- a reach without other hunks
pub not_narrowed : {Fails : Reach → Type 0} → IsNarrowed Fails 0 (around 0 0)
not_narrowed = record {
  within_before = omega arith;
  within_after = omega arith;
  before = inl refl;
  after = inl refl;
}

module _ {t u v : List ℕ} {s : Style} {asked : List LineRange} {hunks : List Hunk} {applied : List Bool} {reach : Reach}
    {radius : ℕ} (h : Headline t s u) (d : Differ hunks origin (lines_of t) (lines_of u))
    (chosen : applied ≡ near_all reach (map (touched_by asked) hunks) 0 (map (touched_by asked) hunks))
    (found : IsFound t s u hunks (map (touched_by asked) hunks) radius reach) where
  -- a text with some hunks applied that has the formatting of the text
  pub part_kept : v ≡ spliced t u hunks applied 0 → Headline v s u
      → (has_true (map (touched_by asked) hunks) ≡ false → v ≡ t) → PartKept t s asked hunks applied v
  part_kept made p none = record {
    formatted = u;
    of_text = h;
    differences = d;
    made = made;
    of_part = p;
    content = same_content h.kept p.kept;
    comments = same_comments h.kept p.kept;
    reach = reach;
    chosen = chosen;
    radius = radius;
    tried = found.0;
    narrowed = found.1;
    asked = settled asked hunks applied (subst (λ z. Covers (map (touched_by asked) hunks) z) (sym chosen)
        (near_covers reach (map (touched_by asked) hunks)));
    unchanged = λ untouched. none (all_untouched asked hunks untouched);
  }

  -- the text itself, if no hunk is touched
  pub text_kept : v ≡ t → has_true (map (touched_by asked) hunks) ≡ false → PartKept t s asked hunks applied v
  text_kept same off = part_kept
      (same ∙ none_applied t u d applied (ap has_true chosen
      ∙ none_near reach (map (touched_by asked) hunks) 0 (map (touched_by asked) hunks) off))
      (subst (λ z. Headline z s u) (sym same) h) (λ _. same)

-- a context for the hunks between a text and its formatting
module _ {t u : List ℕ} {s : Style} (asked : List LineRange) {hunks : List Hunk} (x : PartContext) (h : Headline t s u)
    (d : Differ hunks origin (lines_of t) (lines_of u)) (text : x.text.now ≡ t) (formatted : x.formatted.now ≡ u)
    (style : x.style.now ≡ s) (all : x.hunks.now ≡ hunks) (flags : x.flags.now ≡ map (touched_by asked) hunks) where
  pub context_of : x.counts.now ≡ counts_from 0 x.flags.now → IsContext x
  context_of counted = record {
    fits = rw (text, formatted, all) (hunks_fit t u d);
    count = rw (flags, all) (length-map hunks (touched_by asked));
    counts = counted;
  }

  pub whole_of : StandardTextsAreFormatted → FormattingsHold → IsWhole x
  whole_of every laws = record {
    formats = rw (formatted, style) (own_formatting every laws h);
    made = rw (text, formatted, all, flags)
        (all_applied t u d ∙ ap (λ z. spliced t u hunks z 0) (sym (all_mapped (touched_by asked) hunks)));
  }

  pub searched_kept : (attempt : Attempt) → has_true (map (touched_by asked) hunks) ≡ true → IsSearched x attempt
      → PartKept t s asked hunks attempt.applied.items (string_bytes attempt.text)
  searched_kept attempt on searched =
      let works = searched.works in
      let made : string_bytes attempt.text ≡ spliced t u hunks attempt.applied.items 0 =
      works.made ∙ rw (text, formatted, all) refl in
      let headline : Headline (string_bytes attempt.text) s u =
      subst (λ z. Headline (string_bytes attempt.text) z u) style
      (subst (λ z. Headline (string_bytes attempt.text) x.style.now z) formatted works.formats) in
      let found : IsFound t s u hunks (map (touched_by asked) hunks) searched.radius attempt.reach =
      subst (λ z. IsFound z s u hunks (map (touched_by asked) hunks) searched.radius attempt.reach) text
      (subst (λ z. IsFound x.text.now z u hunks (map (touched_by asked) hunks) searched.radius attempt.reach) style
      (subst (λ z. IsFound x.text.now x.style.now z hunks (map (touched_by asked) hunks) searched.radius attempt.reach)
      formatted
      (subst (λ z. IsFound x.text.now x.style.now x.formatted.now z (map (touched_by asked) hunks) searched.radius
      attempt.reach) all
      (subst (λ z. IsFound x.text.now x.style.now x.formatted.now x.hunks.now z searched.radius attempt.reach) flags
      (searched.tried, searched.narrowed))))) in
      part_kept h d (works.chosen ∙ ap (λ z. near_all attempt.reach z 0 z) flags) found made headline
      (λ off. absurd (let no = on in cc))
