-- How far two texts are equal, and what the run that compares a text with its formatting has read and written.
use Rattle.std.proofs.Common.{◌≡◌, ◌≢◌, ◌∙◌, ℕ, [], true, ◌<◌, ◌≤◌, List, length, take, refl, ap, sym, subst, ⊎_elim, arith}
use Rattle.std.specs.Prelude.{Option, Some, None, IfSome, MatchOption}
use Rattle.std.proofs.Math.Seq.{take-length}
use Rattle.std.specs.Str.{IsUtf8}
use Rattle.std.proofs.lemmas.Str.{IsCharBoundary-start}
use Rattle.std.proofs.lemmas.Bool.{cases_lt}
use Rattle.std.proofs.KnownBytes.{Appends-nil}
use Rattle.yf_chars.specs.Text.{code, no_char}
use Rattle.yf_chars.proofs.TextLemmas.{code_at_boundary}
use Rattle.yf_lines.specs.declared.place.Position.{Position}
use Rattle.yf_laws.specs.Format.{IsFormatting}
use Rattle.yf_laws.specs.FormatPromises.{FormatKept}
use Rattle.yf_forms.specs.declared.style.Style.{Style}
use Rattle.yf_laws.specs.Mended.{IsMended}
use Rattle.yf_rules.specs.Headline.{Headline}
use Rattle.yf_rules.specs.Runs.ByteStream.{ByteStream, Writes}
use Rattle.yf_rules.specs.Runs.Compare.{CompareRun, DifferAt, Difference, DiffersFirst, IsClean, SameUpTo}
use Rattle.yf_rules.specs.Runs.Compare.DiffersFirst.{differs_first}
use Rattle.yf_rules.specs.Runs.Run.{FormattingGiven}
use Rattle.yf_rules.proofs.Runs.GivenTexts.{GivenText}

-- texts that are equal so far and both end there are equal
both_end : (t u : List ℕ) (at : ℕ) → SameUpTo t u at → at ≡ length t → at ≡ length u → t ≡ u
both_end t u at s e f = sym (subst (λ k. take k t ≡ t) (sym e) (take-length t)) ∙ (s.same ∙ subst (λ k. take k u ≡ u) (sym f) (take-length u))

-- at the end of the first text, the other one continues, or they are equal
pub ends_before : (t u : List ℕ) (at : ℕ) → IsUtf8 u → SameUpTo t u at → code t at ≡ no_char → at ≡ length t → t ≢ u → DifferAt t u at
ends_before t u at utf8 s none e other = record {
  before = s;
  differ = λ same. ⊎_elim
      (λ (h : at < length u). let below = code_at_boundary u at utf8 s.other_boundary h in omega (arith, below, same, none))
      (λ (h : length u ≤ at). other (both_end t u at s e (omega (arith, h, s.other_boundary.0))))
      (cases_lt at (length u));
}

-- at the beginning
pub at_start : (t u : List ℕ) → IsUtf8 t → IsUtf8 u → SameUpTo t u 0
at_start t u utf8 other = record { boundary = IsCharBoundary-start t utf8; other_boundary = IsCharBoundary-start u other; same = refl }

-- texts that differ at an offset are not equal
are_apart : {t u : List ℕ} {place : Position} → DiffersFirst t u place → t ≢ u
are_apart (differs_first {at = offset} d p) same = d.differ (ap (λ v. code v offset) same)

-- a text that equals its formatting is its own formatting, with all that is proved about it; and one that doesn't isn't
module _ {t u : List ℕ} {style : Style} (kept : FormatKept t style u) where
  pub own_formatting : t ≡ u → FormatKept t style t
  own_formatting same = subst (λ v. FormatKept t style v) (sym same) kept

  pub other_formatting : t ≢ u → IsFormatting t style t → ⊥
  other_formatting other formats = other (kept.only t formats)

  exactly : (place : Option Position) → MatchOption place (t ≡ u) (DiffersFirst t u) → MatchOption place (FormatKept t style t) (λ _. IsFormatting t style t → ⊥)
  exactly None same = own_formatting same
  exactly (Some place) differs = other_formatting (are_apart differs)

-- a text that is its own formatting has no fixable finding
mended_where : (t u : List ℕ) (style : Style) (place : Option Position) → MatchOption place (t ≡ u) (DiffersFirst t u) → IsMended u style
    → MatchOption place (IsMended t style) (λ _. Unit {0})
mended_where t u style None same m = subst (λ v. IsMended v style) (sym same) m
mended_where t u style (Some place) differs m = tt

-- the difference of a text that was read
pub difference_of : {style : Style} {known : Option (List ℕ)} {t u : List ℕ} → GivenText known t → Headline t style u → (place : Option Position)
    → MatchOption place (t ≡ u) (DiffersFirst t u) → Difference style known place
difference_of {style} {t = t} {u = u} given headline place first = record {
  formatted = u;
  rendered = record { text = t; gave = given.gave; headline = headline };
  first = first;
  exact = exactly headline.kept place first;
  mended = mended_where t u style place first headline.mended;
}

-- a formatted text has no fixable finding
pub own_is_clean : {style : Style} {known : Option (List ℕ)} {formatted : List ℕ} (rendered : FormattingGiven style known formatted) → rendered.text ≡ formatted
    → IfSome known (IsClean style)
own_is_clean {style} {known = None} rendered same = tt
own_is_clean {style} {known = Some text} rendered same = subst (λ v. IsMended v style) (sym same ∙ rendered.gave) rendered.headline.mended

pub same_is_clean : {style : Style} {known : Option (List ℕ)} → Difference style known None → IfSome known (IsClean style)
same_is_clean d = own_is_clean d.rendered d.first

-- nothing was written
pub wrote_nothing : (stream : ByteStream) → Writes stream stream []
wrote_nothing stream = record { appended = Appends-nil stream.contents; same = refl }

pub same_told : {style : Style} (input stream : ByteStream) → Difference style input.contents None → CompareRun style input stream stream true
same_told input stream d = record { place = None; difference = d; wrote = wrote_nothing stream; answer = refl }
