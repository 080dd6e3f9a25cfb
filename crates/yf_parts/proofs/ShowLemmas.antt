-- Nothing is shown of two equal texts.
use Rattle.std.proofs.Common.{◌≡◌, ℕ, List, [], true, false, ap, refl, sym, subst}
use Rattle.std.specs.Prelude.{Option, Some, None, MatchOption}
use Rattle.yf_diff.specs.Diff.{AddsDiff}
use Rattle.yf_rules.proofs.Runs.CompareLemmas.{wrote_nothing}
use Rattle.yf_lines.specs.declared.fault.Fault.{Fault}
use Rattle.yf_lines.specs.declared.fault.Fault.TheVariants.{WriteFailed}
use Rattle.yf_lines.specs.declared.place.Position.{Position}
use Rattle.yf_rules.specs.Runs.ByteStream.{BreaksOff, ByteStream, Writes}
use Rattle.yf_rules.specs.Runs.Compare.{DiffersFirst, difference_line}
use Rattle.yf_rules.specs.Runs.Diffed.{is_same}
use Rattle.yf_parts.specs.Shown.{DiffFound, DiffShown, NotShown, PlaceBroke, PlaceShown}

pub no_place : (t v : List ℕ) (stream : ByteStream) (found : Option Position) → found ≡ None
    → MatchOption found (t ≡ v) (DiffersFirst t v) → PlaceShown t v stream stream true
no_place t v stream found none first = record {
  place = None;
  first = subst (λ (p : Option Position). MatchOption p (t ≡ v) (DiffersFirst t v)) none first;
  wrote = wrote_nothing stream;
  answer = refl;
}

-- The line with the position at which they differ was written, or a prefix of it.
module _ (t v : List ℕ) (before after : ByteStream) (found : Option Position) (place : Position) (is : found ≡ Some place)
    (first : MatchOption found (t ≡ v) (DiffersFirst t v)) where
  differs : DiffersFirst t v place
  differs = subst (λ (p : Option Position). MatchOption p (t ≡ v) (DiffersFirst t v)) is first

  pub some_place : Writes before after (difference_line place) → PlaceShown t v before after false
  some_place wrote = record { place = Some place; first = differs; wrote = wrote; answer = refl }

  pub place_broke : (fault : Fault) → (fault ≡ WriteFailed) × BreaksOff before after (difference_line place)
      → NotShown (PlaceBroke t v before after) before after fault
  place_broke fault broke = subst (λ (f : Fault). NotShown (PlaceBroke t v before after) before after f) (sym broke.0)
      (record { place = place; first = differs; broke = broke.1 })

pub no_diff : (name t v diff : List ℕ) (stream : ByteStream) → DiffFound name t v diff → diff ≡ []
    → DiffShown name t v stream stream true
no_diff name t v diff stream found none = record {
  diff = diff;
  found = found;
  wrote = subst (λ (text : List ℕ). Writes stream stream text) (sym none) (wrote_nothing stream);
  answer = sym (ap (λ (text : List ℕ). is_same text) none);
}

-- the diff of the texts that were passed on is that of the texts
pub diff_found : (said name t v diff : List ℕ) {old new before : List ℕ} → said ≡ name → old ≡ t → new ≡ v → before ≡ []
    → AddsDiff said said old new before diff → (diff ≡ before → old ≡ new) → (old ≡ new → diff ≡ before)
    → DiffFound name t v diff
diff_found said name t v diff {old} {new} {before} is e f none written told same =
    let found : DiffFound said old new diff = record {
      written = subst (λ (b : List ℕ). AddsDiff said said old new b diff) none written;
      told = subst (λ (b : List ℕ). diff ≡ b → old ≡ new) none told;
      none = subst (λ (b : List ℕ). old ≡ new → diff ≡ b) none same;
    } in
    subst (λ (n : List ℕ). DiffFound n t v diff) is
    (subst (λ (z : List ℕ). DiffFound said z v diff) e (subst (λ (z : List ℕ). DiffFound said old z diff) f found))
