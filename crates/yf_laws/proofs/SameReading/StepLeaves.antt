-- Each comment of a formatted text has, in each reading of it, as many leaves before it as in the reading that was
-- formatted, and its text without the white space that ended it.
use Rattle.std.proofs.Common.{◌≡◌, ℕ, List, map, ap, ◌∙◌}
use Rattle.std.specs.Str.{IsUtf8}
use Rattle.yf_events.proofs.TreeLemmas.{trees_unique}
use Rattle.yf_events.specs.Reading.{leaves_before}
use Rattle.yf_events.specs.Tree.{DocumentTree}
use Rattle.yf_events.specs.declared.lists.Lists.{Lists}
use Rattle.yf_stream.specs.ReadingOf.{ReadingOf}
use Rattle.yf_forms.specs.declared.style.Style.{Style}
use Rattle.yf_laws.specs.Layouts.Decorated.{rows_of}
use Rattle.yf_laws.specs.Format.{IsFormatting}
use Rattle.yf_laws.specs.Preservation.CommentsPlaced.{columns_in}
use Rattle.yf_forms.specs.NormalForms.Normal.{normal_document, setting_of}
use Rattle.yf_laws.proofs.Derived.LayoutSteps.{steps_of, comments_of}
use Rattle.yf_laws.proofs.Trails.FormatTrails.{normal_trees}
use Rattle.yf_laws.proofs.SameReading.FoundAgain.{found_again, told_by}
use Rattle.yf_laws.proofs.SameReading.PrintSteps.{trimmed_by}
use Rattle.yf_laws.proofs.SameReading.SourceOffsets.{source_told}

-- the trees that are laid out are those of the normal form
pub laid_trees : {t : List ℕ} {s : Style} {u : List ℕ} (f : IsFormatting t s u) → f.writes.trees ≡ map (normal_document t (setting_of f.reading s)) f.is_normal.trees
laid_trees {t} {s} f =
    let n = normal_trees f in
    n.same ∙ ap (map (normal_document t (setting_of f.reading s))) (trees_unique f.reading n.trees f.is_normal.trees n.of_reading f.is_normal.of_reading)

-- the numbers for comments in a layout are those of the reading
pub comments_laid : {t u : List ℕ} {s : Style} → IsUtf8 t → (f : IsFormatting t s u)
    → comments_of 0 (steps_of (columns_in f) f.normal (rows_of f.normal s f.writes.trees)) ≡ trimmed_by (leaves_before f.reading) f.reading.comments
comments_laid {t} {u} {s} utf8 f =
    let trees : List DocumentTree = map (normal_document t (setting_of f.reading s)) f.is_normal.trees in
    ap (λ xs. comments_of 0 (steps_of (columns_in f) f.normal (rows_of f.normal s xs))) (laid_trees f)
    ∙ (ap (λ (m : Lists). comments_of 0 (steps_of (columns_in f) m (rows_of m s trees))) f.is_normal.is
    ∙ source_told (columns_in f) t s f.reading f.is_normal.trees utf8 f.reads f.is_normal.of_reading)

pub leaves_told : (t u : List ℕ) (s : Style) (q : Lists) → IsUtf8 t → (f : IsFormatting t s u) → ReadingOf u q
    → told_by (leaves_before q) q.comments ≡ trimmed_by (leaves_before f.reading) f.reading.comments
leaves_told t u s q utf8 f a = found_again t u s q utf8 f a ∙ comments_laid utf8 f
