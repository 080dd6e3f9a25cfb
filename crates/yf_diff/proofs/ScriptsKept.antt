-- The script that keeps all lines.
use Rattle.std.proofs.Common.{◌≡◌, true, ℕ, false, List, [], ◌∷◌, refl, ap, append-nil}
use Rattle.yf_diff.specs.Script.{Edit, kept, olds, news, has_change, in_order}
use Rattle.yf_diff.specs.Texts.{lines_of}
use Rattle.yf_diff.specs.Diff.{AddsDiff}

all_kept : List (List ℕ) → List Edit
all_kept [] = []
all_kept (line ∷ lines) = kept line ∷ all_kept lines

olds_kept : (lines : List (List ℕ)) → olds (all_kept lines) ≡ lines
unfolding all_kept
olds_kept [] = refl
olds_kept (line ∷ lines) = ap (λ z. line ∷ z) (olds_kept lines)

news_kept : (lines : List (List ℕ)) → news (all_kept lines) ≡ lines
unfolding all_kept
news_kept [] = refl
news_kept (line ∷ lines) = ap (λ z. line ∷ z) (news_kept lines)

none_changed : (lines : List (List ℕ)) → has_change (all_kept lines) ≡ false
unfolding all_kept
none_changed [] = refl
none_changed (line ∷ lines) = none_changed lines

kept_in_order : (lines : List (List ℕ)) → in_order (all_kept lines) ≡ true
unfolding all_kept
kept_in_order [] = refl
kept_in_order (line ∷ lines) = kept_in_order lines

-- nothing is written for equal texts
pub nothing_added : (old_name new_name old new before : List ℕ) → old ≡ new → AddsDiff old_name new_name old new before before
nothing_added old_name new_name old new before e = record {
  script = all_kept (lines_of old);
  olds = olds_kept (lines_of old);
  news = rw (← e) (news_kept (lines_of old));
  order = kept_in_order (lines_of old);
  written = rw none_changed (rw append-nil refl);
}
